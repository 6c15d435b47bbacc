-- Forms of the worked rows: names in force, what an expression gives, and what refuses it (own).
use Rattle.std.specs.Prelude.{◌≡◌, ℕ, pos, ◌-ℤ◌, Bool, true, false, List, [], ◌∷◌, codes, map, drop, Option, Some, None, Ok, Err}
use Rattle.nm_base.specs.declared.pos.Pos.{Pos}
use Rattle.nm_base.specs.declared.int_type.IntType.{IntType}
use Rattle.nm_base.specs.declared.int_type.IntType.TheVariants.{I8, U8, I16, U16, I32, U32}
use Rattle.nm_base.specs.declared.refusal.Refusal.{Refusal}
use Rattle.nesc_core.specs.Plain as core
use Rattle.nesc_core.specs.Plain.{Ty, Expr, Exprs, void, int, pointer, array, struct, Field}
use Rattle.nesc_core.specs.Size.{layout}
use Rattle.nesc_tree.specs.declared.tree.InOp.{InOp}
use Rattle.nesc_tree.specs.declared.tree.PreOp.{PreOp}
use Rattle.nesc_tree.specs.declared.tree.PostOp.{PostOp}
use Rattle.nesc_tree.specs.Plain as s
use Rattle.nesc_types.specs.Constant.{pos_of}
use Rattle.nesc_types.specs.Rule.{Rule, refuse}
use Rattle.nesc_types.specs.Values.{Constant}
use Rattle.elab_meaning.specs.Scope.{Entry, Meaning, object, local, function, task, constant, type, Tag, Kind, a_struct, an_enum, Struct, Env, Item}
use Rattle.elab_meaning.specs.Elab.{State}
use Rattle.elab_meaning.specs.Convert.{Typed}
use Rattle.elab_meaning.specs.Wired.{value}

-- ---- trees; a column is that of the first token

abbrev pub at : (col : ℕ) → Pos
at col = record { file = 0; line = 1; col = col }

abbrev pub n : List ℕ → (col : ℕ) → s.Expr
n text col = s.number text (at col)

abbrev pub v : List ℕ → (col : ℕ) → s.Expr
v name col = s.name name (at col)

abbrev pub bin : InOp → s.Expr → s.Expr → s.Expr
bin o a b = s.binary o a b (pos_of a)

abbrev pub pre : PreOp → s.Expr → (col : ℕ) → s.Expr
pre o e col = s.unary o e (at col)

abbrev pub post : PostOp → s.Expr → s.Expr
post o e = s.postfix o e (pos_of e)

abbrev pub set : s.Expr → s.Expr → s.Expr
set a b = s.assign None a b (pos_of a)

abbrev pub update : InOp → s.Expr → s.Expr → s.Expr
update o a b = s.assign (Some o) a b (pos_of a)

abbrev pub choice : s.Expr → s.Expr → s.Expr → s.Expr
choice a b c = s.choice a b c (pos_of a)

abbrev pub comma : s.Expr → s.Expr → s.Expr
comma a b = s.comma a b (pos_of a)

abbrev pub at_index : s.Expr → s.Expr → s.Expr
at_index a i = s.index a i (pos_of a)

abbrev pub dot : s.Expr → List ℕ → s.Expr
dot e name = s.member e name (pos_of e)

abbrev pub arrow : s.Expr → List ℕ → s.Expr
arrow e name = s.arrow e name (pos_of e)

abbrev pub exprs : List s.Expr → s.Exprs
exprs [] = s.no_exprs
exprs (e ∷ es) = s.more_exprs e (exprs es)

abbrev pub fn : s.Expr → List s.Expr → s.Expr
fn f arguments = s.call_fn f (exprs arguments) (pos_of f)

-- a type with stars and no lengths
abbrev pub spec : s.Base → (stars : ℕ) → s.TypeSpec
spec base stars = s.type_spec base stars s.no_exprs false

-- ---- core trees

abbrev pub num : IntType → ℕ → Expr
num t x = core.const t (pos x)

abbrev pub minus : IntType → ℕ → Expr
minus t x = core.const t (pos 0 -ℤ pos x)

-- local k read at a column
abbrev pub rd : (k col : ℕ) → Expr
rd k col = core.read (core.local k) (at col)

abbrev pub core_exprs : List Expr → Exprs
core_exprs [] = core.no_exprs
core_exprs (e ∷ es) = core.more_exprs e (core_exprs es)

-- ---- names in force: locals 0 to 10 and objects 0 to 8

abbrev pub entry : List ℕ → Meaning → Entry
entry name m = record { name = name; meaning = m }

abbrev pub variable : List ℕ → ℕ → Ty → Entry
variable name k t = entry name (object k t false)

abbrev pub in_body : List ℕ → ℕ → Ty → Entry
in_body name k t = entry name (local k t false)

abbrev pub locals : List Ty
locals =
    int I8 ∷ int U8 ∷ int U8 ∷ int I16 ∷ int U16 ∷ int I32 ∷ int U32 ∷ pointer (int I16) ∷ pointer (int I16)
    ∷ int I16 ∷ array (int I16) 3 ∷ []

abbrev pub names : List Entry
names =
    entry (codes "uint8_t") (type (int U8) false)
    ∷ entry (codes "fixed_t") (type (int I16) true)
    ∷ entry (codes "ONE") (constant I16 (pos 1))
    ∷ entry (codes "fun") (function 3 (int I16 ∷ pointer (int I16) ∷ []) (int U8))
    ∷ entry (codes "nop") (function 4 [] void)
    ∷ entry (codes "tick") (task 2)
    ∷ variable (codes "x") 0 (int U16)
    ∷ variable (codes "v") 1 (array (int I16) 4)
    ∷ variable (codes "s") 2 (struct 0)
    ∷ variable (codes "t") 3 (struct 0)
    ∷ variable (codes "r") 4 (pointer (struct 0))
    ∷ variable (codes "h") 5 (array (struct 0) 2)
    ∷ variable (codes "g") 6 (array (array (int U8) 3) 2)
    ∷ entry (codes "n") (object 7 (array (int I16) 2) true)
    ∷ variable (codes "o") 8 (struct 1)
    ∷ in_body (codes "c") 0 (int I8)
    ∷ in_body (codes "a") 1 (int U8)
    ∷ in_body (codes "b") 2 (int U8)
    ∷ in_body (codes "i") 3 (int I16)
    ∷ in_body (codes "u") 4 (int U16)
    ∷ in_body (codes "l") 5 (int I32)
    ∷ in_body (codes "m") 6 (int U32)
    ∷ in_body (codes "p") 7 (pointer (int I16))
    ∷ in_body (codes "q") 8 (pointer (int I16))
    ∷ entry (codes "k") (local 9 (int I16) true)
    ∷ in_body (codes "w") 10 (array (int I16) 3)
    ∷ []

abbrev pub field : List ℕ → Ty → Field
field name t = record { name = name; ty = t }

-- struct 0 is { uint8_t f; int e[2]; const int d; }, and struct 1 has no fields
abbrev pub structs : List Struct
structs =
    record {
      fields = field (codes "f") (int U8) ∷ field (codes "e") (array (int I16) 2) ∷ field (codes "d") (int I16) ∷ [];
      consts = false ∷ false ∷ true ∷ [];
      layout = layout 8 2;
    }
    ∷ record { fields = []; consts = []; layout = layout 0 1 }
    ∷ []

abbrev pub tag : List ℕ → Kind → Tag
tag name kind = record { name = name; kind = kind }

-- the innermost scope begins with the last name, and has the tag F
abbrev pub start : State
start = record {
  names = names;
  tags = tag (codes "S") (a_struct 0) ∷ tag (codes "E") an_enum ∷ tag (codes "F") (a_struct 1) ∷ [];
  first_name = 25;
  first_tag = 2;
  structs = structs;
  locals = locals;
  taken = [];
  asked = [];
}

abbrev pub item : (element name : List ℕ) → Bool → Option IntType → List Ty → Ty → Option ℕ → Item
item element name is_signal parameter params result body =
    record { element = element; name = name; is_signal = is_signal; parameter = parameter; params = params; result = result; body = body }

-- I.go and T.start have one target, P has a parameter, and I.done has several targets
abbrev pub world : Env
world = record {
  instance = 6;
  uniques = record { at = at 1; number = 3 } ∷ record { at = at 5; number = 40000 } ∷ [];
  counts = record { text = codes "\"s\""; count = 7 } ∷ [];
  items =
      item (codes "I") (codes "go") false None (int I16 ∷ []) (int U8) (Some 9)
      ∷ item (codes "P") (codes "go") false (Some U8) (int I16 ∷ []) (int U8) None
      ∷ item (codes "I") (codes "done") true None [] void None
      ∷ item (codes "T") (codes "start") false None (int I16 ∷ []) void (Some 12)
      ∷ [];
  first_dispatch = 20;
}

-- T.start's target is of an element with a parameter, which a wire gives the value 2
abbrev pub values : List (Option Constant)
values = None ∷ None ∷ None ∷ Some (U8, pos 2) ∷ []

-- ---- what expressions give: a value, its type, the types of fresh locals, and the objects taken

pub record Outcome : Type 0 where
  pub expr : Expr
  pub ty : Ty
  pub made : List Ty
  pub taken : List ℕ

abbrev pub seen : Rule (Typed × State) → Rule Outcome
seen (Ok x) = Ok (record { expr = x.0.expr; ty = x.0.ty; made = drop 11 x.1.locals; taken = x.1.taken })
seen (Err e) = Err e

abbrev pub outcome : s.Expr → Rule Outcome
outcome e = seen (value world values e start)

pub record Row : Type 0 where
  pub expr : s.Expr
  pub gives : Outcome

abbrev pub making : s.Expr → Expr → Ty → (made : List Ty) → Row
making e x t made = record { expr = e; gives = record { expr = x; ty = t; made = made; taken = [] } }

abbrev pub taking : s.Expr → Expr → Ty → (taken : List ℕ) → Row
taking e x t taken = record { expr = e; gives = record { expr = x; ty = t; made = []; taken = taken } }

abbrev pub gives : s.Expr → Expr → Ty → Row
gives e x t = making e x t []

abbrev pub AreWired : List Row → Type 0
AreWired rows = map (λ (r : Row). outcome r.expr) rows ≡ map (λ (r : Row). Ok r.gives) rows

pub record Stopped : Type 0 where
  pub expr : s.Expr
  pub refusal : Refusal

abbrev pub refused : s.Expr → Refusal → Stopped
refused e r = record { expr = e; refusal = r }

abbrev pub AreRefused : List Stopped → Type 0
AreRefused rows = map (λ (r : Stopped). outcome r.expr) rows ≡ map (λ (r : Stopped). refuse r.refusal) rows
