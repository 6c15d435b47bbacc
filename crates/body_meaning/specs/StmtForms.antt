-- Forms of the worked rows of statements (own).
use Rattle.std.specs.Prelude.{◌≡◌, ℕ, true, false, List, [], ◌∷◌, codes, map, drop, Option, Some, None, Ok, Err}
use Rattle.nm_base.specs.declared.int_type.IntType.TheVariants.{I16}
use Rattle.nm_base.specs.declared.refusal.Refusal.{Refusal}
use Rattle.nesc_core.specs.Plain as core
use Rattle.nesc_core.specs.Plain.{Ty, Expr, int, void}
use Rattle.nesc_tree.specs.Plain as s
use Rattle.nesc_types.specs.Rule.{Rule, refuse}
use Rattle.elab_meaning.specs.Elab.{State}
use Rattle.elab_meaning.specs.RowForms.{at, world, values, start}
use Rattle.body_meaning.specs.Tree.{Init, Inits, one, many, no_inits, more_inits, Variable, variables, Stmt, Stmts, no_stmts, more_stmts, MaybeStmt, no_stmt, some_stmt}
use Rattle.body_meaning.specs.Tree as tree
use Rattle.body_meaning.specs.Stmts.{stmt}

-- ---- trees; a column is that of the first token, of a variable that of its name

abbrev pub list : List Stmt → Stmts
list [] = no_stmts
list (x ∷ xs) = more_stmts x (list xs)

abbrev pub block : List Stmt → Stmt
block xs = tree.block (list xs) (at 1)

abbrev pub eval : s.Expr → Stmt
eval e = tree.eval e (at 1)

abbrev pub plain : s.Base → s.TypeSpec
plain base = s.type_spec base 0 s.no_exprs false

abbrev pub const : s.Base → s.TypeSpec
const base = s.type_spec base 0 s.no_exprs true

abbrev pub inits : List Init → Inits
inits [] = no_inits
inits (i ∷ is) = more_inits i (inits is)

abbrev pub braces : List Init → Init
braces is = many (inits is)

abbrev pub var : List ℕ → (col : ℕ) → Option Init → Variable
var name col init = record { stars = 0; name = name; dims = s.no_exprs; init = init; at = at col }

abbrev pub of_length : s.Expr → Variable → Variable
of_length n v = record v { dims = s.more_exprs n s.no_exprs }

abbrev pub pointer_to : Variable → Variable
pointer_to v = record v { stars = 1 }

-- declared at a column
abbrev pub local : (col : ℕ) → s.TypeSpec → List Variable → Stmt
local col t vs = tree.local (variables t false vs) (at col)

-- ---- what statements of a function give that has a number: code, and the types of the locals made

abbrev pub code : List core.Stmt → core.Stmts
code [] = core.no_stmts
code (x ∷ xs) = core.more_stmts x (code xs)

abbrev pub blocked : List core.Stmt → core.Stmt
blocked xs = core.block (code xs)

pub record Outcome : Type 0 where
  pub code : core.Stmt
  pub made : List Ty

abbrev pub seen : Rule (core.Stmt × State) → Rule Outcome
seen (Ok x) = Ok (record { code = x.0; made = drop 11 x.1.locals })
seen (Err e) = Err e

abbrev pub outcome : (result : Ty) → Stmt → Rule Outcome
outcome result x = seen (stmt world values result x start)

pub record Row : Type 0 where
  pub stmt : Stmt
  pub gives : Outcome

abbrev pub making : Stmt → core.Stmt → List Ty → Row
making x y made = record { stmt = x; gives = record { code = y; made = made } }

abbrev pub gives : Stmt → core.Stmt → Row
gives x y = making x y []

abbrev pub AreWired : List Row → Type 0
AreWired rows = map (λ (r : Row). outcome (int I16) r.stmt) rows ≡ map (λ (r : Row). Ok r.gives) rows

pub record Stopped : Type 0 where
  pub stmt : Stmt
  pub refusal : Refusal

abbrev pub refused : Stmt → Refusal → Stopped
refused x r = record { stmt = x; refusal = r }

abbrev pub AreRefused : List Stopped → Type 0
AreRefused rows = map (λ (r : Stopped). outcome (int I16) r.stmt) rows ≡ map (λ (r : Stopped). refuse r.refusal) rows
