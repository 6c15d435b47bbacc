-- Dispatch functions whose targets have parameters of their own (nesC 1.3 Reference, 9): those of combine_fanout, where each target gets the
-- value of its parameter first, and one without a parameter gets none.
use Rattle.std.specs.Prelude.{ℕ, ◌+◌, Bool, false, ◌&&◌, not, nat_lt, if◌then◌else◌, List, [], ◌∷◌, ◌++◌, length, map, flat_map, Option, Some, None, is_some}
use Rattle.std.specs.List.{list_any, range_with_len}
use Rattle.nm_base.specs.declared.pos.Pos.{Pos}
use Rattle.nm_base.specs.declared.int_type.IntType.{IntType}
use Rattle.nesc_core.specs.Plain as core
use Rattle.nesc_core.specs.Plain.{Ty, int, Body, Expr, Stmt}
use Rattle.nesc_core.specs.View.{exprs, stmts}
use Rattle.elab_meaning.specs.Convert.{to_int, is_void}
use Rattle.combine_fanout.specs.Dispatch as plain
use Rattle.program_meaning.specs.Heads.{Form}
use Rattle.program_meaning.specs.Items.{Fact, First, nothing, given, passed_on, Reached, Target}

-- the parameters of the dispatch function: that of the element, and those of the item
abbrev pub own_parameter : Option IntType → List Ty
own_parameter None = []
own_parameter (Some t) = int t ∷ []

abbrev pub parameters : Form → List Ty
parameters f = own_parameter f.bracket ++ f.params

abbrev pub read_local : Pos → ℕ → Expr
read_local at k = core.read (core.local k) at

-- the parameter of the call as one of this type
abbrev pub passed : Pos → Option IntType → IntType → List Expr
passed at None t = []
passed at (Some own) t = to_int t own (read_local at 0) ∷ []

abbrev pub first_argument : Pos → Option IntType → First → List Expr
first_argument at own nothing = []
first_argument at own (given x) = core.const x.0 x.1 ∷ []
first_argument at own (passed_on t) = passed at own t

-- the parameters of the item, which stand behind that of the element
abbrev pub others : Pos → Form → List Expr
others at f = map (read_local at) (range_with_len (length (own_parameter f.bracket)) (length f.params))

abbrev pub called : Pos → Form → Target → Expr
called at f t = core.call t.body (exprs (first_argument at f.bracket t.first ++ others at f)) at

-- ---- the calls of each case, as combine_fanout has them; `gives` is what it makes of calls with results

module _ (at : Pos) (f : Form) (gives : List Expr → List Stmt) where
  abbrev pub calls : Reached → List Stmt
  calls c = if is_void f.result then map core.eval (map (called at f) c.targets) else gives (map (called at f) c.targets)

  abbrev pub closed : Reached → List Stmt
  closed c = calls c ++ (core.break ∷ [])

  abbrev pub starts : ℕ → List Reached → List core.Case
  starts n [] = []
  starts n (c ∷ rest) = record { value = plain.number c.value; start = n } ∷ starts (n + length (closed c)) rest

  abbrev pub by_parameter : List Reached → List Stmt
  by_parameter cases = core.switch (read_local at 0) (starts 0 cases) (stmts (flat_map closed cases)) ∷ []

  abbrev pub has_value : Reached → Bool
  has_value c = is_some c.value

  abbrev pub code : List Reached → List Stmt
  code cases = if list_any has_value cases then by_parameter cases else flat_map calls cases

abbrev pub gives_each : Form → (combine : Option ℕ) → Pos → List Expr → List Stmt
gives_each f combine at calls = plain.gives_each (plain.item (parameters f) f.result combine at) calls

abbrev pub result_local : Form → (combine : Option ℕ) → Pos → List Ty
result_local f combine at = plain.result_local (plain.item (parameters f) f.result combine at) f.result

abbrev pub dispatch : (name : List ℕ) → Form → (combine : Option ℕ) → Pos → List Reached → Body
dispatch name f combine at cases = record {
  name = name;
  params = length (parameters f);
  locals = parameters f ++ result_local f combine at;
  result = f.result;
  code = core.block (stmts (code at f (gives_each f combine at) cases));
  is_async = false;
  is_item = false;
}

-- ---- whether results are combined

abbrev pub has_two : Reached → Bool
has_two c = nat_lt 1 (length c.targets)

abbrev pub combines : Fact → Bool
combines x = not (is_void x.form.result) && list_any has_two x.cases
