-- The body of a dispatch function by what its calls have in common (own); by that of a form it is the one of program_meaning's Dispatch.
use Rattle.std.specs.Prelude.{ℕ, ◌+◌, Bool, false, if◌then◌else◌, ◌&&◌, not, nat_lt, List, [], ◌∷◌, ◌++◌, length, map, flat_map, Option, None, Some, is_some}
use Rattle.std.specs.List.{list_any, range_with_len}
use Rattle.nm_base.specs.declared.pos.Pos.{Pos}
use Rattle.nesc_core.specs.Plain as core
use Rattle.nesc_core.specs.Plain.{Body, Ty, Expr, Stmt}
use Rattle.nesc_core.specs.View.{exprs, stmts}
use Rattle.combine_fanout.specs.Dispatch.{number}
use Rattle.elab_facts.specs.declared.targets.Reached.{Reached}
use Rattle.elab_facts.specs.declared.targets.Target.{Target}
use Rattle.elab_facts.specs.View.{first_of}
use Rattle.elab_meaning.specs.Convert.{is_void}
use Rattle.program_meaning.specs.Dispatch.{first_argument, own_parameter, read_local}
use Rattle.program_meaning.specs.Heads.{Form}
use Rattle.elab_dispatch.specs.declared.calling.Calling.{Calling}

-- what the calls of an item of this form have in common
abbrev pub calling_of : Form → (combine : Option ℕ) → Pos → Calling
calling_of f combine at = record {
  own = f.bracket;
  others = length f.params;
  params = length (own_parameter f.bracket) + length f.params;
  is_void = is_void f.result;
  combine = combine;
  at = at;
}

abbrev pub result_local : Calling → Ty → List Ty
result_local i gives = if is_some i.combine && not i.is_void then gives ∷ [] else []

-- ---- the calls

abbrev pub others : Calling → List Expr
others i = map (read_local i.at) (range_with_len (length (own_parameter i.own)) i.others)

abbrev pub called : Calling → Target → Expr
called i t = core.call t.body (exprs (first_argument i.at i.own (first_of t.first) ++ others i)) i.at

-- the result so far stands in the local behind the parameters; where no function combines, the later result stands
abbrev pub kept : Calling → Expr → Stmt
kept i e = elim i.combine as (λ _. Stmt) [ None ↦ core.eval e | Some f ↦ core.eval (core.assign (core.local (i.params)) e i.at) ]

abbrev pub combined : Calling → Expr → Expr
combined i e = elim i.combine as (λ _. Expr) [ None ↦ e | Some f ↦ core.call f (exprs (core.read (core.local (i.params)) i.at ∷ e ∷ [])) i.at ]

abbrev pub gives_behind : Calling → Expr → List Expr → List Stmt
gives_behind i e [] = core.return (Some e) ∷ []
gives_behind i e (d ∷ rest) = kept i e ∷ gives_behind i (combined i d) rest

abbrev pub gives_each : Calling → List Expr → List Stmt
gives_each i [] = []
gives_each i (e ∷ rest) = gives_behind i e rest

abbrev pub calls : Calling → Reached → List Stmt
calls i c = if i.is_void then map core.eval (map (called i) c.targets) else gives_each i (map (called i) c.targets)

abbrev pub has_two : Reached → Bool
has_two c = nat_lt 1 (length c.targets)

-- ---- the cases

abbrev pub closed : Calling → Reached → List Stmt
closed i c = calls i c ++ (core.break ∷ [])

abbrev pub starts : Calling → ℕ → List Reached → List core.Case
starts i n [] = []
starts i n (c ∷ rest) = record { value = number c.value; start = n } ∷ starts i (n + length (closed i c)) rest

abbrev pub by_parameter : Calling → List Reached → List Stmt
by_parameter i cases = core.switch (read_local i.at 0) (starts i 0 cases) (stmts (flat_map (closed i) cases)) ∷ []

abbrev pub has_value : Reached → Bool
has_value c = is_some c.value

abbrev pub code : Calling → List Reached → List Stmt
code i cases = if list_any has_value cases then by_parameter i cases else flat_map (calls i) cases

-- ---- the function

abbrev pub body : (name : List ℕ) → Calling → (params : List Ty) → (gives : Ty) → List Reached → Body
body name i params gives cases = record {
  name = name;
  params = i.params;
  locals = params ++ result_local i gives;
  result = gives;
  code = core.block (stmts (code i cases));
  is_async = false;
  is_item = false;
}
