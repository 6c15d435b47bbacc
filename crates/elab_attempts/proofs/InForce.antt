-- What is in force behind each declaration, in one form.
use Rattle.std.proofs.Common.{◌≡◌, ℕ, Bool, List, [], ◌∷◌, Option, Some, None, Result, Ok, Err, ap, sym, refl, ◌∙◌}
use Rattle.std.specs.Prelude.{OnOk}
use Rattle.nm_base.specs.declared.pos.Pos.{Pos}
use Rattle.nesc_core.specs.Plain as core
use Rattle.nesc_core.specs.Plain.{Ty}
use Rattle.nesc_tree.specs.Plain.{Exprs}
use Rattle.nesc_types.specs.Rule.{Rule}
use Rattle.nesc_types.specs.Values.{Constant}
use Rattle.elab_exprs.proofs.Steps.{after-after, after-same}
use Rattle.elab_locals.proofs.Cuts.{variable_is}
use Rattle.elab_locals.specs.Parts.{new_local, set, shaped}
use Rattle.elab_meaning.specs.Elab.{Elab, State, after, give}
use Rattle.elab_meaning.specs.Operators.{Based}
use Rattle.elab_meaning.specs.Scope.{Env}
use Rattle.elab_meaning.specs.Wired.{is_const_at}
use Rattle.body_meaning.specs.Stmts.{declaration, variable}
use Rattle.body_meaning.specs.Tree as tree
use Rattle.body_meaning.specs.Tree.{Decl, Param, Variable}
use Rattle.program_meaning.specs.Heads.{bracket}
use Rattle.nesc_unwired.specs.Calls.{Module, bracket_in_force, hides, hides_any, or_else, variable_by, without_init}
use Rattle.elab_attempts.specs.Attempts.{type_in_force}
use Rattle.elab_attempts.specs.Parts as parts
use Rattle.elab_attempts.specs.Parts.{done, in_force, placed_variable}

abbrev finished : {A : Type 0} → A → Elab (Unit {0})
finished x = give tt

-- what is given does not matter
alike : {A : Type 0} (fallback : Elab (Unit {0})) (s : State) (r : Rule (A × State)) → or_else fallback s r ≡ or_else fallback s (after r finished)
alike fallback s (Ok x) = refl
alike fallback s (Err e) = refl

variable_placed : (env : Env) (values : List (Option Constant)) (b : Based) (said : Bool) (stars : ℕ) (name : List ℕ) (dims : Exprs) (at : Pos) (s : State)
    → done (variable env values b said (record { stars = stars; name = name; dims = dims; init = None; at = at })) s
    ≡ placed_variable env values b said (record { stars = stars; name = name; dims = dims; init = None; at = at }) s
variable_placed env values b said stars name dims at s =
    let is_const : Bool = is_const_at stars said b.is_const in
    let local : Ty → State → Rule (ℕ × State) = λ t. new_local at name t is_const in
    let rest : Ty → ℕ → State → Rule (List core.Stmt × State) = λ t. λ k. set env values at k t None in
    let end : List core.Stmt → State → Rule (Unit {0} × State) = λ _. give tt in
    let none : ℕ → State → Rule (Unit {0} × State) = λ _. give tt in
    ap (λ (r : Rule (List core.Stmt × State)). after r end) (variable_is env values b said (record { stars = stars; name = name; dims = dims; init = None; at = at }) s)
    ∙ sym (after-after (shaped env values at b stars dims s) (λ t. λ s1. after (local t s1) (rest t)) end)
    ∙ after-same (shaped env values at b stars dims s) (λ t. λ s1. after (after (local t s1) (rest t)) end) (λ t. λ s1. after (local t s1) none)
    (λ t. λ s1. sym (after-after (local t s1) (rest t) end))

module _ (env : Env) where
  pub variable_forced : (m : Module) (b : Based) (said : Bool) (v : Variable) (s : State) → variable_by env m (Some b) said v s ≡ in_force env (parts.variable b said v) s
  variable_forced m b said v s =
      alike (hides v.name) s (variable env [] b said (without_init env m v) s)
      ∙ ap (λ (r : Rule (Unit {0} × State)). or_else (hides v.name) s r) (variable_placed env [] b said v.stars v.name v.dims v.at s)

  type_forced : (at : Pos) (d : Decl) (s : State) → type_in_force env at d s ≡ in_force env (parts.a_type at d) s
  type_forced at (tree.typedef name t attrs name_at) s = alike (hides name) s (declaration env [] at (tree.typedef name t attrs name_at) s)
  type_forced at (tree.type_only t type_at) s = alike (give tt) s (declaration env [] at (tree.type_only t type_at) s)
  type_forced at (tree.variables t norace vs) s = refl
  type_forced at (tree.function head body) s = refl

  pub type_in_both : {E : Type 0} (at : Pos) (d : Decl) (s t : State) (r : Result (Unit {0}) E) → OnOk r (in_force env (parts.a_type at d) s ≡ Ok (tt, t)) → OnOk r (type_in_force env at d s ≡ Ok (tt, t))
  type_in_both at d s t (Ok x) h = type_forced at d s ∙ h
  type_in_both at d s t (Err e) h = tt

  pub bracket_forced : (m : Module) (at : Pos) (p : Option Param) (s : State) → bracket_in_force env m at p s ≡ in_force env (parts.bracket at p) s
  bracket_forced m at None s = alike (hides_any None) s (bracket env [] at None s)
  bracket_forced m at (Some p) s = alike (hides_any p.name) s (bracket env [] at (Some p) s)
