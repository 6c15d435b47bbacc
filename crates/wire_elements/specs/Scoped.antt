-- The end of work inside a scope (own).
use Rattle.std.specs.Prelude.{◌≡◌, Result, Ok, Err}
use Rattle.nm_base.specs.declared.fault.Fault.{Fault}
use Rattle.elab_meaning.specs.Answers.{FaultIs}
use Rattle.elab_meaning.specs.Elab.{State}
use Rattle.wire_facts.specs.Scopes.{Base, Own, scope_in, with_own}
use Rattle.wire_scopes.specs.declared.scopes.Scope as scope
use Rattle.wire_scopes.specs.View.{scope_of}

-- what work inside a scope gave, beside that scope, and what was in force before is so again
abbrev pub IsLeft : {A : Type 0} → Base → Own → Result A Fault → (old new : State) → Result (A × scope.Scope) Fault → Type 0
IsLeft b was gave old new (Ok x) = (gave ≡ Ok x.0) × (scope_of x.1 ≡ scope_in b old) × (new ≡ with_own b was old)
IsLeft b was gave old new (Err e) = FaultIs e gave
