-- Code does what its bodies do, where these behave as others (own).
use Rattle.std.specs.Prelude.{ℕ, List}
use Rattle.nm_base.specs.declared.action.Action.{Action}
use Rattle.lower_stmt.specs.Correct.{Behaves, Doing}
use Rattle.open_law.specs.Body.{IsOpenBody, IsOpenFunction, acts}

-- Code that does in the open what one body does, does what another does which that behaves as: code is answered by words alone
abbrev pub BehaviourKeepsLaws : Type 0
BehaviourKeepsLaws =
    (image : ℕ → ℕ) (data_end : ℕ) (marks : ℕ → List Action) (above below : Doing) (entry depth bound : ℕ) → Behaves above below →
    IsOpenBody image data_end marks (acts below) entry depth bound → IsOpenBody image data_end marks (acts above) entry depth bound

-- and where it gives values, it gives the same
abbrev pub BehaviourKeepsFunctions : Type 0
BehaviourKeepsFunctions =
    (image : ℕ → ℕ) (data_end : ℕ) (marks : ℕ → List Action) (gives : ℕ) (above below : Doing) (entry depth bound : ℕ) → Behaves above below →
    IsOpenFunction image data_end marks gives below entry depth bound → IsOpenFunction image data_end marks gives above entry depth bound
