-- The parameters of a generic component, one after the other.
use Rattle.std.proofs.Common.{◌≡◌, ℕ, ◌+◌, ◌<◌, ◌≤◌, List, length, map, drop, get_or, Ok, ap, ◌∙◌}
use Rattle.nm_base.specs.declared.fault.Fault.{Fault}
use Rattle.nesc_types.specs.Rule.{Rule}
use Rattle.elab_meaning.specs.Answers.{FaultIs}
use Rattle.elab_meaning.specs.Elab.{State, after}
use Rattle.elab_exprs.proofs.Faults.{passes}
use Rattle.elab_exprs.proofs.Steps.{drop-past}
use Rattle.elab_targets.specs.View.{given_of}
use Rattle.elab_targets.specs.declared.application.Given as rust
use Rattle.elab_uses.proofs.Lists.{next_of}
use Rattle.program_meaning.specs.Items.{given_names}
use Rattle.program_meaning.specs.Modules.{Met, given_as}
use Rattle.program_meaning.specs.Parts.{Given}
use Rattle.elab_told.specs.Given.{given_name}

abbrev seen_as : Met → List rust.Given → List Given
seen_as m xs = map (given_as m) (map given_of xs)

module _ (m : Met) (list : List rust.Given) (whole : Rule (Unit {0} × State)) where
  next : (i : ℕ) (x : rust.Given) (st : State) → whole ≡ given_names (seen_as m (drop i list)) st → i < length list → x ≡ get_or list i x
      → whole ≡ after (given_name (given_as m (given_of x)) st) (λ u. given_names (seen_as m (drop (i + 1) list)))
  next i x st is below isx = is ∙ ap (λ (ys : List rust.Given). given_names (seen_as m ys) st) (next_of list i x below isx)

  pub passed : (i : ℕ) (x : rust.Given) (st st1 : State) → whole ≡ given_names (seen_as m (drop i list)) st → i < length list → x ≡ get_or list i x
      → given_name (given_as m (given_of x)) st ≡ Ok (tt, st1) → whole ≡ given_names (seen_as m (drop (i + 1) list)) st1
  passed i x st st1 is below isx e =
      next i x st is below isx ∙ ap (λ (r : Rule (Unit {0} × State)). after r (λ u. given_names (seen_as m (drop (i + 1) list)))) e

  pub failed : (i : ℕ) (x : rust.Given) (st : State) (e : Fault) → whole ≡ given_names (seen_as m (drop i list)) st → i < length list → x ≡ get_or list i x
      → FaultIs e (given_name (given_as m (given_of x)) st) → FaultIs e whole
  failed i x st e is below isx f = let same = next i x st is below isx in rw same (passes e (given_name (given_as m (given_of x)) st) (λ u. given_names (seen_as m (drop (i + 1) list))) f)

  pub ended : (i : ℕ) (st : State) → whole ≡ given_names (seen_as m (drop i list)) st → length list ≤ i → whole ≡ Ok (tt, st)
  ended i st is past = is ∙ ap (λ (ys : List rust.Given). given_names (seen_as m ys) st) (drop-past list i past)
