-- Faults that say why a line is refused.
use Rattle.std.proofs.Common.{◌≡◌, ℕ, false, List, None, Err, ap}
use Rattle.nm_base.specs.declared.fault.Fault.{Fault}
use Rattle.nm_base.specs.declared.fault.Fault.TheVariants.{Refused, Missing, ReadFault, Limit, TooLarge, NoMemory}
use Rattle.nm_base.specs.declared.pos.Pos.{Pos}
use Rattle.nesc_core.specs.Plain.{Ty}
use Rattle.nesc_types.specs.Rule.{Rule}
use Rattle.nesc_types.specs.Values.{Constant}
use Rattle.elab_meaning.specs.Answers.{FaultIs}
use Rattle.elab_meaning.specs.Elab.{State, after, give}
use Rattle.wire_pairs.specs.declared.facts.Unlinked.{Unlinked}
use Rattle.wire_pairs.specs.declared.facts.Unlinked.TheVariants as unlinked
use Rattle.wire_facts.specs.Seen.{Seen, Survey, bracket, bracket_found, declared_then, named_then, refused, unlinked_as, with_seen}
use Rattle.wire_told.specs.Cuts.{is_memory}

pub spoken : {A : Type 0} (e : Fault) (r : Rule A) → FaultIs e r → is_memory e ≡ false → r ≡ Err e
spoken NoMemory r is said = absurd (cc)
spoken (Refused x) r is said = is
spoken (Missing x) r is said = is
spoken ReadFault r is said = is
spoken (Limit x) r is said = is
spoken (TooLarge x y) r is said = is

pub bracket_refused : (at : Pos) (e : Fault) (r : Rule (Constant × State)) → FaultIs e r → is_memory e ≡ false
    → bracket_found at r ≡ (bracket at (Err (unlinked_as (unlinked.NotConstant at) e)), None)
bracket_refused at e r is said = ap (bracket_found at) (spoken e r is said)

pub declared_refused : {A : Type 0} (x : Survey) (otherwise : Unlinked) (e : Fault) (r : Rule (A × State)) → FaultIs e r → is_memory e ≡ false
    → declared_then x otherwise (after r (λ _. give tt)) ≡ refused x.seen (unlinked_as otherwise e)
declared_refused x otherwise e r is said = ap (λ q. declared_then x otherwise (after q (λ _. give tt))) (spoken e r is said)

pub named_refused : (otherwise : Unlinked) (name : List ℕ) (seen : List Seen) (k : ℕ) (x : Survey) (e : Fault) (r : Rule ((Seen × List Ty) × State))
    → FaultIs e r → is_memory e ≡ false
    → named_then otherwise name seen (after r (λ found. give (with_seen k x found))) ≡ refused seen (unlinked_as otherwise e)
named_refused otherwise name seen k x e r is said = ap (λ q. named_then otherwise name seen (after q (λ found. give (with_seen k x found)))) (spoken e r is said)
