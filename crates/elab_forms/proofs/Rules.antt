-- What a rule gives follows it.
use Rattle.std.proofs.Common.{◌≡◌, Ok, Err, sym}
use Rattle.nm_base.specs.declared.fault.Fault.TheVariants.{Refused, Missing, ReadFault, Limit, TooLarge, NoMemory}
use Rattle.nesc_types.specs.Rule.{Rule}
use Rattle.elab_meaning.specs.Answers.{Follows}

pub itself : {A : Type 0} (r : Rule A) (s : Rule A) → r ≡ s → Follows (λ x. x) r s
itself (Ok x) s h = sym h
itself (Err NoMemory) s h = tt
itself (Err (Refused x)) s h = sym h
itself (Err (Missing x)) s h = sym h
itself (Err ReadFault) s h = sym h
itself (Err (Limit x)) s h = sym h
itself (Err (TooLarge x y)) s h = sym h

pub ruleset rules_follow = (itself)
