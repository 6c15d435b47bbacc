-- The first of the places of an instance, and of those behind it.
use Rattle.std.proofs.Common.{◌≡◌, List, [], ◌∷◌, ◌++◌, Ok, Err, refl}
use Rattle.nm_base.specs.declared.fault.Fault.{Fault}
use Rattle.nm_base.specs.declared.fault.Fault.TheVariants as fault
use Rattle.nm_base.specs.declared.pos.Pos.{Pos}
use Rattle.elab_meaning.specs.Answers.{FaultIs}
use Rattle.unwired_items.specs.Unwired.{refused_at}

pub none_here : (here behind : List Pos) → refused_at here ≡ Ok tt → refused_at (here ++ behind) ≡ refused_at behind
none_here [] behind h = refl
none_here (at ∷ more) behind h = absurd cc

pub first_here : (here behind : List Pos) (e : Fault) → refused_at here ≡ Err e → refused_at (here ++ behind) ≡ Err e
first_here [] behind e h = absurd cc
first_here (at ∷ more) behind e h = h

pub fails_here : (here behind : List Pos) (e : Fault) → FaultIs e (refused_at here) → FaultIs e (refused_at (here ++ behind))
fails_here here behind fault.NoMemory h = tt
fails_here here behind (fault.Refused r) h = first_here here behind (fault.Refused r) h
fails_here here behind (fault.Missing name) h = first_here here behind (fault.Missing name) h
fails_here here behind fault.ReadFault h = first_here here behind fault.ReadFault h
fails_here here behind (fault.Limit l) h = first_here here behind (fault.Limit l) h
fails_here here behind (fault.TooLarge room n) h = first_here here behind (fault.TooLarge room n) h

pub ruleset firsts = (none_here, first_here, fails_here)
