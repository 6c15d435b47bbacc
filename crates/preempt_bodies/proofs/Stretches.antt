-- The end of a stretch outside atomic statements, and where entries fall.
use Rattle.std.proofs.Common.{List, [], ◌∷◌, ◌++◌}
use Rattle.core_meaning.specs.Source.{Source}
use Rattle.run_meaning.specs.declared.Move.{Move}
use Rattle.run_meaning.specs.declared.Move.TheVariants.{Enter}
use Rattle.run_meaning.specs.State.{State, start}
use Rattle.run_meaning.specs.Runs.{AreLegal, Legal, after, after_all}
use Rattle.run_meaning.specs.Steps.{StaysOutside}
use Rattle.preempt_bodies.specs.Runs.{EntriesFallOutside}

pub outside_back : (P : Source) (s : State) (a b : List Move) → StaysOutside P s (a ++ b) → StaysOutside P (after_all P s a) b
outside_back P s [] b h = h
outside_back P s (m ∷ a) b h = outside_back P (after P s m) a b h.1

-- what is legal behind some moves
legal_at : (P : Source) (s : State) (front back : List Move) (m : Move) → AreLegal P s (front ++ m ∷ back) → Legal P (after_all P s front) m
legal_at P s [] back m h = h.0
legal_at P s (x ∷ front) back m h = legal_at P (after P s x) front back m h.1

pub entries_fall_outside : EntriesFallOutside
entries_fall_outside P b front back v run = let h = legal_at P (start P b) front back (Enter v) run in (h.1.2, h.1.1)
