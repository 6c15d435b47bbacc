use Rattle.nesc_core.specs.View.{program_of}
use Rattle.core_meaning.specs.SourceOf.{source_of}
use Rattle.run_meaning.specs.State.{start}
use Rattle.run_checker.specs.States.{AreKnown, state_of}
use Rattle.run_checker.proofs.Reaches.{Reaches}
use Rattle.run_checker.proofs.checking.check_run.Given as goal

abbrev pub invariant-loop-k : goal.invariant-loop-k
invariant-loop-k l = record {
  known : AreKnown (program_of l.p) l.turns l.k l.r;
  reached : Reaches (source_of (program_of l.p)) (start (source_of (program_of l.p)) l.board) l.moves l.k (state_of l.r) l.events.items;
}
