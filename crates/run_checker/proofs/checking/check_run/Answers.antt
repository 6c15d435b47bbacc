use Rattle.std.proofs.lemmas.List.{get_or_default}
use Rattle.nesc_core.specs.View.{program_of}
use Rattle.core_meaning.specs.SourceOf.{source_of}
use Rattle.run_meaning.specs.State.{start}
use Rattle.run_checker.specs.States.{state_of}
use Rattle.run_checker.proofs.Reaches.{refused_by, went_on}
use Rattle.run_checker.proofs.checking.check_run.Goals as goal

pub loop-k-preserved : goal.loop-k-preserved
loop-k-preserved c = record {
  known = c.in_ok-take.ensures.known;
  reached =
      let P = source_of (program_of c.args.p.now) in
      went_on P (start P c.args.board.now) c.args.moves.now c.loop-k.k _ c.loop-k-test.true (get_or_default c.args.moves.now c.loop-k.k _ _ c.loop-k-test.true) (state_of c.loop-k.r) (state_of c.take.new.r) c.loop-k.events.items c.take.new.events.items
      c.loop-k.invariant.reached c.in_ok-take.ensures.taken;
}

pub returns-in_err-take-clause-refused : goal.returns-in_err-take-clause-refused
returns-in_err-take-clause-refused c =
    refused_by (program_of c.args.p.now) c.args.board.now c.args.moves.now c.loop-k.k _ c.loop-k-test.true (get_or_default c.args.moves.now c.loop-k.k _ _ c.loop-k-test.true) (state_of c.loop-k.r) c.loop-k.events.items
    c.loop-k.invariant.reached c.in_err-take.field-0.0 c.in_err-take.ensures.refused c.from_residual-in_err-take.result c.from_residual-in_err-take.ensures
