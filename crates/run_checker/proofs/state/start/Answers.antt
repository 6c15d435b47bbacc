use Rattle.nesc_core.specs.View.{program_of}
use Rattle.run_checker.specs.Contexts.{context_of}
use Rattle.run_checker.specs.States.{bytes}
use Rattle.run_checker.proofs.Starting.{starts}
use Rattle.run_checker.proofs.StoreLemmas.{all_zero}
use Rattle.run_checker.proofs.state.start.Goals as goal

pub returns-clause-state : goal.returns-clause-state
returns-clause-state c =
    starts (program_of c.args.p.now) c.args.board.now (bytes c.in_ok-zeros.field-0.items) c.new.result.items (context_of c.in_ok-base.base)
    (all_zero 65537 c.in_ok-zeros.field-0.items c.in_ok-zeros.ensures) c.new.ensures.items c.in_ok-base.ensures.context
