use Rattle.nesc_core.specs.View.{program_of}
use Rattle.run_checker.proofs.Knowing.{ended_told}
use Rattle.run_checker.proofs.legal.may_leave.Goals as goal

pub returns-in-Some : goal.returns-in-Some
returns-in-Some c =
    ended_told (program_of c.args.p.now) c.args.turns c.args.k c.args.c.now c.in-Some.c c.has_ended.result c.in-Some.is c.requires.known c.requires.few c.has_ended.ensures
