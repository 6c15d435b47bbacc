use Rattle.nesc_core.specs.View.{program_of}
use Rattle.run_checker.proofs.Knowing.{next_told}
use Rattle.run_checker.proofs.legal.can_do.Goals as goal

pub returns-in-Some : goal.returns-in-Some
returns-in-Some c =
    next_told (program_of c.args.p.now) c.args.turns c.args.k c.args.c.now c.in-Some.c c.args.a c.is_next.result c.in-Some.is c.requires.known c.requires.few c.is_next.ensures
