use Rattle.nesc_core.specs.View.{program_of}
use Rattle.run_checker.proofs.Knowing.{can_next}
use Rattle.run_checker.proofs.moving.push_in.Goals as goal

pub push-requires-clause-next : goal.push-requires-clause-next
push-requires-clause-next c =
    can_next (program_of c.args.p.now) c.args.turns c.args.k c.args.c.now c.in-Some.c c.args.a c.in-Some.is c.requires.known c.requires.few c.requires.can
