use Rattle.std.proofs.Common.{refl}
use Rattle.nesc_core.specs.View.{program_of}
use Rattle.well_formed.proofs.Formed.{formed}
use Rattle.well_formed.proofs.program.is_laid_well.Goals as goal

pub returns : goal.returns
returns c = λ e.
    formed (program_of c.args.p.now) c.requires.sized (c.if-not-structs_point.ensures refl) (c.if-not-objects_lie.ensures.types refl)
    (c.if-not-objects_lie.ensures.addresses refl) (c.if-not-bodies_are.ensures refl) (c.roots_are.ensures.tasks e) (c.roots_are.ensures.handlers e)
    (c.roots_are.ensures.lines e) (c.roots_are.ensures.differ e) (c.roots_are.ensures.boot e) (c.roots_are.ensures.boot_atomic e)
