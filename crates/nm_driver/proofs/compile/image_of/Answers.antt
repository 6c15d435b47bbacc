use Rattle.nesc_core.specs.View.{program_of}
use Rattle.nm_driver.proofs.Compiled.{can_be_built, is_unbuilt, meets}
use Rattle.nm_driver.proofs.compile.image_of.Goals as goal

pub returns-clause-meets : goal.returns-clause-meets
returns-clause-meets c =
    let e = c.build.ensures in
    meets (program_of c.args.p) c.build.result e.compilable e.checked c.code_is_within_weight.ensures c.stack_is_within_weight.ensures e.image e.runs e.bytes e.data e.stack

pub returns-clause-builds : goal.returns-clause-builds
returns-clause-builds c =
    let e = c.build.ensures in
    can_be_built (program_of c.args.p) c.laid_images_have_room.ensures c.build.result e.image e.bytes e.data e.stack

pub returns-clause-unbuilt : goal.returns-clause-unbuilt
returns-clause-unbuilt c =
    let e = c.build.ensures in
    is_unbuilt (program_of c.args.p) c.build.result e.compilable e.checked c.code_is_within_weight.ensures c.memory_is_within_weights.ensures e.cause
