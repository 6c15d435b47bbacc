-- Both compute to the same items.
use Rattle.std.proofs.Common.{refl}
use Rattle.compiled_image.proofs.law.statements_are_pieces.Goals as goal

pub returns : goal.returns
returns c = λ code home own place. (refl, refl)
