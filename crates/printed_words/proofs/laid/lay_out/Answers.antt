use Rattle.std.proofs.Common.{refl}
use Rattle.printed_words.specs.LaidOut.{nothing}
use Rattle.printed_words.proofs.laid.lay_out.Goals as goal

pub loop-word-init : goal.loop-word-init
loop-word-init c = nothing c.new-text.ensures.items refl
