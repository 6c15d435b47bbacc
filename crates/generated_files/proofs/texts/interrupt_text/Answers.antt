use Rattle.generated_files.specs.Generated.{interrupt_text}
use Rattle.generated_files.proofs.texts.interrupt_text.Goals as goal

pub returns : goal.returns
unfolding interrupt_text
returns c = c.in_ok-text.ensures.ok
