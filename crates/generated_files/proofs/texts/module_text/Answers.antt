use Rattle.generated_files.proofs.Pieces.{module_spelled}
use Rattle.generated_files.proofs.texts.module_text.Goals as goal

pub returns : goal.returns
returns c = module_spelled c.args.k _ c.in_ok-text.ensures.ok
