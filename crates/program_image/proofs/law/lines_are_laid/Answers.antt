use Rattle.program_image.proofs.Lines.{lines_are_laid}
use Rattle.program_image.proofs.law.lines_are_laid.Goals as goal

pub returns : goal.returns
returns c = lines_are_laid
