use Rattle.nesc_print_unit_laws.proofs.FilesLaw.{files}
use Rattle.nesc_print_unit_laws.proofs.laws.printed_files_are_read_again.Goals as goal

pub returns : goal.returns
returns c = files
