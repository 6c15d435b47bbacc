use Rattle.nesc_parse_again.proofs.Again.{parsed_again}
use Rattle.nesc_parse_again.proofs.laws.printed_files_are_parsed_again.Goals as goal

pub returns : goal.returns
returns c = parsed_again
