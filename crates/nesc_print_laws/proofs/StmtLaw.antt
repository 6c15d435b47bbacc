-- Statements are read again.
use Rattle.std.proofs.Common.{◌++◌}
use Rattle.nesc_tree.specs.Phrase.{Phrase}
use Rattle.nesc_print_laws.specs.StatementsAgain.{StatementsAreReadAgain}
use Rattle.nesc_print_laws.proofs.Law.{again, read}
use Rattle.nesc_print_laws.proofs.StmtsKnown.{StmtLaw, stmt_law}

pub statements : StatementsAreReadAgain
unfolding StmtLaw
statements levels j p q x h ts rest e c = again (λ y same. same) ((stmt_law levels (Phrase.stmt j) p q x h).1.opened.run (ts ++ rest) rest (read ts rest e) c)
