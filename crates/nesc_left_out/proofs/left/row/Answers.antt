use Rattle.std.proofs.Common.{ap, ◌∙◌}
use Rattle.nesc_operands.specs.Spelling.{row_of}
use Rattle.nesc_left_out.specs.Left.{Row, row, words}
use Rattle.nesc_left_out.proofs.left.row.Goals as goal

pub returns-in-Word : goal.returns-in-Word
unfolding row
returns-in-Word c = rw (c.in-Word.is) (c.row_of.ensures ∙ ap (λ (o : Row). row_of words c.args.token.now o) c.other_word.ensures)
