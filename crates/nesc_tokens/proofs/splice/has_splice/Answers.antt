use Rattle.std.proofs.Common.{sym, ◌∙◌}
use Rattle.nesc_tokens.proofs.Whole.{read_as_it_stands, no_splice_without}
use Rattle.nesc_tokens.proofs.splice.has_splice.Goals as goal

pub returns : goal.returns
returns c same = read_as_it_stands c.args.text.now (λ k _. no_splice_without c.args.text.now (sym c.contains.ensures.value ∙ same) k)
