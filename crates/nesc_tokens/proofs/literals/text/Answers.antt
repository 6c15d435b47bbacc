use Rattle.std.proofs.Common.{sym, ◌∙◌, slice_index}
use Rattle.std.proofs.lemmas.List.{take_rest}
use Rattle.nesc_tokens.proofs.LexemeKinds.{quote_of}
use Rattle.nesc_tokens.proofs.Quoted.{text_found, text_none}
use Rattle.nesc_tokens.proofs.literals.text.Goals as goal

pub returns-then-is_closed_at : goal.returns-then-is_closed_at
returns-then-is_closed_at c = text_found c.args.bytes.now _ c.text_body-body.result (take_rest c.args.bytes.now 1) c.text_body-body.ensures (quote_of (slice_index c.args.bytes.now 0) c.requires.at) (sym c.is_closed_at.ensures ∙ c.if-is_closed_at.true)

pub returns : goal.returns
returns c = text_none c.args.bytes.now _ c.text_body-body.result (take_rest c.args.bytes.now 1) c.text_body-body.ensures (sym c.is_closed_at.ensures ∙ c.if-is_closed_at.false)
