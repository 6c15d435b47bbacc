use Rattle.std.proofs.Common.{sym, ◌∙◌, arith}
use Rattle.nesc_tokens.proofs.Cuts.{line_comment_some}
use Rattle.nesc_tokens.proofs.pieces.front_of.Goals as goal

pub returns-then-begins_line_comment : goal.returns-then-begins_line_comment
returns-then-begins_line_comment c =
    let opened = sym c.begins_line_comment.ensures ∙ c.if-begins_line_comment.true in
    let some = line_comment_some c.args.bytes.now opened in
    (omega (arith, some, c.line_run.ensures.run), c.line_run.ensures.within, (c.line_run.ensures.run, opened))
