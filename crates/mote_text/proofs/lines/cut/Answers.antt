use Rattle.std.proofs.Common.{◌==◌}
use Rattle.mote_text.proofs.Cutting.{cut_at, no_cut}
use Rattle.mote_text.proofs.lines.cut.Goals as goal

pub returns-then-end-text-clause-parts : goal.returns-then-end-text-clause-parts
returns-then-end-text-clause-parts c = cut_at (λ b. b == c.args.byte) c.args.text.now c.len_before-end.result c.len_before-end.ensures c.if-end-text.true

pub returns-else-end-text-clause-parts : goal.returns-else-end-text-clause-parts
returns-else-end-text-clause-parts c = no_cut (λ b. b == c.args.byte) c.args.text.now c.len_before-end.result c.len_before-end.ensures c.if-end-text.false
