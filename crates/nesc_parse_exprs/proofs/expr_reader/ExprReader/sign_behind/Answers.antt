use Rattle.std.proofs.Common.{◌≡◌, ◌∙◌, arith}
use Rattle.nesc_parse_exprs.proofs.Dispatch.{growth_open}
use Rattle.nesc_parse_exprs.proofs.expr_reader.ExprReader.sign_behind.Goals as goal

pub returns-clause-open : goal.returns-clause-open
returns-clause-open g c =
    growth_open c.args.self.now.reader.spare c.args.self.now.reader.names.now c.args.ts.now c.args.left.now c.ahead-sign.result c.ahead-sign.ensures (omega (arith, c.if-left-self.false)) c.requires.goes_on (λ e. c.is_full.ensures.room c.if-is_full.false (c.nests_behind.ensures ∙ e))
