use Rattle.std.proofs.Common.{◌≡◌}
use Rattle.nesc_parse_types.specs.Gives.{form_in}
use Rattle.nesc_parse_types.proofs.Many.{through}
use Rattle.nesc_parse_exprs.specs.Closed.{closed_form}
use Rattle.nesc_parse_exprs.proofs.Closed.{unread, unclosed, unkept, closed_kept}
use Rattle.nesc_parse_exprs.proofs.expr_reader.ExprReader.closed.Goals as goal

pub returns-in_err-inner-clause-gives : goal.returns-in_err-inner-clause-gives
returns-in_err-inner-clause-gives g c =
    through c.args.self.now.reader.names.now c.from_residual.result c.in_err-inner.field-0.0 (form_in c.args.self.now.reader.spare (closed_form c.args.least c.args.closing) c.args.self.now.reader.names.now c.args.ts.now) c.from_residual.ensures
    (unread c.args.self.now.reader.spare c.args.self.now.reader.names.now c.args.ts.now (λ a _. a) c.args.least c.args.closing c.in_err-inner.field-0.0 c.in_err-inner.ensures.gives)

pub returns-in_err-kept-clause-gives : goal.returns-in_err-kept-clause-gives
returns-in_err-kept-clause-gives g c =
    through c.args.self.now.reader.names.now c.from_residual-in_err-kept.result c.in_err-kept.field-0.0 (form_in c.args.self.now.reader.spare (closed_form c.args.least c.args.closing) c.args.self.now.reader.names.now c.args.ts.now) c.from_residual-in_err-kept.ensures
    (unclosed c.args.self.now.reader.spare c.args.self.now.reader.names.now c.args.ts.now (λ a _. a) c.args.least c.args.closing c.in_ok-inner.inner c.in_ok-inner.rest.now c.in_ok-inner.ensures.gives c.in_err-kept.field-0.0
    (unkept c.args.self.now.reader.names.now _ _ c.in_err-kept.field-0.0 c.expect-behind.ensures c.in_err-kept.ensures.refused))

pub returns-clause-gives : goal.returns-clause-gives
returns-clause-gives g c =
    closed_kept c.args.self.now.reader.spare c.args.self.now.reader.names.now c.args.ts.now (λ a _. a) c.args.least c.args.closing c.in_ok-inner.inner c.in_ok-inner.rest.now c.in_ok-inner.ensures.gives
    c.in_ok-kept.kept c.in_ok-kept.ensures.kept.0 _ _ c.expect-behind.ensures c.in_ok-kept.ensures.kept.1
