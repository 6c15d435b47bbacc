use Rattle.std.proofs.Common.{◌≡◌, subst, sym, ◌∙◌, ap, Ok}
use Rattle.nesc_parse_types.specs.Gives.{form_in, place}
use Rattle.nesc_parse_exprs.specs.Parts as parts
use Rattle.nesc_parse_types.proofs.Many.{through}
use Rattle.nesc_parse_exprs.proofs.Dispatch.{size_read, size_fails}
use Rattle.nesc_parse_exprs.proofs.expr_reader.ExprReader.size_opened.Goals as goal

pub returns-in_err-inner : goal.returns-in_err-inner
returns-in_err-inner g c =
    through c.args.self.now.reader.names.now c.from_residual.result c.in_err-inner.field-0.0 (form_in c.args.self.now.reader.spare (parts.size_opened c.args.word.now c.args.opening.now) c.args.self.now.reader.names.now c.args.ts.now) c.from_residual.ensures
    (size_fails c.args.self.now.reader.spare c.args.self.now.reader.names.now c.args.ts.now c.args.word.now c.args.opening.now c.in_err-inner.field-0.0 c.in_err-inner.ensures.gives)

pub returns : goal.returns
returns g c =
    size_read c.args.self.now.reader.spare c.args.self.now.reader.names.now c.args.ts.now c.args.word.now c.args.opening.now c.in_ok-inner.inner c.in_ok-inner.rest.now c.in_ok-inner.ensures.gives
    ∙ ap (λ a. Ok (a, place c.args.self.now.reader.names.now c.in_ok-inner.rest.now)) (sym c.in_ok-size_of_expr.ensures)
