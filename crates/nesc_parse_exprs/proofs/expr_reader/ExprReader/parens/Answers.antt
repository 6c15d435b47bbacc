use Rattle.std.proofs.Common.{◌≡◌, Ok, sym, ap, subst, ◌∙◌}
use Rattle.nesc_tree.specs.declared.sorts.Sort.TheVariants as s
use Rattle.nesc_tree.specs.Level as level
use Rattle.nesc_tree.specs.Reading.{Answer}
use Rattle.nm_base.specs.declared.token.Token.{Token}
use Rattle.nesc_tree.specs.declared.operand.Operand.{Operand}
use Rattle.nesc_grammar.specs.Grammar as grammar
use Rattle.nesc_parse_types.specs.Gives.{Fails, form_in, place}
use Rattle.nesc_parse_types.proofs.Many.{through, mapped, mapped_fails}
use Rattle.nesc_parse_exprs.specs.Closed.{closed_form}
use Rattle.nesc_parse_exprs.proofs.Closed.{made_behind}
use Rattle.nesc_parse_exprs.proofs.expr_reader.ExprReader.parens.Goals as goal

pub returns-in_err-inner : goal.returns-in_err-inner
returns-in_err-inner g c =
    through c.args.self.now.reader.names.now c.from_residual.result c.in_err-inner.field-0.0 (form_in c.args.self.now.reader.spare (grammar.applied c.args.opening.now grammar.parens) c.args.self.now.reader.names.now c.args.ts.now) c.from_residual.ensures
    (mapped_fails c.args.self.now.reader.spare c.args.self.now.reader.names.now c.args.ts.now (λ f. f c.args.opening.now) grammar.parens c.in_err-inner.field-0.0
    (subst (λ (y : Answer (Token → Operand)). Fails c.in_err-inner.field-0.0 y) (sym (made_behind c.args.self.now.reader.spare c.args.self.now.reader.names.now c.args.ts.now grammar.paren_operand level.comma s.RParen))
    (mapped_fails c.args.self.now.reader.spare c.args.self.now.reader.names.now c.args.ts.now grammar.paren_operand (closed_form level.comma s.RParen) c.in_err-inner.field-0.0 c.in_err-inner.ensures.gives)))

pub returns : goal.returns
returns g c =
    mapped c.args.self.now.reader.spare c.args.self.now.reader.names.now c.args.ts.now (λ f. f c.args.opening.now) grammar.parens (grammar.paren_operand c.in_ok-inner.inner) c.in_ok-inner.rest.now
    (made_behind c.args.self.now.reader.spare c.args.self.now.reader.names.now c.args.ts.now grammar.paren_operand level.comma s.RParen
    ∙ mapped c.args.self.now.reader.spare c.args.self.now.reader.names.now c.args.ts.now grammar.paren_operand (closed_form level.comma s.RParen) c.in_ok-inner.inner c.in_ok-inner.rest.now c.in_ok-inner.ensures.gives)
    ∙ ap (λ a. Ok (a, place c.args.self.now.reader.names.now c.in_ok-inner.rest.now)) (sym c.paren_operand.ensures)
