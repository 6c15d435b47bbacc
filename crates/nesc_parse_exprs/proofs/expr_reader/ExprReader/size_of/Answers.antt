use Rattle.std.proofs.Common.{◌≡◌, sym, subst, ◌∙◌}
use Rattle.nesc_tree.specs.declared.sorts.Sort.TheVariants as s
use Rattle.nesc_parse_types.specs.Gives.{Gives}
use Rattle.nesc_parse_exprs.proofs.Dispatch.{size_bracketed_case, size_unary_case}
use Rattle.nesc_parse_exprs.proofs.expr_reader.ExprReader.size_of.Goals as goal

pub returns-in-LParen : goal.returns-in-LParen
returns-in-LParen g c = subst (Gives c.args.self.now.reader.names.now c.size_bracketed.result) (sym (size_bracketed_case c.args.self.now.reader.spare c.args.self.now.reader.names.now c.args.ts.now c.in_ok-word.rest.now c.in_ok-word.word.now c.in_ok-word.ensures (sym c.ahead.ensures ∙ c.in-LParen.is))) c.size_bracketed.ensures

pub returns-in_default : goal.returns-in_default
returns-in_default g c = subst (Gives c.args.self.now.reader.names.now c.size_unary.result) (sym (size_unary_case c.args.self.now.reader.spare c.args.self.now.reader.names.now c.args.ts.now c.in_ok-word.rest.now c.in_ok-word.word.now c.in_ok-word.ensures (λ e. c.in_default.not-LParen (c.ahead.ensures ∙ e)))) c.size_unary.ensures
