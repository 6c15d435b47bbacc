use Rattle.std.proofs.Common.{◌≡◌, sym, subst, ◌∙◌}
use Rattle.nesc_tree.specs.declared.sorts.Sort.TheVariants as s
use Rattle.nesc_parse_types.specs.Gives.{Gives}
use Rattle.nesc_parse_exprs.proofs.Dispatch.{closed_case, open_case}
use Rattle.nesc_parse_types.proofs.Heights.{arguments_fit}
use Rattle.nesc_parse_exprs.proofs.expr_reader.ExprReader.arguments.Goals as goal

pub returns-in-RParen-clause-gives : goal.returns-in-RParen-clause-gives
returns-in-RParen-clause-gives g c = subst (Gives c.args.self.now.reader.names.now c.closed_arguments.result) (sym (closed_case c.args.self.now.reader.spare c.args.self.now.reader.names.now c.args.ts.now c.in_ok-rest.rest.now c.in_ok-rest.field-0-0.now c.in_ok-rest.ensures (sym c.ahead.ensures ∙ c.in-RParen.is))) c.closed_arguments.ensures

pub returns-in-RParen-clause-fits : goal.returns-in-RParen-clause-fits
returns-in-RParen-clause-fits g c =
    arguments_fit c.args.self.now.reader.spare c.args.self.now.reader.names.now c.args.ts.now c.closed_arguments.result
    (subst (Gives c.args.self.now.reader.names.now c.closed_arguments.result) (sym (closed_case c.args.self.now.reader.spare c.args.self.now.reader.names.now c.args.ts.now c.in_ok-rest.rest.now c.in_ok-rest.field-0-0.now c.in_ok-rest.ensures (sym c.ahead.ensures ∙ c.in-RParen.is))) c.closed_arguments.ensures)

pub returns-in_default-clause-gives : goal.returns-in_default-clause-gives
returns-in_default-clause-gives g c = subst (Gives c.args.self.now.reader.names.now c.open_arguments.result) (sym (open_case c.args.self.now.reader.spare c.args.self.now.reader.names.now c.args.ts.now c.in_ok-rest.rest.now c.in_ok-rest.field-0-0.now c.in_ok-rest.ensures (λ e. c.in_default.not-RParen (c.ahead.ensures ∙ e)))) c.open_arguments.ensures

pub returns-in_default-clause-fits : goal.returns-in_default-clause-fits
returns-in_default-clause-fits g c =
    arguments_fit c.args.self.now.reader.spare c.args.self.now.reader.names.now c.args.ts.now c.open_arguments.result
    (subst (Gives c.args.self.now.reader.names.now c.open_arguments.result) (sym (open_case c.args.self.now.reader.spare c.args.self.now.reader.names.now c.args.ts.now c.in_ok-rest.rest.now c.in_ok-rest.field-0-0.now c.in_ok-rest.ensures (λ e. c.in_default.not-RParen (c.ahead.ensures ∙ e)))) c.open_arguments.ensures)
