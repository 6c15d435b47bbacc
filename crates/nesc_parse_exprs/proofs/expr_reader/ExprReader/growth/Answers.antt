use Rattle.std.proofs.Common.{◌≡◌, Result, IfOk, IfErr, sym, ap, subst, ◌∙◌}
use Rattle.nesc_tree.specs.declared.operand.Operand.{Operand}
use Rattle.nesc_tree.specs.declared.sorts.Sort.{Sort}
use Rattle.nesc_grammar.specs.Grammar as grammar
use Rattle.nesc_parse_types.specs.declared.stop.Stop.{Stop}
use Rattle.nesc_parse_types.specs.Gives.{Fails, Gives, form_in}
use Rattle.nesc_parse_types.proofs.Many.{through}
use Rattle.nesc_parse_exprs.specs.Climbing.{grown_by, step_in}
use Rattle.nesc_parse_exprs.proofs.expr_reader.ExprReader.growth.Goals as goal

pub returns-in_err-kept : goal.returns-in_err-kept
returns-in_err-kept g c =
    let whole = step_in c.args.self.now.reader.spare c.args.left c.args.self.now.reader.names.now c.args.ts.now in
    through c.args.self.now.reader.names.now c.from_residual.result c.in_err-kept.field-0.0 whole c.from_residual.ensures
    (subst (λ (v : Result Sort Stop). IfErr v (λ e. Fails e whole)) c.in_err-kept.ensures.refused c.sign_behind-found.ensures.full)

pub returns : goal.returns
returns g c =
    let whole = step_in c.args.self.now.reader.spare c.args.left c.args.self.now.reader.names.now c.args.ts.now in
    let is : whole ≡ form_in c.args.self.now.reader.spare (grown_by c.args.left (grammar.operation c.in_ok-kept.sign)) c.args.self.now.reader.names.now c.args.ts.now =
    subst (λ (v : Result Sort Stop). IfOk v (λ x. whole ≡ form_in c.args.self.now.reader.spare (grown_by c.args.left (grammar.operation x)) c.args.self.now.reader.names.now c.args.ts.now)) c.in_ok-kept.ensures.kept.1 c.sign_behind-found.ensures.open in
    subst (Gives c.args.self.now.reader.names.now c.longer.result)
    (sym (is ∙ ap (λ (a : Operand). form_in c.args.self.now.reader.spare (grown_by a (grammar.operation c.in_ok-kept.sign)) c.args.self.now.reader.names.now c.args.ts.now) (sym c.in_ok-kept.ensures.kept.0))) c.longer.ensures
