use Rattle.std.proofs.Common.{◌≡◌, sym, subst, ◌∙◌}
use Rattle.nesc_parse_types.specs.Gives.{Gives}
use Rattle.nesc_parse_exprs.proofs.Dispatch.{primary_full, primary_open}
use Rattle.nesc_parse_exprs.proofs.expr_reader.ExprReader.primary.Goals as goal

pub returns-then-is_full : goal.returns-then-is_full
returns-then-is_full g c =
    let full = c.is_full.ensures.full c.if-is_full.true in
    primary_full c.args.self.now.reader.spare c.args.may_cast c.args.self.now.reader.names.now c.args.ts.now c.ahead-first.result c.ahead-first.ensures full.0 (sym c.nests_first.ensures ∙ full.1)

pub returns : goal.returns
returns g c =
    subst (Gives c.args.self.now.reader.names.now c.primary_of.result)
    (sym (primary_open c.args.self.now.reader.spare c.args.may_cast c.args.self.now.reader.names.now c.args.ts.now c.ahead-first.result c.ahead-first.ensures (λ e. c.is_full.ensures.room c.if-is_full.false (c.nests_first.ensures ∙ e)))) c.primary_of.ensures
