use Rattle.std.proofs.Common.{◌≡◌, ◌<◌, true, false, sym, subst, ◌∙◌}
use Rattle.nesc_parse_types.specs.Gives.{Gives}
use Rattle.nesc_parse_exprs.proofs.Dispatch.{cast_case, paren_case}
use Rattle.nesc_parse_exprs.proofs.expr_reader.ExprReader.bracketed.Goals as goal

pub returns-then-is_cast : goal.returns-then-is_cast
returns-then-is_cast g c =
    subst (Gives c.args.self.now.reader.names.now c.cast.result)
    (sym (cast_case c.args.self.now.reader.spare c.args.self.now.reader.names.now c.args.ts.now c.in_ok-opening.rest.now c.in_ok-opening.opening.now c.args.may_cast c.requires.room c.in_ok-opening.ensures (sym c.is_cast.ensures ∙ c.if-is_cast.true))) c.cast.ensures

pub returns-else-is_cast : goal.returns-else-is_cast
returns-else-is_cast g c =
    subst (Gives c.args.self.now.reader.names.now c.parens.result)
    (sym (paren_case c.args.self.now.reader.spare c.args.self.now.reader.names.now c.args.ts.now c.in_ok-opening.rest.now c.in_ok-opening.opening.now c.args.may_cast c.requires.room c.in_ok-opening.ensures (sym c.is_cast.ensures ∙ c.if-is_cast.false))) c.parens.ensures
