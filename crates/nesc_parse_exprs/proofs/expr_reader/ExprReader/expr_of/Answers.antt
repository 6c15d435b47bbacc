use Rattle.std.proofs.Common.{◌≡◌, sym, subst}
use Rattle.nesc_tree.specs.Phrase.{Phrase}
use Rattle.nesc_grammar.specs.Production.{production}
use Rattle.nesc_parse_types.specs.Gives.{Gives, form_in}
use Rattle.nesc_parse_types.proofs.Many.{through}
use Rattle.nesc_parse_exprs.proofs.BehindParen.{climbs, climb_fails}
use Rattle.nesc_parse_exprs.proofs.expr_reader.ExprReader.expr_of.Goals as goal

pub returns-in_err-first : goal.returns-in_err-first
returns-in_err-first g c =
    through c.args.self.now.reader.names.now c.from_residual.result c.in_err-first.field-0.0 (form_in c.args.self.now.reader.spare (production (Phrase.expr c.args.least)) c.args.self.now.reader.names.now c.args.ts.now) c.from_residual.ensures
    (climb_fails c.args.self.now.reader.spare c.args.least c.args.self.now.reader.names.now c.args.ts.now c.admits_cast.result c.admits_cast.ensures c.in_err-first.field-0.0 c.in_err-first.ensures)

pub returns : goal.returns
returns g c =
    subst (Gives c.args.self.now.reader.names.now c.climb.result)
    (sym (climbs c.args.self.now.reader.spare c.args.least c.args.self.now.reader.names.now c.args.ts.now c.admits_cast.result c.admits_cast.ensures c.in_ok-first.first c.in_ok-first.rest.now c.in_ok-first.ensures)) c.climb.ensures
