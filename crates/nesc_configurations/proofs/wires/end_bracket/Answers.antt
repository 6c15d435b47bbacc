use Rattle.std.proofs.Common.{sym, subst, ◌∙◌}
use Rattle.nesc_parse_types.specs.Gives.{Gives}
use Rattle.nesc_configurations.proofs.Forms.{bracket_case, no_bracket}
use Rattle.nesc_configurations.proofs.wires.end_bracket.Goals as goal

pub returns-in-LBracket : goal.returns-in-LBracket
returns-in-LBracket c = subst (Gives c.args.names.now c.found_bracket.result) (sym (bracket_case c.args.spare c.requires.room c.args.names.now c.args.ts.now (sym c.ahead.ensures ∙ c.in-LBracket.is))) c.found_bracket.ensures

pub returns-in_default : goal.returns-in_default
returns-in_default c = no_bracket c.args.spare c.requires.room c.args.names.now c.args.ts.now (λ e. c.in_default.not-LBracket (c.ahead.ensures ∙ e))
