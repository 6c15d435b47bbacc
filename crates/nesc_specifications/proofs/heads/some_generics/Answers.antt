use Rattle.std.proofs.Common.{refl, sym, subst, ◌∙◌, arith}
use Rattle.nesc_parse_types.specs.Gives.{Gives}
use Rattle.nesc_specifications.proofs.Forms.{generics_case, no_generics}
use Rattle.nesc_specifications.proofs.heads.some_generics.Goals as goal

pub returns-in-LParen-clause-gives : goal.returns-in-LParen-clause-gives
returns-in-LParen-clause-gives c = subst (Gives c.found_generics.new.names c.found_generics.result) (sym (generics_case c.args.spare (omega (arith, c.requires.room)) c.args.names.now c.args.ts.now (sym c.ahead.ensures ∙ c.in-LParen.is))) c.found_generics.ensures.gives

pub returns-in_default : goal.returns-in_default
returns-in_default c = record { gives = no_generics c.args.spare (omega (arith, c.requires.room)) c.args.names.now c.args.ts.now (λ e. c.in_default.not-LParen (c.ahead.ensures ∙ e)); noted = refl }
