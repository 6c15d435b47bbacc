use Rattle.std.proofs.Common.{sym, subst}
use Rattle.nesc_parse_types.specs.Gives.{Gives}
use Rattle.nesc_declarations.proofs.Hiding.{hiding_is}
use Rattle.nesc_declarations.proofs.decl_reader.decl_at.Goals as goal

pub returns-in_default : goal.returns-in_default
returns-in_default c =
    record {
      gives = subst (Gives c.hiding.new.names c.hiding.result) (sym (hiding_is c.args.spare c.args.site c.args.names.now c.args.ts.now c.args.first c.in_default.not-Typedef)) c.hiding.ensures.gives;
      noted = c.hiding.ensures.noted;
    }
