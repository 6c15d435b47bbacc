use Rattle.std.proofs.Common.{refl}
use Rattle.nesc_declarations.proofs.Forms.{no_end}
use Rattle.nesc_declarations.proofs.named.module_end.Goals as goal

pub returns-in_default : goal.returns-in_default
returns-in_default c =
    record {
      gives = no_end c.args.spare c.args.names.now c.args.ts.now c.args.first c.in_default.not-LParen c.in_default.not-Dot c.in_default.not-LBracket c.in_default.not-At c.in_default.not-Assign c.in_default.not-Comma c.in_default.not-Semi;
      noted = refl;
    }
