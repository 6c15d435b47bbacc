use Rattle.std.proofs.Common.{refl}
use Rattle.nesc_declarations.proofs.Forms.{no_header_end}
use Rattle.nesc_declarations.proofs.named.header_end.Goals as goal

pub returns-in_default : goal.returns-in_default
returns-in_default c = record { gives = no_header_end c.args.spare c.args.names.now c.args.ts.now c.args.first c.in_default.not-LParen c.in_default.not-Dot; back = refl }
