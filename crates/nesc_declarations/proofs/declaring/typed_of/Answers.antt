use Rattle.std.proofs.Common.{refl}
use Rattle.nesc_declarations.proofs.Forms.{no_typed}
use Rattle.nesc_declarations.proofs.declaring.typed_of.Goals as goal

pub returns-in_default : goal.returns-in_default
returns-in_default c = record { gives = no_typed c.args.spare c.args.names.now c.args.ts.now c.args.shared c.args.site c.args.first c.in_default.not-Semi c.in_default.not-Star c.in_default.not-Word c.in_default.not-TypeName; noted = refl }
