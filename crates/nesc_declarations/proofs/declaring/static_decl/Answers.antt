use Rattle.std.proofs.Common.{sym, subst}
use Rattle.nesc_heads.specs.Gives.{GivesAs}
use Rattle.nesc_declarations.specs.Views.{declaring_of}
use Rattle.nesc_declarations.proofs.Forms.{static_module}
use Rattle.nesc_declarations.proofs.declaring.static_decl.Goals as goal

pub returns-in-Module-clause-gives : goal.returns-in-Module-clause-gives
returns-in-Module-clause-gives c = subst (GivesAs declaring_of c.joined_static.new.names c.joined_static.result) (sym (static_module c.args.spare c.args.site c.args.names.now c.args.ts.now c.in-Module.is)) c.joined_static.ensures.gives
