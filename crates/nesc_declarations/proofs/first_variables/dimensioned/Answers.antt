use Rattle.std.proofs.Common.{sym, subst}
use Rattle.nesc_heads.specs.Gives.{GivesAs}
use Rattle.nesc_declarations.specs.Views.{behind_of}
use Rattle.nesc_declarations.proofs.Forms.{dimensioned_is}
use Rattle.nesc_declarations.proofs.first_variables.dimensioned.Goals as goal

pub returns-clause-gives : goal.returns-clause-gives
returns-clause-gives c = subst (GivesAs behind_of c.joined_dimensioned.new.names c.joined_dimensioned.result) (sym (dimensioned_is c.args.spare c.args.names.now c.args.ts.now)) c.joined_dimensioned.ensures.gives
