use Rattle.std.proofs.Common.{sym, subst}
use Rattle.nesc_heads.specs.Gives.{GivesAs}
use Rattle.nesc_declarations.specs.Views.{behind_of}
use Rattle.nesc_declarations.proofs.Forms.{either_is}
use Rattle.nesc_declarations.proofs.named.end_of.Goals as goal

pub returns-in-Either-clause-gives : goal.returns-in-Either-clause-gives
returns-in-Either-clause-gives c =
    subst (GivesAs behind_of c.ending.new.names c.ending.result) (sym (either_is c.args.spare c.args.behind c.in-Either.site c.args.names.now c.args.ts.now c.in-Either.is c.requires.room c.ahead-first.result c.ahead-first.ensures)) c.ending.ensures.gives
