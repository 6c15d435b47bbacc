use Rattle.std.proofs.Common.{sym, subst}
use Rattle.nesc_grammar.specs.Declarations as spec
use Rattle.nesc_heads.specs.Gives.{GivesAs}
use Rattle.nesc_declarations.specs.Views.{declaring_of}
use Rattle.nesc_declarations.proofs.Forms.{by_at}
use Rattle.nesc_declarations.proofs.declaring.static_end.Goals as goal

pub returns-clause-gives : goal.returns-clause-gives
returns-clause-gives c =
    subst (GivesAs declaring_of c.static_of.new.names c.static_of.result) (sym (by_at c.args.spare spec.static_of c.args.names.now c.args.ts.now c.requires.room c.ahead-first.result c.ahead-first.ensures)) c.static_of.ensures.gives
