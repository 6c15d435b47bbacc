use Rattle.std.proofs.Common.{sym, subst}
use Rattle.nesc_grammar.specs.Declarations as spec
use Rattle.nesc_heads.specs.Gives.{GivesAs}
use Rattle.nesc_declarations.specs.Views.{declaring_of}
use Rattle.nesc_declarations.proofs.Forms.{applied_by}
use Rattle.nesc_declarations.proofs.declaring.typed_end.Goals as goal

pub returns-clause-gives : goal.returns-clause-gives
returns-clause-gives c =
    subst (GivesAs declaring_of c.typed_of.new.names c.typed_of.result) (sym (applied_by c.args.spare c.args.shared (spec.typed_of c.args.site) c.args.names.now c.args.ts.now c.requires.room c.ahead-first.result c.ahead-first.ensures)) c.typed_of.ensures.gives
