use Rattle.std.proofs.Common.{◌-◌, subst}
use Rattle.nesc_tree.specs.declared.sorts.Sort.{Sort}
use Rattle.nesc_grammar.specs.Declarations as spec
use Rattle.nesc_parse_types.specs.Gives.{Gives, form_in}
use Rattle.nesc_declarations.proofs.Forms.{decl_gives}
use Rattle.nesc_declarations.proofs.decl_reader.decl.Goals as goal

pub returns-clause-gives : goal.returns-clause-gives
returns-clause-gives c =
    decl_gives c.args.levels c.args.site c.args.names.now c.decl_at.new.names c.args.ts.now c.decl_at.result c.requires.room
    (subst (λ (x : Sort). Gives c.decl_at.new.names c.decl_at.result (form_in (c.args.levels - 1) (spec.decl_of c.args.site x) c.args.names.now c.args.ts.now)) c.ahead-first.ensures c.decl_at.ensures.gives)
