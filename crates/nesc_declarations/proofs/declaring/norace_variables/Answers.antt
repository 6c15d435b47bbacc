use Rattle.std.proofs.Common.{sym, subst}
use Rattle.nesc_tree.specs.declared.sorts.Sort.TheVariants as s
use Rattle.nesc_grammar.specs.Declarations as spec
use Rattle.nesc_heads.specs.Gives.{GivesAs}
use Rattle.nesc_declarations.specs.Forms as forms
use Rattle.nesc_declarations.specs.Views.{declaring_of}
use Rattle.nesc_declarations.proofs.Forms.{skip_is}
use Rattle.nesc_declarations.proofs.declaring.norace_variables.Goals as goal

pub returns-clause-gives : goal.returns-clause-gives
returns-clause-gives c = subst (GivesAs declaring_of c.joined_norace.new.names c.joined_norace.result) (sym (skip_is c.args.spare s.Norace spec.storages forms.norace_group c.args.names.now c.args.ts.now)) c.joined_norace.ensures.gives
