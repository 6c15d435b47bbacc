use Rattle.std.proofs.Common.{sym, subst}
use Rattle.nesc_tree.specs.Phrase.{Phrase}
use Rattle.nesc_grammar.specs.Laws.{answer}
use Rattle.nesc_parse_types.specs.Gives.{Gives}
use Rattle.nesc_left_out.proofs.Stands.{ended}
use Rattle.nesc_parse_list.specs.Listed.{most, spare}
use Rattle.nesc_parse_list.proofs.Spelled.{list_form}
use Rattle.nesc_parse_list.proofs.lists.reads_list.Goals as goal

pub returns-clause-told : goal.returns-clause-told
returns-clause-told c =
    ended c.closed_decls-found.new.names c.closed_decls-found.result (answer most (Phrase.decls c.args.site) c.args.names.now c.args.ts.now) c.is_ended-ended.result c.is_ended-ended.ensures
    (subst (Gives c.closed_decls-found.new.names c.closed_decls-found.result) (sym (list_form spare c.args.site c.args.names.now c.args.ts.now)) c.closed_decls-found.ensures.gives)
