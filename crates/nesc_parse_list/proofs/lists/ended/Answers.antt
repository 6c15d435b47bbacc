use Rattle.std.proofs.Common.{◌≡◌, false, sym, subst, ◌∙◌}
use Rattle.nesc_tree.specs.declared.sorts.Sort.{Sort}
use Rattle.nesc_parse_list.specs.Listed.{follows}
use Rattle.nesc_parse_list.proofs.Spelled.{refused_at, stopped}
use Rattle.nesc_parse_list.proofs.lists.ended.Goals as goal

pub returns-else-is_followed-clause-ends : goal.returns-else-is_followed-clause-ends
returns-else-is_followed-clause-ends c =
    refused_at c.args.site c.args.names.now c.decls.new.names c.args.ts.now c.in-Ok.rest.now c.in-Ok.list c.in-Ok.ensures.gives
    (subst (λ (x : Sort). follows x ≡ false) c.ahead.ensures (sym c.is_followed.ensures ∙ c.if-is_followed.false))

pub returns-in-Err-clause-ends : goal.returns-in-Err-clause-ends
returns-in-Err-clause-ends c = stopped c.args.site c.args.names.now c.args.ts.now c.in-Err.stop c.in-Err.ensures.gives
