use Rattle.std.proofs.Common.{◌<◌, length, subst}
use Rattle.graph_rows.proofs.CallerLemmas.{one_more}
use Rattle.graph_rows.proofs.programs.add.Goals as goal

pub returns-in_ok-push : goal.returns-in_ok-push
returns-in_ok-push c =
    one_more c.args.count c.args.list.now.items c.push.new.self.items c.in_ok-statement.field-0 c.requires c.in_ok-statement.ensures
    (subst (λ xs. length xs < 1000) c.deref.ensures.value (c.is_wanted.ensures c.if-is_wanted.true).1) c.in_ok-push.ensures.items
