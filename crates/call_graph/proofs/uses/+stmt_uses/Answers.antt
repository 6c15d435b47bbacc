use Rattle.std.proofs.Common.{◌++◌, ap, ◌∙◌, map}
use Rattle.nesc_core.proofs.PlaceLemmas.{ok_more}
use Rattle.call_graph.specs.View.{use_of}
use Rattle.call_graph.proofs.ViewLists.{both_listed, switch_uses, here_uses}
use Rattle.call_graph.proofs.uses.+stmt_uses.Goals as goal

pub stmt_uses-returns-in_ok-behind-in-Switch-clause-uses : goal.stmt_uses-returns-in_ok-behind-in-Switch-clause-uses
stmt_uses-returns-in_ok-behind-in-Switch-clause-uses t c =
    ok_more _ _ (λ x is. both_listed _ _ _ _ _ c.in_ok-behind-in-Switch.ensures.uses is
    ∙ ap (λ us. map use_of c.args.out.now.items ++ us)
    (switch_uses c.args.node c.in_ok-behind-in-Switch.behind c.args.is_inside c.args.s.now c.in-Switch.e c.in-Switch.field-1 c.in-Switch.list c.in-Switch.is c.in_ok-behind-in-Switch.ensures.next))
    c.stmts_uses-in-Switch.result c.stmts_uses-in-Switch.ensures.uses

pub stmt_uses-returns-in_ok-behind-in-Here-clause-uses : goal.stmt_uses-returns-in_ok-behind-in-Here-clause-uses
stmt_uses-returns-in_ok-behind-in-Here-clause-uses t c =
    ok_more _ _ (λ x is. both_listed _ _ _ _ _ c.in_ok-behind-in-Here.ensures.uses is
    ∙ ap (λ us. map use_of c.args.out.now.items ++ us)
    (here_uses c.args.node c.in_ok-behind-in-Here.behind c.args.is_inside c.args.s.now c.in-Here.args c.in-Here.first c.in-Here.count c.in-Here.body c.deref-in-Here.result.now c.in-Here.is c.in_ok-behind-in-Here.ensures.next c.deref-in-Here.ensures))
    c.stmt_uses-in-Here.result c.stmt_uses-in-Here.ensures.uses
