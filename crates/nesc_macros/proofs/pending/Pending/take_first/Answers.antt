use Rattle.std.proofs.Common.{◌∙◌, drop, take, ap, sym, subst}
use Rattle.std.proofs.lemmas.List.{drop-map, take-map}
use Rattle.nesc_macros.specs.declared.waiting.Waiting.{Waiting}
use Rattle.nesc_macros.specs.Groups.{AreGrouped, parts}
use Rattle.nesc_macros.proofs.Grouped.{grouped_take}
use Rattle.nesc_macros.proofs.pending.Pending.take_first.Goals as goal

pub invariant_of-result : goal.invariant_of-result
invariant_of-result c = subst AreGrouped (sym c.in_ok-take_first.ensures.first) (grouped_take c.args.count c.self.inside.tokens.items c.self.invariant)

pub returns-clause-first : goal.returns-clause-first
returns-clause-first c =
    ap parts c.in_ok-take_first.ensures.first ∙ sym (take-map (λ (w : Waiting). w.part) c.args.count c.self.inside.tokens.items) ∙ ap (take c.args.count) c.self.view_is

pub returns-clause-others : goal.returns-clause-others
returns-clause-others c =
    ap parts c.in_ok-take_first.ensures.others ∙ sym (drop-map (λ (w : Waiting). w.part) c.args.count c.self.inside.tokens.items) ∙ ap (drop c.args.count) c.self.view_is
