use Rattle.std.proofs.Common.{◌≡◌, ◌∙◌, ap, refl, rules, length}
use Rattle.std.proofs.Math.ListN as list
use Rattle.nm_base.specs.Behaviour.{Performed}
use Rattle.nesc_core.specs.View.{program_of}
use Rattle.core_act.proofs.WellFormedHolds.{well_formed_holds}
use Rattle.core_act.proofs.Ending.{fresh, root_actions}
use Rattle.core_act.proofs.actions.performed.Goals as goal

pub enter-requires : goal.enter-requires
enter-requires c = fresh _ c.new-2.ensures (well_formed_holds _ c.requires)

pub returns-clause-actions : goal.returns-clause-actions
returns-clause-actions c =
    let deep : length c.as_slice.result.now ≡ length (program_of c.args.p.now).bodies = search (rules, list.length-map, c.as_slice.ensures) in
    ap (λ (r : Performed). r.actions) (c.in_ok-finish.ensures ∙ root_actions _ c.args.body c.args.answers.now _ c.in_ok-enter.ensures deep c.new-2.ensures c.new.ensures.items refl refl)

pub returns-clause-ended : goal.returns-clause-ended
returns-clause-ended c =
    let deep : length c.as_slice.result.now ≡ length (program_of c.args.p.now).bodies = search (rules, list.length-map, c.as_slice.ensures) in
    ap (λ (r : Performed). r.ended) (c.in_ok-finish.ensures ∙ root_actions _ c.args.body c.args.answers.now _ c.in_ok-enter.ensures deep c.new-2.ensures c.new.ensures.items refl refl)
