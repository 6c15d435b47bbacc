use Rattle.std.proofs.Common.{◌≡◌, ◌∙◌, ◌∷◌, ap, rules, w64, to_z, of_z}
use Rattle.std.specs.Prelude.{pos}
use Rattle.std.proofs.lemmas.Result.{on_ok_weaker}
use Rattle.nesc_core.specs.View.{type_of}
use Rattle.core_act.specs.Stacks.{below, top}
use Rattle.core_act.proofs.Operating.{index_accesses, load_accesses, old_accesses, store_accesses, change_accesses, points}
use Rattle.core_act.proofs.reach.point.Goals as goal

pub returns-clause-does : goal.returns-clause-does
returns-clause-does c =
    let p : to_z w64 (of_z w64 c.pop_or-pointer.result) ≡ top (pos 0) c.args.values.now = search rules in
    on_ok_weaker c.push.result (λ new. points c.args.scope.now (type_of c.args.t.now) c.args.log.now c.pointed.new.log c.args.values.now c.args.places.now p c.in_ok-w.ensures.comes c.pop_or-pointer.ensures.rest new) c.push.ensures
