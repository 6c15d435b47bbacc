use Rattle.std.proofs.Common.{◌≡◌, ◌∙◌, ◌∷◌, ap, rules, w64, to_z, of_z}
use Rattle.std.specs.Prelude.{pos}
use Rattle.std.proofs.lemmas.Result.{on_ok_weaker}
use Rattle.nesc_core.specs.View.{place_of}
use Rattle.core_act.specs.Stacks.{below, top}
use Rattle.core_act.proofs.Operating.{index_accesses, load_accesses, old_accesses, store_accesses, change_accesses, points}
use Rattle.core_act.proofs.reach.access.Goals as goal

pub returns-in_ok-element-in-Index-clause-does : goal.returns-in_ok-element-in-Index-clause-does
returns-in_ok-element-in-Index-clause-does c =
    let i : to_z w64 (of_z w64 c.pop_or-i.result) ≡ top (pos 0) c.args.values.now = search rules in
    on_ok_weaker c.push.result
    (λ new. index_accesses c.args.scope.now (place_of c.args.place.now) c.args.log.now c.indexed.new.log c.args.locals.now c.args.values.now c.args.places.now c.in-Index.is c.pop_or-w.ensures.is i (c.in_ok-element-in-Index.ensures.comes _) c.pop_or-i.ensures.rest (new ∙ ap (λ ws. c.in_ok-element-in-Index.element ∷ ws) c.pop_or-w.ensures.rest)) c.push.ensures

pub returns-in_ok-v-in-Load-clause-does : goal.returns-in_ok-v-in-Load-clause-does
returns-in_ok-v-in-Load-clause-does c =
    let back : to_z w64 (of_z w64 c.in_ok-v-in-Load.v) ≡ c.in_ok-v-in-Load.v = search rules in
    on_ok_weaker c.push-in-Load.result
    (λ new. load_accesses c.args.scope.now (place_of c.args.place.now) c.args.log.now c.load_at.new.log c.args.locals.now c.args.values.now c.args.places.now c.in-Load.is c.pop_or-w.ensures.is c.in_ok-v-in-Load.ensures (new ∙ ap (λ v. v ∷ c.args.values.now) back) c.pop_or-w.ensures.rest) c.push-in-Load.ensures

pub returns-in_ok-push-in-Old-clause-does : goal.returns-in_ok-push-in-Old-clause-does
returns-in_ok-push-in-Old-clause-does c =
    let back : to_z w64 (of_z w64 c.in_ok-v-in-Old.v) ≡ c.in_ok-v-in-Old.v = search rules in
    on_ok_weaker c.push-in-Old-2.result
    (λ new. old_accesses c.args.scope.now (place_of c.args.place.now) c.args.log.now c.load_at-in-Old.new.log c.args.locals.now c.args.values.now c.args.places.now c.in-Old.is c.pop_or-w.ensures.is c.in_ok-v-in-Old.ensures (new ∙ ap (λ v. v ∷ c.args.values.now) back)
    (c.in_ok-push-in-Old.ensures ∙ (λ j. c.pop_or-w.ensures.is j ∷ c.pop_or-w.ensures.rest j))) c.push-in-Old-2.ensures

pub returns-in_ok-store_at-in-Store-clause-does : goal.returns-in_ok-store_at-in-Store-clause-does
returns-in_ok-store_at-in-Store-clause-does c =
    let v : to_z w64 (of_z w64 c.pop_or-v.result) ≡ top (pos 0) c.args.values.now = search rules in
    on_ok_weaker c.push-in-Store.result
    (λ new. store_accesses c.args.scope.now (place_of c.args.place.now) c.args.log.now c.store_at.new.log c.args.locals.now c.args.values.now c.args.places.now c.in-Store.is c.pop_or-w.ensures.is v c.in_ok-store_at-in-Store.ensures (new ∙ (λ j. v j ∷ c.pop_or-v.ensures.rest j)) c.pop_or-w.ensures.rest) c.push-in-Store.ensures

pub returns-in_ok-v-in-Change-clause-does : goal.returns-in_ok-v-in-Change-clause-does
returns-in_ok-v-in-Change-clause-does c =
    let y : to_z w64 (of_z w64 c.pop_or-y.result) ≡ top (pos 0) c.args.values.now = search rules in
    let old : to_z w64 (of_z w64 c.pop_or-old.result) ≡ top (pos 0) (below c.args.values.now) = search rules in
    let back : to_z w64 (of_z w64 c.in_ok-v-in-Change.v) ≡ c.in_ok-v-in-Change.v = search rules in
    let rest = c.pop_or-old.ensures.rest ∙ ap below c.pop_or-y.ensures.rest in
    on_ok_weaker c.push-in-Change.result
    (λ new. change_accesses c.args.scope.now (place_of c.args.place.now) c.args.log.now c.change_at.new.log c.args.locals.now c.args.values.now c.args.places.now c.in-Change.is c.pop_or-w.ensures.is old y c.in_ok-v-in-Change.ensures (new ∙ (λ j. back j ∷ rest j)) c.pop_or-w.ensures.rest) c.push-in-Change.ensures
