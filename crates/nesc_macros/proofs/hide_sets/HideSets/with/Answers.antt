use Rattle.std.proofs.Common.{◌≡◌, ◌∙◌, ◌++◌, ◌∷◌, [], List, Some, ap, length}
use Rattle.std.specs.Prelude.{slice_get}
use Rattle.nesc_macros.specs.declared.hide_sets.Link.{Link}
use Rattle.nesc_macros.specs.Sets.{numbers_in}
use Rattle.nesc_macros.proofs.Linked.{added, at_end}
use Rattle.nesc_macros.proofs.hide_sets.HideSets.with.Goals as goal

pub returns-clause-set : goal.returns-clause-set
returns-clause-set c links extends =
    let old : List Link = c.args.self.now.links.items in
    let link : Link = record { number = c.args.number; rest = c.args.set.now } in
    let place : c.in-Ok.place ≡ length old = c.in-Ok.ensures.1 ∙ ap length c.as_slice.ensures.value in
    let pushed : c.push.new.self.items ≡ old ++ link ∷ [] = c.in_ok-push.ensures.items in
    let at : slice_get c.push.new.self.items c.in-Ok.place ≡ Some link = (λ i. slice_get (pushed i) (place i)) ∙ at_end old link in
    (λ i. numbers_in links (record { len = c.in-Some.len; place = c.in-Ok.place; least = c.min.ensures i; greatest = c.max.ensures i }))
    ∙ added links c.args.set.now c.in-Ok.place c.args.number c.in-Some.len c.in-Some.ensures.1 (extends _ _ at)
