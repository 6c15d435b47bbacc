use Rattle.std.proofs.Common.{◌≡◌, ◌+◌, ◌<◌, ◌≤◌, length, slice_get, ap, ◌∙◌, arith}
use Rattle.wire_pairs.specs.Application.{greatest_in}
use Rattle.elab_targets.specs.View.{element_of}
use Rattle.elab_application.specs.Ends.{IsElement}
use Rattle.elab_application.proofs.Each.{made_all, made_more}
use Rattle.elab_application.proofs.Parts.{element_as}
use Rattle.elab_application.proofs.elements.elements_of.Goals as goal

pub loop-elem-preserved : goal.loop-elem-preserved
loop-elem-preserved c =
    let ground = c.args.ground.now in
    let facts = c.args.facts.now in
    let k = c.loop-elem.elem-index in
    let below : k < length c.args.elems.now = omega (arith, c.loop-elem-test.true) in
    let greatest : c.greatest_at.result ≡ greatest_in (slice_get facts k) = c.greatest_at.ensures ∙ ap (λ j. greatest_in (slice_get facts j)) c.loop-elem.invariant.counted in
    record {
      counted = ap (λ j. j + 1) c.loop-elem.invariant.counted;
      made = made_more (λ j. IsElement ground.units.now ground.made.now ground.pairs.now c.args.instance j (greatest_in (slice_get facts j))) element_of c.args.elems.now k c.elem-item.result
          c.loop-elem.all.items c.push.new.self.items c.in_ok-element.field-0 below c.elem-item.is
          (element_as ground.units.now ground.made.now ground.pairs.now c.args.instance c.in_ok-short.field-0 k c.greatest_at.result (greatest_in (slice_get facts k)) c.elem-item.result (element_of c.in_ok-element.field-0)
          (c.in_ok-short.ensures ∙ c.loop-elem.invariant.counted) greatest c.in_ok-element.ensures)
          c.in_ok-push.ensures.items c.loop-elem.invariant.made;
    }

pub returns : goal.returns
returns c =
    let ground = c.args.ground.now in
    let past : length c.args.elems.now ≤ c.loop-elem.elem-index = omega (arith, c.loop-elem-test.false) in
    made_all (λ j. IsElement ground.units.now ground.made.now ground.pairs.now c.args.instance j (greatest_in (slice_get c.args.facts.now j))) element_of c.args.elems.now c.loop-elem.elem-index
    c.loop-elem.all.items past c.loop-elem.invariant.made
