use Rattle.std.proofs.Common.{◌≡◌, slice_get}
use Rattle.wire_pairs.specs.Application.{greatest_in}
use Rattle.elab_targets.specs.View.{element_of}
use Rattle.elab_application.specs.Ends.{IsElement}
use Rattle.elab_application.proofs.Each.{Leads}
use Rattle.elab_application.proofs.elements.elements_of.Given as goal

abbrev pub invariant-loop-elem : goal.invariant-loop-elem
invariant-loop-elem l = record {
  counted : l.number ≡ l.elem-index;
  made : Leads (λ j. IsElement l.ground.units.now l.ground.made.now l.ground.pairs.now l.instance j (greatest_in (slice_get l.facts j))) element_of l.elems l.elem-index l.all.items;
}
