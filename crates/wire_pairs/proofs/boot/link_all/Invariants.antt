use Rattle.std.proofs.Common.{◌≡◌, drop}
use Rattle.wire_pairs.specs.Pairs.{boots_paired}
use Rattle.wire_pairs.specs.Lookup.{app_of}
use Rattle.wire_pairs.proofs.boot.link_all.Given as goal

abbrev pub invariant-loop-elem : goal.invariant-loop-elem
invariant-loop-elem l = record {
  counted : l.element ≡ l.elem-index;
  paired : boots_paired (app_of l.app) l.element (drop l.elem-index l.elem-items) l.done.items ≡ boots_paired (app_of l.app) 0 l.elem-items l.fn.done.items;
}
