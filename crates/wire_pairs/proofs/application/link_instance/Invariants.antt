use Rattle.std.proofs.Common.{◌≡◌, drop}
use Rattle.wire_names.specs.Places.{place_of}
use Rattle.wire_pairs.specs.Pairs.{lines_paired, no_names}
use Rattle.wire_pairs.specs.Lookup.{app_of}
use Rattle.wire_pairs.proofs.application.link_instance.Given as goal

abbrev pub invariant-loop-conf : goal.invariant-loop-conf
invariant-loop-conf l = record {
  counted : l.line ≡ l.conf-index;
  paired : lines_paired (app_of l.app) l.instance l.line (place_of l.scope) (drop l.conf-index l.conf-items) l.done.items
      ≡ lines_paired (app_of l.app) l.instance 0 no_names l.conf-items l.fn.done.items;
}
