use Rattle.std.proofs.Common.{◌+◌, List, drop, sym, ap, ◌∙◌}
use Rattle.wire_names.specs.Places.{place_of}
use Rattle.wire_pairs.specs.declared.ends.Pair.{Pair}
use Rattle.wire_pairs.specs.Application.{Scope, scope_behind}
use Rattle.wire_pairs.specs.Ends.{Linked, ◌>>=◌}
use Rattle.wire_pairs.specs.Pairs.{lines_paired}
use Rattle.wire_pairs.specs.Lookup.{app_of}
use Rattle.wire_pairs.proofs.Steps.{line_next}
use Rattle.wire_pairs.proofs.application.link_instance.Goals as goal

pub loop-conf-preserved : goal.loop-conf-preserved
loop-conf-preserved c =
    let app = app_of c.args.app.now in
    let i = c.args.instance in
    let n = c.loop-conf.line in
    let ls = c.lines_at-conf-items.result.now in
    let rest = drop (c.loop-conf.conf-index + 1) ls in
    let scope = place_of c.loop-conf.scope in
    let step = line_next app i n scope ls c.loop-conf.conf-index c.conf-item.result c.loop-conf.done.items c.loop-conf-test.true c.conf-item.is in
    record {
      counted = ap (λ k. k + 1) c.loop-conf.invariant.counted;
      paired =
          sym (
          step
          ∙ (ap (λ (r : Linked (List Pair)). r >>= λ ps. lines_paired app i (n + 1) (scope_behind app i n c.conf-item.result scope) rest ps) c.in_ok-link_line.ensures.linked
          ∙ ap (λ (s : Scope). lines_paired app i (n + 1) s rest c.link_line.new.done.items) (sym c.in_ok-declare_line.ensures)))
          ∙ c.loop-conf.invariant.paired;
    }
