use Rattle.std.proofs.Common.{◌≡◌, [], arith, length, ap, subst}
use Rattle.std.specs.List.{flat_map}
use Rattle.nesc_core.specs.View.{program_of}
use Rattle.call_graph.specs.Paths.{below}
use Rattle.race_report.specs.Sites.{Grows, body_rows}
use Rattle.race_report.proofs.PathLemmas.{uses_size}
use Rattle.race_report.proofs.RowLemmas.{below_start, below_more}
use Rattle.race_report.proofs.rows.all_rows.Goals as goal

pub loop-f-init : goal.loop-f-init
loop-f-init c = below_start (program_of c.args.s.now.p.now) c.args.s.now.handlers.order.items _ c.new.ensures.items c.new-2.ensures.items

pub loop-f-preserved : goal.loop-f-preserved
loop-f-preserved c =
    below_more (program_of c.args.s.now.p.now) c.args.s.now.handlers.order.items c.loop-f.f c.loop-f.gathered _ c.loop-f.invariant c.in_ok-push_body.ensures

pub returns : goal.returns
returns c =
    let p = program_of c.args.s.now.p.now in
    let end : c.loop-f.f ≡ length p.bodies = omega (arith, c.loop-f-test.false, c.loop-f.auto.f-end, ap length c.as_slice-f-end.ensures.value, uses_size p c.args.s.now.uses.items c.requires.known.uses) in
    subst (λ n. Grows (λ y. flat_map (λ f. body_rows p f y) (below n)) [] c.loop-f.gathered.rows.items) end c.loop-f.invariant.rows
