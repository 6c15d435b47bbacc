use Rattle.std.proofs.Common.{◌∙◌, ap, length, replicate, sym}
use Rattle.std.proofs.Math.ListN as list
use Rattle.nesc_core.specs.View.{object_of, program_of}
use Rattle.race_report.proofs.FirstLemmas.{nobody, going_start, going_next, going_end}
use Rattle.race_report.proofs.touched.first_bodies.Goals as goal

pub loop-f-init : goal.loop-f-init
loop-f-init c =
    going_start (program_of c.args.p.now) c.args.order.now _
    (c.in_ok-none_touched.ensures ∙ ap (λ n. replicate n nobody) (ap length c.as_slice.ensures ∙ sym (list.length-map c.args.p.now.objects object_of)))
    c.new.ensures.items

pub loop-f-preserved : goal.loop-f-preserved
loop-f-preserved c =
    going_next (program_of c.args.p.now) c.args.order.now c.args.order.now c.loop-f.f-index _ c.loop-f.touched _ c.loop-f-test.true c.in_ok-touch_body.ensures c.loop-f.invariant

pub returns : goal.returns
returns c = going_end (program_of c.args.p.now) c.args.order.now c.args.order.now c.loop-f.f-index c.loop-f.touched c.loop-f-test.false c.loop-f.invariant
