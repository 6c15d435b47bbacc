use Rattle.std.proofs.Common.{◌≡◌, ◌∙◌, arith, ap, filter, length, subst}
use Rattle.std.proofs.Math.ListN as list
use Rattle.nesc_core.specs.View.{object_of, program_of, type_of}
use Rattle.call_graph.specs.Paths.{below}
use Rattle.race_report.specs.Parts.{is_marked}
use Rattle.race_report.specs.Starts.{is_pointed}
use Rattle.race_report.proofs.Passing.{pushed_next}
use Rattle.race_report.proofs.pointed.pointed_objects.Goals as goal

pub is_pointed_at-requires : goal.is_pointed_at-requires
is_pointed_at-requires c = λ k. ap (λ ms. is_marked ms k) c.deref.ensures.value ∙ c.in_ok-inside.ensures k

pub loop-x-preserved : goal.loop-x-preserved
loop-x-preserved c =
    pushed_next (is_pointed (program_of c.args.p.now) (type_of c.args.t.now)) c.loop-x.x c.loop-x.objects.items c.push_if.new.numbers.items c.is_pointed_at.result
    c.in_ok-push_if.ensures c.is_pointed_at.ensures c.loop-x.invariant

pub returns : goal.returns
returns c =
    let end : c.loop-x.x ≡ length (program_of c.args.p.now).objects =
    omega (arith, c.loop-x-test.false, c.loop-x.auto.x-end, ap length c.as_slice-x-end.ensures, list.length-map c.args.p.now.objects object_of) in
    subst (λ n. c.loop-x.objects.items ≡ filter (is_pointed (program_of c.args.p.now) (type_of c.args.t.now)) (below n)) end c.loop-x.invariant
