use Rattle.std.proofs.Common.{◌<◌, ◌≤◌, length, get_or, arith}
use Rattle.elab_making.proofs.Faults.{stops}
use Rattle.elab_making.specs.View.{whole_of}
use Rattle.elab_meaning.specs.View.{asked_of}
use Rattle.elab_meaning.specs.declared.work.Asked.{Asked}
use Rattle.elab_walk.proofs.Loops.{asked_goes, element, ended, failed, passed}
use Rattle.elab_walk.proofs.asking.all_asked.Goals as goal
use Rattle.elab_walk.specs.Parts as parts
use Rattle.program_meaning.specs.Walk as spec

-- what a list of asked items is read with where it ends
abbrev nothing : Asked
nothing = record { instance = 0; item = 0; at = record { file = 0; line = 0; col = 0 } }

pub returns : goal.returns
returns c = λ t. λ tells.
    let h : length c.args.asked.now ≤ c.loop-a.a-index = omega (arith, c.loop-a-test.false) in
    ended asked_of (parts.one_asked t) (spec.all_asked t) (asked_goes t) c.args.asked.now c.loop-a.a-index (whole_of c.loop-a.whole) _ (c.loop-a.invariant t tells) h

pub returns-in_err-one_asked : goal.returns-in_err-one_asked
returns-in_err-one_asked c = λ t. λ tells.
    let h : c.loop-a.a-index < length c.args.asked.now = omega (arith, c.loop-a-test.true) in
    stops (λ _. tt) c.from_residual.result c.in_err-one_asked.field-0.0 _ _ c.from_residual.ensures
    (failed asked_of (parts.one_asked t) (spec.all_asked t) (asked_goes t) c.args.asked.now c.loop-a.a-index (get_or c.args.asked.now c.loop-a.a-index nothing) (whole_of c.loop-a.whole) _ c.in_err-one_asked.field-0.0
    (c.loop-a.invariant t tells) h (element c.args.asked.now c.loop-a.a-index nothing h) (c.in_err-one_asked.ensures t tells))

pub loop-a-preserved : goal.loop-a-preserved
loop-a-preserved c = λ t. λ tells.
    let h : c.loop-a.a-index < length c.args.asked.now = omega (arith, c.loop-a-test.true) in
    passed asked_of (parts.one_asked t) (spec.all_asked t) (asked_goes t) c.args.asked.now c.loop-a.a-index (get_or c.args.asked.now c.loop-a.a-index nothing) (whole_of c.loop-a.whole) (whole_of c.one_asked.new.whole) _
    (c.loop-a.invariant t tells) h (element c.args.asked.now c.loop-a.a-index nothing h) (c.in_ok-one_asked.ensures t tells)
