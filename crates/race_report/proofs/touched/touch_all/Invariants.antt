use Rattle.std.proofs.Common.{◌≡◌, drop}
use Rattle.race_report.specs.Firsts.{with_firsts}
use Rattle.race_report.proofs.touched.touch_all.Given as goal

abbrev pub invariant-loop-x : goal.invariant-loop-x
invariant-loop-x l = with_firsts l.f l.firsts.items (drop l.x-index l.objects) ≡ with_firsts l.f l.fn.firsts.items l.objects
