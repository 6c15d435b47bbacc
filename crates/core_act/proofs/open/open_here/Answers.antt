use Rattle.std.proofs.Common.{◌≡◌, ◌+◌, ◌<◌, ◌^◌, refl, arith}
use Rattle.std.proofs.lemmas.Result.{on_ok_weaker}
use Rattle.core_act.specs.declared.task.Callee.TheVariants as callee
use Rattle.core_act.proofs.Opening.{here_pushed}
use Rattle.core_act.proofs.open.open_here.Goals as goal

pub returns : goal.returns
returns c =
    on_ok_weaker c.push_two.result
    (λ new s. here_pushed s _ (record { to = callee.Here c.args.first c.args.count; passed = c.new.result; rest = c.args.args }) c.args.first c.args.count (c.args.first + c.args.count) c.args.body c.end_of_here.result
    refl c.new.ensures.items refl (omega (arith, c.ranges.first.fits, c.ranges.count.fits)) c.end_of_here.ensures c.in_ok-push_three.ensures new) c.push_two.ensures
