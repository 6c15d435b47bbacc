use Rattle.std.proofs.Common.{◌∙◌, rules, w64, FitsSigned}
use Rattle.std.proofs.lemmas.Int.{to_z-of_z}
use Rattle.core_act.proofs.Bytes.{byte_more}
use Rattle.core_act.proofs.locals.local_of.Goals as goal

pub loop-preserved : goal.loop-preserved
loop-preserved c =
    let fits : FitsSigned w64 c.without_low_byte-rest.result = search rules in
    byte_more c.args.size c.loop.counter _ _ _ _ _ _ c.loop-test.true c.in_ok-push.ensures.items c.low_byte.ensures
    (to_z-of_z w64 c.without_low_byte-rest.result fits ∙ c.without_low_byte-rest.ensures) c.loop.invariant
