use Rattle.std.proofs.Common.{◌∙◌, sym}
use Rattle.nesc_preproc.proofs.Parameters.{step}
use Rattle.nesc_preproc.proofs.definitions.parameters_of.Goals as goal

-- src/definitions.rt:118:5
pub loop-parameter-preserved : goal.loop-parameter-preserved
loop-parameter-preserved c =
    step _ _ _ _ _ _ _ _ _ _ c.in-Some.ensures.cases.0 c.in-Some-split_first.ensures.cases.0 c.as_slice.ensures.value (sym c.next_parameter.ensures ∙ c.in-More.is) c.in_ok-clone-in-More.ensures.cases c.in_ok-push-in-More.ensures.items
    ∙ c.loop-parameter.invariant
