use Rattle.std.proofs.Common.{◌∙◌, sym}
use Rattle.nesc_macros.proofs.Linked.{past_bounds}
use Rattle.nesc_macros.proofs.hide_sets.HideSets.contains.Goals as goal

pub returns : goal.returns
returns c links extends = sym (past_bounds links c.loop-rest.rest c.args.number (sym c.may_have.ensures ∙ c.loop-rest-test.false)) ∙ c.loop-rest.invariant links extends
