use Rattle.std.proofs.Common.{refl}
use Rattle.well_formed.proofs.found.are_tests.Goals as goal

pub returns : goal.returns
returns c = λ e. record {
  both = (refl, c.if-not-is_test.ensures refl, c.is_test-2.ensures e);
  either = (refl, c.if-not-is_test.ensures refl, c.is_test-2.ensures e);
}
