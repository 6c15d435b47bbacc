-- The routines of the checks so far.
use Rattle.std.proofs.Common.{◌≡◌, take}
use Rattle.msp_checks.specs.Checks.{check_fns}
use Rattle.msp_checks.specs.Written.{AreOfWords}
use Rattle.msp_checks.proofs.checks.check_routines.Given as goal

abbrev pub invariant-loop-check : goal.invariant-loop-check
invariant-loop-check l = record {
  code : l.code.items ≡ check_fns (take l.check-index l.checks);
  words : AreOfWords (take l.check-index l.checks);
}
