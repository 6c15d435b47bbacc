use Rattle.std.proofs.Common.{refl, codes, [], ◌∷◌}
use Rattle.wire_reading.specs.Rows.{opens, blink, one, ring, two_faults, one_fault, file}
use Rattle.wire_reading.proofs.Computes.{files_computed}
use Rattle.wire_reading.proofs.laws.worked_rows.Goals as goal

pub returns : goal.returns
returns c = record {
  blinks = files_computed (opens blink) 9 (codes "BlinkAppC") (codes "MainC") [] _ refl;
  main_last = files_computed (opens one) 9 (codes "OneC") (codes "MainC") [] _ refl;
  in_a_ring = files_computed (opens ring) 9 (codes "A") (codes "M") [] _ refl;
  first_of_two = files_computed (opens two_faults) 9 (codes "A") (codes "M") [] _ refl;
  second_of_two = files_computed (opens one_fault) 9 (codes "A") (codes "M") [] _ refl;
  missing_main = files_computed (opens (file (codes "A") [] [] ∷ [])) 9 (codes "A") (codes "M") [] _ refl;
}
