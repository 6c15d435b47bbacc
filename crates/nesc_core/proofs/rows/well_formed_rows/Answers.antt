use Rattle.std.proofs.Common.{arith, None}
use Rattle.nesc_core.proofs.WellFormedRowLemmas.{good_is_well_formed, good_has_no_cycle}
use Rattle.nesc_core.proofs.rows.well_formed_rows.Goals as goal

pub returns : goal.returns
returns c = record {
  well_formed = good_is_well_formed;
  no_cycle = good_has_no_cycle;
  too_great = λ t h. cc h.1;
  not_promoted = λ t h. h.1;
  not_converted = λ t h. cc h.3.0;
  no_such_port = λ t h. cc h.1;
  argument_left_out = λ t h. h.1;
  no_such_task = λ t h. omega (arith, h.1);
  no_array = λ t h. h.2.0;
  no_such_field = λ t h. omega (arith, h.2.0);
  break_outside = λ h. cc h;
  continue_in_switch = λ h. cc h.2.0;
  case_outside = λ h. omega (arith, h.1 0 (record { value = None; start = 0 }) (omega arith));
  break_out_of_here = λ h. cc h.2.1;
}
