use Rattle.std.proofs.Common.{refl}
use Rattle.mote_text.specs.ImageLines.{image_of, spaced_bytes}
use Rattle.mote_text.specs.ScheduleText.{schedule_of}
use Rattle.mote_text.proofs.rows.worked_rows.Goals as goal

pub returns-clause-images : goal.returns-clause-images
unfolding image_of spaced_bytes
returns-clause-images c = record {
  half_byte = refl;
  named_twice = refl;
  no_end = refl;
  no_end_of_line = refl;
  nothing = refl;
  below_memory = refl;
  past_memory = refl;
  nine_digits = refl;
  no_address = refl;
  behind_end = refl;
  two_spaces = refl;
  first_space = refl;
  seventeen = refl;
  lone_return = refl;
  low_byte = refl;
  vector = refl;
  unnamed = refl;
}

pub returns-clause-schedules : goal.returns-clause-schedules
unfolding schedule_of
returns-clause-schedules c = record {
  slots_fall = refl;
  ninth_device = refl;
  seventeen_bits = refl;
  late = refl;
  eleven_digits = refl;
  unplugged = refl;
  four_operands = refl;
  last = refl;
  nothing = refl;
}
