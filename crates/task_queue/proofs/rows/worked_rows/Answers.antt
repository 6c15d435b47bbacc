use Rattle.std.proofs.Common.{refl}
use Rattle.task_queue.proofs.rows.worked_rows.Goals as goal

pub returns : goal.returns
returns c = record {
  numbers_row = (refl, refl);
  to_empty = refl;
  twice = refl;
  second = refl;
  third = refl;
  first_waits = refl;
  middle_waits = refl;
  last_waits = refl;
  first_taken = refl;
  second_taken = refl;
  last_taken = refl;
  none_taken = refl;
  boots = refl;
  posted = refl;
  posted_again = refl;
  taskless_boots = refl;
  queue_frame = refl;
  pop_frame = refl;
  boot_frame = refl;
  data_end = refl;
}
