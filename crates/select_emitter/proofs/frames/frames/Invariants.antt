-- The frames so far.
use Rattle.std.proofs.Common.{◌≡◌, ℕ, ◌<◌, length}
use Rattle.std.specs.Prelude.{slice_index_or}
use Rattle.mid_code.specs.Machine.{fn_of}
use Rattle.select_emitter.specs.Scoped.{IsFrame, no_frame}
use Rattle.select_emitter.proofs.frames.frames.Given as goal

abbrev pub invariant-loop-f : goal.invariant-loop-f
invariant-loop-f l = record {
  many : length l.frames.items ≡ l.f;
  each : (f : ℕ) → f < l.f → IsFrame (fn_of l.c f) (slice_index_or l.frames.items f no_frame);
}
