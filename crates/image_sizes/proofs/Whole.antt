-- Stack and data of an image, beside the program's weights.
use Rattle.std.proofs.Common.{◌≡◌, ℕ, ◌+◌, ◌≤◌, subst, arith}
use Rattle.lower_stmt.specs.Bodies.{lowered}
use Rattle.msp_layout.specs.Depth.{IsPath, path_bytes}
use Rattle.msp_routines.specs.Routines.{routine_fns}
use Rattle.program_image.specs.Order.{reset_place}
use Rattle.image_code.specs.Code.{code_of}
use Rattle.image_code.proofs.Good.{line_named}
use Rattle.image_code.proofs.Whole.{are_routines}
use Rattle.image_sizes.specs.Laws.{DataIsWithinWeight, MemoryIsWithinWeights, StackIsWithinWeight}
use Rattle.image_sizes.proofs.Chains.{base_light, line_light}

pub stack_within : StackIsWithinWeight
stack_within p stack weight h can s w =
    let base = subst (λ f. IsPath (code_of p) f s.from_reset.path → path_bytes (code_of p) f s.from_reset.path ≤ w.base + 62) (back s.from_reset.root (reset_place p) s.from_reset.is_root)
    (base_light p h can w.base w.of_base s.from_reset.path) s.from_reset.is_path in
    let line = line_named p h.well h.ranked h.short (routine_fns (lowered p).checks) (are_routines (lowered p).checks can.few can.words) s.from_lines.root s.from_lines.is_root in
    let at = line.2 in
    let lines = line_light p h can w.handlers w.of_handlers line.0 s.from_lines.root line.1 (omega (arith, at)) s.from_lines.path s.from_lines.is_path in
    let met = s.from_reset.met in
    let met2 = s.from_lines.met in
    let sum = s.both in
    let all = w.sum in
    omega (arith, base, lines, met, met2, sum, all)
  where
    back : (a b : ℕ) → a ≡ b → b ≡ a
    back a b e = omega (arith, e)

pub data_within : DataIsWithinWeight
data_within p = omega arith

pub memory_within : MemoryIsWithinWeights
memory_within p weight need h can w pass =
    let s = stack_within p pass.stack weight h can pass.is_stack w in
    let d = data_within p in
    let above = pass.above in
    let tells = pass.tells in
    record { within = omega (arith, s, d, tells); pass = omega (arith, s, d, above) }
