-- Stack and memory of an image with tasks, beside the program's weights.
use Rattle.std.proofs.Common.{◌≡◌, ℕ, ◌+◌, ◌<◌, ◌≤◌, sym, subst, arith}
use Rattle.nm_base.specs.declared.memory_map.TheConstants.{RAM_BYTES}
use Rattle.nesc_core.specs.Plain.{Program}
use Rattle.nesc_core.specs.Weights.{data_weight}
use Rattle.kernel_laws.specs.Laws.{EachFrameGrowsLittle}
use Rattle.msp_layout.specs.Depth.{IsPath, Names, path_bytes}
use Rattle.msp_layout.specs.Laid.{told}
use Rattle.image_code.proofs.Good.{in_range}
use Rattle.task_image.specs.Order.{lines_of, loop_place}
use Rattle.task_code.specs.Code.{code_of, data_bytes}
use Rattle.task_sizes.specs.Laws.{MemoryIsWithinWeights, StackIsWithinWeight}
use Rattle.task_sizes.proofs.Roots.{base_light, line_light}
use Rattle.task_sizes.proofs.Data.{data_within}

-- which line it is
line_named : (p : Program) (f : ℕ) → Names (lines_of p) f → (v : ℕ) × (v < 8) × (f ≡ loop_place p + 1 + v)
line_named p f m = in_range (loop_place p + 1) 8 f m

pub stack_within : EachFrameGrowsLittle → StackIsWithinWeight
stack_within grow p stack weight h can s w =
    let root : s.from_reset.root ≡ loop_place p = s.from_reset.is_root in
    let base = subst (λ f. IsPath (code_of p) f s.from_reset.path → path_bytes (code_of p) f s.from_reset.path ≤ w.base + 138) (sym root)
    (base_light p h can (grow p) w.base w.of_base s.from_reset.path) s.from_reset.is_path in
    let line = line_named p s.from_lines.root s.from_lines.is_root in
    let at = line.2 in
    let lines = line_light p h can (grow p) w.handlers w.of_handlers line.0 s.from_lines.root line.1 (omega (arith, at)) s.from_lines.path s.from_lines.is_path in
    let met = s.from_reset.met in
    let met2 = s.from_lines.met in
    let sum = s.both in
    let all = w.sum in
    omega (arith, base, lines, met, met2, sum, all)

-- whatever data and stack are
need_within : (ram stack most weight need : ℕ) → stack ≤ weight → ram ≤ most → need ≡ told (ram + stack) → need ≤ most + weight
need_within ram stack most weight need s d tells = omega (arith, s, d, tells)

weights_pass : (ram stack most weight : ℕ) → stack ≤ weight → ram ≤ most → RAM_BYTES < ram + stack → RAM_BYTES < most + weight
weights_pass ram stack most weight s d above = omega (arith, s, d, above)

pub memory_within : EachFrameGrowsLittle → MemoryIsWithinWeights
memory_within grow p weight need h can w pass =
    let s = stack_within grow p pass.stack weight h can pass.is_stack w in
    let d = data_within p in
    record {
      within = need_within (data_bytes p) pass.stack (data_weight p) weight need s d pass.tells;
      pass = weights_pass (data_bytes p) pass.stack (data_weight p) weight s d pass.above;
    }
