-- Worked examples: what silent steps run, counted by hand.
use Rattle.std.specs.Prelude.{◌≡◌, ℕ, [], ◌∷◌}
use Rattle.nm_base.specs.declared.int_type.IntType.TheVariants.{U8, U16}
use Rattle.nesc_core.specs.Plain.{Program, array, clear, convert, int, void}
use Rattle.core_meaning.specs.Rows as source
use Rattle.mid_code.specs.Reached.{state_at}
use Rattle.msp_select.specs.Weight.{size_of}
use Rattle.lower_stmt.specs.Bodies.{lowered}
use Rattle.lower_stmt.specs.Rows as bodies
use Rattle.lower_pace.specs.Pace.{own_of}
use Rattle.lower_pace.specs.Silent.{silent_size}

-- the silent steps after so many, where each answer is 0, and the instructions that they take
abbrev pub steps_after : Program → ℕ → ℕ
steps_after p n = silent_size (lowered p) (λ i. 1) 100 (state_at (lowered p) 0 (λ i. 0) n)

abbrev pub size_after : Program → ℕ → ℕ
size_after p n = silent_size (lowered p) (size_of (lowered p) (own_of p) 0) 100 (state_at (lowered p) 0 (λ i. 0) n)

-- ---- uint8_t a[3]; port_write(0x0130, 1);

abbrev pub cleared : Program
cleared = source.program [] [] (source.function (array (int U8) 3 ∷ []) void (clear 0 ∷ source.out (convert U16 (source.number 1)) ∷ []) ∷ [])

pub record WorkedRows : Type 0 where
  -- a turn of a loop begins with a label and a Tick
  pub turn_begins : steps_after source.broken 0 ≡ 2
  -- four Sets and a label; three turns of five steps; the branch out, its label, a Set and the Out
  pub bytes_cleared : steps_after cleared 0 ≡ 24
  -- the Sets one each; a turn ten; the branch three; a Set and the Out one each
  pub bytes_weighed : size_after cleared 0 ≡ 39
  -- behind the Tick of a call, the Call and the function's first read
  pub function_called : steps_after bodies.unreturned 1 ≡ 2
