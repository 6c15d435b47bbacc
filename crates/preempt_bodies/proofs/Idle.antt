-- The image whose bodies are empty meets the premises.
use Rattle.std.proofs.Common.{◌≡◌, ℕ, zero, suc, ◌+◌, ◌*◌, ◌<◌, false, List, [], ◌∷◌, Some, refl, arith}
use Rattle.nm_base.specs.declared.action.Action.{Action}
use Rattle.msp_isa.specs.declared.instr.Op2.TheVariants.{Mov}
use Rattle.msp_isa.specs.declared.instr.Operand.TheVariants.{Reg, Increment}
use Rattle.msp_isa.specs.declared.instr.Instr.TheVariants.{Two}
use Rattle.msp_isa.specs.Encode.{IsBase}
use Rattle.msp_isa.specs.Stands.{word_in}
use Rattle.open_law.specs.Stands.{IsMarked}
use Rattle.open_law.specs.Body.{acts, IsOpenBody}
use Rattle.open_law.specs.Laws.{nothing}
use Rattle.open_law.proofs.Law.{functions_are_bodies}
use Rattle.open_law.proofs.Lone.{lone_return}
use Rattle.open_law.proofs.Wider.{wider_is_met}
use Rattle.preempt_bodies.specs.Bodies.{Sizes, IsBuilt, IsLine, line_code, reset_code}
use Rattle.preempt_bodies.specs.Example.{idle_source, idle_image, IdleRuns}
use Rattle.preempt_bodies.proofs.Standing.{stand, line_written, reset_written}
use Rattle.preempt_bodies.proofs.Survival.{survives}
use Rattle.preempt_bodies.proofs.Whole.{runs_as_source}

unmarked : ℕ → List Action
unmarked a = []

line : IsLine idle_image unmarked 0x4012 (Some 0x4010)
unfolding unmarked
line = record {
  end = 0x4012 + 2 * 30;
  code = stand idle_image (line_code (Some 0x4010)) 0x4012 (line_written (Some 0x4010)) refl (omega arith) (omega arith) refl;
  no_marks = λ a le lt. refl;
}

vectors : (v : ℕ) → v < 8 → word_in idle_image (0xFFE0 + 2 * v) ≡ 0x4012
vectors zero h = refl
vectors (suc zero) h = refl
vectors (suc (suc zero)) h = refl
vectors (suc (suc (suc zero))) h = refl
vectors (suc (suc (suc (suc zero)))) h = refl
vectors (suc (suc (suc (suc (suc zero))))) h = refl
vectors (suc (suc (suc (suc (suc (suc zero)))))) h = refl
vectors (suc (suc (suc (suc (suc (suc (suc zero))))))) h = refl
vectors (suc (suc (suc (suc (suc (suc (suc (suc k)))))))) h = absurd (omega (arith, h))

-- no data; the boot body's return address; an acceptance and 26 bytes of entry
abbrev sizes : Sizes
sizes = record { data_end = 0x1100; boot = 0x4010; boot_depth = 0; handler_depth = 26; bound = 30 }

ret : IsMarked idle_image unmarked 0x4010 [] (Two Mov false (Increment 1) (Reg 0))
unfolding unmarked
ret = record {
  at = record { even = refl; low = omega arith; high = omega arith; written = ((base, λ e. omega (arith, e)), omega arith); rest = 0x120F ∷ 0x120E ∷ []; words = refl };
  table = refl;
}
  where
    base : IsBase 1
    base = (omega arith, (λ e. omega (arith, e)), λ e. omega (arith, e))

body : IsOpenBody idle_image 0x1100 unmarked (acts nothing) 0x4010 0 2
body = functions_are_bodies idle_image 0x1100 unmarked 0 nothing 0x4010 0 2 (lone_return idle_image 0x1100 unmarked 0x4010 (omega arith) ret)

built : IsBuilt idle_source idle_image unmarked sizes
built =
    let boot = wider_is_met idle_image 0x1100 unmarked (acts nothing) 0x4010 0 0 2 30 (omega arith) (omega arith) body in
    let s = survives idle_image 0x1100 unmarked (acts nothing) 0x4012 0 2 (Some 0x4010) (omega arith) (omega arith) line (omega arith, refl, body.1) in
    record {
      low_end = omega arith;
      even_end = refl;
      room = omega arith;
      some = omega arith;
      reset_at = 0x4000;
      vector = refl;
      reset_end = 0x4000 + 2 * 8;
      reset = stand idle_image (reset_code 0x4010) 0x4000 (reset_written 0x4010) refl (omega arith) (omega arith) refl;
      even_boot = refl;
      low_boot = omega arith;
      body = boot.0;
      handlers = λ v few. record { entry = 0x4012; stands = vectors v few; word = omega arith; law = s };
    }

pub idle_runs : IdleRuns
idle_runs b rows n words word_rows = runs_as_source idle_source idle_image unmarked sizes b rows 33 n words word_rows built (omega arith)
