-- The image meets the premises.
use Rattle.std.proofs.Common.{◌≡◌, ℕ, zero, suc, ◌+◌, ◌*◌, ◌<◌, Some, refl, arith}
use Rattle.msp_isa.specs.Stands.{word_in}
use Rattle.preempt_bodies.specs.Bodies.{IsLine, line_code, reset_code}
use Rattle.preempt_bodies.proofs.Standing.{stand, line_written, reset_written}
use Rattle.compiled_image.specs.Compiled.{IsCompiled}
use Rattle.compiled_image.specs.AtomicImage.{image, marks, AtomicRuns}
use Rattle.compiled_image.proofs.AtomicFunction.{chosen, root, sizes, unmarked}
use Rattle.compiled_image.proofs.Compiled.{compiled_images_run}

line : IsLine image marks 0x4032 (Some 0x4010)
line = record {
  end = 0x4032 + 2 * 30;
  code = stand image (line_code (Some 0x4010)) 0x4032 (line_written (Some 0x4010)) refl (omega arith) (omega arith) refl;
  no_marks = λ a le lt. unmarked a (λ e. omega (arith, e, le)) (λ e. omega (arith, e, le)) (λ e. omega (arith, e, le));
}

vectors : (v : ℕ) → v < 8 → word_in image (0xFFE0 + 2 * v) ≡ 0x4032
vectors zero h = refl
vectors (suc zero) h = refl
vectors (suc (suc zero)) h = refl
vectors (suc (suc (suc zero))) h = refl
vectors (suc (suc (suc (suc zero)))) h = refl
vectors (suc (suc (suc (suc (suc zero))))) h = refl
vectors (suc (suc (suc (suc (suc (suc zero)))))) h = refl
vectors (suc (suc (suc (suc (suc (suc (suc zero))))))) h = refl
vectors (suc (suc (suc (suc (suc (suc (suc (suc k)))))))) h = absurd (omega (arith, h))

compiled : IsCompiled chosen image sizes 0 (λ v. Some 0)
compiled = record {
  low_end = omega arith;
  even_end = refl;
  room = omega arith;
  least_depth = omega arith;
  least_bound = omega arith;
  reset_at = 0x4000;
  vector = refl;
  reset_end = 0x4000 + 2 * 8;
  reset = stand image (reset_code 0x4010) 0x4000 (reset_written 0x4010) refl (omega arith) (omega arith) refl;
  boot_at = refl;
  root = root 53 (omega arith);
  lines = λ v few. record { entry = 0x4032; stands = vectors v few; word = omega arith; code = line; handled = root 25 (omega arith) };
}

pub atomic_runs : AtomicRuns
atomic_runs b rows n words word_rows = compiled_images_run chosen image sizes 0 (λ v. Some 0) b rows 56 n compiled words word_rows (omega arith)
