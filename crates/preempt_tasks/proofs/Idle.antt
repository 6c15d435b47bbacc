-- The image with one task, whose bodies do nothing, meets the premises.
use Rattle.std.proofs.Common.{◌≡◌, ℕ, pos, negsuc, zero, suc, ◌+◌, ◌*◌, ◌<◌, ◌≤◌, ◌==◌, false, cond, List, [], ◌∷◌, Some, None, refl, sym, ap, ◌∙◌, arith}
use Rattle.std.proofs.lemmas.Bool.Decides.{nat_tests}
use mathlib.Core.Logic.{inl, inr}
use Rattle.std.specs.List.{AllByRecursion}
use Rattle.nm_base.specs.declared.action.Action.{Action}
use Rattle.nm_base.specs.Behaviour.{Returned, play}
use Rattle.msp_isa.specs.declared.instr.Op2.TheVariants.{Mov}
use Rattle.msp_isa.specs.declared.instr.Operand.TheVariants.{Reg, Immediate}
use Rattle.msp_isa.specs.declared.instr.Cond.TheVariants.{Jmp, Jne}
use Rattle.msp_isa.specs.declared.instr.Instr.TheVariants.{Two, Jump}
use Rattle.msp_isa.specs.Encode.{IsBase, IsWritten}
use Rattle.msp_isa.specs.Stands.{word_in}
use Rattle.open_law.specs.Stands.{IsMarked}
use Rattle.open_law.specs.Body.{acts, IsOpenBody}
use Rattle.open_law.specs.Laws.{nothing}
use Rattle.open_law.proofs.Law.{functions_are_bodies}
use Rattle.open_law.proofs.Lone.{lone_return}
use Rattle.open_law.proofs.Wider.{wider_is_met}
use Rattle.code_pieces.specs.Pieces.{open_gate}
use Rattle.preempt_bodies.specs.Bodies.{IsLine, call, line_code}
use Rattle.preempt_bodies.proofs.Standing.{stand, line_written}
use Rattle.preempt_bodies.proofs.Survival.{survives}
use Rattle.preempt_tasks.specs.Bodies.{Sizes, IsTask, IsTaskImage, loop_code, ret}
use Rattle.preempt_tasks.specs.Example.{idle_kernel, idle_image, IdleLoopRuns}
use Rattle.preempt_tasks.proofs.Bytes.{bytes_given}
use Rattle.preempt_tasks.proofs.Fixed.{fixed_shut}
use Rattle.preempt_tasks.proofs.Whole.{runs_as_loop}

unmarked : ℕ → List Action
unmarked a = []

-- no data; a body's return address; an acceptance and 26 bytes of entry
abbrev sizes : Sizes
sizes = record { data_end = 0x1100; boot = 0x4032; pop = 0x4034; none = 0x4032; tasks = 0x4032 ∷ []; base_depth = 0; handler_depth = 26; bound = 30 }

line : IsLine idle_image unmarked 0x403A (Some 0x4032)
unfolding unmarked
line = record {
  end = 0x403A + 2 * 30;
  code = stand idle_image (line_code (Some 0x4032)) 0x403A (line_written (Some 0x4032)) refl (omega arith) (omega arith) refl;
  no_marks = λ a le lt. refl;
}

called : (body : ℕ) → IsWritten (call body)
called body = (tt, refl)

sets : IsWritten open_gate
sets = (inr (inr (inl refl)), omega arith)

over : IsWritten (Jump Jne (pos 3))
over = (omega arith, omega arith)

over_one : IsWritten (Jump Jne (pos 2))
over_one = (omega arith, omega arith)

again : IsWritten (Jump Jmp (negsuc 9))
again = (omega arith, omega arith)

back : IsWritten (Jump Jmp (negsuc 19))
back = (omega arith, omega arith)

loop_written : AllByRecursion IsWritten (loop_code 0x4000 false sizes)
loop_written = ((tt, omega arith), (sets, (called 0x4032, (sets, ((inl (inl refl), omega arith), (called 0x4034, ((tt, omega arith), (over, ((tt, omega arith), (again, ((tt, omega arith), ((tt, omega arith), (over_one, ((tt, omega arith), (sets, (((omega arith, λ e. omega (arith, e)), refl), (back, tt)))))))))))))))))

vectors : (v : ℕ) → v < 8 → word_in idle_image (0xFFE0 + 2 * v) ≡ 0x403A
vectors zero h = refl
vectors (suc zero) h = refl
vectors (suc (suc zero)) h = refl
vectors (suc (suc (suc zero))) h = refl
vectors (suc (suc (suc (suc zero)))) h = refl
vectors (suc (suc (suc (suc (suc zero))))) h = refl
vectors (suc (suc (suc (suc (suc (suc zero)))))) h = refl
vectors (suc (suc (suc (suc (suc (suc (suc zero))))))) h = refl
vectors (suc (suc (suc (suc (suc (suc (suc (suc k)))))))) h = absurd (omega (arith, h))

base : IsBase 1
base = (omega arith, (λ e. omega (arith, e)), λ e. omega (arith, e))

returns : IsMarked idle_image unmarked 0x4032 [] ret
unfolding unmarked
returns = record {
  at = record { even = refl; low = omega arith; high = omega arith; written = ((base, λ e. omega (arith, e)), omega arith); rest = 0x403C ∷ 0x00FF ∷ []; words = refl };
  table = refl;
}

puts : IsMarked idle_image unmarked 0x4034 [] (Two Mov false (Immediate 255) (Reg 12))
unfolding unmarked
puts = record {
  at = record { even = refl; low = omega arith; high = omega arith; written = (tt, omega arith); rest = 0x4130 ∷ []; words = refl };
  table = refl;
}

ends : IsMarked idle_image unmarked (0x4034 + 4) [] ret
unfolding unmarked
ends = record {
  at = record { even = refl; low = omega arith; high = omega arith; written = ((base, λ e. omega (arith, e)), omega arith); rest = 0x120F ∷ 0x120E ∷ []; words = refl };
  table = refl;
}

body : IsOpenBody idle_image 0x1100 unmarked (acts nothing) 0x4032 0 2
body = functions_are_bodies idle_image 0x1100 unmarked 0 nothing 0x4032 0 2 (lone_return idle_image 0x1100 unmarked 0x4032 (omega arith) returns)

wide_body : IsOpenBody idle_image 0x1100 unmarked (acts nothing) 0x4032 0 30
wide_body = wider_is_met idle_image 0x1100 unmarked (acts nothing) 0x4032 0 0 2 30 (omega arith) (omega arith) body

task : (k : ℕ) → k < 1 → IsTask idle_kernel idle_image unmarked sizes k
task zero lt = record { body = 1; is = refl; even_start = refl; low_start = omega arith; law = wide_body.0 }
task (suc k) lt = absurd (omega (arith, lt))

some_same : (a b : ℕ) → Some a ≡ Some b → a ≡ b
some_same a b e = cc

none_some : (a : ℕ) → None ≡ Some a → ⊥
none_some a e = cc

returned_same : (a b : ℕ) → Returned a ≡ Returned b → a ≡ b
returned_same a b e = cc

no_task : (k : ℕ) → 1 ≤ k → idle_kernel.task k ≡ None
no_task k le = let t : (k == 0) ≡ false = grind (arith, nat_tests) in ap (λ b. cond b (Some 1) None) t

no_pop : (k : ℕ) → idle_kernel.task k ≡ Some 2 → ⊥
no_pop zero e = let h = some_same 1 2 e in omega (arith, h)
no_pop (suc k) e = none_some 2 (sym (no_task (suc k) (omega arith)) ∙ e)

gives : (turns value : ℕ) (answers : List ℕ) → (play (idle_kernel.does 2 turns) answers).why ≡ Returned value → value ≤ 255
gives turns value answers e = let same = returned_same 255 value e in omega (arith, same)

not_both : (a : ℕ) → a ≡ 0 → a ≡ 2 → ⊥
not_both a h e = omega (arith, h, e)

built : IsTaskImage idle_kernel 2 idle_image unmarked sizes
built =
    let s = survives idle_image 0x1100 unmarked (acts nothing) 0x403A 0 2 (Some 0x4032) (omega arith) (omega arith) line (omega arith, refl, body.1) in
    record {
      low_end = omega arith;
      even_end = refl;
      room = omega arith;
      some = omega arith;
      reset_at = 0x4000;
      reset_end = 0x4000 + 2 * 25;
      long = false;
      vector = refl;
      reset = stand idle_image (loop_code 0x4000 false sizes) 0x4000 loop_written refl (omega arith) (omega arith) refl;
      even_boot = refl;
      low_boot = omega arith;
      boots = wide_body.0;
      even_pop = refl;
      low_pop = omega arith;
      pops = fixed_shut idle_image 0x1100 unmarked 0x4034 255 (omega arith) (omega arith) puts ends;
      gives = bytes_given idle_kernel 2 gives;
      tasks = task;
      no_task = no_task;
      lone = returns.at;
      not_boot = λ e. not_both 0 refl e;
      not_task = no_pop;
      handlers = λ v few. record { entry = 0x403A; stands = vectors v few; word = omega arith; law = s };
    }

pub idle_loop_runs : IdleLoopRuns
idle_loop_runs b rows n words word_rows = runs_as_loop idle_kernel 2 idle_image unmarked sizes b rows n words word_rows built
