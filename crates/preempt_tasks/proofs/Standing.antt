-- Where the instructions of the loop stand.
use Rattle.std.proofs.Common.{◌≡◌, ℕ, ℤ, pos, negsuc, zero, suc, ◌+◌, ◌-◌, ◌*◌, ◌/◌, ◌<◌, Bool, true, false, cond, List, [], ◌∷◌, ◌++◌, length, ap, subst, ◌∙◌, arith}
use Rattle.std.proofs.lemmas.Bool.Decides.{nat_tests}
use Rattle.std.specs.Prelude.{slice_index, nat_le}
use Rattle.nm_base.specs.declared.action.Action.{Action}
use Rattle.msp_isa.specs.declared.instr.Cond.TheVariants.{Jmp, Jne}
use Rattle.msp_isa.specs.declared.instr.Instr.{Instr}
use Rattle.msp_isa.specs.declared.instr.Instr.TheVariants.{Two, One, Jump}
use Rattle.msp_isa.specs.declared.instr.Op1.TheVariants.{Call}
use Rattle.msp_isa.specs.declared.instr.Op2.TheVariants.{Mov}
use Rattle.msp_isa.specs.declared.instr.Operand.TheVariants.{Reg, Immediate}
use Rattle.msp_isa.specs.Stands.{IsAt, AreAt, goto, words_to}
use Rattle.msp430_cpu.specs.Exec.{jumped}
use Rattle.code_pieces.specs.Pieces.{nop, open_gate}
use Rattle.preempt_bodies.specs.Bodies.{call}
use Rattle.loop_runs.specs.Bodies.{Bodies}
use Rattle.preempt_tasks.specs.Bodies.{Sizes, IsTaskImage, close_gate, compare, take, fall_asleep, choices, back_to_loop}

-- a task's three instructions
pub record IsChoice (image : ℕ → ℕ) (at k address : ℕ) : Type 0 where
  pub compares : IsAt image at (compare k)
  pub skips : IsAt image (at + 4) (Jump Jne (pos 2))
  pub takes : IsAt image (at + 6) (take address)

-- the jump back to the loop
pub data IsBack (image : ℕ → ℕ) (at target : ℕ) : Type 0 where
  Near : (k : ℤ) → IsAt image at (Jump Jmp k) → jumped (at + 2) k ≡ target → IsBack image at target
  Far : IsAt image at (goto target) → IsBack image at target

pub record StandsFrom (image : ℕ → ℕ) (start : ℕ) (z : Sizes) : Type 0 where
  pub sets_stack : IsAt image start (Two Mov false (Immediate 0x3900) (Reg 1))
  pub opens : IsAt image (start + 4) open_gate
  pub boots : IsAt image (start + 6) (call z.boot)
  pub closes : IsAt image (start + 10) close_gate
  pub pauses : IsAt image (start + 12) nop
  pub pops : IsAt image (start + 14) (call z.pop)
  pub tests : IsAt image (start + 18) (compare 255)
  pub chooses : IsAt image (start + 22) (Jump Jne (pos 3))
  pub sleeps : IsAt image (start + 24) fall_asleep
  pub wakes : IsAt image (start + 28) (Jump Jmp (negsuc 9))
  pub nones : IsAt image (start + 30) (take z.none)
  pub choices : (i : ℕ) → i < length z.tasks → IsChoice image (start + (34 + 10 * i)) i (slice_index z.tasks i)
  pub reopens : IsAt image (start + (34 + 10 * length z.tasks)) open_gate
  pub starts : IsAt image (start + (36 + 10 * length z.tasks)) (One Call false (Reg 13))
  pub back : IsBack image (start + (38 + 10 * length z.tasks)) (start + 10)

module _ (image : ℕ → ℕ) where
  moved : (a b : ℕ) (i : Instr) → a ≡ b → IsAt image a i → IsAt image b i
  moved a b i e h = subst (λ x. IsAt image x i) e h

  behind : (a b end : ℕ) (is : List Instr) → a ≡ b → AreAt image a is end → AreAt image b is end
  behind a b end is e h = subst (λ x. AreAt image x is end) e h

  placed : (a b k n address : ℕ) → a ≡ b → k ≡ n → IsChoice image a k address → IsChoice image b n address
  placed a b k n address e f h = subst (λ x. IsChoice image x n address) e (subst (λ x. IsChoice image a x address) f h)

  pub record AreChoices (at k : ℕ) (tasks : List ℕ) (more : List Instr) (end : ℕ) : Type 0 where
    pub each : (i : ℕ) → i < length tasks → IsChoice image (at + 10 * i) (k + i) (slice_index tasks i)
    pub rest : AreAt image (at + 10 * length tasks) more end

  pub choices_stand : (tasks : List ℕ) (k at end : ℕ) (more : List Instr) → AreAt image at (choices k tasks ++ more) end → AreChoices at k tasks more end
  choices_stand [] k at end more h = record { each = λ i lt. absurd (omega (arith, lt)); rest = behind at (at + 10 * 0) end more (omega arith) h }
  choices_stand (address ∷ tasks) k at end more h =
      let first : IsChoice image at k address = record { compares = h.0; skips = moved _ (at + 4) (Jump Jne (pos 2)) (omega arith) h.1.0; takes = moved _ (at + 6) (take address) (omega arith) h.1.1.0 } in
      let c = choices_stand tasks (suc k) (at + 10) end more (behind _ (at + 10) end (choices (suc k) tasks ++ more) (omega arith) h.1.1.1) in
      record {
        each = λ i lt. by_place first c i lt;
        rest = behind (at + 10 + 10 * length tasks) (at + 10 * suc (length tasks)) end more (omega arith) c.rest;
      }
    where
      by_place : IsChoice image at k address → AreChoices (at + 10) (suc k) tasks more end → (i : ℕ) → i < suc (length tasks) → IsChoice image (at + 10 * i) (k + i) (slice_index (address ∷ tasks) i)
      by_place first c zero lt = placed at (at + 10 * 0) k (k + 0) address (omega arith) (omega arith) first
      by_place first c (suc i) lt = placed (at + 10 + 10 * i) (at + 10 * suc i) (suc k + i) (k + suc i) (slice_index tasks i) (omega arith) (omega arith) (c.each i (omega (arith, lt)))

  back_stands : (start n at end : ℕ) (long : Bool) → at ≡ start + (38 + 10 * n) → AreAt image at (back_to_loop start long n) end → IsBack image (start + (38 + 10 * n)) (start + 10)
  back_stands start n at end true e h = Far (moved at (start + (38 + 10 * n)) (goto (start + 10)) e h.0)
  back_stands start n at end false e h =
      let pc = start + (38 + 10 * n) in
      let lo : nat_le (pc + 2) (start + 10) ≡ false = grind (arith, nat_tests) in
      let w : words_to (pc + 2) (start + 10) ≡ negsuc ((pc + 2 - (start + 10) - 1) / 2) = ap (λ t. cond t (pos ((start + 10 - (pc + 2)) / 2)) (negsuc ((pc + 2 - (start + 10) - 1) / 2))) lo in
      let hi = h.0.high in
      let to : jumped (pc + 2) (negsuc ((pc + 2 - (start + 10) - 1) / 2)) ≡ start + 10 = omega (arith, hi, e) in
      Near (words_to (pc + 2) (start + 10)) (moved at pc (Jump Jmp (words_to (pc + 2) (start + 10))) e h.0) (ap (jumped (pc + 2)) w ∙ to)

module _ (K : Bodies) (pop : ℕ) (image : ℕ → ℕ) (marks : ℕ → List Action) (z : Sizes) (built : IsTaskImage K pop image marks z) where
  pub stands : StandsFrom image built.reset_at z
  stands =
      let at = built.reset_at in
      let n = length z.tasks in
      let r = built.reset in
      let tail = open_gate ∷ One Call false (Reg 13) ∷ back_to_loop at built.long n in
      let c = choices_stand image z.tasks 0 (at + 34) built.reset_end tail (behind image _ (at + 34) built.reset_end (choices 0 z.tasks ++ tail) (omega arith) r.1.1.1.1.1.1.1.1.1.1.1) in
      record {
        sets_stack = r.0;
        opens = moved image _ (at + 4) _ (omega arith) r.1.0;
        boots = moved image _ (at + 6) _ (omega arith) r.1.1.0;
        closes = moved image _ (at + 10) _ (omega arith) r.1.1.1.0;
        pauses = moved image _ (at + 12) _ (omega arith) r.1.1.1.1.0;
        pops = moved image _ (at + 14) _ (omega arith) r.1.1.1.1.1.0;
        tests = moved image _ (at + 18) _ (omega arith) r.1.1.1.1.1.1.0;
        chooses = moved image _ (at + 22) _ (omega arith) r.1.1.1.1.1.1.1.0;
        sleeps = moved image _ (at + 24) _ (omega arith) r.1.1.1.1.1.1.1.1.0;
        wakes = moved image _ (at + 28) _ (omega arith) r.1.1.1.1.1.1.1.1.1.0;
        nones = moved image _ (at + 30) _ (omega arith) r.1.1.1.1.1.1.1.1.1.1.0;
        choices = λ i lt. placed image (at + 34 + 10 * i) (at + (34 + 10 * i)) (0 + i) i (slice_index z.tasks i) (omega arith) (omega arith) (c.each i lt);
        reopens = moved image (at + 34 + 10 * n) (at + (34 + 10 * n)) open_gate (omega arith) c.rest.0;
        starts = moved image _ (at + (36 + 10 * n)) (One Call false (Reg 13)) (omega arith) c.rest.1.0;
        back = back_stands image at n _ built.reset_end built.long (omega arith) c.rest.1.1;
      }
