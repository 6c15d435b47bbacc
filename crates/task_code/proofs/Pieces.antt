-- The loop of tasks and a lone RET can be laid out: their instructions are written forms, and the loop's label stands once in it.
use Rattle.std.proofs.Common.{◌≡◌, ℕ, zero, suc, ◌<◌, false, List, [], ◌∷◌, ◌++◌, refl, sym, ap, subst, arith}
use mathlib.Core.Logic.{inl}
use Rattle.std.specs.List.{AllByRecursion}
use Rattle.msp_isa.specs.declared.code.Item.{Item}
use Rattle.msp_isa.specs.declared.code.Item.TheVariants as item
use Rattle.msp_isa.specs.declared.instr.Cond.{Cond}
use Rattle.msp_isa.specs.declared.instr.Cond.TheVariants.{Jmp}
use Rattle.msp_isa.specs.declared.instr.Instr.TheVariants.{One}
use Rattle.msp_isa.specs.declared.instr.Op1.TheVariants.{Call}
use Rattle.msp_isa.specs.declared.instr.Operand.TheVariants.{Reg}
use Rattle.msp_isa.specs.Encode.{IsConstant, IsWritten}
use Rattle.msp_isa.specs.Stands.{item_at}
use Rattle.code_pieces.specs.Pieces.{open_gate}
use Rattle.preempt_tasks.specs.Laid.{choice_items, loop_items}
use Rattle.task_pieces.specs.Loop.{turn_items}
use Rattle.task_image.specs.Order.{lone}
use Rattle.msp_layout.specs.Laid.{IsGoodItem, StandsOnce}
use Rattle.select_emitter.proofs.Written.{eight_source, sp_base}
use Rattle.image_code.proofs.Labels.{all_on, no_jump, stands_once, times_in}
use Rattle.image_code.proofs.Selected.{IsLaidWell}

pub lone_well : (fns : ℕ) → IsLaidWell fns lone.items
lone_well fns = record {
  each = (((sp_base, λ e. omega (arith, e)), omega arith), tt);
  labels = λ k l c at. absurd (no_jump lone.items (tt, tt) k l c at);
}

-- ---- behind the choice of a task

abbrev back_items : List Item
back_items = item.Is open_gate ∷ item.Is (One Call false (Reg 13)) ∷ item.Jump Jmp 0 ∷ []

called_written : IsWritten (One Call false (Reg 13))
called_written = ((omega arith, λ e. omega (arith, e)), refl)

back_good : (fns : ℕ) → AllByRecursion (IsGoodItem fns) back_items
back_good fns = ((eight_source, omega arith), (called_written, (tt, tt)))

-- ---- written forms, and functions that are there

zero_source : IsConstant 0
zero_source = inl (inl refl)

choices_good : (fns k : ℕ) (tasks : List ℕ) → AllByRecursion (λ f. f < fns) tasks → AllByRecursion (IsGoodItem fns) (choice_items k tasks)
choices_good fns k [] h = tt
choices_good fns k (task ∷ more) h = ((tt, omega arith), ((omega arith, omega arith), ((h.0, omega arith, omega arith), choices_good fns (suc k) more h.1)))

turn_good : (fns boot pop none : ℕ) → boot < fns → pop < fns → none < fns → AllByRecursion (IsGoodItem fns) (turn_items boot pop none)
turn_good fns boot pop none of_boot of_pop of_none = (
  (tt, omega arith),
  (
    (eight_source, omega arith),
    (
      of_boot,
      (
        tt,
        (
          (eight_source, omega arith),
          ((zero_source, omega arith), (of_pop, ((tt, omega arith), ((omega arith, omega arith), ((tt, omega arith), ((omega arith, omega arith), ((of_none, omega arith, omega arith), tt))))))),
        ),
      ),
    ),
  ),
)

-- ---- the label

-- each jump leads to the label of the loop
abbrev IsBack : Item → Type 0
IsBack (item.Jump c l) = l ≡ 0
IsBack _ = Unit {0}

choices_back : (k : ℕ) (tasks : List ℕ) → AllByRecursion IsBack (choice_items k tasks)
choices_back k [] = tt
choices_back k (task ∷ more) = (tt, (tt, (tt, choices_back (suc k) more)))

loop_back : (boot pop none : ℕ) (tasks : List ℕ) → AllByRecursion IsBack (loop_items boot pop none tasks)
loop_back boot pop none tasks =
    all_on IsBack (turn_items boot pop none) (choice_items 0 tasks ++ back_items) (tt, (tt, (tt, (tt, (tt, (tt, (tt, (tt, (tt, (tt, (tt, (tt, tt))))))))))))
    (all_on IsBack (choice_items 0 tasks) back_items (choices_back 0 tasks) (tt, (tt, (refl, tt))))

back_at : (is : List Item) → AllByRecursion IsBack is → (k l : ℕ) (c : Cond) → item_at is k ≡ item.Jump c l → l ≡ 0
back_at [] h k l c e = absurd (cc)
back_at (i ∷ is) h zero l c e = subst IsBack e h.0
back_at (i ∷ is) h (suc k) l c e = back_at is h.1 k l c e

choices_without : (k : ℕ) (tasks : List ℕ) (behind : List Item) → times_in 0 (choice_items k tasks ++ behind) ≡ times_in 0 behind
choices_without k [] behind = refl
choices_without k (task ∷ more) behind = choices_without (suc k) more behind

label_once : (boot pop none : ℕ) (tasks : List ℕ) → times_in 0 (loop_items boot pop none tasks) ≡ 1
label_once boot pop none tasks = ap suc (choices_without 0 tasks back_items)

-- ---- the loop

pub loop_well : (fns boot pop none : ℕ) (tasks : List ℕ) → boot < fns → pop < fns → none < fns → AllByRecursion (λ f. f < fns) tasks → IsLaidWell fns (loop_items boot pop none tasks)
loop_well fns boot pop none tasks of_boot of_pop of_none of_tasks = record {
  each =
      all_on (IsGoodItem fns) (turn_items boot pop none) (choice_items 0 tasks ++ back_items) (turn_good fns boot pop none of_boot of_pop of_none)
      (all_on (IsGoodItem fns) (choice_items 0 tasks) back_items (choices_good fns 0 tasks of_tasks) (back_good fns));
  labels = λ k l c at.
      subst (StandsOnce (loop_items boot pop none tasks)) (sym (back_at (loop_items boot pop none tasks) (loop_back boot pop none tasks) k l c at))
      (stands_once 0 (loop_items boot pop none tasks) (label_once boot pop none tasks));
}
