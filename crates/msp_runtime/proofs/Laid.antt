-- Code with a RET behind it, laid out in an image, is a routine there.
use Rattle.std.proofs.Common.{◌≡◌, Option, ℕ, suc, ◌+◌, ◌-◌, ◌<◌, ◌≤◌, true, false, List, [], ◌∷◌, ◌++◌, length, sym, ◌∙◌, subst, arith}
use Rattle.std.specs.Prelude.{slice_index}
use Rattle.nm_base.specs.declared.action.Action.{Action}
use Rattle.msp_isa.specs.declared.code.CodeFn.{CodeFn}
use Rattle.msp_isa.specs.declared.instr.Instr.TheVariants.{Two}
use Rattle.msp_isa.specs.declared.instr.Op2.TheVariants.{Mov}
use Rattle.msp_isa.specs.declared.instr.Operand.TheVariants.{Reg, Increment}
use Rattle.msp_isa.specs.Stands.{IsLaid, items_of}
use Rattle.msp430_cpu.specs.Cpu.{even, reg}
use Rattle.open_law.specs.Body.{code_below}
use Rattle.open_law.specs.Open.{open_start}
use Rattle.open_law.specs.Stands.{IsMarked}
use Rattle.open_law.proofs.Quiet.{reg_plain}
use Rattle.msp_select.specs.Routine.{Ends, Hold, IsGoing, IsRoutineOf, Turns}
use Rattle.msp_runtime.specs.Code.{Code, Registers, depth, is_formed, items_from, leaves_others, return, routine_items, weight}
use Rattle.msp_runtime.proofs.Running.{Stand}
use Rattle.msp_runtime.proofs.Standing.{Holds, IsPlaced, all_hold, first_holds, rest_holds, single, stand_at}
use Rattle.msp_runtime.proofs.Returning.{Meets, turns}

-- what is so of code for routines, whatever it does
pub record IsRoutineCode (c : Code) : Type 0 where
  pub formed : is_formed c ≡ true
  pub shallow : depth c ≤ 58
  pub others : leaves_others c ≡ true

hold_long : (r : ℕ) (values : List ℕ) (f g : ℕ → ℕ) → ((q : ℕ) → r ≤ q → g q ≡ f q) → Hold r values f → Hold r values g
hold_long r [] f g same h = tt
hold_long r (x ∷ xs) f g same h = (same r (omega arith) ∙ h.0, h.1, hold_long (suc r) xs f g (λ q le. same q (omega (arith, le))) h.2)

module _ (c : Code) (is : IsRoutineCode c) (Takes : List ℕ → Type 0) (gives : List ℕ → Option (List ℕ)) (meets : Meets c Takes gives)
    (image : ℕ → ℕ) (data_end : ℕ) (marks : ℕ → List Action) (entries : ℕ → ℕ) (out : List CodeFn) (laid : IsLaid image out entries) (f : ℕ) (inside : f < length out) (written : items_of out f ≡ routine_items c)
    (unmarked : (k a : ℕ) → k < length (items_of out f) → laid.places f k ≤ a → a < laid.places f (k + 1) → marks a ≡ []) (objects : 0x1100 ≤ data_end) (is_even : even (entries f) ≡ entries f) (small : entries f < 0x10000) where
  holds : Holds (items_of out f) 0 (items_from c 0 ++ return ∷ [])
  holds = subst (λ xs. Holds (items_of out f) 0 xs) written (all_hold (items_of out f))

  placed : IsPlaced image data_end marks 0 entries out laid f inside 0
  placed = let e = laid.entry f inside in record { is_even = subst (λ n. even n ≡ n) (sym e) is_even; small = subst (λ n. n < 0x10000) (sym e) small }

  body : Holds (items_of out f) 0 (items_from c 0)
  body = first_holds (items_of out f) 0 (items_from c 0) (return ∷ []) holds

  tail : Holds (items_of out f) (0 + length (items_from c 0)) (return ∷ [])
  tail = rest_holds (items_of out f) 0 (items_from c 0) (return ∷ []) holds

  abbrev end : ℕ
  end = laid.places f (0 + length (items_from c 0))

  returns : IsMarked image marks end [] (Two Mov false (Increment 1) (Reg 0))
  returns = (single image data_end marks 0 entries out laid f inside unmarked (0 + length (items_from c 0)) (Two Mov false (Increment 1) (Reg 0)) tail.0 tail.1).0

  stands : (sp0 : ℕ) → Stand image data_end marks sp0 c (entries f) end
  stands sp0 =
      subst (λ n. Stand image data_end marks sp0 c n end) (laid.entry f inside)
      (stand_at image data_end marks sp0 entries out laid f inside unmarked c 0 0 is.formed body (record { is_even = placed.is_even; small = placed.small }))

  pub code_is_routine : IsRoutineOf Takes gives image data_end marks (entries f) (weight c + 2)
  code_is_routine = record {
    even_entry = is_even;
    small_entry = small;
    runs = λ values top start ram takes pc words awake level held bytes room within high.
        let two : top - 2 + 2 ≡ top = omega (arith, within) in
        let st : Registers = record { regs = λ r. slice_index start.others (r - 4); sr = start.sr; sp = start.sp } in
        let g = meets values takes st (λ r lo hi. words.others (r - 4)) (hold_long 12 values (reg start) st.regs (λ q le. sym (reg_plain start q (omega (arith, le)))) held) in
        subst (λ t. (n : ℕ) × (n < weight c + 2) × Turns (code_below image data_end marks t) (IsGoing (code_below image data_end marks t) start ram) (Ends (code_below image data_end marks t) start ram (gives values)) n (open_start start ram)) two
        (subst (λ o. (n : ℕ) × (n < weight c + 2) × Turns (code_below image data_end marks (top - 2 + 2)) (IsGoing (code_below image data_end marks (top - 2 + 2)) start ram) (Ends (code_below image data_end marks (top - 2 + 2)) start ram o) n (open_start start ram)) (sym g.some)
        (turns image data_end marks (top - 2) start ram objects room (omega (arith, within)) (omega (arith, within, high)) words awake level bytes c end is.formed is.shallow is.others (subst (λ p. Stand image data_end marks (top - 2) c p end) (sym pc) (stands (top - 2))) returns g.given g.bounded g.few g.held));
  }
