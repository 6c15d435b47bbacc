-- Code whose labels count from another number on has the items of code whose labels count from 0, with labels so much higher.
use Rattle.std.proofs.Common.{◌≡◌, ℕ, suc, ◌+◌, ◌%◌, ◌≤◌, ◌<◌, false, List, [], ◌∷◌, ◌++◌, map, refl, ap, ◌∙◌, arith}
use Rattle.std.proofs.lemmas.List.{map-append}
use Rattle.msp_isa.specs.declared.code.Item.{Item}
use Rattle.msp_isa.specs.declared.code.Item.TheVariants as item
use Rattle.msp_isa.specs.declared.instr.Cond.{Cond}
use Rattle.msp_isa.specs.declared.instr.Cond.TheVariants.{Jne, Jeq}
use Rattle.msp_isa.specs.declared.instr.Instr.TheVariants.{Two, One}
use Rattle.msp_isa.specs.declared.instr.Op1.TheVariants.{Push}
use Rattle.msp_isa.specs.declared.instr.Op2.TheVariants as op2
use Rattle.msp_isa.specs.declared.instr.Operand.TheVariants.{Reg, Indexed, Constant}
use Rattle.open_law.specs.Homes.{Made}
use Rattle.msp_runtime.specs.Code.{Code, Nothing, Do, Then, Skip, Times, Keeping, items_from, labels, operation_item}
use Rattle.msp_runtime.specs.Pieces.{shifted}

module _ (first : ℕ) where
  -- a number of 32 bits stays
  same : (l : ℕ) → first + l < 4294967296 → (first + l) % 4294967296 ≡ first + l
  same l lt = omega (arith, lt)

  jump_up : (c : Cond) (l : ℕ) → first + l < 4294967296 → shifted first (item.Jump c l) ≡ item.Jump c (first + l)
  jump_up c l lt = ap (λ n. item.Jump c n) (same l lt)

  label_up : (l : ℕ) → first + l < 4294967296 → shifted first (item.Label l) ≡ item.Label (first + l)
  label_up l lt = ap (λ n. item.Label n) (same l lt)

  pub items_up : (c : Code) (l : ℕ) → first + l + labels c ≤ 4294967296 → map (shifted first) (items_from c l) ≡ items_from c (first + l)
  items_up Nothing l le = refl
  items_up (Do op s r) l le = refl
  items_up (Then a b) l le =
      map-append (shifted first) (items_from a l) (items_from b (l + labels a))
      ∙ ap (λ xs. xs ++ map (shifted first) (items_from b (l + labels a))) (items_up a l (omega (arith, le)))
      ∙ ap (λ ys. items_from a (first + l) ++ ys) (items_up b (l + labels a) (omega (arith, le)) ∙ ap (λ n. items_from b n) (let e : first + (l + labels a) ≡ first + l + labels a = omega arith in e))
  items_up (Skip c a) l le =
      ap (λ i. i ∷ map (shifted first) (items_from a (suc l) ++ item.Label l ∷ [])) (jump_up c l (omega (arith, le)))
      ∙ ap (λ xs. item.Jump c (first + l) ∷ xs)
      (map-append (shifted first) (items_from a (suc l)) (item.Label l ∷ [])
      ∙ ap (λ xs. xs ++ shifted first (item.Label l) ∷ []) (items_up a (suc l) (omega (arith, le)) ∙ ap (λ n. items_from a n) (let e : first + suc l ≡ suc (first + l) = omega arith in e))
      ∙ ap (λ i. items_from a (suc (first + l)) ++ i ∷ []) (label_up l (omega (arith, le))))
  items_up (Times most r a) l le =
      ap (λ xs. compared ∷ xs)
      (ap (λ i. i ∷ shifted first (item.Label (suc l)) ∷ map (shifted first) (items_from a (suc (suc l)) ++ tail l)) (jump_up Jeq l (omega (arith, le)))
      ∙ ap (λ i. item.Jump Jeq (first + l) ∷ i ∷ map (shifted first) (items_from a (suc (suc l)) ++ tail l)) (label_up (suc l) (omega (arith, le)) ∙ ap (λ n. item.Label n) up)
      ∙ ap (λ xs. item.Jump Jeq (first + l) ∷ item.Label (suc (first + l)) ∷ xs)
      (map-append (shifted first) (items_from a (suc (suc l))) (tail l)
      ∙ ap (λ xs. xs ++ map (shifted first) (tail l)) (items_up a (suc (suc l)) (omega (arith, le)) ∙ ap (λ n. items_from a n) (let e : first + suc (suc l) ≡ suc (suc (first + l)) = omega arith in e))
      ∙ ap (λ ys. items_from a (suc (suc (first + l))) ++ ys)
      (ap (λ i. less ∷ i ∷ shifted first (item.Label l) ∷ []) (jump_up Jne (suc l) (omega (arith, le)) ∙ ap (λ n. item.Jump Jne n) up)
      ∙ ap (λ i. less ∷ item.Jump Jne (suc (first + l)) ∷ i ∷ []) (label_up l (omega (arith, le))))))
    where
      compared : Item
      compared = operation_item op2.Cmp (Made 0) r

      less : Item
      less = operation_item op2.Sub (Made 1) r

      tail : ℕ → List Item
      tail n = less ∷ item.Jump Jne (suc n) ∷ item.Label n ∷ []

      up : first + suc l ≡ suc (first + l)
      up = omega arith
  items_up (Keeping r a) l le =
      ap (λ xs. item.Is (One Push false (Reg r)) ∷ xs)
      (map-append (shifted first) (items_from a l) behind ∙ ap (λ xs. xs ++ behind) (items_up a l (omega (arith, le))))
    where
      behind : List Item
      behind = item.Is (Two op2.Mov false (Indexed 1 0) (Reg r)) ∷ item.Is (Two op2.Add false (Constant 2) (Reg 1)) ∷ []
