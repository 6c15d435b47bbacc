-- A word that is written to RAM, as two bytes.
use Rattle.std.proofs.Common.{◌≡◌, ℕ, zero, suc, ◌+◌, ◌-◌, ◌<◌, ◌≤◌, ◌==◌, Bool, true, false, cond, List, [], ◌∷◌, ◌++◌, take, drop, length, slice_index, slice_set, arith, refl, sym, ap, ◌∙◌, append-nil, length-drop, length-set}
use Rattle.std.proofs.Math.Path.{fun_ext}
use Rattle.std.proofs.lemmas.Bool.{eqb-true, eqb-false}
use Rattle.std.proofs.lemmas.Bool.Decides.{nat_tests}
use Rattle.std.proofs.lemmas.List.{take_all, drop_all, get_or-set_same, get_or-set_other}
use Rattle.msp430_cpu.specs.Cpu.{changed_at}
use Rattle.msp430_cpu.specs.Memory.{is_ram}
use Rattle.msp430_cpu.specs.Kept.{ram_map}

-- two items of a list are set
two_set : {A : Type 0} (xs : List A) (i : ℕ) (a b : A) → suc i < length xs → take i xs ++ (a ∷ b ∷ drop 2 (drop i xs)) ≡ slice_set (slice_set xs i a) (suc i) b
two_set [] i a b within = absurd (elim within [ ])
two_set (x ∷ []) zero a b within = absurd (omega arith)
two_set (x ∷ y ∷ xs) zero a b within = refl
two_set (x ∷ xs) (suc i) a b within = ap (λ l. x ∷ l) (two_set xs i a b (omega arith))

-- the front of a part that goes to the end of a list is set
pub two_put : {A : Type 0} (xs : List A) (i k : ℕ) (a b : A) → suc i < length xs → length xs ≤ i + k
    → take i xs ++ ((a ∷ b ∷ drop 2 (take k (drop i xs))) ++ drop k (drop i xs)) ≡ slice_set (slice_set xs i a) (suc i) b
two_put xs i k a b within long =
    let rest : length (drop i xs) ≤ k = omega (arith, length-drop i xs) in
    ap (λ l. take i xs ++ ((a ∷ b ∷ drop 2 l) ++ drop k (drop i xs))) (take_all k (drop i xs) rest)
    ∙ ap (λ l. take i xs ++ ((a ∷ b ∷ drop 2 (drop i xs)) ++ l)) (drop_all k (drop i xs) rest)
    ∙ ap (λ l. take i xs ++ l) (append-nil (a ∷ b ∷ drop 2 (drop i xs)))
    ∙ two_set xs i a b within

-- a byte of RAM is set
module _ (bytes : List ℕ) (full : length bytes ≡ 10240) (a v : ℕ) (low : 0x1100 ≤ a) (high : a < 0x3900) where
  at : (x : ℕ) (t u : Bool) → (x == a) ≡ t → is_ram x ≡ u → cond u (slice_index (slice_set bytes (a - 0x1100) v) (x - 0x1100)) 0 ≡ cond t v (cond u (slice_index bytes (x - 0x1100)) 0)
  at x true true same ram =
      let e : x ≡ a = eqb-true x a same in
      ap (λ n. slice_index (slice_set bytes (a - 0x1100) v) (n - 0x1100)) e ∙ get_or-set_same bytes (a - 0x1100) v 0 (omega (arith, full))
  at x true false same ram = absurd (not_ram ram)
    where
      not_ram : is_ram x ≡ false → ⊥
      not_ram h =
          let e : x ≡ a = eqb-true x a same in
          let in_ram : is_ram a ≡ true = grind (arith, nat_tests) in
          apart (sym in_ram ∙ ap is_ram (sym e) ∙ h)
        where
          apart : true ≡ false → ⊥
          apart k = cc
  at x false true other ram =
      let lower : 0x1100 ≤ x = grind (arith, nat_tests) in
      get_or-set_other bytes (a - 0x1100) (x - 0x1100) v 0 (λ e. eqb-false x a other (omega (arith, e, lower, low)))
  at x false false other ram = refl

  pub ram_set : ram_map (slice_set bytes (a - 0x1100) v) ≡ changed_at (ram_map bytes) a v
  ram_set = fun_ext (λ x. at x (x == a) (is_ram x) refl refl)

-- and the two bytes of a word
pub ram_set_word : (bytes : List ℕ) (a i low high : ℕ) → length bytes ≡ 10240 → 0x1100 ≤ a → a + 1 < 0x3900 → i ≡ a - 0x1100
    → ram_map (slice_set (slice_set bytes i low) (suc i) high) ≡ changed_at (changed_at (ram_map bytes) a low) (a + 1) high
ram_set_word bytes a i low high full above below at =
    let next : suc i ≡ (a + 1) - 0x1100 = omega (arith, at, above) in
    let kept : length (slice_set bytes i low) ≡ 10240 = length-set bytes i low ∙ full in
    ap (λ k. ram_map (slice_set (slice_set bytes i low) k high)) next
    ∙ ram_set (slice_set bytes i low) kept (a + 1) high (omega (arith, above)) below
    ∙ ap (λ k. changed_at (ram_map (slice_set bytes k low)) (a + 1) high) at
    ∙ ap (λ f. changed_at f (a + 1) high) (ram_set bytes full a low above (omega (arith, below)))
