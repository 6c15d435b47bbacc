-- Numbers from one up to another.
use Rattle.std.proofs.Common.{◌≡◌, ℕ, ◌+◌, ◌-◌, ◌<◌, ◌≤◌, suc, List, [], ◌∷◌, ◌++◌, ap, sym, ◌∙◌, arith, append_assoc, append-nil}
use Rattle.std.specs.List.{range_with_len}

module _ (total xs : List ℕ) (n b : ℕ) where
  pub number_passed : (more : List ℕ) → xs ++ range_with_len n (b - n) ≡ total → n < b → more ≡ xs ++ (n ∷ []) → more ++ range_with_len (n + 1) (b - (n + 1)) ≡ total
  number_passed more is below m =
      let left : b - n ≡ suc (b - (n + 1)) = omega (arith, below) in
      ap (λ l. l ++ range_with_len (n + 1) (b - (n + 1))) m
      ∙ append_assoc xs (n ∷ []) (range_with_len (n + 1) (b - (n + 1)))
      ∙ sym (ap (λ k. xs ++ range_with_len n k) left)
      ∙ is

  pub numbers_end : xs ++ range_with_len n (b - n) ≡ total → b ≤ n → xs ≡ total
  numbers_end is past =
      let none : b - n ≡ 0 = omega (arith, past) in
      sym (append-nil xs) ∙ sym (ap (λ k. xs ++ range_with_len n k) none) ∙ is

pub ruleset numbers = (numbers_end)
