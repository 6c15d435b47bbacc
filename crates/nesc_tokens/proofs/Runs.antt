-- Runs of bytes that pass a test, and lists of texts.
use Rattle.std.proofs.Common.{◌≡◌, ℕ, zero, suc, ◌<◌, ◌≤◌, Bool, true, false, List, [], ◌∷◌, length, take, refl, sym, ap, ◌∙◌, arith, one-add, inl, inr}
use Rattle.std.specs.Prelude.{nat_eq}
use Rattle.std.specs.List.{list_all, prefix_len}
use Rattle.std.proofs.lemmas.Bool.{cases_Bool, and_parts, eqb-true}
use Rattle.std.proofs.lemmas.List.Sums.{prefix_len-le-length}
use Rattle.nesc_tokens.specs.Spelling.{same_bytes, is_one_of}

pub run_within : {X : Type 0} (p : X → Bool) (xs : List X) → prefix_len p xs ≤ length xs
run_within p xs = prefix_len-le-length p xs

pub not_both : {P : Type 0} (b : Bool) → b ≡ true → b ≡ false → P
not_both b t f = absurd (let h : true ≡ false = sym t ∙ f in cc)

-- ---- runs of bytes that pass

pub all_front : (p : ℕ → Bool) (xs : List ℕ) → list_all p (take (prefix_len p xs) xs) ≡ true
all_front p [] = refl
all_front p (x ∷ xs) =
    elim (cases_Bool (p x)) [
      | inl passes ↦ rw (passes, one-add) (rw passes (all_front p xs))
      | inr fails ↦ rw fails refl
    ]

pub all_past : (p : ℕ → Bool) (xs : List ℕ) (m : ℕ) → prefix_len p xs < m → m ≤ length xs → list_all p (take m xs) ≡ false
all_past p [] m lt le = absurd (omega arith)
all_past p (x ∷ xs) zero lt le = absurd (omega arith)
all_past p (x ∷ xs) (suc m) lt le =
    elim (cases_Bool (p x)) [
      | inl passes ↦ let lt2 = rw passes at lt in rw passes (all_past p xs m (omega (arith, lt2)) (omega arith))
      | inr fails ↦ rw fails refl
    ]

-- ---- the texts of a list

same_is : (a b : List ℕ) → same_bytes a b ≡ true → a ≡ b
same_is [] [] e = refl
same_is [] (y ∷ ys) e = absurd cc
same_is (x ∷ xs) [] e = absurd cc
same_is (x ∷ xs) (y ∷ ys) e =
    let both = and_parts (nat_eq x y) (same_bytes xs ys) e in
    let head : x ≡ y = eqb-true x y both.0 in
    let tail = same_is xs ys both.1 in
    cc

-- what each text of a list passes
pub one_of_all : (p : List ℕ → Bool) (texts : List (List ℕ)) (bytes : List ℕ) → list_all p texts ≡ true → is_one_of texts bytes ≡ true → p bytes ≡ true
one_of_all p [] bytes all one = absurd cc
one_of_all p (t ∷ texts) bytes all one =
    let both = and_parts (p t) (list_all p texts) all in
    elim (cases_Bool (same_bytes bytes t)) [
      | inl same ↦ ap p (same_is bytes t same) ∙ both.0
      | inr differs ↦ one_of_all p texts bytes both.1 (rw differs at one)
    ]
