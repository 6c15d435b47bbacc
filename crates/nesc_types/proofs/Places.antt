-- Addresses from an object on.
use Rattle.std.proofs.Common.{◌≡◌, ℕ, ◌+◌, ◌*◌, ◌<◌, ◌≤◌, ◌%◌, replicate, zero, suc, All, List, [], ◌∷◌, ◌++◌, length, get_or, drop, refl, sym, ap, ◌∙◌, arith, append_assoc, drop-cons, add-one}
use Rattle.std.proofs.Math.ListN.{drop_of_length-le}
use Rattle.nesc_types.specs.Addresses.{evened, taken, addresses, LiesEven}

rest : (sizes : List ℕ) (i : ℕ) → i < length sizes → drop i sizes ≡ get_or sizes i 0 ∷ drop (i + 1) sizes
rest sizes i below = drop-cons sizes i 0 below ∙ ap (λ (n : ℕ). get_or sizes i 0 ∷ drop n sizes) (sym (add-one i))

pub taken_from : (sizes : List ℕ) (i : ℕ) → i < length sizes → taken (drop i sizes) ≡ evened (get_or sizes i 0) + taken (drop (i + 1) sizes)
taken_from sizes i below = ap taken (rest sizes i below)

-- one more address
pub one_more : (places sizes whole : List ℕ) (next i : ℕ) → i < length sizes → places ++ addresses next (drop i sizes) ≡ whole
    → (places ++ next ∷ []) ++ addresses (next + evened (get_or sizes i 0)) (drop (i + 1) sizes) ≡ whole
one_more places sizes whole next i below so_far =
    append_assoc places (next ∷ []) (addresses (next + evened (get_or sizes i 0)) (drop (i + 1) sizes))
    ∙ ap (λ (xs : List ℕ). places ++ xs) (sym (ap (addresses next) (rest sizes i below))) ∙ so_far

append_nil : (xs : List ℕ) → xs ++ [] ≡ xs
append_nil [] = refl
append_nil (x ∷ xs) = ap (λ (ys : List ℕ). x ∷ ys) (append_nil xs)

pub all_placed : (places sizes whole : List ℕ) (next i : ℕ) → length sizes ≤ i → places ++ addresses next (drop i sizes) ≡ whole → places ≡ whole
all_placed places sizes whole next i over so_far =
    sym (append_nil places) ∙ ap (λ (xs : List ℕ). places ++ addresses next xs) (sym (drop_of_length-le sizes over)) ∙ so_far

-- ---- each address is even, and lies in the room from the first one on

even_sum : (start n : ℕ) → start % 2 ≡ 0 → (start + evened n) % 2 ≡ 0
even_sum start n even = omega arith

pub all_lie : (start : ℕ) (sizes : List ℕ) → start % 2 ≡ 0 → 4352 ≤ start → start + taken sizes ≤ 64352 → All LiesEven (addresses start sizes)
all_lie start [] even low high zero d below = absurd (omega arith)
all_lie start [] even low high (suc i) d below = absurd (omega arith)
all_lie start (n ∷ sizes) even low high zero d below = record { even = even; low = low; high = omega arith }
all_lie start (n ∷ sizes) even low high (suc i) d below =
    all_lie (start + evened n) sizes (even_sum start n even) (omega arith) (omega arith) i d (omega arith)

-- ---- objects of five bytes

pub taken_of_fives : (count : ℕ) → taken (replicate count 5) ≡ 6 * count
taken_of_fives zero = refl
taken_of_fives (suc count) = ap (λ (n : ℕ). 6 + n) (taken_of_fives count) ∙ omega arith
