-- Entries at even addresses of 16 bits, and what follows where functions stand behind one another.
use Rattle.std.proofs.Common.{◌≡◌, ◌⊎◌, inl, inr, ℕ, zero, suc, ◌+◌, ◌%◌, ◌<◌, ◌≤◌, List, [], ◌∷◌, length, sum, sum_by, get_or, arith, refl}
use Rattle.std.proofs.lemmas.Bool.{cases_lt}
use Rattle.msp_isa.specs.declared.code.CodeFn.{CodeFn}
use Rattle.msp_isa.specs.declared.code.Item.{Item}
use Rattle.msp_isa.specs.declared.code.Item.TheVariants as item
use Rattle.msp_isa.specs.declared.instr.Cond.{Cond}
use Rattle.msp_isa.specs.declared.instr.Cond.TheVariants.{Jmp, Jn}
use Rattle.msp_isa.specs.Stands.{items_of}
use Rattle.msp_layout.specs.declared.form.Formed.{Formed}
use Rattle.msp_layout.specs.Bytes.{entry_of}
use Rattle.msp_layout.specs.Order.{AreInOrder, FunctionsStandApart}
use Rattle.msp_layout.specs.Sizes.{long_bytes, HasSize, IsCorrect}
use Rattle.msp_layout.specs.Words.{AreFormed, all_sizes}
use Rattle.msp_layout.proofs.Functions.{entry_next, entry_le}
use Rattle.msp_layout.proofs.Growing.{sum-cons}

-- the bytes of items are even
long_is_even : (c : Cond) → long_bytes c % 2 ≡ 0
long_is_even Jmp = refl
long_is_even Jn = refl
long_is_even _ = refl

size_is_even : (it : Item) (n : ℕ) → HasSize it n → n % 2 ≡ 0
size_is_even (item.Is i) n h = omega arith
size_is_even (item.Label l) n h = omega arith
size_is_even (item.Jump c l) n (inl h) = omega arith
size_is_even (item.Jump c l) n (inr h) = rw h (long_is_even c)
size_is_even (item.CallFn f) n h = omega arith
size_is_even (item.AddrOf f r) n h = omega arith

both_even : (x y : ℕ) → x % 2 ≡ 0 → y % 2 ≡ 0 → (x + y) % 2 ≡ 0
both_even x y a b = omega arith

sum_is_even : (s : List ℕ) → ((k : ℕ) → k < length s → get_or s k 0 % 2 ≡ 0) → sum s % 2 ≡ 0
sum_is_even [] h = refl
sum_is_even (x ∷ s) h = rw (sum-cons x s) (both_even x (sum s) (h 0 (omega arith)) (sum_is_even s (λ k lt. h (suc k) (omega arith))))

fn_is_even : (items : List Item) (sizes : List ℕ) → IsCorrect items sizes → sum sizes % 2 ≡ 0
fn_is_even items sizes is = sum_is_even sizes (λ k lt. size_is_even _ (get_or sizes k 0) (is.each k (omega (arith, is.len))))

bytes_are_even : (code : List CodeFn) (forms : List Formed) (d : Formed) → AreFormed code forms (length code) → (f : ℕ) → f < length forms → entry_of (all_sizes forms) f % 2 ≡ 0
bytes_are_even code forms d formed zero lt = refl
bytes_are_even code forms d formed (suc f) lt =
    let here = formed.each f d (omega (arith, formed.len)) in
    let own = fn_is_even (items_of code f) (get_or forms f d).sizes.items here.shortest.correct in
    let before = bytes_are_even code forms d formed f (omega arith) in
    omega (arith, entry_next forms f d (omega arith), own, before)

-- each function begins at an even address of 16 bits
module _ (code : List CodeFn) (forms : List Formed) (formed : AreFormed code forms (length code)) (entries : ℕ → ℕ) (es : (f : ℕ) → f < length code → 0x4000 + entry_of (all_sizes forms) f ≡ entries f) where
  pub entries_are_even : (f : ℕ) → f < length code → entries f % 2 ≡ 0
  entries_are_even f lt = go forms formed es
    where
      go : (forms : List Formed) → AreFormed code forms (length code) → ((f : ℕ) → f < length code → 0x4000 + entry_of (all_sizes forms) f ≡ entries f) → entries f % 2 ≡ 0
      go [] formed es = absurd (omega (arith, formed.len))
      go (x ∷ xs) formed es = omega (arith, es f lt, bytes_are_even code (x ∷ xs) x formed f (omega (arith, formed.len)))

  pub entries_are_small : sum_by sum (all_sizes forms) ≤ 49120 → (f : ℕ) → f < length code → entries f < 0x10000
  entries_are_small room f lt = go forms formed es room
    where
      go : (forms : List Formed) → AreFormed code forms (length code) → ((f : ℕ) → f < length code → 0x4000 + entry_of (all_sizes forms) f ≡ entries f) → sum_by sum (all_sizes forms) ≤ 49120 → entries f < 0x10000
      go [] formed es room = absurd (omega (arith, formed.len))
      go (x ∷ xs) formed es room = omega (arith, es f lt, entry_le (x ∷ xs) f x (omega (arith, formed.len)))

-- what follows from the order
module _ (out : List CodeFn) (places : ℕ → ℕ → ℕ) (order : AreInOrder out places) where
  one_step : (f k n : ℕ) → f < length out → n < length (items_of out f) → k ≤ suc n → (k < suc n) ⊎ (suc n ≤ k) → (k ≤ n → places f k ≤ places f n) → places f k ≤ places f (suc n)
  one_step f k n lt within h (inl below) so = omega (arith, so (omega arith), order.items f n lt within)
  one_step f k n lt within h (inr above) so = let same : k ≡ suc n = omega arith in rw same (omega arith)

  rises : (f k n : ℕ) → f < length out → k ≤ n → n ≤ length (items_of out f) → places f k ≤ places f n
  rises f k zero lt h within = let same : k ≡ 0 = omega arith in rw same (omega arith)
  rises f k (suc n) lt h within = one_step f k n lt (omega arith) h (cases_lt k (suc n)) (λ le. rises f k n lt le (omega arith))

  one_function : (f g : ℕ) → suc g < length out → f < suc g → (f < g) ⊎ (g ≤ f) → (f < g → places f (length (items_of out f)) ≤ places g 0) → places f (length (items_of out f)) ≤ places (suc g) 0
  one_function f g within lt (inl below) so = omega (arith, so below, rises g 0 (length (items_of out g)) (omega arith) (omega arith) (omega arith), order.functions g within)
  one_function f g within lt (inr above) so = let same : f ≡ g = omega arith in rw same (order.functions g within)

  ends_before : (f g : ℕ) → f < g → g < length out → places f (length (items_of out f)) ≤ places g 0
  ends_before f zero lt within = absurd (omega arith)
  ends_before f (suc g) lt within = one_function f g within lt (cases_lt f g) (λ below. ends_before f g below (omega arith))

  apart : (f g k j : ℕ) → f < g → g < length out → k ≤ length (items_of out f) → j ≤ length (items_of out g) → places f k ≤ places g j
  apart f g k j lt within kin jin =
      omega (arith, rises f k (length (items_of out f)) (omega arith) kin (omega arith), ends_before f g lt within, rises g 0 j within (omega arith) jin)

pub stand_apart : FunctionsStandApart
stand_apart out places order f g k j lt within kin jin = apart out places order f g k j lt within kin jin
