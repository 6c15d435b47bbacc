-- Words pushed behind others stand there, and those before them stay.
use Rattle.std.proofs.Common.{◌≡◌, ◌⊎◌, inl, inr, ℕ, pos, negsuc, ◌+◌, ◌-◌, ◌*◌, ◌/◌, ◌<◌, ◌≤◌, ◌≤ℤ◌, ◌==◌, not, cond, Bool, true, false, List, [], ◌++◌, length, sum, get_or, arith, refl, sym, ap, ◌∙◌, nat_le, length-append}
use Rattle.std.specs.List.{AllByRecursion}
use Rattle.std.proofs.Math.Dec.{le→leb}
use Rattle.std.proofs.lemmas.Bool.{eqb-true, cases_lt}
use Rattle.std.proofs.lemmas.List.{get_or-append-add, get_or_append_left}
use Rattle.std.proofs.lemmas.List.Sums.{sum_by_more}
use Rattle.msp_isa.specs.declared.code.Item.{Item}
use Rattle.msp_isa.specs.declared.code.Item.TheVariants as item
use Rattle.msp_isa.specs.declared.instr.Cond.{Cond}
use Rattle.msp_isa.specs.declared.instr.Cond.TheVariants.{Jne, Jeq, Jnc, Jc, Jn, Jge, Jl, Jmp}
use Rattle.msp_isa.specs.declared.instr.Instr.{Instr}
use Rattle.msp_isa.specs.Encode.{encoded, IsWritten}
use Rattle.msp_isa.specs.Stands.{instructions, item_at, words_to, long_jump, LeadsTo}
use Rattle.std.proofs.lemmas.Grind.{get_or_default_zero}
use Rattle.msp_layout.proofs.Shortest.{place_le}
use Rattle.msp_layout.specs.Rounds.{AreTargets, ArePlaces}
use Rattle.msp_layout.specs.Laid.{IsGoodItem}
use Rattle.msp_layout.specs.Sizes.{HasSize, long_bytes, place, Reaches, IsCorrect, IsShortest}
use Rattle.msp_layout.specs.Words.{words_of, StandIn, is_long, formed_item, ItemsStand}

pub place_more : (sizes : List ℕ) (k : ℕ) → k < length sizes → place sizes (k + 1) ≡ place sizes k + get_or sizes k 0
place_more sizes k lt = sum_by_more (λ (n : ℕ). n) sizes k 0 lt

-- an item has as many bytes as its size tells
long_words : (c : Cond) (target : ℕ) → 2 * length (words_of (long_jump c target)) ≡ long_bytes c
long_words Jmp target = refl
long_words Jn target = refl
long_words Jne target = refl
long_words Jeq target = refl
long_words Jnc target = refl
long_words Jc target = refl
long_words Jge target = refl
long_words Jl target = refl

long_is_long : (c : Cond) → is_long (long_bytes c) ≡ true
long_is_long Jmp = refl
long_is_long Jn = refl
long_is_long _ = refl

pub item_bytes : (entries : ℕ → ℕ) (from target size : ℕ) (it : Item) → HasSize it size → 2 * length (words_of (instructions entries (is_long size) from target it)) ≡ size
item_bytes entries from target size (item.Is i) h = omega (arith, length-append (encoded i) [])
item_bytes entries from target size (item.Label l) h = sym h
item_bytes entries from target size (item.CallFn f) h = sym h
item_bytes entries from target size (item.AddrOf f r) h = sym h
item_bytes entries from target size (item.Jump c l) (inl h) = rw h refl
item_bytes entries from target size (item.Jump c l) (inr h) = rw (h, long_is_long c) (long_words c target)

-- words stay where more follow
pub stays : (words more : List ℕ) (at : ℕ) (is : List Instr) → StandIn words at is → StandIn (words ++ more) at is
stays words more at is s = record {
  written = s.written;
  within = omega (arith, s.within, length-append words more);
  same = λ i lt. get_or_append_left words more 0 (at + i) (omega (arith, s.within)) ∙ s.same i lt;
}

-- words pushed stand behind the others
pub pushed : (words : List ℕ) (is : List Instr) → AllByRecursion IsWritten is → StandIn (words ++ words_of is) (length words) is
pushed words is all = record {
  written = all;
  within = omega (arith, length-append words (words_of is));
  same = λ i lt. get_or-append-add words (words_of is) i 0;
}

-- a jump that reaches has a written form
near : (next target : ℕ) → next ≤ target + 1024 → target ≤ next + 1022 → (negsuc 511 ≤ℤ words_to next target) × (words_to next target ≤ℤ pos 511)
near next target back forth = go (nat_le next target) refl
  where
    go : (b : Bool) → nat_le next target ≡ b → (negsuc 511 ≤ℤ cond b (pos ((target - next) / 2)) (negsuc ((next - target - 1) / 2))) × (cond b (pos ((target - next) / 2)) (negsuc ((next - target - 1) / 2)) ≤ℤ pos 511)
    go true e = (record { le = tt }, record { le = le→leb ((target - next) / 2) 511 (omega arith) })
    go false e = (record { le = le→leb ((next - target - 1) / 2) 511 (omega arith) }, record { le = tt })

long_written : (c : Cond) (target : ℕ) → AllByRecursion IsWritten (long_jump c target)
long_written Jmp target = ((tt, omega arith), tt)
long_written Jn target = ((omega arith, omega arith), ((omega arith, omega arith), ((tt, omega arith), tt)))
long_written Jne target = ((omega arith, omega arith), ((tt, omega arith), tt))
long_written Jeq target = ((omega arith, omega arith), ((tt, omega arith), tt))
long_written Jnc target = ((omega arith, omega arith), ((tt, omega arith), tt))
long_written Jc target = ((omega arith, omega arith), ((tt, omega arith), tt))
long_written Jge target = ((omega arith, omega arith), ((tt, omega arith), tt))
long_written Jl target = ((omega arith, omega arith), ((tt, omega arith), tt))

jump_written : (entries : ℕ → ℕ) (c : Cond) (l from target : ℕ) (long : Bool) → (long ≡ false → Reaches from target) → AllByRecursion IsWritten (instructions entries long from target (item.Jump c l))
jump_written entries c l from target true r = long_written c target
jump_written entries c l from target false r = let h = r refl in (near (from + 2) target h.back (omega (arith, h.forth)), tt)

pub item_written : (entries : ℕ → ℕ) (fns : ℕ) (it : Item) (from target : ℕ) (long : Bool) → IsGoodItem fns it → ((l : ℕ) (c : Cond) → it ≡ item.Jump c l → long ≡ false → Reaches from target) → AllByRecursion IsWritten (instructions entries long from target it)
item_written entries fns (item.Is i) from target long good r = (good, tt)
item_written entries fns (item.Label l) from target long good r = tt
item_written entries fns (item.Jump c l) from target long good r = jump_written entries c l from target long (r l c refl)
item_written entries fns (item.CallFn f) from target long good r = ((tt, refl), tt)
item_written entries fns (item.AddrOf f q) from target long good r = ((tt, good.2), tt)

moved : (base from to : ℕ) → Reaches from to → Reaches (0x4000 + (base + from)) (0x4000 + (base + to))
moved base from to r = record { back = omega (arith, r.back); forth = omega (arith, r.forth) }

short_of : (n : ℕ) → is_long n ≡ false → n ≡ 2
short_of n e = go (n == 2) refl e
  where
    go : (b : Bool) → (n == 2) ≡ b → not b ≡ false → n ≡ 2
    go true h e = eqb-true n 2 h
    go false h e = cc

-- a formed item has written forms
pub formed_written : (entries : ℕ → ℕ) (fns : ℕ) (items : List Item) (sizes targets : List ℕ) (before k : ℕ) → IsCorrect items sizes → LeadsTo items (item_at items k) (get_or targets k 0) → IsGoodItem fns (item_at items k) →
    AllByRecursion IsWritten (formed_item entries items sizes targets before k)
formed_written entries fns items sizes targets before k is leads good =
    item_written entries fns (item_at items k) (0x4000 + (before + place sizes k)) (0x4000 + (before + place sizes (get_or targets k 0))) (is_long (get_or sizes k 0)) good
    (λ l c e short. let lead = rw e at leads in moved before (place sizes k) (place sizes (get_or targets k 0)) (is.reaches k (get_or targets k 0) l c e lead (short_of (get_or sizes k 0) short)))

-- one item more stands
pub one_more : (entries : ℕ → ℕ) (items : List Item) (sizes targets words : List ℕ) (before k : ℕ) → IsCorrect items sizes → k < length items → AllByRecursion IsWritten (formed_item entries items sizes targets before k) →
    2 * length words ≡ before + place sizes k → ItemsStand entries items sizes targets before words k → ItemsStand entries items sizes targets before (words ++ words_of (formed_item entries items sizes targets before k)) (k + 1)
one_more entries items sizes targets words before k is lt all len so = λ j h. go j (cases_lt j k) h
  where
    go : (j : ℕ) → (j < k) ⊎ (k ≤ j) → j < k + 1 → (at : ℕ) × (2 * at ≡ before + place sizes j) × StandIn (words ++ words_of (formed_item entries items sizes targets before k)) at (formed_item entries items sizes targets before j)
    go j (inl below) h =
        let s = so j below in
        (s.0, s.1, stays words (words_of (formed_item entries items sizes targets before k)) s.0 (formed_item entries items sizes targets before j) s.2)
    go j (inr above) h =
        let e : j ≡ k = omega arith in
        rw e (length words, len, pushed words (formed_item entries items sizes targets before k) all)

pub more_bytes : (entries : ℕ → ℕ) (items : List Item) (sizes targets words : List ℕ) (before k : ℕ) → IsCorrect items sizes → k < length items → 2 * length words ≡ before + place sizes k →
    2 * length (words ++ words_of (formed_item entries items sizes targets before k)) ≡ before + place sizes (k + 1)
more_bytes entries items sizes targets words before k is lt len =
    omega (
      arith,
      length-append words (words_of (formed_item entries items sizes targets before k)),
      place_more sizes k (omega (arith, is.len)),
      item_bytes entries (0x4000 + (before + place sizes k)) (0x4000 + (before + place sizes (get_or targets k 0))) (get_or sizes k 0) (item_at items k) (is.each k lt),
    )

agree : (entries : ℕ → ℕ) (a b : Bool) (f g t u : ℕ) (x y : Item) → a ≡ b → f ≡ g → t ≡ u → x ≡ y → instructions entries a f t x ≡ instructions entries b g u y
agree entries a b f g t u x y h i j k = rw (h, i, j, k) refl

-- what is read of the form of an item is its form
pub formed_as_read : (entries : ℕ → ℕ) (items : List Item) (sizes targets places old : List ℕ) (k p t q s n : ℕ) (it : Item) → IsShortest items sizes → AreTargets items targets → ArePlaces sizes places → k < length items →
    it ≡ item_at items k → p ≡ get_or places k p → t ≡ get_or targets k t → q ≡ get_or places t q → s ≡ get_or sizes k s → n ≡ length old →
    instructions entries (not (s == 2)) (16384 + 2 * n + p) (16384 + 2 * n + q) it ≡ formed_item entries items sizes targets (2 * length old) k
formed_as_read entries items sizes targets places old k p t q s n it is ts ps lt ei ep et eq es en =
    let s0 : s ≡ get_or sizes k 0 = es ∙ get_or_default_zero sizes k s (omega (arith, is.correct.len)) in
    let t0 : t ≡ get_or targets k 0 = et ∙ get_or_default_zero targets k t (omega (arith, ts.len)) in
    let tlt : t < length items = rw t0 (ts.within k lt) in
    let p0 : p ≡ place sizes k = ep ∙ get_or_default_zero places k p (omega (arith, ps.len, is.correct.len)) ∙ ps.each k (omega (arith, is.correct.len)) in
    let q0 : q ≡ place sizes t = eq ∙ get_or_default_zero places t q (omega (arith, ps.len, is.correct.len)) ∙ ps.each t (omega (arith, is.correct.len)) in
    let q1 : q ≡ place sizes (get_or targets k 0) = q0 ∙ ap (λ (x : ℕ). place sizes x) t0 in
    agree entries (not (s == 2)) (is_long (get_or sizes k 0)) (16384 + 2 * n + p) (0x4000 + (2 * length old + place sizes k)) (16384 + 2 * n + q) (0x4000 + (2 * length old + place sizes (get_or targets k 0))) it (item_at items k)
    (ap is_long s0) (omega arith) (omega arith) ei

-- places are within the function
pub place_read : (items : List Item) (sizes targets places : List ℕ) (k t q : ℕ) → IsShortest items sizes → AreTargets items targets → ArePlaces sizes places → k < length items → t ≡ get_or targets k t → q ≡ get_or places t q → q ≤ sum sizes
place_read items sizes targets places k t q is ts ps lt et eq =
    let t0 : t ≡ get_or targets k 0 = et ∙ get_or_default_zero targets k t (omega (arith, ts.len)) in
    let tlt : t < length items = rw t0 (ts.within k lt) in
    let q0 : q ≡ place sizes t = eq ∙ get_or_default_zero places t q (omega (arith, ps.len, is.correct.len)) ∙ ps.each t (omega (arith, is.correct.len)) in
    rw q0 (place_le sizes t)
