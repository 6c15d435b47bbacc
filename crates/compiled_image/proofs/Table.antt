-- Each part's silent actions are found at its place, and none elsewhere.
use Rattle.std.proofs.Common.{◌≡◌, ℕ, zero, suc, ◌+◌, ◌<◌, ◌≤◌, ◌==◌, Bool, true, false, ◌&&◌, nat_le, nat_lt, cond, List, [], ◌∷◌, length, refl, sym, ap, subst, ◌∙◌, arith}
use Rattle.std.proofs.lemmas.Bool.Decides.{nat_tests}
use Rattle.std.proofs.lemmas.List.{length-map}
use Rattle.msp_isa.specs.declared.code.CodeFn.{CodeFn}
use Rattle.msp_isa.specs.Stands.{items_of}
use Rattle.mid_code.specs.declared.code.MidCode.{MidCode}
use Rattle.open_law.specs.Homes.{Home}
use Rattle.msp_select.specs.Laid.{AreMarked, part_at, parts}
use Rattle.msp_select.specs.Select.{Part, items_of as items_of_parts}
use Rattle.msp_layout.specs.Order.{AreInOrder}
use Rattle.compiled_image.specs.Table.{TablesAreMarked, silent_in, silent_of, table_of}

abbrev Rises : List Part → (ℕ → ℕ) → Type 0
Rises ps place = (k : ℕ) → k < length ps → place k ≤ place (suc k)

rest_rises : (p : Part) (ps : List Part) (place : ℕ → ℕ) → Rises (p ∷ ps) place → Rises ps (λ k. place (suc k))
rest_rises p ps place up k lt = up (suc k) (omega (arith, lt))

from_first : (ps : List Part) (place : ℕ → ℕ) (k : ℕ) → Rises ps place → k ≤ length ps → place 0 ≤ place k
from_first ps place zero up le = omega arith
from_first ps place (suc k) up le = let a = from_first ps place k up (omega (arith, le)) in let b = up k (omega (arith, le)) in omega (arith, a, b)

to_last : (ps : List Part) (place : ℕ → ℕ) (k : ℕ) → Rises ps place → k ≤ length ps → place k ≤ place (length ps)
to_last [] place k up le = let z : k ≡ 0 = omega (arith, le) in subst (λ n. place n ≤ place 0) (sym z) (omega arith)
to_last (p ∷ ps) place zero up le = from_first (p ∷ ps) place (length (p ∷ ps)) up (omega arith)
to_last (p ∷ ps) place (suc k) up le = to_last ps (λ n. place (suc n)) k (rest_rises p ps place up) (omega (arith, le))

-- a part that does not stand at an address
passes : (p : Part) (ps : List Part) (place : ℕ → ℕ) (a : ℕ) → ((place 0 == a) && nat_lt (place 0) (place 1)) ≡ false → silent_in (p ∷ ps) place a ≡ silent_in ps (λ k. place (suc k)) a
passes p ps place a e = ap (λ t. cond t p.silent (silent_in ps (λ k. place (suc k)) a)) e

early : (ps : List Part) (place : ℕ → ℕ) (a : ℕ) → Rises ps place → a < place 0 → silent_in ps place a ≡ []
early [] place a up lt = refl
early (p ∷ ps) place a up lt =
    let b = up 0 (omega arith) in
    let t : ((place 0 == a) && nat_lt (place 0) (place 1)) ≡ false = grind (arith, nat_tests) in
    passes p ps place a t ∙ early ps (λ k. place (suc k)) a (rest_rises p ps place up) (omega (arith, lt, b))

found : (ps : List Part) (place : ℕ → ℕ) (k : ℕ) → Rises ps place → k < length ps → place k < place (suc k) → silent_in ps place (place k) ≡ (part_at ps k).silent
found [] place k up lt code = absurd (omega (arith, lt))
found (p ∷ ps) place zero up lt code =
    let t : ((place 0 == place 0) && nat_lt (place 0) (place 1)) ≡ true = grind (arith, nat_tests) in
    ap (λ t. cond t p.silent (silent_in ps (λ k. place (suc k)) (place 0))) t
found (p ∷ ps) place (suc k) up lt code =
    let later : place 1 ≤ place (suc k) = from_first ps (λ n. place (suc n)) k (rest_rises p ps place up) (omega (arith, lt)) in
    passes p ps place (place (suc k)) (other (place 0) (place 1) (place (suc k)) later) ∙ found ps (λ n. place (suc n)) k (rest_rises p ps place up) (omega (arith, lt)) code
  where
    other : (x y z : ℕ) → y ≤ z → ((x == z) && nat_lt x y) ≡ false
    other x y z le = by_less (nat_lt x y) refl
      where
        by_less : (t : Bool) → nat_lt x y ≡ t → ((x == z) && t) ≡ false
        by_less true e = let lt : x < y = grind (arith, nat_tests) in grind (arith, nat_tests)
        by_less false e = none (x == z)
          where
            none : (b : Bool) → (b && false) ≡ false
            none true = refl
            none false = refl

between : (ps : List Part) (place : ℕ → ℕ) (k a : ℕ) → Rises ps place → k < length ps → place k < a → a < place (suc k) → silent_in ps place a ≡ []
between [] place k a up lt lo hi = absurd (omega (arith, lt))
between (p ∷ ps) place zero a up lt lo hi =
    let t : ((place 0 == a) && nat_lt (place 0) (place 1)) ≡ false = grind (arith, nat_tests) in
    passes p ps place a t ∙ early ps (λ k. place (suc k)) a (rest_rises p ps place up) hi
between (p ∷ ps) place (suc k) a up lt lo hi =
    let b = from_first (p ∷ ps) place (suc k) up (omega (arith, lt)) in
    let t : ((place 0 == a) && nat_lt (place 0) (place 1)) ≡ false = grind (arith, nat_tests) in
    passes p ps place a t ∙ between ps (λ n. place (suc n)) k a (rest_rises p ps place up) (omega (arith, lt)) lo hi

module _ (fns : ℕ → List Part) (places : ℕ → ℕ → ℕ) where
  abbrev last : ℕ → ℕ
  last f = places f (length (fns f))

  abbrev own_part : ℕ → ℕ → Bool
  own_part f a = nat_le (places f 0) a && nat_lt a (last f)

  not_in : (f a : ℕ) → own_part f a ≡ false → silent_of fns places (suc f) a ≡ silent_of fns places f a
  not_in f a e = ap (λ t. cond t (silent_in (fns f) (places f) a) (silent_of fns places f a)) e

  -- an address within a function
  within : (n f a : ℕ) → ((g : ℕ) → f < g → g < n → last f ≤ places g 0) → f < n → places f 0 ≤ a → a < last f → silent_of fns places n a ≡ silent_in (fns f) (places f) a
  within zero f a apart lt lo hi = absurd (omega (arith, lt))
  within (suc m) f a apart lt lo hi = by_same (f == m) refl (λ less. within m f a (λ g l k. apart g l (omega (arith, k))) less lo hi)
    where
      by_same : (t : Bool) → (f == m) ≡ t → (f < m → silent_of fns places m a ≡ silent_in (fns f) (places f) a) → silent_of fns places (suc m) a ≡ silent_in (fns f) (places f) a
      by_same true e below =
          let same : f ≡ m = grind (arith, nat_tests) in
          subst (λ g. silent_of fns places (suc g) a ≡ silent_in (fns f) (places f) a) same
          (let t : own_part f a ≡ true = grind (arith, nat_tests) in ap (λ t. cond t (silent_in (fns f) (places f) a) (silent_of fns places f a)) t)
      by_same false e below =
          let less : f < m = grind (arith, nat_tests) in
          let b = apart m less (omega arith) in
          let t : own_part m a ≡ false = grind (arith, nat_tests) in
          not_in m a t ∙ below less

  -- and one behind all of them
  behind_all : (n a : ℕ) → ((f : ℕ) → f < n → last f ≤ a) → silent_of fns places n a ≡ []
  behind_all zero a all = refl
  behind_all (suc m) a all =
      let b = all m (omega arith) in
      let t : own_part m a ≡ false = grind (arith, nat_tests) in
      not_in m a t ∙ behind_all m a (λ f lt. all f (omega (arith, lt)))

module _ (c : MidCode) (homes : ℕ → ℕ → Home) (own : ℕ → ℕ) (out : List CodeFn) (places : ℕ → ℕ → ℕ) (many : length c.fns ≤ length out)
    (same : (f : ℕ) → f < length c.fns → items_of out f ≡ items_of_parts (parts c homes own f)) (order : AreInOrder out places) where
  abbrev ends : ℕ → ℕ
  ends f = places f (length (items_of out f))

  climbs : (f k : ℕ) → f < length out → k ≤ length (items_of out f) → places f 0 ≤ places f k
  climbs f zero lt le = omega arith
  climbs f (suc k) lt le = let a = climbs f k lt (omega (arith, le)) in let b = order.items f k lt (omega (arith, le)) in omega (arith, a, b)

  apart : (f g : ℕ) → f < g → g < length out → ends f ≤ places g 0
  apart f zero less lt = absurd (omega (arith, less))
  apart f (suc g) less lt = by_next (f == g) refl (λ l. apart f g l (omega (arith, lt)))
    where
      by_next : (t : Bool) → (f == g) ≡ t → (f < g → ends f ≤ places g 0) → ends f ≤ places (suc g) 0
      by_next true e below = let s : f ≡ g = grind (arith, nat_tests) in subst (λ h. ends h ≤ places (suc g) 0) (sym s) (order.functions g lt)
      by_next false e below =
          let l : f < g = grind (arith, nat_tests) in
          let a = below l in
          let b = climbs g (length (items_of out g)) (omega (arith, lt)) (omega arith) in
          let d = order.functions g lt in
          omega (arith, a, b, d)

  sizes : (f : ℕ) → f < length c.fns → length (items_of out f) ≡ length (parts c homes own f)
  sizes f lt = ap length (same f lt) ∙ length-map (parts c homes own f) (λ (p : Part). p.item)

  rises : (f : ℕ) → f < length c.fns → Rises (parts c homes own f) (places f)
  rises f lt k few = let e = sizes f lt in order.items f k (omega (arith, lt, many)) (omega (arith, few, e))

  ends_at : (f : ℕ) → f < length c.fns → ends f ≡ last (parts c homes own) places f
  ends_at f lt = ap (places f) (sizes f lt)

  in_function : (f a : ℕ) → f < length c.fns → places f 0 ≤ a → a < last (parts c homes own) places f → table_of c homes own places a ≡ silent_in (parts c homes own f) (places f) a
  in_function f a lt lo hi = within (parts c homes own) places (length c.fns) f a far lt lo hi
    where
      far : (g : ℕ) → f < g → g < length c.fns → last (parts c homes own) places f ≤ places g 0
      far g less few = subst (λ n. n ≤ places g 0) (ends_at f lt) (apart f g less (omega (arith, few, many)))

  marked : AreMarked c homes own (table_of c homes own places) places
  marked = record { first = first; inside = inside }
    where
      next : (f k : ℕ) → places f (k + 1) ≡ places f (suc k)
      next f k = let e : k + 1 ≡ suc k = omega arith in ap (places f) e

      first : (f k : ℕ) → f < length c.fns → k < length (parts c homes own f) → places f k < places f (k + 1) → table_of c homes own places (places f k) ≡ (part_at (parts c homes own f) k).silent
      first f k lt few code =
          let up = rises f lt in
          let e = next f k in
          let lo = from_first (parts c homes own f) (places f) k up (omega (arith, few)) in
          let hi = to_last (parts c homes own f) (places f) (suc k) up (omega (arith, few)) in
          in_function f (places f k) lt lo (omega (arith, code, e, hi)) ∙ found (parts c homes own f) (places f) k up few (omega (arith, code, e))

      inside : (f k a : ℕ) → f < length c.fns → k < length (parts c homes own f) → places f k < a → a < places f (k + 1) → table_of c homes own places a ≡ []
      inside f k a lt few low high =
          let up = rises f lt in
          let e = next f k in
          let lo = from_first (parts c homes own f) (places f) k up (omega (arith, few)) in
          let hi = to_last (parts c homes own f) (places f) (suc k) up (omega (arith, few)) in
          in_function f a lt (omega (arith, lo, low)) (omega (arith, high, e, hi)) ∙ between (parts c homes own f) (places f) k a up few low (omega (arith, high, e))

  unmarked : (g a : ℕ) → length c.fns ≤ g → g < length out → places g 0 ≤ a → table_of c homes own places a ≡ []
  unmarked g a le lt low = behind_all (parts c homes own) places (length c.fns) a (λ f few. subst (λ n. n ≤ a) (ends_at f few) (let b = apart f g (omega (arith, few, le)) lt in omega (arith, b, low)))

pub tables_are_marked : TablesAreMarked
tables_are_marked c homes own out places many same order = (marked c homes own out places many same order, unmarked c homes own out places many same order)
