-- Items whose jumps all reach their labels in two bytes have no shorter choice of sizes; two lists that name other labels are such items together.
use Rattle.std.proofs.Common.{◌≡◌, ◌⊎◌, inl, inr, ℕ, zero, suc, ◌+◌, ◌<◌, ◌≤◌, List, [], ◌∷◌, ◌++◌, sum, map, refl, sym, ap, ◌∙◌, subst, arith}
use Rattle.msp_isa.specs.declared.code.Item.{Item}
use Rattle.msp_isa.specs.declared.code.Item.TheVariants as item
use Rattle.msp_isa.specs.declared.instr.Cond.{Cond}
use Rattle.msp_isa.specs.Stands.{item_at}
use Rattle.msp_layout.specs.Rounds.{short_bytes}
use Rattle.msp_layout.specs.Sizes.{IsCorrect, IsShortest, Reaches, place}
use Rattle.msp_layout.proofs.Shortest.{starts_low}
use Rattle.check_bytes.proofs.Bytes.{before_within, bytes, bytes_are, bytes_before, place_is, sum_below}

abbrev pub IsNear : List Item → Type 0
IsNear items = (k t l : ℕ) (c : Cond) → item_at items k ≡ item.Jump c l → item_at items t ≡ item.Label l → Reaches (bytes_before items k) (bytes_before items t)

reaches_on : (n a b x y : ℕ) → x ≡ n + a → y ≡ n + b → Reaches a b → Reaches x y
reaches_on n a b x y e f r = let back = r.back in let forth = r.forth in record { back = omega (arith, e, f, back); forth = omega (arith, e, f, forth) }

none_before : (x a : ℕ) → x ≡ a → x ≡ 0 + a
none_before x a e = omega (arith, e)

-- ---- sizes

short_correct : (items : List Item) → IsNear items → IsCorrect items (map short_bytes items)
short_correct items near =
    let low = starts_low items in
    record {
      len = low.len;
      each = low.each;
      reaches = λ k t l c e at two.
          reaches_on 0 (bytes_before items k) (bytes_before items t) (place (map short_bytes items) k) (place (map short_bytes items) t)
          (none_before _ _ (place_is items k)) (none_before _ _ (place_is items t)) (near k t l c e at);
    }

no_more : (a b c : ℕ) → a ≤ b → b ≡ c → a ≤ c
no_more a b c le e = omega (arith, le, e)

pub shortest_within : (items : List Item) (sizes : List ℕ) → IsNear items → IsShortest items sizes → sum sizes ≤ bytes items
shortest_within items sizes near shortest =
    let other = short_correct items near in
    let below = sum_below sizes (map short_bytes items) (shortest.correct.len ∙ sym other.len) (shortest.least (map short_bytes items) other) in
    no_more (sum sizes) (sum (map short_bytes items)) (bytes items) below (bytes_are items)

-- ---- few items, and two lists

pub few_near : (items : List Item) → bytes items ≤ 1000 → IsNear items
few_near items few k t l c e at =
    let a = before_within items k in let b = before_within items t in
    record { back = omega (arith, few, a); forth = omega (arith, few, b) }

-- the labels of items and of their jumps are such numbers
abbrev pub IsBetween : (low high : ℕ) → Item → Type 0
IsBetween low high (item.Jump c l) = (low ≤ l) × (l < high)
IsBetween low high (item.Label l) = (low ≤ l) × (l < high)
IsBetween low high _ = Unit {0}

abbrev pub AreBetween : (low high : ℕ) → List Item → Type 0
AreBetween low high [] = Unit {0}
AreBetween low high (x ∷ xs) = IsBetween low high x × AreBetween low high xs

pub between-append : (low high : ℕ) (xs ys : List Item) → AreBetween low high xs → AreBetween low high ys → AreBetween low high (xs ++ ys)
between-append low high [] ys a b = b
between-append low high (x ∷ xs) ys a b = (a.0, between-append low high xs ys a.1 b)

between_at : (low high : ℕ) (items : List Item) (k : ℕ) → AreBetween low high items → IsBetween low high (item_at items k)
between_at low high [] k all = tt
between_at low high (x ∷ xs) zero all = all.0
between_at low high (x ∷ xs) (suc k) all = between_at low high xs k all.1

jump_between : (low high : ℕ) (items : List Item) (k l : ℕ) (c : Cond) → AreBetween low high items → item_at items k ≡ item.Jump c l → (low ≤ l) × (l < high)
jump_between low high items k l c all e = subst (IsBetween low high) e (between_at low high items k all)

label_between : (low high : ℕ) (items : List Item) (k l : ℕ) → AreBetween low high items → item_at items k ≡ item.Label l → (low ≤ l) × (l < high)
label_between low high items k l all e = subst (IsBetween low high) e (between_at low high items k all)

-- a place of two lists is one of the first list or of the second
record IsFirst (xs ys : List Item) (k : ℕ) : Type 0 where
  pub same : item_at (xs ++ ys) k ≡ item_at xs k
  pub before : bytes_before (xs ++ ys) k ≡ bytes_before xs k

record IsSecond (xs ys : List Item) (k : ℕ) : Type 0 where
  pub on : ℕ
  pub same : item_at (xs ++ ys) k ≡ item_at ys on
  pub before : bytes_before (xs ++ ys) k ≡ bytes xs + bytes_before ys on

either : (xs ys : List Item) (k : ℕ) → IsFirst xs ys k ⊎ IsSecond xs ys k
either [] ys k = inr (record { on = k; same = refl; before = omega arith })
either (x ∷ xs) ys zero = inl (record { same = refl; before = refl })
either (x ∷ xs) ys (suc k) = next (either xs ys k)
  where
    next : IsFirst xs ys k ⊎ IsSecond xs ys k → IsFirst (x ∷ xs) ys (suc k) ⊎ IsSecond (x ∷ xs) ys (suc k)
    next (inl h) = inl (record { same = h.same; before = ap (λ n. short_bytes x + n) h.before })
    next (inr h) = inr (record { on = h.on; same = h.same; before = let e = h.before in omega (arith, e) })

pub both_near : (xs ys : List Item) (low mid high : ℕ) → AreBetween low mid xs → AreBetween mid high ys → IsNear xs → IsNear ys → IsNear (xs ++ ys)
both_near xs ys low mid high a b first second k t l c e at = by (either xs ys k) (either xs ys t)
  where
    by : IsFirst xs ys k ⊎ IsSecond xs ys k → IsFirst xs ys t ⊎ IsSecond xs ys t → Reaches (bytes_before (xs ++ ys) k) (bytes_before (xs ++ ys) t)
    by (inl f) (inl g) =
        reaches_on 0 (bytes_before xs k) (bytes_before xs t) (bytes_before (xs ++ ys) k) (bytes_before (xs ++ ys) t)
        (none_before _ _ f.before) (none_before _ _ g.before) (first k t l c (sym f.same ∙ e) (sym g.same ∙ at))
    by (inr f) (inr g) =
        reaches_on (bytes xs) (bytes_before ys f.on) (bytes_before ys g.on) (bytes_before (xs ++ ys) k) (bytes_before (xs ++ ys) t)
        f.before g.before (second f.on g.on l c (sym f.same ∙ e) (sym g.same ∙ at))
    by (inl f) (inr g) =
        let p = (jump_between low mid xs k l c a (sym f.same ∙ e)).1 in
        let q = (label_between mid high ys g.on l b (sym g.same ∙ at)).0 in absurd (omega (arith, p, q))
    by (inr f) (inl g) =
        let p = (jump_between mid high ys f.on l c b (sym f.same ∙ e)).0 in
        let q = (label_between low mid xs t l a (sym g.same ∙ at)).1 in absurd (omega (arith, p, q))
