-- Rounds keep below every correct choice, and end in one.
use Rattle.std.proofs.Common.{◌≡◌, ◌⊎◌, inl, inr, ℕ, zero, suc, ◌+◌, ◌*◌, ◌^◌, ◌<◌, ◌≤◌, ◌==◌, ◌&&◌, not, cond, Bool, true, false, List, [], ◌∷◌, length, sum, take, get_or, arith, refl, sym, ap, ◌∙◌, Option, Some, None, nat_le, map}
use Rattle.std.proofs.lemmas.Bool.{eq-eqb, cases_lt, leb-true, le-leb, and_parts, and_from}
use Rattle.std.proofs.lemmas.List.{get_or_past, get_or-map, length-map}
use Rattle.msp_layout.proofs.Items.{jump_within}
use Rattle.msp_layout.proofs.Growing.{sum-cons, long_is_longer}
use Rattle.msp_isa.specs.declared.code.Item.{Item}
use Rattle.msp_isa.specs.declared.code.Item.TheVariants as item
use Rattle.msp_isa.specs.declared.instr.Cond.{Cond}
use Rattle.msp_isa.specs.declared.instr.Cond.TheVariants.{Jmp, Jn}
use Rattle.msp_isa.specs.declared.instr.Instr.{Instr}
use Rattle.msp_isa.specs.declared.instr.Instr.TheVariants as instr
use Rattle.msp_isa.specs.Encode.{encoded, before_words, further_word}
use Rattle.msp_isa.specs.Stands.{item_at, LeadsTo}
use Rattle.msp_layout.specs.Laid.{StandsOnce}
use Rattle.msp_layout.specs.Sizes.{long_bytes, HasSize, place, Reaches, IsCorrect, IsShortest}
use Rattle.msp_layout.specs.Rounds.{short_bytes, reaches, widened, AreTargets, ArePlaces, AreLow, AreWidened}

-- an instruction has three words at most
with_word : (o : Option ℕ) (ws : List ℕ) → length (before_words o ws) ≤ 1 + length ws
with_word (Some x) ws = omega arith
with_word None ws = omega arith

pub three_words : (i : Instr) → length (encoded i) ≤ 3
three_words (instr.Two op byte s d) = omega (arith, with_word (further_word s) (before_words (further_word d) []), with_word (further_word d) [])
three_words (instr.One op byte o) = omega (arith, with_word (further_word o) [])
three_words (instr.Jump c k) = omega arith
three_words instr.Reti = omega arith

long_fits : (c : Cond) → long_bytes c ≤ 8
long_fits Jmp = omega arith
long_fits Jn = omega arith
long_fits _ = omega arith

pub size_fits : (it : Item) (n : ℕ) → HasSize it n → n ≤ 8
size_fits (item.Is i) n h = omega (arith, three_words i)
size_fits (item.Label l) n h = omega arith
size_fits (item.Jump c l) n (inl h) = omega arith
size_fits (item.Jump c l) n (inr h) = omega (arith, long_fits c)
size_fits (item.CallFn f) n h = omega arith
size_fits (item.AddrOf f r) n h = omega arith

-- sums of sizes
below_eight : (x n l : ℕ) → x ≤ 8 → n ≤ 8 * l → x + n ≤ 8 * suc l
below_eight x n l a b = omega arith

pub sum_fits : (s : List ℕ) → ((k : ℕ) → k < length s → get_or s k 0 ≤ 8) → sum s ≤ 8 * length s
sum_fits [] h = omega arith
sum_fits (x ∷ s) h = rw (sum-cons x s) (below_eight x (sum s) (length s) (h 0 (omega arith)) (sum_fits s (λ k lt. h (suc k) (omega arith))))

more_le : (x a b : ℕ) → a ≤ b → x + a ≤ x + b
more_le x a b h = omega arith

zero_le : (n : ℕ) → 0 ≤ n
zero_le n = omega arith

-- items farther on have no fewer bytes before them
pub place_up : (s : List ℕ) (a b : ℕ) → a ≤ b → sum (take a s) ≤ sum (take b s)
place_up [] zero zero h = omega arith
place_up [] zero (suc b) h = omega arith
place_up [] (suc a) zero h = omega arith
place_up [] (suc a) (suc b) h = omega arith
place_up (x ∷ s) zero b h = zero_le (sum (take b (x ∷ s)))
place_up (x ∷ s) (suc a) zero h = absurd (omega arith)
place_up (x ∷ s) (suc a) (suc b) h = rw (sum-cons x (take a s), sum-cons x (take b s)) (more_le x (sum (take a s)) (sum (take b s)) (place_up s a b (omega arith)))

pub place_le : (s : List ℕ) (k : ℕ) → sum (take k s) ≤ sum s
place_le [] zero = omega arith
place_le [] (suc k) = omega arith
place_le (x ∷ s) zero = zero_le (sum (x ∷ s))
place_le (x ∷ s) (suc k) = rw (sum-cons x (take k s), sum-cons x s) (more_le x (sum (take k s)) (sum s) (place_le s k))

first_adds : (x y p q : ℕ) → x ≤ y → p + 0 ≤ q + 0 → (x + p) + 0 ≤ (y + q) + 0
first_adds x y p q h g = omega arith

both_add : (x y p q u v : ℕ) → p + q ≤ u + v → (x + p) + (y + q) ≤ (y + u) + (x + v)
both_add x y p q u v h = omega arith

-- between two items greater sizes have more bytes
pub distance : (s o : List ℕ) → length s ≡ length o → ((k : ℕ) → get_or s k 0 ≤ get_or o k 0) → (a b : ℕ) → a ≤ b →
    sum (take b s) + sum (take a o) ≤ sum (take b o) + sum (take a s)
distance [] [] e le zero zero h = omega arith
distance [] [] e le zero (suc b) h = omega arith
distance [] [] e le (suc a) zero h = omega arith
distance [] [] e le (suc a) (suc b) h = omega arith
distance [] (y ∷ o) e le a b h = absurd (omega arith)
distance (x ∷ s) [] e le a b h = absurd (omega arith)
distance (x ∷ s) (y ∷ o) e le zero zero h = omega arith
distance (x ∷ s) (y ∷ o) e le (suc a) zero h = absurd (omega arith)
distance (x ∷ s) (y ∷ o) e le zero (suc b) h =
    rw (sum-cons x (take b s), sum-cons y (take b o)) (first_adds x y (sum (take b s)) (sum (take b o)) (le 0) (distance s o (omega arith) (λ k. le (suc k)) zero b (omega arith)))
distance (x ∷ s) (y ∷ o) e le (suc a) (suc b) h =
    rw (sum-cons x (take b s), sum-cons y (take a o), sum-cons y (take b o), sum-cons x (take a s))
    (both_add x y (sum (take b s)) (sum (take a o)) (sum (take b o)) (sum (take a s)) (distance s o (omega arith) (λ k. le (suc k)) a b (omega arith)))

reaches_means : (from to : ℕ) → reaches from to ≡ true → Reaches from to
reaches_means from to h =
    let two = and_parts (nat_le (from + 2) (to + 1024)) (nat_le to (from + 1024)) h in
    record { back = leb-true (from + 2) (to + 1024) two.0; forth = omega (arith, leb-true to (from + 1024) two.1) }

means_reaches : (from to : ℕ) → Reaches from to → reaches from to ≡ true
means_reaches from to h = and_from (nat_le (from + 2) (to + 1024)) (nat_le to (from + 1024)) (le-leb (from + 2) (to + 1024) h.back) (le-leb to (from + 1024) (omega (arith, h.forth)))

-- where a jump reaches with greater sizes, it reaches with these
reaches_less : (s o : List ℕ) → length s ≡ length o → ((k : ℕ) → get_or s k 0 ≤ get_or o k 0) → (k t : ℕ) → Reaches (place o k) (place o t) → Reaches (place s k) (place s t)
reaches_less s o e le k t r = go (cases_lt k t)
  where
    go : (k < t) ⊎ (t ≤ k) → Reaches (place s k) (place s t)
    go (inl h) = record { back = omega (arith, place_up s k t (omega arith)); forth = omega (arith, distance s o e le k t (omega arith), r.forth) }
    go (inr h) = record { back = omega (arith, distance s o e le t k h, r.back); forth = omega (arith, place_up s t k h) }

-- a size of one round
module _ (items : List Item) (old other : List ℕ) (is : IsCorrect items other) (len : length old ≡ length items) (le : (k : ℕ) → get_or old k 0 ≤ get_or other k 0) where
  -- a jump that misses its label has two bytes in no correct choice
  jump_low : (k t l : ℕ) (c : Cond) (two hits : Bool) → item_at items k ≡ item.Jump c l → item_at items t ≡ item.Label l → k < length items →
      (get_or old k 0 == 2) ≡ two → reaches (place old k) (place old t) ≡ hits → cond (two && not hits) (long_bytes c) (get_or old k 0) ≤ get_or other k 0
  jump_low k t l c false hits e at lt a b = le k
  jump_low k t l c true true e at lt a b = le k
  jump_low k t l c true false e at lt a b = chosen (rw e at (is.each k lt))
    where
      chosen : (get_or other k 0 ≡ 2) ⊎ (get_or other k 0 ≡ long_bytes c) → long_bytes c ≤ get_or other k 0
      chosen (inr h) = omega arith
      chosen (inl h) =
          let r = is.reaches k t l c e at h in
          let hit : reaches (place old k) (place old t) ≡ true = means_reaches (place old k) (place old t) (reaches_less old other (len ∙ sym is.len) le k t r) in
          cc

  item_low : (k t : ℕ) (it : Item) → item_at items k ≡ it → k < length items → LeadsTo items it t → widened it (get_or old k 0) (place old k) (place old t) ≤ get_or other k 0
  item_low k t (item.Jump c l) e lt leads = jump_low k t l c (get_or old k 0 == 2) (reaches (place old k) (place old t)) e leads lt refl refl
  item_low k t (item.Is i) e lt leads = le k
  item_low k t (item.Label l) e lt leads = le k
  item_low k t (item.CallFn f) e lt leads = le k
  item_low k t (item.AddrOf f r) e lt leads = le k

jump_has : (c : Cond) (l s : ℕ) (b : Bool) → HasSize (item.Jump c l) s → HasSize (item.Jump c l) (cond b (long_bytes c) s)
jump_has c l s true h = inr refl
jump_has c l s false h = h

item_has : (it : Item) (s from to : ℕ) → HasSize it s → HasSize it (widened it s from to)
item_has (item.Jump c l) s from to h = jump_has c l s ((s == 2) && not (reaches from to)) h
item_has (item.Is i) s from to h = h
item_has (item.Label l) s from to h = h
item_has (item.CallFn f) s from to h = h
item_has (item.AddrOf f r) s from to h = h

-- one round at the places of the sizes
round_at : (items : List Item) (targets places old new : List ℕ) → AreTargets items targets → ArePlaces old places → length old ≡ length items → AreWidened items targets places old new → (k : ℕ) → k < length items →
    get_or new k 0 ≡ widened (item_at items k) (get_or old k 0) (place old k) (place old (get_or targets k 0))
round_at items targets places old new ts ps len w k lt =
    w k lt ∙ ap (λ (p : ℕ). widened (item_at items k) (get_or old k 0) p (get_or places (get_or targets k 0) 0)) (ps.each k (omega arith))
    ∙ ap (λ (p : ℕ). widened (item_at items k) (get_or old k 0) (place old k) p) (ps.each (get_or targets k 0) (omega (arith, ts.within k lt)))

pub stays_low : (items : List Item) (targets places old new : List ℕ) → AreTargets items targets → ArePlaces old places → AreLow items old → length new ≡ length items → AreWidened items targets places old new → AreLow items new
stays_low items targets places old new ts ps low len w = record {
  len = len;
  each = λ k lt. rw (round_at items targets places old new ts ps low.len w k lt) (item_has (item_at items k) (get_or old k 0) (place old k) (place old (get_or targets k 0)) (low.each k lt));
  low = λ other is k. go other is k (cases_lt k (length items));
}
  where
    go : (other : List ℕ) → IsCorrect items other → (k : ℕ) → (k < length items) ⊎ (length items ≤ k) → get_or new k 0 ≤ get_or other k 0
    go other is k (inl lt) = rw (round_at items targets places old new ts ps low.len w k lt) (item_low items old other is low.len (low.low other is) k (get_or targets k 0) (item_at items k) refl lt (ts.lead k lt))
    go other is k (inr le) = let past : get_or new k 0 ≡ 0 = get_or_past new k 0 (omega arith) in omega arith

-- a round without change
short_reaches : (c : Cond) (s from to : ℕ) (hits : Bool) → s ≡ 2 → cond ((s == 2) && not hits) (long_bytes c) s ≡ s → reaches from to ≡ hits → Reaches from to
short_reaches c s from to true two same e = reaches_means from to e
short_reaches c s from to false two same e =
    let h = rw (eq-eqb s 2 two) at same in absurd (too_long c (h ∙ two))
  where
    too_long : (c : Cond) → long_bytes c ≡ 2 → ⊥
    too_long Jmp e = omega arith
    too_long Jn e = omega arith
    too_long _ e = omega arith

pub ends_shortest : (items : List Item) (targets places sizes new : List ℕ) → AreTargets items targets → ArePlaces sizes places → AreLow items sizes → AreWidened items targets places sizes new → new ≡ sizes →
    ((k l : ℕ) (c : Cond) → item_at items k ≡ item.Jump c l → StandsOnce items l) → IsShortest items sizes
ends_shortest items targets places sizes new ts ps low w same once = record {
  correct = record { len = low.len; each = low.each; reaches = λ k t l c e at two. go k t l c e at two (jump_within items k c l e) };
  least = low.low;
}
  where
    go : (k t l : ℕ) (c : Cond) → item_at items k ≡ item.Jump c l → item_at items t ≡ item.Label l → get_or sizes k 0 ≡ 2 → k < length items → Reaches (place sizes k) (place sizes t)
    go k t l c e at two lt =
        let o = once k l c e in
        let lead : item_at items (get_or targets k 0) ≡ item.Label l = rw e at (ts.lead k lt) in
        let here : get_or targets k 0 ≡ t = o.once (get_or targets k 0) lead ∙ sym (o.once t at) in
        let r : get_or sizes k 0 ≡ widened (item.Jump c l) (get_or sizes k 0) (place sizes k) (place sizes t) =
        ap (λ (xs : List ℕ). get_or xs k 0) (sym same) ∙ round_at items targets places sizes new ts ps low.len w k lt
        ∙ ap (λ (it : Item). widened it (get_or sizes k 0) (place sizes k) (place sizes (get_or targets k 0))) e
        ∙ ap (λ (x : ℕ). widened (item.Jump c l) (get_or sizes k 0) (place sizes k) (place sizes x)) here in
        short_reaches c (get_or sizes k 0) (place sizes k) (place sizes t) (reaches (place sizes k) (place sizes t)) two (sym r) refl

-- the first sizes
short_has : (it : Item) → HasSize it (short_bytes it)
short_has (item.Jump c l) = inl refl
short_has (item.Is i) = refl
short_has (item.Label l) = refl
short_has (item.CallFn f) = refl
short_has (item.AddrOf f r) = refl

short_least : (it : Item) (n : ℕ) → HasSize it n → short_bytes it ≤ n
short_least (item.Jump c l) n (inl h) = omega arith
short_least (item.Jump c l) n (inr h) = omega (arith, long_is_longer c)
short_least (item.Is i) n h = omega arith
short_least (item.Label l) n h = omega arith
short_least (item.CallFn f) n h = omega arith
short_least (item.AddrOf f r) n h = omega arith

pub starts_low : (items : List Item) → AreLow items (map short_bytes items)
starts_low items = record {
  len = length-map items short_bytes;
  each = λ k lt. rw (at k lt) (short_has (item_at items k));
  low = λ other is k. go other is k (cases_lt k (length items));
}
  where
    at : (k : ℕ) → k < length items → get_or (map short_bytes items) k 0 ≡ short_bytes (item_at items k)
    at k lt = get_or-map short_bytes items k (item.Is instr.Reti) 0 lt

    go : (other : List ℕ) → IsCorrect items other → (k : ℕ) → (k < length items) ⊎ (length items ≤ k) → get_or (map short_bytes items) k 0 ≤ get_or other k 0
    go other is k (inl lt) = rw (at k lt) (short_least (item_at items k) (get_or other k 0) (is.each k lt))
    go other is k (inr le) = let past : get_or (map short_bytes items) k 0 ≡ 0 = get_or_past (map short_bytes items) k 0 (omega (arith, length-map items short_bytes)) in omega arith

-- low sizes have few bytes
pub low_fits : (items : List Item) (sizes : List ℕ) → AreLow items sizes → sum sizes ≤ 8 * length items
low_fits items sizes low = rw (← low.len) (sum_fits sizes (λ k lt. size_fits (item_at items k) (get_or sizes k 0) (low.each k (omega (arith, low.len)))))

pub fits : (items : List Item) (sizes : List ℕ) → AreLow items sizes → length items < 2 ^ 28 → sum sizes < 2 ^ 31 + 1
fits items sizes low few = omega (arith, low_fits items sizes low)

pub small_places : (sizes places : List ℕ) → ArePlaces sizes places → sum sizes < 2 ^ 31 + 1 → (k : ℕ) → get_or places k 0 < 2 ^ 31 + 1
small_places sizes places ps few k = go (cases_lt k (length places))
  where
    go : (k < length places) ⊎ (length places ≤ k) → get_or places k 0 < 2 ^ 31 + 1
    go (inl lt) = omega (arith, ps.each k (omega (arith, ps.len)), place_le sizes k)
    go (inr le) = omega (arith, get_or_past places k 0 le)
