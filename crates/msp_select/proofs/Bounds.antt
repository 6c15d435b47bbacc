-- A frame holds no more than its bytes and its values.
use Rattle.std.proofs.Common.{◌≡◌, ◌≢◌, ◌⊎◌, ℕ, zero, suc, ◌+◌, ◌<◌, ◌≤◌, ◌==◌, Bool, true, false, cond, List, [], ◌∷◌, refl, sym, ap, ◌∙◌, arith}
use mathlib.Core.Logic.{inl, inr}
use Rattle.std.proofs.lemmas.Bool.{eq-eqb}
use Rattle.std.proofs.lemmas.Bool.Decides.{eqb_tells}
use Rattle.std.proofs.lemmas.List.Elements.{All-head, All-tail}
use Rattle.mid_code.specs.Form.{AreBelow}
use Rattle.msp_select.specs.Frames.{FramesAreSmall, count_pushed, is_among, others_below}

one_less : (first among : Bool) → cond (cond first true among) 0 1 ≤ cond among 0 1
one_less true true = omega arith
one_less true false = omega arith
one_less false true = omega arith
one_less false false = omega arith

-- with one parameter more there are no more others
others_less : (p : ℕ) (ps : List ℕ) (n : ℕ) → others_below (p ∷ ps) n ≤ others_below ps n
others_less p ps zero = omega arith
others_less p ps (suc v) = let h = others_less p ps v in let k = one_less (p == v) (is_among ps v) in omega (arith, h, k)

-- and one fewer where it is new
others_fewer : (p : ℕ) (ps : List ℕ) (n : ℕ) → p < n → is_among ps p ≡ false → others_below (p ∷ ps) n + 1 ≤ others_below ps n
others_fewer p ps zero lt none = absurd (omega (arith, lt))
others_fewer p ps (suc v) lt none = by (λ l. others_fewer p ps v l none) (eqb_tells p v)
  where
    last : (e : p ≡ v) → others_below (p ∷ ps) (suc v) + 1 ≤ others_below ps (suc v)
    last e =
        let h = others_less p ps v in
        let t : is_among (p ∷ ps) v ≡ true = ap (λ b. cond b true (is_among ps v)) (eq-eqb p v e) in
        let f : is_among ps v ≡ false = ap (is_among ps) (sym e) ∙ none in
        let a : others_below (p ∷ ps) (suc v) ≡ others_below (p ∷ ps) v + 0 = ap (λ b. others_below (p ∷ ps) v + cond b 0 1) t in
        let b : others_below ps (suc v) ≡ others_below ps v + 1 = ap (λ c. others_below ps v + cond c 0 1) f in
        omega (arith, h, a, b)

    by : (p < v → others_below (p ∷ ps) v + 1 ≤ others_below ps v) → (((p == v) ≡ true) × (p ≡ v)) ⊎ (((p == v) ≡ false) × (p ≢ v)) → others_below (p ∷ ps) (suc v) + 1 ≤ others_below ps (suc v)
    by again (inl t) = last t.1
    by again (inr t) =
        let less : p < v = below p v lt t.1 in
        let h = again less in
        let k = one_less (p == v) (is_among ps v) in
        omega (arith, h, k)
      where
        below : (p v : ℕ) → p < suc v → p ≢ v → p < v
        below zero zero lt ne = absurd (ne refl)
        below zero (suc v) lt ne = omega arith
        below (suc p) zero lt ne = absurd (omega (arith, lt))
        below (suc p) (suc v) lt ne = let h = below p v (omega (arith, lt)) (λ e. ne (ap suc e)) in omega (arith, h)

all_others : (n : ℕ) → others_below [] n ≡ n
all_others zero = refl
all_others (suc v) = let h = all_others v in omega (arith, h)

each_once : (ps : List ℕ) (n : ℕ) → AreBelow n ps → count_pushed ps + others_below ps n ≤ n
each_once [] n all = let h = all_others n in omega (arith, h)
each_once (p ∷ ps) n all = by (each_once ps n (All-tail (λ v. v < n) p ps all)) (is_among ps p) refl
  where
    by : count_pushed ps + others_below ps n ≤ n → (b : Bool) → is_among ps p ≡ b → cond b (count_pushed ps) (suc (count_pushed ps)) + others_below (p ∷ ps) n ≤ n
    by h true e = let k = others_less p ps n in omega (arith, h, k)
    by h false e = let k = others_fewer p ps n (All-head (λ v. v < n) p ps all) e in omega (arith, h, k)

pub frames_are_small : FramesAreSmall
frames_are_small fn all = let h = each_once fn.params fn.values all in omega (arith, h)
