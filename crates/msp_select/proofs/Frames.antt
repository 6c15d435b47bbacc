-- The homes of a frame lie in it, and apart.
use Rattle.std.proofs.Common.{◌≡◌, ◌≢◌, ◌⊎◌, ⊎_elim, ℕ, zero, suc, ◌+◌, ◌-◌, ◌*◌, ◌<◌, ◌≤◌, ◌==◌, Bool, true, false, cond, List, [], ◌∷◌, refl, sym, ap, ◌∙◌, subst, arith}
use mathlib.Core.Logic.{inl, inr}
use Rattle.std.proofs.lemmas.Bool.Decides.{eqb_tells}
use Rattle.mid_code.specs.declared.code.MidFn.{MidFn}
use Rattle.mid_code.specs.Machine.{fn_of}
use Rattle.msp_select.specs.Frames.{count_pushed, frame_home, frame_place, is_among, others_below, own_bytes, pushed_behind, rounded}
use Rattle.msp_select.specs.Sound.{FramesFit, IsPlace}

clash : (b : Bool) → b ≡ false → b ≡ true → ⊥
clash b f t = cc

-- ---- parameters

first_of : (p v : ℕ) (ps : List ℕ) → is_among ps v ≡ false → is_among (p ∷ ps) v ≡ true → p ≡ v
first_of p v ps none some = by (eqb_tells p v)
  where
    by : (((p == v) ≡ true) × (p ≡ v)) ⊎ (((p == v) ≡ false) × (p ≢ v)) → p ≡ v
    by (inl t) = t.1
    by (inr t) = absurd (clash (is_among ps v) none (sym (ap (λ b. cond b true (is_among ps v)) t.0) ∙ some))

count_on : (b : Bool) (n : ℕ) → n ≤ cond b n (suc n)
count_on true n = omega arith
count_on false n = omega arith

behind_below : (ps : List ℕ) (v : ℕ) → is_among ps v ≡ true → pushed_behind ps v < count_pushed ps
behind_below [] v h = absurd (let z : ⊥ = cc in z)
behind_below (p ∷ ps) v h = by (behind_below ps v) (is_among ps v) refl
  where
    by : (is_among ps v ≡ true → pushed_behind ps v < count_pushed ps) → (b : Bool) → is_among ps v ≡ b → cond b (pushed_behind ps v) (count_pushed ps) < cond (is_among ps p) (count_pushed ps) (suc (count_pushed ps))
    by again true e = let a = again e in let c = count_on (is_among ps p) (count_pushed ps) in omega (arith, a, c)
    by again false e =
        let same = first_of p v ps e h in
        let none : is_among ps p ≡ false = ap (is_among ps) same ∙ e in
        rw none (omega arith)

behind_differ : (ps : List ℕ) (v w : ℕ) → is_among ps v ≡ true → is_among ps w ≡ true → v ≢ w → pushed_behind ps v ≢ pushed_behind ps w
behind_differ [] v w hv hw ne e = clash false refl hv
behind_differ (p ∷ ps) v w hv hw ne e = by (λ f g. behind_differ ps v w f g ne) (is_among ps v) refl (is_among ps w) refl e
  where
    by : (is_among ps v ≡ true → is_among ps w ≡ true → pushed_behind ps v ≢ pushed_behind ps w) → (b : Bool) → is_among ps v ≡ b → (c : Bool) → is_among ps w ≡ c → cond b (pushed_behind ps v) (count_pushed ps) ≡ cond c (pushed_behind ps w) (count_pushed ps) → ⊥
    by again true f true g e = again f g e
    by again true f false g e = let l = behind_below ps v f in omega (arith, l, e)
    by again false f true g e = let l = behind_below ps w g in omega (arith, l, e)
    by again false f false g e = ne (sym (first_of p v ps f hv) ∙ first_of p w ps g hw)

-- ---- other values

others_grow : (ps : List ℕ) (v d : ℕ) → others_below ps v ≤ others_below ps (v + d)
others_grow ps v zero = let e : v + 0 ≡ v = omega arith in rw e (omega arith)
others_grow ps v (suc d) =
    let h = others_grow ps v d in
    let e : v + suc d ≡ suc (v + d) = omega arith in
    rw e (omega (arith, h))

others_rise : (ps : List ℕ) (v w : ℕ) → v < w → is_among ps v ≡ false → others_below ps v + 1 ≤ others_below ps w
others_rise ps v w lt none =
    let e : suc v + (w - suc v) ≡ w = omega (arith, lt) in
    let h = subst (λ n. others_below ps (suc v) ≤ others_below ps n) e (others_grow ps (suc v) (w - suc v)) in
    let one : others_below ps (suc v) ≡ others_below ps v + 1 = ap (λ b. others_below ps v + cond b 0 1) none in
    omega (arith, h, one)

others_differ : (ps : List ℕ) (v w : ℕ) → is_among ps v ≡ false → is_among ps w ≡ false → v ≢ w → others_below ps v ≢ others_below ps w
others_differ ps v w fv fw ne e = ⊎_elim (λ lt. let h = others_rise ps v w lt fv in omega (arith, h, e)) (λ lt. let h = others_rise ps w v lt fw in omega (arith, h, e)) (sides v w ne)
  where
    sides : (v w : ℕ) → v ≢ w → (v < w) ⊎ (w < v)
    sides zero zero ne = absurd (ne refl)
    sides zero (suc w) ne = inl (omega arith)
    sides (suc v) zero ne = inr (omega arith)
    sides (suc v) (suc w) ne = ⊎_elim (λ l. inl (omega (arith, l))) (λ l. inr (omega (arith, l))) (sides v w (λ e. ne (ap suc e)))

-- ---- homes

module _ (fn : MidFn) where
  parameter_at : (v : ℕ) → is_among fn.params v ≡ true → frame_place fn v ≡ own_bytes fn + 2 + 2 * pushed_behind fn.params v
  parameter_at v e = ap (λ b. cond b (own_bytes fn + 2 + 2 * pushed_behind fn.params v) (rounded fn.frame + 2 * others_below fn.params v)) e

  other_at : (v : ℕ) → is_among fn.params v ≡ false → frame_place fn v ≡ rounded fn.frame + 2 * others_below fn.params v
  other_at v e = ap (λ b. cond b (own_bytes fn + 2 + 2 * pushed_behind fn.params v) (rounded fn.frame + 2 * others_below fn.params v)) e

  -- below its own bytes' end
  other_low : (v : ℕ) → v < fn.values → is_among fn.params v ≡ false → frame_place fn v + 2 ≤ own_bytes fn
  other_low v lt e = let h = others_rise fn.params v fn.values lt e in let at = other_at v e in omega (arith, h, at)

  pub differ : (v w : ℕ) → v < fn.values → w < fn.values → v ≢ w → (b : Bool) → is_among fn.params v ≡ b → (c : Bool) → is_among fn.params w ≡ c → frame_place fn v ≢ frame_place fn w
  differ v w lv lw ne true e true f h =
      let a = parameter_at v e in let b = parameter_at w f in behind_differ fn.params v w e f ne (omega (arith, a, b, h))
  differ v w lv lw ne true e false f h = let a = parameter_at v e in let b = other_low w lw f in omega (arith, a, b, h)
  differ v w lv lw ne false e true f h = let a = other_low v lv e in let b = parameter_at w f in omega (arith, a, b, h)
  differ v w lv lw ne false e false f h =
      let a = other_at v e in let b = other_at w f in others_differ fn.params v w e f ne (omega (arith, a, b, h))

pub frames_fit : FramesFit
frames_fit code deep f =
    let fn = fn_of code f in
    record {
      even_own = omega arith;
      frame = omega arith;
      kept = λ v lt. place v lt (is_among fn.params v) refl;
      apart = λ v w lv lw ne. differ fn v w lv lw ne (is_among fn.params v) refl (is_among fn.params w) refl;
      in_frame = λ v lt. refl;
      parameter = λ v lt e. parameter_at fn v e;
      other = λ v lt e. other_low fn v lt e;
    }
  where
    place : (v : ℕ) → v < (fn_of code f).values → (b : Bool) → is_among (fn_of code f).params v ≡ b → IsPlace code (λ g. frame_home (fn_of code g)) (λ g. own_bytes (fn_of code g)) deep f (frame_home (fn_of code f) v)
    place v lt true e =
        let at = parameter_at (fn_of code f) v e in let l = behind_below (fn_of code f).params v e in
        (omega (arith, at), omega (arith, at), omega (arith, at, l), inr (omega (arith, at)))
    place v lt false e =
        let at = other_at (fn_of code f) v e in let l = other_low (fn_of code f) v lt e in
        (omega (arith, at), omega (arith, at), omega (arith, l), inl l)
