-- Tables of frames, one value and the others.
use Rattle.std.proofs.Common.{◌≡◌, ◌⊎◌, ℕ, zero, suc, ◌+◌, ◌-◌, ◌*◌, ◌<◌, ◌≤◌, Bool, true, false, cond, List, [], ◌∷◌, ◌++◌, Option, Some, None, IfSome, drop, length, sym, ap, ◌∙◌, subst, arith}
use mathlib.Core.Logic.{inl, inr}
use Rattle.std.specs.Prelude.{slice_index, slice_index_or}
use Rattle.std.proofs.Math.Seq.{get_or-append_seam}
use Rattle.std.proofs.lemmas.Bool.{cases_lt}
use Rattle.std.proofs.lemmas.List.{drop_more, get_or_append_left}
use Rattle.mid_code.specs.declared.code.MidFn.{MidFn}
use Rattle.mid_code.specs.Form.{AreBelow}
use Rattle.msp_select.proofs.Bounds.{frames_are_small}
use Rattle.msp_select.proofs.Frames.{frames_fit}
use Rattle.msp_select.specs.Frames.{count_pushed, frame_place, is_among, others_below, own_bytes, pushed_behind, rounded}
use Rattle.select_emitter.specs.Code.{IsSmall}
use Rattle.select_emitter.specs.Pushes.{AreBehind, IsPushed, behind_in, home_at}

pub count_drop : (ps : List ℕ) (k : ℕ) → count_pushed (drop k ps) ≤ count_pushed ps
count_drop ps zero = omega arith
count_drop [] (suc k) = omega arith
count_drop (p ∷ ps) (suc k) = by (is_among ps p) (count_drop ps k)
  where
    by : (b : Bool) → count_pushed (drop k ps) ≤ count_pushed ps → count_pushed (drop k ps) ≤ cond b (count_pushed ps) (suc (count_pushed ps))
    by true h = h
    by false h = omega (arith, h)

pub behind_few : (ps : List ℕ) (v : ℕ) → pushed_behind ps v ≤ count_pushed ps
behind_few [] v = omega arith
behind_few (p ∷ ps) v = by (is_among ps v) (is_among ps p) (behind_few ps v)
  where
    by : (b c : Bool) → pushed_behind ps v ≤ count_pushed ps → cond b (pushed_behind ps v) (count_pushed ps) ≤ cond c (count_pushed ps) (suc (count_pushed ps))
    by true true h = h
    by true false h = omega (arith, h)
    by false true h = omega arith
    by false false h = omega arith

pub near_behind : (ps : List ℕ) (table : List (Option ℕ)) → AreBehind ps table → count_pushed ps ≤ 5120 → (v : ℕ) → v < length table → IfSome (slice_index_or table v None) (λ words. words ≤ 5120)
near_behind ps table all few v lt = subst (λ o. IfSome o (λ words. words ≤ 5120)) (sym (all v lt)) (by (is_among ps v) (behind_few ps v))
  where
    by : (b : Bool) → pushed_behind ps v ≤ count_pushed ps → IfSome (cond b (Some (pushed_behind ps v)) None) (λ words. words ≤ 5120)
    by true h = omega (arith, h, few)
    by false h = _

-- ---- one more value behind the others

home_of : (fn : MidFn) (v own next : ℕ) → own ≡ own_bytes fn → next ≡ rounded fn.frame + 2 * others_below fn.params v → home_at (behind_in fn.params v) own next ≡ frame_place fn v
home_of fn v own next eo en = by (is_among fn.params v)
  where
    by : (b : Bool) → home_at (cond b (Some (pushed_behind fn.params v)) None) own next ≡ cond b (own_bytes fn + 2 + 2 * pushed_behind fn.params v) (rounded fn.frame + 2 * others_below fn.params v)
    by true = ap (λ n. n + 2 + 2 * pushed_behind fn.params v) eo
    by false = en

-- a home at the end of a list
pub homes_next : (fn : MidFn) (table : List (Option ℕ)) (homes : List ℕ) (v own next : ℕ) → AreBehind fn.params table → v < length table → length homes ≡ v → own ≡ own_bytes fn →
    next ≡ rounded fn.frame + 2 * others_below fn.params v → ((w : ℕ) → w < v → slice_index homes w ≡ frame_place fn w) →
    (w : ℕ) → w < v + 1 → slice_index (homes ++ home_at (slice_index_or table v None) own next ∷ []) w ≡ frame_place fn w
homes_next fn table homes v own next all lt many eo en before w lw = by (cases_lt w v)
  where
    by : (w < v) ⊎ (v ≤ w) → slice_index (homes ++ home_at (slice_index_or table v None) own next ∷ []) w ≡ frame_place fn w
    by (inl l) = get_or_append_left homes _ 0 w (omega (arith, many, l)) ∙ before w l
    by (inr l) =
        let e : w ≡ length homes = omega (arith, many, lw, l) in
        subst (λ z. slice_index (homes ++ home_at (slice_index_or table v None) own next ∷ []) z ≡ frame_place fn z) (sym e)
        (get_or-append_seam homes (home_at (slice_index_or table v None) own next) [] 0 ∙ ap (λ o. home_at o own next) (all v lt) ∙ home_of fn v own next eo en ∙ ap (frame_place fn) (sym many))

-- ---- one more parameter in front of the others

pub pushed_one : (values : ℕ) (params : List ℕ) (at words words' : ℕ) (flags flags' : List Bool) (table table' : List (Option ℕ)) → 0 < at → at ≤ length params → AreBelow values params →
    IsPushed values (drop at params) at words flags table →
    ((n : ℕ) (ps : List ℕ) → slice_index params (at - 1) < n → IsPushed n ps (at - 1 + 1) words flags table → IsPushed n (slice_index params (at - 1) ∷ ps) (at - 1) words' flags' table') →
    IsPushed values (drop (at - 1) params) (at - 1) words' flags' table'
pushed_one values params at words words' flags flags' table table' some within below h push =
    let lt : at - 1 < length params = omega (arith, some, within) in
    let e : at - 1 + 1 ≡ at = omega (arith, some) in
    subst (λ ps. IsPushed values ps (at - 1) words' flags' table') (sym (drop_more params (at - 1) 0 lt))
    (push values (drop (at - 1 + 1) params) (below (at - 1) 0 lt) (subst (λ n. IsPushed values (drop n params) n words flags table) (sym e) h))

-- ---- a whole frame

module _ (fn : MidFn) (below : AreBelow fn.values fn.params) (small : IsSmall fn) where
  pub bytes_small : own_bytes fn + 2 * count_pushed fn.params ≤ 10240
  bytes_small = let h = frames_are_small fn below in omega (arith, h, small)

  pub few_pushed : count_pushed fn.params ≤ 5120
  few_pushed = let h = bytes_small in omega (arith, h)

  pub place_near : (v : ℕ) → v < fn.values → frame_place fn v ≤ 10240
  place_near v lt = let h = (frames_fit (record { fns = fn ∷ []; checks = [] }) (λ f. 0) 0).kept v lt in let b = h.2 in let s = bytes_small in omega (arith, b, s)
