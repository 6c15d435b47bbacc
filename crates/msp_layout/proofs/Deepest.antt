-- The depth of a function, from those of the functions that it calls.
use Rattle.std.proofs.Common.{◌≡◌, ◌⊎◌, inl, inr, ℕ, ◌+◌, ◌<◌, ◌≤◌, List, [], ◌∷◌, length, min, max, arith, refl, sym}
use Rattle.std.proofs.lemmas.Bool.{cases_lt}
use Rattle.msp_isa.specs.declared.code.CodeFn.{CodeFn}
use Rattle.msp_layout.specs.Depth.{frame_of, calls_of, Names, IsPath, path_bytes, IsDeepest}
use Rattle.msp_layout.specs.Laid.{told}
use Rattle.msp_layout.specs.Search.{HasDepth, IsDeepestSoFar, call_at}

pub before_calls : (code : List CodeFn) (f : ℕ) → IsDeepestSoFar code f 0 (frame_of code f)
before_calls code f = record { here = omega arith; bound = λ i path lt p. absurd (omega arith); path = []; is_path = tt; met = refl }

module _ (code : List CodeFn) (f k d : ℕ) (so : IsDeepestSoFar code f k d) (lt : k < length (calls_of code f)) (e : ℕ) (deep : IsDeepest code (λ h. h ≡ call_at code f k) e) where
  bounds : (i : ℕ) (path : List ℕ) → (i < k) ⊎ (k ≤ i) → i < k + 1 → IsPath code (call_at code f i) path → frame_of code f + 2 + path_bytes code (call_at code f i) path ≤ max d (frame_of code f + 2 + e)
  bounds i path (inl below) h p = omega (arith, so.bound i path below p)
  bounds i path (inr above) h p =
      let same : i ≡ k = omega arith in
      let q = rw same at p in
      rw same (omega (arith, deep.bound (call_at code f k) path refl q))

  with_call : (d ≤ frame_of code f + 2 + e) ⊎ (frame_of code f + 2 + e < d) → IsDeepestSoFar code f (k + 1) (max d (frame_of code f + 2 + e))
  with_call (inr above) = record {
    here = omega (arith, so.here);
    bound = λ i path h p. bounds i path (cases_lt i k) h p;
    path = so.path;
    is_path = so.is_path;
    met = omega (arith, so.met);
  }
  with_call (inl below) = record {
    here = omega (arith, so.here);
    bound = λ i path h p. bounds i path (cases_lt i k) h p;
    path = deep.root ∷ deep.path;
    is_path = ((k, lt, sym deep.is_root), deep.is_path);
    met = omega (arith, deep.met);
  }

  one_call : IsDeepestSoFar code f (k + 1) (max d (frame_of code f + 2 + e))
  one_call = cases (cases_lt (frame_of code f + 2 + e) d)
    where
      cases : (frame_of code f + 2 + e < d) ⊎ (d ≤ frame_of code f + 2 + e) → IsDeepestSoFar code f (k + 1) (max d (frame_of code f + 2 + e))
      cases (inl h) = with_call (inr h)
      cases (inr h) = with_call (inl h)

  pub one_more_call : (deepest below new : ℕ) → deepest ≡ told d → below ≡ told e → new ≡ max deepest (min (below + (frame_of code f + 2)) 0xFFFF_FFFF) →
      (depth : ℕ) × IsDeepestSoFar code f (k + 1) depth × (new ≡ told depth)
  one_more_call deepest below new a b c = (max d (frame_of code f + 2 + e), one_call, omega arith)

pub behind_calls : (code : List CodeFn) (f d n : ℕ) → IsDeepestSoFar code f (length (calls_of code f)) d → n ≡ told d → HasDepth code (λ h. h ≡ f) n
behind_calls code f d n so e = (d, record { bound = λ g path is p. bounds g path is p; root = f; is_root = refl; path = so.path; is_path = so.is_path; met = so.met }, e)
  where
    bounds : (g : ℕ) (path : List ℕ) → g ≡ f → IsPath code g path → path_bytes code g path ≤ d
    bounds g [] is p = rw is so.here
    bounds g (h ∷ path) is p = rw is (named h path (rw is at p.0) p.1)
      where
        named : (h : ℕ) (path : List ℕ) → Names (calls_of code f) h → IsPath code h path → frame_of code f + 2 + path_bytes code h path ≤ d
        named h path name q = rw (← name.2) (so.bound name.0 path name.1 (rw (← name.2) at q))
