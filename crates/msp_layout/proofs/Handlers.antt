-- The deepest of some functions.
use Rattle.std.proofs.Common.{◌≡◌, ◌⊎◌, inl, inr, ℕ, ◌+◌, ◌<◌, ◌≤◌, List, length, get_or, min, max, arith, refl}
use Rattle.std.proofs.lemmas.Bool.{cases_lt}
use Rattle.msp_isa.specs.declared.code.CodeFn.{CodeFn}
use Rattle.msp_layout.specs.Depth.{Names, IsPath, path_bytes, IsDeepest, IsStack}
use Rattle.msp_layout.specs.Laid.{told}
use Rattle.msp_layout.specs.Search.{HasDepth}

-- the deepest of the first functions of a list; of none, some one's depth
pub record DeepestSoFar (code : List CodeFn) (fs : List ℕ) (upto depth : ℕ) : Type 0 where
  pub bound : (i : ℕ) (path : List ℕ) → i < upto → IsPath code (get_or fs i 0) path → path_bytes code (get_or fs i 0) path ≤ depth
  pub at : ℕ
  pub within : at < length fs
  pub path : List ℕ
  pub is_path : IsPath code (get_or fs at 0) path
  pub met : path_bytes code (get_or fs at 0) path ≡ depth

pub SoFar : List CodeFn → List ℕ → ℕ → ℕ → Type 0
SoFar code fs upto n = (depth : ℕ) × DeepestSoFar code fs upto depth × (n ≡ told depth)

path_of : (code : List CodeFn) (g : ℕ) (e : ℕ) → IsDeepest code (λ h. h ≡ g) e → (path : List ℕ) × IsPath code g path × (path_bytes code g path ≡ e)
path_of code g e deep = let is = rw deep.is_root at deep.is_path in let met = rw deep.is_root at deep.met in (deep.path, is, met)

pub first_line : (code : List CodeFn) (fs : List ℕ) (n : ℕ) → 0 < length fs → HasDepth code (λ h. h ≡ get_or fs 0 0) n → SoFar code fs 0 n
unfolding SoFar
first_line code fs n lt deep =
    let p = path_of code (get_or fs 0 0) deep.0 deep.1 in
    (deep.0, record { bound = λ i path below is. absurd (omega arith); at = 0; within = lt; path = p.0; is_path = p.1; met = p.2 }, deep.2)

module _ (code : List CodeFn) (fs : List ℕ) (k d e : ℕ) (so : DeepestSoFar code fs k d) (lt : k < length fs) (deep : IsDeepest code (λ h. h ≡ get_or fs k 0) e) where
  bounds : (i : ℕ) (path : List ℕ) → (i < k) ⊎ (k ≤ i) → i < k + 1 → IsPath code (get_or fs i 0) path → path_bytes code (get_or fs i 0) path ≤ max d e
  bounds i path (inl below) h p = omega (arith, so.bound i path below p)
  bounds i path (inr above) h p =
      let same : i ≡ k = omega arith in
      let q = rw same at p in
      rw same (omega (arith, deep.bound (get_or fs k 0) path refl q))

  deeper : (e < d) ⊎ (d ≤ e) → DeepestSoFar code fs (k + 1) (max d e)
  deeper (inl h) = record { bound = λ i path b p. bounds i path (cases_lt i k) b p; at = so.at; within = so.within; path = so.path; is_path = so.is_path; met = omega (arith, so.met) }
  deeper (inr h) =
      let p = path_of code (get_or fs k 0) e deep in
      record { bound = λ i path b q. bounds i path (cases_lt i k) b q; at = k; within = lt; path = p.0; is_path = p.1; met = omega (arith, p.2) }

  pub one_deeper : DeepestSoFar code fs (k + 1) (max d e)
  one_deeper = deeper (cases_lt e d)

pub next_line : (code : List CodeFn) (fs : List ℕ) (k n m new : ℕ) → SoFar code fs k n → k < length fs → HasDepth code (λ h. h ≡ get_or fs k 0) m → new ≡ max n m → SoFar code fs (k + 1) new
unfolding SoFar
next_line code fs k n m new so lt deep e = (max so.0 deep.0, one_deeper code fs k so.0 deep.0 so.1 lt deep.1, omega (arith, so.2, deep.2))

pub all_lines : (code : List CodeFn) (fs : List ℕ) (n k : ℕ) → SoFar code fs k n → k ≡ length fs → HasDepth code (Names fs) n
unfolding SoFar
all_lines code fs n k so e = (
  so.0,
  record {
    bound = λ f path name is. named f path name is;
    root = get_or fs so.1.at 0;
    is_root = (so.1.at, so.1.within, refl);
    path = so.1.path;
    is_path = so.1.is_path;
    met = so.1.met;
  },
  so.2,
)
  where
    named : (f : ℕ) (path : List ℕ) → Names fs f → IsPath code f path → path_bytes code f path ≤ so.0
    named f path name is = rw (← name.2) (so.1.bound name.0 path (omega (arith, name.1)) (rw (← name.2) at is))

pub whole_stack : (code : List CodeFn) (lines : List ℕ) (reset n m new : ℕ) → HasDepth code (λ f. f ≡ reset) n → HasDepth code (Names lines) m → new ≡ min (n + m) 0xFFFF_FFFF → (stack : ℕ) × IsStack code lines reset stack × (new ≡ told stack)
whole_stack code lines reset n m new base handlers e =
    (base.0 + handlers.0, record { base = base.0; handlers = handlers.0; from_reset = base.1; from_lines = handlers.1; both = refl }, omega (arith, base.2, handlers.2))
