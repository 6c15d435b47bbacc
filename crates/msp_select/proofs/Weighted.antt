-- The law with a bound that counts instructions: each piece of code takes its own length from a number.
use Rattle.std.proofs.Common.{◌≡◌, ◌≢◌, ◌⊎◌, ℕ, zero, suc, ◌+◌, ◌-◌, ◌<◌, ◌≤◌, ◌==◌, true, false, List, length, refl, sym, ◌∙◌, arith}
use mathlib.Core.Logic.{inl, inr}
use Rattle.std.proofs.lemmas.Bool.Decides.{eqb_tells}
use Rattle.nm_base.specs.declared.action.Action.{Action}
use Rattle.nm_base.specs.Behaviour.{Trace}
use Rattle.msp430_cpu.specs.Cpu.{Cpu}
use Rattle.open_law.specs.Open.{open_start}
use Rattle.open_law.proofs.View.{Shows, View}
use Rattle.open_law.proofs.Chain.{Chain}
use Rattle.open_law.proofs.Law.{Good, Keeps, NextOf, Over, Post}

-- what holds behind a chain may be said otherwise
pub weakened : (image : ℕ → ℕ) (data_end : ℕ) (marks : ℕ → List Action) (sp : ℕ) (G : View → Type 0) (N : View → View → Type 0) (P Q : View → Type 0) → ((w : View) → P w → Q w) →
    (n : ℕ) (v : View) → Chain image data_end marks sp G N P n v → Chain image data_end marks sp G N Q n v
weakened image data_end marks sp G N P Q f zero v p = f v p
weakened image data_end marks sp G N P Q f (suc n) v p = (p.0, λ now o moment s. let r = p.1 now o moment s in (r.0, weakened image data_end marks sp G N P Q f n r.0 r.1, r.2, r.3))

module _ (gives : ℕ) (act : List ℕ → ℕ → Trace) (image : ℕ → ℕ) (data_end frame : ℕ) (marks : ℕ → List Action) (c : Cpu) (ram : ℕ → ℕ) (most long : ℕ) (Rel : ℕ → View → Type 0) where
  abbrev pub ChainTo : (View → Type 0) → ℕ → View → Type 0
  ChainTo P n v = Chain image data_end marks c.sp (Good gives act image data_end frame marks c ram) (NextOf gives act image data_end frame marks c ram) P n v

  -- behind a piece of n + 1 instructions that began with m left and these actions made
  abbrev pub Behind : (n m : ℕ) → List Action → View → Type 0
  Behind n m made w = Over gives act image data_end frame marks c ram w ⊎ ((m' : ℕ) × (m' ≤ most) × Rel m' w × ((m' + suc n ≤ m) ⊎ (length w.made ≢ length made)))

  abbrev pub Piece : ℕ → List Action → View → Type 0
  Piece m made v = (n : ℕ) × (n < long) × (suc n ≤ m) × ChainTo (Behind n m made) (suc n) v

  pub record Weighs : Type 0 where
    pub first : (m : ℕ) × (v : View) × (m ≤ most) × Rel m v × Shows (c.sp + 2) v (open_start c ram)
    pub next : (m : ℕ) (v : View) → m ≤ most → Rel m v → Piece m v.made v

  -- before an instruction amid a piece: what is left falls by one with each instruction; behind an action all is left again
  abbrev pub Counts : (k n i m : ℕ) → List Action → View → Type 0
  Counts k n i m made v = ((k + n ≡ m + i) × (length v.made ≡ length made)) ⊎ ((k ≡ most + suc i) × (length v.made ≢ length made))

  abbrev pub Amid : ℕ → View → Type 0
  Amid k v = (n : ℕ) × (i : ℕ) × (m : ℕ) × (made : List Action) × (i ≤ n) × (n < long) × (suc n ≤ m) × (m ≤ most) × ChainTo (Behind n m made) (suc i) v × Counts k n i m made v

  module _ (weighs : Weighs) where
    abbrev After : ℕ → List Action → View → Type 0
    After k made w = Post gives act image data_end frame marks c ram (most + long) Amid k made w

    at_once : (m : ℕ) (w : View) → m ≤ most → Rel m w → Amid m w
    at_once m w le rel = let p = weighs.next m w le rel in (p.0, p.0, m, w.made, omega arith, p.1, p.2, le, p.3, inl (refl, refl))

    other : (x y z : ℕ) → x ≢ y → z ≡ y → x ≢ z
    other x y z ne e h = ne (h ∙ e)

    goes_on : (i k n m : ℕ) (made : List Action) (v w : View) → suc i ≤ n → n < long → suc n ≤ m → m ≤ most → Counts k n (suc i) m made v → ChainTo (Behind n m made) (suc i) w → After k v.made w
    goes_on i k n m made v w li ln lm le counts chain = by counts (eqb_tells (length w.made) (length made))
      where
        fresh : (k' : ℕ) → k' ≡ most + suc i → length w.made ≢ length made → (k' < k) ⊎ (length w.made ≢ length v.made) → After k v.made w
        fresh k' e ne why = inr (k', omega (arith, e, li, ln), (n, i, m, made, omega (arith, li), ln, lm, le, chain, inr (e, ne)), why)

        by : Counts k n (suc i) m made v → (((length w.made == length made) ≡ true) × (length w.made ≡ length made)) ⊎ (((length w.made == length made) ≡ false) × (length w.made ≢ length made)) → After k v.made w
        by (inl old) (inl same) =
            let e = old.0 in
            inr (k - 1, omega (arith, e, lm, le, li), (n, i, m, made, omega (arith, li), ln, lm, le, chain, inl (omega (arith, e, lm), same.1)), inl (omega (arith, e, lm)))
        by (inl old) (inr new) = fresh (most + suc i) refl new.1 (inr (other (length w.made) (length made) (length v.made) new.1 old.1))
        by (inr old) (inr new) = let e = old.0 in fresh (most + suc i) refl new.1 (inl (omega (arith, e)))
        by (inr old) (inl same) =
            let d : length w.made ≢ length v.made = λ h. old.1 (sym h ∙ same.1) in
            inr (m + i - n, omega (arith, lm, le, li), (n, i, m, made, omega (arith, li), ln, lm, le, chain, inl (omega (arith, lm), same.1)), inr d)

    ends : (k n m : ℕ) (made : List Action) (v w : View) → suc n ≤ m → m ≤ most → Counts k n 0 m made v → Behind n m made w → After k v.made w
    ends k n m made v w lm le counts (inl over) = inl over
    ends k n m made v w lm le counts (inr r) = inr (r.0, (let l = r.1 in omega (arith, l)), at_once r.0 w r.1 r.2, by counts r.3)
      where
        by : Counts k n 0 m made v → (r.0 + suc n ≤ m) ⊎ (length w.made ≢ length made) → (r.0 < k) ⊎ (length w.made ≢ length v.made)
        by (inl old) (inl less) = let e = old.0 in inl (omega (arith, e, less))
        by (inl old) (inr new) = inr (other (length w.made) (length made) (length v.made) new old.1)
        by (inr old) x = let e = old.0 in let l = r.1 in inl (omega (arith, e, l))

    on_from : (i k n m : ℕ) (made : List Action) (v w : View) → i ≤ n → n < long → suc n ≤ m → m ≤ most → Counts k n i m made v → ChainTo (Behind n m made) i w → After k v.made w
    on_from zero k n m made v w li ln lm le counts chain = ends k n m made v w lm le counts chain
    on_from (suc i) k n m made v w li ln lm le counts chain = goes_on i k n m made v w li ln lm le counts chain

    pub keeps : Keeps gives act image data_end frame marks c ram (most + long) 1 Amid
    keeps = record {
      first = let f = weighs.first in let l = f.2 in (f.0, f.1, omega (arith, l), at_once f.0 f.1 f.2 f.3, f.4);
      next = λ k v le a. (
        0,
        omega arith,
        (
          a.8.0,
          λ now o moment s. let r = a.8.1 now o moment s in (r.0, on_from a.1 k a.0 a.2 a.3 v r.0 a.4 a.5 a.6 a.7 a.9 r.1, r.2, r.3),
        ),
      );
    }
