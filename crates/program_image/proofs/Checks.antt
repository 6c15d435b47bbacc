-- The checks of a program stand behind the operations, and take few instructions.
use Rattle.std.proofs.Common.{◌≡◌, ℕ, ◌+◌, ◌-◌, ◌≤◌, Bool, true, false, cond, nat_lt, List, [], ◌∷◌, ◌++◌, length, map, Some, All, refl, subst, arith}
use Rattle.std.specs.Prelude.{◌||◌, slice_get, sum_by}
use Rattle.std.specs.List.{list_any}
use Rattle.std.proofs.lemmas.Bool.Decides.{nat_tests}
use Rattle.std.proofs.lemmas.List.{length-map}
use Rattle.std.proofs.lemmas.List.Elements.{All-cons, All-head, All-nil, All-tail}
use Rattle.std.proofs.lemmas.List.Sums.{sum_by-cons}
use Rattle.nesc_core.specs.Plain.{Ty, Program}
use Rattle.nesc_core.specs.Derefs.{derefs, once, ranges_of}
use Rattle.nesc_core.specs.Parts.{Run, runs_of, same_type}
use Rattle.nesc_core.proofs.PlaceLemmas.{same_type-is}
use Rattle.mid_code.specs.declared.code.Check.{Check}
use Rattle.mid_code.specs.Help.{first_check}
use Rattle.lower_expr.specs.Code.{check_for}
use Rattle.lower_stmt.specs.Bodies.{checks_of, in_order, lowered}
use Rattle.msp_select.specs.Select.{routine_of}
use Rattle.msp_checks.specs.Checks.{check_items, check_most}
use Rattle.msp_checks.proofs.Laid.{checks_are_short}
use Rattle.program_image.specs.Runs.{routine_bound}
use Rattle.program_image.proofs.Entries.{Begins}
use Rattle.program_image.proofs.Roots.{element}

pub check_begins : (check : Check) → Begins (check_items check)
check_begins check = tt

-- checks stand behind 48 operations
pub check_place : (n k : ℕ) → n + (48 + k) ≡ routine_of n (first_check + k)
check_place n k = by (nat_lt (first_check + k) first_check) refl
  where
    by : (b : Bool) → nat_lt (first_check + k) first_check ≡ b → n + (48 + k) ≡ cond b (n + (first_check + k)) (n + 48 + (first_check + k - first_check))
    by true e = let z : ⊥ = grind (arith, nat_tests) in absurd z
    by false e = omega arith

-- ---- each type once

found : (Q : Ty → Type 0) (ts : List Ty) (t : Ty) → list_any (λ u. same_type u t) ts ≡ true → All Q ts → Q t
found Q [] t e h = absurd (cc)
found Q (u ∷ ts) t e h = by (same_type u t) refl e (λ k. found Q ts t k (All-tail Q u ts h))
  where
    by : (b : Bool) → same_type u t ≡ b → (b || list_any (λ v. same_type v t) ts) ≡ true → (list_any (λ v. same_type v t) ts ≡ true → Q t) → Q t
    by true s e later = subst Q (same_type-is u t s) (All-head Q u ts h)
    by false s e later = later e

module _ (f : Ty → ℕ) where
  abbrev Within : ℕ → Ty → Type 0
  Within n t = f t ≤ n

  more : (m n : ℕ) → m ≤ n → (ts : List Ty) → All (Within m) ts → All (Within n) ts
  more m n le [] h = All-nil (Within n)
  more m n le (t ∷ ts) h = All-cons (Within n) t ts (let a = All-head (Within m) t ts h in omega (arith, a, le)) (more m n le ts (All-tail (Within m) t ts h))

  -- the sum over the types, each once, is that of any of them at least
  all_within : (ts : List Ty) → All (Within (sum_by f (once ts))) ts
  all_within [] = All-nil (Within 0)
  all_within (t ∷ ts) = by (list_any (λ u. same_type u t) ts) refl (all_within ts)
    where
      by : (b : Bool) → list_any (λ u. same_type u t) ts ≡ b → All (Within (sum_by f (once ts))) ts → All (Within (sum_by f (cond b (once ts) (t ∷ once ts)))) (t ∷ ts)
      by true e rest = All-cons (Within (sum_by f (once ts))) t ts (found (Within (sum_by f (once ts))) ts t e rest) rest
      by false e rest =
          let s = sum_by-cons f t (once ts) in
          All-cons (Within (sum_by f (t ∷ once ts))) t ts (omega (arith, s)) (more (sum_by f (once ts)) (sum_by f (t ∷ once ts)) (omega (arith, s)) ts rest)

-- what holds of types holds of them in order
module _ (Q : Ty → Type 0) where
  joined : (a b : List Ty) → All Q a → All Q b → All Q (a ++ b)
  joined [] b h g = g
  joined (t ∷ a) b h g = All-cons Q t (a ++ b) (All-head Q t a h) (joined a b (All-tail Q t a h) g)

  ordered : (seen ts : List Ty) → All Q seen → All Q ts → All Q (in_order seen ts)
  ordered seen [] h g = h
  ordered seen (t ∷ ts) h g =
      by (list_any (λ u. same_type u t) seen) (ordered seen ts h (All-tail Q t ts g))
      (ordered (seen ++ t ∷ []) ts (joined seen (t ∷ []) h (All-cons Q t [] (All-head Q t ts g) (All-nil Q))) (All-tail Q t ts g))
    where
      by : (b : Bool) → All Q (in_order seen ts) → All Q (in_order (seen ++ t ∷ []) ts) → All Q (in_order (cond b seen (seen ++ t ∷ [])) ts)
      by true a c = a
      by false a c = c

few_runs : (p : Program) → All (λ t. length (runs_of p t) ≤ ranges_of p) (checks_of p)
few_runs p = ordered (λ t. length (runs_of p t) ≤ ranges_of p) [] (derefs p) (All-nil (λ t. length (runs_of p t) ≤ ranges_of p)) (all_within (λ t. length (runs_of p t)) (derefs p))

-- ---- the checks of a program

abbrev HasFew : Program → Check → Type 0
HasFew p check = length check.runs ≤ ranges_of p

abbrev pair_of : Run → ℕ × ℕ
pair_of r = (r.first, r.count)

few_each : (p : Program) (ts : List Ty) → All (λ t. length (runs_of p t) ≤ ranges_of p) ts → All (HasFew p) (map (check_for p) ts)
few_each p [] h = All-nil (HasFew p)
few_each p (t ∷ ts) h =
    let few = All-head (λ t. length (runs_of p t) ≤ ranges_of p) t ts h in
    let e = length-map (runs_of p t) pair_of in
    All-cons (HasFew p) (check_for p t) (map (check_for p) ts) (omega (arith, e, few)) (few_each p ts (All-tail (λ t. length (runs_of p t) ≤ ranges_of p) t ts h))

pub check_fits : (p : Program) (k : ℕ) (check : Check) → slice_get (lowered p).checks k ≡ Some check → check_most check ≤ routine_bound p
check_fits p k check is =
    let few = element (HasFew p) (map (check_for p) (checks_of p)) k check (few_each p (checks_of p) (few_runs p)) is in
    let short = (checks_are_short check).0 in
    omega (arith, few, short)
