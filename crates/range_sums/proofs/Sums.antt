-- A sum over types in order is at most the sum over each type once.
use Rattle.std.proofs.Common.{◌≡◌, ℕ, ◌+◌, ◌≤◌, Bool, true, false, List, [], ◌∷◌, ◌++◌, length, sum_by, refl, sym, ap, subst, ◌∙◌, arith}
use Rattle.std.specs.Prelude.{◌||◌, if◌then◌else◌}
use Rattle.std.specs.List.{list_any}
use Rattle.std.proofs.Math.Bool.{or-true}
use Rattle.std.proofs.lemmas.List.Folds.{list_any-append}
use Rattle.std.proofs.lemmas.List.Sums.{sum_by-cons, sum_by_push}
use Rattle.nesc_core.specs.Plain.{Ty}
use Rattle.nesc_core.specs.Derefs.{derefs, once}
use Rattle.nesc_core.specs.Parts.{runs_of, same_type}
use Rattle.lower_stmt.specs.Bodies.{in_order}
use Rattle.range_sums.specs.Laws.{RunsAreRanges}
use Rattle.range_sums.proofs.Same.{same_type_is, same_type_itself}

abbrev has : List Ty → Ty → Bool
has seen t = list_any (λ u. same_type u t) seen

-- what is there is there where each type stands once
once_has : (t : Ty) (ts : List Ty) → has ts t ≡ true → has (once ts) t ≡ true
once_has t [] h = absurd (cc)
once_has t (x ∷ ts) h = by (has ts x) (same_type x t) refl refl (once_has t ts)
  where
    by : (again same : Bool) → has ts x ≡ again → same_type x t ≡ same → (has ts t ≡ true → has (once ts) t ≡ true) → has (if again then once ts else x ∷ once ts) t ≡ true
    by true true e g further = further (subst (λ y. has ts y ≡ true) (same_type_is x t g) e)
    by true false e g further = further (sym (ap (λ b. b || has ts t) g) ∙ h)
    by false true e g further = ap (λ b. b || has (once ts) t) g
    by false false e g further = ap (λ b. b || has (once ts) t) g ∙ further (sym (ap (λ b. b || has ts t) g) ∙ h)

has_more : (seen : List Ty) (t x : Ty) → has seen x ≡ true → has (seen ++ t ∷ []) x ≡ true
has_more seen t x h = list_any-append (λ u. same_type u x) seen (t ∷ []) ∙ ap (λ b. b || has (t ∷ []) x) h

has_last : (seen : List Ty) (t : Ty) → has (seen ++ t ∷ []) t ≡ true
has_last seen t = list_any-append (λ u. same_type u t) seen (t ∷ []) ∙ ap (λ b. has seen t || (b || false)) (same_type_itself t) ∙ or-true (has seen t)

abbrev unless : Bool → ℕ → ℕ
unless true n = 0
unless false n = n

unless_less : (a b : Bool) (n : ℕ) → (a ≡ true → b ≡ true) → unless b n ≤ unless a n
unless_less true true n h = omega arith
unless_less true false n h = let e = h refl in absurd (cc)
unless_less false true n h = omega arith
unless_less false false n h = omega arith

module _ (f : Ty → ℕ) where
  -- the sum over the types that are not skipped
  abbrev rest_sum : (Ty → Bool) → List Ty → ℕ
  rest_sum skipped [] = 0
  rest_sum skipped (t ∷ ts) = unless (skipped t) (f t) + rest_sum skipped ts

  rest_all : (ts : List Ty) → rest_sum (has []) ts ≡ sum_by f ts
  rest_all [] = refl
  rest_all (t ∷ ts) = let s = sum_by-cons f t ts in let h = rest_all ts in omega (arith, s, h)

  module _ (few many : Ty → Bool) (wider : (t : Ty) → few t ≡ true → many t ≡ true) where
    rest_less : (ts : List Ty) → rest_sum many ts ≤ rest_sum few ts
    rest_less [] = omega arith
    rest_less (t ∷ ts) = let h = rest_less ts in let g = unless_less (few t) (many t) (f t) (wider t) in omega (arith, h, g)

    -- where a type that is there is skipped too
    rest_without : (t : Ty) → few t ≡ false → many t ≡ true → (ts : List Ty) → has ts t ≡ true → f t + rest_sum many ts ≤ rest_sum few ts
    rest_without t new skipped [] h = absurd (cc)
    rest_without t new skipped (x ∷ ts) h = by (same_type x t) refl (rest_without t new skipped ts)
      where
        by : (same : Bool) → same_type x t ≡ same → (has ts t ≡ true → f t + rest_sum many ts ≤ rest_sum few ts) → f t + rest_sum many (x ∷ ts) ≤ rest_sum few (x ∷ ts)
        by true e further =
            let is = same_type_is x t e in
            let a : unless (few x) (f x) ≡ f t = ap (λ y. unless (few y) (f y)) is ∙ ap (λ b. unless b (f t)) new in
            let b : unless (many x) (f x) ≡ 0 = ap (λ y. unless (many y) (f y)) is ∙ ap (λ b. unless b (f t)) skipped in
            let less = rest_less ts in
            omega (arith, a, b, less)
        by false e further =
            let less = further (sym (ap (λ b. b || has ts t) e) ∙ h) in
            let g = unless_less (few x) (many x) (f x) (wider x) in
            omega (arith, less, g)

  in_order_sum : (ts seen : List Ty) → sum_by f (in_order seen ts) ≤ sum_by f seen + rest_sum (has seen) (once ts)
  in_order_sum [] seen = omega arith
  in_order_sum (t ∷ ts) seen = by (has seen t) (has ts t) refl refl (in_order_sum ts)
    where
      by : (old again : Bool) → has seen t ≡ old → has ts t ≡ again → ((all : List Ty) → sum_by f (in_order all ts) ≤ sum_by f all + rest_sum (has all) (once ts))
          → sum_by f (in_order (if old then seen else seen ++ t ∷ []) ts) ≤ sum_by f seen + rest_sum (has seen) (if again then once ts else t ∷ once ts)
      by true true e g further = further seen
      by true false e g further = let h = further seen in omega (arith, h)
      by false true e g further =
          let h = further (seen ++ t ∷ []) in
          let s = sum_by_push f seen t in
          let less = rest_without (has seen) (has (seen ++ t ∷ [])) (has_more seen t) t e (has_last seen t) (once ts) (once_has t ts g) in
          omega (arith, h, s, less)
      by false false e g further =
          let h = further (seen ++ t ∷ []) in
          let s = sum_by_push f seen t in
          let less = rest_less (has seen) (has (seen ++ t ∷ [])) (has_more seen t) (once ts) in
          let own : unless (has seen t) (f t) ≡ f t = ap (λ b. unless b (f t)) e in
          omega (arith, h, s, less, own)

pub runs_ranges : RunsAreRanges
runs_ranges p =
    let h = in_order_sum (λ t. length (runs_of p t)) (derefs p) [] in
    let g = rest_all (λ t. length (runs_of p t)) (once (derefs p)) in
    omega (arith, h, g)
