-- A pair of numbers gets a number if it has none.
use Rattle.std.proofs.Common.{◌≡◌, ℕ, Bool, true, false, cond, ◌&&◌, nat_eq, Option, Some, None, refl, sym, ap, ◌∙◌, eqb-true, is_some, option_copied}
use Rattle.std.specs.Option.{option_or}
use denote.Ref.{Bor}
use Rattle.elab_targets.specs.Tables.{same_pair, when}

exact : (p q : ℕ × ℕ) → same_pair p q ≡ true → p ≡ q
exact p q h = by (nat_eq p.0 q.0) (nat_eq p.1 q.1) refl refl h where
  by : (s t : Bool) → nat_eq p.0 q.0 ≡ s → nat_eq p.1 q.1 ≡ t → (s && t) ≡ true → p ≡ q
  by true true a b h = let x = eqb-true p.0 q.0 a in let y = eqb-true p.1 q.1 b in ap (λ (z : ℕ). (z, p.1)) x ∙ ap (λ (z : ℕ). (q.0, z)) y
  by true false a b h = absurd (cc)
  by false t a b h = absurd (cc)

absent : (o : Option ℕ) (place : ℕ) → o ≡ None → Some place ≡ option_or o (Some place)
absent (Some m) place e = absurd (cc)
absent None place e = refl

alone : (o : Option ℕ) → o ≡ option_or o None
alone (Some m) = refl
alone None = refl

pub gets_pair : (look : ℕ × ℕ → Option ℕ) (pair other : ℕ × ℕ) (place : ℕ) → look pair ≡ None
    → cond (same_pair pair other) (Some place) (look other) ≡ option_or (look other) (when (same_pair pair other) place)
gets_pair look pair other place none = by (same_pair pair other) refl where
  by : (b : Bool) → same_pair pair other ≡ b → cond b (Some place) (look other) ≡ option_or (look other) (when b place)
  by true h = absent (look other) place (ap look (sym (exact pair other h)) ∙ none)
  by false h = alone (look other)

pub copied_none : (r : Option (Bor ℕ)) → is_some r ≡ false → option_copied r ≡ None
copied_none None e = refl
copied_none (Some x) e = absurd (cc)
