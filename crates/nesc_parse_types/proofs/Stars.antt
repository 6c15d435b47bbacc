-- Stars, one at a time.
use Rattle.std.proofs.Common.{◌≡◌, ℕ, zero, suc, ◌≤◌, Bool, true, false, cond, List, [], ◌∷◌, Result, Ok, Err, IfOk, refl, sym, ap, ◌∙◌, arith}
use Rattle.nm_base.specs.declared.token.Token.{Token}
use Rattle.nesc_tree.specs.declared.sorts.Sort.{Sort}
use Rattle.nesc_tree.specs.declared.sorts.Sort.TheVariants as s
use Rattle.nesc_tree.specs.Sorts.{Names, ahead, same_sort, sort}
use Rattle.nesc_tree.specs.Phrase.{Phrase, begins}
use Rattle.nesc_tree.specs.Form.{Place}
use Rattle.nesc_tree.specs.Reading.{Fault, Syntax, Deep, Answer, read, phrase, pass, stop, short, guarded, ◌>>=◌}
use Rattle.nesc_grammar.specs.Grammar.{stars}
use Rattle.nesc_grammar.specs.Production.{production}
use Rattle.nesc_parse_types.specs.declared.stop.Stop.{Stop}
use Rattle.nesc_parse_types.specs.declared.stop.Stop.TheVariants as rust
use Rattle.nesc_parse_types.specs.Gives.{Fails, Found, Gives, form_in, pointers_in, place}

star_begins : (x : Sort) → begins Phrase.pointers x ≡ same_sort s.Star x
star_begins s.Star = refl
star_begins _ = refl

module _ (names : Names) (ts : List Token) where
  pub too_many : (d : ℕ) → d ≡ 0 → same_sort s.Star (ahead names ts) ≡ true → form_in d stars names ts ≡ Err (Deep ts)
  unfolding read
  too_many d z h = rw z (rw (star_begins (ahead names ts) ∙ h) refl)

  pub no_stars : (d : ℕ) → same_sort s.Star (ahead names ts) ≡ false → form_in d stars names ts ≡ Ok (0, place names ts)
  unfolding read
  no_stars d h = rw (star_begins (ahead names ts) ∙ h) refl

  same_again : (x : Answer ℕ) → (x >>= λ u. Ok (u.0, u.1)) ≡ x
  same_again (Ok u) = refl
  same_again (Err e) = refl

  pub some_stars : (d : ℕ) → same_sort s.Star (ahead names ts) ≡ true → form_in d stars names ts ≡ pointers_in d names ts
  unfolding phrase read
  some_stars zero h = rw (star_begins (ahead names ts) ∙ h) refl
  some_stars (suc d) h = rw (star_begins (ahead names ts) ∙ h) (same_again (pointers_in (suc d) names ts))

  module _ (star : same_sort s.Star (ahead names ts) ≡ true) (d : ℕ) (t : Token) (rest : List Token) (e : pass s.Star (λ t. t) names ts ≡ Ok (t, place names rest)) where
    behind_star : pointers_in (suc d) names ts ≡ (form_in d stars names rest >>= λ y. Ok (suc y.0, y.1))
    unfolding phrase read
    behind_star = ap (λ (x : Answer Token). x >>= λ u. read d (phrase production d) stars u.1 >>= λ y. Ok (suc y.0, y.1)) e

    grown : (n : ℕ) (p : Place) (x : Answer ℕ) → x ≡ Ok (n, p) → ◌≡◌ {A = Answer ℕ} (◌>>=◌ {B = ℕ × Place} x (λ y. Ok (suc y.0, y.1))) (Ok (suc n, p))
    grown n p x h = rw h refl

    refused : (f : Fault) (x : Answer ℕ) → x ≡ Err f → ◌≡◌ {A = Answer ℕ} (◌>>=◌ {B = ℕ × Place} x (λ y. Ok (suc y.0, y.1))) (Err f)
    refused f x h = rw h refl

    pub more_stars : (n : ℕ) (behind : List Token) → form_in d stars names rest ≡ Ok (n, place names behind) → form_in (suc d) stars names ts ≡ Ok (suc n, place names behind)
    more_stars n behind h = some_stars (suc d) star ∙ behind_star ∙ grown n (place names behind) (form_in d stars names rest) h

    pub fails_behind : (r : Stop) → Fails r (form_in d stars names rest) → Fails r (form_in (suc d) stars names ts)
    fails_behind rust.Memory h = tt
    fails_behind (rust.Syntax us) h = some_stars (suc d) star ∙ behind_star ∙ refused (Syntax us.now) (form_in d stars names rest) h
    fails_behind (rust.Deep us) h = some_stars (suc d) star ∙ behind_star ∙ refused (Deep us.now) (form_in d stars names rest) h
