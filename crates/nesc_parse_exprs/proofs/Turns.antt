-- One turn of a repetition.
use Rattle.std.proofs.Common.{◌≡◌, ℕ, zero, suc, ◌+◌, ◌-◌, ◌≤◌, ◌<◌, Bool, true, false, List, Result, Ok, Err, refl, sym, ap, subst, ◌∙◌, arith}
use Rattle.std.proofs.lemmas.Bool.{le-leb, lt-leb}
use Rattle.std.specs.Prelude.{nat_le}
use Rattle.std.specs.Result.{IsErr, IsErrAnd}
use denote.Ref.{Bor}
use Rattle.nm_base.specs.declared.token.Token.{Token}
use Rattle.nesc_tree.specs.declared.sorts.Sort.{Sort}
use Rattle.nesc_tree.specs.Sorts.{Names, ahead}
use Rattle.nesc_tree.specs.Form.{Form, Place}
use Rattle.nesc_tree.specs.Reading.{Fault, Syntax, Deep, Answer, read, phrase, guarded, ◌>>=◌}
use Rattle.nesc_grammar.specs.Production.{production}
use Rattle.nesc_parse_types.specs.declared.stop.Stop.{Stop}
use Rattle.nesc_parse_types.specs.declared.stop.Stop.TheVariants as rust
use Rattle.nesc_parse_types.specs.Gives.{Fails, Found, Gives, place}
use Rattle.nesc_parse_exprs.specs.Turns.{turn_in, turns_in}

pub one_more : {X : Type 0} {x : X} (f : ℕ → X) (n at : ℕ) → at < n → x ≡ f (n - at) → x ≡ f (suc (n - (at + 1)))
one_more f n at below e = let turn : n - at ≡ suc (n - (at + 1)) = omega arith in e ∙ ap f turn

-- what `?` gives back is the callee's refusal
pub through : {X : Type 0} (names : Names) (r : Result (X × Bor (List Token)) Stop) (x : Stop) (y z : Answer X) → IsErr r × IsErrAnd r (λ e. e ≡ x) → y ≡ z → Fails x z → Gives names r y
through names (Ok u) x y z k q f = let w = k.0 in absurd cc
through names (Err e) x y z k q f = subst (λ (v : Stop). Fails v y) (sym k.1) (subst (Fails x) (sym q) f)

module _ {A : Type 0} (spare : ℕ) (go : A → Sort → Bool) (weight : A → ℕ) (body : Sort → Form (A → A)) (names : Names) (a : A) (ts : List Token) where
  abbrev again : ℕ → A → List Token → Answer A
  again n b us = turns_in spare go weight body n b names us

  pub stops : (m : ℕ) → go a (ahead names ts) ≡ false → again (suc m) a ts ≡ Ok (a, place names ts)
  stops m h = rw h refl

  pub deep : (m : ℕ) → go a (ahead names ts) ≡ true → spare < weight a → again (suc m) a ts ≡ Err (Deep ts)
  deep m h l = let z : nat_le (weight a) spare ≡ false = lt-leb (weight a) spare l in rw h (rw z refl)

  abbrev one : Answer (A → A)
  one = guarded spare (body (ahead names ts)) (place names ts) (read spare (phrase production spare) (body (ahead names ts)) (place names ts))

  abbrev rest_of : ℕ → (A → A) × Place → Answer A
  rest_of m y = turns_in spare go weight body m (y.0 a) y.1.names y.1.rest

  turn : (m : ℕ) → go a (ahead names ts) ≡ true → weight a ≤ spare → again (suc m) a ts ≡ (one >>= λ y. rest_of m y)
  turn m h l = let z : nat_le (weight a) spare ≡ true = le-leb (weight a) spare l in rw h (rw z refl)

  read_on : (m : ℕ) (longer : A) (us : List Token) (x : Answer (A → A)) → ◌≡◌ {A = Answer A} (x >>= λ y. Ok (y.0 a, y.1)) (Ok (longer, place names us)) → (x >>= λ y. rest_of m y) ≡ again m longer us
  read_on m longer us (Ok y) h = let z : ◌≡◌ {A = A × Place} (y.0 a, y.1) (longer, place names us) = cc in ap (λ (u : A × Place). turns_in spare go weight body m u.0 u.1.names u.1.rest) z
  read_on m longer us (Err e) h = absurd cc

  read_off : (m : ℕ) (f : Fault) (x : Answer (A → A)) → ◌≡◌ {A = Answer A} (x >>= λ y. Ok (y.0 a, y.1)) (Err f) → ◌≡◌ {A = Answer A} (x >>= λ y. rest_of m y) (Err f)
  read_off m f (Ok y) h = absurd cc
  read_off m f (Err e) h = let z : e ≡ f = cc in ap Err z

  pub goes_on : (m : ℕ) (longer : A) (us : List Token) → go a (ahead names ts) ≡ true → weight a ≤ spare → turn_in spare (body (ahead names ts)) a names ts ≡ Ok (longer, place names us) → again (suc m) a ts ≡ again m longer us
  goes_on m longer us h l e = turn m h l ∙ read_on m longer us one e

  pub fails : (m : ℕ) (f : Fault) → go a (ahead names ts) ≡ true → weight a ≤ spare → turn_in spare (body (ahead names ts)) a names ts ≡ Err f → again (suc m) a ts ≡ Err f
  fails m f h l e = turn m h l ∙ read_off m f one e

  pub fails_so : (m : ℕ) (r : Stop) → go a (ahead names ts) ≡ true → weight a ≤ spare → Fails r (turn_in spare (body (ahead names ts)) a names ts) → Fails r (again (suc m) a ts)
  fails_so m rust.Memory h l e = tt
  fails_so m (rust.Syntax us) h l e = fails m (Syntax us.now) h l e
  fails_so m (rust.Deep us) h l e = fails m (Deep us.now) h l e
