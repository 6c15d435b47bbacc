-- What has to nest is refused by itself where nothing may nest.
use Rattle.std.proofs.Common.{◌≡◌, ◌<◌, ℕ, zero, suc, Bool, true, false, cond, List, Option, Some, None, Ok, Err, refl, sym, ap, subst, ◌∙◌, arith}
use Rattle.std.specs.Result.{IsErr, IsErrAnd}
use Rattle.nm_base.specs.declared.token.Token.{Token}
use Rattle.nesc_tree.specs.declared.sorts.Sort.{Sort}
use Rattle.nesc_tree.specs.Sorts.{Names, ahead}
use Rattle.nesc_tree.specs.Phrase.{Phrase, Of, begins}
use Rattle.nesc_tree.specs.Form.{Form, Place, next, either, starts}
use Rattle.nesc_tree.specs.Reading.{Fault, Syntax, Deep, Answer, read, phrase, stop, guarded, nests, ◌>>=◌}
use Rattle.nesc_grammar.specs.Grammar as grammar
use Rattle.nesc_grammar.specs.Production.{production}
use Rattle.nesc_parse_types.specs.declared.stop.Stop.{Stop}
use Rattle.nesc_parse_types.specs.declared.stop.Stop.TheVariants as rust
use Rattle.nesc_parse_types.specs.Gives.{Fails, Found, Gives, form_in, place}
use Rattle.nesc_parse_types.proofs.Guards.{open_guard}
use Rattle.nesc_parse_exprs.specs.Stops.{StopsAt}

pub same_guard : {A : Type 0} (d : ℕ) (g : Form A) (p : Place) → read 0 (phrase production 0) g p ≡ Err (stop (starts g (next p)) p.rest) → guarded d g p (read d (phrase production d) g p) ≡ read d (phrase production d) g p
same_guard {A = A} zero g p h =
    let by : (b : Bool) → ◌≡◌ {A = Answer A} (cond b (Err (stop (starts g (next p)) p.rest)) (read 0 (phrase production 0) g p)) (read 0 (phrase production 0) g p) = elim [ true ↦ sym h | false ↦ refl ] in
    by (nests g)
same_guard (suc d) g p h = open_guard (suc d) g p (read (suc d) (phrase production (suc d)) g p) (omega arith)

pub or_none : (b : Bool) → either b false ≡ b
or_none true = refl
or_none false = refl

-- a test that comes out so
pub taken : {A : Type 0} (b : Bool) (x y z : Answer A) → b ≡ true → x ≡ z → cond b x y ≡ z
taken b x y z h e = rw h e

same_again : {A : Type 0} (x : Answer A) → ◌≡◌ {A = Answer A} (x >>= λ u. Ok (u.0, u.1)) x
same_again (Ok u) = refl
same_again (Err e) = refl

module _ (k : Phrase) (p : Place) where
  no_level : read 0 (phrase production 0) (Form.sub k (λ x. x)) p ≡ Err (stop (begins k (next p)) p.rest)
  unfolding read phrase
  no_level = refl

  pub sub_is : (d : ℕ) → read d (phrase production d) (Form.sub k (λ x. x)) p ≡ phrase production d k p
  unfolding read
  sub_is d = same_again (phrase production d k p)

  -- a phrase behind a guard
  pub sub_case : (d : ℕ) → guarded d (Form.sub k (λ x. x)) p (read d (phrase production d) (Form.sub k (λ x. x)) p) ≡ phrase production d k p
  sub_case d = same_guard d (Form.sub k (λ x. x)) p no_level ∙ sub_is d

fault_of : {A B : Type 0} (x : Answer A) (f : A × Place → Answer B) (e : Fault) → x ≡ Err e → ◌≡◌ {A = Answer B} (x >>= f) (Err e)
fault_of x f e h = rw h refl

-- a fault of the first part is one of the whole
pub fails_with : {A B : Type 0} (x : Answer A) (f : A × Place → Answer B) (r : Stop) → Fails r x → Fails r (x >>= f)
fails_with x f rust.Memory h = tt
fails_with x f (rust.Syntax us) h = fault_of x f (Syntax us.now) h
fails_with x f (rust.Deep us) h = fault_of x f (Deep us.now) h

-- what `?` gives back is the callee's refusal
pub through : {X : Type 0} (names : Names) (r : Found X) (x : Stop) (y : Answer X) → IsErr r × IsErrAnd r (λ e. e ≡ x) → Fails x y → Gives names r y
through names (Ok u) x y k f = let w = k.0 in absurd cc
through names (Err e) x y k f = subst (λ (v : Stop). Fails v y) (sym k.1) f

-- where no level is left
pub stops : {X : Type 0} (r : Stop) (b c : Bool) (ts : List Token) (y : Answer X) → StopsAt r b ts → b ≡ c → y ≡ Err (stop c ts) → Fails r y
stops rust.Memory b c ts y s e h = absurd s
stops {X = X} (rust.Syntax us) b c ts y s e h = subst (λ (vs : List Token). ◌≡◌ {A = Answer X} y (Err (Syntax vs))) (sym s.1) (subst (λ (a : Bool). y ≡ Err (stop a ts)) (sym e ∙ s.0) h)
stops {X = X} (rust.Deep us) b c ts y s e h = subst (λ (vs : List Token). ◌≡◌ {A = Answer X} y (Err (Deep vs))) (sym s.1) (subst (λ (a : Bool). y ≡ Err (stop a ts)) (sym e ∙ s.0) h)

-- what was found goes on to what is behind it
pub found_then : {A B : Type 0} (x : Answer A) (f : A × Place → Answer B) (a : A) (q : Place) → x ≡ Ok (a, q) → ◌≡◌ {A = Answer B} (x >>= f) (f (a, q))
found_then x f a q h = rw h refl

-- two forms, one behind the other
module _ {A B C : Type 0} (d : ℕ) (f : A → B → C) (g : Form A) (h : Form B) (p : Place) where
  abbrev reads : {X : Type 0} → Form X → Place → Answer X
  reads k q = read d (phrase production d) k q

  abbrev second : A × Place → Answer C
  second x = reads h x.1 >>= λ y. Ok (f x.0 y.0, y.1)

  in_two : reads (Form.seq f g h) p ≡ (reads g p >>= second)
  unfolding read
  in_two = refl

  pub then_second : (a : A) (q : Place) → reads g p ≡ Ok (a, q) → reads (Form.seq f g h) p ≡ second (a, q)
  then_second a q e = in_two ∙ found_then (reads g p) second a q e

  pub first_fails : (r : Stop) → Fails r (reads g p) → Fails r (reads (Form.seq f g h) p)
  first_fails r e = subst (Fails r) (sym in_two) (fails_with (reads g p) second r e)

  pub second_fails : (a : A) (q : Place) → reads g p ≡ Ok (a, q) → (r : Stop) → Fails r (reads h q) → Fails r (reads (Form.seq f g h) p)
  second_fails a q e r k = subst (Fails r) (sym (in_two ∙ found_then (reads g p) second a q e)) (fails_with (reads h q) (λ y. Ok (f a y.0, y.1)) r k)

  pub both : (a : A) (q : Place) → reads g p ≡ Ok (a, q) → (b : B) (r : Place) → reads h q ≡ Ok (b, r) → reads (Form.seq f g h) p ≡ Ok (f a b, r)
  both a q e b r k = in_two ∙ (found_then (reads g p) second a q e ∙ found_then (reads h q) (λ y. Ok (f a y.0, y.1)) b r k)

-- names that end with a form
abbrev out : {A : Type 0} → Names → Answer A → Answer A
out names x = x >>= λ y. Ok (y.0, record { names = names; rest = y.1.rest })

pub out_gives : {A : Type 0} (names after : Names) (r : Found A) (y : Answer A) → Gives after r y → Gives names r (out names y)
out_gives names after (Ok x) y h = found_then y (λ u. Ok (u.0, record { names = names; rest = u.1.rest })) x.0 (place after x.1.now) h
out_gives names after (Err e) y h = fails_with y (λ u. Ok (u.0, record { names = names; rest = u.1.rest })) e h

-- a scope
module _ {A : Type 0} (d : ℕ) (g : Form A) (names : Names) (ts : List Token) where
  scoped : form_in d (Form.scope g) names ts ≡ out names (form_in d g names ts)
  unfolding read
  scoped = refl

  pub scope_gives : (after : Names) (r : Found A) → Gives after r (form_in d g names ts) → Gives names r (form_in d (Form.scope g) names ts)
  scope_gives after r h = subst (Gives names r) (sym scoped) (out_gives names after r (form_in d g names ts) h)

pub ends_in : {A : Type 0} {a b : A} {names after : Names} (ts : List Token) → a ≡ b → names ≡ after → ◌≡◌ {A = Answer A} (Ok (a, place names ts)) (Ok (b, place after ts))
ends_in ts e h = rw e (rw h refl)
