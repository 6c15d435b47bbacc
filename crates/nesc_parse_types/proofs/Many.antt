-- A repetition, one turn at a time.
use Rattle.std.proofs.Common.{◌≡◌, ℕ, zero, suc, ◌<◌, ◌≤◌, Bool, true, false, ◌&&◌, List, length, Ok, Err, refl, sym, ap, subst, ◌∙◌, arith}
use Rattle.std.proofs.lemmas.Bool.{le-leb}
use Rattle.std.specs.Prelude.{nat_le}
use Rattle.std.specs.Result.{IsErr, IsErrAnd}
use Rattle.nm_base.specs.declared.token.Token.{Token}
use Rattle.nesc_tree.specs.declared.sorts.Sort.{Sort}
use Rattle.nesc_tree.specs.Sorts.{Names, ahead}
use Rattle.nesc_tree.specs.Form.{Form, Place, starts, goes}
use Rattle.nesc_tree.specs.Reading.{Fault, Syntax, Deep, Answer, read, phrase, turns, guarded, nests, stop, ◌>>=◌}
use Rattle.nesc_grammar.specs.Grammar.{applied, map, when}
use Rattle.nesc_grammar.specs.Production.{production}
use Rattle.nesc_tree.proofs.Fine.{Fine}
use Rattle.nesc_tree.proofs.Moves.{Moves, strict, moves}
use Rattle.nesc_grammar.proofs.Instance.{reads_on}
use Rattle.nesc_parse_types.proofs.Guards.{shut_guard}
use Rattle.nesc_parse_types.specs.declared.stop.Stop.{Stop}
use Rattle.nesc_parse_types.specs.declared.stop.Stop.TheVariants as rust
use Rattle.nesc_parse_types.specs.Gives.{Fails, Found, Gives, form_in, place}

-- what the turns from a value on give, at most so many of them
abbrev pub turns_in : {A : Type 0} → ℕ → Names → (A → Sort → Bool) → (Sort → Form (A → A)) → ℕ → A → List Token → Answer A
turns_in spare names go body n a ts = turns spare go (λ _. 0) (λ x q. guarded spare (body x) q (read spare (phrase production spare) (body x) q)) n a (place names ts)

-- the whole is what the turns from here on give
pub record IsAt {A : Type 0} (spare : ℕ) (names : Names) (go : A → Sort → Bool) (body : Sort → Form (A → A)) (whole : Answer A) (a : A) (ts : List Token) : Type 0 where
  pub left : ℕ
  pub enough : length ts < left
  pub same : whole ≡ turns_in spare names go body left a ts

no_weight : (n : ℕ) → nat_le 0 n ≡ true
no_weight n = le-leb 0 n (omega arith)

module _ {A : Type 0} (spare : ℕ) (names : Names) (go : A → Sort → Bool) (body : Sort → Form (A → A)) where
  pub begins_many : (may : Sort → Bool) (a : A) (ts : List Token) → IsAt spare names (λ _ x. may x) body (form_in spare (Form.many may a body) names ts) a ts
  unfolding read
  begins_many may a ts = record { left = suc (length ts); enough = omega arith; same = refl }

  module _ (whole : Answer A) (a : A) (ts : List Token) where
    stop_now : (n : ℕ) → length ts < n → whole ≡ turns_in spare names go body n a ts → go a (ahead names ts) ≡ false → whole ≡ Ok (a, place names ts)
    stop_now zero l e h = absurd (omega arith)
    stop_now (suc n) l e h = e ∙ rw h refl

    pub ends : IsAt spare names go body whole a ts → go a (ahead names ts) ≡ false → whole ≡ Ok (a, place names ts)
    ends is h = stop_now is.left is.enough is.same h

    turn : (n : ℕ) → go a (ahead names ts) ≡ true → ((x : Answer (A → A)) → guarded spare (body (ahead names ts)) (place names ts) x ≡ x)
        → turns_in spare names go body (suc n) a ts ≡ (form_in spare (body (ahead names ts)) names ts >>= λ x. turns spare go (λ _. 0) (λ x q. guarded spare (body x) q (read spare (phrase production spare) (body x) q)) n (x.0 a) x.1)
    turn n h o = rw (h, no_weight spare) (ap (λ (x : Answer (A → A)). x >>= λ y. turns spare go (λ _. 0) (λ x q. guarded spare (body x) q (read spare (phrase production spare) (body x) q)) n (y.0 a) y.1) (o (form_in spare (body (ahead names ts)) names ts)))

    passed : (n : ℕ) (b : A) (rest : List Token) (x : Answer (A → A)) → ◌≡◌ {A = Answer A} (x >>= λ y. Ok (y.0 a, y.1)) (Ok (b, place names rest))
        → (x >>= λ y. turns spare go (λ _. 0) (λ x q. guarded spare (body x) q (read spare (phrase production spare) (body x) q)) n (y.0 a) y.1) ≡ turns_in spare names go body n b rest
    passed n b rest (Ok y) h = let z : ◌≡◌ {A = A × Place} (y.0 a, y.1) (b, place names rest) = cc in ap (λ (u : A × Place). turns spare go (λ _. 0) (λ x q. guarded spare (body x) q (read spare (phrase production spare) (body x) q)) n u.0 u.1) z
    passed n b rest (Err e) h = absurd cc

    refused : (n : ℕ) (f : Fault) (x : Answer (A → A)) → ◌≡◌ {A = Answer A} (x >>= λ y. Ok (y.0 a, y.1)) (Err f)
        → ◌≡◌ {A = Answer A} (x >>= λ y. turns spare go (λ _. 0) (λ x q. guarded spare (body x) q (read spare (phrase production spare) (body x) q)) n (y.0 a) y.1) (Err f)
    refused n f (Ok y) h = absurd cc
    refused n f (Err e) h = let z : e ≡ f = cc in ap Err z

    shorter : (b : A) (rest : List Token) (x : Answer (A → A)) → Moves true (length ts) x → ◌≡◌ {A = Answer A} (x >>= λ y. Ok (y.0 a, y.1)) (Ok (b, place names rest)) → length rest < length ts
    shorter b rest (Ok y) (Moves.ok l s) h = let u : ◌≡◌ {A = A × Place} (y.0 a, y.1) (b, place names rest) = cc in let z : y.1 ≡ place names rest = ap (λ (v : A × Place). v.1) u in let w = s refl in subst (λ (p : Place). length p.rest < length ts) z w
    shorter b rest (Err e) m h = absurd cc

    -- a turn reads something
    pub falls : (b : A) (rest : List Token) → Fine (body (ahead names ts)) → starts (body (ahead names ts)) (ahead names ts) ≡ true
        → form_in spare (applied a (body (ahead names ts))) names ts ≡ Ok (b, place names rest) → length rest < length ts
    unfolding read
    falls b rest fine h e =
        shorter b rest (form_in spare (body (ahead names ts)) names ts)
        (subst (λ (c : Bool). Moves c (length ts) (form_in spare (body (ahead names ts)) names ts)) h (moves spare (phrase production spare) (reads_on spare) (body (ahead names ts)) fine (place names ts))) e

    on : (n : ℕ) → length ts < n → whole ≡ turns_in spare names go body n a ts → (b : A) (rest : List Token) → go a (ahead names ts) ≡ true
        → ((x : Answer (A → A)) → guarded spare (body (ahead names ts)) (place names ts) x ≡ x) → form_in spare (applied a (body (ahead names ts))) names ts ≡ Ok (b, place names rest) → length rest < length ts
        → IsAt spare names go body whole b rest
    unfolding read
    on zero l e b rest h o f k = absurd (omega arith)
    on (suc n) l e b rest h o f k = record { left = n; enough = omega arith; same = e ∙ (turn n h o ∙ passed n b rest (form_in spare (body (ahead names ts)) names ts) f) }

    pub goes_on : IsAt spare names go body whole a ts → (b : A) (rest : List Token) → go a (ahead names ts) ≡ true
        → ((x : Answer (A → A)) → guarded spare (body (ahead names ts)) (place names ts) x ≡ x) → form_in spare (applied a (body (ahead names ts))) names ts ≡ Ok (b, place names rest) → length rest < length ts
        → IsAt spare names go body whole b rest
    goes_on is b rest h o f k = on is.left is.enough is.same b rest h o f k

    off : (n : ℕ) → length ts < n → whole ≡ turns_in spare names go body n a ts → (f : Fault) → go a (ahead names ts) ≡ true → ((x : Answer (A → A)) → guarded spare (body (ahead names ts)) (place names ts) x ≡ x)
        → form_in spare (applied a (body (ahead names ts))) names ts ≡ Err f → whole ≡ Err f
    unfolding read
    off zero l e f h o q = absurd (omega arith)
    off (suc n) l e f h o q = e ∙ (turn n h o ∙ refused n f (form_in spare (body (ahead names ts)) names ts) q)

    pub fails : IsAt spare names go body whole a ts → (r : Stop) → go a (ahead names ts) ≡ true → ((x : Answer (A → A)) → guarded spare (body (ahead names ts)) (place names ts) x ≡ x)
        → Fails r (form_in spare (applied a (body (ahead names ts))) names ts) → Fails r whole
    fails is rust.Memory h o q = tt
    fails is (rust.Syntax us) h o q = off is.left is.enough is.same (Syntax us.now) h o q
    fails is (rust.Deep us) h o q = off is.left is.enough is.same (Deep us.now) h o q

    -- what must nest is not begun where nothing may nest
    shut : (n : ℕ) → length ts < n → whole ≡ turns_in spare names go body n a ts → (f : Fault) → go a (ahead names ts) ≡ true → ((x : Answer (A → A)) → guarded spare (body (ahead names ts)) (place names ts) x ≡ Err f) → whole ≡ Err f
    shut zero l e f h o = absurd (omega arith)
    shut (suc n) l e f h o =
        e ∙ rw (h, no_weight spare) (ap (λ (x : Answer (A → A)). x >>= λ y. turns spare go (λ _. 0) (λ x q. guarded spare (body x) q (read spare (phrase production spare) (body x) q)) n (y.0 a) y.1) (o (form_in spare (body (ahead names ts)) names ts)))

    pub closes : IsAt spare names go body whole a ts → (f : Fault) → go a (ahead names ts) ≡ true → ((x : Answer (A → A)) → guarded spare (body (ahead names ts)) (place names ts) x ≡ Err f) → whole ≡ Err f
    closes is f h o = shut is.left is.enough is.same f h o

    pub closes_deep : IsAt spare names go body whole a ts → go a (ahead names ts) ≡ true → spare ≡ 0 → nests (body (ahead names ts)) ≡ true → starts (body (ahead names ts)) (ahead names ts) ≡ true → whole ≡ Err (Deep ts)
    closes_deep is h z n b = closes is (Deep ts) h (λ x. shut_guard spare (body (ahead names ts)) (place names ts) x z n ∙ ap (λ (c : Bool). Err (stop c ts)) b)

    pub next_turn : IsAt spare names go body whole a ts → (b : A) (rest : List Token) → go a (ahead names ts) ≡ true → ((x : Answer (A → A)) → guarded spare (body (ahead names ts)) (place names ts) x ≡ x)
        → Fine (body (ahead names ts)) → starts (body (ahead names ts)) (ahead names ts) ≡ true → form_in spare (applied a (body (ahead names ts))) names ts ≡ Ok (b, place names rest) → IsAt spare names go body whole b rest
    next_turn is b rest h o fine w f = goes_on is b rest h o f (falls b rest fine w f)

module _ {A B : Type 0} (spare : ℕ) (names : Names) (ts : List Token) where
  map_read : (f : A → B) (a : A) (p : Place) (x : Answer A) → x ≡ Ok (a, p) → ◌≡◌ {A = Answer B} (◌>>=◌ {B = B × Place} x (λ u. Ok (f u.0, u.1))) (Ok (f a, p))
  map_read f a p x h = rw h refl

  pub mapped : (f : A → B) (g : Form A) (a : A) (rest : List Token) → form_in spare g names ts ≡ Ok (a, place names rest) → form_in spare (map f g) names ts ≡ Ok (f a, place names rest)
  unfolding read
  mapped f g a rest h = map_read f a (place names rest) (form_in spare g names ts) h

  map_fails : (f : A → B) (e : Fault) (x : Answer A) → x ≡ Err e → ◌≡◌ {A = Answer B} (◌>>=◌ {B = B × Place} x (λ u. Ok (f u.0, u.1))) (Err e)
  map_fails f e x h = rw h refl

  pub mapped_fails : (f : A → B) (g : Form A) (r : Stop) → Fails r (form_in spare g names ts) → Fails r (form_in spare (map f g) names ts)
  unfolding read
  mapped_fails f g rust.Memory h = tt
  mapped_fails f g (rust.Syntax us) h = map_fails f (Syntax us.now) (form_in spare g names ts) h
  mapped_fails f g (rust.Deep us) h = map_fails f (Deep us.now) (form_in spare g names ts) h

module _ {A : Type 0} (spare : ℕ) (names : Names) (may : Sort → Bool) (fits : A → Sort → Bool) (g : Form A) (body : Sort → Form (A → A)) (ts : List Token) where
  first_read : (a : A) (rest : List Token) (x : Answer A) → x ≡ Ok (a, place names rest)
      → (x >>= λ y. turns spare (goes may fits) (λ _. 0) (λ x q. guarded spare (body x) q (read spare (phrase production spare) (body x) q)) (suc (length y.1.rest)) y.0 y.1) ≡ turns_in spare names (goes may fits) body (suc (length rest)) a rest
  first_read a rest x h = rw h refl

  pub begins_loop : (a : A) (rest : List Token) → form_in spare g names ts ≡ Ok (a, place names rest) → IsAt spare names (goes may fits) body (form_in spare (Form.loop may fits (λ _. 0) g body) names ts) a rest
  unfolding read
  begins_loop a rest h = record { left = suc (length rest); enough = omega arith; same = first_read a rest (form_in spare g names ts) h }

  not_read : (f : Fault) (x : Answer A) → x ≡ Err f
      → (x >>= λ y. turns spare (goes may fits) (λ _. 0) (λ x q. guarded spare (body x) q (read spare (phrase production spare) (body x) q)) (suc (length y.1.rest)) y.0 y.1) ≡ Err f
  not_read f x h = rw h refl

  pub loop_fails : (r : Stop) → Fails r (form_in spare g names ts) → Fails r (form_in spare (Form.loop may fits (λ _. 0) g body) names ts)
  unfolding read
  loop_fails rust.Memory h = tt
  loop_fails (rust.Syntax us) h = not_read (Syntax us.now) (form_in spare g names ts) h
  loop_fails (rust.Deep us) h = not_read (Deep us.now) (form_in spare g names ts) h

-- what `?` gives back is the callee's refusal
pub through : {X : Type 0} (names : Names) (r : Found X) (x : Stop) (y : Answer X) → IsErr r × IsErrAnd r (λ e. e ≡ x) → Fails x y → Gives names r y
through names (Ok u) x y k f = let w = k.0 in absurd cc
through names (Err e) x y k f = subst (λ (v : Stop). Fails v y) (sym k.1) f

-- a test of the next token, as the code makes it
pub tested : (f : Sort → Bool) (x y : Sort) (b r : Bool) → x ≡ y → r ≡ f x → r ≡ b → f y ≡ b
tested f x y b r e h k = subst (λ (z : Sort). f z ≡ b) e (sym h ∙ k)

pub left_true : (a b : Bool) → (a && b) ≡ true → a ≡ true
left_true true b h = refl
left_true false b h = h

pub with_true : (b c : Bool) → b ≡ c → (b && true) ≡ c
with_true true c h = h
with_true false c h = h

-- a turn that stands only where the token goes on
module _ {A : Type 0} (spare : ℕ) (names : Names) (g : Form (A → A)) (b : Bool) (h : b ≡ true) where
  pub turn_stands : (a : A) (ts : List Token) (y : Answer A) → form_in spare (applied a g) names ts ≡ y → form_in spare (applied a (when b g)) names ts ≡ y
  turn_stands a ts y e = subst (λ (c : Bool). form_in spare (applied a (when c g)) names ts ≡ y) (sym h) e

  pub turn_stops : (a : A) (ts : List Token) (r : Stop) → Fails r (form_in spare (applied a g) names ts) → Fails r (form_in spare (applied a (when b g)) names ts)
  turn_stops a ts r e = subst (λ (c : Bool). Fails r (form_in spare (applied a (when c g)) names ts)) (sym h) e

  pub turn_free : (p : Place) → ((x : Answer (A → A)) → guarded spare g p x ≡ x) → (x : Answer (A → A)) → guarded spare (when b g) p x ≡ x
  turn_free p o x = subst (λ (c : Bool). guarded spare (when c g) p x ≡ x) (sym h) (o x)
