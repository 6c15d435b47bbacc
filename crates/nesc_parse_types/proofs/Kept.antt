-- What holds of each value that reading by a form gives, from what holds of the values of its parts.
use Rattle.std.proofs.Common.{◌≡◌, ℕ, zero, suc, ◌≤◌, Bool, true, false, cond, List, [], ◌∷◌, length, Ok, Err, refl}
use Rattle.std.proofs.lemmas.Bool.{leb-true}
use Rattle.std.specs.Prelude.{nat_le}
use Rattle.nm_base.specs.declared.token.Token.{Token}
use Rattle.nesc_tree.specs.declared.sorts.Sort.{Sort}
use Rattle.nesc_tree.specs.Sorts.{Names, sort, same_sort}
use Rattle.nesc_tree.specs.Phrase.{Phrase, Of}
use Rattle.nesc_tree.specs.Form.{Form, Place, next, starts, goes}
use Rattle.nesc_tree.specs.Reading.{Syntax, Deep, ◌>>=◌, Answer, Reader, nests, pass, short, guarded, turns, read}

abbrev pub Given : {A : Type 0} → (A → Type 0) → Answer A → Type 0
Given P (Ok x) = P x.0
Given P (Err e) = Unit {0}

given_then : {A B : Type 0} (P : A → Type 0) (Q : B → Type 0) (x : Answer A) → Given P x → (f : A × Place → Answer B) → ((a : A) (q : Place) → P a → Given Q (f (a, q))) → Given Q (x >>= f)
given_then P Q (Ok x) h f k = k x.0 x.1 h
given_then P Q (Err e) h f k = tt

pub given_any : {A : Type 0} (x : Answer A) → Given (λ _. Unit {0}) x
given_any (Ok x) = tt
given_any (Err e) = tt

given_short : {A : Type 0} (P : A → Type 0) (d : ℕ) (b : Bool) (ts : List Token) (k : ℕ) (x : Answer A) → Given P x → Given P (short d b ts k x)
given_short P d b ts zero x h = tt
given_short P d b ts (suc k) x h = h

given_guarded : {A : Type 0} (P : A → Type 0) (d : ℕ) (g : Form A) (p : Place) (x : Answer A) → Given P x → Given P (guarded d g p x)
given_guarded P d g p x h =
    let by : (b : Bool) → Given P (cond b (short d (starts g (next p)) p.rest d x) x) = elim [ true ↦ given_short P d _ p.rest d x h | false ↦ h ] in
    by (nests g)

module _ (d : ℕ) (nested : (p : Phrase) → Reader (Of p)) where
  -- it holds of each value that reading by the form gives
  abbrev pub Kept : {A : Type 0} → (A → Type 0) → Form A → Type 0
  Kept P g = (p : Place) → Given P (read d nested g p)

  pub any : {A : Type 0} (g : Form A) → Kept (λ _. Unit {0}) g
  any g p = given_any (read d nested g p)

  weaker_given : {A : Type 0} (P Q : A → Type 0) → ((a : A) → P a → Q a) → (x : Answer A) → Given P x → Given Q x
  weaker_given P Q w (Ok x) h = w x.0 h
  weaker_given P Q w (Err e) h = tt

  pub weaker : {A : Type 0} (P Q : A → Type 0) (g : Form A) → ((a : A) → P a → Q a) → Kept P g → Kept Q g
  weaker P Q g w h p = weaker_given P Q w (read d nested g p) (h p)

  pub none : {A : Type 0} (P : A → Type 0) → Kept P (Form.none {A = A})
  unfolding read
  none P p = tt

  given_pass : {A : Type 0} (P : A → Type 0) (x : Sort) (f : Token → A) → ((t : Token) → P (f t)) → (ns : Names) (ts : List Token) → Given P (pass x f ns ts)
  given_pass P x f h ns [] = tt
  given_pass {A = A} P x f h ns (t ∷ ts) =
      let by : (b : Bool) → Given P (cond b (Ok (f t, record { names = ns; rest = ts })) (Err (Syntax (t ∷ ts)))) = elim [ true ↦ h t | false ↦ tt ] in
      by (same_sort x (sort ns t))

  pub token : {A : Type 0} (P : A → Type 0) (x : Sort) (f : Token → A) → ((t : Token) → P (f t)) → Kept P (Form.token x f)
  unfolding read
  token P x f h p = given_pass P x f h p.names p.rest

  pub seq : {A B C : Type 0} (P : A → Type 0) (Q : B → Type 0) (R : C → Type 0) (f : A → B → C) (g : Form A) (h : Form B) → Kept P g → Kept Q h → ((a : A) (b : B) → P a → Q b → R (f a b)) → Kept R (Form.seq f g h)
  unfolding read
  seq P Q R f g h u v w p =
      given_then P R (read d nested g p) (u p) (λ x. read d nested h x.1 >>= λ y. Ok (f x.0 y.0, y.1))
      (λ a q k. given_then Q R (read d nested h q) (v q) (λ y. Ok (f a y.0, y.1)) (λ b r l. w a b k l))

  pub by : {A : Type 0} (P : A → Type 0) (f : Sort → Form A) → ((x : Sort) → Kept P (f x)) → Kept P (Form.by f)
  unfolding read
  by P f h p = given_guarded P d (f (next p)) p (read d nested (f (next p)) p) (h (next p) p)

  pub sub : {A : Type 0} (Q : (k : Phrase) → Of k → Type 0) → ((k : Phrase) (p : Place) → Given (Q k) (nested k p)) → (P : A → Type 0) (k : Phrase) (f : Of k → A) → ((a : Of k) → Q k a → P (f a)) → Kept P (Form.sub k f)
  unfolding read
  sub Q n P k f h p = given_then (Q k) P (nested k p) (n k p) (λ x. Ok (f x.0, x.1)) (λ a q l. h a l)

  pub maybe : {A : Type 0} (P : A → Type 0) (g : Form A) (a : A) → Kept P g → P a → Kept P (Form.maybe g a)
  unfolding read
  maybe P g a u v p =
      let by : (c : Bool) → Given P (cond c (guarded d g p (read d nested g p)) (Ok (a, p))) = elim [ true ↦ given_guarded P d g p (read d nested g p) (u p) | false ↦ v ] in
      by (starts g (next p))

  module _ {A : Type 0} (P : A → Type 0) (go : A → Sort → Bool) (weight : A → ℕ) (body : Sort → Form (A → A)) (B : (x : Sort) → Kept (λ f. (a : A) → weight a ≤ d → P a → P (f a)) (body x)) where
    abbrev run : Sort → Reader (A → A)
    run x q = guarded d (body x) q (read d nested (body x) q)

    turns_kept : (k : ℕ) (a : A) (p : Place) → P a → Given P (turns d go weight run k a p)
    turns_kept zero a p h = h
    turns_kept (suc k) a p h =
        let F : (A → A) × Place → Answer A = λ y. turns d go weight run k (y.0 a) y.1 in
        let light : (c : Bool) → nat_le (weight a) d ≡ c → Given P (cond c (run (next p) p >>= F) (Err (Deep p.rest))) = elim [
          | true ↦ λ w. given_then (λ f. (a : A) → weight a ≤ d → P a → P (f a)) P (run (next p) p)
              (given_guarded (λ f. (a : A) → weight a ≤ d → P a → P (f a)) d (body (next p)) p (read d nested (body (next p)) p) (B (next p) p))
              F (λ f q l. turns_kept k (f a) q (l a (leb-true (weight a) d w) h))
          | false ↦ λ w. tt
        ] in
        let by : (c : Bool) → Given P (cond c (cond (nat_le (weight a) d) (run (next p) p >>= F) (Err (Deep p.rest))) (Ok (a, p))) = elim [ true ↦ light (nat_le (weight a) d) refl | false ↦ h ] in
        by (go a (next p))

  pub many : {A : Type 0} (P : A → Type 0) (go : Sort → Bool) (a : A) (body : Sort → Form (A → A)) → P a → ((x : Sort) → Kept (λ f. (a : A) → 0 ≤ d → P a → P (f a)) (body x)) → Kept P (Form.many go a body)
  unfolding read
  many P go a body h B p = turns_kept P (λ _ x. go x) (λ _. 0) body B (suc (length p.rest)) a p h

  pub loop : {A : Type 0} (P : A → Type 0) (may : Sort → Bool) (fits : A → Sort → Bool) (weight : A → ℕ) (g : Form A) (body : Sort → Form (A → A))
      → Kept P g → ((x : Sort) → Kept (λ f. (a : A) → weight a ≤ d → P a → P (f a)) (body x)) → Kept P (Form.loop may fits weight g body)
  unfolding read
  loop P may fits weight g body h B p =
      given_then P P (read d nested g p) (h p) (λ x. turns d (goes may fits) weight (λ y q. guarded d (body y) q (read d nested (body y) q)) (suc (length x.1.rest)) x.0 x.1)
      (λ a q l. turns_kept P (goes may fits) weight body B (suc (length q.rest)) a q l)
