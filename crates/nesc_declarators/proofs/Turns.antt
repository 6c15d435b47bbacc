-- A repetition whose turns may change the names, one turn at a time.
use Rattle.std.proofs.Common.{◌≡◌, ℕ, zero, suc, ◌<◌, Bool, true, false, List, length, Ok, Err, refl, ap, subst, ◌∙◌, arith}
use Rattle.std.proofs.lemmas.Bool.{le-leb}
use Rattle.std.specs.Prelude.{nat_le}
use Rattle.nm_base.specs.declared.token.Token.{Token}
use Rattle.nesc_tree.specs.declared.sorts.Sort.{Sort}
use Rattle.nesc_tree.specs.Form.{Form, Place, next, starts, goes}
use Rattle.nesc_tree.specs.Reading.{Fault, Syntax, Deep, Answer, read, phrase, turns, guarded, ◌>>=◌}
use Rattle.nesc_grammar.specs.Grammar.{applied, map}
use Rattle.nesc_grammar.specs.Production.{production}
use Rattle.nesc_tree.proofs.Fine.{Fine}
use Rattle.nesc_tree.proofs.Moves.{Moves, moves}
use Rattle.nesc_grammar.proofs.Instance.{reads_on}
use Rattle.nesc_parse_types.specs.declared.stop.Stop.{Stop}
use Rattle.nesc_parse_types.specs.declared.stop.Stop.TheVariants as rust
use Rattle.nesc_parse_types.specs.Gives.{Fails}

-- reading by the form from a place on
abbrev pub read_at : {A : Type 0} → ℕ → Form A → Place → Answer A
read_at spare g p = read spare (phrase production spare) g p

abbrev pub turns_at : {A : Type 0} → ℕ → (A → Sort → Bool) → (Sort → Form (A → A)) → ℕ → A → Place → Answer A
turns_at spare go body n a p = turns spare go (λ _. 0) (λ x q. guarded spare (body x) q (read_at spare (body x) q)) n a p

-- the whole is what the turns from here on give
pub record IsFrom {A : Type 0} (spare : ℕ) (go : A → Sort → Bool) (body : Sort → Form (A → A)) (whole : Answer A) (a : A) (p : Place) : Type 0 where
  pub left : ℕ
  pub enough : length p.rest < left
  pub same : whole ≡ turns_at spare go body left a p

no_weight : (n : ℕ) → nat_le 0 n ≡ true
no_weight n = le-leb 0 n (omega arith)

module _ {A : Type 0} (spare : ℕ) (go : A → Sort → Bool) (body : Sort → Form (A → A)) where
  pub begins_many : (may : Sort → Bool) (a : A) (p : Place) → IsFrom spare (λ _ x. may x) body (read_at spare (Form.many may a body) p) a p
  unfolding read
  begins_many may a p = record { left = suc (length p.rest); enough = omega arith; same = refl }

  module _ (whole : Answer A) (a : A) (p : Place) where
    stop_now : (n : ℕ) → length p.rest < n → whole ≡ turns_at spare go body n a p → go a (next p) ≡ false → whole ≡ Ok (a, p)
    stop_now zero l e h = absurd (omega arith)
    stop_now (suc n) l e h = e ∙ rw h refl

    pub ends : IsFrom spare go body whole a p → go a (next p) ≡ false → whole ≡ Ok (a, p)
    ends is h = stop_now is.left is.enough is.same h

    turn : (n : ℕ) → go a (next p) ≡ true → ((x : Answer (A → A)) → guarded spare (body (next p)) p x ≡ x)
        → turns_at spare go body (suc n) a p ≡ (read_at spare (body (next p)) p >>= λ x. turns_at spare go body n (x.0 a) x.1)
    turn n h o = rw (h, no_weight spare) (ap (λ (x : Answer (A → A)). x >>= λ y. turns_at spare go body n (y.0 a) y.1) (o (read_at spare (body (next p)) p)))

    passed : (n : ℕ) (b : A) (q : Place) (x : Answer (A → A)) → ◌≡◌ {A = Answer A} (x >>= λ y. Ok (y.0 a, y.1)) (Ok (b, q)) → (x >>= λ y. turns_at spare go body n (y.0 a) y.1) ≡ turns_at spare go body n b q
    passed n b q (Ok y) h = let z : ◌≡◌ {A = A × Place} (y.0 a, y.1) (b, q) = cc in ap (λ (u : A × Place). turns_at spare go body n u.0 u.1) z
    passed n b q (Err e) h = absurd cc

    refused : (n : ℕ) (f : Fault) (x : Answer (A → A)) → ◌≡◌ {A = Answer A} (x >>= λ y. Ok (y.0 a, y.1)) (Err f) → ◌≡◌ {A = Answer A} (x >>= λ y. turns_at spare go body n (y.0 a) y.1) (Err f)
    refused n f (Ok y) h = absurd cc
    refused n f (Err e) h = let z : e ≡ f = cc in ap Err z

    shorter : (b : A) (q : Place) (x : Answer (A → A)) → Moves true (length p.rest) x → ◌≡◌ {A = Answer A} (x >>= λ y. Ok (y.0 a, y.1)) (Ok (b, q)) → length q.rest < length p.rest
    shorter b q (Ok y) (Moves.ok l s) h = let u : ◌≡◌ {A = A × Place} (y.0 a, y.1) (b, q) = cc in let z : y.1 ≡ q = ap (λ (v : A × Place). v.1) u in let w = s refl in subst (λ (r : Place). length r.rest < length p.rest) z w
    shorter b q (Err e) m h = absurd cc

    -- a turn reads something
    pub falls : (b : A) (q : Place) → Fine (body (next p)) → starts (body (next p)) (next p) ≡ true → read_at spare (applied a (body (next p))) p ≡ Ok (b, q) → length q.rest < length p.rest
    unfolding read
    falls b q fine h e =
        shorter b q (read_at spare (body (next p)) p)
        (subst (λ (c : Bool). Moves c (length p.rest) (read_at spare (body (next p)) p)) h (moves spare (phrase production spare) (reads_on spare) (body (next p)) fine p)) e

    on : (n : ℕ) → length p.rest < n → whole ≡ turns_at spare go body n a p → (b : A) (q : Place) → go a (next p) ≡ true
        → ((x : Answer (A → A)) → guarded spare (body (next p)) p x ≡ x) → read_at spare (applied a (body (next p))) p ≡ Ok (b, q) → length q.rest < length p.rest → IsFrom spare go body whole b q
    unfolding read
    on zero l e b q h o f k = absurd (omega arith)
    on (suc n) l e b q h o f k = record { left = n; enough = omega arith; same = e ∙ (turn n h o ∙ passed n b q (read_at spare (body (next p)) p) f) }

    pub next_turn : IsFrom spare go body whole a p → (b : A) (q : Place) → go a (next p) ≡ true → ((x : Answer (A → A)) → guarded spare (body (next p)) p x ≡ x)
        → Fine (body (next p)) → starts (body (next p)) (next p) ≡ true → read_at spare (applied a (body (next p))) p ≡ Ok (b, q) → IsFrom spare go body whole b q
    next_turn is b q h o fine w f = on is.left is.enough is.same b q h o f (falls b q fine w f)

    off : (n : ℕ) → length p.rest < n → whole ≡ turns_at spare go body n a p → (f : Fault) → go a (next p) ≡ true → ((x : Answer (A → A)) → guarded spare (body (next p)) p x ≡ x)
        → read_at spare (applied a (body (next p))) p ≡ Err f → whole ≡ Err f
    unfolding read
    off zero l e f h o q = absurd (omega arith)
    off (suc n) l e f h o q = e ∙ (turn n h o ∙ refused n f (read_at spare (body (next p)) p) q)

    pub fails : IsFrom spare go body whole a p → (r : Stop) → go a (next p) ≡ true → ((x : Answer (A → A)) → guarded spare (body (next p)) p x ≡ x) → Fails r (read_at spare (applied a (body (next p))) p) → Fails r whole
    fails is rust.Memory h o q = tt
    fails is (rust.Syntax us) h o q = off is.left is.enough is.same (Syntax us.now) h o q
    fails is (rust.Deep us) h o q = off is.left is.enough is.same (Deep us.now) h o q

module _ {A B : Type 0} (spare : ℕ) (p : Place) where
  map_read : (f : A → B) (a : A) (q : Place) (x : Answer A) → x ≡ Ok (a, q) → ◌≡◌ {A = Answer B} (◌>>=◌ {B = B × Place} x (λ u. Ok (f u.0, u.1))) (Ok (f a, q))
  map_read f a q x h = rw h refl

  pub mapped : (f : A → B) (g : Form A) (a : A) (q : Place) → read_at spare g p ≡ Ok (a, q) → read_at spare (map f g) p ≡ Ok (f a, q)
  unfolding read
  mapped f g a q h = map_read f a q (read_at spare g p) h

  map_fails : (f : A → B) (e : Fault) (x : Answer A) → x ≡ Err e → ◌≡◌ {A = Answer B} (◌>>=◌ {B = B × Place} x (λ u. Ok (f u.0, u.1))) (Err e)
  map_fails f e x h = rw h refl

  pub mapped_fails : (f : A → B) (g : Form A) (r : Stop) → Fails r (read_at spare g p) → Fails r (read_at spare (map f g) p)
  unfolding read
  mapped_fails f g rust.Memory h = tt
  mapped_fails f g (rust.Syntax us) h = map_fails f (Syntax us.now) (read_at spare g p) h
  mapped_fails f g (rust.Deep us) h = map_fails f (Deep us.now) (read_at spare g p) h

module _ {A : Type 0} (spare : ℕ) (may : Sort → Bool) (fits : A → Sort → Bool) (g : Form A) (body : Sort → Form (A → A)) (p : Place) where
  first_read : (a : A) (q : Place) (x : Answer A) → x ≡ Ok (a, q) → (x >>= λ y. turns_at spare (goes may fits) body (suc (length y.1.rest)) y.0 y.1) ≡ turns_at spare (goes may fits) body (suc (length q.rest)) a q
  first_read a q x h = rw h refl

  pub begins_loop : (a : A) (q : Place) → read_at spare g p ≡ Ok (a, q) → IsFrom spare (goes may fits) body (read_at spare (Form.loop may fits (λ _. 0) g body) p) a q
  unfolding read
  begins_loop a q h = record { left = suc (length q.rest); enough = omega arith; same = first_read a q (read_at spare g p) h }

  not_read : (f : Fault) (x : Answer A) → x ≡ Err f → (x >>= λ y. turns_at spare (goes may fits) body (suc (length y.1.rest)) y.0 y.1) ≡ Err f
  not_read f x h = rw h refl

  pub loop_fails : (r : Stop) → Fails r (read_at spare g p) → Fails r (read_at spare (Form.loop may fits (λ _. 0) g body) p)
  unfolding read
  loop_fails rust.Memory h = tt
  loop_fails (rust.Syntax us) h = not_read (Syntax us.now) (read_at spare g p) h
  loop_fails (rust.Deep us) h = not_read (Deep us.now) (read_at spare g p) h
