-- A function over the parts of a list is one over each part as it is read.
use Rattle.std.proofs.Common.{◌≡◌, ◌<◌, ℕ, zero, suc, Bool, true, false, cond, List, [], ◌∷◌, ◌++◌, length, Ok, Err, refl, sym, ap, ◌∙◌, arith}
use Rattle.std.specs.Prelude.{map as each, nat_le}
use Rattle.std.proofs.lemmas.Bool.{le-leb}
use Rattle.nesc_tree.specs.declared.sorts.Sort.{Sort}
use Rattle.nesc_tree.specs.declared.sorts.Sort.TheVariants as s
use Rattle.nesc_tree.specs.Form.{Form, Place, next, goes}
use Rattle.nm_base.specs.declared.token.Token.{Token}
use Rattle.nesc_tree.specs.Reading.{Deep, Answer, read, guarded, ◌>>=◌}
use Rattle.nesc_grammar.specs.Grammar as grammar
use Rattle.nesc_grammar.specs.Declarations as inner
use Rattle.nesc_parse_types.proofs.Guards.{open_guard}
use Rattle.nesc_declarators.proofs.Turns.{read_at, turns_at}

abbrev pub put : {A : Type 0} → A → Place → Answer A
put a p = Ok (a, p)

-- with the value changed
abbrev pub changed : {A B : Type 0} → (A → B) → Answer A → Answer B
changed f x = x >>= λ u. put (f u.0) u.1

no_weight : (n : ℕ) → nat_le 0 n ≡ true
no_weight n = le-leb 0 n (omega arith)

module _ {A B : Type 0} (h : A → B) (spare : ℕ) (go : A → Sort → Bool) (on : B → Sort → Bool) (body : Sort → Form (A → A)) (other : Sort → Form (B → B))
    (tests : (a : A) (x : Sort) → go a x ≡ on (h a) x)
    (same : (a : A) (q : Place) → changed (λ f. h (f a)) (guarded spare (body (next q)) q (read_at spare (body (next q)) q)) ≡ changed (λ f. f (h a)) (guarded spare (other (next q)) q (read_at spare (other (next q)) q))) where
  step : (n : ℕ) (a : A) (x : Answer (A → A)) (y : Answer (B → B)) → ((b : A) (q : Place) → changed h (turns_at spare go body n b q) ≡ turns_at spare on other n (h b) q)
      → changed (λ f. h (f a)) x ≡ changed (λ f. f (h a)) y
      → changed h (x >>= λ u. turns_at spare go body n (u.0 a) u.1) ≡ (y >>= λ u. turns_at spare on other n (u.0 (h a)) u.1)
  step n a (Ok u) (Ok v) rest e =
      let z : ◌≡◌ {A = B × Place} (h (u.0 a), u.1) (v.0 (h a), v.1) = cc in
      rest (u.0 a) u.1 ∙ ap (λ (w : B × Place). turns_at spare on other n w.0 w.1) z
  step n a (Err x) (Err y) rest e = let z : x ≡ y = cc in ap Err z
  step n a (Ok u) (Err y) rest e = absurd cc
  step n a (Err x) (Ok v) rest e = absurd cc

  pub turns_mapped : (n : ℕ) (a : A) (p : Place) → changed h (turns_at spare go body n a p) ≡ turns_at spare on other n (h a) p
  turns_mapped zero a p = refl
  turns_mapped (suc n) a p =
      let g : Answer (A → A) = guarded spare (body (next p)) p (read_at spare (body (next p)) p) in
      let k : Answer (B → B) = guarded spare (other (next p)) p (read_at spare (other (next p)) p) in
      let by : (c : Bool)
      → changed h (cond c (cond (nat_le 0 spare) (g >>= λ u. turns_at spare go body n (u.0 a) u.1) (Err (Deep p.rest))) (put a p))
      ≡ cond c (cond (nat_le 0 spare) (k >>= λ u. turns_at spare on other n (u.0 (h a)) u.1) (Err (Deep p.rest))) (put (h a) p)
      = elim [
        | true ↦ rw (no_weight spare) (step n a g k (turns_mapped n) (same a p))
        | false ↦ refl
      ] in
      by (go a (next p)) ∙ ap (λ (c : Bool). cond c (cond (nat_le 0 spare) (k >>= λ u. turns_at spare on other n (u.0 (h a)) u.1) (Err (Deep p.rest))) (put (h a) p)) (tests a (next p))

each_added : {A B : Type 0} (f : A → B) (a : A) (l : List A) → each f (l ++ (a ∷ [])) ≡ each f l ++ (f a ∷ [])
each_added f a [] = refl
each_added {B = B} f a (x ∷ l) = ap (λ (m : List B). f x ∷ m) (each_added f a l)

module _ {A B : Type 0} (f : A → B) (g : Form A) (spare : ℕ) (room : 0 < spare) where
  abbrev over : List A → List B
  over l = each f l

  abbrev adds : {C : Type 0} → C → List C → List C
  adds c l = inner.added c l

  one_more : (l : List A) (r : Answer A) → changed (λ k. over (k l)) (r >>= λ u. put (adds u.0) u.1) ≡ changed (λ k. k (over l)) (changed f r >>= λ u. put (adds u.0) u.1)
  one_more l (Ok u) = ap (λ (m : List B). put m u.1) (each_added f u.0 l)
  one_more l (Err e) = refl

  behind_comma : (l : List A) (r : Answer Token) (y : Place → Answer A)
      → changed (λ k. over (k l)) ((r >>= λ t. y t.1 >>= λ u. put u.0 u.1) >>= λ u. put (adds u.0) u.1)
      ≡ changed (λ k. k (over l)) ((r >>= λ t. changed f (y t.1) >>= λ u. put u.0 u.1) >>= λ u. put (adds u.0) u.1)
  behind_comma l (Err e) y = refl
  behind_comma l (Ok t) y = next_one (y t.1) where
    next_one : (x : Answer A) → changed (λ k. over (k l)) ((x >>= λ u. put u.0 u.1) >>= λ u. put (adds u.0) u.1) ≡ changed (λ k. k (over l)) ((changed f x >>= λ u. put u.0 u.1) >>= λ u. put (adds u.0) u.1)
    next_one (Ok u) = ap (λ (m : List B). put m u.1) (each_added f u.0 l)
    next_one (Err e) = refl

  module _ (go : Sort → Bool) where
    abbrev turn : Sort → Form (List A → List A)
    turn x = grammar.when (go x) (grammar.map inner.added g)

    abbrev other : Sort → Form (List B → List B)
    other x = grammar.when (go x) (grammar.map inner.added (grammar.map f g))

    stands : (c : Bool) (l : List A) (q : Place)
        → changed (λ k. over (k l)) (read_at spare (grammar.when c (grammar.map inner.added g)) q) ≡ changed (λ k. k (over l)) (read_at spare (grammar.when c (grammar.map inner.added (grammar.map f g))) q)
    unfolding read
    stands true l q = one_more l (read_at spare g q)
    stands false l q = refl

    same_turn : (l : List A) (q : Place) → changed (λ k. over (k l)) (guarded spare (turn (next q)) q (read_at spare (turn (next q)) q)) ≡ changed (λ k. k (over l)) (guarded spare (other (next q)) q (read_at spare (other (next q)) q))
    same_turn l q =
        ap (changed (λ k. over (k l))) (open_guard spare (turn (next q)) q (read_at spare (turn (next q)) q) room)
        ∙ (stands (go (next q)) l q ∙ sym (ap (changed (λ k. k (over l))) (open_guard spare (other (next q)) q (read_at spare (other (next q)) q) room)))

    pub repeated_is : (p : Place) → changed over (read_at spare (inner.repeated go g) p) ≡ read_at spare (inner.repeated go (grammar.map f g)) p
    unfolding read
    repeated_is p = turns_mapped over spare (λ _ x. go x) (λ _ x. go x) turn other (λ l x. refl) same_turn (suc (length p.rest)) [] p

  abbrev part : Sort → Form (List A → List A)
  part x = grammar.when (grammar.is_comma x) (grammar.map inner.added (grammar.behind (grammar.one s.Comma) g))

  abbrev other_part : Sort → Form (List B → List B)
  other_part x = grammar.when (grammar.is_comma x) (grammar.map inner.added (grammar.behind (grammar.one s.Comma) (grammar.map f g)))

  parts_stand : (c : Bool) (l : List A) (q : Place)
      → changed (λ k. over (k l)) (read_at spare (grammar.when c (grammar.map inner.added (grammar.behind (grammar.one s.Comma) g))) q)
      ≡ changed (λ k. k (over l)) (read_at spare (grammar.when c (grammar.map inner.added (grammar.behind (grammar.one s.Comma) (grammar.map f g)))) q)
  unfolding read
  parts_stand true l q = behind_comma l (read_at spare (grammar.one s.Comma) q) (λ r. read_at spare g r)
  parts_stand false l q = refl

  same_part : (l : List A) (q : Place) → changed (λ k. over (k l)) (guarded spare (part (next q)) q (read_at spare (part (next q)) q)) ≡ changed (λ k. k (over l)) (guarded spare (other_part (next q)) q (read_at spare (other_part (next q)) q))
  same_part l q =
      ap (changed (λ k. over (k l))) (open_guard spare (part (next q)) q (read_at spare (part (next q)) q) room)
      ∙ (parts_stand (grammar.is_comma (next q)) l q ∙ sym (ap (changed (λ k. k (over l))) (open_guard spare (other_part (next q)) q (read_at spare (other_part (next q)) q) room)))

  from_first : (r : Answer A)
      → changed over ((r >>= λ u. put (u.0 ∷ []) u.1) >>= λ x. turns_at spare (goes grammar.is_comma (λ _ _. true)) part (suc (length x.1.rest)) x.0 x.1)
      ≡ ((changed f r >>= λ u. put (u.0 ∷ []) u.1) >>= λ x. turns_at spare (goes grammar.is_comma (λ _ _. true)) other_part (suc (length x.1.rest)) x.0 x.1)
  from_first (Ok u) = turns_mapped over spare (goes grammar.is_comma (λ _ _. true)) (goes grammar.is_comma (λ _ _. true)) part other_part (λ l x. refl) same_part (suc (length u.1.rest)) (u.0 ∷ []) u.1
  from_first (Err e) = refl

  pub listed_is : (p : Place) → changed over (read_at spare (inner.listed g) p) ≡ read_at spare (inner.listed (grammar.map f g)) p
  unfolding read
  listed_is p = from_first (read_at spare g p)
