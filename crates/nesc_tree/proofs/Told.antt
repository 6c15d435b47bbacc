-- Where reading stops, some text goes on with what was read.
use Rattle.std.proofs.Common.{◌≡◌, ℕ, zero, suc, ◌≤◌, ◌<◌, Bool, true, false, cond, List, [], ◌∷◌, length, Ok, Err, refl, sym, ap, subst, ◌∙◌, ◌⊎◌, inl, inr, arith}
use Rattle.std.proofs.lemmas.Bool.{leb-true}
use Rattle.std.specs.Prelude.{nat_le}
use Rattle.nm_base.specs.declared.token.Token.{Token}
use Rattle.nesc_tree.specs.declared.sorts.Sort.{Sort}
use Rattle.nesc_tree.specs.Sorts.{Names, sort, ahead, same_sort}
use Rattle.nesc_tree.specs.Phrase.{Phrase, Of, begins, fits_one_level}
use Rattle.nesc_tree.specs.Form.{Form, Place, next, nullable, starts, either, goes, Relation, Chain, Spells}
use Rattle.nesc_tree.specs.Reading.{Syntax, Deep, rest_of, ◌>>=◌, Answer, Reader, nests, pass, short, guarded, turns, read}
use Rattle.nesc_tree.proofs.Fine.{Fine}
use Rattle.nesc_tree.proofs.Starts.{Begun, begun}
use Rattle.nesc_tree.proofs.Moves.{Moves, moves, strict, left_of}
use Rattle.nesc_tree.proofs.Sound.{Sound, sound, guarded_sound}
use Rattle.nesc_tree.proofs.Open.{stay, bars, lives, seed_of, seed, Open, made}
use Rattle.nesc_tree.proofs.Some.{Follow, Text, Opens, some, ends_before, left_no, right_no, any_at, with}
use Rattle.nesc_tree.proofs.Across.{across}
use Rattle.nesc_tree.proofs.Moved.{Cut, joined, Keeps, Free, Moved, moved, and_left_no}

-- a text that begins with the tokens before ts
pub record Prefix {A : Type 0} (R : Place → A → Place → Type 0) (p : Place) (ts : List Token) (follow : Follow A) : Type 0 where
  pub us : List Token
  pub tail : List Token
  pub value : A
  pub names : Names
  pub cut : Cut p.rest ts us tail
  pub spelled : R (with p.names us) value (with names (follow value names))
  pub same : (ns : Names) → ahead ns us ≡ ahead ns p.rest

abbrev pub Begins : {A : Type 0} → (Place → A → Place → Type 0) → (Sort → Bool) → Place → List Token → Type 0
Begins {A = A} R f p ts = (follow : Follow A) → ((a : A) (ms : Names) → f (ahead ms (follow a ms)) ≡ false) → Prefix R p ts follow

abbrev pub Told : {A : Type 0} → (Place → A → Place → Type 0) → (Sort → Bool) → Place → Answer A → Type 0
Told R f p (Ok x) = Unit {0}
Told R f p (Err e) = (rest_of e ≡ p.rest) ⊎ Begins R f p (rest_of e)

-- the same value by another form
told_map : {A B : Type 0} (R : Place → A → Place → Type 0) (S : Place → B → Place → Type 0) (f g : Sort → Bool) (p : Place) (x : Answer A) (k : A × Place → Answer B) → ((y : A × Place) → Told S g p (k y))
    → ((ts : List Token) → Begins R f p ts → Begins S g p ts) → Told R f p x → Told S g p (x >>= k)
told_map R S f g p (Ok y) k h m t = h y
told_map R S f g p (Err e) k h m (inl w) = inl w
told_map R S f g p (Err e) k h m (inr w) = inr (m (rest_of e) w)

shorter : {A : Type 0} (b : Bool) (m : ℕ) (a : A) (q : Place) → b ≡ true → Moves b m (Ok (a, q)) → length q.rest < m
shorter b m a q w (Moves.ok i j) = j w

same_after : {n : Bool} {p q : Place} {us ts : List Token} → Keeps n p q us ts → ((ns : Names) → ahead ns ts ≡ ahead ns q.rest) → (ns : Names) → ahead ns us ≡ ahead ns p.rest
same_after (Keeps.stays e z w) h ns = rw w (h ns ∙ ap (λ (u : Place). ahead ns u.rest) z)
same_after (Keeps.same k) h ns = k ns

module _ (d : ℕ) (nested : (p : Phrase) → Reader (Of p)) (Nested : (p : Phrase) → Relation (Of p)) (r : Bool) (R : r ≡ false → d ≡ 0)
    (N : (k : Phrase) (p : Place) → Moves (begins k (next p)) (length p.rest) (nested k p))
    (S : (k : Phrase) (p : Place) → Sound (λ a q. Nested k p a q) (nested k p))
    (B : (k : Phrase) (p q : Place) (a : Of k) → Nested k p a q → begins k (next p) ≡ true)
    (F : (x : Sort) (ns : Names) → made x ≡ true → (t : Token) × (sort ns t ≡ x))
    (E : r ≡ true → (k : Phrase) → fits_one_level k ≡ true → (ns : Names) (follow : Follow (Of k)) → ((a : Of k) (ms : Names) → stay k (ahead ms (follow a ms)) ≡ false) → (t : Text (Nested k) ns follow) × (ahead ns t.us ≡ seed_of k))
    (W : (k : Phrase) (p q : Place) (a : Of k) → Nested k p a q → (follow : List Token) → Free (stay k) q follow → Moved (Nested k) false p q a follow)
    (T : (k : Phrase) (p : Place) → Told (Nested k) (stay k) p (nested k p)) where
  short_told : {A : Type 0} (Q : Place → A → Place → Type 0) (f : Sort → Bool) (p : Place) (b : Bool) (k : ℕ) (x : Answer A) → (d ≡ k → (k ≡ 0 → ⊥) → Told Q f p x) → d ≡ k → Told Q f p (short d b p.rest k x)
  short_told Q f p true zero x h e = inl refl
  short_told Q f p false zero x h e = inl refl
  short_told Q f p b (suc k) x h e = h e (λ z. omega arith)

  -- what has to nest is read only where something may nest
  guarded_told : {A : Type 0} (Q : Place → A → Place → Type 0) (f : Sort → Bool) (g : Form A) (p : Place) (x : Answer A) → ((d ≡ 0 → nests g ≡ false) → Told Q f p x) → Told Q f p (guarded d g p x)
  guarded_told Q f g p x h =
      let by : (b : Bool) → nests g ≡ b → Told Q f p (cond b (short d (starts g (next p)) p.rest d x) x) = elim [
        | true ↦ λ e. short_told Q f p (starts g (next p)) d x (λ w z. h (λ k. absurd (z k))) refl
        | false ↦ λ e. h (λ _. e)
      ] in
      by (nests g) refl

  live : {A : Type 0} (h : Form A) → lives (seed true h) ≡ true → (nests h ≡ false → lives (seed false h) ≡ true) → (d ≡ 0 → nests h ≡ false) → lives (seed r h) ≡ true
  live h a b c =
      let by : (u : Bool) → r ≡ u → lives (seed u h) ≡ true = elim [ true ↦ λ e. a | false ↦ λ e. b (c (R e)) ] in
      by r refl

  no_left : (a b : Bool) → either a b ≡ false → a ≡ false
  no_left true b h = h
  no_left false b h = refl

  -- what was read is spelled, and is no token or some
  spelled_by : {A : Type 0} (g : Form A) → Fine g → (p q : Place) (a : A) → read d nested g p ≡ Ok (a, q) → Spells d Nested g p a q
  spelled_by g fine p q a e = subst (Sound (λ b u. Spells d Nested g p b u)) e (sound d nested Nested N S g fine p)

  reads_some : {A : Type 0} (g : Form A) → Fine g → (p q : Place) (a : A) → read d nested g p ≡ Ok (a, q) → (q ≡ p) ⊎ (length q.rest < length p.rest)
  reads_some {A = A} g fine p q a e =
      let by : Begun (nullable g) (starts g) p q → (q ≡ p) ⊎ (length q.rest < length p.rest) = elim [
        | Begun.nothing n z ↦ inl z
        | Begun.something w ↦ inr (shorter (starts g (next p)) (length p.rest) a q w (subst (Moves (starts g (next p)) (length p.rest)) e (moves d nested N g fine p)))
      ] in
      by (begun d Nested B g fine p q a (spelled_by g fine p q a e))

  reads_full : {A : Type 0} (g : Form A) → Fine g → nullable g ≡ false → (p q : Place) (a : A) → read d nested g p ≡ Ok (a, q) → length q.rest < length p.rest
  reads_full {A = A} g fine full p q a e =
      let by : Begun (nullable g) (starts g) p q → length q.rest < length p.rest = elim [
        | Begun.nothing n z ↦ absurd cc
        | Begun.something w ↦ shorter (starts g (next p)) (length p.rest) a q w (subst (Moves (starts g (next p)) (length p.rest)) e (moves d nested N g fine p))
      ] in
      by (begun d Nested B g fine p q a (spelled_by g fine p q a e))

  strictly : {n : Bool} {p q : Place} {us fs : List Token} → length q.rest < length p.rest → Keeps n p q us fs → (ns : Names) → ahead ns us ≡ ahead ns p.rest
  strictly l (Keeps.stays e z w) ns = let k = ap (λ (u : Place). length u.rest) z in absurd (omega arith)
  strictly l (Keeps.same k) ns = k ns

  token_told : {A : Type 0} (x : Sort) (f : Token → A) (ns : Names) (ts : List Token) → Told (Spells d Nested (Form.token x f)) (bars (Form.token x f)) (with ns ts) (pass x f ns ts)
  token_told x f ns [] = inl refl
  token_told {A = A} x f ns (t ∷ ts) =
      let by : (b : Bool) → Told (Spells d Nested (Form.token x f)) (bars (Form.token x f)) (with ns (t ∷ ts)) (cond b (Ok (f t, record { names = ns; rest = ts })) (Err (Syntax (t ∷ ts)))) = elim [ true ↦ tt | false ↦ inl refl ] in
      by (same_sort x (sort ns t))

  -- behind a form
  or_left : (m n : Bool) (P : Type 0) → (P → either m n ≡ false) → P → m ≡ false
  or_left m n P h z = left_no m n (h z)

  or_right : (m n : Bool) (P : Type 0) → (P → either m n ≡ false) → P → n ≡ false
  or_right m n P h z = right_no m n (h z)

  module _ {X Y Z : Type 0} (f : X → Y → Z) (g : Form X) (h : Form Y) (fine : Fine (Form.seq f g h)) (opn : Open (Form.seq f g h)) (p : Place) (c : d ≡ 0 → nests (Form.seq f g h) ≡ false) where
    abbrev both : Form Z
    both = Form.seq f g h

    alive : lives (seed r h) ≡ true
    alive = live h opn.2 opn.3 (λ z. or_right (nests g) (nests h) (d ≡ 0) c z)

    module _ (follow : Follow Z) (k : (a : Z) (ms : Names) → bars both (ahead ms (follow a ms)) ≡ false) where
      abbrev shortest : (a : X) (ms : Names) → (t : Text (Spells d Nested h) ms (λ b. follow (f a b))) × Opens (seed r h) ms t.us t.names (follow (f a t.value) t.names)
      shortest a ms = some d Nested r F E h fine.1 opn.1 ms (λ b. follow (f a b)) (λ b os. left_no _ _ (k (f a b) os)) alive

      next_ends : (a : X) (ms : Names) → bars g (ahead ms (shortest a ms).0.us) ≡ false
      next_ends a ms =
          let t = shortest a ms in
          ends_before r g h fine.1 (opn.4 r) ms t.0.names t.0.us (follow (f a t.0.value) t.0.names) t.1 (λ n. and_left_no (nullable h) _ (right_no (bars h _) _ (k (f a t.0.value) t.0.names)) n)

    first_refused : (ts : List Token) → Begins (Spells d Nested g) (bars g) p ts → Begins (Spells d Nested both) (bars both) p ts
    unfolding Spells
    first_refused ts begins follow k =
        let P : Prefix (Spells d Nested g) p ts (λ a ms. (shortest follow k a ms).0.us) = begins (λ a ms. (shortest follow k a ms).0.us) (next_ends follow k) in
        let t = shortest follow k P.value P.names in
        record { us = P.us; tail = P.tail; value = f P.value t.0.value; names = t.0.names; cut = P.cut; spelled = (P.value, t.0.value, with P.names t.0.us, P.spelled, t.0.spelled, refl); same = P.same }

    second_none : (q : Place) (a : X) (ts : List Token) → Spells d Nested g p a q → length q.rest < length p.rest → ts ≡ q.rest → Begins (Spells d Nested both) (bars both) p ts
    unfolding Spells
    second_none q a ts t l e follow k =
        let z = shortest follow k a q.names in
        let m = moved d Nested W g fine.0 opn.0 p q a t z.0.us (Free.free (next_ends follow k a q.names)) in
        record { us = m.us; tail = z.0.us; value = f a z.0.value; names = z.0.names; cut = subst (λ (us : List Token). Cut p.rest us m.us z.0.us) (sym e) m.cut; spelled = (a, z.0.value, with q.names z.0.us, m.spelled, z.0.spelled, refl); same = strictly l m.keeps }

    second_refused : (q : Place) (a : X) (ts : List Token) → Spells d Nested g p a q → Begins (Spells d Nested h) (bars h) q ts → Begins (Spells d Nested both) (bars both) p ts
    unfolding Spells
    second_refused q a ts t begins follow k =
        let P = begins (λ b. follow (f a b)) (λ b os. left_no _ _ (k (f a b) os)) in
        let m = moved d Nested W g fine.0 opn.0 p q a t P.us (Free.same (P.same q.names)) in
        record { us = m.us; tail = P.tail; value = f a P.value; names = P.names; cut = joined m.cut P.cut; spelled = (a, P.value, with q.names P.us, m.spelled, P.spelled, refl); same = same_after m.keeps P.same }

    abbrev Goal : Answer Z → Type 0
    Goal x = Told (Spells d Nested both) (bars both) p x

    second_told : (q : Place) (a : X) → Spells d Nested g p a q → (q ≡ p) ⊎ (length q.rest < length p.rest) → (y : Answer Y) → Told (Spells d Nested h) (bars h) q y → Goal (y >>= λ v. Ok (f a v.0, v.1))
    second_told q a t w (Ok y) k = tt
    second_told q a t (inl z) (Err e) (inl m) = inl (m ∙ ap (λ (u : Place). u.rest) z)
    second_told q a t (inr l) (Err e) (inl m) = inr (second_none q a (rest_of e) t l m)
    second_told q a t w (Err e) (inr begins) = inr (second_refused q a (rest_of e) t begins)

    seq_told : (x : Answer X) → read d nested g p ≡ x → Told (Spells d Nested g) (bars g) p x → ((q : Place) → Told (Spells d Nested h) (bars h) q (read d nested h q)) → Goal (x >>= λ u. read d nested h u.1 >>= λ v. Ok (f u.0 v.0, v.1))
    seq_told (Err e) q (inl m) n = inl m
    seq_told (Err e) q (inr begins) n = inr (first_refused (rest_of e) begins)
    seq_told (Ok u) q m n = second_told u.1 u.0 (spelled_by g fine.0 p u.1 u.0 q) (reads_some g fine.0 p u.1 u.0 q) (read d nested h u.1) (n u.1)

  module _ {A : Type 0} (go : A → Sort → Bool) (weight : A → ℕ) (body : Sort → Form (A → A)) (fine : (x : Sort) → Fine (body x)) (opn : (x : Sort) → Open (body x)) (full : (x : Sort) → nullable (body x) ≡ false)
      (heads : (a : A) (x : Sort) → go a x ≡ true → starts (body x) x ≡ true) (more : Sort → Bool)
      (ends : (a : A) (x : Sort) → more x ≡ false → go a x ≡ false) (after : (x y : Sort) → more y ≡ false → bars (body x) y ≡ false)
      (V : (x : Sort) (p : Place) → (d ≡ 0 → nests (body x) ≡ false) → Told (Spells d Nested (body x)) (bars (body x)) p (read d nested (body x) p)) where
    abbrev run : Sort → Reader (A → A)
    run x q = guarded d (body x) q (read d nested (body x) q)

    abbrev Turns : A → Place → A → Place → Type 0
    Turns a p b q = Chain d go weight (λ x. Spells d Nested (body x)) b q a p

    -- a turn before a text of the rest
    turn_prefix : (a : A) (p q : Place) (f : A → A) (ts us tail : List Token) → go a (next p) ≡ true → weight a ≤ d → Spells d Nested (body (next p)) p f q → length q.rest < length p.rest → Free (bars (body (next p))) q us
        → (b : A) (names : Names) (follow : List Token) → Cut q.rest ts us tail → Turns (f a) (with q.names us) b (with names follow)
        → (vs : List Token) × Cut p.rest ts vs tail × Turns a (with p.names vs) b (with names follow) × ((ns : Names) → ahead ns vs ≡ ahead ns p.rest)
    turn_prefix a p q f ts us tail g w t l c b names follow cut k =
        let m = moved d Nested W (body (next p)) (fine (next p)) (opn (next p)) p q f t us c in
        let same : (ns : Names) → ahead ns m.us ≡ ahead ns p.rest = strictly l m.keeps in
        (m.us, joined m.cut cut, Chain.turn (rw (same p.names) g) w (subst (λ (x : Sort). Spells d Nested (body x) (with p.names m.us) f (with q.names us)) (sym (same p.names)) m.spelled) k, same)

    turn_told : (k : ℕ) (a : A) (p : Place) → go a (next p) ≡ true → weight a ≤ d → length p.rest ≤ k → ((f : A → A) (q : Place) → length q.rest < k → Told (Turns (f a)) more q (turns d go weight run k (f a) q))
        → (x : Answer (A → A)) → Moves true (length p.rest) x → Sound (λ f q. Spells d Nested (body (next p)) p f q) x → Told (Spells d Nested (body (next p))) (bars (body (next p))) p x
        → Told (Turns a) more p (x >>= λ y. turns d go weight run k (y.0 a) y.1)
    turn_told k a p g w le h (Err e) i j (inl z) = inl z
    turn_told k a p g w le h (Err e) i j (inr begins) = inr (λ follow c. (
        let x : Sort = next p in
        let P = begins (λ f ms. follow (f a) ms) (λ f ms. after x _ (c (f a) ms)) in
        record {
          us = P.us;
          tail = P.tail;
          value = P.value a;
          names = P.names;
          cut = P.cut;
          spelled = Chain.turn (rw (P.same p.names) g) w (subst (λ (y : Sort). Spells d Nested (body y) (with p.names P.us) P.value (with P.names (follow (P.value a) P.names))) (sym (P.same p.names)) P.spelled) (Chain.done (ends _ _ (c (P.value a) P.names)));
          same = P.same;
        }))
    turn_told k a p g w le h (Ok y) i j z =
        let f : A → A = y.0 in
        let q : Place = y.1 in
        let x : Sort = next p in
        let l : length q.rest < length p.rest = shorter true (length p.rest) f q refl i in
        let by : (u : Answer A) → Told (Turns (f a)) more q u → Told (Turns a) more p u = elim [
          | Ok v ↦ λ _. tt
          | Err e ↦ elim [
            | inl m ↦ inr (λ follow c. (
                let n = turn_prefix a p q f (rest_of e) (follow (f a) q.names) (follow (f a) q.names) g w j l (Free.free (after x _ (c (f a) q.names))) (f a) q.names (follow (f a) q.names) (subst (λ (ts : List Token). Cut q.rest ts (follow (f a) q.names) (follow (f a) q.names)) (sym m) Cut.here) (Chain.done (ends _ _ (c (f a) q.names))) in
                record { us = n.0; tail = follow (f a) q.names; value = f a; names = q.names; cut = n.1; spelled = n.2; same = n.3 }))
            | inr begins ↦ inr (λ follow c. (
                let P = begins follow c in
                let n = turn_prefix a p q f (rest_of e) P.us P.tail g w j l (Free.same (P.same q.names)) P.value P.names (follow P.value P.names) P.cut P.spelled in
                record { us = n.0; tail = P.tail; value = P.value; names = P.names; cut = n.1; spelled = n.2; same = n.3 }))
          ]
        ] in
        by (turns d go weight run k (f a) q) (h f q (omega arith))

    pub turns_told : (k : ℕ) (a : A) (p : Place) → length p.rest < k → Told (Turns a) more p (turns d go weight run k a p)
    turns_told zero a p l = absurd (omega arith)
    turns_told (suc k) a p l =
        let G : (A → A) × Place → Answer A = λ y. turns d go weight run k (y.0 a) y.1 in
        let x : Sort = next p in
        let light : (c : Bool) → nat_le (weight a) d ≡ c → go a x ≡ true → Told (Turns a) more p (cond c (run x p >>= G) (Err (Deep p.rest))) = elim [
          | true ↦ λ w g. turn_told k a p g (leb-true (weight a) d w) (omega arith) (λ f q i. turns_told k (f a) q i) (run x p)
              (strict d (body x) p (read d nested (body x) p) (heads a x g) (moves d nested N (body x) (fine x) p))
              (guarded_sound (λ f q. Spells d Nested (body x) p f q) d (body x) p (read d nested (body x) p) (sound d nested Nested N S (body x) (fine x) p))
              (guarded_told (Spells d Nested (body x)) (bars (body x)) (body x) p (read d nested (body x) p) (V x p))
          | false ↦ λ w g. inl refl
        ] in
        let by : (c : Bool) → go a x ≡ c → Told (Turns a) more p (cond c (cond (nat_le (weight a) d) (run x p >>= G) (Err (Deep p.rest))) (Ok (a, p))) = elim [
          | true ↦ λ g. light (nat_le (weight a) d) refl g
          | false ↦ λ g. tt
        ] in
        by (go a x) refl

  module _ {A : Type 0} (may : Sort → Bool) (fits : A → Sort → Bool) (weight : A → ℕ) (g : Form A) (body : Sort → Form (A → A)) (fine : Fine (Form.loop may fits weight g body)) (opn : Open (Form.loop may fits weight g body)) (p : Place)
      (V : (x : Sort) (p : Place) → (d ≡ 0 → nests (body x) ≡ false) → Told (Spells d Nested (body x)) (bars (body x)) p (read d nested (body x) p)) where
    abbrev whole : Form A
    whole = Form.loop may fits weight g body

    abbrev Rest : A → Place → A → Place → Type 0
    Rest a q b u = Chain d (goes may fits) weight (λ x. Spells d Nested (body x)) b u a q

    stops : (a : A) (x : Sort) → bars whole x ≡ false → goes may fits a x ≡ false
    stops a x h = rw (left_no (may x) _ h) refl

    clear : (x : Sort) → bars whole x ≡ false → bars g x ≡ false
    clear x h = left_no (bars g x) _ (right_no (may x) _ h)

    head_refused : (ts : List Token) → Begins (Spells d Nested g) (bars g) p ts → Begins (Spells d Nested whole) (bars whole) p ts
    unfolding Spells
    head_refused ts begins follow k =
        let P = begins follow (λ a ms. clear _ (k a ms)) in
        record { us = P.us; tail = P.tail; value = P.value; names = P.names; cut = P.cut; spelled = (P.value, with P.names (follow P.value P.names), P.spelled, Chain.done (stops _ _ (k P.value P.names))); same = P.same }

    turns_none : (q : Place) (a : A) (ts : List Token) → Spells d Nested g p a q → length q.rest < length p.rest → ts ≡ q.rest → Begins (Spells d Nested whole) (bars whole) p ts
    unfolding Spells
    turns_none q a ts t l e follow k =
        let us : List Token = follow a q.names in
        let m = moved d Nested W g fine.0 opn.0 p q a t us (Free.free (clear _ (k a q.names))) in
        record { us = m.us; tail = us; value = a; names = q.names; cut = subst (λ (xs : List Token). Cut p.rest xs m.us us) (sym e) m.cut; spelled = (a, with q.names us, m.spelled, Chain.done (stops _ _ (k a q.names))); same = strictly l m.keeps }

    turns_refused : (q : Place) (a : A) (ts : List Token) → Spells d Nested g p a q → length q.rest < length p.rest → Begins (Rest a) (bars whole) q ts → Begins (Spells d Nested whole) (bars whole) p ts
    unfolding Spells
    turns_refused q a ts t l begins follow k =
        let P = begins follow k in
        let m = moved d Nested W g fine.0 opn.0 p q a t P.us (Free.same (P.same q.names)) in
        record { us = m.us; tail = P.tail; value = P.value; names = P.names; cut = joined m.cut P.cut; spelled = (a, with q.names P.us, m.spelled, P.spelled); same = strictly l m.keeps }

    rest_told : (q : Place) (a : A) → Spells d Nested g p a q → length q.rest < length p.rest → (y : Answer A) → Told (Rest a) (bars whole) q y → Told (Spells d Nested whole) (bars whole) p y
    rest_told q a t l (Ok y) k = tt
    rest_told q a t l (Err e) (inl m) = inr (turns_none q a (rest_of e) t l m)
    rest_told q a t l (Err e) (inr begins) = inr (turns_refused q a (rest_of e) t l begins)

    loop_told : (x : Answer A) → read d nested g p ≡ x → Told (Spells d Nested g) (bars g) p x
        → Told (Spells d Nested whole) (bars whole) p (x >>= λ u. turns d (goes may fits) weight (λ y q. guarded d (body y) q (read d nested (body y) q)) (suc (length u.1.rest)) u.0 u.1)
    loop_told (Err e) q (inl m) = inl m
    loop_told (Err e) q (inr begins) = inr (head_refused (rest_of e) begins)
    loop_told (Ok u) q m =
        rest_told u.1 u.0 (spelled_by g fine.0 p u.1 u.0 q) (reads_full g fine.0 fine.1 p u.1 u.0 q) (turns d (goes may fits) weight (λ y v. guarded d (body y) v (read d nested (body y) v)) (suc (length u.1.rest)) u.0 u.1)
        (turns_told (goes may fits) weight body fine.2 opn.1 fine.3 (λ a x h. fine.4 x (left_of (may x) _ h)) (bars whole) stops (λ x y h. any_at (λ w. bars (body w) y) (right_no (bars g y) _ (right_no (may y) _ h)) x) V (suc (length u.1.rest)) u.0 u.1 (omega arith))

  pub told : {A : Type 0} (g : Form A) → Fine g → Open g → (p : Place) → (d ≡ 0 → nests g ≡ false) → Told (Spells d Nested g) (bars g) p (read d nested g p)
  unfolding read Spells
  told (Form.empty a) fine opn p c = tt
  told Form.none fine opn p c = inl refl
  told (Form.token x f) fine opn p c = token_told x f p.names p.rest
  told (Form.seq f g h) fine opn p c =
      seq_told f g h fine opn p c (read d nested g p) refl (told g fine.0 opn.0 p (λ z. or_left (nests g) (nests h) (d ≡ 0) c z)) (λ q. told h fine.1 opn.1 q (λ z. or_right (nests g) (nests h) (d ≡ 0) c z))
  told (Form.by {A = A} f) fine opn p c =
      let x : Sort = next p in
      guarded_told (Spells d Nested (Form.by f)) (bars (Form.by f)) (f x) p (read d nested (f x) p) (λ z. on (read d nested (f x) p) (told (f x) (fine.0 x) (opn x) p z))
    where
      on : (y : Answer A) → Told (Spells d Nested (f (next p))) (bars (f (next p))) p y → Told (Spells d Nested (Form.by f)) (bars (Form.by f)) p y
      on (Ok y) t = tt
      on (Err e) (inl w) = inl w
      on (Err e) (inr begins) = inr (λ follow k. (
          let P = begins follow (λ a ms. any_at (λ w. bars (f w) (ahead ms (follow a ms))) (k a ms) (next p)) in
          record { us = P.us; tail = P.tail; value = P.value; names = P.names; cut = P.cut; spelled = subst (λ (w : Sort). Spells d Nested (f w) (with p.names P.us) P.value (with P.names (follow P.value P.names))) (sym (P.same p.names)) P.spelled; same = P.same }))
  told (Form.sub k f) fine opn p c =
      told_map (Nested k) (Spells d Nested (Form.sub k f)) (stay k) (stay k) p (nested k p) (λ x. Ok (f x.0, x.1)) (λ y. tt)
      (λ ts begins follow z. (let P = begins (λ a. follow (f a)) (λ a. z (f a)) in record { us = P.us; tail = P.tail; value = f P.value; names = P.names; cut = P.cut; spelled = (P.value, P.spelled, refl); same = P.same })) (T k p)
  told (Form.maybe {A = A} g a) fine opn p c =
      let by : (b : Bool) → starts g (next p) ≡ b → Told (Spells d Nested (Form.maybe g a)) (bars (Form.maybe g a)) p (cond b (guarded d g p (read d nested g p)) (Ok (a, p))) = elim [
        | true ↦ λ e. guarded_told (Spells d Nested (Form.maybe g a)) (bars (Form.maybe g a)) g p (read d nested g p) (λ z. on e (read d nested g p) (told g fine.0 opn p z))
        | false ↦ λ e. tt
      ] in
      by (starts g (next p)) refl
    where
      on : starts g (next p) ≡ true → (y : Answer A) → Told (Spells d Nested g) (bars g) p y → Told (Spells d Nested (Form.maybe g a)) (bars (Form.maybe g a)) p y
      on e (Ok y) t = tt
      on e (Err w) (inl z) = inl z
      on e (Err w) (inr begins) = inr (λ follow k. (
          let P = begins follow (λ b ms. right_no (starts g _) _ (k b ms)) in
          let z : starts g (ahead p.names P.us) ≡ true = rw (P.same p.names) e in
          record { us = P.us; tail = P.tail; value = P.value; names = P.names; cut = P.cut; spelled = rw z P.spelled; same = P.same }))
  told (Form.many {A = A} go a body) fine opn p c =
      turns_told (λ _ x. go x) (λ _. 0) body fine.0 opn fine.1 (λ _ x. fine.2 x) (bars (Form.many go a body)) (λ _ x h. left_no _ _ h) (λ x y h. any_at (λ w. bars (body w) y) (right_no (go y) _ h) x)
      (λ x q z. told (body x) (fine.0 x) (opn x) q z) (suc (length p.rest)) a p (omega arith)
  told (Form.loop {A = A} may fits weight g body) fine opn p c =
      loop_told may fits weight g body fine opn p (λ x q z. told (body x) (fine.2 x) (opn.1 x) q z) (read d nested g p) refl (told g fine.0 opn.0 p c)
  told (Form.declare {A = A} f g) fine opn p c =
      told_map (Spells d Nested g) (Spells d Nested (Form.declare f g)) (bars g) (bars g) p (read d nested g p) (λ x. Ok (x.0, record { names = f x.0 x.1.names; rest = x.1.rest })) (λ y. tt)
      (λ ts begins follow z. (
      let P = begins (λ a ms. follow a (f a ms)) (λ a ms. across (bars g) opn.1 opn.2 (f a ms) ms (follow a (f a ms)) (z a (f a ms))) in
      record { us = P.us; tail = P.tail; value = P.value; names = f P.value P.names; cut = P.cut; spelled = (with P.names (follow P.value (f P.value P.names)), P.spelled, refl); same = P.same })) (told g fine.0 opn.0 p c)
  told (Form.scope {A = A} g) fine opn p c =
      told_map (Spells d Nested g) (Spells d Nested (Form.scope g)) (bars g) (bars g) p (read d nested g p) (λ x. Ok (x.0, record { names = p.names; rest = x.1.rest })) (λ y. tt)
      (λ ts begins follow z. (
      let P = begins (λ a ms. follow a p.names) (λ a ms. across (bars g) opn.1 opn.2 p.names ms (follow a p.names) (z a p.names)) in
      record { us = P.us; tail = P.tail; value = P.value; names = p.names; cut = P.cut; spelled = (with P.names (follow P.value p.names), P.spelled, refl); same = P.same })) (told g fine opn.0 p c)
