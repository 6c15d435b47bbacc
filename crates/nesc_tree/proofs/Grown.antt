-- With more levels reading answers the same, but where there were too few: there it goes on.
use Rattle.std.proofs.Common.{◌≡◌, ℕ, zero, suc, ◌+◌, ◌≤◌, ◌<◌, Bool, true, false, cond, List, [], ◌∷◌, length, Ok, Err, refl, sym, subst, ◌∙◌, arith}
use Rattle.std.proofs.lemmas.Bool.{le-leb, leb-true, ltb-true}
use Rattle.std.specs.Prelude.{nat_le, nat_lt}
use Rattle.nm_base.specs.declared.token.Token.{Token}
use Rattle.nesc_tree.specs.declared.sorts.Sort.{Sort}
use Rattle.nesc_tree.specs.Sorts.{Names, sort, same_sort}
use Rattle.nesc_tree.specs.Phrase.{Phrase, Of, begins}
use Rattle.nesc_tree.specs.Form.{Form, Place, next, nullable, starts, goes}
use Rattle.nesc_tree.specs.Reading.{Syntax, Deep, ◌>>=◌, Answer, Reader, nests, stop, pass, short, guarded, turns, read, phrase}
use Rattle.nesc_tree.proofs.Fine.{Fine}
use Rattle.nesc_tree.proofs.Moves.{Moves, weaken, moves_then, moves, turns_moves, phrase_moves, left_of}
use Rattle.nesc_tree.proofs.Entered.{Past, Enough, past_then, guard_open, guarded_refused, refuses, enters, all_lead, leads, run, run_moves, turns_then, turn_past}

abbrev pub Grown : {A : Type 0} → ℕ → Answer A → (ℕ → Answer A) → Type 0
Grown d (Ok u) y = (e : ℕ) → d ≤ e → y e ≡ Ok u
Grown d (Err (Syntax ts)) y = (e : ℕ) → d ≤ e → y e ≡ Err (Syntax ts)
Grown d (Err (Deep ts)) y = Enough (length ts) y

same_grown : {A : Type 0} (d : ℕ) (x : Answer A) (y z : ℕ → Answer A) → Grown d x y → ((e : ℕ) → d ≤ e → z e ≡ y e) → Grown d x z
same_grown d (Ok u) y z h k = λ e l. k e l ∙ h e l
same_grown d (Err (Syntax ts)) y z h k = λ e l. k e l ∙ h e l
same_grown d (Err (Deep ts)) y z h k = (h.0 + d, λ e l. rw (k e (omega arith)) (h.1 e (omega arith)))

-- what is read behind, where it was reached
grown_then : {A B : Type 0} (d : ℕ) (x : Answer A) (y : ℕ → Answer A) (f : A × Place → Answer B) (g : ℕ → A × Place → Answer B) → Grown d x y → ((u : A × Place) → Grown d (f u) (λ e. g e u))
    → ((e : ℕ) (u : A × Place) → Moves false (length u.1.rest) (g e u)) → Grown d (x >>= f) (λ e. y e >>= g e)
grown_then d (Ok u) y f g h k m = same_grown d (f u) (λ e. g e u) (λ e. y e >>= g e) (k u) (λ e l. rw (h e l) refl)
grown_then d (Err (Syntax ts)) y f g h k m = λ e l. rw (h e l) refl
grown_then d (Err (Deep ts)) y f g h k m = (h.0, λ e l. past_then (length ts) (y e) (g e) (h.1 e l) (m e))

stays : {A : Type 0} (d : ℕ) (x : Answer A) → ((ts : List Token) → x ≡ Err (Deep ts) → ⊥) → Grown d x (λ e. x)
stays d (Ok u) h = λ e l. refl
stays d (Err (Syntax ts)) h = λ e l. refl
stays d (Err (Deep ts)) h = absurd (h ts refl)

token_grown : {A : Type 0} (d : ℕ) (x : Sort) (f : Token → A) (ns : Names) (ts : List Token) → Grown d (pass x f ns ts) (λ e. pass x f ns ts)
token_grown d x f ns [] = λ e l. refl
token_grown {A = A} d x f ns (t ∷ ts) =
    let G : Answer A → Type 0 = λ v. Grown d v (λ e. v) in
    let by : (b : Bool) → G (cond b (Ok (f t, record { names = ns; rest = ts })) (Err (Syntax (t ∷ ts)))) = elim [ true ↦ λ e l. refl | false ↦ λ e l. refl ] in
    by (same_sort x (sort ns t))

module _ (nested : ℕ → (p : Phrase) → Reader (Of p)) (N : (d : ℕ) (k : Phrase) (p : Place) → Moves (begins k (next p)) (length p.rest) (nested d k p))
    (R : (d : ℕ) (k : Phrase) (p : Place) → begins k (next p) ≡ false → nested d k p ≡ Err (Syntax p.rest))
    (rank : Phrase → ℕ) (r : ℕ) (H : (k : Phrase) → rank k < r → (p : Place) → begins k (next p) ≡ true → Enough (length p.rest) (λ d. nested d k p))
    (top : (k : Phrase) → nat_lt (rank k) r ≡ true)
    (d : ℕ) (G : (k : Phrase) (p : Place) → Grown d (nested d k p) (λ e. nested e k p)) where
  enough : {A : Type 0} (g : Form A) → Fine g → (p : Place) → starts g (next p) ≡ true → Enough (length p.rest) (λ e. read e (nested e) g p)
  enough g fine p h = enters nested N rank r H g fine (all_lead rank r top g) p h

  guarded_grown : {A : Type 0} (g : Form A) → Fine g → nullable g ≡ false → (p : Place) → Grown d (read d (nested d) g p) (λ e. read e (nested e) g p)
      → Grown d (guarded d g p (read d (nested d) g p)) (λ e. guarded e g p (read e (nested e) g p))
  guarded_grown {A = A} g fine full p h =
      let X : ℕ → Answer A = λ e. guarded e g p (read e (nested e) g p) in
      let begun : (b : Bool) → starts g (next p) ≡ b → Grown {A = A} 0 (Err (stop b p.rest)) X = elim [
        | true ↦ λ w. (let n = enough g fine p w in (suc n.0, λ e l. rw (guard_open e g p (read e (nested e) g p) (omega arith)) (n.1 e (omega arith))))
        | false ↦ λ w. λ e l. guarded_refused e (nested e) (N e) (R e) g p (read e (nested e) g p) w (refuses e (nested e) (N e) (R e) g fine full p w)
      ] in
      let few : (k : ℕ) → d ≡ k → Grown d (short d (starts g (next p)) p.rest k (read d (nested d) g p)) X = elim [
        | zero ↦ λ z. subst (λ (n : ℕ). Grown {A = A} n (Err (stop (starts g (next p)) p.rest)) X) (sym z) (begun (starts g (next p)) refl)
        | suc k ↦ λ z. same_grown d (read d (nested d) g p) (λ e. read e (nested e) g p) X h (λ e l. guard_open e g p (read e (nested e) g p) (omega arith))
      ] in
      let by : (b : Bool) → nests g ≡ b → Grown d (cond b (short d (starts g (next p)) p.rest d (read d (nested d) g p)) (read d (nested d) g p)) X = elim [
        | true ↦ λ w. few d refl
        | false ↦ λ w. same_grown d (read d (nested d) g p) (λ e. read e (nested e) g p) X h (λ e l. rw w refl)
      ] in
      by (nests g) refl

  module _ {A : Type 0} (go : A → Sort → Bool) (weight : A → ℕ) (body : Sort → Form (A → A)) (fine : (x : Sort) → Fine (body x)) (full : (x : Sort) → nullable (body x) ≡ false)
      (heads : (a : A) (x : Sort) → go a x ≡ true → starts (body x) x ≡ true)
      (V : (x : Sort) (p : Place) → Grown d (read d (nested d) (body x) p) (λ e. read e (nested e) (body x) p)) where
    abbrev Run : ℕ → Sort → Reader (A → A)
    Run e = run nested N e body

    -- one turn and those behind it
    turn_grown : (k m : ℕ) (a : A) (x : Answer (A → A)) (y : ℕ → Answer (A → A)) → m ≤ k → Moves true m x → Grown d x y → ((f : A → A) (q : Place) → length q.rest < k → Grown d (turns d go weight (Run d) k (f a) q) (λ e. turns e go weight (Run e) k (f a) q))
        → Grown d (x >>= λ u. turns d go weight (Run d) k (u.0 a) u.1) (λ e. y e >>= λ u. turns e go weight (Run e) k (u.0 a) u.1)
    turn_grown k m a x y l (Moves.ok {a = f} {q = q} i j) h t =
        let z = j refl in
        same_grown d (turns d go weight (Run d) k (f a) q) (λ e. turns e go weight (Run e) k (f a) q) (λ e. y e >>= λ u. turns e go weight (Run e) k (u.0 a) u.1) (t f q (omega arith)) (λ e w. rw (h e w) refl)
    turn_grown k m a x y l (Moves.syntax i j) h t = λ e w. rw (h e w) refl
    turn_grown k m a x y l (Moves.deep {ts = ts} i) h t = (h.0, λ e w. turns_then nested N go weight body fine heads e k (length ts) a (y e) (h.1 e w) (omega arith))

    pub turns_grown : (k : ℕ) (a : A) (p : Place) → length p.rest < k → Grown d (turns d go weight (Run d) k a p) (λ e. turns e go weight (Run e) k a p)
    turns_grown zero a p l = absurd (omega arith)
    turns_grown (suc k) a p l =
        let x : Sort = next p in
        let Y : ℕ → Answer A = λ e. turns e go weight (Run e) (suc k) a p in
        let more : ℕ → Answer A = λ e. (Run e x p >>= λ u. turns e go weight (Run e) k (u.0 a) u.1) in
        let ran : Grown d (Run d x p) (λ e. Run e x p) = guarded_grown (body x) (fine x) (full x) p (V x p) in
        let light : (b : Bool) → nat_le (weight a) d ≡ b → go a x ≡ true → Grown d (cond b (more d) (Err (Deep p.rest))) Y = elim [
          | true ↦ λ w g. same_grown d (more d) more Y (turn_grown k (length p.rest) a (Run d x p) (λ e. Run e x p) (omega arith) (run_moves nested N go weight body fine heads d a p g) ran (λ f q i. turns_grown k (f a) q i))
              (λ e i. (let v = leb-true (weight a) d w in rw (g, le-leb (weight a) e (omega arith)) refl))
          | false ↦ λ w g. (
              let n = enough (body x) (fine x) p (heads a x g) in
              (suc (n.0 + weight a), λ e i. turn_past nested N go weight body fine heads e k a p (omega arith) g (omega arith) (rw (guard_open e (body x) p (read e (nested e) (body x) p) (omega arith)) (n.1 e (omega arith)))))
        ] in
        let by : (b : Bool) → go a x ≡ b → Grown d (cond b (cond (nat_le (weight a) d) (more d) (Err (Deep p.rest))) (Ok (a, p))) Y = elim [
          | true ↦ λ g. light (nat_le (weight a) d) refl g
          | false ↦ λ g. λ e i. rw g refl
        ] in
        by (go a x) refl

  pub grown : {A : Type 0} (g : Form A) → Fine g → (p : Place) → Grown d (read d (nested d) g p) (λ e. read e (nested e) g p)
  unfolding read
  grown (Form.empty a) fine p = λ e l. refl
  grown Form.none fine p = λ e l. refl
  grown (Form.token x f) fine p = token_grown d x f p.names p.rest
  grown (Form.seq {A = A} {B = B} {C = C} f g k) fine p =
      let F : (e : ℕ) → A × Place → Answer C = λ e x. read e (nested e) k x.1 >>= λ y. Ok (f x.0 y.0, y.1) in
      grown_then d (read d (nested d) g p) (λ e. read e (nested e) g p) (F d) F (grown g fine.0 p)
      (λ u. grown_then d (read d (nested d) k u.1) (λ e. read e (nested e) k u.1) (λ y. Ok (f u.0 y.0, y.1)) (λ e y. Ok (f u.0 y.0, y.1)) (grown k fine.1 u.1) (λ y e l. refl) (λ e y. Moves.ok (omega arith) (λ v. absurd cc)))
      (λ e y. weaken _ false _ _ (moves_then _ _ (moves e (nested e) (N e) k fine.1 y.1) (λ z. Ok (f y.0 z.0, z.1)) (λ z. Moves.ok (omega arith) (λ v. absurd cc))) (omega arith) (λ v w. absurd cc))
  grown (Form.by f) fine p = guarded_grown (f (next p)) (fine.0 (next p)) (fine.1 (next p)) p (grown (f (next p)) (fine.0 (next p)) p)
  grown (Form.sub k f) fine p = grown_then d (nested d k p) (λ e. nested e k p) (λ x. Ok (f x.0, x.1)) (λ e x. Ok (f x.0, x.1)) (G k p) (λ y e l. refl) (λ e y. Moves.ok (omega arith) (λ v. absurd cc))
  grown (Form.maybe {A = A} g a) fine p =
      let X : ℕ → Answer A = λ e. guarded e g p (read e (nested e) g p) in
      let by : (b : Bool) → starts g (next p) ≡ b → Grown d (cond b (X d) (Ok (a, p))) (λ e. cond b (X e) (Ok (a, p))) = elim [
        | true ↦ λ w. guarded_grown g fine.0 fine.1 p (grown g fine.0 p)
        | false ↦ λ w. λ e l. refl
      ] in
      by (starts g (next p)) refl
  grown (Form.many {A = A} go a body) fine p =
      turns_grown (λ _ x. go x) (λ _. 0) body fine.0 fine.1 (λ _ x. fine.2 x) (λ x q. grown (body x) (fine.0 x) q) (suc (length p.rest)) a p (omega arith)
  grown (Form.loop {A = A} may fits weight g body) fine p =
      let T : (e : ℕ) → A × Place → Answer A = λ e x. turns e (goes may fits) weight (run nested N e body) (suc (length x.1.rest)) x.0 x.1 in
      let heads : (a : A) (x : Sort) → goes may fits a x ≡ true → starts (body x) x ≡ true = λ a x u. fine.4 x (left_of (may x) _ u) in
      grown_then d (read d (nested d) g p) (λ e. read e (nested e) g p) (T d) T (grown g fine.0 p)
      (λ u. turns_grown (goes may fits) weight body fine.2 fine.3 heads (λ x q. grown (body x) (fine.2 x) q) (suc (length u.1.rest)) u.0 u.1 (omega arith))
      (λ e y. weaken _ false _ _ (turns_moves e (goes may fits) weight (run nested N e body) (run_moves nested N (goes may fits) weight body fine.2 heads e) (suc (length y.1.rest)) y.0 y.1 (omega arith)) (omega arith) (λ v w. absurd cc))
  grown (Form.declare f g) fine p =
      grown_then d (read d (nested d) g p) (λ e. read e (nested e) g p) (λ x. Ok (x.0, record { names = f x.0 x.1.names; rest = x.1.rest })) (λ e x. Ok (x.0, record { names = f x.0 x.1.names; rest = x.1.rest })) (grown g fine.0 p) (λ y e l. refl)
      (λ e y. Moves.ok (omega arith) (λ v. absurd cc))
  grown (Form.scope g) fine p =
      grown_then d (read d (nested d) g p) (λ e. read e (nested e) g p) (λ x. Ok (x.0, record { names = p.names; rest = x.1.rest })) (λ e x. Ok (x.0, record { names = p.names; rest = x.1.rest })) (grown g fine p) (λ y e l. refl)
      (λ e y. Moves.ok (omega arith) (λ v. absurd cc))

-- at every number of levels, where phrases that others begin with are of a lower rank
module _ (production : (p : Phrase) → Form (Of p)) (fine : (p : Phrase) → Fine (production p)) (full : (p : Phrase) → nullable (production p) ≡ false) (table : (p : Phrase) (x : Sort) → begins p x ≡ starts (production p) x)
    (rank : Phrase → ℕ) (r : ℕ) (top : (k : Phrase) → nat_lt (rank k) r ≡ true) (lower : (k : Phrase) → leads rank (rank k) (production k) ≡ true) where
  phrase_refuses : (d : ℕ) (k : Phrase) (p : Place) → begins k (next p) ≡ false → phrase production d k p ≡ Err (Syntax p.rest)
  unfolding phrase
  phrase_refuses zero k p h = rw h refl
  phrase_refuses (suc d) k p h = refuses d (phrase production d) (phrase_moves production fine table d) (phrase_refuses d) (production k) (fine k) (full k) p (sym (table k (next p)) ∙ h)

  later : {A : Type 0} (m : ℕ) (y z : ℕ → Answer A) → ((d : ℕ) → z (suc d) ≡ y d) → Enough m y → Enough m z
  later {A = A} m y z h n = (suc n.0, by)
    where
      by : (d : ℕ) → suc n.0 ≤ d → Past m (z d)
      by zero l = absurd (omega arith)
      by (suc d) l = rw (h d) (n.1 d (omega arith))

  phrase_enters : (m : ℕ) (k : Phrase) → rank k < m → (p : Place) → begins k (next p) ≡ true → Enough (length p.rest) (λ d. phrase production d k p)
  unfolding phrase
  phrase_enters zero k l p h = absurd (omega arith)
  phrase_enters (suc m) k l p h =
      later (length p.rest) (λ d. read d (phrase production d) (production k) p) (λ d. phrase production d k p) (λ d. refl)
      (enters (phrase production) (phrase_moves production fine table) rank (rank k) (λ j i. phrase_enters m j (omega arith)) (production k) (fine k) (lower k) p (sym (table k (next p)) ∙ h))

  shifted : {A : Type 0} (d : ℕ) (x : Answer A) (y z : ℕ → Answer A) → ((e : ℕ) → z (suc e) ≡ y e) → Grown d x y → Grown (suc d) x z
  shifted {A = A} d (Ok u) y z h k = by
    where
      by : (e : ℕ) → suc d ≤ e → z e ≡ Ok u
      by zero l = absurd (omega arith)
      by (suc e) l = h e ∙ k e (omega arith)
  shifted {A = A} d (Err (Syntax ts)) y z h k = by
    where
      by : (e : ℕ) → suc d ≤ e → z e ≡ Err (Syntax ts)
      by zero l = absurd (omega arith)
      by (suc e) l = h e ∙ k e (omega arith)
  shifted d (Err (Deep ts)) y z h k = later (length ts) y z h k

  pub phrase_grown : (d : ℕ) (k : Phrase) (p : Place) → Grown d (phrase production d k p) (λ e. phrase production e k p)
  unfolding phrase
  phrase_grown zero k p =
      let by : (b : Bool) → begins k (next p) ≡ b → Grown {A = Of k} 0 (Err (stop b p.rest)) (λ e. phrase production e k p) = elim [
        | true ↦ λ w. phrase_enters r k (ltb-true (rank k) r (top k)) p w
        | false ↦ λ w. λ e l. phrase_refuses e k p w
      ] in
      by (begins k (next p)) refl
  phrase_grown (suc d) k p =
      shifted d (read d (phrase production d) (production k) p) (λ e. read e (phrase production e) (production k) p) (λ e. phrase production e k p) (λ e. refl)
      (grown (phrase production) (phrase_moves production fine table) phrase_refuses rank r (phrase_enters r) top d (phrase_grown d) (production k) (fine k) p)
