-- With enough levels, reading goes past a token that begins what is read; what does not begin is refused at once.
use Rattle.std.proofs.Common.{◌≡◌, ℕ, zero, suc, ◌≤◌, ◌<◌, Bool, true, false, cond, ◌&&◌, List, [], ◌∷◌, length, Ok, Err, refl, sym, subst, ◌∙◌, arith}
use Rattle.std.proofs.lemmas.Bool.{le-leb, ltb-true}
use Rattle.std.specs.Prelude.{nat_lt}
use Rattle.nm_base.specs.declared.token.Token.{Token}
use Rattle.nesc_tree.specs.declared.sorts.Sort.{Sort}
use Rattle.nesc_tree.specs.declared.sorts.Sort.TheVariants as s
use Rattle.nesc_tree.specs.Sorts.{Names, ahead, same_sort, sorts}
use Rattle.nesc_tree.specs.Phrase.{Phrase, Of, begins}
use Rattle.nesc_tree.specs.Form.{Form, Place, next, nullable, starts, either, goes}
use Rattle.nesc_tree.specs.Reading.{Fault, Syntax, ◌>>=◌, Answer, left_by, Reader, nests, pass, short, guarded, turns, read, all_of}
use Rattle.nesc_tree.proofs.Fine.{Fine}
use Rattle.nesc_tree.proofs.Checked.{no, all_at}
use Rattle.nesc_tree.proofs.Moves.{Moves, weaken, moves_then, moves, strict, turns_moves, passes, left_of, right_of, not_left, not_both, second}

-- ---- what does not begin is refused at once

refused_then : {A B : Type 0} (x : Answer A) (f : A × Place → Answer B) (e : Fault) → x ≡ Err e → (x >>= f) ≡ Err e
refused_then x f e h = rw h refl

passed_then : {A B : Type 0} (x : Answer A) (f : A × Place → Answer B) (a : A) (p : Place) → x ≡ Ok (a, p) → (x >>= f) ≡ f (a, p)
passed_then x f a p h = rw h refl

module _ (d : ℕ) (nested : (p : Phrase) → Reader (Of p)) (N : (k : Phrase) (p : Place) → Moves (begins k (next p)) (length p.rest) (nested k p))
    (R : (k : Phrase) (p : Place) → begins k (next p) ≡ false → nested k p ≡ Err (Syntax p.rest)) where
  short_refused : {A : Type 0} (b : Bool) (ts : List Token) (n : ℕ) (x : Answer A) → b ≡ false → x ≡ Err (Syntax ts) → short d b ts n x ≡ Err (Syntax ts)
  short_refused b ts zero x h e = rw h refl
  short_refused b ts (suc n) x h e = e

  pub guarded_refused : {A : Type 0} (g : Form A) (p : Place) (x : Answer A) → starts g (next p) ≡ false → x ≡ Err (Syntax p.rest) → guarded d g p x ≡ Err (Syntax p.rest)
  guarded_refused {A = A} g p x h e =
      let by : (b : Bool) → ◌≡◌ {A = Answer A} (cond b (short d (starts g (next p)) p.rest d x) x) (Err (Syntax p.rest)) = elim [ true ↦ short_refused (starts g (next p)) p.rest d x h e | false ↦ e ] in
      by (nests g)

  token_refused : {A : Type 0} (x : Sort) (f : Token → A) (ns : Names) (ts : List Token) → same_sort x (ahead ns ts) ≡ false → pass x f ns ts ≡ Err (Syntax ts)
  token_refused x f ns [] h = refl
  token_refused x f ns (t ∷ ts) h = rw h refl

  pub refuses : {A : Type 0} (g : Form A) → Fine g → nullable g ≡ false → (p : Place) → starts g (next p) ≡ false → read d nested g p ≡ Err (Syntax p.rest)
  unfolding read
  refuses (Form.empty a) fine n p h = absurd cc
  refuses Form.none fine n p h = refl
  refuses (Form.token x f) fine n p h = token_refused x f p.names p.rest h
  refuses (Form.seq {A = A} {B = B} {C = C} f g k) fine n p h =
      let F : A × Place → Answer C = λ x. read d nested k x.1 >>= λ y. Ok (f x.0 y.0, y.1) in
      let by : (b : Bool) → nullable g ≡ b → (read d nested g p >>= F) ≡ Err (Syntax p.rest) = elim [
        | true ↦ λ w. (
            let l = passes d nested N g fine.0 p w (not_left _ _ h) in
            let m : nullable k ≡ false = subst (λ (u : Bool). (u && nullable k) ≡ false) w n in
            passed_then (read d nested g p) F l.0 p l.1 ∙ refused_then (read d nested k p) (λ y. Ok (f l.0 y.0, y.1)) (Syntax p.rest) (refuses k fine.1 m p (not_both (starts g (next p)) (nullable g) (starts k (next p)) h w)))
        | false ↦ λ w. refused_then (read d nested g p) F (Syntax p.rest) (refuses g fine.0 w p (not_left _ _ h))
      ] in
      by (nullable g) refl
  refuses (Form.by f) fine n p h = guarded_refused (f (next p)) p (read d nested (f (next p)) p) h (refuses (f (next p)) (fine.0 (next p)) (fine.1 (next p)) p h)
  refuses (Form.sub k f) fine n p h = refused_then (nested k p) (λ x. Ok (f x.0, x.1)) (Syntax p.rest) (R k p h)
  refuses (Form.maybe g a) fine n p h = absurd cc
  refuses (Form.many go a body) fine n p h = absurd cc
  refuses (Form.loop may fits weight g body) fine n p h =
      refused_then (read d nested g p) (λ x. turns d (goes may fits) weight (λ y q. guarded d (body y) q (read d nested (body y) q)) (suc (length x.1.rest)) x.0 x.1) (Syntax p.rest) (refuses g fine.0 fine.1 p h)
  refuses (Form.declare f g) fine n p h = refused_then (read d nested g p) (λ x. Ok (x.0, record { names = f x.0 x.1.names; rest = x.1.rest })) (Syntax p.rest) (refuses g fine.0 fine.1 p h)
  refuses (Form.scope g) fine n p h = refused_then (read d nested g p) (λ x. Ok (x.0, record { names = p.names; rest = x.1.rest })) (Syntax p.rest) (refuses g fine n p h)

-- ---- past the first token

-- fewer than m tokens are left
abbrev pub Past : {A : Type 0} → ℕ → Answer A → Type 0
Past m x = length (left_by x) < m

pub left_moves : {A : Type 0} {b : Bool} {m : ℕ} {x : Answer A} → Moves b m x → length (left_by x) ≤ m
left_moves (Moves.ok l s) = l
left_moves (Moves.syntax l s) = l
left_moves (Moves.deep l) = l

-- what is read behind is past it too
pub past_then : {A B : Type 0} (m : ℕ) (x : Answer A) (f : A × Place → Answer B) → Past m x → ((y : A × Place) → Moves false (length y.1.rest) (f y)) → Past m (x >>= f)
past_then m (Ok y) f h k = let l = left_moves (k y) in omega arith
past_then m (Err e) f h k = h

-- the phrases that a text may begin with are of a lower rank
abbrev pub leads : (Phrase → ℕ) → ℕ → {A : Type 0} → Form A → Bool
leads rank r (Form.empty a) = true
leads rank r Form.none = true
leads rank r (Form.token x f) = true
leads rank r (Form.seq f g h) = leads rank r g && either (no (nullable g)) (leads rank r h)
leads rank r (Form.by f) = all_of (λ x. leads rank r (f x)) sorts
leads rank r (Form.sub p f) = nat_lt (rank p) r
leads rank r (Form.maybe g a) = leads rank r g
leads rank r (Form.many go a body) = all_of (λ x. leads rank r (body x)) sorts
leads rank r (Form.loop may fits weight g body) = leads rank r g
leads rank r (Form.declare f g) = leads rank r g
leads rank r (Form.scope g) = leads rank r g

all_true : (f : Sort → Bool) → ((x : Sort) → f x ≡ true) → (xs : List Sort) → all_of f xs ≡ true
all_true f h [] = refl
all_true f h (x ∷ xs) = rw (h x) (all_true f h xs)

-- where every phrase is of a lower rank
pub all_lead : (rank : Phrase → ℕ) (r : ℕ) → ((k : Phrase) → nat_lt (rank k) r ≡ true) → {A : Type 0} (g : Form A) → leads rank r g ≡ true
all_lead rank r h (Form.empty a) = refl
all_lead rank r h Form.none = refl
all_lead rank r h (Form.token x f) = refl
all_lead rank r h (Form.seq f g k) = rw (all_lead rank r h g, all_lead rank r h k) (or_true (no (nullable g)))
  where
    or_true : (b : Bool) → either b true ≡ true
    or_true true = refl
    or_true false = refl
all_lead rank r h (Form.by f) = all_true (λ x. leads rank r (f x)) (λ x. all_lead rank r h (f x)) sorts
all_lead rank r h (Form.sub p f) = h p
all_lead rank r h (Form.maybe g a) = all_lead rank r h g
all_lead rank r h (Form.many go a body) = all_true (λ x. leads rank r (body x)) (λ x. all_lead rank r h (body x)) sorts
all_lead rank r h (Form.loop may fits weight g body) = all_lead rank r h g
all_lead rank r h (Form.declare f g) = all_lead rank r h g
all_lead rank r h (Form.scope g) = all_lead rank r h g

-- a number of levels from which on the answer is past the place
abbrev pub Enough : {A : Type 0} → ℕ → (ℕ → Answer A) → Type 0
Enough m y = (n : ℕ) × ((d : ℕ) → n ≤ d → Past m (y d))

token_past : {A : Type 0} (x : Sort) (f : Token → A) (ns : Names) (ts : List Token) → same_sort x s.End ≡ false → same_sort x (ahead ns ts) ≡ true → Past (length ts) (pass x f ns ts)
token_past x f ns [] fine h = absurd cc
token_past x f ns (t ∷ ts) fine h = rw h (omega arith)

or_right : (a b : Bool) → either (no a) b ≡ true → a ≡ true → b ≡ true
or_right true b h w = h
or_right false b h w = absurd cc

pub guard_open : {A : Type 0} (d : ℕ) (g : Form A) (p : Place) (x : Answer A) → 1 ≤ d → guarded d g p x ≡ x
guard_open zero g p x l = absurd (omega arith)
guard_open {A = A} (suc d) g p x l =
    let by : (b : Bool) → ◌≡◌ {A = Answer A} (cond b (short (suc d) (starts g (next p)) p.rest (suc d) x) x) x = elim [ true ↦ refl | false ↦ refl ] in
    by (nests g)

module _ (nested : ℕ → (p : Phrase) → Reader (Of p)) (N : (d : ℕ) (k : Phrase) (p : Place) → Moves (begins k (next p)) (length p.rest) (nested d k p)) where
  abbrev pub run : {A : Type 0} → ℕ → (Sort → Form (A → A)) → Sort → Reader (A → A)
  run d body x q = guarded d (body x) q (read d (nested d) (body x) q)

  module _ {A : Type 0} (go : A → Sort → Bool) (weight : A → ℕ) (body : Sort → Form (A → A)) (fine : (x : Sort) → Fine (body x)) (heads : (a : A) (x : Sort) → go a x ≡ true → starts (body x) x ≡ true) where
    pub run_moves : (d : ℕ) (a : A) (p : Place) → go a (next p) ≡ true → Moves true (length p.rest) (run d body (next p) p)
    run_moves d a p g = strict d (body (next p)) p (read d (nested d) (body (next p)) p) (heads a (next p) g) (moves d (nested d) (N d) (body (next p)) (fine (next p)) p)

    pub turns_then : (d k m : ℕ) (a : A) (x : Answer (A → A)) → Past m x → m ≤ k → Past m (x >>= λ y. turns d go weight (run d body) k (y.0 a) y.1)
    turns_then d k m a (Ok y) h l = let z = left_moves (turns_moves d go weight (run d body) (run_moves d) k (y.0 a) y.1 (omega arith)) in omega arith
    turns_then d k m a (Err e) h l = h

    pub turn_past : (d k : ℕ) (a : A) (p : Place) → length p.rest ≤ k → go a (next p) ≡ true → weight a ≤ d → Past (length p.rest) (run d body (next p) p) → Past (length p.rest) (turns d go weight (run d body) (suc k) a p)
    turn_past d k a p l g w h = rw (g, le-leb (weight a) d w) (turns_then d k (length p.rest) a (run d body (next p) p) h l)

  module _ (rank : Phrase → ℕ) (r : ℕ) (H : (k : Phrase) → rank k < r → (p : Place) → begins k (next p) ≡ true → Enough (length p.rest) (λ d. nested d k p)) where
    opened : {A : Type 0} (g : Form A) (p : Place) → Enough (length p.rest) (λ d. read d (nested d) g p) → Enough (length p.rest) (λ d. guarded d g p (read d (nested d) g p))
    opened g p h = (suc h.0, λ d l. rw (guard_open d g p (read d (nested d) g p) (omega arith)) (h.1 d (omega arith)))

    pub enters : {A : Type 0} (g : Form A) → Fine g → leads rank r g ≡ true → (p : Place) → starts g (next p) ≡ true → Enough (length p.rest) (λ d. read d (nested d) g p)
    unfolding read
    enters (Form.empty a) fine e p h = absurd cc
    enters Form.none fine e p h = absurd cc
    enters (Form.token x f) fine e p h = (0, λ d l. token_past x f p.names p.rest fine h)
    enters (Form.seq {A = A} {B = B} {C = C} f g k) fine e p h =
        let F : (d : ℕ) → A × Place → Answer C = λ d x. read d (nested d) k x.1 >>= λ y. Ok (f x.0 y.0, y.1) in
        let M : (d : ℕ) (y : A × Place) → Moves false (length y.1.rest) (F d y) = λ d y. (
        weaken _ false _ _ (moves_then _ _ (moves d (nested d) (N d) k fine.1 y.1) (λ z. Ok (f y.0 z.0, z.1)) (λ z. Moves.ok (omega arith) (λ v. absurd cc))) (omega arith) (λ v w. absurd cc)) in
        let by : (b : Bool) → starts g (next p) ≡ b → Enough (length p.rest) (λ d. read d (nested d) g p >>= F d) = elim [
          | true ↦ λ w. (let n = enters g fine.0 (left_of _ _ e) p w in (n.0, λ d l. past_then (length p.rest) (read d (nested d) g p) (F d) (n.1 d l) (M d)))
          | false ↦ λ w. (
              let b = second (starts g (next p)) (nullable g) (starts k (next p)) h w in
              let n = enters k fine.1 (or_right (nullable g) _ (right_of (leads rank r g) _ e) b.0) p b.1 in (
                n.0,
                λ d l. (
                    let q = passes d (nested d) (N d) g fine.0 p b.0 w in
                    rw (passed_then (read d (nested d) g p) (F d) q.0 p q.1) (past_then (length p.rest) (read d (nested d) k p) (λ y. Ok (f q.0 y.0, y.1)) (n.1 d l) (λ y. Moves.ok (omega arith) (λ v. absurd cc)))),
              ))
        ] in
        by (starts g (next p)) refl
    enters (Form.by f) fine e p h = opened (f (next p)) p (enters (f (next p)) (fine.0 (next p)) (all_at (λ x. leads rank r (f x)) e (next p)) p h)
    enters (Form.sub k f) fine e p h = let n = H k (ltb-true (rank k) r e) p h in (n.0, λ d l. past_then (length p.rest) (nested d k p) (λ x. Ok (f x.0, x.1)) (n.1 d l) (λ y. Moves.ok (omega arith) (λ v. absurd cc)))
    enters (Form.maybe {A = A} g a) fine e p h =
        let n = opened g p (enters g fine.0 e p h) in
        (n.0, λ d l. subst (λ (c : Bool). Past {A = A} (length p.rest) (cond c (guarded d g p (read d (nested d) g p)) (Ok (a, p)))) (sym h) (n.1 d l))
    enters (Form.many {A = A} go a body) fine e p h =
        let x : Sort = next p in
        let n = opened (body x) p (enters (body x) (fine.0 x) (all_at (λ x. leads rank r (body x)) e x) p (fine.2 x h)) in
        (n.0, λ d l. turn_past (λ _ x. go x) (λ _. 0) body fine.0 (λ _ x. fine.2 x) d (length p.rest) a p (omega arith) h (omega arith) (n.1 d l))
    enters (Form.loop {A = A} may fits weight g body) fine e p h =
        let n = enters g fine.0 e p h in (
          n.0,
          λ d l. past_then (length p.rest) (read d (nested d) g p) (λ x. turns d (goes may fits) weight (run d body) (suc (length x.1.rest)) x.0 x.1) (n.1 d l)
              (λ y. weaken _ false _ _ (turns_moves d (goes may fits) weight (run d body) (run_moves (goes may fits) weight body fine.2 (λ a x u. fine.4 x (left_of (may x) _ u)) d) (suc (length y.1.rest)) y.0 y.1 (omega arith)) (omega arith) (λ v w. absurd cc)),
        )
    enters (Form.declare f g) fine e p h = let n = enters g fine.0 e p h in (n.0, λ d l. past_then (length p.rest) (read d (nested d) g p) (λ x. Ok (x.0, record { names = f x.0 x.1.names; rest = x.1.rest })) (n.1 d l) (λ y. Moves.ok (omega arith) (λ v. absurd cc)))
    enters (Form.scope g) fine e p h = let n = enters g fine e p h in (n.0, λ d l. past_then (length p.rest) (read d (nested d) g p) (λ x. Ok (x.0, record { names = p.names; rest = x.1.rest })) (n.1 d l) (λ y. Moves.ok (omega arith) (λ v. absurd cc)))
