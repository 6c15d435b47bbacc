-- Reading goes forward, and past a token that begins what is read.
use Rattle.std.proofs.Common.{◌≡◌, ℕ, zero, suc, ◌≤◌, ◌<◌, Bool, true, false, cond, ◌&&◌, List, [], ◌∷◌, length, Ok, Err, refl, sym, subst, arith}
use Rattle.std.specs.Prelude.{nat_le}
use Rattle.nm_base.specs.declared.token.Token.{Token}
use Rattle.nesc_tree.specs.declared.sorts.Sort.{Sort}
use Rattle.nesc_tree.specs.declared.sorts.Sort.TheVariants as s
use Rattle.nesc_tree.specs.Sorts.{Names, sort, ahead, same_sort}
use Rattle.nesc_tree.specs.Phrase.{Phrase, Of, begins}
use Rattle.nesc_tree.specs.Form.{Form, Place, next, nullable, starts, either, goes}
use Rattle.nesc_tree.specs.Reading.{Syntax, Deep, ◌>>=◌, Answer, Reader, nests, stop, pass, short, guarded, turns, read, phrase}
use Rattle.nesc_tree.proofs.Fine.{Fine}

-- the answer stands at most m tokens before the end, and fewer where the token began something
pub data Moves (some : Bool) (m : ℕ) {A : Type 0} : Answer A → Type 0 where
  ok : {a : A} {q : Place} → length q.rest ≤ m → (some ≡ true → length q.rest < m) → Moves some m (Ok (a, q))
  syntax : {ts : List Token} → length ts ≤ m → (some ≡ true → length ts < m) → Moves some m (Err (Syntax ts))
  deep : {ts : List Token} → length ts ≤ m → Moves some m (Err (Deep ts))

pub weaken : {A : Type 0} {x : Answer A} (b c : Bool) (k m : ℕ) → Moves b k x → k ≤ m → (c ≡ true → b ≡ false → k < m) → Moves c m x
weaken true c k m (Moves.ok le lt) w f = let g = lt refl in Moves.ok (omega arith) (λ e. omega arith)
weaken false c k m (Moves.ok le lt) w f = Moves.ok (omega arith) (λ e. let g = f e refl in omega arith)
weaken true c k m (Moves.syntax le lt) w f = let g = lt refl in Moves.syntax (omega arith) (λ e. omega arith)
weaken false c k m (Moves.syntax le lt) w f = Moves.syntax (omega arith) (λ e. let g = f e refl in omega arith)
weaken b c k m (Moves.deep le) w f = Moves.deep (omega arith)

-- what is read behind goes forward too
pub moves_then : {A B : Type 0} {x : Answer A} (b : Bool) (m : ℕ) → Moves b m x → (f : A × Place → Answer B) → ((y : A × Place) → Moves false (length y.1.rest) (f y)) → Moves b m (x >>= f)
moves_then b m (Moves.ok {a = a} {q = q} le lt) f h = weaken false b (length q.rest) m (h (a, q)) le (λ e _. lt e)
moves_then b m (Moves.syntax le lt) f h = Moves.syntax le lt
moves_then b m (Moves.deep le) f h = Moves.deep le

seq_moves : {A B : Type 0} (b n k : Bool) (p : Place) (x : Answer A) → Moves b (length p.rest) x → (f : A × Place → Answer B) → ((y : A × Place) → Moves false (length y.1.rest) (f y))
    → (b ≡ false → n ≡ true → (a : A) × (x ≡ Ok (a, p)) × Moves k (length p.rest) (f (a, p))) → Moves (either b (n && k)) (length p.rest) (x >>= f)
seq_moves true n k p x h f rest here = moves_then true _ h f rest
seq_moves false true k p x h f rest here = let z = here refl refl in rw z.1 z.2
seq_moves false false k p x h f rest here = moves_then false _ h f rest

abbrev put : {A : Type 0} → A → Place → Answer A
put a p = Ok (a, p)

seq_passes : {A B C : Type 0} (f : A → B → C) (a : A) (b : B) (p : Place) (x : Answer A) (y : Place → Answer B) → x ≡ put a p → y p ≡ put b p → (x >>= λ u. y u.1 >>= λ v. put (f u.0 v.0) v.1) ≡ put (f a b) p
seq_passes f a b p x y q r = rw q (rw r refl)

pub left_of : (a b : Bool) → (a && b) ≡ true → a ≡ true
left_of true b h = refl
left_of false b h = h

pub right_of : (a b : Bool) → (a && b) ≡ true → b ≡ true
right_of true b h = h
right_of false b h = absurd cc

pub not_left : (a b : Bool) → either a b ≡ false → a ≡ false
not_left true b h = h
not_left false b h = refl

pub not_both : (a b c : Bool) → either a (b && c) ≡ false → b ≡ true → c ≡ false
not_both true b c h k = absurd cc
not_both false true c h k = h
not_both false false c h k = absurd cc

pub second : (a b c : Bool) → either a (b && c) ≡ true → a ≡ false → (b ≡ true) × (c ≡ true)
second true b c h k = absurd cc
second false b c h k = (left_of b c h, right_of b c h)

token_moves : {A : Type 0} (x : Sort) (f : Token → A) (ns : Names) (ts : List Token) → same_sort x s.End ≡ false → Moves (same_sort x (ahead ns ts)) (length ts) (pass x f ns ts)
token_moves x f ns [] fine = Moves.syntax (omega arith) (λ e. absurd cc)
token_moves x f ns (t ∷ ts) fine =
    let by : (b : Bool) → Moves b (suc (length ts)) (cond b (Ok (f t, record { names = ns; rest = ts })) (Err (Syntax (t ∷ ts)))) = elim [ true ↦ Moves.ok (omega arith) (λ e. omega arith) | false ↦ Moves.syntax (omega arith) (λ e. absurd cc) ] in
    by (same_sort x (sort ns t))

module _ (spare : ℕ) where
  short_moves : {A : Type 0} (b : Bool) (p : Place) (n : ℕ) (x : Answer A) → Moves b (length p.rest) x → Moves b (length p.rest) (short spare b p.rest n x)
  short_moves true p zero x h = Moves.deep (omega arith)
  short_moves false p zero x h = Moves.syntax (omega arith) (λ e. absurd cc)
  short_moves b p (suc n) x h = h

  pub guarded_moves : {A : Type 0} (g : Form A) (p : Place) (x : Answer A) → Moves (starts g (next p)) (length p.rest) x → Moves (starts g (next p)) (length p.rest) (guarded spare g p x)
  guarded_moves {A = A} g p x h =
      let by : (b : Bool) → Moves (starts g (next p)) (length p.rest) (cond b (short spare (starts g (next p)) p.rest spare x) x) = elim [ true ↦ short_moves (starts g (next p)) p spare x h | false ↦ h ] in
      by (nests g)

  -- where the token begins the form
  pub strict : {A : Type 0} (g : Form A) (p : Place) (x : Answer A) → starts g (next p) ≡ true → Moves (starts g (next p)) (length p.rest) x → Moves true (length p.rest) (guarded spare g p x)
  strict g p x e h = subst (λ (b : Bool). Moves b (length p.rest) (guarded spare g p x)) e (guarded_moves g p x h)

  module _ {A : Type 0} (go : A → Sort → Bool) (weight : A → ℕ) (body : Sort → Reader (A → A))
      (k : (a : A) (p : Place) → go a (next p) ≡ true → Moves true (length p.rest) (body (next p) p)) where
    after : (n m : ℕ) (a : A) → ((f : A → A) (q : Place) → length q.rest < m → Moves (go (f a) (next q)) (length q.rest) (turns spare go weight body n (f a) q)) → (x : Answer (A → A)) → Moves true m x
        → Moves true m (x >>= λ y. turns spare go weight body n (y.0 a) y.1)
    after n m a h x (Moves.ok {a = f} {q = q} l s) = weaken (go (f a) (next q)) true (length q.rest) m (h f q (s refl)) l (λ e _. s refl)
    after n m a h x (Moves.syntax l s) = Moves.syntax l s
    after n m a h x (Moves.deep l) = Moves.deep l

    pub turns_moves : (n : ℕ) (a : A) (p : Place) → length p.rest < n → Moves (go a (next p)) (length p.rest) (turns spare go weight body n a p)
    turns_moves zero a p le = absurd (omega arith)
    turns_moves (suc n) a p le =
        let m = length p.rest in
        let F : (A → A) × Place → Answer A = λ x. turns spare go weight body n (x.0 a) x.1 in
        let light : (c : Bool) → go a (next p) ≡ true → Moves true m (cond c (body (next p) p >>= F) (Err (Deep p.rest))) = elim [
          | true ↦ λ e. after n m a (λ f q l. turns_moves n (f a) q (omega arith)) (body (next p) p) (k a p e)
          | false ↦ λ e. Moves.deep (omega arith)
        ] in
        let by : (b : Bool) → go a (next p) ≡ b → Moves b m (cond b (cond (nat_le (weight a) spare) (body (next p) p >>= F) (Err (Deep p.rest))) (Ok (a, p))) = elim [
          | true ↦ λ e. light (nat_le (weight a) spare) e
          | false ↦ λ e. Moves.ok (omega arith) (λ z. absurd cc)
        ] in
        by (go a (next p)) refl

  module _ (nested : (p : Phrase) → Reader (Of p)) (N : (k : Phrase) (p : Place) → Moves (begins k (next p)) (length p.rest) (nested k p)) where
    -- what may be left out and does not begin here reads nothing
    pub passes : {A : Type 0} (g : Form A) → Fine g → (p : Place) → nullable g ≡ true → starts g (next p) ≡ false → (a : A) × (read spare nested g p ≡ Ok (a, p))
    unfolding read
    passes (Form.empty a) fine p n b = (a, refl)
    passes Form.none fine p n b = absurd cc
    passes (Form.token x f) fine p n b = absurd cc
    passes (Form.seq f g h) fine p n b =
        let l = passes g fine.0 p (left_of _ _ n) (not_left _ _ b) in
        let r = passes h fine.1 p (right_of _ _ n) (not_both (starts g (next p)) (nullable g) (starts h (next p)) b (left_of _ _ n)) in
        (f l.0 r.0, seq_passes f l.0 r.0 p (read spare nested g p) (λ q. read spare nested h q) l.1 r.1)
    passes (Form.by f) fine p n b = absurd cc
    passes (Form.sub k f) fine p n b = absurd cc
    passes (Form.maybe g a) fine p n b = (a, rw b refl)
    passes (Form.many go a body) fine p n b = (a, rw b refl)
    passes (Form.loop may fits weight g body) fine p n b = absurd cc
    passes (Form.declare f g) fine p n b = let z = fine.1 in absurd cc
    passes (Form.scope g) fine p n b = let l = passes g fine p n b in (l.0, rw l.1 refl)

    pub moves : {A : Type 0} (g : Form A) → Fine g → (p : Place) → Moves (starts g (next p)) (length p.rest) (read spare nested g p)
    unfolding read
    moves (Form.empty a) fine p = Moves.ok (omega arith) (λ e. absurd cc)
    moves Form.none fine p = Moves.syntax (omega arith) (λ e. absurd cc)
    moves (Form.token x f) fine p = token_moves x f p.names p.rest fine
    moves (Form.seq {A = A} {B = B} {C = C} f g h) fine p =
        let F : A × Place → Answer C = λ x. read spare nested h x.1 >>= λ y. Ok (f x.0 y.0, y.1) in
        let rest : (y : A × Place) → Moves (starts h (next y.1)) (length y.1.rest) (F y) = λ y. moves_then _ _ (moves h fine.1 y.1) (λ z. Ok (f y.0 z.0, z.1)) (λ z. Moves.ok (omega arith) (λ e. absurd cc)) in
        seq_moves (starts g (next p)) (nullable g) (starts h (next p)) p (read spare nested g p) (moves g fine.0 p) F (λ y. weaken (starts h (next y.1)) false _ _ (rest y) (omega arith) (λ u v. absurd cc))
        (λ e n. let l = passes g fine.0 p n e in (l.0, l.1, rest (l.0, p)))
    moves (Form.by f) fine p = guarded_moves (f (next p)) p _ (moves (f (next p)) (fine.0 (next p)) p)
    moves (Form.sub k f) fine p = moves_then _ _ (N k p) _ (λ y. Moves.ok (omega arith) (λ e. absurd cc))
    moves (Form.maybe {A = A} g a) fine p =
        let by : (b : Bool) → starts g (next p) ≡ b → Moves b (length p.rest) (cond b (guarded spare g p (read spare nested g p)) (Ok (a, p))) = elim [
          | true ↦ λ e. strict g p (read spare nested g p) e (moves g fine.0 p)
          | false ↦ λ e. Moves.ok (omega arith) (λ z. absurd cc)
        ] in
        by (starts g (next p)) refl
    moves (Form.many {A = A} go a body) fine p =
        turns_moves (λ _ x. go x) (λ _. 0) (λ x q. guarded spare (body x) q (read spare nested (body x) q))
        (λ b q e. strict (body (next q)) q (read spare nested (body (next q)) q) (fine.2 (next q) e) (moves (body (next q)) (fine.0 (next q)) q)) (suc (length p.rest)) a p (omega arith)
    moves (Form.loop {A = A} may fits weight g body) fine p =
        moves_then _ _ (moves g fine.0 p) (λ x. turns spare (goes may fits) weight (λ y q. guarded spare (body y) q (read spare nested (body y) q)) (suc (length x.1.rest)) x.0 x.1)
        (λ y. weaken _ false _ _ (turns_moves (goes may fits) weight (λ x q. guarded spare (body x) q (read spare nested (body x) q))
        (λ b q e. strict (body (next q)) q (read spare nested (body (next q)) q) (fine.4 (next q) (left_of (may (next q)) _ e)) (moves (body (next q)) (fine.2 (next q)) q)) (suc (length y.1.rest)) y.0 y.1 (omega arith)) (omega arith) (λ u v. absurd cc))
    moves (Form.declare f g) fine p = moves_then _ _ (moves g fine.0 p) _ (λ y. Moves.ok (omega arith) (λ e. absurd cc))
    moves (Form.scope g) fine p = moves_then _ _ (moves g fine p) _ (λ y. Moves.ok (omega arith) (λ e. absurd cc))

-- at every number of levels
module _ (production : (p : Phrase) → Form (Of p)) (fine : (p : Phrase) → Fine (production p)) (table : (p : Phrase) (x : Sort) → begins p x ≡ starts (production p) x) where
  stop_moves : {A : Type 0} (b : Bool) (ts : List Token) → Moves b (length ts) {A = A} (Err (stop b ts))
  stop_moves true ts = Moves.deep (omega arith)
  stop_moves false ts = Moves.syntax (omega arith) (λ e. absurd cc)

  pub phrase_moves : (d : ℕ) (k : Phrase) (p : Place) → Moves (begins k (next p)) (length p.rest) (phrase production d k p)
  unfolding phrase
  phrase_moves zero k p = stop_moves (begins k (next p)) p.rest
  phrase_moves (suc d) k p = subst (λ (b : Bool). Moves b (length p.rest) (phrase production (suc d) k p)) (sym (table k (next p))) (moves d (phrase production d) (phrase_moves d) (production k) (fine k) p)
