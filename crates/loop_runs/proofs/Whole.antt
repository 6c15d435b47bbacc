-- Loop runs are runs of the source.
use Rattle.std.proofs.Common.{◌≡◌, ◌≢◌, ℕ, zero, suc, ◌<◌, ◌≤◌, true, false, List, [], ◌∷◌, ◌++◌, Option, Some, None, refl, sym, ap, subst, ◌∙◌, ◌⊎◌, inl, inr, arith, append_assoc}
use Rattle.std.specs.Prelude.{is_some, IsNone}
use Rattle.std.proofs.lemmas.Bool.{false≢true}
use Rattle.mote_devices.specs.declared.state.BoardState.{BoardState}
use Rattle.core_meaning.specs.Source.{Source}
use Rattle.run_meaning.specs.declared.Move.{Move}
use Rattle.run_meaning.specs.declared.Move.TheVariants.{Arrive, Do, Enter, Leave, Start, Finish}
use Rattle.run_meaning.specs.State.{Context, State, start, new_context, is_inside}
use Rattle.run_meaning.specs.Runs.{AreLegal, after, after_all, shown_of, shown_by}
use Rattle.loop_runs.specs.Bodies.{Bodies, source}
use Rattle.loop_runs.specs.Kernel.{Queue, Stands, IsKernel}
use Rattle.loop_runs.specs.Loop.{LoopState, LoopMove, Plain, Calls, Pops, Takes, LegalLoop, AreLegalLoop, IsLoopRun, loop_start, after_loop, after_loop_all, shown_of_loop, shown_by_loop}
use Rattle.loop_runs.specs.Law.{LoopRuns}
use Rattle.loop_runs.specs.Steps.{CanFollow, Follows, HasPopped, IsArrival, IsAside, IsBeside, IsFollowed, IsFresh, IsPop, LoopsAreFollowed}
use Rattle.loop_runs.proofs.Phases.{Phase, IsWithin, left_in}
use Rattle.loop_runs.proofs.Phases as phase
use Rattle.loop_runs.proofs.Acting.{Pair, Shared, both_inside, inside_made}
use Rattle.loop_runs.proofs.Popping.{PopPhase, Before, During, After, PopPair, pop_found}
use Rattle.loop_runs.proofs.Like.{with_contexts, Like, Handling, Running, Popping, Free, Waiting, Nothing, Given, Empty, Behind, Suspended, Waits, PopShares, PopHas, fresh, inside_of, left_of, left_popping}
use Rattle.loop_runs.proofs.Loops.{low}
use Rattle.loop_runs.proofs.Moves.{gives_stuck, inside}
use Rattle.loop_runs.proofs.Following.{here, yes_no, none_yet, open_stands, same_some, step, waits_outside}

-- ---- runs that go on

after_all-append : (P : Source) (s : State) (a b : List Move) → after_all P s (a ++ b) ≡ after_all P (after_all P s a) b
after_all-append P s [] b = refl
after_all-append P s (m ∷ a) b = after_all-append P (after P s m) a b

shown_by-append : (P : Source) (s : State) (a b : List Move) → shown_by P s (a ++ b) ≡ shown_by P s a ++ shown_by P (after_all P s a) b
shown_by-append P s [] b = refl
shown_by-append P s (m ∷ a) b =
    ap (λ l. shown_of s m ++ l) (shown_by-append P (after P s m) a b) ∙ sym (append_assoc (shown_of s m) (shown_by P (after P s m) a) (shown_by P (after_all P (after P s m) a) b))

legal-append : (P : Source) (s : State) (a b : List Move) → AreLegal P s a → AreLegal P (after_all P s a) b → AreLegal P s (a ++ b)
legal-append P s [] b h k = k
legal-append P s (m ∷ a) b h k = (h.0, legal-append P (after P s m) a b h.1 k)

-- ---- from a relation that each move keeps

module _ (P K : Bodies) (pop : ℕ) (Q : Queue) (Rel : LoopState → State → ℕ → Type 0) (follows : Follows P K pop Q Rel) where
  pub can_follow : (n : ℕ) (s : LoopState) (r : State) (hidden : ℕ) → Rel s r hidden → CanFollow P K pop Q n s r hidden
  can_follow zero s r hidden h = follows.beside s r hidden h
  can_follow (suc n) s r hidden h = (follows.beside s r hidden h, λ m legal. let a = follows.step s r hidden m h legal in (a.0, a.1, a.2, can_follow n (after_loop K pop s m) (after_all (source P) r a.0) a.1 a.3))

  abbrev Followed : LoopState → State → List LoopMove → Type 0
  Followed s r moves = (ms : List Move) × (hidden : ℕ) × AreLegal (source P) r ms × (shown_by (source P) r ms ≡ shown_by_loop K pop s moves) × Rel (after_loop_all K pop s moves) (after_all (source P) r ms) hidden

  pub followed : (moves : List LoopMove) (s : LoopState) (r : State) (hidden : ℕ) → Rel s r hidden → AreLegalLoop K pop s moves → Followed s r moves
  followed [] s r hidden h legal = ([], hidden, tt, refl, h)
  followed (m ∷ moves) s r hidden h legal =
      let a = follows.step s r hidden m h legal.0 in
      let b = followed moves (after_loop K pop s m) (after_all (source P) r a.0) a.1 a.3 legal.1 in (
        a.0 ++ b.0,
        b.1,
        legal-append (source P) r a.0 b.0 a.2.legal b.2,
        shown_by-append (source P) r a.0 b.0 ∙ ap (λ l. l ++ shown_by (source P) (after_all (source P) r a.0) b.0) a.2.shown ∙ ap (λ l. shown_of_loop K pop s m ++ l) b.3,
        subst (λ x. Rel (after_loop_all K pop (after_loop K pop s m) moves) x b.1) (sym (after_all-append (source P) r a.0 b.0)) b.4,
      )

-- ---- what cannot be

differ : (k : ℕ) → k ≡ 255 → k < 255 → ⊥
differ k same lt = omega (arith, same, lt)

byte_most : (k : ℕ) → k < 255 → k ≤ 255
byte_most k lt = omega (arith, lt)

last_byte : (k : ℕ) → k ≡ 255 → k ≤ 255
last_byte k same = omega (arith, same)

none_is : {k : ℕ} → Some k ≡ None → ⊥
none_is h = cc

fresh_outside : (b : Option Context) → IsFresh b → is_inside b ≡ false
fresh_outside None h = refl
fresh_outside (Some c) h = ap inside_made h

module _ (P K : Bodies) (pop : ℕ) (Q : Queue) (kernel : IsKernel P K pop Q) where
  abbrev L : LoopState → State → Type 0
  L s r = Like P K pop Q kernel s r

  abbrev Sh : Phase → State → State → Type 0
  Sh ph s r = Shared P K pop Q kernel ph s r

  abbrev at : State → Option Context → Option Context → Option ℕ → LoopState
  at s b h g = here P K pop Q kernel s b h g

  abbrev W : Option ℕ → Option Context → List ℕ → Type 0
  W g b tasks = Waiting P K pop Q kernel g b tasks

  begins_alike : (b : BoardState) → L (loop_start K pop b) (start (source P) b)
  begins_alike b = Running phase.Plain (new_context (Some P.boot)) (new_context (Some P.boot)) (start (source P) b) (start (source P) b)
      (ap (λ x. at (start (source P) b) (Some (new_context (Some x))) None None) kernel.boot) refl (λ e. kernel.not_boot (same_some e))
      (record { board = refl; stopped = refl; same = λ a out. refl; queue = kernel.queue.empty })
      (fresh P K pop Q kernel phase.Plain (Some P.boot) (Some P.boot) (λ a. 0) [] (λ i. i) refl (none_yet P K pop Q kernel) kernel.boots) tt

  -- ---- what alike states have in common

  abbrev B : LoopState → State → ℕ → Type 0
  B s r hidden = IsBeside P K pop Q s r hidden

  by_equations : (s s' : LoopState) (r r' : State) (hidden : ℕ) → s ≡ s' → r ≡ r' → B s' r' hidden → B s r hidden
  by_equations s s' r r' hidden es er f = subst (λ x. B x r hidden) (sym es) (subst (λ y. B s' y hidden) (sym er) f)

  phase_some : (ph : Phase) → 1 ≤ left_in Q ph
  phase_some phase.Plain = omega arith
  phase_some phase.Ticked = omega arith
  phase_some (phase.Inner m) = omega arith
  phase_some phase.Ended = omega arith

  beside_running : (ph : Phase) (c2 c : Context) (s0 r0 : State) → (c2.body ≡ Some pop → ⊥) → Sh ph s0 r0 → Pair P K pop Q kernel ph s0.store r0.tasks c2 c → IsWithin Q ph → B (at s0 (Some c2) None None) (with_contexts r0 (Some c) None) (left_in Q ph)
  beside_running ph c2 c s0 r0 np k p y = record {
    low = low P K pop Q kernel (Running ph c2 c s0 r0 refl refl np k p y);
    stands = record {
      board = k.board;
      stopped = k.stopped;
      store = k.same;
      queue = λ out outside. open_stands P K pop Q kernel ph s0.store r0.tasks (inside_of P K pop Q kernel ph p out).0 k.queue;
      rest = λ free gave. yes_no free.no_base;
    };
    handlers = refl;
    aside = λ beside. absurd (np beside);
    inside = λ h. both_inside ph c2.made c.made p.counts h;
    gave = λ some. absurd (some refl);
    under = λ none into out. phase_some ph;
    popped = λ done m h. absurd (np done.0);
  }

  waiting_fresh : (g : Option ℕ) (b : Option Context) (tasks : List ℕ) → W g b tasks → IsFresh b
  waiting_fresh g b tasks (Nothing e eb) = subst IsFresh (sym eb) tt
  waiting_fresh g b tasks (Given k body e lt has eb) = subst IsFresh (sym eb) refl
  waiting_fresh g b tasks (Empty e eb none) = subst IsFresh (sym eb) tt

  beside_handling : (ph : Phase) (c2 c : Context) (s0 r0 : State) (b2 b : Option Context) (g : Option ℕ) → Sh ph s0 r0 → Pair P K pop Q kernel ph s0.store r0.tasks c2 c → Behind P K pop Q kernel b2 b None g → IsWithin Q ph → B (at s0 b2 (Some c2) g) (with_contexts r0 b (Some c)) (left_in Q ph)
  beside_handling ph c2 c s0 r0 b2 b g k p w y = record {
    low = low P K pop Q kernel (Handling ph c2 c s0 r0 b2 b g refl refl k p w y);
    stands = record {
      board = k.board;
      stopped = k.stopped;
      store = k.same;
      queue = λ out outside. open_stands P K pop Q kernel ph s0.store r0.tasks (inside_of P K pop Q kernel ph p outside).0 k.queue;
      rest = λ free gave. yes_no free.no_handler;
    };
    handlers = refl;
    aside = beside w;
    inside = into w;
    gave = gave w;
    under = λ none into out. yes_no none;
    popped = λ done m h. absurd (not_done w done);
  }
    where
      beside : Behind P K pop Q kernel b2 b None g → IsAside pop b2 → IsFresh b
      beside (Suspended ph' d2 d o np eb2 eb eg pa) h = absurd (np (subst (IsAside pop) eb2 h))
      beside (Waits eb2 x) h = waiting_fresh g b (0 ∷ []) x

      into : Behind P K pop Q kernel b2 b None g → is_inside b ≡ true → is_inside b2 ≡ true
      into (Suspended ph' d2 d o np eb2 eb eg pa) h = ap is_inside eb2 ∙ both_inside ph' d2.made d.made (pa s0.store r0.tasks).counts (ap is_inside (sym eb) ∙ h)
      into (Waits eb2 x) h = absurd (false≢true (sym (waits_outside P K pop Q kernel g b (0 ∷ []) x) ∙ h))

      gave : Behind P K pop Q kernel b2 b None g → g ≢ None → IsNone b2
      gave (Suspended ph' d2 d o np eb2 eb eg pa) some = absurd (some eg)
      gave (Waits eb2 x) some = ap is_some eb2

      not_done : Behind P K pop Q kernel b2 b None g → HasPopped pop b2 → ⊥
      not_done (Suspended ph' d2 d o np eb2 eb eg pa) h = np (subst (HasPopped pop) eb2 h).0
      not_done (Waits eb2 x) h = subst (HasPopped pop) eb2 h

  module _ (ph : PopPhase) (c2 : Context) (s0 r0 : State) (b : Option Context) (k : Sh (PopShares P K pop Q kernel ph) s0 r0) (p : PopPair K pop Q ph s0.store r0.tasks c2) (has : PopHas P K pop Q kernel ph b r0.tasks) where
    pop_fresh : IsFresh b
    pop_fresh = by ph has
      where
        by : (ph : PopPhase) → PopHas P K pop Q kernel ph b r0.tasks → IsFresh b
        by Before has = subst IsFresh (sym has) tt
        by (During m) has = subst IsFresh (sym has.0) tt
        by (After j) has = waiting_fresh (Some j) b r0.tasks has

    pop_stands : is_inside (Some c2) ≡ false → Stands Q s0.store r0.tasks
    pop_stands out = by ph k p
      where
        by : (ph : PopPhase) → Sh (PopShares P K pop Q kernel ph) s0 r0 → PopPair K pop Q ph s0.store r0.tasks c2 → Stands Q s0.store r0.tasks
        by Before k p = k.queue
        by (During m) k p = absurd (false≢true (sym out ∙ inside c2.made p.counts))
        by (After j) k p = k.queue

    pop_some : 1 ≤ left_popping P K pop Q kernel ph b r0.tasks has
    pop_some = by ph has
      where
        by : (ph : PopPhase) (has : PopHas P K pop Q kernel ph b r0.tasks) → 1 ≤ left_popping P K pop Q kernel ph b r0.tasks has
        by Before has = omega arith
        by (During m) has = omega arith
        by (After j) has = omega arith

    -- behind its statement pop does nothing more
    pop_last : HasPopped pop (Some c2) → (m : LoopMove) → LegalLoop K pop (at s0 (Some c2) None None) m → IsArrival m ⊎ IsPop m
    pop_last done (Plain (Arrive g)) h = inl tt
    pop_last done (Plain (Do a)) h = absurd (by ph p)
      where
        by : (ph : PopPhase) → PopPair K pop Q ph s0.store r0.tasks c2 → ⊥
        by Before p = done.1 p.counts
        by (During m) p = false≢true (sym done.2 ∙ inside c2.made p.counts)
        by (After j) p = let f = pop_found P K pop Q kernel p a h.0.1 in gives_stuck Q j f.1 a (p.rest f.0 f.1 f.2) f.3
    pop_last done (Plain (Enter v)) h = absurd (h.1 p.body)
    pop_last done (Plain Leave) h = absurd h.0.1
    pop_last done (Plain (Start j)) h = absurd h.1
    pop_last done (Plain Finish) h = absurd (h.1 p.body)
    pop_last done Calls h = yes_no h.0.no_base
    pop_last done (Pops j) h = inr tt
    pop_last done (Takes j) h = yes_no h.0.no_base

    beside_popping : B (at s0 (Some c2) None None) (with_contexts r0 b None) (left_popping P K pop Q kernel ph b r0.tasks has)
    beside_popping = record {
      low = low P K pop Q kernel (Popping ph c2 s0 r0 b refl refl k p has);
      stands = record {
        board = k.board;
        stopped = k.stopped;
        store = k.same;
        queue = λ out outside. pop_stands out;
        rest = λ free gave. yes_no free.no_base;
      };
      handlers = refl;
      aside = λ beside. pop_fresh;
      inside = λ h. absurd (false≢true (sym (fresh_outside b pop_fresh) ∙ h));
      gave = λ some. absurd (some refl);
      under = λ none into out. pop_some;
      popped = pop_last;
    }

  free_rests : (s0 r0 : State) (b : Option Context) (g : Option ℕ) → W g b r0.tasks → g ≡ Some 255 → (r0.tasks ≡ []) × IsNone b × IsNone (with_contexts r0 b None).handler
  free_rests s0 r0 b g (Nothing e eb) h = absurd (none_is (sym h ∙ e))
  free_rests s0 r0 b g (Given k body e lt has eb) h = absurd (differ k (same_some (sym e ∙ h)) lt)
  free_rests s0 r0 b g (Empty e eb none) h = (none, ap is_some eb, refl)

  beside_free : (s0 r0 : State) (b : Option Context) (g : Option ℕ) (k : Sh phase.Plain s0 r0) (w : W g b r0.tasks) → B (at s0 None None g) (with_contexts r0 b None) (left_of P K pop Q kernel (Free s0 r0 b g refl refl k w))
  beside_free s0 r0 b g k w = record {
    low = low P K pop Q kernel (Free s0 r0 b g refl refl k w);
    stands = record {
      board = k.board;
      stopped = k.stopped;
      store = k.same;
      queue = λ out outside. k.queue;
      rest = λ free gave. free_rests s0 r0 b g w gave;
    };
    handlers = refl;
    aside = λ beside. waiting_fresh g b r0.tasks w;
    inside = λ h. absurd (false≢true (sym (waits_outside P K pop Q kernel g b r0.tasks w) ∙ h));
    gave = λ some. refl;
    under = λ none into out. absurd (false≢true into);
    popped = λ done m h. absurd done;
  }

  beside_of : (s : LoopState) (r : State) (like : L s r) → B s r (left_of P K pop Q kernel like)
  beside_of s r (Running ph c2 c s0 r0 es er np k p y) = by_equations s _ r _ _ es er (beside_running ph c2 c s0 r0 np k p y)
  beside_of s r (Handling ph c2 c s0 r0 b2 b g es er k p w y) = by_equations s _ r _ _ es er (beside_handling ph c2 c s0 r0 b2 b g k p w y)
  beside_of s r (Popping ph c2 s0 r0 b es er k p has) = by_equations s _ r _ _ es er (beside_popping ph c2 s0 r0 b k p has)
  beside_of s r (Free s0 r0 b g es er k w) = by_equations s _ r _ _ es er (beside_free s0 r0 b g k w)

  -- ---- the relation

  -- alike, with so many moves that may come before one of the source's
  abbrev pub Beside : LoopState → State → ℕ → Type 0
  Beside s r hidden = (like : L s r) × (hidden ≡ left_of P K pop Q kernel like)

  pub beside_follows : Follows P K pop Q Beside
  beside_follows = record {
    first = λ b. (left_of P K pop Q kernel (begins_alike b), (begins_alike b, refl));
    beside = λ s r hidden h. subst (B s r) (sym h.1) (beside_of s r h.0);
    step = λ s r hidden m h legal.
        let a = step P K pop Q kernel s r m h.0 legal in
        (a.0, left_of P K pop Q kernel a.1, subst (λ n. IsFollowed P K pop Q s m r a.0 n (left_of P K pop Q kernel a.1)) (sym h.1) a.2, (a.1, refl));
  }

  -- ---- what pop gives

  gave_byte : (s : LoopState) (r : State) (k : ℕ) → L s r → s.gave ≡ Some k → k ≤ 255
  gave_byte s r k (Running ph c2 c s0 r0 es er np sh p y) e = absurd (none_is (sym e ∙ ap (λ (x : LoopState). x.gave) es))
  gave_byte s r k (Popping ph c2 s0 r0 b es er sh p has) e = absurd (none_is (sym e ∙ ap (λ (x : LoopState). x.gave) es))
  gave_byte s r k (Free s0 r0 b g es er sh w) e = waiting_byte g b r0.tasks k w (sym (ap (λ (x : LoopState). x.gave) es) ∙ e)
    where
      waiting_byte : (g : Option ℕ) (b : Option Context) (tasks : List ℕ) (k : ℕ) → W g b tasks → g ≡ Some k → k ≤ 255
      waiting_byte g b tasks k (Nothing e eb) h = absurd (none_is (sym h ∙ e))
      waiting_byte g b tasks k (Given j body e lt has eb) h = byte_most k (subst (λ i. i < 255) (same_some (sym e ∙ h)) lt)
      waiting_byte g b tasks k (Empty e eb none) h = last_byte k (same_some (sym h ∙ e))
  gave_byte s r k (Handling ph c2 c s0 r0 b2 b g es er sh p w y) e = by w
    where
      given : g ≡ Some k
      given = sym (ap (λ (x : LoopState). x.gave) es) ∙ e

      waiting_byte : W g b (0 ∷ []) → k ≤ 255
      waiting_byte (Nothing e' eb) = absurd (none_is (sym given ∙ e'))
      waiting_byte (Given j body e' lt has eb) = byte_most k (subst (λ i. i < 255) (same_some (sym e' ∙ given)) lt)
      waiting_byte (Empty e' eb none) = last_byte k (same_some (sym given ∙ e'))

      by : Behind P K pop Q kernel b2 b None g → k ≤ 255
      by (Suspended ph' d2 d o np eb2 eb eg pa) = absurd (none_is (sym given ∙ eg))
      by (Waits eb2 x) = waiting_byte x

  byte_behind : (moves : List LoopMove) (s : LoopState) (r : State) (k : ℕ) → L s r → AreLegalLoop K pop s (moves ++ Pops k ∷ []) → k ≤ 255
  byte_behind [] s r k like legal = let a = step P K pop Q kernel s r (Pops k) like legal.0 in gave_byte (after_loop K pop s (Pops k)) (after_all (source P) r a.0) k a.1 refl
  byte_behind (m ∷ moves) s r k like legal = let a = step P K pop Q kernel s r m like legal.0 in byte_behind moves (after_loop K pop s m) (after_all (source P) r a.0) k a.1 legal.1

  -- in no loop run pop gives more than a byte
  pub gives_byte : (b : BoardState) (moves : List LoopMove) (k : ℕ) → IsLoopRun K pop b (moves ++ Pops k ∷ []) → k ≤ 255
  gives_byte b moves k legal = byte_behind moves (loop_start K pop b) (start (source P) b) k (begins_alike b) legal

pub loop_runs : LoopRuns
loop_runs P K pop Q kernel b moves legal =
    let follows = beside_follows P K pop Q kernel in
    let first = follows.first b in
    let f = followed P K pop Q (Beside P K pop Q kernel) follows moves (loop_start K pop b) (start (source P) b) first.0 first.1 legal in
    record { r = f.0; run = f.2; shown = f.3; state = (follows.beside (after_loop_all K pop (loop_start K pop b) moves) (after_all (source P) (start (source P) b) f.0) f.1 f.4).stands }

pub loops_are_followed : LoopsAreFollowed
loops_are_followed P K pop Q kernel b n =
    let follows = beside_follows P K pop Q kernel in
    let first = follows.first b in
    (first.0, can_follow P K pop Q (Beside P K pop Q kernel) follows n (loop_start K pop b) (start (source P) b) first.0 first.1)
