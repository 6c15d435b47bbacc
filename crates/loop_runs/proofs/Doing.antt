-- What one action of the kernel's program is in the source's run, case by case.
use Rattle.std.proofs.Common.{◌≡◌, ℕ, ◌+◌, ◌*◌, ◌/◌, ◌%◌, ◌==◌, Bool, true, false, cond, [], ◌∷◌, refl, sym, ap, subst, ◌∙◌}
use Rattle.std.proofs.lemmas.Bool.{eqb-true}
use Rattle.nm_base.specs.declared.action.Action.{Action}
use Rattle.nm_base.specs.declared.action.Action.TheVariants.{Load, Store, In, Out, Post, Begin, End, Tick, Fault}
use Rattle.mote_devices.specs.Board.{board_answer, board_read, board_write}
use Rattle.mote_devices.specs.declared.shown.Shown.TheVariants as shown
use Rattle.nm_base.specs.Behaviour.{is_begin, is_end}
use Rattle.run_meaning.specs.State.{State, loaded, stored}
use Rattle.run_meaning.specs.Runs.{answers_to, effect, shown_of_action}
use Rattle.queue_law.specs.Contract.{IsQueued}
use Rattle.loop_runs.specs.Bodies.{Bodies}
use Rattle.loop_runs.specs.Kernel.{Queue, IsKernel, IsApart, IsPlain}
use Rattle.loop_runs.proofs.Leads.{IsShaped}
use Rattle.loop_runs.proofs.Phases.{Phase, Plain, IsInner}
use Rattle.loop_runs.proofs.Acting.{Shared, sk, sp, QueueOk}

clash : {A : Type 0} → false ≡ true → A
clash h = absurd (bad h)
  where
    bad : false ≡ true → ⊥
    bad h = cc

pub fault_tick : (code : ℕ) → Fault code ≡ Tick → ⊥
fault_tick code h = cc

pub inner_not_end : (Q : Queue) (a : Action) → IsInner Q a → a ≡ End → ⊥
inner_not_end Q a h e = subst (IsInner Q) e h

pub inner_begin : (Q : Queue) (a : Action) → IsInner Q a → (is_begin a ≡ false) × (is_end a ≡ false)
inner_begin Q (Load x wide) h = (refl, refl)
inner_begin Q (Store x wide v) h = (refl, refl)
inner_begin Q Tick h = (refl, refl)
inner_begin Q _ h = absurd h

-- ---- effects

module _ (P K : Bodies) (pop : ℕ) (Q : Queue) (kernel : IsKernel P K pop Q) where
  same_loaded : (st st' : ℕ → ℕ) (x : ℕ) (wide : Bool) → ((a : ℕ) → Q.is_byte a ≡ false → st a ≡ st' a) → IsApart Q x wide → loaded st x wide ≡ loaded st' x wide
  same_loaded st st' x true h k = ap (λ y. y + 256 * st (x + 1)) (h x k.0) ∙ ap (λ y. st' x + 256 * y) (h (x + 1) (k.1 refl))
  same_loaded st st' x false h k = h x k.0

  abbrev cell : ℕ → Bool → ℕ → ℕ → ℕ → ℕ
  cell x wide v a y = stored (λ b. y) x wide v a

  apart_stored : (st : ℕ → ℕ) (x : ℕ) (wide : Bool) (v a : ℕ) → IsApart Q x wide → Q.is_byte a ≡ true → st a ≡ stored st x wide v a
  apart_stored st x wide v a k here = by_first (a == x) refl
    where
      other : (y : ℕ) → Q.is_byte y ≡ false → (a == y) ≡ true → ⊥
      other y no_byte e = clash (sym no_byte ∙ ap Q.is_byte (sym (eqb-true a y e)) ∙ here)

      by_second : (w t : Bool) → (a == x + 1) ≡ t → (w ≡ true → Q.is_byte (x + 1) ≡ false) → st a ≡ cond w (cond t (v / 256 % 256) (st a)) (st a)
      by_second true true e h = absurd (other (x + 1) (h refl) e)
      by_second true false e h = refl
      by_second false t e h = refl

      by_first : (t : Bool) → (a == x) ≡ t → st a ≡ cond t (v % 256) (cond wide (cond (a == x + 1) (v / 256 % 256) (st a)) (st a))
      by_first true e = absurd (other x k.0 e)
      by_first false e = by_second wide (a == x + 1) refl k.1

  queued_stored : (st : ℕ → ℕ) (x : ℕ) (wide : Bool) (v a : ℕ) → IsQueued Q.is_byte x wide → Q.is_byte a ≡ false → stored st x wide v a ≡ st a
  queued_stored st x wide v a k out = by_first (a == x) refl
    where
      other : (y : ℕ) → Q.is_byte y ≡ true → (a == y) ≡ true → ⊥
      other y byte e = clash (sym out ∙ ap Q.is_byte (eqb-true a y e) ∙ byte)

      by_second : (w t : Bool) → (a == x + 1) ≡ t → (w ≡ true → Q.is_byte (x + 1) ≡ true) → cond w (cond t (v / 256 % 256) (st a)) (st a) ≡ st a
      by_second true true e h = absurd (other (x + 1) (h refl) e)
      by_second true false e h = refl
      by_second false t e h = refl

      by_first : (t : Bool) → (a == x) ≡ t → cond t (v % 256) (cond wide (cond (a == x + 1) (v / 256 % 256) (st a)) (st a)) ≡ st a
      by_first true e = absurd (other x k.0 e)
      by_first false e = by_second wide (a == x + 1) refl k.1

  -- what a plain action does in both
  pub record Alike (s r : State) (a : Action) : Type 0 where
    pub answers : answers_to s a ≡ answers_to r a
    pub shown : shown_of_action s a ≡ shown_of_action r a
    pub shared : Shared P K pop Q kernel Plain (effect (sk P K pop Q kernel) s a) (effect (sp P K pop Q kernel) r a)
    pub shaped : IsShaped a (answers_to s a)

  pub alike : (s r : State) (a : Action) → IsPlain Q a → Shared P K pop Q kernel Plain s r → Alike s r a
  alike s r (Load x wide) h k = record { answers = ap (λ y. y ∷ []) (same_loaded s.store r.store x wide k.same h); shown = refl; shared = k; shaped = ((λ i. (_, refl)), λ i. absurd i) }
  alike s r (In p) h k = record {
    answers = ap (λ b. board_answer b p ∷ []) k.board;
    shown = ap (λ b. shown.In p (board_answer b p) ∷ []) k.board;
    shared = record { board = ap (λ b. board_read b p) k.board; stopped = k.stopped; same = k.same; queue = k.queue };
    shaped = ((λ i. (_, refl)), λ i. absurd i);
  }
  alike s r (Store x wide v) h k = record {
    answers = refl;
    shown = refl;
    shared = record {
      board = k.board;
      stopped = k.stopped;
      same = λ a out. ap (λ y. cond (a == x) (v % 256) (cond wide (cond (a == x + 1) (v / 256 % 256) y) y)) (k.same a out);
      queue = kernel.queue.here s.store (stored s.store x wide v) r.tasks (λ a here. apart_stored s.store x wide v a h here) k.queue;
    };
    shaped = ((λ i. absurd i), λ i. refl);
  }
  alike s r (Out p v) h k = record {
    answers = refl;
    shown = refl;
    shared = record { board = ap (λ b. board_write b p v) k.board; stopped = k.stopped; same = k.same; queue = k.queue };
    shaped = ((λ i. absurd i), λ i. refl);
  }
  alike s r Begin h k = record { answers = refl; shown = refl; shared = k; shaped = ((λ i. absurd i), λ i. refl) }
  alike s r End h k = record { answers = refl; shown = refl; shared = k; shaped = ((λ i. absurd i), λ i. refl) }
  alike s r Tick h k = record { answers = refl; shown = refl; shared = k; shaped = ((λ i. absurd i), λ i. refl) }
  alike s r (Post q) h k = absurd h
  alike s r (Fault q) h k = absurd h

  -- what an action on the queue's bytes leaves
  pub inner_same : (ph ph' : Phase) (s r : State) (a : Action) → IsInner Q a → Shared P K pop Q kernel ph s r → QueueOk P K pop Q kernel ph' (effect (sk P K pop Q kernel) s a).store r.tasks → Shared P K pop Q kernel ph' (effect (sk P K pop Q kernel) s a) r
  inner_same ph ph' s r (Load x wide) h k q = record { board = k.board; stopped = k.stopped; same = k.same; queue = q }
  inner_same ph ph' s r (Store x wide v) h k q = record { board = k.board; stopped = k.stopped; same = λ a out. queued_stored s.store x wide v a h out ∙ k.same a out; queue = q }
  inner_same ph ph' s r Tick h k q = record { board = k.board; stopped = k.stopped; same = k.same; queue = q }
  inner_same ph ph' s r _ h k q = absurd h

  pub inner_shaped : (s : State) (a : Action) → IsInner Q a → IsShaped a (answers_to s a)
  inner_shaped s (Load x wide) h = ((λ i. (_, refl)), λ i. absurd i)
  inner_shaped s (Store x wide v) h = ((λ i. absurd i), λ i. refl)
  inner_shaped s Tick h = ((λ i. absurd i), λ i. refl)
  inner_shaped s _ h = absurd h

  pub inner_shown : (s : State) (a : Action) → IsInner Q a → shown_of_action s a ≡ []
  inner_shown s (Load x wide) h = refl
  inner_shown s (Store x wide v) h = refl
  inner_shown s Tick h = refl
  inner_shown s _ h = absurd h
