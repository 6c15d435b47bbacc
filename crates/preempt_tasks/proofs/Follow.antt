-- A loop run that is read off the slots.
use Rattle.std.proofs.Common.{◌≡◌, ℕ, zero, suc, ◌+◌, ◌-◌, ◌≤◌, List, [], ◌++◌, length, take, Some, refl, sym, ap, subst, ◌∙◌, arith, append_assoc, append-nil, length-append}
use Rattle.nm_base.specs.declared.memory_map.TheConstants.{RAM_END}
use Rattle.mote_devices.specs.declared.state.BoardState.{BoardState}
use Rattle.mote_devices.specs.Board.{line_of}
use Rattle.mote_bus.specs.Mote.{Result}
use Rattle.preempt_core.specs.Law.{Bounds}
use Rattle.preempt_core.proofs.Follow.{take_front}
use Rattle.loop_runs.specs.Bodies.{Bodies}
use Rattle.loop_runs.specs.Loop.{LoopState, LoopMove, IsFree, IsLoopRun, after_loop_all, loop_start, shown_by_loop}
use Rattle.preempt_tasks.specs.Bodies.{Sizes, stack_of}
use Rattle.preempt_tasks.specs.Steps.{KeepsPace, IsLoopSlot}
use Rattle.preempt_tasks.specs.Law.{IsLoopOf}
use Rattle.preempt_tasks.proofs.Plain.{after_loop-append, shown_loop-append, legal_loop-append}

-- the moves of the first s slots
abbrev pub upto : (ℕ → List LoopMove) → ℕ → List LoopMove
upto moves zero = []
upto moves (suc s) = upto moves s ++ moves s

-- those of the slots from s on, k of them
abbrev pub between : (ℕ → List LoopMove) → ℕ → ℕ → List LoopMove
between moves s zero = []
between moves s (suc k) = between moves s k ++ moves (s + k)

pub upto-between : (moves : ℕ → List LoopMove) (s k : ℕ) → upto moves (s + k) ≡ upto moves s ++ between moves s k
upto-between moves s zero = let e : s + 0 ≡ s = omega arith in rw e (sym (append-nil (upto moves s)))
upto-between moves s (suc k) =
    let e : s + suc k ≡ suc (s + k) = omega arith in
    rw e (ap (λ l. l ++ moves (s + k)) (upto-between moves s k) ∙ append_assoc (upto moves s) (between moves s k) (moves (s + k)))

module _ (K : Bodies) (pop : ℕ) (z : Sizes) (b : BoardState) (m : ℕ → Result) (Rel : ℕ → LoopState → Bounds → Type 0) (f : KeepsPace K pop z b m Rel) where
  abbrev state_of : List LoopMove → LoopState
  state_of moves = after_loop_all K pop (loop_start K pop b) moves

  -- the moves of the first s slots, with what may still happen, and the relation at their end
  record So (s : ℕ) : Type 0 where
    so_far : List LoopMove
    bounds : Bounds
    related : Rel s (state_of so_far) bounds

  go_on : (s : ℕ) → So s → So (suc s)
  go_on s w =
      let t = f.step s (state_of w.so_far) w.bounds w.related in
      record {
        so_far = w.so_far ++ t.0;
        bounds = t.1;
        related = subst (λ (r : LoopState). Rel (suc s) r t.1) (sym (after_loop-append K pop (loop_start K pop b) w.so_far t.0)) t.2;
      }

  so : (s : ℕ) → So s
  so zero = record { so_far = []; bounds = f.from; related = f.first }
  so (suc s) = go_on s (so s)

  abbrev moves : ℕ → List LoopMove
  moves s = (f.step s (state_of (so s).so_far) (so s).bounds (so s).related).0

  abbrev bounds : ℕ → Bounds
  bounds s = (so s).bounds

  all_so_far : (s : ℕ) → upto moves s ≡ (so s).so_far
  unfolding so go_on
  all_so_far zero = refl
  all_so_far (suc s) = ap (λ l. l ++ moves s) (all_so_far s)

  related_at : (s : ℕ) → Rel s (state_of (upto moves s)) (bounds s)
  related_at s = subst (λ l. Rel s (state_of l) (bounds s)) (sym (all_so_far s)) (so s).related

  slot_at : (s : ℕ) → IsLoopSlot K pop z (state_of (upto moves s)) (moves s) (m s) (m (suc s)) (bounds s) (bounds (suc s))
  unfolding so go_on
  slot_at s = subst (λ l. IsLoopSlot K pop z (state_of l) (moves s) (m s) (m (suc s)) (bounds s) (bounds (suc s))) (sym (all_so_far s)) (f.step s (state_of (so s).so_far) (so s).bounds (so s).related).3

  run_upto : (n : ℕ) → IsLoopRun K pop b (upto moves n)
  run_upto zero = tt
  run_upto (suc n) = legal_loop-append K pop (loop_start K pop b) (upto moves n) (moves n) (run_upto n) (slot_at n).legal

  shown_upto : (n : ℕ) → shown_by_loop K pop (loop_start K pop b) (upto moves n) ≡ (m n).shown
  shown_upto zero = sym f.none
  shown_upto (suc n) =
      shown_loop-append K pop (loop_start K pop b) (upto moves n) (moves n)
      ∙ ap (λ l. l ++ shown_by_loop K pop (state_of (upto moves n)) (moves n)) (shown_upto n)
      ∙ sym (slot_at n).shown

  cut : (s n : ℕ) → s ≤ n → take (length (upto moves s)) (upto moves n) ≡ upto moves s
  cut s n le =
      let e : s + (n - s) ≡ n = omega arith in
      ap (λ k. take (length (upto moves s)) (upto moves k)) (sym e)
      ∙ ap (λ l. take (length (upto moves s)) l) (upto-between moves s (n - s))
      ∙ take_front (upto moves s) (between moves s (n - s))

  longer : (s n : ℕ) → s ≤ n → length (upto moves s) ≤ length (upto moves n)
  longer s n le =
      let e : s + (n - s) ≡ n = omega arith in
      let l = ap length (upto-between moves s (n - s)) in
      let l' = subst (λ k. length (upto moves k) ≡ length (upto moves s ++ between moves s (n - s))) e l in
      omega (arith, l', length-append (upto moves s) (between moves s (n - s)))

  pub loop_of : (n : ℕ) → IsLoopOf K pop b m n
  loop_of n = record {
    r = upto moves n;
    c = λ s. length (upto moves s);
    run = run_upto n;
    from_none = refl;
    rises = λ s t le within. longer s t le;
    to_all = refl;
    events = λ s le. ap (shown_by_loop K pop (loop_start K pop b)) (cut s n le) ∙ shown_upto s;
    rest = λ s le off. let h = f.rest s (state_of (upto moves s)) (bounds s) (related_at s) off in subst (λ l. IsFree (state_of l) × ((state_of l).gave ≡ Some 255)) (sym (cut s n le)) (h.0, h.1);
    wake = λ s le idle. ap (λ l. line_of (state_of l).run.board) (cut s n le) ∙ f.wake s (state_of (upto moves s)) (bounds s) (related_at s) idle;
  }

  pub deep_at : (n : ℕ) → RAM_END ≤ (m n).least + stack_of z
  deep_at n = f.deep n (state_of (upto moves n)) (bounds n) (related_at n)
