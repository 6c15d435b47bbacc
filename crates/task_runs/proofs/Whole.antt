-- A mote with the loop of tasks, slot after slot, and the run of the source that it follows.
use Rattle.std.proofs.Common.{◌≡◌, ◌≢◌, ℕ, zero, suc, ◌+◌, ◌*◌, ◌≤◌, ◌⊎◌, ⊎_elim, Bool, true, false, List, [], ◌∷◌, length, Option, Some, None, refl, sym, ap, ◌∙◌, arith, mul-add, ◌++◌}
use Rattle.std.specs.Prelude.{IsNone}
use Rattle.std.proofs.lemmas.Nat.{mul-le}
use Rattle.std.proofs.Math.Nat.{mul-le-mul_left}
use Rattle.mote_devices.specs.declared.state.BoardState.{BoardState}
use Rattle.mote_devices.specs.WordBoards.{IsWordBoard}
use Rattle.mote_devices.specs.Board.{line_of, with_closed_mask}
use Rattle.core_meaning.specs.Source.{Source}
use Rattle.run_meaning.specs.declared.Move.{Move}
use Rattle.run_meaning.specs.State.{Context, State, start, is_inside}
use Rattle.run_meaning.specs.Runs.{after_all}
use Rattle.run_meaning.specs.Steps.{Waits, StaysOutside}
use Rattle.mote_bus.specs.Mote.{Result, mote}
use Rattle.preempt_core.specs.Allowed.{AtRest}
use Rattle.preempt_core.specs.Law.{AreLow, Bounds, IsPrompt, IsSlot, Simulates}
use Rattle.preempt_core.proofs.Simulate.{simulated}
use Rattle.loop_runs.specs.Bodies.{Bodies, source}
use Rattle.loop_runs.specs.Kernel.{Queue}
use Rattle.loop_runs.specs.Loop.{LoopState, LoopMove, IsNotPop, after_loop_all, loop_start}
use Rattle.loop_runs.specs.Steps.{IsAside, Follows, most, own_moves}
use Rattle.loop_runs.proofs.Whole.{Beside, beside_follows}
use Rattle.preempt_tasks.specs.Bodies.{Sizes}
use Rattle.preempt_tasks.specs.Steps.{IsLoopSlot, IsSourceBody, KeepsPace, WaitsThrough, cost, gap, turn, turns_of}
use Rattle.preempt_tasks.proofs.Follow.{deep_at}
use Rattle.preempt_tasks.proofs.Places.{Setting}
use Rattle.preempt_tasks.proofs.Plain.{waits_head}
use Rattle.preempt_tasks.proofs.Whole as loops
use Rattle.task_runs.specs.Law.{LoopsRunAsSource, needed, step_of, stretch_of}
use Rattle.task_runs.proofs.Kept.{aside_all, base_is, body_all, body_not_pop, not_both, pop_is_aside, stays_out, still_all}
use Rattle.task_runs.proofs.Following.{Followed, follow, own_few, shut_low, shut_moves}

not_so : false ≡ true → ⊥
not_so h = cc

module _ (P K : Bodies) (pop : ℕ) (Q : Queue) (z : Sizes) (pace : ℕ) (b : BoardState) (m : ℕ → Result) (RelK : ℕ → LoopState → Bounds → Type 0) (keeps : KeepsPace K pop z b m RelK)
    (RelF : LoopState → State → ℕ → Type 0) (F : Follows P K pop Q RelF) (enough : needed Q z ≤ pace) where
  abbrev S : Source
  S = source P

  abbrev pub top : ℕ
  top = stretch_of Q z

  -- ---- the instructions with the gate closed, outside of the source's atomic statements

  pub record IsShown (base : Option Context) : Type 0 where
    pub body : IsSourceBody pop base
    pub outside : is_inside base ≡ false

  -- in the statement of a post
  pub record IsPosting (base : Option Context) : Type 0 where
    pub body : IsSourceBody pop base
    pub inside : is_inside base ≡ true

  -- `away` instructions are left until a task starts, and `left` until the source's next move
  pub data IsClosed (base : Option Context) (closed left away value : ℕ) : Type 0 where
    Opened : closed ≡ 0 → value ≡ 0 → IsClosed base closed left away value
    Away : 1 ≤ closed → IsAside pop base → value ≡ away + 1 → IsClosed base closed left away value
    Posting : 1 ≤ closed → IsPosting base → value ≡ left + 1 → IsClosed base closed left away value
    Soon : closed ≡ 1 → IsShown base → value ≡ 1 → IsClosed base closed left away value
    Later : 2 ≤ closed → IsShown base → value ≡ top + closed → IsClosed base closed left away value

  closed_of : (base : Option Context) (closed left away : ℕ) → (value : ℕ) × IsClosed base closed left away value
  closed_of base zero left away = (0, Opened refl refl)
  closed_of base (suc c) left away = ⊎_elim (λ a. (away + 1, Away (omega arith) a refl)) (λ y. by_inside y (is_inside base) refl) (base_is pop base)
    where
      by_closed : (d : ℕ) → c ≡ d → IsShown base → (value : ℕ) × IsClosed base (suc c) left away value
      by_closed zero e h = (1, Soon (omega (arith, e)) h refl)
      by_closed (suc d) e h = (top + suc c, Later (omega (arith, e)) h refl)

      by_inside : IsSourceBody pop base → (t : Bool) → is_inside base ≡ t → (value : ℕ) × IsClosed base (suc c) left away value
      by_inside y true e = (left + 1, Posting (omega arith) (record { body = y; inside = e }) refl)
      by_inside y false e = by_closed c refl (record { body = y; outside = e })

  posting_not : (base : Option Context) → IsPosting base → IsShown base → ⊥
  posting_not base p h = not_so (sym h.outside ∙ p.inside)

  module _ (base : Option Context) (closed left away value : ℕ) where
    -- open is open
    closed_none : IsClosed base closed left away value → closed ≡ 0 → value ≡ 0
    closed_none (Opened e v) n = v
    closed_none (Away c h v) n = absurd (omega (arith, c, n))
    closed_none (Posting c h v) n = absurd (omega (arith, c, n))
    closed_none (Soon c h v) n = absurd (omega (arith, c, n))
    closed_none (Later c h v) n = absurd (omega (arith, c, n))

    closed_away : IsClosed base closed left away value → IsAside pop base → value ≤ away + 1
    closed_away (Opened e v) h = omega (arith, v)
    closed_away (Away c g v) h = omega (arith, v)
    closed_away (Posting c g v) h = absurd (not_both pop base h g.body)
    closed_away (Soon c g v) h = absurd (not_both pop base h g.body)
    closed_away (Later c g v) h = absurd (not_both pop base h g.body)

    closed_posting : IsClosed base closed left away value → IsPosting base → value ≤ left + 1
    closed_posting (Opened e v) h = omega (arith, v)
    closed_posting (Away c g v) h = absurd (not_both pop base g h.body)
    closed_posting (Posting c g v) h = omega (arith, v)
    closed_posting (Soon c g v) h = absurd (posting_not base h g)
    closed_posting (Later c g v) h = absurd (posting_not base h g)

    closed_one : IsClosed base closed left away value → IsShown base → closed ≤ 1 → value ≤ 1
    closed_one (Opened e v) h le = omega (arith, v)
    closed_one (Away c g v) h le = absurd (not_both pop base g h.body)
    closed_one (Posting c g v) h le = absurd (posting_not base g h)
    closed_one (Soon c g v) h le = omega (arith, v)
    closed_one (Later c g v) h le = absurd (omega (arith, c, le))

    closed_shown : IsClosed base closed left away value → IsShown base → value ≤ top + closed
    closed_shown (Opened e v) h = omega (arith, v)
    closed_shown (Away c g v) h = absurd (not_both pop base g h.body)
    closed_shown (Posting c g v) h = absurd (posting_not base g h)
    closed_shown (Soon c g v) h = omega (arith, c, v)
    closed_shown (Later c g v) h = omega (arith, v)

    closed_most : IsClosed base closed left away value → left ≤ top → away ≤ top + step_of z → value ≤ top + step_of z + closed
    closed_most (Opened e v) l a = omega (arith, v)
    closed_most (Away c g v) l a = omega (arith, v, c, a)
    closed_most (Posting c g v) l a = omega (arith, v, c, l)
    closed_most (Soon c g v) l a = omega (arith, c, v)
    closed_most (Later c g v) l a = omega (arith, v)

  -- ---- the relation

  abbrev pub away_of : (s : LoopState) (hidden : ℕ) (q : Bounds) → ℕ
  away_of s hidden q = q.left + step_of z * shut_moves s.gave s.run.base hidden

  pub record Rel (n : ℕ) (r : State) (q : Bounds) : Type 0 where
    pub s : LoopState
    pub hidden : ℕ
    pub bounds : Bounds
    pub kept : RelK n s bounds
    pub beside : RelF s r hidden
    pub left : q.left ≡ bounds.left + step_of z * hidden
    pub effects : q.effects ≡ bounds.effects
    pub closed : IsClosed s.run.base bounds.closed q.left (away_of s hidden bounds) q.closed

  step_low : (n : ℕ) (s : LoopState) (q : Bounds) → RelK n s q → q.left ≤ step_of z
  step_low n s q k = let low = keeps.low n s q k in by_gave s.gave refl low.left low.rear
    where
      by_gave : (o : Option ℕ) → s.gave ≡ o → (s.gave ≡ None → q.left ≤ gap z) → (s.gave ≢ None → q.left ≤ turn z) → q.left ≤ step_of z
      by_gave None e x y = let a = x e in omega (arith, a)
      by_gave (Some k) e x y = let a = y (λ n. let h : Some k ≡ None = sym e ∙ n in some_none k h) in omega (arith, a)
        where
          some_none : (k : ℕ) → Some k ≡ None → ⊥
          some_none k e = cc

  away_low : (n : ℕ) (s : LoopState) (r : State) (hidden : ℕ) (q : Bounds) → RelK n s q → RelF s r hidden → away_of s hidden q ≤ top + step_of z
  away_low n s r hidden q k f =
      let low = step_low n s q k in
      let few = shut_low s.gave s.run.base hidden (most Q) (F.beside s r hidden f).low (omega arith) in
      let times : step_of z * shut_moves s.gave s.run.base hidden ≤ step_of z * (most Q + 1) = mul-le-mul_left (step_of z) few in
      sums (step_of z * shut_moves s.gave s.run.base hidden) times low
    where
      sums : (w : ℕ) → w ≤ top → q.left ≤ step_of z → q.left + w ≤ top + step_of z
      sums w t l = omega (arith, t, l)

  left_low : (n : ℕ) (s : LoopState) (r : State) (hidden : ℕ) (q : Bounds) → RelK n s q → RelF s r hidden → q.left + step_of z * hidden ≤ top
  left_low n s r hidden q k f =
      let low = step_low n s q k in
      let few = (F.beside s r hidden f).low in
      let times : step_of z * (hidden + 1) ≤ step_of z * (most Q + 1) = mul-le-mul_left (step_of z) (omega (arith, few)) in
      let one : step_of z * (hidden + 1) ≡ step_of z * hidden + step_of z * 1 = mul-add (step_of z) hidden 1 in
      sums (step_of z) (step_of z * hidden) (step_of z * (hidden + 1)) (omega (arith, one)) times low
    where
      sums : (g h w : ℕ) → w ≡ h + g → w ≤ top → q.left ≤ g → q.left + h ≤ top
      sums g h w e t l = omega (arith, e, t, l)

  low_at : (n : ℕ) (r : State) (q : Bounds) → Rel n r q → AreLow pace q
  low_at n r q h =
      let low = keeps.low n h.s h.bounds h.kept in
      let left = left_low n h.s r h.hidden h.bounds h.kept h.beside in
      let l = h.left in
      let e = h.effects in
      let few = low.effects in
      let small = low.closed in
      let away = away_low n h.s r h.hidden h.bounds h.kept h.beside in
      let most_closed = closed_most h.s.run.base h.bounds.closed q.left (away_of h.s h.hidden h.bounds) q.closed h.closed (omega (arith, left, l)) away in
      record { left = omega (arith, left, l, enough); effects = omega (arith, e, few); closed = omega (arith, most_closed, small, enough) }

  rest_at : (n : ℕ) (r : State) (q : Bounds) → Rel n r q → (m n).off ≡ true → AtRest r
  rest_at n r q h off =
      let k = keeps.rest n h.s h.bounds h.kept off in
      let t = (F.beside h.s r h.hidden h.beside).stands.rest k.0 k.1 in
      record { no_task = t.0; no_base = t.1; no_handler = t.2 }

  wake_at : (n : ℕ) (r : State) (q : Bounds) → Rel n r q → (m n).idle ≡ true → line_of r.board ≡ None
  wake_at n r q h idle = ap line_of (sym (F.beside h.s r h.hidden h.beside).stands.board) ∙ keeps.wake n h.s h.bounds h.kept idle

  out_head : (r : State) (ms : List Move) → StaysOutside S r ms → is_inside r.base ≡ false
  out_head r [] o = o
  out_head r (x ∷ ms) o = o.0

  -- ---- one slot
  module _ (n : ℕ) (r : State) (q : Bounds) (h : Rel n r q) (moves : List LoopMove) (k' : Bounds) (kept' : RelK (suc n) (after_loop_all K pop h.s moves) k') (slot : IsLoopSlot K pop z h.s moves (m n) (m (suc n)) h.bounds k') where
    abbrev s' : LoopState
    s' = after_loop_all K pop h.s moves

    f : Followed P K pop Q RelF F z h.s moves r h.hidden
    f = follow P K pop Q RelF F z moves h.s r h.hidden h.beside slot.legal

    abbrev left' : ℕ
    left' = k'.left + step_of z * f.later

    abbrev away' : ℕ
    away' = away_of s' f.later k'

    next_closed : (value : ℕ) × IsClosed s'.run.base k'.closed left' away' value
    next_closed = closed_of s'.run.base k'.closed left' away'

    abbrev q' : Bounds
    q' = record { left = left'; effects = k'.effects; closed = next_closed.0 }

    is_closed : IsClosed s'.run.base k'.closed left' away' q'.closed
    is_closed = next_closed.1

    rel' : Rel (suc n) (after_all S r f.ms) q'
    rel' = record { s = s'; hidden = f.later; bounds = k'; kept = kept'; beside = f.rel; left = refl; effects = refl; closed = is_closed }

    -- without moves of the source's own what is left falls
    falls : own_moves f.ms ≡ 0 → (m (suc n)).ran + left' ≤ (m n).ran + q.left
    falls e =
        let paid = f.paid in
        let spent = slot.spent in
        let l = h.left in
        let none : stretch_of Q z * own_moves f.ms ≡ stretch_of Q z * 0 = ap (λ k. stretch_of Q z * k) e in
        sums (stretch_of Q z * own_moves f.ms) (omega (arith, none)) paid spent l
      where
        sums : (w : ℕ) → w ≡ 0 → cost z moves + step_of z * f.later ≤ step_of z * h.hidden + w → (m (suc n)).ran + k'.left ≤ (m n).ran + h.bounds.left + cost z moves → q.left ≡ h.bounds.left + step_of z * h.hidden →
            (m (suc n)).ran + left' ≤ (m n).ran + q.left
        sums w e p s l = omega (arith, e, p, s, l)

    spent_all : (m (suc n)).ran + left' ≤ (m n).ran + q.left + pace * length f.ms
    spent_all =
        let paid = f.paid in
        let spent = slot.spent in
        let l = h.left in
        let times : stretch_of Q z * own_moves f.ms ≤ pace * length f.ms = mul-le (stretch_of Q z) (own_moves f.ms) pace (length f.ms) (omega (arith, enough)) (own_few f.ms) in
        sums (stretch_of Q z * own_moves f.ms) (pace * length f.ms) times paid spent l
      where
        sums : (w x : ℕ) → w ≤ x → cost z moves + step_of z * f.later ≤ step_of z * h.hidden + w → (m (suc n)).ran + k'.left ≤ (m n).ran + h.bounds.left + cost z moves → q.left ≡ h.bounds.left + step_of z * h.hidden →
            (m (suc n)).ran + left' ≤ (m n).ran + q.left + x
        sums w x t p s l = omega (arith, t, p, s, l)

    few_there : IsPrompt S r f.ms q.effects k'.effects
    few_there = ⊎_elim of_body of_pop (pop_is_aside K pop h.s.run.base)
      where
        of_body : IsNotPop K pop h.s.run.base → IsPrompt S r f.ms q.effects k'.effects
        of_body n =
            let p = slot.few n in
            let low = p.low in
            let counted = p.counted in
            let e = f.effects in
            let same = h.effects in
            record { low = omega (arith, low, e); counted = omega (arith, counted, e, same); falls = λ v w. let t = p.falls v (f.waits v w) in omega (arith, t, e, same) }

        of_pop : ((IsNotPop K pop h.s.run.base → ⊥) × IsAside pop h.s.run.base) → IsPrompt S r f.ms q.effects k'.effects
        of_pop a =
            let none = slot.apart a.0 in
            let later = none.0 in
            let e = f.aside a.1 none.1 in
            record { low = omega (arith, later, e); counted = omega (arith, e); falls = λ v w. omega (arith, later, e) }

    one : (m (suc n)).ran ≤ (m n).ran + 1
    one = slot.one

    module _ (v : ℕ) (w : Waits S v r f.ms) (out : StaysOutside S r f.ms) where
      abbrev Goal : Type 0
      Goal = (m (suc n)).ran + q'.closed ≤ (m n).ran + q.closed

      through : WaitsThrough K pop v h.s moves
      through = f.waits v w

      no_handler : IsNone h.s.run.handler
      no_handler = waits_head K pop v h.s moves through

      -- the gate is open
      opens : k'.closed ≡ 0 → 1 ≤ q.closed → Goal
      opens e c = let x = closed_none s'.run.base k'.closed left' away' q'.closed is_closed e in omega (arith, x, c, one)

      settled : IsSourceBody pop h.s.run.base → 1 ≤ cost z moves → IsShown s'.run.base → q'.closed ≤ 1
      settled y c g = closed_one s'.run.base k'.closed left' away' q'.closed is_closed g (slot.settles y no_handler c g.outside)

      in_loop : turns_of moves ≡ 0 → q.closed ≡ away_of h.s h.hidden h.bounds + 1 → IsAside pop h.s.run.base → Goal
      in_loop e value a =
          let less = f.shuts a e v w in
          let spent = slot.spent in
          let x = closed_away s'.run.base k'.closed left' away' q'.closed is_closed (aside_all K pop moves h.s slot.legal e a) in
          sums (step_of z * shut_moves s'.gave s'.run.base f.later) (step_of z * shut_moves h.s.gave h.s.run.base h.hidden) less spent x value
        where
          sums : (a b : ℕ) → cost z moves + a ≤ b → (m (suc n)).ran + k'.left ≤ (m n).ran + h.bounds.left + cost z moves → q'.closed ≤ k'.left + a + 1 → q.closed ≡ h.bounds.left + b + 1 → Goal
          sums a b l s x e = omega (arith, l, s, x, e)

      in_posting : turns_of moves ≡ 0 → q.closed ≡ q.left + 1 → IsPosting h.s.run.base → Goal
      in_posting e value g = by_inside (is_inside s'.run.base) refl
        where
          y' : IsSourceBody pop s'.run.base
          y' = body_all K pop moves h.s slot.legal e g.body

          under : 1 ≤ h.hidden
          under = (F.beside h.s r h.hidden h.beside).under no_handler g.inside (out_head r f.ms out)

          by_cost : (c : ℕ) → cost z moves ≡ c → is_inside s'.run.base ≡ false → Goal
          by_cost zero c o = absurd (not_so (sym o ∙ ap is_inside (still_all K pop z moves h.s slot.legal c) ∙ g.inside))
          by_cost (suc c) e' o =
              let x = settled g.body (omega (arith, e')) (record { body = y'; outside = o }) in
              let some : 1 * 1 ≤ step_of z * h.hidden = mul-le 1 1 (step_of z) h.hidden (omega arith) under in
              let l = h.left in
              more (step_of z * h.hidden) some l x
            where
              more : (w : ℕ) → 1 * 1 ≤ w → q.left ≡ h.bounds.left + w → q'.closed ≤ 1 → Goal
              more w a l x = omega (arith, a, l, x, one, value)

          by_inside : (t : Bool) → is_inside s'.run.base ≡ t → Goal
          by_inside true j =
              let less = falls (f.within v w out g.body g.inside slot.marks e j) in
              let x = closed_posting s'.run.base k'.closed left' away' q'.closed is_closed (record { body = y'; inside = j }) in
              omega (arith, less, x, value)
          by_inside false j = by_cost (cost z moves) refl j

      in_shown : turns_of moves ≡ 0 → 2 ≤ h.bounds.closed → q.closed ≡ top + h.bounds.closed → IsShown h.s.run.base → Goal
      in_shown e c value g = by_inside (is_inside s'.run.base) refl
        where
          y' : IsSourceBody pop s'.run.base
          y' = body_all K pop moves h.s slot.legal e g.body

          by_cost : (d : ℕ) → cost z moves ≡ d → is_inside s'.run.base ≡ false → Goal
          by_cost zero d o =
              let p = slot.prompt (body_not_pop K pop h.s.run.base g.body) v through (stays_out K pop z moves h.s slot.legal d g.outside) in
              let x = closed_shown s'.run.base k'.closed left' away' q'.closed is_closed (record { body = y'; outside = o }) in
              omega (arith, p, x, value)
          by_cost (suc d) e' o =
              let x = settled g.body (omega (arith, e')) (record { body = y'; outside = o }) in
              omega (arith, one, x, value, c)

          by_inside : (t : Bool) → is_inside s'.run.base ≡ t → Goal
          by_inside true j =
              let x = closed_posting s'.run.base k'.closed left' away' q'.closed is_closed (record { body = y'; inside = j }) in
              let l = left_low (suc n) s' (after_all S r f.ms) f.later k' kept' f.rel in
              omega (arith, one, x, l, value, c)
          by_inside false j = by_cost (cost z moves) refl j

      by_turns : (k : ℕ) → turns_of moves ≡ k → 1 ≤ q.closed → (turns_of moves ≡ 0 → Goal) → Goal
      by_turns zero e c other = other e
      by_turns (suc k) e c other = opens (slot.turns (omega (arith, e))) c

      prompt_there : Goal
      prompt_there = by_closed h.closed
        where
          by_closed : IsClosed h.s.run.base h.bounds.closed q.left (away_of h.s h.hidden h.bounds) q.closed → Goal
          by_closed (Opened e value) =
              let same = slot.no_line v through e in
              let x = closed_none s'.run.base k'.closed left' away' q'.closed is_closed same.1 in
              let ran = same.0 in
              omega (arith, ran, x)
          by_closed (Away c g value) = by_turns (turns_of moves) refl (omega (arith, value)) (λ e. in_loop e value g)
          by_closed (Posting c g value) = by_turns (turns_of moves) refl (omega (arith, value)) (λ e. in_posting e value g)
          by_closed (Soon c g value) = opens (slot.soon g.body no_handler c) (omega (arith, value))
          by_closed (Later c g value) = by_turns (turns_of moves) refl (omega (arith, value, c)) (λ e. in_shown e c value g)

    slot_there : IsSlot S pace r f.ms (m n) (m (suc n)) q q'
    slot_there = record {
      legal = f.legal;
      shown = slot.shown ∙ ap (λ x. (m n).shown ++ x) (sym f.shown);
      spent = spent_all;
      few = few_there;
      prompt = λ v w out. prompt_there v w out;
    }

  step : (n : ℕ) (r : State) (q : Bounds) → Rel n r q → (ms : List Move) × (q' : Bounds) × Rel (suc n) (after_all S r ms) q' × IsSlot S pace r ms (m n) (m (suc n)) q q'
  step n r q h =
      let t = keeps.step n h.s h.bounds h.kept in (
        (f n r q h t.0 t.1 t.2 t.3).ms,
        q' n r q h t.0 t.1 t.2 t.3,
        rel' n r q h t.0 t.1 t.2 t.3,
        slot_there n r q h t.0 t.1 t.2 t.3,
      )

  first_bounds : Bounds
  first_bounds =
      let h = F.first b in
      let left = keeps.from.left + step_of z * h.0 in
      record { left = left; effects = keeps.from.effects; closed = (closed_of (loop_start K pop b).run.base keeps.from.closed left (away_of (loop_start K pop b) h.0 keeps.from)).0 }

  first : Rel 0 (start S b) first_bounds
  unfolding first_bounds
  first =
      let h = F.first b in
      let left = keeps.from.left + step_of z * h.0 in
      record { s = loop_start K pop b; hidden = h.0; bounds = keeps.from; kept = keeps.first; beside = h.1; left = refl; effects = refl; closed = (closed_of (loop_start K pop b).run.base keeps.from.closed left (away_of (loop_start K pop b) h.0 keeps.from)).1 }

  pub simulates : Simulates S pace b m Rel
  simulates = record {
    none = keeps.none;
    from = first_bounds;
    first = first;
    low = low_at;
    rest = rest_at;
    wake = wake_at;
    step = step;
  }

pub loops_run_as_source : LoopsRunAsSource
loops_run_as_source P K pop Q image marks z pace b rows n words word_rows kernel built enough =
    let T : Setting = record { K = K; pop = pop; image = image; marks = marks; z = z; built = built } in
    let sound : IsWordBoard (with_closed_mask b) = record { mask = omega arith; slots = words.slots; eight = words.eight } in
    let keeps = loops.keeps_pace T b rows sound word_rows in
    let F = beside_follows P K pop Q kernel in (
      simulated (source P) pace b (mote image b rows) (Rel P K pop Q z pace b (mote image b rows) (loops.Rel T b rows sound word_rows) keeps (Beside P K pop Q kernel) F enough) (simulates P K pop Q z pace b (mote image b rows) (loops.Rel T b rows sound word_rows) keeps (Beside P K pop Q kernel) F enough) n,
      deep_at K pop z b (mote image b rows) (loops.Rel T b rows sound word_rows) keeps n,
    )
