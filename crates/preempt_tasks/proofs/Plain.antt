-- Moves as in every run, as loop moves, and one loop move behind them.
use Rattle.std.proofs.Common.{◌≡◌, ℕ, ◌+◌, ◌≤◌, ◌==◌, Bool, true, false, cond, List, [], ◌∷◌, ◌++◌, length, refl, sym, ap, subst, ◌∙◌, arith, append_assoc, append-nil}
use Rattle.std.specs.Prelude.{⊤, IsNone, fold, count_by}
use Rattle.std.specs.List.{AllByRecursion}
use Rattle.nm_base.specs.Lists.{number_of}
use Rattle.nm_base.specs.declared.action.Action.{Action}
use Rattle.nm_base.specs.declared.action.Action.TheVariants as action
use Rattle.nm_base.specs.Behaviour.{is_begin, is_end}
use Rattle.mote_devices.specs.declared.shown.Due.{Due}
use Rattle.run_meaning.specs.declared.Move.{Move}
use Rattle.run_meaning.specs.declared.Move.TheVariants.{Arrive, Do, Enter, Leave, Start, Finish}
use Rattle.run_meaning.specs.State.{State}
use Rattle.run_meaning.specs.Runs.{AreLegal, after, after_all, shown_of, shown_by}
use Rattle.run_meaning.specs.Steps.{Waits, StaysOutside}
use Rattle.preempt_core.specs.Law.{IsPrompt, waiting_effects}
use Rattle.preempt_core.proofs.Arrivals.{arrivals}
use Rattle.open_law.specs.Open.{Done, AreMarks, silent}
use Rattle.preempt_bodies.proofs.Logged.{moves_of, IsPlain}
use Rattle.loop_runs.specs.Bodies.{Bodies, source}
use Rattle.loop_runs.specs.Loop.{LoopState, LoopMove, Plain, Calls, Pops, Takes, IsNoneOfLoop, LegalLoop, AreLegalLoop, after_loop, after_loop_all, shown_of_loop, shown_by_loop}
use Rattle.preempt_tasks.specs.Bodies.{Sizes}
use Rattle.preempt_tasks.specs.Steps.{gap, cost, cost_of, loop_moves, mark_of, marks_of, turns_of, WaitsThrough, StaysOut, effect_of, effects_of, IsPromptSlot}

abbrev pub plains : List Move → List LoopMove
plains [] = []
plains (m ∷ ms) = Plain m ∷ plains ms

-- moves that are legal wherever they are so in a run, and leave what `pop` gave
abbrev pub IsOwn : Move → Type 0
IsOwn (Arrive g) = ⊤
IsOwn (Do a) = ⊤
IsOwn Leave = ⊤
IsOwn _ = ⊥

pub moves_own : (ds : List Done) → AllByRecursion IsOwn (moves_of ds)
moves_own [] = tt
moves_own (d ∷ ds) = (tt, moves_own ds)

-- what arrives
abbrev pub IsArrival : Move → Type 0
IsArrival (Arrive g) = ⊤
IsArrival _ = ⊥

pub arrivals_are : (rows : List Due) (s : ℕ) → AllByRecursion IsArrival (arrivals rows s)
arrivals_are [] s = tt
arrivals_are (row ∷ rows) s = by_test (row.slot == s) (arrivals_are rows s)
  where
    by_test : (t : Bool) → AllByRecursion IsArrival (arrivals rows s) → AllByRecursion IsArrival (cond t (Arrive row.given ∷ arrivals rows s) (arrivals rows s))
    by_test true h = (tt, h)
    by_test false h = h

pub arrivals_own : (rows : List Due) (s : ℕ) → AllByRecursion IsOwn (arrivals rows s)
arrivals_own [] s = tt
arrivals_own (row ∷ rows) s = by_test (row.slot == s) (arrivals_own rows s)
  where
    by_test : (t : Bool) → AllByRecursion IsOwn (arrivals rows s) → AllByRecursion IsOwn (cond t (Arrive row.given ∷ arrivals rows s) (arrivals rows s))
    by_test true h = (tt, h)
    by_test false h = h

module _ (z : Sizes) where
  pub cost-append : (a b : List LoopMove) → cost z (a ++ b) ≡ cost z a + cost z b
  cost-append [] b = omega arith
  cost-append (m ∷ a) b = let h = cost-append a b in omega (arith, h)

  pub cost_some : (ds : List Done) → 1 ≤ length (moves_of ds) → gap z ≤ cost z (plains (moves_of ds))
  cost_some [] h = absurd (omega (arith, h))
  cost_some (d ∷ ds) h = omega arith

  pub cost_arrivals : (ms : List Move) → AllByRecursion IsArrival ms → cost z (plains ms) ≡ 0
  cost_arrivals [] h = refl
  cost_arrivals (Arrive g ∷ ms) h = let k = cost_arrivals ms h.1 in omega (arith, k)
  cost_arrivals (Do a ∷ ms) h = absurd h.0
  cost_arrivals (Enter v ∷ ms) h = absurd h.0
  cost_arrivals (Leave ∷ ms) h = absurd h.0
  cost_arrivals (Start k ∷ ms) h = absurd h.0
  cost_arrivals (Finish ∷ ms) h = absurd h.0

-- ---- the beginnings and ends of atomic statements, and of bodies

pub marks-append : (a b : List LoopMove) → marks_of (a ++ b) ≡ marks_of a + marks_of b
marks-append [] b = omega arith
marks-append (m ∷ a) b = let h = marks-append a b in omega (arith, h)

pub turns-append : (a b : List LoopMove) → turns_of (a ++ b) ≡ turns_of a + turns_of b
turns-append [] b = omega arith
turns-append (m ∷ a) b = let h = turns-append a b in omega (arith, h)

pub marks_arrivals : (ms : List Move) → AllByRecursion IsArrival ms → marks_of (plains ms) ≡ 0
marks_arrivals [] h = refl
marks_arrivals (Arrive g ∷ ms) h = let k = marks_arrivals ms h.1 in omega (arith, k)
marks_arrivals (Do a ∷ ms) h = absurd h.0
marks_arrivals (Enter v ∷ ms) h = absurd h.0
marks_arrivals (Leave ∷ ms) h = absurd h.0
marks_arrivals (Start k ∷ ms) h = absurd h.0
marks_arrivals (Finish ∷ ms) h = absurd h.0

pub turns_arrivals : (ms : List Move) → AllByRecursion IsArrival ms → turns_of (plains ms) ≡ 0
turns_arrivals [] h = refl
turns_arrivals (Arrive g ∷ ms) h = let k = turns_arrivals ms h.1 in omega (arith, k)
turns_arrivals (Do a ∷ ms) h = absurd h.0
turns_arrivals (Enter v ∷ ms) h = absurd h.0
turns_arrivals (Leave ∷ ms) h = absurd h.0
turns_arrivals (Start k ∷ ms) h = absurd h.0
turns_arrivals (Finish ∷ ms) h = absurd h.0

-- a body's actions are no turns
pub no_turns : (ds : List Done) → turns_of (plains (moves_of ds)) ≡ 0
no_turns [] = refl
no_turns (d ∷ ds) = let k = no_turns ds in omega (arith, k)

mark_is : (a : Action) → mark_of (Plain (Do a)) ≡ number_of (is_begin a) + number_of (is_end a)
mark_is (action.Load x wide) = refl
mark_is (action.Store x wide v) = refl
mark_is (action.In p) = refl
mark_is (action.Out p v) = refl
mark_is (action.Post k) = refl
mark_is action.Begin = refl
mark_is action.End = refl
mark_is action.Tick = refl
mark_is (action.Fault c) = refl

fold_from : (p : Action → Bool) (xs : List Action) (n : ℕ) → fold (λ k y. k + number_of (p y)) n xs ≡ n + fold (λ k y. k + number_of (p y)) 0 xs
fold_from p [] n = omega arith
fold_from p (y ∷ xs) n = let a = fold_from p xs (n + number_of (p y)) in let b = fold_from p xs (0 + number_of (p y)) in omega (arith, a, b)

count_head : (p : Action → Bool) (x : Action) (xs : List Action) → count_by p (x ∷ xs) ≡ number_of (p x) + count_by p xs
count_head p x xs = let a = fold_from p xs (0 + number_of (p x)) in omega (arith, a)

no_marks : (ds : List Done) → AllByRecursion IsPlain ds → marks_of (plains (moves_of ds)) ≡ 0
no_marks [] h = refl
no_marks (d ∷ ds) h =
    let a = mark_is d.action in
    let b = ap number_of h.0.0 in
    let e = ap number_of h.0.1 in
    let more = no_marks ds h.1 in
    omega (arith, a, b, e, more)

marks_is : (actions : List Action) (new : List Done) → AllByRecursion IsPlain new → marks_of (plains (moves_of (silent actions ++ new))) ≡ count_by is_begin actions + count_by is_end actions
marks_is [] new h = no_marks new h
marks_is (a ∷ actions) new h =
    let m = mark_is a in
    let b = count_head is_begin a actions in
    let e = count_head is_end a actions in
    let more = marks_is actions new h in
    omega (arith, m, b, e, more)

pub marks_few : (actions : List Action) (new : List Done) → AreMarks actions → AllByRecursion IsPlain new → marks_of (plains (moves_of (silent actions ++ new))) ≤ 1
marks_few actions new good h = let e = marks_is actions new h in let f = good.few in omega (arith, e, f)

pub loop_moves-append : (a b : List LoopMove) → loop_moves (a ++ b) ≡ loop_moves a + loop_moves b
loop_moves-append [] b = omega arith
loop_moves-append (Plain m ∷ a) b = loop_moves-append a b
loop_moves-append (Calls ∷ a) b = let h = loop_moves-append a b in omega (arith, h)
loop_moves-append (Pops k ∷ a) b = let h = loop_moves-append a b in omega (arith, h)
loop_moves-append (Takes k ∷ a) b = let h = loop_moves-append a b in omega (arith, h)

pub loop_moves-plains : (ms : List Move) → loop_moves (plains ms) ≡ 0
loop_moves-plains [] = refl
loop_moves-plains (m ∷ ms) = loop_moves-plains ms

pub one_more : (ms : List Move) (m : LoopMove) → loop_moves (plains ms ++ m ∷ []) ≤ 1
one_more ms m = let a = loop_moves-append (plains ms) (m ∷ []) in let b = loop_moves-plains ms in let c = single m in omega (arith, a, b, c)
  where
    single : (m : LoopMove) → loop_moves (m ∷ []) ≤ 1
    single (Plain m) = omega arith
    single Calls = omega arith
    single (Pops k) = omega arith
    single (Takes k) = omega arith

module _ (K : Bodies) (pop : ℕ) where
  -- loop runs that go on
  pub after_loop-append : (s : LoopState) (a b : List LoopMove) → after_loop_all K pop s (a ++ b) ≡ after_loop_all K pop (after_loop_all K pop s a) b
  after_loop-append s [] b = refl
  after_loop-append s (m ∷ a) b = after_loop-append (after_loop K pop s m) a b

  pub shown_loop-append : (s : LoopState) (a b : List LoopMove) → shown_by_loop K pop s (a ++ b) ≡ shown_by_loop K pop s a ++ shown_by_loop K pop (after_loop_all K pop s a) b
  shown_loop-append s [] b = refl
  shown_loop-append s (m ∷ a) b =
      ap (λ l. shown_of_loop K pop s m ++ l) (shown_loop-append (after_loop K pop s m) a b)
      ∙ sym (append_assoc (shown_of_loop K pop s m) (shown_by_loop K pop (after_loop K pop s m) a) (shown_by_loop K pop (after_loop_all K pop (after_loop K pop s m) a) b))

  pub legal_loop-append : (s : LoopState) (a b : List LoopMove) → AreLegalLoop K pop s a → AreLegalLoop K pop (after_loop_all K pop s a) b → AreLegalLoop K pop s (a ++ b)
  legal_loop-append s [] b h k = k
  legal_loop-append s (m ∷ a) b h k = (h.0, legal_loop-append (after_loop K pop s m) a b h.1 k)

  pub effects-append : (s : LoopState) (a b : List LoopMove) → effects_of K pop s (a ++ b) ≡ effects_of K pop s a + effects_of K pop (after_loop_all K pop s a) b
  effects-append s [] b = omega arith
  effects-append s (m ∷ a) b = let h = effects-append (after_loop K pop s m) a b in omega (arith, h)

  pub waits_front : (v : ℕ) (s : LoopState) (a b : List LoopMove) → WaitsThrough K pop v s (a ++ b) → WaitsThrough K pop v s a
  waits_front v s [] [] h = h
  waits_front v s [] (m ∷ b) h = (h.0, h.1)
  waits_front v s (m ∷ a) b h = (h.0, h.1, h.2, waits_front v (after_loop K pop s m) a b h.3)

  pub waits_back : (v : ℕ) (s : LoopState) (a b : List LoopMove) → WaitsThrough K pop v s (a ++ b) → WaitsThrough K pop v (after_loop_all K pop s a) b
  waits_back v s [] b h = h
  waits_back v s (m ∷ a) b h = waits_back v (after_loop K pop s m) a b h.3

  pub waits_head : (v : ℕ) (s : LoopState) (moves : List LoopMove) → WaitsThrough K pop v s moves → IsNone s.run.handler
  waits_head v s [] w = w.1
  waits_head v s (m ∷ moves) w = w.1

  pub out_front : (s : LoopState) (a b : List LoopMove) → StaysOut K pop s (a ++ b) → StaysOut K pop s a
  out_front s [] [] h = h
  out_front s [] (m ∷ b) h = h.0
  out_front s (m ∷ a) b h = (h.0, out_front (after_loop K pop s m) a b h.1)

  pub out_back : (s : LoopState) (a b : List LoopMove) → StaysOut K pop s (a ++ b) → StaysOut K pop (after_loop_all K pop s a) b
  out_back s [] b h = h
  out_back s (m ∷ a) b h = out_back (after_loop K pop s m) a b h.1

  -- another state of the run
  abbrev pub with_run : LoopState → State → LoopState
  with_run s r = record { run = r; gave = s.gave }

  own_after : (s : LoopState) (m : Move) → IsOwn m → after_loop K pop s (Plain m) ≡ with_run s (after (source K) s.run m)
  own_after s (Arrive g) h = refl
  own_after s (Do a) h = refl
  own_after s Leave h = refl
  own_after s (Enter v) h = absurd h
  own_after s (Start k) h = absurd h
  own_after s Finish h = absurd h

  own_legal : (s : LoopState) (m : Move) → IsOwn m → IsNoneOfLoop K pop s m
  own_legal s (Arrive g) h = tt
  own_legal s (Do a) h = tt
  own_legal s Leave h = tt
  own_legal s (Enter v) h = absurd h
  own_legal s (Start k) h = absurd h
  own_legal s Finish h = absurd h

  pub after_plains : (ms : List Move) → AllByRecursion IsOwn ms → (s : LoopState) → after_loop_all K pop s (plains ms) ≡ with_run s (after_all (source K) s.run ms)
  after_plains [] h s = refl
  after_plains (m ∷ ms) h s = ap (λ (t : LoopState). after_loop_all K pop t (plains ms)) (own_after s m h.0) ∙ after_plains ms h.1 (with_run s (after (source K) s.run m))

  pub legal_plains : (ms : List Move) → AllByRecursion IsOwn ms → (s : LoopState) → AreLegal (source K) s.run ms → AreLegalLoop K pop s (plains ms)
  legal_plains [] h s l = tt
  legal_plains (m ∷ ms) h s l = ((l.0, own_legal s m h.0), subst (λ (t : LoopState). AreLegalLoop K pop t (plains ms)) (sym (own_after s m h.0)) (legal_plains ms h.1 (with_run s (after (source K) s.run m)) l.1))

  pub shown_plains : (ms : List Move) → AllByRecursion IsOwn ms → (s : LoopState) → shown_by_loop K pop s (plains ms) ≡ shown_by (source K) s.run ms
  shown_plains [] h s = refl
  shown_plains (m ∷ ms) h s =
      ap (λ (t : LoopState). shown_of s.run m ++ shown_by_loop K pop t (plains ms)) (own_after s m h.0)
      ∙ ap (λ l. shown_of s.run m ++ l) (shown_plains ms h.1 (with_run s (after (source K) s.run m)))

  pub effects_plains : (ms : List Move) → AllByRecursion IsOwn ms → (s : LoopState) → effects_of K pop s (plains ms) ≡ waiting_effects (source K) s.run ms
  effects_plains [] h s = refl
  effects_plains (m ∷ ms) h s =
      ap (λ (t : LoopState). effect_of K pop s (Plain m) + effects_of K pop t (plains ms)) (own_after s m h.0)
      ∙ ap (λ n. effect_of K pop s (Plain m) + n) (effects_plains ms h.1 (with_run s (after (source K) s.run m)))

  pub waits_plains : (v : ℕ) (ms : List Move) → AllByRecursion IsOwn ms → (s : LoopState) → WaitsThrough K pop v s (plains ms) → Waits (source K) v s.run ms
  waits_plains v [] h s w = w
  waits_plains v (m ∷ ms) h s w = (w.0, w.1, w.2, waits_plains v ms h.1 (with_run s (after (source K) s.run m)) (subst (λ (t : LoopState). WaitsThrough K pop v t (plains ms)) (own_after s m h.0) w.3))

  pub out_plains : (ms : List Move) → AllByRecursion IsOwn ms → (s : LoopState) → StaysOut K pop s (plains ms) → StaysOutside (source K) s.run ms
  out_plains [] h s o = o
  out_plains (m ∷ ms) h s o = (o.0, out_plains ms h.1 (with_run s (after (source K) s.run m)) (subst (λ (t : LoopState). StaysOut K pop t (plains ms)) (own_after s m h.0) o.1))

  pub prompt_plains : (ms : List Move) → AllByRecursion IsOwn ms → (s : LoopState) (before later : ℕ) → IsPrompt (source K) s.run ms before later → IsPromptSlot K pop s (plains ms) before later
  prompt_plains ms own s before later p =
      let e = effects_plains ms own s in
      let l = p.low in
      let c = p.counted in
      record {
        low = omega (arith, e, l);
        counted = omega (arith, e, c);
        falls = λ v w. let f = p.falls v (waits_plains v ms own s w) in omega (arith, e, f);
      }

  -- with one move of any kind behind them
  module _ (ms : List Move) (own : AllByRecursion IsOwn ms) (s : LoopState) (m : LoopMove) where
    abbrev there : LoopState
    there = with_run s (after_all (source K) s.run ms)

    pub after_last : after_loop_all K pop s (plains ms ++ m ∷ []) ≡ after_loop K pop there m
    after_last = after_loop-append s (plains ms) (m ∷ []) ∙ ap (λ (t : LoopState). after_loop K pop t m) (after_plains ms own s)

    pub legal_last : AreLegal (source K) s.run ms → LegalLoop K pop there m → AreLegalLoop K pop s (plains ms ++ m ∷ [])
    legal_last l k = legal_loop-append s (plains ms) (m ∷ []) (legal_plains ms own s l) (subst (λ (t : LoopState). AreLegalLoop K pop t (m ∷ [])) (sym (after_plains ms own s)) (k, tt))

    pub shown_last : shown_of_loop K pop there m ≡ [] → shown_by_loop K pop s (plains ms ++ m ∷ []) ≡ shown_by (source K) s.run ms
    shown_last e =
        shown_loop-append s (plains ms) (m ∷ [])
        ∙ ap (λ (t : LoopState). shown_by_loop K pop s (plains ms) ++ (shown_of_loop K pop t m ++ [])) (after_plains ms own s)
        ∙ ap (λ l. shown_by_loop K pop s (plains ms) ++ (l ++ [])) e
        ∙ append-nil (shown_by_loop K pop s (plains ms))
        ∙ shown_plains ms own s

    pub effects_last : effect_of K pop there m ≡ 0 → effects_of K pop s (plains ms ++ m ∷ []) ≡ waiting_effects (source K) s.run ms
    effects_last e =
        let a = effects-append s (plains ms) (m ∷ []) in
        let b : effects_of K pop (after_loop_all K pop s (plains ms)) (m ∷ []) ≡ effect_of K pop there m + 0 = ap (λ (t : LoopState). effect_of K pop t m + 0) (after_plains ms own s) in
        let c = effects_plains ms own s in
        omega (arith, a, b, c, e)

    pub waits_last : (v : ℕ) → WaitsThrough K pop v s (plains ms ++ m ∷ []) → Waits (source K) v s.run ms
    waits_last v w = waits_plains v ms own s (waits_front v s (plains ms) (m ∷ []) w)

    pub out_last : StaysOut K pop s (plains ms ++ m ∷ []) → StaysOutside (source K) s.run ms
    out_last o = out_plains ms own s (out_front s (plains ms) (m ∷ []) o)

    pub cost_last : (z : Sizes) → cost_of z m ≤ cost z (plains ms ++ m ∷ [])
    cost_last z = let a = cost-append z (plains ms) (m ∷ []) in omega (arith, a)

    -- where the move is no effect, and nothing is left behind it
    pub prompt_last : (before : ℕ) → effect_of K pop there m ≡ 0 → waiting_effects (source K) s.run ms ≤ before → before ≤ 7 → IsPromptSlot K pop s (plains ms ++ m ∷ []) before 0
    prompt_last before none few low =
        let e = effects_last none in
        record { low = omega (arith, e, few, low); counted = omega (arith, e, few); falls = λ v w. omega (arith, e, few) }
