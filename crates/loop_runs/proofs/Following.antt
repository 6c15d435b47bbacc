-- Each move of a loop run, by where the loop run is.
use Rattle.std.proofs.Common.{◌≡◌, ℕ, zero, suc, ◌+◌, ◌<◌, ◌≤◌, Bool, true, false, cond, List, [], ◌∷◌, Option, Some, None, refl, sym, ap, subst, ◌∙◌, arith}
use Rattle.std.specs.Prelude.{if◌then◌else◌, is_some, not}
use Rattle.std.proofs.lemmas.Bool.{lt-ltb}
use Rattle.nm_base.specs.Lists.{number_of}
use Rattle.nm_base.specs.Behaviour.{Returns, Why, Returned, Faulted, Waits as Waiting_for, Unfinished, Trace, play, is_returned}
use Rattle.mote_devices.specs.declared.shown.Given.{Given as Event}
use Rattle.mote_devices.specs.Board.{board_given, board_ack, line_of}
use Rattle.run_meaning.specs.declared.Move.TheVariants.{Arrive, Do, Enter, Leave, Start, Finish}
use Rattle.run_meaning.specs.State.{Context, State, new_context, is_inside}
use Rattle.run_meaning.specs.Runs.{HasEnded, body_at}
use Rattle.loop_runs.specs.Bodies.{Bodies}
use Rattle.loop_runs.specs.Kernel.{Queue, Stands, IsKernel, Expands, Pops as PopsFirst}
use Rattle.loop_runs.specs.Loop.{LoopState, LoopMove, Plain, Calls, Pops, Takes, woken, LegalLoop}
use Rattle.loop_runs.proofs.Leads.{tree_of, actions_of, answers_of, sound, played, ended_found}
use Rattle.loop_runs.proofs.Phases.{Phase, IsWithin, left_in}
use Rattle.loop_runs.proofs.Phases as phase
use Rattle.loop_runs.proofs.Acting.{Counts, Pair, Shared, QueueOk, closed_of, inside_made, same_inside}
use Rattle.loop_runs.proofs.Popping.{PopPhase, Before, During, After, PopPair, PopRel}
use Rattle.loop_runs.proofs.Like.{with_contexts, IsOpen, Like, Handling, Running, Popping, Free, Waiting, Nothing, Given, Empty, Behind, Suspended, Waits, PopShares, PopHas, at, behind_not_pop, fresh, inside_of, left_of, left_popping, left_waiting, pair_any}
use Rattle.loop_runs.proofs.Loops.{sp, Goal, arrives, base_does, enters, goes, handler_does, not_none, owes_none, stays}
use Rattle.loop_runs.proofs.Moves.{ended, pop_does, shut_is}

-- ---- what cannot be, and small facts

pub yes_no : {A : Type 0} → true ≡ false → A
yes_no h = absurd (not_none h)

none_some : {A B : Type 0} {x : A} → None ≡ Some x → B
none_some {x = x} h = absurd (bad h)
  where
    bad : None ≡ Some x → ⊥
    bad h = cc

abbrev or_zero : Option ℕ → ℕ
or_zero None = 0
or_zero (Some k) = k

some_item : {k : ℕ} {l : List ℕ} → k ∷ l ≡ [] → ⊥
some_item h = cc

pub same_some : {j k : ℕ} → Some j ≡ Some k → j ≡ k
same_some e = ap or_zero e

same_most : (n : ℕ) → n ≤ n
same_most n = omega arith

not_less : (k : ℕ) → 255 ≡ k → k < 255 → ⊥
not_less k same lt = omega (arith, same, lt)

abbrev value_of : Why → ℕ
value_of (Returned v) = v
value_of Faulted = 0
value_of Waiting_for = 0
value_of Unfinished = 0

-- what the end of a base completes
abbrev finished : Bool → ℕ
finished t = if t then number_of (not (is_inside None)) else number_of false

module _ (P K : Bodies) (pop : ℕ) (Q : Queue) (kernel : IsKernel P K pop Q) where
  abbrev pub L : LoopState → State → Type 0
  L s r = Like P K pop Q kernel s r

  abbrev pub G : LoopState → State → (hidden : ℕ) → LoopMove → Type 0
  G s r hidden m = Goal P K pop Q kernel s r hidden m

  abbrev pub Sh : Phase → State → State → Type 0
  Sh ph s r = Shared P K pop Q kernel ph s r

  abbrev pub here : State → Option Context → Option Context → Option ℕ → LoopState
  here s b h g = at P K pop Q kernel s b h g

  abbrev pub W : Option ℕ → Option Context → List ℕ → Type 0
  W g b tasks = Waiting P K pop Q kernel g b tasks

  shared_given : {ph : Phase} {s r : State} (g : Event) → Sh ph s r → Sh ph (record s { board = board_given s.board g }) (record r { board = board_given r.board g })
  shared_given g k = record { board = ap (λ b. board_given b g) k.board; stopped = k.stopped; same = k.same; queue = k.queue }

  pub open_stands : (ph : Phase) (st : ℕ → ℕ) (tasks : List ℕ) → IsOpen ph → QueueOk P K pop Q kernel ph st tasks → Stands Q st tasks
  open_stands phase.Plain st tasks o h = h
  open_stands phase.Ticked st tasks o h = h
  open_stands phase.Ended st tasks o h = h
  open_stands (phase.Inner m) st tasks o h = absurd o

  stands_open : (ph : Phase) (st : ℕ → ℕ) (tasks : List ℕ) → IsOpen ph → Stands Q st tasks → QueueOk P K pop Q kernel ph st tasks × IsWithin Q ph
  stands_open phase.Plain st tasks o h = (h, tt)
  stands_open phase.Ticked st tasks o h = (h, tt)
  stands_open phase.Ended st tasks o h = (h, tt)
  stands_open (phase.Inner m) st tasks o h = absurd o

  plain_of : (ph : Phase) {s r : State} → ph ≡ phase.Plain → Sh ph s r → Sh phase.Plain s r
  plain_of ph {s = s} {r = r} e k = subst (λ x. Sh x s r) e k

  pub none_yet : Counts phase.Plain [] []
  none_yet = record { q = 0; ends = refl; begins = refl; closed = λ i. absurd i }

  handler_pair : (v : ℕ) (st : ℕ → ℕ) (tasks : List ℕ) → Pair P K pop Q kernel phase.Plain st tasks (new_context (K.handler v)) (new_context (P.handler v))
  handler_pair v st tasks = fresh P K pop Q kernel phase.Plain (K.handler v) (P.handler v) st tasks (λ i. i) (ap (λ f. f v) kernel.handler) none_yet
      (λ n. subst (λ f. Expands Q (tree_of K (f v) n) (tree_of P (P.handler v) n)) (sym kernel.handler) (by n (P.handler v) refl))
    where
      by : (n : ℕ) (o : Option ℕ) → P.handler v ≡ o → Expands Q (tree_of K o n) (tree_of P o n)
      by n None e = refl
      by n (Some body) e = kernel.handlers v body n e

  -- a handler comes
  entered : {ph : Phase} {s r : State} (v : ℕ) → IsOpen ph → Sh ph s r → Sh phase.Plain (record s { board = board_ack s.board v }) (record r { board = board_ack r.board v })
  entered {ph = ph} {s = s} {r = r} v o k = record { board = ap (λ b. board_ack b v) k.board; stopped = k.stopped; same = k.same; queue = open_stands ph s.store r.tasks o k.queue }

  woken_waits : (g : Option ℕ) (b : Option Context) (tasks : List ℕ) → W g b tasks → W (woken g) b (0 ∷ [])
  woken_waits g b tasks (Nothing e eb) = Nothing (ap woken e) eb
  woken_waits g b tasks (Given k body e lt has eb) = Given k body (ap woken e ∙ ap (λ t. cond t (Some k) None) (lt-ltb k 255 lt)) lt has eb
  woken_waits g b tasks (Empty e eb none) = Nothing (ap woken e) eb

  pub waits_outside : (g : Option ℕ) (b : Option Context) (tasks : List ℕ) → W g b tasks → is_inside b ≡ false
  waits_outside g b tasks (Nothing e eb) = ap is_inside eb
  waits_outside g b tasks (Given k body e lt has eb) = ap is_inside eb
  waits_outside g b tasks (Empty e eb none) = ap is_inside eb

  left_waits : (g : Option ℕ) (b : Option Context) (tasks : List ℕ) → W g b (0 ∷ []) → W g b tasks
  left_waits g b tasks (Nothing e eb) = Nothing e eb
  left_waits g b tasks (Given k body e lt has eb) = Given k body e lt has eb
  left_waits g b tasks (Empty e eb none) = absurd (some_item none)

  -- ---- in a body

  module _ (ph : Phase) (c2 c : Context) (s0 r0 : State) where
    abbrev RS : LoopState
    RS = here s0 (Some c2) None None

    abbrev RR : State
    RR = with_contexts r0 (Some c) None

    finishes : (c2.body ≡ Some pop → ⊥) → Sh ph s0 r0 → Pair P K pop Q kernel ph s0.store r0.tasks c2 c → LegalLoop K pop RS (Plain Finish) → G RS RR (left_in Q ph) (Plain Finish)
    finishes np k p h = goes P K pop Q kernel RS RR (left_in Q ph) (Plain Finish) Finish (Free s0 r0 None None refl refl (plain_of ph e.1 k) (Nothing refl refl)) tt refl (λ i. i) (sym k.stopped ∙ h.0.0, (refl, e.0)) refl
        (record {
          shuts = λ i. absurd (np i);
          finishes = λ i. refl;
          effects = λ none. subst (λ t. finished (inside_made c.made) ≤ finished t) (sym (same_inside phase.Plain c2.made c.made refl counts)) (same_most (finished (inside_made c.made)));
          aside = λ none beside. absurd (np beside);
          closes = λ none into out. absurd (closed_of phase.Plain c2.made c.made counts into out);
        })
      where
        e : HasEnded (sp P K pop Q kernel) c × (ph ≡ phase.Plain)
        e = ended P K pop Q kernel ph s0.store r0.tasks c2 c (λ e. subst (λ x. QueueOk P K pop Q kernel x s0.store r0.tasks) e k.queue) p h.0.1.1

        counts : Counts phase.Plain c2.made c.made
        counts = subst (λ x. Counts x c2.made c.made) e.1 p.counts

    at_running : (c2.body ≡ Some pop → ⊥) → Sh ph s0 r0 → Pair P K pop Q kernel ph s0.store r0.tasks c2 c → IsWithin Q ph → (m : LoopMove) → LegalLoop K pop RS m → G RS RR (left_in Q ph) m
    at_running np k p y (Plain (Arrive g)) h =
        arrives P K pop Q kernel RS RR (left_in Q ph) g (Running ph c2 c (record s0 { board = board_given s0.board g }) (record r0 { board = board_given r0.board g }) refl refl np (shared_given g k) p y) refl (sym k.stopped ∙ h.0.0, tt)
    at_running np k p y (Plain (Do a)) h = base_does P K pop Q kernel ph c2 c s0 r0 np k p y a h.0
    at_running np k p y (Plain (Enter v)) h =
        let io = inside_of P K pop Q kernel ph p h.0.1.2 in
        enters P K pop Q kernel RS RR (left_in Q ph) v
        (Handling phase.Plain (new_context (K.handler v)) (new_context (P.handler v)) (record s0 { board = board_ack s0.board v }) (record r0 { board = board_ack r0.board v }) (Some c2) (Some c) None refl refl (entered v io.0 k) (handler_pair v s0.store r0.tasks)
        (Suspended ph c2 c io.0 np refl refl refl (pair_any P K pop Q kernel ph io.0 p)) tt)
        h.0.1.2 np (sym k.stopped ∙ h.0.0, (ap line_of (sym k.board) ∙ h.0.1.0, refl, io.1))
    at_running np k p y (Plain Leave) h = absurd h.0.1
    at_running np k p y (Plain (Start j)) h = absurd h.1
    at_running np k p y (Plain Finish) h = finishes np k p h
    at_running np k p y Calls h = yes_no h.0.no_base
    at_running np k p y (Pops j) h = absurd (np h.2.is_pop)
    at_running np k p y (Takes j) h = yes_no h.0.no_base

  -- ---- in a handler

  module _ (ph : Phase) (c2 c : Context) (s0 r0 : State) (b2 b : Option Context) (g : Option ℕ) where
    abbrev HS : LoopState
    HS = here s0 b2 (Some c2) g

    abbrev HR : State
    HR = with_contexts r0 b (Some c)

    leaves : Sh ph s0 r0 → Pair P K pop Q kernel ph s0.store r0.tasks c2 c → Behind P K pop Q kernel b2 b None g → LegalLoop K pop HS (Plain Leave) → G HS HR (left_in Q ph) (Plain Leave)
    leaves k p w h = by w
      where
        e : HasEnded (sp P K pop Q kernel) c × (ph ≡ phase.Plain)
        e = ended P K pop Q kernel ph s0.store r0.tasks c2 c (λ e. subst (λ x. QueueOk P K pop Q kernel x s0.store r0.tasks) e k.queue) p h.0.1

        left : Like P K pop Q kernel (here s0 b2 None g) (with_contexts r0 b None) → G HS HR (left_in Q ph) (Plain Leave)
        left like = goes P K pop Q kernel HS HR (left_in Q ph) (Plain Leave) Leave like tt refl (λ i. i) (sym k.stopped ∙ h.0.0, e.0) refl
            (owes_none P K pop Q kernel HS HR (left_in Q ph) (left_of P K pop Q kernel like) (Plain Leave) Leave (λ i. behind_not_pop P K pop Q kernel w i) (λ i. i) not_none not_none)

        by : Behind P K pop Q kernel b2 b None g → G HS HR (left_in Q ph) (Plain Leave)
        by (Suspended ph' d2 d o np eb2 eb eg pa) =
            let q = stands_open ph' s0.store r0.tasks o (plain_of ph e.1 k).queue in
            left (Running ph' d2 d s0 r0 (ap (λ x. here s0 x None g) eb2 ∙ ap (λ x. here s0 (Some d2) None x) eg) (ap (λ x. with_contexts r0 x None) eb) np
            (record { board = k.board; stopped = k.stopped; same = k.same; queue = q.0 }) (pa s0.store r0.tasks) q.1)
        by (Waits eb2 x) = left (Free s0 r0 b g (ap (λ z. here s0 z None g) eb2) refl (plain_of ph e.1 k) (left_waits g b r0.tasks x))

    at_handling : Sh ph s0 r0 → Pair P K pop Q kernel ph s0.store r0.tasks c2 c → Behind P K pop Q kernel b2 b None g → IsWithin Q ph → (m : LoopMove) → LegalLoop K pop HS m → G HS HR (left_in Q ph) m
    at_handling k p w y (Plain (Arrive e)) h =
        arrives P K pop Q kernel HS HR (left_in Q ph) e (Handling ph c2 c (record s0 { board = board_given s0.board e }) (record r0 { board = board_given r0.board e }) b2 b g refl refl (shared_given e k) p w y) refl (sym k.stopped ∙ h.0.0, tt)
    at_handling k p w y (Plain (Do a)) h = handler_does P K pop Q kernel ph c2 c s0 r0 b2 b g k p w y a h.0
    at_handling k p w y (Plain (Enter v)) h = yes_no h.0.1.1
    at_handling k p w y (Plain Leave) h = leaves k p w h
    at_handling k p w y (Plain (Start j)) h = absurd h.1
    at_handling k p w y (Plain Finish) h = yes_no h.0.1.0
    at_handling k p w y Calls h = yes_no h.0.no_handler
    at_handling k p w y (Pops j) h = yes_no h.1
    at_handling k p w y (Takes j) h = yes_no h.0.no_handler

  -- ---- in pop

  module _ (c2 : Context) (s0 r0 : State) (b : Option Context) where
    abbrev PS : LoopState
    PS = here s0 (Some c2) None None

    abbrev PR : State
    PR = with_contexts r0 b None

    -- pop has returned what it gives
    pops : (ph : PopPhase) → Sh (PopShares P K pop Q kernel ph) s0 r0 → PopPair K pop Q ph s0.store r0.tasks c2 → (has : PopHas P K pop Q kernel ph b r0.tasks) → (j v : ℕ) → v ≡ j → PopRel Q ph s0.store r0.tasks (Returns v) →
        G PS PR (left_popping P K pop Q kernel ph b r0.tasks has) (Pops j)
    pops Before k p has j v e x = absurd (x s0.store r0.tasks k.queue)
    pops (During zero) k p has j v e x = absurd x
    pops (During (suc m)) k p has j v e x = absurd x
    pops (After i) k p has j v e x = subst (λ y. G PS PR (left_waiting P K pop Q kernel has + 1) (Pops y)) (sym x ∙ e)
        (stays P K pop Q kernel PS PR (left_waiting P K pop Q kernel has + 1) (Pops i) (Free s0 r0 b (Some i) refl refl k has) tt refl (same_most (left_waiting P K pop Q kernel has + 1))
        (λ _. subst (λ n. 0 + 1 ≤ n) (sym (shut_is (After i) c2 (left_waiting P K pop Q kernel has + 1) p.counts)) one_least))
      where
        one_least : 0 + 1 ≤ 1
        one_least = omega arith

    at_popping : (ph : PopPhase) → Sh (PopShares P K pop Q kernel ph) s0 r0 → PopPair K pop Q ph s0.store r0.tasks c2 → (has : PopHas P K pop Q kernel ph b r0.tasks) →
        (m : LoopMove) → LegalLoop K pop PS m → G PS PR (left_popping P K pop Q kernel ph b r0.tasks has) m
    at_popping ph k p has (Plain (Arrive g)) h =
        arrives P K pop Q kernel PS PR (left_popping P K pop Q kernel ph b r0.tasks has) g (Popping ph c2 (record s0 { board = board_given s0.board g }) (record r0 { board = board_given r0.board g }) b refl refl (shared_given g k) p has) refl (sym k.stopped ∙ h.0.0, tt)
    at_popping ph k p has (Plain (Do a)) h = pop_does P K pop Q kernel c2 s0 r0 b ph k p has a h.0
    at_popping ph k p has (Plain (Enter v)) h = absurd (h.1 p.body)
    at_popping ph k p has (Plain Leave) h = absurd h.0.1
    at_popping ph k p has (Plain (Start j)) h = absurd h.1
    at_popping ph k p has (Plain Finish) h = absurd (h.1 p.body)
    at_popping ph k p has Calls h = yes_no h.0.no_base
    at_popping ph k p has (Takes j) h = yes_no h.0.no_base
    at_popping ph k p has (Pops j) h =
        let n = h.2.turns in
        let t : play (K.does pop n) (answers_of p.ds) ≡ record { actions = actions_of p.ds; why = Returned j } = ap (play (K.does pop n)) (sym p.answers) ∙ h.2.ended ∙ ap (λ l. record { actions = l; why = Returned j }) p.made in
        let f = ended_found (K.does pop n) p.ds (sound _ 0 (kernel.kernel_orderly pop n)) p.shaped (ap (λ (x : Trace). x.actions) t) (ap (λ (x : Trace). is_returned x.why) t) in
        let v : f.0 ≡ j = ap (λ (x : Trace). value_of x.why) (sym (played (K.does pop n) p.ds f.0 f.1) ∙ t) in
        pops ph k p has j f.0 v (p.rest n (Returns f.0) f.1)

  -- ---- in the loop

  pop_pair : (st : ℕ → ℕ) (tasks : List ℕ) → PopPair K pop Q Before st tasks (new_context (Some pop))
  pop_pair st tasks = record { ds = []; made = refl; answers = refl; body = refl; shaped = tt; counts = refl; rest = λ n t l. subst (PopsFirst Q) l (kernel.pops n) }

  module _ (s0 r0 : State) (b : Option Context) (g : Option ℕ) (k : Sh phase.Plain s0 r0) where
    abbrev FS : LoopState
    FS = here s0 None None g

    abbrev FR : State
    FR = with_contexts r0 b None

    calls : (w : W g b r0.tasks) → LegalLoop K pop FS Calls → G FS FR (left_waiting P K pop Q kernel w) Calls
    calls (Nothing e eb) h = stays P K pop Q kernel FS FR (Q.taking + 4) Calls (Popping Before (new_context (Some pop)) s0 r0 b refl refl k (pop_pair s0.store r0.tasks) eb) tt refl (omega arith) (λ i. absurd i)
    calls (Given j body e lt has eb) h = yes_no (subst (λ o. is_some o ≡ false) e h.1)
    calls (Empty e eb none) h = yes_no (subst (λ o. is_some o ≡ false) e h.1)

    takes : (j : ℕ) (w : W g b r0.tasks) → LegalLoop K pop FS (Takes j) → G FS FR (left_waiting P K pop Q kernel w) (Takes j)
    takes j (Nothing e eb) h = none_some (sym e ∙ h.1)
    takes j (Given i body e lt has eb) h =
        let task : P.task j ≡ Some body = ap P.task (sym (same_some (sym e ∙ h.1))) ∙ has in
        stays P K pop Q kernel FS FR (Q.posting + 4) (Takes j)
        (Running phase.Plain (new_context (Some body)) (new_context (Some body)) s0 r0 (ap (λ x. here s0 (body_at x) None None) (ap (λ f. f j) kernel.task ∙ task)) (ap (λ x. with_contexts r0 x None) eb)
        (λ q. kernel.not_task j (task ∙ q)) k (fresh P K pop Q kernel phase.Plain (Some body) (Some body) s0.store r0.tasks (λ i. i) refl none_yet (λ n. kernel.tasks j body n task)) tt)
        tt refl (omega arith) (λ i. absurd i)
    takes j (Empty e eb none) h = absurd (not_less j (same_some (sym e ∙ h.1)) h.2)

    at_free : (w : W g b r0.tasks) → (m : LoopMove) → LegalLoop K pop FS m → G FS FR (left_waiting P K pop Q kernel w) m
    at_free w (Plain (Arrive e)) h =
        arrives P K pop Q kernel FS FR (left_waiting P K pop Q kernel w) e (Free (record s0 { board = board_given s0.board e }) (record r0 { board = board_given r0.board e }) b g refl refl (shared_given e k) w) refl (sym k.stopped ∙ h.0.0, tt)
    at_free w (Plain (Do a)) h = absurd h.0.1
    at_free w (Plain (Enter v)) h = enters P K pop Q kernel FS FR (left_waiting P K pop Q kernel w) v
        (Handling phase.Plain (new_context (K.handler v)) (new_context (P.handler v)) (record s0 { board = board_ack s0.board v }) (record r0 { board = board_ack r0.board v }) None b (woken g) refl refl (entered {ph = phase.Plain} v tt k) (handler_pair v s0.store r0.tasks)
        (Waits refl (woken_waits g b r0.tasks w)) tt)
        refl (λ i. i) (sym k.stopped ∙ h.0.0, (ap line_of (sym k.board) ∙ h.0.1.0, refl, waits_outside g b r0.tasks w))
    at_free w (Plain Leave) h = absurd h.0.1
    at_free w (Plain (Start j)) h = absurd h.1
    at_free w (Plain Finish) h = absurd h.0.1.1
    at_free w (Pops j) h = absurd h.2
    at_free w Calls h = calls w h
    at_free w (Takes j) h = takes j w h

  carried : (s s' : LoopState) (r r' : State) (hidden : ℕ) (m : LoopMove) → s ≡ s' → r ≡ r' → (LegalLoop K pop s' m → G s' r' hidden m) → LegalLoop K pop s m → G s r hidden m
  carried s s' r r' hidden m es er f h = subst (λ x. G s x hidden m) (sym er) (subst (λ x. LegalLoop K pop x m → G x r' hidden m) (sym es) f h)

  pub step : (s : LoopState) (r : State) (m : LoopMove) (like : L s r) → LegalLoop K pop s m → G s r (left_of P K pop Q kernel like) m
  step s r m (Running ph c2 c s0 r0 es er np k p y) h = carried s _ r _ _ m es er (at_running ph c2 c s0 r0 np k p y m) h
  step s r m (Handling ph c2 c s0 r0 b2 b g es er k p w y) h = carried s _ r _ _ m es er (at_handling ph c2 c s0 r0 b2 b g k p w y m) h
  step s r m (Popping ph c2 s0 r0 b es er k p has) h = carried s _ r _ _ m es er (at_popping c2 s0 r0 b ph k p has m) h
  step s r m (Free s0 r0 b g es er k w) h = carried s _ r _ _ m es er (at_free s0 r0 b g k w m) h
