-- Each move of a loop run is at most one move of the source's run.
use Rattle.std.proofs.Common.{◌≡◌, ℕ, ◌+◌, ◌*◌, ◌≤◌, Bool, true, false, List, [], ◌∷◌, ◌++◌, Option, Some, None, refl, sym, ap, subst, ◌∙◌, inl, inr, arith, append-nil}
use Rattle.std.specs.Prelude.{IsNone, if◌then◌else◌, not}
use Rattle.std.proofs.lemmas.Bool.{false≢true}
use Rattle.nm_base.specs.Lists.{number_of}
use Rattle.nm_base.specs.declared.action.Action.{Action}
use Rattle.nm_base.specs.declared.action.Action.TheVariants.{End}
use Rattle.mote_devices.specs.declared.shown.Given.{Given as Event}
use Rattle.core_meaning.specs.Source.{Source}
use Rattle.run_meaning.specs.declared.Move.{Move}
use Rattle.run_meaning.specs.declared.Move.TheVariants.{Arrive, Do, Enter, Finish}
use Rattle.run_meaning.specs.State.{Context, State, is_inside}
use Rattle.run_meaning.specs.Runs.{Legal, after, after_all, answers_to, effect, shown_of, with_made}
use Rattle.run_meaning.specs.Steps.{IsEnter, is_access}
use Rattle.loop_runs.specs.Bodies.{Bodies, source}
use Rattle.loop_runs.specs.Kernel.{Queue, IsKernel}
use Rattle.loop_runs.specs.Loop.{LoopState, LoopMove, Plain, after_loop, shown_of_loop}
use Rattle.loop_runs.specs.Steps.{most, hidden_of, own_moves, shut_of, completes, loop_completes, IsArrival, IsAside, IsPopping, IsFollowed}
use Rattle.loop_runs.proofs.Phases.{Phase, left_in, IsWithin}
use Rattle.loop_runs.proofs.Phases as phase
use Rattle.loop_runs.proofs.Acting.{Pair, Shared, Outcome, Stays, Goes, effect_made, inside_made, same_inside, closed_of}
use Rattle.loop_runs.proofs.Popping.{PopPhase, Before, During, After}
use Rattle.loop_runs.proofs.Step.{acts}
use Rattle.loop_runs.proofs.Like.{with_contexts, acted, Like, Running, Handling, Popping, Free, Behind, Waiting, Nothing, Given, Empty, PopHas, at, left_of, left_popping, left_waiting, behind_not_pop, shared_with}

-- ---- numbers

least : (n : ℕ) → 0 ≤ n
least n = omega arith

one_least : 1 ≤ 1
one_least = omega arith

more_none : (a b : ℕ) → a ≤ b → a + 0 ≤ b
more_none a b le = omega (arith, le)

zero_none : (a : ℕ) → a ≡ 0 → a + 0 ≡ 0
zero_none a e = omega (arith, e)

zero_least : (a b : ℕ) → a ≡ 0 → a ≤ b
zero_least a b e = omega (arith, e)

counted_none : (to from one top : ℕ) → to + one ≤ from → to + one ≤ from + (top + 1) * 0
counted_none to from one top le = omega (arith, le)

counted_one : (to from one top : ℕ) → to ≤ top → one ≤ 1 → to + one ≤ from + (top + 1) * 1
counted_one to from one top low le = omega (arith, low, le)

hidden_most : (m : LoopMove) → hidden_of m ≤ 1
hidden_most (Plain (Arrive g)) = omega arith
hidden_most _ = omega arith

even_least : (a b : ℕ) → a ≡ b → a + 0 ≤ b
even_least a b e = omega (arith, e)

none_some : {k : ℕ} → Some k ≡ None → ⊥
none_some h = cc

pub not_none : true ≡ false → ⊥
not_none h = false≢true (sym h)

-- ---- moves that are told apart

-- neither an arrival nor the entry of a handler
abbrev pub IsSilent : LoopMove → Type 0
IsSilent (Plain (Arrive g)) = ⊥
IsSilent (Plain (Enter v)) = ⊥
IsSilent _ = Unit {0}

-- another move of a body
abbrev pub IsOwn : LoopMove → Type 0
IsOwn (Plain (Arrive g)) = ⊥
IsOwn (Plain (Enter v)) = ⊥
IsOwn (Plain m) = Unit {0}
IsOwn _ = ⊥

abbrev IsOfRun : LoopMove → Type 0
IsOfRun (Plain m) = Unit {0}
IsOfRun _ = ⊥

abbrev pub IsFinish : Move → Type 0
IsFinish Finish = Unit {0}
IsFinish _ = ⊥

abbrev StartsEntering : List Move → Type 0
StartsEntering [] = ⊥
StartsEntering (m ∷ ms) = IsEnter m

abbrev StartsFinishing : List Move → Type 0
StartsFinishing [] = ⊥
StartsFinishing (m ∷ ms) = IsFinish m

abbrev given_or : Event → LoopMove → Event
given_or z (Plain (Arrive g)) = g
given_or z _ = z

abbrev line_or : ℕ → LoopMove → ℕ
line_or z (Plain (Enter v)) = v
line_or z _ = z

abbrev entered_or : ℕ → List Move → ℕ
entered_or z (Enter v ∷ ms) = v
entered_or z _ = z

no_entry : (v : ℕ) → [] ≡ Enter v ∷ [] → ⊥
no_entry v h = cc

arrival_no_entry : (g : Event) (v : ℕ) → Arrive g ∷ [] ≡ Enter v ∷ [] → ⊥
arrival_no_entry g v h = subst StartsEntering (sym h) tt

arrives_not : (g : Event) (v : ℕ) → Plain (Arrive g) ≡ Plain (Enter v) → ⊥
arrives_not g v h = subst IsArrival h tt

enters_not : (g : Event) (v : ℕ) → Plain (Enter v) ≡ Plain (Arrive g) → ⊥
enters_not g v h = subst IsArrival (sym h) tt

-- a base that stays as it is
unmoved : (t : Bool) → (if t then number_of (not t) else number_of false) ≡ 0
unmoved true = refl
unmoved false = refl

-- an action of the base completes what its actions say
completes_base : (T : Source) (s0 : State) (c : Context) (a : Action) → completes T (with_contexts s0 (Some c) None) (Do a) ≡ effect_made c.made a
completes_base T s0 c a =
    ap (λ (s : State). if inside_made c.made then number_of (not (is_inside s.base)) else number_of (is_access (Do a)))
    (acted T s0 a (with_made a (answers_to (with_contexts s0 (Some c) None) a)) (Some c) None)

module _ (P K : Bodies) (pop : ℕ) (Q : Queue) (kernel : IsKernel P K pop Q) where
  abbrev pub sk : Source
  sk = source K

  abbrev pub sp : Source
  sp = source P

  -- one move of the loop run is followed
  abbrev pub Goal : LoopState → State → (hidden : ℕ) → LoopMove → Type 0
  Goal s r hidden m = (ms : List Move) × (like : Like P K pop Q kernel (after_loop K pop s m) (after_all sp r ms)) × IsFollowed P K pop Q s m r ms hidden (left_of P K pop Q kernel like)

  -- ---- never more than the most

  phase_low : (ph : Phase) → IsWithin Q ph → left_in Q ph ≤ most Q
  phase_low phase.Plain y = omega arith
  phase_low phase.Ticked y = omega arith
  phase_low (phase.Inner m) y = let low : m ≤ Q.posting = y in omega (arith, low)
  phase_low phase.Ended y = omega arith

  waiting_low : {g : Option ℕ} {b : Option Context} {tasks : List ℕ} (w : Waiting P K pop Q kernel g b tasks) → left_waiting P K pop Q kernel w ≤ most Q
  waiting_low (Nothing e eb) = omega arith
  waiting_low (Given k body e lt has eb) = omega arith
  waiting_low (Empty e eb none) = omega arith

  given_low : {k : ℕ} {b : Option Context} {tasks : List ℕ} (w : Waiting P K pop Q kernel (Some k) b tasks) → left_waiting P K pop Q kernel w + 1 ≤ most Q
  given_low (Nothing e eb) = absurd (none_some e)
  given_low (Given k body e lt has eb) = omega arith
  given_low (Empty e eb none) = omega arith

  popping_low : (ph : PopPhase) (b : Option Context) (tasks : List ℕ) (has : PopHas P K pop Q kernel ph b tasks) → left_popping P K pop Q kernel ph b tasks has ≤ most Q
  popping_low Before b tasks has = omega arith
  popping_low (During m) b tasks has = let low : m ≤ Q.taking = has.2 in omega (arith, low)
  popping_low (After k) b tasks has = given_low has

  pub low : {s : LoopState} {r : State} (like : Like P K pop Q kernel s r) → left_of P K pop Q kernel like ≤ most Q
  low (Handling ph c2 c s0 r0 b2 b g es er k p w y) = phase_low ph y
  low (Running ph c2 c s0 r0 es er np k p y) = phase_low ph y
  low (Popping ph c2 s0 r0 b es er k p has) = popping_low ph b r0.tasks has
  low (Free s0 r0 b g es er k w) = waiting_low w

  -- ---- none or one

  pub stays : (s : LoopState) (r : State) (hidden : ℕ) (m : LoopMove) (like : Like P K pop Q kernel (after_loop K pop s m) r) → IsSilent m → shown_of_loop K pop s m ≡ [] → left_of P K pop Q kernel like + hidden_of m ≤ hidden
      → (IsPopping pop s.run.base → shut_of (after_loop K pop s m).run.base (left_of P K pop Q kernel like) + hidden_of m ≤ shut_of s.run.base hidden) → Goal s r hidden m
  stays s r hidden m like silent shown le shuts = (
    [],
    like,
    record {
      legal = tt;
      shown = sym shown;
      few = least 1;
      counted = counted_none (left_of P K pop Q kernel like) hidden (hidden_of m) (most Q) le;
      shuts = shuts;
      arrives = λ g e. absurd (subst IsSilent e silent);
      enters = λ v. ((λ e. absurd (no_entry v e)), λ e. absurd (subst IsSilent e silent));
      finishes = λ e. absurd (subst StartsFinishing (sym e) tt);
      calls = λ e. refl;
      effects = λ none. least (loop_completes K s m);
      aside = λ none beside. refl;
      closes = λ none into out. inl refl;
    },
  )

  -- the source completes no more, and ends what is open
  pub record Owes (s : LoopState) (r : State) (hidden hidden' : ℕ) (m : LoopMove) (x : Move) : Type 0 where
    pub shuts : IsPopping pop s.run.base → shut_of (after_loop K pop s m).run.base hidden' + hidden_of m ≤ shut_of s.run.base hidden
    pub finishes : IsFinish x → m ≡ Plain Finish
    pub effects : IsNone r.handler → completes sp r x ≤ loop_completes K s m
    pub aside : IsNone r.handler → IsAside pop s.run.base → completes sp r x ≡ 0
    pub closes : IsNone s.run.handler → is_inside s.run.base ≡ true → is_inside r.base ≡ false → (m ≡ Plain (Do End)) × (is_inside (after_loop K pop s m).run.base ≡ false)

  pub goes : (s : LoopState) (r : State) (hidden : ℕ) (m : LoopMove) (x : Move) (like : Like P K pop Q kernel (after_loop K pop s m) (after sp r x)) → IsOwn m → own_moves (x ∷ []) ≡ 1 → (IsEnter x → ⊥) → Legal sp r x → shown_of_loop K pop s m ≡ shown_of r x
      → Owes s r hidden (left_of P K pop Q kernel like) m x → Goal s r hidden m
  goes s r hidden m x like of_body own other legal shown owes = (
    x ∷ [],
    like,
    record {
      legal = (legal, tt);
      shown = append-nil (shown_of r x) ∙ sym shown;
      few = one_least;
      counted = subst (λ n. left_of P K pop Q kernel like + hidden_of m ≤ hidden + (most Q + 1) * n) (sym own) (counted_one (left_of P K pop Q kernel like) hidden (hidden_of m) (most Q) (low like) (hidden_most m));
      shuts = owes.shuts;
      arrives = λ g e. absurd (subst IsOwn e of_body);
      enters = λ v. ((λ e. absurd (other (subst StartsEntering (sym e) tt))), λ e. absurd (subst IsOwn e of_body));
      finishes = λ e. owes.finishes (subst StartsFinishing (sym e) tt);
      calls = λ e. absurd (subst IsOwn e of_body);
      effects = λ none. more_none (completes sp r x) (loop_completes K s m) (owes.effects none);
      aside = λ none beside. zero_none (completes sp r x) (owes.aside none beside);
      closes = λ none into out. inr (inr (owes.closes none into out));
    },
  )

  -- where a handler runs, nothing is owed
  pub owes_none : (s : LoopState) (r : State) (hidden hidden' : ℕ) (m : LoopMove) (x : Move) → (IsPopping pop s.run.base → ⊥) → (IsFinish x → ⊥) → (IsNone s.run.handler → ⊥) → (IsNone r.handler → ⊥) → Owes s r hidden hidden' m x
  owes_none s r hidden hidden' m x other no_finish busy busy' = record {
    shuts = λ i. absurd (other i);
    finishes = λ i. absurd (no_finish i);
    effects = λ none. absurd (busy' none);
    aside = λ none. absurd (busy' none);
    closes = λ none. absurd (busy none);
  }

  pub arrives : (s : LoopState) (r : State) (hidden : ℕ) (g : Event) (like : Like P K pop Q kernel (after_loop K pop s (Plain (Arrive g))) (after sp r (Arrive g))) → left_of P K pop Q kernel like ≡ hidden → Legal sp r (Arrive g) → Goal s r hidden (Plain (Arrive g))
  arrives s r hidden g like same legal = (
    Arrive g ∷ [],
    like,
    record {
      legal = (legal, tt);
      shown = refl;
      few = one_least;
      counted = counted_none (left_of P K pop Q kernel like) hidden 0 (most Q) (even_least (left_of P K pop Q kernel like) hidden same);
      shuts = λ i. even_least (shut_of s.run.base (left_of P K pop Q kernel like)) (shut_of s.run.base hidden) (ap (shut_of s.run.base) same);
      arrives = λ g' e. (ap (λ y. Arrive y ∷ []) (ap (given_or g) e), same);
      enters = λ v. ((λ e. absurd (arrival_no_entry g v e)), λ e. absurd (arrives_not g v e));
      finishes = λ e. absurd (subst StartsFinishing (sym e) tt);
      calls = λ e. absurd (subst IsOfRun e tt);
      effects = λ none. more_none (completes sp r (Arrive g)) (loop_completes K s (Plain (Arrive g))) (zero_least (completes sp r (Arrive g)) (loop_completes K s (Plain (Arrive g))) (unmoved (is_inside r.base)));
      aside = λ none beside. zero_none (completes sp r (Arrive g)) (unmoved (is_inside r.base));
      closes = λ none into out. inr (inl tt);
    },
  )

  pub enters : (s : LoopState) (r : State) (hidden : ℕ) (v : ℕ) (like : Like P K pop Q kernel (after_loop K pop s (Plain (Enter v))) (after sp r (Enter v))) → is_inside s.run.base ≡ false → (IsPopping pop s.run.base → ⊥) → Legal sp r (Enter v) → Goal s r hidden (Plain (Enter v))
  enters s r hidden v like outside other legal = (
    Enter v ∷ [],
    like,
    record {
      legal = (legal, tt);
      shown = refl;
      few = one_least;
      counted = counted_one (left_of P K pop Q kernel like) hidden 1 (most Q) (low like) one_least;
      shuts = λ i. absurd (other i);
      arrives = λ g e. absurd (enters_not g v e);
      enters = λ v'. ((λ e. ap (λ y. Plain (Enter y)) (ap (entered_or v) e)), λ e. ap (λ y. Enter y ∷ []) (ap (line_or v) e));
      finishes = λ e. absurd (subst StartsFinishing (sym e) tt);
      calls = λ e. absurd (subst IsOfRun e tt);
      effects = λ none. more_none (completes sp r (Enter v)) (loop_completes K s (Plain (Enter v))) (zero_least (completes sp r (Enter v)) (loop_completes K s (Plain (Enter v))) (unmoved (is_inside r.base)));
      aside = λ none beside. zero_none (completes sp r (Enter v)) (unmoved (is_inside r.base));
      closes = λ none into out. absurd (false≢true (sym outside ∙ into));
    },
  )

  -- ---- actions

  -- an action of the base
  pub base_does : (ph : Phase) (c2 c : Context) (s0 r0 : State) → (c2.body ≡ Some pop → ⊥) → Shared P K pop Q kernel ph s0 r0 → Pair P K pop Q kernel ph s0.store r0.tasks c2 c → IsWithin Q ph →
      (a : Action) → Legal sk (with_contexts s0 (Some c2) None) (Do a) → Goal (at P K pop Q kernel s0 (Some c2) None None) (with_contexts r0 (Some c) None) (left_in Q ph) (Plain (Do a))
  base_does ph c2 c s0 r0 not_pop k p y a h = by (acts P K pop Q kernel (with_contexts s0 (Some c2) None) (with_contexts r0 (Some c) None) c2 c ph p (shared_with P K pop Q kernel (Some c2) None (Some c) None k) y a h.1)
    where
      by : Outcome P K pop Q kernel ph (with_contexts s0 (Some c2) None) (with_contexts r0 (Some c) None) a c2 c → Goal (at P K pop Q kernel s0 (Some c2) None None) (with_contexts r0 (Some c) None) (left_in Q ph) (Plain (Do a))
      by (Stays ph' y' le k' p' sh) = stays (at P K pop Q kernel s0 (Some c2) None None) (with_contexts r0 (Some c) None) (left_in Q ph) (Plain (Do a))
          (Running ph' _ c (effect sk (with_contexts s0 (Some c2) None) a) (with_contexts r0 (Some c) None) (ap (λ x. record { run = x; gave = None }) (acted sk s0 a (with_made a (answers_to (with_contexts s0 (Some c2) None) a)) (Some c2) None)) refl not_pop k' p' y')
          tt sh le (λ i. absurd (not_pop i))
      by (Goes ph' b y' open' less ends can k' p' sh) =
          let e2 : completes sk (with_contexts s0 (Some c2) None) (Do a) ≡ effect_made c2.made a = completes_base sk s0 c2 a in
          let e1 : completes sp (with_contexts r0 (Some c) None) (Do b) ≡ effect_made c.made b = completes_base sp r0 c b in
          goes (at P K pop Q kernel s0 (Some c2) None None) (with_contexts r0 (Some c) None) (left_in Q ph) (Plain (Do a)) (Do b)
          (Running ph' _ _ (effect sk (with_contexts s0 (Some c2) None) a) (effect sp (with_contexts r0 (Some c) None) b) (ap (λ x. record { run = x; gave = None }) (acted sk s0 a (with_made a (answers_to (with_contexts s0 (Some c2) None) a)) (Some c2) None))
          (acted sp r0 b (with_made b (answers_to (with_contexts r0 (Some c) None) b)) (Some c) None) not_pop k' p' y')
          tt refl (λ i. i) (sym k.stopped ∙ h.0, can) sh
          (record {
            shuts = λ i. absurd (not_pop i);
            finishes = λ i. absurd i;
            effects = λ none. subst (λ n. n ≤ completes sk (with_contexts s0 (Some c2) None) (Do a)) (sym e1) (subst (λ n. effect_made c.made b ≤ n) (sym e2) less);
            aside = λ none beside. absurd (not_pop beside);
            closes = λ none into out.
                let end = ends (closed_of ph c2.made c.made p.counts into out) in (
                  ap (λ x. Plain (Do x)) end.0,
                  ap (λ (s : State). is_inside s.base) (acted sk s0 a (with_made a (answers_to (with_contexts s0 (Some c2) None) a)) (Some c2) None) ∙ same_inside ph' (c2.made ++ a ∷ []) (c.made ++ b ∷ []) open' p'.counts ∙ end.1 ∙ out,
                );
          })

  -- an action of a handler
  pub handler_does : (ph : Phase) (c2 c : Context) (s0 r0 : State) (b2 b : Option Context) (g : Option ℕ) → Shared P K pop Q kernel ph s0 r0 → Pair P K pop Q kernel ph s0.store r0.tasks c2 c → Behind P K pop Q kernel b2 b None g → IsWithin Q ph →
      (a : Action) → Legal sk (with_contexts s0 b2 (Some c2)) (Do a) → Goal (at P K pop Q kernel s0 b2 (Some c2) g) (with_contexts r0 b (Some c)) (left_in Q ph) (Plain (Do a))
  handler_does ph c2 c s0 r0 b2 b g k p behind y a h = by (acts P K pop Q kernel (with_contexts s0 b2 (Some c2)) (with_contexts r0 b (Some c)) c2 c ph p (shared_with P K pop Q kernel b2 (Some c2) b (Some c) k) y a h.1)
    where
      by : Outcome P K pop Q kernel ph (with_contexts s0 b2 (Some c2)) (with_contexts r0 b (Some c)) a c2 c → Goal (at P K pop Q kernel s0 b2 (Some c2) g) (with_contexts r0 b (Some c)) (left_in Q ph) (Plain (Do a))
      by (Stays ph' y' le k' p' sh) = stays (at P K pop Q kernel s0 b2 (Some c2) g) (with_contexts r0 b (Some c)) (left_in Q ph) (Plain (Do a))
          (Handling ph' _ c (effect sk (with_contexts s0 b2 (Some c2)) a) (with_contexts r0 b (Some c)) b2 b g (ap (λ x. record { run = x; gave = g }) (acted sk s0 a (with_made a (answers_to (with_contexts s0 b2 (Some c2)) a)) b2 (Some c2))) refl k' p' behind y')
          tt sh le (λ i. absurd (behind_not_pop P K pop Q kernel behind i))
      by (Goes ph' d y' open' less ends can k' p' sh) = goes (at P K pop Q kernel s0 b2 (Some c2) g) (with_contexts r0 b (Some c)) (left_in Q ph) (Plain (Do a)) (Do d)
          (Handling ph' _ _ (effect sk (with_contexts s0 b2 (Some c2)) a) (effect sp (with_contexts r0 b (Some c)) d) b2 b g (ap (λ x. record { run = x; gave = g }) (acted sk s0 a (with_made a (answers_to (with_contexts s0 b2 (Some c2)) a)) b2 (Some c2)))
          (acted sp r0 d (with_made d (answers_to (with_contexts r0 b (Some c)) d)) b (Some c)) k' p' behind y')
          tt refl (λ i. i) (sym k.stopped ∙ h.0, can) sh
          (owes_none (at P K pop Q kernel s0 b2 (Some c2) g) (with_contexts r0 b (Some c)) (left_in Q ph) (left_in Q ph') (Plain (Do a)) (Do d) (λ i. behind_not_pop P K pop Q kernel behind i) (λ i. i) not_none not_none)
