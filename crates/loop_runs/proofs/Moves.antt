-- The moves of a loop run that are no actions of the source's contexts: those of pop, and ends of contexts.
use Rattle.std.proofs.Common.{◌≡◌, ℕ, zero, suc, ◌+◌, ◌≤◌, true, false, List, [], ◌∷◌, ◌++◌, Option, Some, None, refl, sym, ap, subst, ◌∙◌, ◌⊎◌, inl, inr, arith}
use Rattle.std.specs.Prelude.{count_by, IsNone, if◌then◌else◌, not, ◌||◌}
use Rattle.std.proofs.lemmas.Bool.{le-ltb, lt-ltb}
use Rattle.nm_base.specs.Lists.{number_of}
use Rattle.nm_base.specs.declared.action.Action.{Action}
use Rattle.nm_base.specs.declared.action.Action.TheVariants.{Begin, End}
use Rattle.nm_base.specs.Behaviour.{Behaviour, Returns, Asks, Cut, Performed, play, performed, is_returned, is_begin, is_end}
use Rattle.run_meaning.specs.declared.Move.TheVariants.{Do, Start}
use Rattle.run_meaning.specs.State.{Context, State, is_inside}
use Rattle.run_meaning.specs.Runs.{HasEnded, IsFirst, Legal, answers_to, effect, with_made, body_at, rest_of}
use Rattle.queue_law.specs.Contract.{first_of, Inside}
use Rattle.loop_runs.specs.Bodies.{Bodies}
use Rattle.loop_runs.specs.Kernel.{Queue, Stands, IsKernel, Gives}
use Rattle.loop_runs.specs.Loop.{LoopState, Plain, after_loop}
use Rattle.loop_runs.specs.Steps.{completes, is_empty, loop_completes, shut_of}
use Rattle.loop_runs.proofs.Leads.{tree_of, actions_of, answers_of, Leads, Begins, played, ended_found}
use Rattle.loop_runs.proofs.Phases.{Phase, Rel, IsInner, changes_begin, changes_next, inside_last, inside_begins, inside_next, inside_ends, end_next}
use Rattle.loop_runs.proofs.Phases as phase
use Rattle.loop_runs.proofs.Acting.{Pair, Shared, count_then, inside_made, act_of_tree, sound_of}
use Rattle.loop_runs.proofs.Doing.{inner_same, inner_shaped, inner_shown, inner_not_end, inner_begin}
use Rattle.loop_runs.proofs.Popping.{PopPhase, Before, During, After, PopCounts, PopPair, HasTaken, pop_found, pop_goes}
use Rattle.loop_runs.proofs.Like.{with_contexts, acted, Popping, Given, Empty, PopShares, PopHas, HeadIsPlace, IsPlace, at, left_popping, shared_with}
use Rattle.loop_runs.proofs.Loops.{sk, sp, Goal, stays, goes}

pub gives_stuck : (Q : Queue) (k : ℕ) (t : Behaviour) (a : Action) → Gives Q k t → Begins t a → ⊥
gives_stuck Q k Cut a e h = h
gives_stuck Q k (Returns v) a e h = h
gives_stuck Q k _ a e h = e

-- a body that returns is in no statement of the queue
pub returned : (Q : Queue) (ph : Phase) (st : ℕ → ℕ) (tasks : List ℕ) (v : ℕ) (u : Behaviour) → (ph ≡ phase.Ticked → Stands Q st tasks) → Rel Q ph st tasks (Returns v) u → ((w : ℕ) × (u ≡ Returns w)) × (ph ≡ phase.Plain)
returned Q phase.Plain st tasks v (Returns w) stands e = ((w, refl), refl)
returned Q phase.Plain st tasks v _ stands e = absurd e
returned Q phase.Ticked st tasks v (Asks p g) stands e = absurd (e.1 st tasks (stands refl))
returned Q phase.Ticked st tasks v _ stands e = absurd e
returned Q (phase.Inner zero) st tasks v (Asks p g) stands e = absurd e.1
returned Q (phase.Inner (suc m)) st tasks v (Asks p g) stands e = absurd e.1
returned Q (phase.Inner m) st tasks v _ stands e = absurd e
returned Q phase.Ended st tasks v u stands e = absurd e

zero_least : (a b : ℕ) → a ≡ 0 → a ≤ b
zero_least a b e = omega (arith, e)

more_made : (xs : List Action) (x : Action) → is_empty (xs ++ x ∷ []) ≡ false
more_made [] x = refl
more_made (y ∷ xs) x = refl

-- behind its End no atomic statement is open
balanced : (made : List Action) → count_by is_begin made ≡ count_by is_end made + 1 → (count_by is_begin (made ++ End ∷ []) ≡ count_by is_end (made ++ End ∷ [])) × (is_empty (made ++ End ∷ []) ≡ false)
balanced made one =
    let b2 = count_then is_begin made End in
    let e2 = count_then is_end made End in
    (omega (arith, b2, e2, one), more_made made End)

pub outside : (made : List Action) → count_by is_begin made ≡ count_by is_end made → inside_made made ≡ false
outside made same = le-ltb (count_by is_end made) (count_by is_begin made) (omega (arith, same))

pub inside : (made : List Action) → count_by is_begin made ≡ count_by is_end made + 1 → inside_made made ≡ true
inside made one = lt-ltb (count_by is_end made) (count_by is_begin made) (omega (arith, one))

-- ---- the moves until pop has ended

abbrev pub shut_in : PopPhase → ℕ → ℕ
shut_in Before hidden = hidden
shut_in (During m) hidden = hidden
shut_in (After k) hidden = 1

pub shut_is : (ph : PopPhase) (c : Context) (hidden : ℕ) → PopCounts ph c.made → shut_of (Some c) hidden ≡ shut_in ph hidden
shut_is Before c hidden none = ap (λ made. if inside_made made || is_empty made then hidden else 1) none
shut_is (During m) c hidden one = ap (λ t. if t || is_empty c.made then hidden else 1) (inside c.made one)
shut_is (After k) c hidden same =
    ap (λ t. if t || is_empty c.made then hidden else 1) (outside c.made same.0) ∙ ap (λ t. if false || t then hidden else 1) same.1

-- one move on
shut_less : (ph ph' : PopPhase) (c c' : Context) (from to : ℕ) → PopCounts ph c.made → PopCounts ph' c'.made → shut_in ph' to + 1 ≤ shut_in ph from → shut_of (Some c') to + 1 ≤ shut_of (Some c) from
shut_less ph ph' c c' from to counts counts' le =
    subst (λ n. n + 1 ≤ shut_of (Some c) from) (sym (shut_is ph' c' to counts')) (subst (λ n. shut_in ph' to + 1 ≤ n) (sym (shut_is ph c from counts)) le)

module _ (P K : Bodies) (pop : ℕ) (Q : Queue) (kernel : IsKernel P K pop Q) where
  pub ended : (ph : Phase) (st : ℕ → ℕ) (tasks : List ℕ) (c2 c : Context) → (ph ≡ phase.Ticked → Stands Q st tasks) → Pair P K pop Q kernel ph st tasks c2 c → HasEnded (sk P K pop Q kernel) c2 → HasEnded (sp P K pop Q kernel) c × (ph ≡ phase.Plain)
  ended ph st tasks c2 c stands p h =
      let n = h.turns in
      let t = act_of_tree P K pop Q kernel K c2.body c2.answers n in
      let all : (play (tree_of K c2.body n) (answers_of p.ds2)).actions ≡ actions_of p.ds2 =
      subst (λ l. (play (tree_of K c2.body n) l).actions ≡ actions_of p.ds2) p.answers2 (ap (λ (w : Performed). w.actions) (sym t) ∙ h.all ∙ p.made2) in
      let end : is_returned (play (tree_of K c2.body n) (answers_of p.ds2)).why ≡ true =
      subst (λ l. is_returned (play (tree_of K c2.body n) l).why ≡ true) p.answers2 (ap (λ (w : Performed). w.ended) (sym t) ∙ h.ended) in
      let f = ended_found (tree_of K c2.body n) p.ds2 (sound_of P K pop Q kernel c2.body n) p.shaped all end in
      let x = p.rest n (Returns f.0) f.1 in
      let y = returned Q ph st tasks f.0 x.0 stands x.2 in
      let z = played (tree_of P c.body n) p.ds y.0.0 (subst (Leads (tree_of P c.body n) p.ds) y.0.1 x.1) in
      let w : performed (tree_of P c.body n) c.answers ≡ record { actions = c.made; ended = true } =
      ap (λ l. performed (tree_of P c.body n) l) p.answers ∙ ap (λ tr. record { actions = tr.actions; ended = is_returned tr.why }) z ∙ ap (λ l. record { actions = l; ended = true }) (sym p.made) in
      let v = act_of_tree P K pop Q kernel P c.body c.answers n ∙ w in
      (record { turns = n; all = ap (λ (q : Performed). q.actions) v; ended = ap (λ (q : Performed). q.ended) v }, y.1)

  head_place : (st : ℕ → ℕ) (tasks : List ℕ) → Stands Q st tasks → HeadIsPlace P K pop Q kernel tasks
  head_place st [] h = tt
  head_place st (k ∷ tasks) h = let b = kernel.bodies st k tasks h in record { low = kernel.queue.places st k tasks h; body = b.0; has = b.1 }

  -- a task starts where no base was
  start_completes : (r0 : State) (b : Option Context) (k : ℕ) → b ≡ None → completes (sp P K pop Q kernel) (with_contexts r0 b None) (Start k) ≡ 0
  start_completes r0 b k e = ap (λ o. if is_inside o then number_of (not (is_inside (body_at (P.task k)))) else number_of false) e

  -- ---- an action of pop

  module _ (c2 : Context) (s0 r0 : State) (b : Option Context) where
    abbrev S : LoopState
    S = at P K pop Q kernel s0 (Some c2) None None

    abbrev R : State
    R = with_contexts r0 b None

    abbrev Does : (hidden : ℕ) → Action → Type 0
    Does hidden a = Goal P K pop Q kernel S R hidden (Plain (Do a))

    abbrev Sh : PopPhase → Type 0
    Sh ph = Shared P K pop Q kernel (PopShares P K pop Q kernel ph) s0 r0

    abbrev Pa : PopPhase → Type 0
    Pa ph = PopPair K pop Q ph s0.store r0.tasks c2

    abbrev Has : PopPhase → Type 0
    Has ph = PopHas P K pop Q kernel ph b r0.tasks

    pop_begins : Sh Before → Pa Before → Has Before → Does (Q.taking + 3) Begin
    pop_begins sh p has = stays P K pop Q kernel S R (Q.taking + 3) (Plain (Do Begin))
        (Popping (During Q.taking) (with_made Begin [] c2) s0 r0 b refl refl (record { board = sh.board; stopped = sh.stopped; same = sh.same; queue = tt })
        (pop_goes P K pop Q kernel p (During Q.taking) s0.store r0.tasks Begin [] ((λ i. absurd i), λ i. refl) one
        (λ v t e nx. changes_next Q Q.taking rest_of (λ tasks. Gives Q (first_of tasks)) s0.store r0.tasks sh.queue v t (record { action = Begin; answers = [] }) e nx))
        (has, head_place s0.store r0.tasks sh.queue, same_most Q.taking))
        tt refl (omega arith) (λ i. shut_less Before (During Q.taking) c2 (with_made Begin [] c2) (Q.taking + 3) (Q.taking + 2) p.counts one (omega arith))
      where
        same_most : (n : ℕ) → n ≤ n
        same_most n = omega arith

        one : PopCounts (During Q.taking) (c2.made ++ Begin ∷ [])
        one = subst (λ m. count_by is_begin (m ++ Begin ∷ []) ≡ count_by is_end (m ++ Begin ∷ []) + 1) (sym p.counts) (omega arith)

    -- its End: the source starts the task that was taken
    pop_ends : (j : ℕ) → Sh (During j) → (p : Pa (During j)) → Has (During j) → Legal (sk P K pop Q kernel) (with_contexts s0 (Some c2) None) (Do End) → Stands Q s0.store (rest_of r0.tasks) → (l : List ℕ) → r0.tasks ≡ l → Does (j + 2) End
    pop_ends j sh p has h st [] e = stays P K pop Q kernel S R (j + 2) (Plain (Do End))
        (Popping (After 255) (with_made End [] c2) s0 r0 b refl refl (record { board = sh.board; stopped = sh.stopped; same = sh.same; queue = subst (Stands Q s0.store) (ap rest_of e ∙ sym e) st })
        (pop_goes P K pop Q kernel p (After 255) s0.store r0.tasks End [] ((λ i. absurd i), λ i. refl) (balanced c2.made p.counts)
        (λ v t x nx. subst (λ i. Gives Q i t) (ap first_of e) (end_next Q (HasTaken Q r0.tasks) j v t (record { action = End; answers = [] }) s0.store refl x nx).1))
        (Empty refl has.0 e))
        tt refl (omega arith) (λ i. shut_less (During j) (After 255) c2 (with_made End [] c2) (j + 2) (0 + 1) p.counts (balanced c2.made p.counts) (omega arith))
    pop_ends j sh p has h st (k ∷ l) e =
        let head : IsPlace P K pop Q kernel k = subst (HeadIsPlace P K pop Q kernel) e has.1 in
        goes P K pop Q kernel S R (j + 2) (Plain (Do End)) (Start k)
        (Popping (After k) (with_made End [] c2) s0 (record r0 { tasks = rest_of r0.tasks }) (body_at (P.task k)) refl refl (record { board = sh.board; stopped = sh.stopped; same = sh.same; queue = st })
        (pop_goes P K pop Q kernel p (After k) s0.store (rest_of r0.tasks) End [] ((λ i. absurd i), λ i. refl) (balanced c2.made p.counts)
        (λ v t x nx. subst (λ i. Gives Q i t) (ap first_of e) (end_next Q (HasTaken Q r0.tasks) j v t (record { action = End; answers = [] }) s0.store refl x nx).1))
        (Given k head.body refl head.low head.has (ap body_at head.has)))
        tt refl (λ i. i) (sym sh.stopped ∙ h.0, (subst (λ o. IsNone o) (sym has.0) refl, refl, subst (λ y. IsFirst y k) (sym e) refl)) refl
        (record {
          shuts = λ i. shut_less (During j) (After k) c2 (with_made End [] c2) (j + 2) (Q.posting + 4 + 1) p.counts (balanced c2.made p.counts) (omega arith);
          finishes = λ i. absurd i;
          effects = λ none. zero_least (completes (sp P K pop Q kernel) R (Start k)) (loop_completes K S (Plain (Do End))) (start_completes r0 b k has.0);
          aside = λ none beside. start_completes r0 b k has.0;
          closes = λ none into out. (refl, outside (c2.made ++ End ∷ []) (balanced c2.made p.counts).0);
        })

    -- an action on the queue's bytes
    pop_acts : (j : ℕ) → Sh (During (suc j)) → (p : Pa (During (suc j))) → Has (During (suc j)) → (a : Action) → IsInner Q a → Does (suc j + 2) a
    pop_acts j sh p has a x = stays P K pop Q kernel S R (suc j + 2) (Plain (Do a))
        (Popping (During j) (with_made a (answers_to s a) c2) (effect (sk P K pop Q kernel) s a) R b now refl
        (inner_same P K pop Q kernel (phase.Inner (suc j)) (phase.Inner j) s R a x (shared_with P K pop Q kernel (Some c2) None b None sh) tt)
        (pop_goes P K pop Q kernel p (During j) (effect (sk P K pop Q kernel) s a).store r0.tasks a (answers_to s a) (inner_shaped P K pop Q kernel s a x) one
        (λ v t e nx. inside_next Q (HasTaken Q r0.tasks) j (sk P K pop Q kernel) s v t (record { action = a; answers = answers_to s a }) (inner_not_end Q a x) refl e nx))
        (has.0, has.1, fewer))
        tt (inner_shown P K pop Q kernel s a x) (omega arith)
        (λ i. subst (λ (base : Option Context). shut_of base (j + 2) + 1 ≤ shut_of (Some c2) (suc j + 2)) (sym (ap (λ (l : LoopState). l.run.base) now))
        (shut_less (During (suc j)) (During j) c2 (with_made a (answers_to s a) c2) (suc j + 2) (j + 2) p.counts one (omega arith)))
      where
        s : State
        s = with_contexts s0 (Some c2) None

        now : after_loop K pop S (Plain (Do a)) ≡ at P K pop Q kernel (effect (sk P K pop Q kernel) s a) (Some (with_made a (answers_to s a) c2)) None None
        now = ap (λ y. record { run = y; gave = None }) (acted (sk P K pop Q kernel) s0 a (with_made a (answers_to s a)) (Some c2) None)

        one : PopCounts (During j) (c2.made ++ a ∷ [])
        one =
            let b2 = count_then is_begin c2.made a in
            let e2 = count_then is_end c2.made a in
            let nb = ap number_of (inner_begin Q a x).0 in
            let ne = ap number_of (inner_begin Q a x).1 in
            let before : count_by is_begin c2.made ≡ count_by is_end c2.made + 1 = p.counts in
            omega (arith, b2, e2, nb, ne, before)

        fewer : j ≤ Q.taking
        fewer = let few : suc j ≤ Q.taking = has.2 in omega (arith, few)

    pub pop_does : (ph : PopPhase) → Sh ph → Pa ph → (has : Has ph) → (a : Action) → Legal (sk P K pop Q kernel) (with_contexts s0 (Some c2) None) (Do a) → Does (left_popping P K pop Q kernel ph b r0.tasks has) a
    pop_does (After k) sh p has a h = let f = pop_found P K pop Q kernel p a h.1 in absurd (gives_stuck Q k f.1 a (p.rest f.0 f.1 f.2) f.3)
    pop_does Before sh p has a h =
        let f = pop_found P K pop Q kernel p a h.1 in
        subst (Does (Q.taking + 3)) (changes_begin Q Q.taking rest_of (λ tasks. Gives Q (first_of tasks)) s0.store r0.tasks sh.queue f.1 a (p.rest f.0 f.1 f.2) f.3) (pop_begins sh p has)
    pop_does (During zero) sh p has a h =
        let f = pop_found P K pop Q kernel p a h.1 in
        let into = p.rest f.0 f.1 f.2 in
        let x = inside_last Q (HasTaken Q r0.tasks) f.1 s0.store a into f.3 in
        subst (Does (zero + 2)) (sym x)
        (pop_ends zero sh p has (subst (λ y. Legal (sk P K pop Q kernel) (with_contexts s0 (Some c2) None) (Do y)) x h) (inside_ends Q (HasTaken Q r0.tasks) zero f.1 s0.store into (subst (Begins f.1) x f.3)).holds.0 r0.tasks refl)
    pop_does (During (suc j)) sh p has a h = let f = pop_found P K pop Q kernel p a h.1 in by (inside_begins Q (HasTaken Q r0.tasks) j f.1 s0.store a (p.rest f.0 f.1 f.2) f.3) f.1 (p.rest f.0 f.1 f.2) f.3
      where
        by : (a ≡ End) ⊎ IsInner Q a → (t : Behaviour) → Inside Q.is_byte t (suc j) s0.store (HasTaken Q r0.tasks) → Begins t a → Does (suc j + 2) a
        by (inl x) t into starts = subst (Does (suc j + 2)) (sym x)
            (pop_ends (suc j) sh p has (subst (λ y. Legal (sk P K pop Q kernel) (with_contexts s0 (Some c2) None) (Do y)) x h) (inside_ends Q (HasTaken Q r0.tasks) (suc j) t s0.store into (subst (Begins t) x starts)).holds.0 r0.tasks refl)
        by (inr x) t into starts = pop_acts j sh p has a x
