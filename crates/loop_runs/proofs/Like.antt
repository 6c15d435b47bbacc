-- How a state of a loop run stands to one of the source's run.
use Rattle.std.proofs.Common.{◌≡◌, ℕ, ◌+◌, ◌<◌, ◌≤◌, false, List, [], ◌∷◌, Option, Some, None, refl, subst, arith}
use Rattle.std.specs.Prelude.{count_by}
use Rattle.std.proofs.lemmas.Bool.{ltb-false, le-ltb}
use Rattle.nm_base.specs.declared.action.Action.{Action}
use Rattle.nm_base.specs.declared.action.Action.TheVariants.{Load, Store, In, Out, Post, Begin, End, Tick, Fault}
use Rattle.nm_base.specs.Behaviour.{Behaviour, Returns, Does, Asks, Faults, Cut, is_begin, is_end}
use Rattle.core_meaning.specs.Source.{Source}
use Rattle.run_meaning.specs.State.{Context, State, new_context, is_inside}
use Rattle.run_meaning.specs.Runs.{effect, in_acting, in_context, base_after}
use Rattle.loop_runs.specs.Bodies.{Bodies}
use Rattle.loop_runs.specs.Kernel.{Queue, IsKernel}
use Rattle.loop_runs.specs.Loop.{LoopState}
use Rattle.loop_runs.specs.Steps.{IsPopping}
use Rattle.loop_runs.proofs.Leads.{tree_of}
use Rattle.loop_runs.proofs.Phases.{Phase, Plain, Ticked, Inner, Ended, left_in, IsWithin, Rel}
use Rattle.loop_runs.proofs.Acting.{Counts, IsClosed, Pair, Shared}
use Rattle.loop_runs.proofs.Popping.{PopPhase, Before, During, After, PopPair}

-- a state with this base and this handler
abbrev pub with_contexts : State → Option Context → Option Context → State
with_contexts s b h = record s { base = b; handler = h }

pub acted : (T : Source) (s : State) (a : Action) (f : Context → Context) (b h : Option Context) →
    in_acting f (effect T (with_contexts s b h) a) ≡ with_contexts (effect T (with_contexts s b h) a) (base_after h f b) (in_context f h)
acted T s (Load x w) f b h = refl
acted T s (Store x w v) f b h = refl
acted T s (In p) f b h = refl
acted T s (Out p v) f b h = refl
acted T s (Post k) f b h = refl
acted T s Begin f b h = refl
acted T s End f b h = refl
acted T s Tick f b h = refl
acted T s (Fault c) f b h = refl

abbrev pub IsOpen : Phase → Type 0
IsOpen Plain = Unit {0}
IsOpen Ticked = Unit {0}
IsOpen Ended = Unit {0}
IsOpen (Inner m) = ⊥

module _ (P K : Bodies) (pop : ℕ) (Q : Queue) (kernel : IsKernel P K pop Q) where
  -- between the pop of a task and its start
  pub data Waiting (gave : Option ℕ) (b : Option Context) (tasks : List ℕ) : Type 0 where
    Nothing : gave ≡ None → b ≡ None → Waiting gave b tasks
    Given : (k body : ℕ) → gave ≡ Some k → k < 255 → P.task k ≡ Some body → b ≡ Some (new_context (Some body)) → Waiting gave b tasks
    Empty : gave ≡ Some 255 → b ≡ None → tasks ≡ [] → Waiting gave b tasks

  abbrev pub left_waiting : {gave : Option ℕ} {b : Option Context} {tasks : List ℕ} → Waiting gave b tasks → ℕ
  left_waiting (Nothing e eb) = Q.taking + 4
  left_waiting (Given k body e lt has eb) = Q.posting + 4
  left_waiting (Empty e eb none) = 0

  -- a base behind a handler
  pub data Behind (b2 b gave' : Option Context) (gave : Option ℕ) : Type 0 where
    Suspended : (ph : Phase) (c2 c : Context) → IsOpen ph → (c2.body ≡ Some pop → ⊥) → b2 ≡ Some c2 → b ≡ Some c → gave ≡ None → ((st : ℕ → ℕ) (tasks : List ℕ) → Pair P K pop Q kernel ph st tasks c2 c) → Behind b2 b gave' gave
    Waits : b2 ≡ None → Waiting gave b (0 ∷ []) → Behind b2 b gave' gave

  -- pop goes on to its end
  pub behind_not_pop : {b2 b : Option Context} {g : Option ℕ} → Behind b2 b None g → IsPopping pop b2 → ⊥
  behind_not_pop (Suspended ph c2 c open' np eb2 eb eg pa) h = np (subst (IsPopping pop) eb2 h)
  behind_not_pop (Waits eb2 w) h = subst (IsPopping pop) eb2 h

  abbrev pub PopShares : PopPhase → Phase
  PopShares Before = Plain
  PopShares (During m) = Inner m
  PopShares (After k) = Plain

  pub record IsPlace (k : ℕ) : Type 0 where
    pub low : k < 255
    pub body : ℕ
    pub has : P.task k ≡ Some body

  -- the first place is one, and its task has a body
  abbrev pub HeadIsPlace : List ℕ → Type 0
  HeadIsPlace [] = Unit {0}
  HeadIsPlace (k ∷ tasks) = IsPlace k

  abbrev pub PopHas : PopPhase → Option Context → List ℕ → Type 0
  PopHas Before b tasks = b ≡ None
  PopHas (During m) b tasks = (b ≡ None) × HeadIsPlace tasks × (m ≤ Q.taking)
  PopHas (After k) b tasks = Waiting (Some k) b tasks

  abbrev pub left_popping : (ph : PopPhase) (b : Option Context) (tasks : List ℕ) → PopHas ph b tasks → ℕ
  left_popping Before b tasks has = Q.taking + 3
  left_popping (During m) b tasks has = m + 2
  left_popping (After k) b tasks has = left_waiting has + 1

  abbrev pub at : State → Option Context → Option Context → Option ℕ → LoopState
  at s b h g = record { run = with_contexts s b h; gave = g }

  pub data Like (s : LoopState) (r : State) : Type 0 where
    Handling : (ph : Phase) (c2 c : Context) (s0 r0 : State) (b2 b : Option Context) (g : Option ℕ) → s ≡ at s0 b2 (Some c2) g → r ≡ with_contexts r0 b (Some c) →
        Shared P K pop Q kernel ph s0 r0 → Pair P K pop Q kernel ph s0.store r0.tasks c2 c → Behind b2 b None g → IsWithin Q ph → Like s r
    Running : (ph : Phase) (c2 c : Context) (s0 r0 : State) → s ≡ at s0 (Some c2) None None → r ≡ with_contexts r0 (Some c) None → (c2.body ≡ Some pop → ⊥) →
        Shared P K pop Q kernel ph s0 r0 → Pair P K pop Q kernel ph s0.store r0.tasks c2 c → IsWithin Q ph → Like s r
    Popping : (ph : PopPhase) (c2 : Context) (s0 r0 : State) (b : Option Context) → s ≡ at s0 (Some c2) None None → r ≡ with_contexts r0 b None →
        Shared P K pop Q kernel (PopShares ph) s0 r0 → PopPair K pop Q ph s0.store r0.tasks c2 → PopHas ph b r0.tasks → Like s r
    Free : (s0 r0 : State) (b : Option Context) (g : Option ℕ) → s ≡ at s0 None None g → r ≡ with_contexts r0 b None → Shared P K pop Q kernel Plain s0 r0 → Waiting g b r0.tasks → Like s r

  -- so many moves may come in a row that are none of the source's
  abbrev pub left_of : {s : LoopState} {r : State} → Like s r → ℕ
  left_of (Handling ph c2 c s0 r0 b2 b g es er k p w y) = left_in Q ph
  left_of (Running ph c2 c s0 r0 es er np k p y) = left_in Q ph
  left_of (Popping ph c2 s0 r0 b es er k p has) = left_popping ph b r0.tasks has
  left_of (Free s0 r0 b g es er k w) = left_waiting w

  pub shared_with : {ph : Phase} {s r : State} (b h b' h' : Option Context) → Shared P K pop Q kernel ph s r → Shared P K pop Q kernel ph (with_contexts s b h) (with_contexts r b' h')
  shared_with b h b' h' k = record { board = k.board; stopped = k.stopped; same = k.same; queue = k.queue }

  -- outside statements of the queue the bytes and the list do not matter
  rel_any : (ph : Phase) (st st' : ℕ → ℕ) (tasks tasks' : List ℕ) (t u : Behaviour) → IsOpen ph → Rel Q ph st tasks t u → Rel Q ph st' tasks' t u
  rel_any Plain st st' tasks tasks' t u o e = e
  rel_any Ended st st' tasks tasks' t u o e = e
  rel_any Ticked st st' tasks tasks' t (Asks p g) o e = e
  rel_any Ticked st st' tasks tasks' t (Does p g) o e = absurd e
  rel_any Ticked st st' tasks tasks' t (Returns p) o e = absurd e
  rel_any Ticked st st' tasks tasks' t (Faults p) o e = absurd e
  rel_any Ticked st st' tasks tasks' t Cut o e = absurd e
  rel_any (Inner m) st st' tasks tasks' t u o e = absurd o

  pub pair_any : (ph : Phase) {st : ℕ → ℕ} {tasks : List ℕ} {c2 c : Context} → IsOpen ph → Pair P K pop Q kernel ph st tasks c2 c → (st' : ℕ → ℕ) (tasks' : List ℕ) → Pair P K pop Q kernel ph st' tasks' c2 c
  pair_any ph {st = st} {tasks = tasks} o p st' tasks' = record {
    ds2 = p.ds2;
    ds = p.ds;
    made2 = p.made2;
    answers2 = p.answers2;
    made = p.made;
    answers = p.answers;
    body = p.body;
    shaped = p.shaped;
    counts = p.counts;
    rest = λ n t l. let r = p.rest n t l in (r.0, r.1, rel_any ph st st' tasks tasks' t r.0 o r.2);
  }

  -- a new context
  pub fresh : (ph : Phase) (body2 body : Option ℕ) (st : ℕ → ℕ) (tasks : List ℕ) → (IsClosed ph → ⊥) → body2 ≡ body → Counts ph [] [] → ((n : ℕ) → Rel Q ph st tasks (tree_of K body2 n) (tree_of P body n)) → Pair P K pop Q kernel ph st tasks (new_context body2) (new_context body)
  fresh ph body2 body st tasks open' same counts goes = record {
    ds2 = [];
    ds = [];
    made2 = refl;
    answers2 = refl;
    made = refl;
    answers = refl;
    body = same;
    shaped = tt;
    counts = counts;
    rest = λ n t l. (tree_of P body n, refl, subst (λ w. Rel Q ph st tasks w (tree_of P body n)) l (goes n));
  }

  pub inside_of : (ph : Phase) {st : ℕ → ℕ} {tasks : List ℕ} {c2 c : Context} → Pair P K pop Q kernel ph st tasks c2 c → is_inside (Some c2) ≡ false → IsOpen ph × (is_inside (Some c) ≡ false)
  inside_of ph {c2 = c2} {c = c} p h = by ph p.counts
    where
      n2 : count_by is_begin c2.made ≤ count_by is_end c2.made
      n2 = ltb-false _ _ h

      out : (ph : Phase) → Counts ph c2.made c.made → is_inside (Some c) ≡ false
      out ph k = let e = k.ends in let b = k.begins in le-ltb _ _ (omega (arith, e, b, n2))

      never : (ph : Phase) → Counts ph c2.made c.made → IsClosed ph → ⊥
      never ph k i = let l = k.closed i in omega (arith, l, n2)

      by : (ph : Phase) → Counts ph c2.made c.made → IsOpen ph × (is_inside (Some c) ≡ false)
      by Plain k = (tt, out Plain k)
      by Ticked k = (tt, out Ticked k)
      by Ended k = (tt, out Ended k)
      by (Inner m) k = absurd (never (Inner m) k tt)
