-- Where a context is in a statement of the queue, and what one action does there.
use Rattle.std.proofs.Common.{◌≡◌, ℕ, zero, suc, ◌+◌, ◌≤◌, List, refl, sym, ap, subst, ◌∙◌, ◌⊎◌, inl, inr}
use Rattle.nm_base.specs.declared.action.Action.{Action}
use Rattle.nm_base.specs.declared.action.Action.TheVariants.{Load, Store, In, Out, Post, Begin, End, Tick, Fault}
use Rattle.nm_base.specs.Behaviour.{Behaviour, Returns, Does, Asks, Faults, Cut}
use Rattle.core_meaning.specs.Source.{Source}
use Rattle.run_meaning.specs.State.{State, loaded, stored}
use Rattle.run_meaning.specs.Runs.{answers_to, effect}
use Rattle.queue_law.specs.Contract.{posted, answer_of, IsQueued, Inside}
use Rattle.loop_runs.specs.Kernel.{Queue, Stands, IsPlain, IsPost, place_of, Changes, Ticks, Expands}
use Rattle.loop_runs.proofs.Leads.{Done, Next, Begins, same_first}

-- inside its statement it has so many actions left at most
pub data Phase : Type 0 where
  Plain : Phase
  Ticked : Phase
  Inner : ℕ → Phase
  Ended : Phase

-- so many actions may come in a row that are none of the source's
abbrev pub left_in : Queue → Phase → ℕ
left_in Q Plain = Q.posting + 3
left_in Q Ticked = Q.posting + 2
left_in Q (Inner m) = m + 1
left_in Q Ended = Q.posting + 4

abbrev pub IsWithin : Queue → Phase → Type 0
IsWithin Q (Inner m) = m ≤ Q.posting
IsWithin Q _ = Unit {0}

-- behind the statement that posts task k
abbrev pub HasPosted : Queue → List ℕ → ℕ → (ℕ → Behaviour) → (ℕ → ℕ) → Behaviour → Type 0
HasPosted Q tasks k g st t = Stands Q st (posted Q.insert tasks k) × Ticks Q (λ rest. Expands Q rest (g (answer_of tasks k))) t

abbrev pub Rel : Queue → Phase → (ℕ → ℕ) → List ℕ → Behaviour → Behaviour → Type 0
Rel Q Plain st tasks t u = Expands Q t u
Rel Q Ticked st tasks t (Asks p g) = IsPost p × Changes Q Q.posting (λ tasks. posted Q.insert tasks (place_of p)) (λ tasks. Ticks Q (λ rest. Expands Q rest (g (answer_of tasks (place_of p))))) t
Rel Q Ticked st tasks t _ = ⊥
Rel Q (Inner m) st tasks t (Asks p g) = IsPost p × Inside Q.is_byte t m st (HasPosted Q tasks (place_of p) g)
Rel Q (Inner m) st tasks t _ = ⊥
Rel Q Ended st tasks t u = Ticks Q (λ rest. Expands Q rest u) t

-- an access of the queue, or a tick
abbrev pub IsInner : Queue → Action → Type 0
IsInner Q (Load x wide) = IsQueued Q.is_byte x wide
IsInner Q (Store x wide v) = IsQueued Q.is_byte x wide
IsInner Q Tick = Unit {0}
IsInner Q _ = ⊥

pub plain_no_post : (Q : Queue) (p : Action) → IsPlain Q p → IsPost p → ⊥
plain_no_post Q (Post k) h k' = h
plain_no_post Q _ h k = k

-- behind a statement's End
pub record Ending (Behind : (ℕ → ℕ) → Behaviour → Type 0) (st : ℕ → ℕ) : Type 0 where
  pub rest : Behaviour
  pub holds : Behind st rest

-- of the action that it asks first, if it does
abbrev pub AskedFirst : Behaviour → (Action → Type 0) → Type 0
AskedFirst (Asks p g) Is = Is p
AskedFirst _ Is = Unit {0}

module _ (Q : Queue) where
  -- the same action on both sides
  pub plain_next : (v u : Behaviour) (d : Done) (t : Behaviour) → Expands Q v u → AskedFirst u (λ p. IsPost p → ⊥) → Next v d t → (w : Behaviour) × Next u d w × Expands Q t w
  plain_next (Does a v) (Does b u) d t e lone n = (u, (n.0 ∙ e.0, n.1, refl), subst (λ x. Expands Q x u) n.2 e.2)
  plain_next (Does a v) (Asks p g) d t e lone n = absurd (lone e.1)
  plain_next (Does a v) (Returns w) d t e lone n = absurd e
  plain_next (Does a v) (Faults c) d t e lone n = absurd e
  plain_next (Does a v) Cut d t e lone n = absurd e
  plain_next (Asks a f) (Asks b g) d t e lone n = (g n.0, (n.0, n.1 ∙ e.0, n.2, refl), subst (λ x. Expands Q x (g n.0)) n.3 (e.2 n.0))
  plain_next (Asks a f) (Does b u) d t e lone n = absurd e
  plain_next (Asks a f) (Returns w) d t e lone n = absurd e
  plain_next (Asks a f) (Faults c) d t e lone n = absurd e
  plain_next (Asks a f) Cut d t e lone n = absurd e
  plain_next (Returns w) u d t e lone n = absurd n
  plain_next (Faults c) u d t e lone n = absurd n
  plain_next Cut u d t e lone n = absurd n

  -- the Tick in front of a statement of the queue: the source asks for a Post, and nothing that is plain
  pub ticked_next : (v u : Behaviour) (d : Done) (t : Behaviour) (st : ℕ → ℕ) (tasks : List ℕ) → Expands Q v u → ((a : Action) → Begins u a → IsPost a) → Next v d t → Rel Q Ticked st tasks t u
  ticked_next (Does a v) (Asks q h) d t st tasks e post n =
      (e.1, subst (λ x. Changes Q Q.posting (λ tasks. posted Q.insert tasks (place_of q)) (λ tasks. Ticks Q (λ rest. Expands Q rest (h (answer_of tasks (place_of q))))) x) n.2 e.2)
  ticked_next (Does a v) (Does b u) d t st tasks e post n = absurd (plain_no_post Q a e.1 (subst IsPost (sym e.0) (post b refl)))
  ticked_next (Does a v) (Returns w) d t st tasks e post n = absurd e
  ticked_next (Does a v) (Faults w) d t st tasks e post n = absurd e
  ticked_next (Does a v) Cut d t st tasks e post n = absurd e
  ticked_next (Asks a f) (Asks q h) d t st tasks e post n = absurd (plain_no_post Q a e.1 (subst IsPost (sym e.0) (post q refl)))
  ticked_next (Asks a f) (Does b u) d t st tasks e post n = absurd e
  ticked_next (Asks a f) (Returns b) d t st tasks e post n = absurd e
  ticked_next (Asks a f) (Faults b) d t st tasks e post n = absurd e
  ticked_next (Asks a f) Cut d t st tasks e post n = absurd e
  ticked_next (Returns w) u d t st tasks e post n = absurd n
  ticked_next (Faults w) u d t st tasks e post n = absurd n
  ticked_next Cut u d t st tasks e post n = absurd n

  -- ---- a statement of the queue: its Begin

  module _ (most : ℕ) (to : List ℕ → List ℕ) (Behind : List ℕ → Behaviour → Type 0) (st : ℕ → ℕ) (tasks : List ℕ) (stands : Stands Q st tasks) where
    pub changes_begin : (t : Behaviour) (a : Action) → Changes Q most to Behind t → Begins t a → Begin ≡ a
    changes_begin Cut a e s = absurd s
    changes_begin (Returns v) a e s = absurd s
    changes_begin (Does Begin t) a e s = s
    changes_begin (Does (Load x wide) t) a e s = absurd (e st tasks stands)
    changes_begin (Does (Store x wide v) t) a e s = absurd (e st tasks stands)
    changes_begin (Does (In p) t) a e s = absurd (e st tasks stands)
    changes_begin (Does (Out p v) t) a e s = absurd (e st tasks stands)
    changes_begin (Does (Post k) t) a e s = absurd (e st tasks stands)
    changes_begin (Does End t) a e s = absurd (e st tasks stands)
    changes_begin (Does Tick t) a e s = absurd (e st tasks stands)
    changes_begin (Does (Fault c) t) a e s = absurd (e st tasks stands)
    changes_begin (Asks b f) a e s = absurd (e st tasks stands)
    changes_begin (Faults c) a e s = absurd (e st tasks stands)

    pub changes_next : (v t : Behaviour) (d : Done) → Changes Q most to Behind v → Next v d t → Inside Q.is_byte t most st (λ st' rest. Stands Q st' (to tasks) × Behind tasks rest)
    changes_next Cut t d e n = absurd n
    changes_next (Returns v) t d e n = absurd n
    changes_next (Does Begin v) t d e n = subst (λ x. Inside Q.is_byte x most st (λ st' rest. Stands Q st' (to tasks) × Behind tasks rest)) n.2 (e st tasks stands)
    changes_next (Does (Load x wide) v) t d e n = absurd (e st tasks stands)
    changes_next (Does (Store x wide y) v) t d e n = absurd (e st tasks stands)
    changes_next (Does (In p) v) t d e n = absurd (e st tasks stands)
    changes_next (Does (Out p y) v) t d e n = absurd (e st tasks stands)
    changes_next (Does (Post k) v) t d e n = absurd (e st tasks stands)
    changes_next (Does End v) t d e n = absurd (e st tasks stands)
    changes_next (Does Tick v) t d e n = absurd (e st tasks stands)
    changes_next (Does (Fault c) v) t d e n = absurd (e st tasks stands)
    changes_next (Asks b f) t d e n = absurd (e st tasks stands)
    changes_next (Faults c) t d e n = absurd (e st tasks stands)

  -- ---- its accesses and its End

  module _ (Behind : (ℕ → ℕ) → Behaviour → Type 0) where
    abbrev Here : Behaviour → ℕ → (ℕ → ℕ) → Type 0
    Here t m st = Inside Q.is_byte t m st Behind

    -- where no action is left, its End comes
    pub inside_last : (t : Behaviour) (st : ℕ → ℕ) (a : Action) → Here t zero st → Begins t a → a ≡ End
    inside_last Cut st a e s = absurd s
    inside_last (Does End t) st a e s = sym s
    inside_last (Asks (Load x wide) f) st a e s = absurd e
    inside_last _ st a e s = absurd e

    pub inside_begins : (m : ℕ) (t : Behaviour) (st : ℕ → ℕ) (a : Action) → Here t (suc m) st → Begins t a → (a ≡ End) ⊎ IsInner Q a
    inside_begins m Cut st a e s = absurd s
    inside_begins m (Asks (Load x wide) f) st a e s = inr (subst (IsInner Q) s e.0)
    inside_begins m (Does (Store x wide v) t) st a e s = inr (subst (IsInner Q) s e.0)
    inside_begins m (Does Tick t) st a e s = inr (subst (IsInner Q) s tt)
    inside_begins m (Does End t) st a e s = inl (sym s)
    inside_begins m _ st a e s = absurd e

    -- the bytes behind an action
    pub inside_next : (m : ℕ) (P : Source) (s : State) (v t : Behaviour) (d : Done) → (d.action ≡ End → ⊥) → d.answers ≡ answers_to s d.action → Here v (suc m) s.store → Next v d t → Here t m (effect P s d.action).store
    inside_next m P s Cut t d other r e n = absurd n
    inside_next m P s (Asks (Load x wide) f) t d other r e n =
        let y : n.0 ≡ loaded s.store x wide = same_first (sym n.2 ∙ r ∙ ap (answers_to s) n.1) in
        subst (λ b. Here t m (effect P s b).store) (sym n.1) (subst (λ w. Here w m s.store) n.3 (subst (λ z. Here (f z) m s.store) (sym y) e.1))
    inside_next m P s (Does (Store x wide v) w) t d other r e n = subst (λ b. Here t m (effect P s b).store) (sym n.0) (subst (λ y. Here y m (stored s.store x wide v)) n.2 e.1)
    inside_next m P s (Does Tick w) t d other r e n = subst (λ b. Here t m (effect P s b).store) (sym n.0) (subst (λ y. Here y m s.store) n.2 e)
    inside_next m P s (Does End w) t d other r e n = absurd (other n.0)
    inside_next m P s _ t d other r e n = absurd e

    pub inside_ends : (m : ℕ) (t : Behaviour) (st : ℕ → ℕ) → Here t m st → Begins t End → Ending Behind st
    inside_ends zero Cut st e s = absurd s
    inside_ends zero (Does End t) st e s = record { rest = t; holds = e }
    inside_ends zero (Asks (Load x wide) f) st e s = absurd e
    inside_ends zero _ st e s = absurd e
    inside_ends (suc m) Cut st e s = absurd s
    inside_ends (suc m) (Asks (Load x wide) f) st e s = absurd (bad s)
      where
        bad : Load x wide ≡ End → ⊥
        bad h = cc
    inside_ends (suc m) (Does (Store x wide v) t) st e s = absurd (bad s)
      where
        bad : Store x wide v ≡ End → ⊥
        bad h = cc
    inside_ends (suc m) (Does Tick t) st e s = absurd (bad s)
      where
        bad : Tick ≡ End → ⊥
        bad h = cc
    inside_ends (suc m) (Does End t) st e s = record { rest = t; holds = e }
    inside_ends (suc m) _ st e s = absurd e

    pub end_next : (m : ℕ) (v t : Behaviour) (d : Done) (st : ℕ → ℕ) → d.action ≡ End → Here v m st → Next v d t → Behind st t
    end_next zero Cut t d st e p n = absurd n
    end_next zero (Does End w) t d st e p n = subst (Behind st) n.2 p
    end_next zero (Asks (Load x wide) f) t d st e p n = absurd p
    end_next zero _ t d st e p n = absurd p
    end_next (suc m) Cut t d st e p n = absurd n
    end_next (suc m) (Asks (Load x wide) f) t d st e p n = absurd (bad (sym n.1 ∙ e))
      where
        bad : Load x wide ≡ End → ⊥
        bad h = cc
    end_next (suc m) (Does (Store x wide v) w) t d st e p n = absurd (bad (sym n.0 ∙ e))
      where
        bad : Store x wide v ≡ End → ⊥
        bad h = cc
    end_next (suc m) (Does Tick w) t d st e p n = absurd (bad (sym n.0 ∙ e))
      where
        bad : Tick ≡ End → ⊥
        bad h = cc
    end_next (suc m) (Does End w) t d st e p n = subst (Behind st) n.2 p
    end_next (suc m) _ t d st e p n = absurd p

  -- ---- the Tick behind it

  module _ (Behind : Behaviour → Type 0) where
    pub ticks_tick : (t : Behaviour) (a : Action) → Ticks Q Behind t → Begins t a → Tick ≡ a
    ticks_tick Cut a e s = absurd s
    ticks_tick (Does Tick t) a e s = s
    ticks_tick _ a e s = absurd e

    pub ticks_next : (v t : Behaviour) (d : Done) → Ticks Q Behind v → Next v d t → Behind t
    ticks_next Cut t d e n = absurd n
    ticks_next (Does Tick v) t d e n = subst Behind n.2 e
    ticks_next _ t d e n = absurd e
