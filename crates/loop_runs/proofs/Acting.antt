-- One action of a context of the kernel's program, as at most one action of the source's.
use Rattle.std.proofs.Common.{◌≡◌, ℕ, ◌+◌, ◌<◌, ◌≤◌, Bool, true, false, List, [], ◌∷◌, ◌++◌, Option, Some, None, refl, sym, ap, subst, ◌∙◌, ◌⊎◌, inl, inr, arith}
use Rattle.std.specs.Prelude.{count_by, fold, nat_lt, not, if◌then◌else◌}
use Rattle.std.proofs.lemmas.Bool.{cases_lt, false≢true, lt-ltb, le-ltb, ltb-true}
use Rattle.nm_base.specs.Lists.{number_of, IsPrefixOf}
use Rattle.nm_base.specs.declared.action.Action.{Action}
use Rattle.nm_base.specs.Behaviour.{Behaviour, Performed, performed, play, is_begin, is_end}
use Rattle.core_meaning.specs.Source.{Source, act_of}
use Rattle.nm_base.specs.declared.action.Action.TheVariants.{Post, End}
use Rattle.run_meaning.specs.declared.Move.TheVariants.{Do}
use Rattle.run_meaning.specs.State.{Context, State}
use Rattle.run_meaning.specs.Runs.{CanDo, answers_to, effect, with_made, shown_of_action}
use Rattle.run_meaning.specs.Steps.{is_access}
use Rattle.loop_runs.specs.Bodies.{Bodies, source}
use Rattle.loop_runs.specs.Kernel.{Queue, Stands, IsKernel}
use Rattle.loop_runs.proofs.Leads.{tree_of, Done, actions_of, answers_of, Next, Leads, IsSound, sound, balanced, first_action, Begins, IsShaped, AreShaped, leads_then, leads_last, actions_then, answers_then, shaped_then, can, found}
use Rattle.loop_runs.proofs.Phases.{Phase, Plain, Ticked, Inner, Ended, left_in, IsWithin, Rel}

-- ---- counts of Begins and Ends

fold_one : (p : Action → Bool) (xs : List Action) (x : Action) (n : ℕ) → fold (λ k y. k + number_of (p y)) n (xs ++ x ∷ []) ≡ fold (λ k y. k + number_of (p y)) n xs + number_of (p x)
fold_one p [] x n = refl
fold_one p (y ∷ xs) x n = fold_one p xs x (n + number_of (p y))

pub count_then : (p : Action → Bool) (xs : List Action) (x : Action) → count_by p (xs ++ x ∷ []) ≡ count_by p xs + number_of (p x)
count_then p xs x = fold_one p xs x 0

abbrev pub opened : Phase → ℕ
opened (Inner m) = 1
opened _ = 0

abbrev pub IsClosed : Phase → Type 0
IsClosed (Inner m) = Unit {0}
IsClosed _ = ⊥

pub record Counts (ph : Phase) (m2 m : List Action) : Type 0 where
  pub q : ℕ
  pub ends : count_by is_end m2 ≡ count_by is_end m + q
  pub begins : count_by is_begin m2 ≡ count_by is_begin m + (q + opened ph)
  pub closed : IsClosed ph → count_by is_end m2 < count_by is_begin m2

-- the kernel's action is neither a Begin nor an End, and the source has none
pub counts_silent : (ph ph' : Phase) (m2 m : List Action) (a : Action) → Counts ph m2 m → is_begin a ≡ false → is_end a ≡ false → opened ph' ≡ opened ph → (IsClosed ph' → IsClosed ph) → Counts ph' (m2 ++ a ∷ []) m
counts_silent ph ph' m2 m a c b e o k =
    let eb : count_by is_begin (m2 ++ a ∷ []) ≡ count_by is_begin m2 = count_then is_begin m2 a ∙ ap (λ t. count_by is_begin m2 + number_of t) b ∙ omega arith in
    let ee : count_by is_end (m2 ++ a ∷ []) ≡ count_by is_end m2 = count_then is_end m2 a ∙ ap (λ t. count_by is_end m2 + number_of t) e ∙ omega arith in
    record { q = c.q; ends = ee ∙ c.ends; begins = eb ∙ c.begins ∙ ap (λ n. count_by is_begin m + (c.q + n)) (sym o); closed = λ h. let l = c.closed (k h) in omega (arith, l, eb, ee) }

-- both do the same
pub counts_both : (ph ph' : Phase) (m2 m : List Action) (a : Action) → Counts ph m2 m → opened ph' ≡ opened ph → (IsClosed ph' → count_by is_end (m2 ++ a ∷ []) < count_by is_begin (m2 ++ a ∷ [])) → Counts ph' (m2 ++ a ∷ []) (m ++ a ∷ [])
counts_both ph ph' m2 m a c o k =
    let b2 = count_then is_begin m2 a in
    let e2 = count_then is_end m2 a in
    let b1 = count_then is_begin m a in
    let e1 = count_then is_end m a in
    record { q = c.q; ends = (let h = c.ends in omega (arith, b2, e2, b1, e1, h)); begins = (let h = c.begins in omega (arith, b2, b1, h, o)); closed = k }

-- ---- effects

-- whether a body that has made these actions is inside atomic
abbrev pub inside_made : List Action → Bool
inside_made made = nat_lt (count_by is_end made) (count_by is_begin made)

-- whether one more action completes an effect
abbrev pub effect_made : List Action → Action → ℕ
effect_made made a = if inside_made made then number_of (not (inside_made (made ++ a ∷ []))) else number_of (is_access (Do a))

-- outside of statements of the queue both are inside atomic, or neither
pub same_inside : (ph : Phase) (m2 m : List Action) → opened ph ≡ 0 → Counts ph m2 m → inside_made m2 ≡ inside_made m
same_inside ph m2 m o c = by (cases_lt (count_by is_end m) (count_by is_begin m))
  where
    by : (count_by is_end m < count_by is_begin m) ⊎ (count_by is_begin m ≤ count_by is_end m) → inside_made m2 ≡ inside_made m
    by (inl lt) =
        let e = c.ends in
        let b = c.begins in
        lt-ltb (count_by is_end m2) (count_by is_begin m2) (omega (arith, e, b, lt, o)) ∙ sym (lt-ltb (count_by is_end m) (count_by is_begin m) lt)
    by (inr le) =
        let e = c.ends in
        let b = c.begins in
        le-ltb (count_by is_end m2) (count_by is_begin m2) (omega (arith, e, b, le, o)) ∙ sym (le-ltb (count_by is_end m) (count_by is_begin m) le)

-- where the source is inside, the kernel is too
pub both_inside : (ph : Phase) (m2 m : List Action) → Counts ph m2 m → inside_made m ≡ true → inside_made m2 ≡ true
both_inside ph m2 m c h =
    let e = c.ends in
    let b = c.begins in
    let lt = ltb-true (count_by is_end m) (count_by is_begin m) h in
    lt-ltb (count_by is_end m2) (count_by is_begin m2) (omega (arith, e, b, lt))

pub closed_inside : (ph : Phase) (m2 m : List Action) → IsClosed ph → Counts ph m2 m → inside_made m2 ≡ true
closed_inside ph m2 m h c = lt-ltb (count_by is_end m2) (count_by is_begin m2) (c.closed h)

-- the same action completes the same
pub same_effect : (ph ph' : Phase) (m2 m : List Action) (a : Action) → opened ph ≡ 0 → opened ph' ≡ 0 → Counts ph m2 m → Counts ph' (m2 ++ a ∷ []) (m ++ a ∷ []) → effect_made m a ≤ effect_made m2 a
same_effect ph ph' m2 m a o o' c c' =
    let e : effect_made m a ≡ effect_made m2 a =
    ap (λ t. if t then number_of (not (inside_made (m ++ a ∷ []))) else number_of (is_access (Do a))) (sym (same_inside ph m2 m o c))
    ∙ ap (λ t. if inside_made m2 then number_of (not t) else number_of (is_access (Do a))) (sym (same_inside ph' (m2 ++ a ∷ []) (m ++ a ∷ []) o' c')) in
    omega (arith, e)

-- where the kernel is inside and the source is not, a statement of the queue is open
pub closed_of : (ph : Phase) (m2 m : List Action) → Counts ph m2 m → inside_made m2 ≡ true → inside_made m ≡ false → IsClosed ph
closed_of Plain m2 m c into out = absurd (false≢true (sym out ∙ sym (same_inside Plain m2 m refl c) ∙ into))
closed_of Ticked m2 m c into out = absurd (false≢true (sym out ∙ sym (same_inside Ticked m2 m refl c) ∙ into))
closed_of Ended m2 m c into out = absurd (false≢true (sym out ∙ sym (same_inside Ended m2 m refl c) ∙ into))
closed_of (Inner j) m2 m c into out = tt

pub post_kept : (m : List Action) (place : ℕ) → inside_made (m ++ Post place ∷ []) ≡ inside_made m
post_kept m place =
    let e : count_by is_end (m ++ Post place ∷ []) ≡ count_by is_end m = count_then is_end m (Post place) ∙ omega arith in
    let b : count_by is_begin (m ++ Post place ∷ []) ≡ count_by is_begin m = count_then is_begin m (Post place) ∙ omega arith in
    ap (λ n. nat_lt n (count_by is_begin (m ++ Post place ∷ []))) e ∙ ap (λ n. nat_lt (count_by is_end m) n) b

-- the End of a statement of the queue completes what the Post does
pub post_effect : (ph : Phase) (m2 m : List Action) (place : ℕ) → IsClosed ph → Counts ph m2 m → Counts Ended (m2 ++ End ∷ []) (m ++ Post place ∷ []) → effect_made m (Post place) ≤ effect_made m2 End
post_effect ph m2 m place closed c c' = subst (λ t. effect_made m (Post place) ≤ (if t then number_of (not (inside_made (m2 ++ End ∷ []))) else number_of (is_access (Do End)))) (sym (closed_inside ph m2 m closed c))
    (subst (λ t. effect_made m (Post place) ≤ number_of (not t)) (sym (same_inside Ended (m2 ++ End ∷ []) (m ++ Post place ∷ []) refl c' ∙ post_kept m place))
    (subst (λ t. (if inside_made m then number_of (not t) else number_of (is_access (Do (Post place)))) ≤ number_of (not (inside_made m))) (sym (post_kept m place)) (by (inside_made m))))
  where
    by : (t : Bool) → (if t then number_of (not t) else number_of (is_access (Do (Post place)))) ≤ number_of (not t)
    by true = omega arith
    by false = omega arith

-- ---- contexts

module _ (P K : Bodies) (pop : ℕ) (Q : Queue) (kernel : IsKernel P K pop Q) where
  abbrev pub sk : Source
  sk = source K

  abbrev pub sp : Source
  sp = source P

  -- c2 of the kernel's program has come as far as c of the source's
  pub record Pair (ph : Phase) (st : ℕ → ℕ) (tasks : List ℕ) (c2 c : Context) : Type 0 where
    pub ds2 : List Done
    pub ds : List Done
    pub made2 : c2.made ≡ actions_of ds2
    pub answers2 : c2.answers ≡ answers_of ds2
    pub made : c.made ≡ actions_of ds
    pub answers : c.answers ≡ answers_of ds
    pub body : c2.body ≡ c.body
    pub shaped : AreShaped ds2
    pub counts : Counts ph c2.made c.made
    pub rest : (n : ℕ) (t : Behaviour) → Leads (tree_of K c2.body n) ds2 t → (u : Behaviour) × Leads (tree_of P c.body n) ds u × Rel Q ph st tasks t u

  pub act_of_tree : (T : Bodies) (body : Option ℕ) (answers : List ℕ) (n : ℕ) → act_of (source T) body answers n ≡ performed (tree_of T body n) answers
  act_of_tree T None answers n = refl
  act_of_tree T (Some b) answers n = refl

  pub sound_of : (body : Option ℕ) (n : ℕ) → IsSound (tree_of K body n)
  sound_of None n = tt
  sound_of (Some b) n = sound _ 0 (kernel.kernel_orderly b n)

  pub grows_of : (body : Option ℕ) (m n : ℕ) (answers : List ℕ) → m ≤ n → IsPrefixOf (play (tree_of P body m) answers).actions (play (tree_of P body n) answers).actions
  grows_of None m n answers le = ([], refl)
  grows_of (Some b) m n answers le = kernel.grows b m n answers le

  -- whatever the bounds of turns, the source goes on with one action
  pub one_action : (body : Option ℕ) (m n : ℕ) (ds : List Done) (v w : Behaviour) (a b : Action) → Leads (tree_of P body m) ds v → Leads (tree_of P body n) ds w → Begins v a → Begins w b → a ≡ b
  one_action body m n ds v w a b l k h j = by (cases_lt m n)
    where
      by : (m < n) ⊎ (n ≤ m) → a ≡ b
      by (inl lt) = first_action (tree_of P body m) (tree_of P body n) ds (grows_of body m n (answers_of ds) (omega (arith, lt))) v w a b l k h j
      by (inr le) = sym (first_action (tree_of P body n) (tree_of P body m) ds (grows_of body n m (answers_of ds) le) w v b a k l j h)

  pub balanced_of : (body : Option ℕ) (n : ℕ) (ds : List Done) (u : Behaviour) → Leads (tree_of P body n) ds u → count_by is_end (actions_of ds) ≤ count_by is_begin (actions_of ds)
  balanced_of None n [] u l = omega arith
  balanced_of None n (d ∷ ds) u l = absurd l.1
  balanced_of (Some b) n ds u l = let few = balanced _ 0 (kernel.orderly b n) ds u l in omega (arith, few)

  -- a legal action of the kernel's context, in its tree
  pub legal_found : {ph : Phase} {st : ℕ → ℕ} {tasks : List ℕ} {c2 c : Context} (p : Pair ph st tasks c2 c) (a : Action) → CanDo sk a c2 →
      (n : ℕ) × (t : Behaviour) × Leads (tree_of K c2.body n) p.ds2 t × Begins t a
  legal_found {c2 = c2} p a h =
      let e : IsPrefixOf (c2.made ++ a ∷ []) (performed (tree_of K c2.body h.0) c2.answers).actions = subst (λ (w : Performed). IsPrefixOf (c2.made ++ a ∷ []) w.actions) (act_of_tree K c2.body c2.answers h.0) h.1 in
      let e' : IsPrefixOf (actions_of p.ds2 ++ a ∷ []) (play (tree_of K c2.body h.0) (answers_of p.ds2)).actions =
      subst (λ l. IsPrefixOf (l ++ a ∷ []) (play (tree_of K c2.body h.0) (answers_of p.ds2)).actions) p.made2 (subst (λ l. IsPrefixOf (c2.made ++ a ∷ []) (play (tree_of K c2.body h.0) l).actions) p.answers2 e) in
      let r = found (tree_of K c2.body h.0) p.ds2 a (sound_of c2.body h.0) p.shaped e' in
      (h.0, r.0, r.1, r.2)

  pub legal_made : {ph : Phase} {st : ℕ → ℕ} {tasks : List ℕ} {c2 c : Context} (p : Pair ph st tasks c2 c) (b : Action) (n : ℕ) (u : Behaviour) → Leads (tree_of P c.body n) p.ds u → Begins u b → CanDo sp b c
  legal_made {c = c} p b n u l h =
      let r = can (tree_of P c.body n) p.ds u b l h in
      let r' : IsPrefixOf (c.made ++ b ∷ []) (play (tree_of P c.body n) c.answers).actions =
      subst (λ l. IsPrefixOf (l ++ b ∷ []) (play (tree_of P c.body n) c.answers).actions) (sym p.made) (subst (λ l. IsPrefixOf (actions_of p.ds ++ b ∷ []) (play (tree_of P c.body n) l).actions) (sym p.answers) r) in
      (n, subst (λ (w : Performed). IsPrefixOf (c.made ++ b ∷ []) w.actions) (sym (act_of_tree P c.body c.answers n)) r')

  -- the kernel's context goes on, the source's stays
  pub pair_stays : {ph : Phase} {st : ℕ → ℕ} {tasks : List ℕ} {c2 c : Context} (p : Pair ph st tasks c2 c) (ph' : Phase) (st' : ℕ → ℕ) (tasks' : List ℕ) (a : Action) (xs : List ℕ) → IsShaped a xs → Counts ph' (c2.made ++ a ∷ []) c.made →
      ((n : ℕ) (v u t : Behaviour) → Leads (tree_of P c.body n) p.ds u → Rel Q ph st tasks v u → Next v (record { action = a; answers = xs }) t → Rel Q ph' st' tasks' t u) → Pair ph' st' tasks' (with_made a xs c2) c
  pair_stays p ph' st' tasks' a xs shaped counts goes =
      let d : Done = record { action = a; answers = xs } in
      record {
        ds2 = p.ds2 ++ d ∷ [];
        ds = p.ds;
        made2 = ap (λ l. l ++ a ∷ []) p.made2 ∙ sym (actions_then p.ds2 d);
        answers2 = ap (λ l. l ++ xs) p.answers2 ∙ sym (answers_then p.ds2 d);
        made = p.made;
        answers = p.answers;
        body = p.body;
        shaped = shaped_then p.ds2 d p.shaped shaped;
        counts = counts;
        rest = λ n t l.
            let k = leads_last _ p.ds2 d t l in
            let r = p.rest n k.0 k.1 in
            (r.0, r.1, goes n k.0 r.0 t r.1 r.2 k.2);
      }

  -- both go on
  pub pair_goes : {ph : Phase} {st : ℕ → ℕ} {tasks : List ℕ} {c2 c : Context} (p : Pair ph st tasks c2 c) (ph' : Phase) (st' : ℕ → ℕ) (tasks' : List ℕ) (a b : Action) (xs ys : List ℕ) → IsShaped a xs → Counts ph' (c2.made ++ a ∷ []) (c.made ++ b ∷ []) →
      ((n : ℕ) (v u t : Behaviour) → Leads (tree_of P c.body n) p.ds u → Rel Q ph st tasks v u → Next v (record { action = a; answers = xs }) t → (w : Behaviour) × Next u (record { action = b; answers = ys }) w × Rel Q ph' st' tasks' t w) →
      Pair ph' st' tasks' (with_made a xs c2) (with_made b ys c)
  pair_goes p ph' st' tasks' a b xs ys shaped counts goes =
      let d : Done = record { action = a; answers = xs } in
      let e : Done = record { action = b; answers = ys } in
      record {
        ds2 = p.ds2 ++ d ∷ [];
        ds = p.ds ++ e ∷ [];
        made2 = ap (λ l. l ++ a ∷ []) p.made2 ∙ sym (actions_then p.ds2 d);
        answers2 = ap (λ l. l ++ xs) p.answers2 ∙ sym (answers_then p.ds2 d);
        made = ap (λ l. l ++ b ∷ []) p.made ∙ sym (actions_then p.ds e);
        answers = ap (λ l. l ++ ys) p.answers ∙ sym (answers_then p.ds e);
        body = p.body;
        shaped = shaped_then p.ds2 d p.shaped shaped;
        counts = counts;
        rest = λ n t l.
            let k = leads_last _ p.ds2 d t l in
            let r = p.rest n k.0 k.1 in
            let g = goes n k.0 r.0 t r.1 r.2 k.2 in
            (g.0, leads_then _ p.ds e r.0 g.0 r.1 g.1, g.2);
      }

  -- ---- what both runs share

  abbrev pub QueueOk : Phase → (ℕ → ℕ) → List ℕ → Type 0
  QueueOk Plain st tasks = Stands Q st tasks
  QueueOk Ticked st tasks = Stands Q st tasks
  QueueOk Ended st tasks = Stands Q st tasks
  QueueOk (Inner m) st tasks = Unit {0}

  pub record Shared (ph : Phase) (s r : State) : Type 0 where
    pub board : s.board ≡ r.board
    pub stopped : s.stopped ≡ r.stopped
    pub same : (a : ℕ) → Q.is_byte a ≡ false → s.store a ≡ r.store a
    pub queue : QueueOk ph s.store r.tasks

  -- the source does nothing, and one action less may come before it does something; or it does one action, which completes no more than the kernel's. Where a
  -- statement of the queue is open, that one is its End
  pub data Outcome (ph : Phase) (s r : State) (a : Action) (c2 c : Context) : Type 0 where
    Stays : (ph' : Phase) → IsWithin Q ph' → left_in Q ph' + 1 ≤ left_in Q ph → Shared ph' (effect sk s a) r → Pair ph' (effect sk s a).store r.tasks (with_made a (answers_to s a) c2) c → shown_of_action s a ≡ [] → Outcome ph s r a c2 c
    Goes : (ph' : Phase) (b : Action) → IsWithin Q ph' → opened ph' ≡ 0 → effect_made c.made b ≤ effect_made c2.made a → (IsClosed ph → (a ≡ End) × (inside_made (c.made ++ b ∷ []) ≡ inside_made c.made)) → CanDo sp b c → Shared ph' (effect sk s a) (effect sp r b) →
        Pair ph' (effect sk s a).store (effect sp r b).tasks (with_made a (answers_to s a) c2) (with_made b (answers_to r b) c) → shown_of_action s a ≡ shown_of_action r b → Outcome ph s r a c2 c
