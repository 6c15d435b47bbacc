-- One legal action of the kernel's program: which phase it leads to, and what the source does.
use Rattle.std.proofs.Common.{◌≡◌, ℕ, zero, suc, ◌+◌, ◌≤◌, [], ◌∷◌, ◌++◌, refl, sym, ap, subst, ◌∙◌, ◌⊎◌, inl, inr, arith, if◌then◌else◌}
use Rattle.std.specs.Prelude.{count_by}
use Rattle.nm_base.specs.declared.action.Action.{Action}
use Rattle.nm_base.specs.declared.action.Action.TheVariants.{Post, Begin, End, Tick, Fault}
use Rattle.nm_base.specs.Behaviour.{Behaviour, Returns, Does, Asks, Faults, Cut, is_begin, is_end}
use Rattle.run_meaning.specs.State.{Context, State}
use Rattle.run_meaning.specs.Runs.{CanDo, answers_to, effect, is_listed}
use Rattle.queue_law.specs.Contract.{posted, answer_of, Inside}
use Rattle.loop_runs.specs.Bodies.{Bodies}
use Rattle.loop_runs.specs.Kernel.{Queue, Stands, IsKernel, IsPlain, IsPost, place_of, Ticks, Expands}
use Rattle.loop_runs.proofs.Leads.{tree_of, Done, Next, Leads, Begins}
use Rattle.loop_runs.proofs.Phases.{Phase, Plain, Ticked, Inner, Ended, IsWithin, HasPosted, Rel, IsInner, AskedFirst, plain_no_post, plain_next, ticked_next, changes_begin, changes_next, inside_last, inside_begins, inside_next, inside_ends, end_next, ticks_tick, ticks_next}
use Rattle.loop_runs.proofs.Acting.{Counts, count_then, counts_silent, counts_both, same_effect, post_effect, post_kept, Pair, Shared, Outcome, Stays, Goes, legal_found, legal_made, pair_stays, pair_goes, sk, one_action, balanced_of}
use Rattle.loop_runs.proofs.Doing.{alike, inner_same, inner_shaped, inner_shown, inner_not_end, inner_begin, fault_tick}

module _ (Q : Queue) where
  -- nothing follows a fault
  fault_next : (v u : Behaviour) (d : Done) (t : Behaviour) (code : ℕ) → d.action ≡ Fault code → Expands Q v u → Next v d t → ⊥
  fault_next (Does b v) (Does c u) d t code e x n = subst (IsPlain Q) (sym n.0 ∙ e) x.1
  fault_next (Does b v) (Asks p g) d t code e x n = fault_tick code (sym e ∙ n.0 ∙ x.0)
  fault_next (Does b v) (Returns w) d t code e x n = x
  fault_next (Does b v) (Faults c) d t code e x n = x
  fault_next (Does b v) Cut d t code e x n = x
  fault_next (Asks b f) (Asks c g) d t code e x n = subst (IsPlain Q) (sym n.1 ∙ e) x.1
  fault_next (Asks b f) (Does c g) d t code e x n = x
  fault_next (Asks b f) (Returns c) d t code e x n = x
  fault_next (Asks b f) (Faults c) d t code e x n = x
  fault_next (Asks b f) Cut d t code e x n = x
  fault_next (Returns w) u d t code e x n = n
  fault_next (Faults w) u d t code e x n = n
  fault_next Cut u d t code e x n = n

module _ (P K : Bodies) (pop : ℕ) (Q : Queue) (kernel : IsKernel P K pop Q) where
  module _ (s r : State) (c2 c : Context) where
    abbrev Came : Phase → Action → Type 0
    Came ph a = Outcome P K pop Q kernel ph s r a c2 c

    abbrev Sh : Phase → Type 0
    Sh ph = Shared P K pop Q kernel ph s r

    abbrev Pa : Phase → Type 0
    Pa ph = Pair P K pop Q kernel ph s.store r.tasks c2 c

    -- both do the same
    plain : (p : Pa Plain) → Sh Plain → (a : Action) (n : ℕ) (u : Behaviour) → Leads (tree_of P c.body n) p.ds u → Begins u a → IsPlain Q a → Came Plain a
    plain p k a n u l b h =
        let x = alike P K pop Q kernel s r a h k in
        let counts : Counts Plain (c2.made ++ a ∷ []) (c.made ++ a ∷ []) = counts_both Plain Plain c2.made c.made a p.counts refl (λ i. absurd i) in
        Goes Plain a tt refl (same_effect Plain Plain c2.made c.made a refl refl p.counts counts) (λ i. absurd i) (legal_made P K pop Q kernel p a n u l b) x.shared
        (pair_goes P K pop Q kernel p Plain _ _ a a (answers_to s a) (answers_to r a) x.shaped counts
        (λ m v w t l' e nx.
        let g = plain_next Q v w (record { action = a; answers = answers_to s a }) t e (lone m w l') nx in
        (g.0, subst (λ ys. Next w (record { action = a; answers = ys }) g.0) x.answers g.1, g.2)))
        x.shown
      where
        lone : (m : ℕ) (w : Behaviour) → Leads (tree_of P c.body m) p.ds w → AskedFirst w (λ q. IsPost q → ⊥)
        lone m (Asks q g) l' = λ post. plain_no_post Q a h (subst IsPost (sym (one_action P K pop Q kernel c.body n m p.ds u (Asks q g) a q l l' b refl)) post)
        lone m (Does q g) l' = tt
        lone m (Returns q) l' = tt
        lone m (Faults q) l' = tt
        lone m Cut l' = tt

    ticked : (p : Pa Plain) → Sh Plain → (n : ℕ) (q : Action) (g : ℕ → Behaviour) → Leads (tree_of P c.body n) p.ds (Asks q g) → IsPost q → Came Plain Tick
    ticked p k n q g l post =
        Stays Ticked tt (omega arith) (record { board = k.board; stopped = k.stopped; same = k.same; queue = k.queue })
        (pair_stays P K pop Q kernel p Ticked _ _ Tick [] ((λ i. absurd i), λ i. refl) (counts_silent Plain Ticked c2.made c.made Tick p.counts refl refl refl (λ i. i))
        (λ m v w t l' e nx. ticked_next Q v w (record { action = Tick; answers = [] }) t s.store r.tasks e
        (λ b starts. subst IsPost (one_action P K pop Q kernel c.body n m p.ds (Asks q g) w q b l l' refl starts) post) nx))
        refl

    faulted : (p : Pa Plain) → Sh Plain → (code n : ℕ) (u : Behaviour) → Leads (tree_of P c.body n) p.ds u → Begins u (Fault code) → Came Plain (Fault code)
    faulted p k code n u l b =
        let counts : Counts Plain (c2.made ++ Fault code ∷ []) (c.made ++ Fault code ∷ []) = counts_both Plain Plain c2.made c.made (Fault code) p.counts refl (λ i. absurd i) in
        Goes Plain (Fault code) tt refl (same_effect Plain Plain c2.made c.made (Fault code) refl refl p.counts counts) (λ i. absurd i) (legal_made P K pop Q kernel p (Fault code) n u l b)
        (record { board = k.board; stopped = refl; same = k.same; queue = k.queue })
        (pair_goes P K pop Q kernel p Plain _ _ (Fault code) (Fault code) [] [] ((λ i. absurd i), λ i. absurd i) counts
        (λ m v w t l' e nx. absurd (fault_next Q v w (record { action = Fault code; answers = [] }) t code refl e nx)))
        refl

    at_plain : (p : Pa Plain) → Sh Plain → (a : Action) (n : ℕ) (t u : Behaviour) → Leads (tree_of P c.body n) p.ds u → Begins t a → Expands Q t u → Came Plain a
    at_plain p k a n (Does b t) (Does c' u) l h e = plain p k a n (Does c' u) l (sym e.0 ∙ h) (subst (IsPlain Q) h e.1)
    at_plain p k a n (Does b t) (Asks q g) l h e = subst (Came Plain) (sym e.0 ∙ h) (ticked p k n q g l e.1)
    at_plain p k a n (Does b t) (Returns w) l h e = absurd e
    at_plain p k a n (Does b t) (Faults w) l h e = absurd e
    at_plain p k a n (Does b t) Cut l h e = absurd e
    at_plain p k a n (Asks b f) (Asks q g) l h e = plain p k a n (Asks q g) l (sym e.0 ∙ h) (subst (IsPlain Q) h e.1)
    at_plain p k a n (Asks b f) (Does q g) l h e = absurd e
    at_plain p k a n (Asks b f) (Returns q) l h e = absurd e
    at_plain p k a n (Asks b f) (Faults q) l h e = absurd e
    at_plain p k a n (Asks b f) Cut l h e = absurd e
    at_plain p k a n (Faults b) (Faults w) l h e = subst (Came Plain) h (faulted p k b n (Faults w) l (ap Fault (sym e)))
    at_plain p k a n (Faults b) (Asks q g) l h e = absurd e
    at_plain p k a n (Faults b) (Does q g) l h e = absurd e
    at_plain p k a n (Faults b) (Returns q) l h e = absurd e
    at_plain p k a n (Faults b) Cut l h e = absurd e
    at_plain p k a n (Returns w) u l h e = absurd h
    at_plain p k a n Cut u l h e = absurd h

    low : (ph : Phase) (p : Pa ph) (n : ℕ) (u : Behaviour) → Leads (tree_of P c.body n) p.ds u → count_by is_end c.made ≤ count_by is_begin c.made
    low ph p n u l = subst (λ m. count_by is_end m ≤ count_by is_begin m) (sym p.made) (balanced_of P K pop Q kernel c.body n p.ds u l)

    begun : (p : Pa Ticked) → Sh Ticked → (n : ℕ) (u : Behaviour) → Leads (tree_of P c.body n) p.ds u → Came Ticked Begin
    begun p k n u l =
        let b2 = count_then is_begin c2.made Begin in
        let e2 = count_then is_end c2.made Begin in
        let lo = low Ticked p n u l in
        let ce = p.counts.ends in
        let cb = p.counts.begins in
        Stays (Inner Q.posting) (omega arith) (omega arith) (record { board = k.board; stopped = k.stopped; same = k.same; queue = tt })
        (pair_stays P K pop Q kernel p (Inner Q.posting) _ _ Begin [] ((λ i. absurd i), λ i. refl)
        (record { q = p.counts.q; ends = omega (arith, e2, ce); begins = omega (arith, b2, cb); closed = λ i. omega (arith, e2, b2, ce, cb, lo) })
        (λ m v w t l' e nx. begins v w t e nx))
        refl
      where
        begins : (v w t : Behaviour) → Rel Q Ticked s.store r.tasks v w → Next v (record { action = Begin; answers = [] }) t → Rel Q (Inner Q.posting) s.store r.tasks t w
        begins v (Asks q g) t e nx =
            (e.0, changes_next Q Q.posting (λ tasks. posted Q.insert tasks (place_of q)) (λ tasks. Ticks Q (λ rest. Expands Q rest (g (answer_of tasks (place_of q))))) s.store r.tasks k.queue v t (record { action = Begin; answers = [] }) e.1 nx)
        begins v (Does q g) t e nx = absurd e
        begins v (Returns q) t e nx = absurd e
        begins v (Faults q) t e nx = absurd e
        begins v Cut t e nx = absurd e

    at_ticked : (p : Pa Ticked) → Sh Ticked → (a : Action) (n : ℕ) (t u : Behaviour) → Leads (tree_of P c.body n) p.ds u → Begins t a → Rel Q Ticked s.store r.tasks t u → Came Ticked a
    at_ticked p k a n t (Asks q g) l h e =
        subst (Came Ticked) (changes_begin Q Q.posting (λ tasks. posted Q.insert tasks (place_of q)) (λ tasks. Ticks Q (λ rest. Expands Q rest (g (answer_of tasks (place_of q))))) s.store r.tasks k.queue t a e.1 h) (begun p k n (Asks q g) l)
    at_ticked p k a n t (Does q g) l h e = absurd e
    at_ticked p k a n t (Returns q) l h e = absurd e
    at_ticked p k a n t (Faults q) l h e = absurd e
    at_ticked p k a n t Cut l h e = absurd e

    -- an action on the queue's bytes
    inner : (j : ℕ) (p : Pa (Inner (suc j))) → Sh (Inner (suc j)) → IsWithin Q (Inner (suc j)) → (a : Action) → IsInner Q a → Came (Inner (suc j)) a
    inner j p k y a h =
        let low : suc j ≤ Q.posting = y in
        Stays (Inner j) (omega (arith, low)) (omega arith) (inner_same P K pop Q kernel (Inner (suc j)) (Inner j) s r a h k tt)
        (pair_stays P K pop Q kernel p (Inner j) _ _ a (answers_to s a) (inner_shaped P K pop Q kernel s a h)
        (counts_silent (Inner (suc j)) (Inner j) c2.made c.made a p.counts (inner_begin Q a h).0 (inner_begin Q a h).1 refl (λ i. i))
        (λ m v w t l' e nx. moved v w t e nx))
        (inner_shown P K pop Q kernel s a h)
      where
        moved : (v w t : Behaviour) → Rel Q (Inner (suc j)) s.store r.tasks v w → Next v (record { action = a; answers = answers_to s a }) t → Rel Q (Inner j) (effect (sk P K pop Q kernel) s a).store r.tasks t w
        moved v (Asks q g) t e nx = (e.0, inside_next Q (HasPosted Q r.tasks (place_of q) g) j (sk P K pop Q kernel) s v t (record { action = a; answers = answers_to s a }) (inner_not_end Q a h) refl e.1 nx)
        moved v (Does q g) t e nx = absurd e
        moved v (Returns q) t e nx = absurd e
        moved v (Faults q) t e nx = absurd e
        moved v Cut t e nx = absurd e

    -- the End is the Post
    posts : (j : ℕ) (p : Pa (Inner j)) → Sh (Inner j) → (n : ℕ) (t : Behaviour) (place : ℕ) (g : ℕ → Behaviour) → Leads (tree_of P c.body n) p.ds (Asks (Post place) g) → Inside Q.is_byte t j s.store (HasPosted Q r.tasks place g) → Begins t End → Came (Inner j) End
    posts j p k n t place g l e h =
        let b2 = count_then is_begin c2.made End in
        let e2 = count_then is_end c2.made End in
        let b1 = count_then is_begin c.made (Post place) in
        let e1 = count_then is_end c.made (Post place) in
        let ce = p.counts.ends in
        let cb = p.counts.begins in
        let counts : Counts Ended (c2.made ++ End ∷ []) (c.made ++ Post place ∷ []) =
        record { q = p.counts.q + 1; ends = omega (arith, e2, e1, ce); begins = omega (arith, b2, b1, cb); closed = λ i. absurd i } in
        Goes Ended (Post place) tt refl (post_effect (Inner j) c2.made c.made place tt p.counts counts) (λ i. (refl, post_kept c.made place)) (legal_made P K pop Q kernel p (Post place) n (Asks (Post place) g) l refl)
        (record {
          board = k.board;
          stopped = k.stopped;
          same = k.same;
          queue = subst (λ put. Stands Q s.store (if is_listed r.tasks place then r.tasks else put r.tasks place)) (sym kernel.insert) (inside_ends Q (HasPosted Q r.tasks place g) j t s.store e h).holds.0;
        })
        (pair_goes P K pop Q kernel p Ended _ _ End (Post place) [] (answer_of r.tasks place ∷ []) ((λ i. absurd i), λ i. refl) counts
        (λ m v w t' l' x nx. closing m v w t' l' x nx))
        refl
      where
        closing : (m : ℕ) (v w t' : Behaviour) → Leads (tree_of P c.body m) p.ds w → Rel Q (Inner j) s.store r.tasks v w → Next v (record { action = End; answers = [] }) t' →
            (y : Behaviour) × Next w (record { action = Post place; answers = answer_of r.tasks place ∷ [] }) y × Ticks Q (λ rest. Expands Q rest y) t'
        closing m v (Asks q h') t' l' x nx =
            let z = (end_next Q (HasPosted Q r.tasks (place_of q) h') j v t' (record { action = End; answers = [] }) s.store refl x.1 nx).1 in
            let same : Post place ≡ q = one_action P K pop Q kernel c.body n m p.ds (Asks (Post place) g) (Asks q h') (Post place) q l l' refl refl in
            (h' (answer_of r.tasks place), (answer_of r.tasks place, same, refl, refl), subst (λ i. Ticks Q (λ rest. Expands Q rest (h' (answer_of r.tasks i))) t') (ap place_of (sym same)) z)
        closing m v (Does q h') t' l' x nx = absurd x
        closing m v (Returns q) t' l' x nx = absurd x
        closing m v (Faults q) t' l' x nx = absurd x
        closing m v Cut t' l' x nx = absurd x

    at_inside : (j : ℕ) (p : Pa (Inner j)) → Sh (Inner j) → IsWithin Q (Inner j) → (a : Action) (n : ℕ) (t u : Behaviour) → Leads (tree_of P c.body n) p.ds u → Begins t a → Rel Q (Inner j) s.store r.tasks t u → Came (Inner j) a
    at_inside zero p k y a n t (Asks (Post place) g) l h e =
        let x = inside_last Q (HasPosted Q r.tasks place g) t s.store a e.1 h in
        subst (Came (Inner zero)) (sym x) (posts zero p k n t place g l e.1 (subst (Begins t) x h))
    at_inside (suc j) p k y a n t (Asks (Post place) g) l h e = by (inside_begins Q (HasPosted Q r.tasks place g) j t s.store a e.1 h)
      where
        by : (a ≡ End) ⊎ IsInner Q a → Came (Inner (suc j)) a
        by (inl x) = subst (Came (Inner (suc j))) (sym x) (posts (suc j) p k n t place g l e.1 (subst (Begins t) x h))
        by (inr x) = inner j p k y a x
    at_inside j p k y a n t (Asks _ g) l h e = absurd e.0
    at_inside j p k y a n t (Does q g) l h e = absurd e
    at_inside j p k y a n t (Returns q) l h e = absurd e
    at_inside j p k y a n t (Faults q) l h e = absurd e
    at_inside j p k y a n t Cut l h e = absurd e

    closed : (p : Pa Ended) → Sh Ended → Came Ended Tick
    closed p k =
        Stays Plain tt (omega arith) (record { board = k.board; stopped = k.stopped; same = k.same; queue = k.queue })
        (pair_stays P K pop Q kernel p Plain _ _ Tick [] ((λ i. absurd i), λ i. refl) (counts_silent Ended Plain c2.made c.made Tick p.counts refl refl refl (λ i. i))
        (λ m v w t l' e nx. ticks_next Q (λ rest. Expands Q rest w) v t (record { action = Tick; answers = [] }) e nx))
        refl

    pub acts : (ph : Phase) (p : Pa ph) → Sh ph → IsWithin Q ph → (a : Action) → CanDo (sk P K pop Q kernel) a c2 → Came ph a
    acts ph p k y a can =
        let f = legal_found P K pop Q kernel p a can in
        let x = p.rest f.0 f.1 f.2 in
        at_phase ph p k y f.0 f.1 x.0 x.1 f.3 x.2
      where
        at_phase : (ph : Phase) (p : Pa ph) → Sh ph → IsWithin Q ph → (n : ℕ) (t u : Behaviour) → Leads (tree_of P c.body n) p.ds u → Begins t a → Rel Q ph s.store r.tasks t u → Came ph a
        at_phase Plain p k y n t u l h e = at_plain p k a n t u l h e
        at_phase Ticked p k y n t u l h e = at_ticked p k a n t u l h e
        at_phase (Inner j) p k y n t u l h e = at_inside j p k y a n t u l h e
        at_phase Ended p k y n t u l h e = subst (Came Ended) (ticks_tick Q (λ rest. Expands Q rest u) t a e h) (closed p k)
