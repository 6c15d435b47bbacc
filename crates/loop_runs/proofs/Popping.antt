-- The body pop, and one action of it.
use Rattle.std.proofs.Common.{◌≡◌, ℕ, ◌+◌, false, List, [], ◌∷◌, ◌++◌, Some, sym, ap, subst, ◌∙◌}
use Rattle.std.specs.Prelude.{count_by}
use Rattle.nm_base.specs.Lists.{IsPrefixOf}
use Rattle.nm_base.specs.declared.action.Action.{Action}
use Rattle.nm_base.specs.Behaviour.{Behaviour, play, is_begin, is_end}
use Rattle.core_meaning.specs.Source.{act_of}
use Rattle.run_meaning.specs.State.{Context}
use Rattle.run_meaning.specs.Runs.{CanDo, with_made, rest_of}
use Rattle.queue_law.specs.Contract.{first_of, Inside}
use Rattle.loop_runs.specs.Bodies.{Bodies, source}
use Rattle.loop_runs.specs.Kernel.{Queue, Stands, IsKernel, Gives, Pops}
use Rattle.loop_runs.specs.Steps.{is_empty}
use Rattle.loop_runs.proofs.Leads.{Done, actions_of, answers_of, Next, Leads, Begins, IsShaped, AreShaped, leads_last, actions_then, answers_then, shaped_then, found, sound}

-- inside its statement it has so many actions left at most
pub data PopPhase : Type 0 where
  Before : PopPhase
  During : ℕ → PopPhase
  After : ℕ → PopPhase

-- behind its statement
abbrev pub HasTaken : Queue → List ℕ → (ℕ → ℕ) → Behaviour → Type 0
HasTaken Q tasks st t = Stands Q st (rest_of tasks) × Gives Q (first_of tasks) t

abbrev pub PopRel : Queue → PopPhase → (ℕ → ℕ) → List ℕ → Behaviour → Type 0
PopRel Q Before st tasks t = Pops Q t
PopRel Q (During m) st tasks t = Inside Q.is_byte t m st (HasTaken Q tasks)
PopRel Q (After k) st tasks t = Gives Q k t

-- one atomic statement is open inside its statement, and none behind it
abbrev pub PopCounts : PopPhase → List Action → Type 0
PopCounts Before made = made ≡ []
PopCounts (During m) made = count_by is_begin made ≡ count_by is_end made + 1
PopCounts (After k) made = (count_by is_begin made ≡ count_by is_end made) × (is_empty made ≡ false)

pub record PopPair (K : Bodies) (pop : ℕ) (Q : Queue) (ph : PopPhase) (st : ℕ → ℕ) (tasks : List ℕ) (c : Context) : Type 0 where
  pub ds : List Done
  pub made : c.made ≡ actions_of ds
  pub answers : c.answers ≡ answers_of ds
  pub body : c.body ≡ Some pop
  pub shaped : AreShaped ds
  pub counts : PopCounts ph c.made
  pub rest : (n : ℕ) (t : Behaviour) → Leads (K.does pop n) ds t → PopRel Q ph st tasks t

module _ (P K : Bodies) (pop : ℕ) (Q : Queue) (kernel : IsKernel P K pop Q) where
  pub pop_found : {ph : PopPhase} {st : ℕ → ℕ} {tasks : List ℕ} {c : Context} (p : PopPair K pop Q ph st tasks c) (a : Action) → CanDo (source K) a c → (n : ℕ) × (t : Behaviour) × Leads (K.does pop n) p.ds t × Begins t a
  pop_found {c = c} p a h =
      let e : IsPrefixOf (c.made ++ a ∷ []) (act_of (source K) (Some pop) c.answers h.0).actions = subst (λ b. IsPrefixOf (c.made ++ a ∷ []) (act_of (source K) b c.answers h.0).actions) p.body h.1 in
      let e' : IsPrefixOf (actions_of p.ds ++ a ∷ []) (play (K.does pop h.0) (answers_of p.ds)).actions =
      subst (λ l. IsPrefixOf (l ++ a ∷ []) (play (K.does pop h.0) (answers_of p.ds)).actions) p.made (subst (λ l. IsPrefixOf (c.made ++ a ∷ []) (play (K.does pop h.0) l).actions) p.answers e) in
      let r = found (K.does pop h.0) p.ds a (sound _ 0 (kernel.kernel_orderly pop h.0)) p.shaped e' in
      (h.0, r.0, r.1, r.2)

  pub pop_goes : {ph : PopPhase} {st : ℕ → ℕ} {tasks : List ℕ} {c : Context} (p : PopPair K pop Q ph st tasks c) (ph' : PopPhase) (st' : ℕ → ℕ) (tasks' : List ℕ) (a : Action) (xs : List ℕ) → IsShaped a xs → PopCounts ph' (c.made ++ a ∷ []) →
      ((v t : Behaviour) → PopRel Q ph st tasks v → Next v (record { action = a; answers = xs }) t → PopRel Q ph' st' tasks' t) → PopPair K pop Q ph' st' tasks' (with_made a xs c)
  pop_goes p ph' st' tasks' a xs shaped counts goes =
      let d : Done = record { action = a; answers = xs } in
      record {
        ds = p.ds ++ d ∷ [];
        made = ap (λ l. l ++ a ∷ []) p.made ∙ sym (actions_then p.ds d);
        answers = ap (λ l. l ++ xs) p.answers ∙ sym (answers_then p.ds d);
        body = p.body;
        shaped = shaped_then p.ds d p.shaped shaped;
        counts = counts;
        rest = λ n t l. let k = leads_last _ p.ds d t l in goes k.0 t (p.rest n k.0 k.1) k.2;
      }
