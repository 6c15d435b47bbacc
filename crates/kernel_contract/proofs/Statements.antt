-- A statement of the queue, by what is known behind it.
use Rattle.std.proofs.Common.{ℕ, zero, suc, List}
use Rattle.nm_base.specs.declared.action.Action.TheVariants.{Load, Store, Begin, End, Tick}
use Rattle.nm_base.specs.Behaviour.{Behaviour, Returns, Does, Asks, Faults, Cut}
use Rattle.run_meaning.specs.State.{loaded, stored}
use Rattle.queue_law.specs.Contract.{Inside, IsStatement}
use Rattle.loop_runs.specs.Kernel.{Queue, Stands, Changes}

module _ (Q : Queue) (B C : (ℕ → ℕ) → Behaviour → Type 0) (more : (st : ℕ → ℕ) (t : Behaviour) → B st t → C st t) where
  inside_more : (t : Behaviour) (most : ℕ) (st : ℕ → ℕ) → Inside Q.is_byte t most st B → Inside Q.is_byte t most st C
  inside_more Cut zero st h = tt
  inside_more (Does End t) zero st h = more st t h
  inside_more (Asks (Load x wide) f) zero st h = absurd h
  inside_more _ zero st h = absurd h
  inside_more Cut (suc most) st h = tt
  inside_more (Asks (Load x wide) f) (suc most) st h = (h.0, inside_more (f (loaded st x wide)) most st h.1)
  inside_more (Does (Store x wide v) t) (suc most) st h = (h.0, inside_more t most (stored st x wide v) h.1)
  inside_more (Does Tick t) (suc most) st h = inside_more t most st h
  inside_more (Does End t) (suc most) st h = more st t h
  inside_more _ (suc most) st h = absurd h

  pub statement_more : (t : Behaviour) (most : ℕ) (st : ℕ → ℕ) → IsStatement Q.is_byte t most st B → IsStatement Q.is_byte t most st C
  statement_more (Does Begin t) most st h = inside_more t most st h
  statement_more _ most st h = absurd h

module _ (Q : Queue) (most : ℕ) (to : List ℕ → List ℕ) where
  pub changes : (B : List ℕ → Behaviour → Type 0) (t : Behaviour) → ((st : ℕ → ℕ) (tasks : List ℕ) → Stands Q st tasks → IsStatement Q.is_byte t most st (λ st' rest. Stands Q st' (to tasks) × B tasks rest)) → Changes Q most to B t
  changes B Cut h = tt
  changes B (Returns v) h = h
  changes B (Does a t) h = h
  changes B (Asks a f) h = h
  changes B (Faults c) h = h

  pub changes_more : (B C : List ℕ → Behaviour → Type 0) → ((tasks : List ℕ) (t : Behaviour) → B tasks t → C tasks t) → (t : Behaviour) → Changes Q most to B t → Changes Q most to C t
  changes_more B C more Cut h = tt
  changes_more B C more (Returns v) h = λ st tasks stands. absurd (h st tasks stands)
  changes_more B C more (Does a t) h = λ st tasks stands.
      statement_more Q (λ st' rest. Stands Q st' (to tasks) × B tasks rest) (λ st' rest. Stands Q st' (to tasks) × C tasks rest) (λ st' rest k. (k.0, more tasks rest k.1)) (Does a t) most st (h st tasks stands)
  changes_more B C more (Asks a f) h = λ st tasks stands. absurd (h st tasks stands)
  changes_more B C more (Faults c) h = λ st tasks stands. absurd (h st tasks stands)
