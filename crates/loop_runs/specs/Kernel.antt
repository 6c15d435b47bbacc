-- The contract of a kernel of tasks: what its program's bodies do beside those of the source (own; after TEP 106: a post of a pending task is refused, and the first task starts).
use Rattle.std.specs.Prelude.{⊤, ◌≡◌, ◌≢◌, ℕ, ◌+◌, ◌<◌, ◌≤◌, Bool, true, false, List, [], ◌∷◌, Some}
use Rattle.nm_base.specs.Lists.{IsPrefixOf}
use Rattle.nm_base.specs.declared.action.Action.{Action}
use Rattle.nm_base.specs.declared.action.Action.TheVariants.{Load, Store, Post, Tick, Fault}
use Rattle.nm_base.specs.Behaviour.{Behaviour, Returns, Does, Asks, Faults, Cut, play}
use Rattle.run_meaning.specs.Runs.{rest_of}
use Rattle.source_laws.specs.Orderly.{IsOrderly}
use Rattle.queue_law.specs.Contract.{first_of, answer_of, posted, IsStatement}
use Rattle.loop_runs.specs.Bodies.{Bodies}

-- the queue: its bytes, for which lists they stand, how many actions a post and the taking of a task have inside of their statement at most, and where a posted task goes
pub record Queue : Type 0 where
  pub is_byte : ℕ → Bool
  pub stands : (ℕ → ℕ) → List ℕ → Bool
  pub posting : ℕ
  pub taking : ℕ
  pub insert : List ℕ → ℕ → List ℕ

abbrev pub Stands : Queue → (ℕ → ℕ) → List ℕ → Type 0
Stands Q st tasks = Q.stands st tasks ≡ true

pub record IsQueue (Q : Queue) : Type 0 where
  -- other bytes say nothing
  pub here : (st st' : ℕ → ℕ) (tasks : List ℕ) → ((a : ℕ) → Q.is_byte a ≡ true → st a ≡ st' a) → Stands Q st tasks → Stands Q st' tasks
  -- memory that nobody has written stands for the empty list
  pub empty : Stands Q (λ a. 0) []
  -- the first task is one of 255
  pub places : (st : ℕ → ℕ) (k : ℕ) (tasks : List ℕ) → Stands Q st (k ∷ tasks) → k < 255

abbrev pub IsPost : Action → Type 0
IsPost (Post k) = ⊤
IsPost _ = ⊥

abbrev pub place_of : Action → ℕ
place_of (Post k) = k
place_of _ = 0

module _ (Q : Queue) where
  -- an access of other bytes
  abbrev pub IsApart : ℕ → Bool → Type 0
  IsApart x wide = (Q.is_byte x ≡ false) × (wide ≡ true → Q.is_byte (x + 1) ≡ false)

  -- an action that the kernel's bodies share with the source's
  abbrev pub IsPlain : Action → Type 0
  IsPlain (Load x wide) = IsApart x wide
  IsPlain (Store x wide v) = IsApart x wide
  IsPlain (Post k) = ⊥
  IsPlain (Fault code) = ⊥
  IsPlain _ = ⊤

  -- whatever list the bytes stand for, one atomic statement of at most so many actions changes it so, and this is so of what is left; where calls are too deep, nothing is
  abbrev pub Changes : (most : ℕ) → (List ℕ → List ℕ) → (List ℕ → Behaviour → Type 0) → Behaviour → Type 0
  Changes most to Behind Cut = ⊤
  Changes most to Behind t = (st : ℕ → ℕ) (tasks : List ℕ) → Stands Q st tasks → IsStatement Q.is_byte t most st (λ st' rest. Stands Q st' (to tasks) × Behind tasks rest)

  abbrev pub Ticks : (Behaviour → Type 0) → Behaviour → Type 0
  Ticks Behind Cut = ⊤
  Ticks Behind (Does Tick t) = Behind t
  Ticks Behind _ = ⊥

  -- the kernel's body against the source's: all actions are alike, but a Post is a call of one statement that puts the task into the list. The kernel's may be cut off before the source's
  abbrev pub Expands : Behaviour → Behaviour → Type 0
  Expands Cut u = ⊤
  Expands (Returns v) (Returns w) = v ≡ w
  Expands (Returns v) _ = ⊥
  Expands (Faults c) (Faults d) = c ≡ d
  Expands (Faults c) _ = ⊥
  Expands (Does a t) (Does b u) = (a ≡ b) × IsPlain a × Expands t u
  Expands (Does a t) (Asks p g) = (a ≡ Tick) × IsPost p × Changes Q.posting (λ tasks. posted Q.insert tasks (place_of p)) (λ tasks. Ticks (λ rest. Expands rest (g (answer_of tasks (place_of p))))) t
  Expands (Does a t) _ = ⊥
  Expands (Asks a f) (Asks b g) = (a ≡ b) × IsPlain a × ((x : ℕ) → Expands (f x) (g x))
  Expands (Asks a f) _ = ⊥

  abbrev pub Gives : ℕ → Behaviour → Type 0
  Gives k Cut = ⊤
  Gives k (Returns v) = v ≡ k
  Gives k _ = ⊥

  -- pop takes the first task out of the list and gives it
  abbrev pub Pops : Behaviour → Type 0
  Pops t = Changes Q.taking rest_of (λ tasks rest. Gives (first_of tasks) rest) t

-- K is what a kernel makes of P, and pop is its function that takes the first task
pub record IsKernel (P K : Bodies) (pop : ℕ) (Q : Queue) : Type 0 where
  pub queue : IsQueue Q
  pub insert : P.insert ≡ Q.insert
  pub boot : K.boot ≡ P.boot
  pub task : K.task ≡ P.task
  pub handler : K.handler ≡ P.handler
  pub boots : (n : ℕ) → Expands Q (K.does P.boot n) (P.does P.boot n)
  pub tasks : (k body n : ℕ) → P.task k ≡ Some body → Expands Q (K.does body n) (P.does body n)
  pub handlers : (line body n : ℕ) → P.handler line ≡ Some body → Expands Q (K.does body n) (P.does body n)
  pub pops : (n : ℕ) → Pops Q (K.does pop n)
  -- each listed task has a body
  pub bodies : (st : ℕ → ℕ) (k : ℕ) (tasks : List ℕ) → Stands Q st (k ∷ tasks) → (body : ℕ) × (P.task k ≡ Some body)
  pub not_boot : P.boot ≢ pop
  pub not_task : (k : ℕ) → P.task k ≢ Some pop
  -- as all bodies do: what has an answer is asked, each End closes an open statement, and more turns of loops only add actions
  pub orderly : (body n : ℕ) → IsOrderly (P.does body n) 0
  pub kernel_orderly : (body n : ℕ) → IsOrderly (K.does body n) 0
  pub grows : (body m n : ℕ) (answers : List ℕ) → m ≤ n → IsPrefixOf (play (P.does body m) answers).actions (play (P.does body n) answers).actions
