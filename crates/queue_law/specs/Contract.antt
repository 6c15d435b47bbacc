-- What a kernel of tasks owes: its bytes stand for the list of pending tasks, which each of its statements changes as a post or a start does (TEP 106: a post of a pending task is refused, and the first task starts; own: for any rule where a posted task goes).
use Rattle.std.specs.Prelude.{◌≡◌, ℕ, suc, ℤ, pos, ◌+◌, Bool, true, if◌then◌else◌, List, [], ◌∷◌}
use Rattle.nm_base.specs.declared.action.Action.TheVariants.{Load, Store, Begin, End, Tick}
use Rattle.nm_base.specs.Behaviour.{Behaviour, Does, Asks, Cut}
use Rattle.run_meaning.specs.State.{loaded, stored}
use Rattle.run_meaning.specs.Runs.{is_listed, rest_of}

-- what taking a task gives: 255 where there is none
abbrev pub first_of : List ℕ → ℕ
first_of [] = 255
first_of (k ∷ tasks) = k

-- a post's answer
abbrev pub answer_of : List ℕ → ℕ → ℕ
answer_of tasks k = if is_listed tasks k then 5 else 0

module _ (is_byte : ℕ → Bool) where
  -- an access of the kernel's bytes
  abbrev pub IsQueued : ℕ → Bool → Type 0
  IsQueued x wide = (is_byte x ≡ true) × (wide ≡ true → is_byte (x + 1) ≡ true)

  -- from here to the statement's End on this store there are at most so many actions, each a tick or such an access, and behind it this is so of
  -- the store and of what is left; a loop may be cut off
  abbrev pub Inside : Behaviour → (most : ℕ) → (ℕ → ℕ) → ((ℕ → ℕ) → Behaviour → Type 0) → Type 0
  Inside (Asks (Load x wide) rest) (suc most) st Behind = IsQueued x wide × Inside (rest (loaded st x wide)) most st Behind
  Inside (Does (Store x wide v) rest) (suc most) st Behind = IsQueued x wide × Inside rest most (stored st x wide v) Behind
  Inside (Does Tick rest) (suc most) st Behind = Inside rest most st Behind
  Inside (Does End rest) most st Behind = Behind st rest
  Inside Cut most st Behind = Unit {0}
  Inside _ most st Behind = ⊥

  -- one atomic statement
  abbrev pub IsStatement : Behaviour → (most : ℕ) → (ℕ → ℕ) → ((ℕ → ℕ) → Behaviour → Type 0) → Type 0
  IsStatement (Does Begin rest) most st Behind = Inside rest most st Behind
  IsStatement _ most st Behind = ⊥

-- the list behind a post
abbrev pub posted : (insert : List ℕ → ℕ → List ℕ) → List ℕ → ℕ → List ℕ
posted insert tasks k = if is_listed tasks k then tasks else insert tasks k

-- for the bytes, for which lists they stand, and where a posted task goes
module _ (is_byte : ℕ → Bool) (Stands : (ℕ → ℕ) → List ℕ → Type 0) (insert : List ℕ → ℕ → List ℕ) where
  -- whatever list the bytes stand for, the task is put into it, or the answer says that it waits; what follows is told the answer
  abbrev pub Posts : (most : ℕ) → ((ℤ → Behaviour) → Behaviour) → (k : ℕ) → Type 0
  Posts most call k = (after : ℤ → Behaviour) (st : ℕ → ℕ) (tasks : List ℕ) → Stands st tasks
      → IsStatement is_byte (call after) most st (λ st' rest. Stands st' (posted insert tasks k) × (rest ≡ after (pos (answer_of tasks k))))

  -- the first task is taken out, and what follows is told which
  abbrev pub Takes : (most : ℕ) → ((ℤ → Behaviour) → Behaviour) → Type 0
  Takes most call = (after : ℤ → Behaviour) (st : ℕ → ℕ) (tasks : List ℕ) → Stands st tasks
      → IsStatement is_byte (call after) most st (λ st' rest. Stands st' (rest_of tasks) × (rest ≡ after (pos (first_of tasks))))
