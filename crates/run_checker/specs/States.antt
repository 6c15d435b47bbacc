-- What is kept of a run, as the definition of runs has it, and what is known beside it (own).
use Rattle.std.specs.Prelude.{◌≡◌, ℕ, if◌then◌else◌, List, length, slice_index_or}
use Rattle.std.specs.Option.{option_map}
use Rattle.nesc_core.specs.Plain.{Program}
use Rattle.nm_base.specs.declared.action.Action.{Action}
use Rattle.core_meaning.specs.SourceOf.{put_last, source_of}
use Rattle.run_meaning.specs.State.{State}
use Rattle.run_meaning.specs.Runs.{effect, is_listed}
use Rattle.run_checker.specs.declared.state.RunState.{RunState}
use Rattle.run_checker.specs.Contexts.{IsMaybeKnown, context_of}

abbrev pub byte_at : List ℕ → (address : ℕ) → ℕ
byte_at store address = slice_index_or store address 0

-- the byte at each address
abbrev pub bytes : List ℕ → (ℕ → ℕ)
bytes store = λ address. byte_at store address

abbrev pub state_of : RunState → State
state_of r = record {
  store = bytes r.store.items;
  board = r.board;
  tasks = r.tasks.items;
  base = option_map context_of r.base;
  handler = option_map context_of r.handler;
  stopped = r.stopped;
}

-- after at most k moves
pub record AreKnown (p : Program) (turns k : ℕ) (r : RunState) : Type 0 where
  pub size : length r.store.items ≡ 65537
  pub base : IsMaybeKnown p turns k r.base
  pub handler : IsMaybeKnown p turns k r.handler

-- the second is what an action makes of the first, where the contexts stay
pub record IsEffect (a : Action) (r t : RunState) : Type 0 where
  pub state : (p : Program) → state_of t ≡ effect (source_of p) (state_of r) a
  pub size : length t.store.items ≡ length r.store.items
  pub base : t.base ≡ r.base
  pub handler : t.handler ≡ r.handler

-- a task that does not wait goes last
abbrev pub posted : List ℕ → (k : ℕ) → List ℕ
posted tasks k = if is_listed tasks k then tasks else put_last tasks k
