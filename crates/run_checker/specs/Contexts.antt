-- What is kept of a context, as the definition of runs has it, and what is known beside it (own).
use Rattle.std.specs.Prelude.{⊤, ◌≡◌, ℕ, ◌≤◌, ◌+◌, ◌++◌, ◌∷◌, [], Option, Some, None, length, count_by}
use Rattle.nm_base.specs.declared.action.Action.{Action}
use Rattle.nm_base.specs.Behaviour.{Performed, is_begin, is_end}
use Rattle.nm_base.specs.Lists.{IsPrefixOf, number_of}
use Rattle.nesc_core.specs.Plain.{Program}
use Rattle.core_act.specs.declared.actions.Performance.{Performance}
use Rattle.core_meaning.specs.Source.{act_of}
use Rattle.core_meaning.specs.SourceOf.{source_of}
use Rattle.run_meaning.specs.State.{Context}
use Rattle.run_checker.specs.declared.context.Progress.{Progress}

abbrev pub performance_of : Performance → Performed
performance_of done = record { actions = done.actions.items; ended = done.ended }

abbrev pub context_of : Progress → Context
context_of c = record { body = c.body; made = c.made.items; answers = c.answers.items }

-- what its body does, with these answers and this many turns, stands ahead, and begins with what it did
pub record IsKnown (p : Program) (turns : ℕ) (c : Progress) : Type 0 where
  pub done : record { actions = c.ahead.items; ended = c.ended } ≡ act_of (source_of p) c.body c.answers.items turns
  pub begun : IsPrefixOf c.made.items c.ahead.items
  pub begin_count : c.begins ≡ count_by is_begin c.made.items
  pub end_count : c.ends ≡ count_by is_end c.made.items

-- after at most k moves
abbrev pub IsMaybeKnown : Program → (turns k : ℕ) → Option Progress → Type 0
IsMaybeKnown p turns k None = ⊤
IsMaybeKnown p turns k (Some c) = IsKnown p turns c × (length c.made.items ≤ k)

-- the second is the first with one action more
pub record IsPushed (a : Action) (c d : Progress) : Type 0 where
  pub body : d.body ≡ c.body
  pub made : d.made.items ≡ c.made.items ++ a ∷ []
  pub answers : d.answers.items ≡ c.answers.items
  pub ahead : d.ahead.items ≡ c.ahead.items
  pub ended : d.ended ≡ c.ended
  pub begins : d.begins ≡ c.begins + number_of (is_begin a)
  pub ends : d.ends ≡ c.ends + number_of (is_end a)

-- the second is the first with one answer more
pub record IsAnswered (p : Program) (turns answer : ℕ) (c d : Progress) : Type 0 where
  pub body : d.body ≡ c.body
  pub made : d.made.items ≡ c.made.items
  pub answers : d.answers.items ≡ c.answers.items ++ answer ∷ []
  pub done : record { actions = d.ahead.items; ended = d.ended } ≡ act_of (source_of p) c.body (c.answers.items ++ answer ∷ []) turns
  pub begins : d.begins ≡ c.begins
  pub ends : d.ends ≡ c.ends
