-- What accesses ask for, and what they have done when they return.
use Rattle.std.specs.Prelude.{⊤, ◌≡◌, ℕ, ◌+◌, ◌≤◌, cond, true, false, not, List, ◌++◌, Option, Some, None}
use Rattle.nm_base.specs.declared.action.Action.{Action}
use Rattle.nm_base.specs.Behaviour.{Behaviour, Performed, performed}
use Rattle.core_meaning.specs.declared.access.Where.{Where}
use Rattle.core_meaning.specs.declared.access.Where.TheVariants.{At, Within}
use Rattle.core_act.specs.declared.log.Log.{Log}
use Rattle.core_meaning.specs.declared.flow.Flow.{Flow}
use Rattle.core_meaning.specs.declared.flow.Flow.TheVariants.{On}
use Rattle.core_meaning.specs.Work.{Locals, Work, give}

-- with these actions in front
abbrev pub behind : List Action → Performed → Performed
behind did rest = record { actions = did ++ rest.actions; ended = rest.ended }

-- all actions, and whether they are all that the body does: those of the log, and unless it is over those that are still to come
abbrev pub all_actions : Log → Behaviour → Performed
all_actions log b = cond log.over (record { actions = log.did.items; ended = false }) (behind log.did.items (performed b log.left.now))

-- where nothing is left to do, the body has ended unless the log is over
abbrev pub done_by : Log → Performed
done_by log = record { actions = log.did.items; ended = not log.over }

-- the work comes to x, with these logs and locals before and after it
pub record Comes {A : Type 0} (work : Work A) (log : Log) (locals : Locals) (x : A) (log' : Log) (locals' : Locals) : Type 0 where
  pub by : (after : A → Locals → Behaviour) → all_actions log (work after locals) ≡ all_actions log' (after x locals')

-- bytes of a local, of which so many are needed, lie near its beginning
abbrev pub LiesWithin : (needed : ℕ) → Where → Type 0
LiesWithin needed (At address) = ⊤
LiesWithin needed (Within x offset) = offset + needed ≤ 32769

-- from a statement on, where there is one
abbrev pub from_start : Option ℕ → (ℕ → Work Flow) → Work Flow
from_start None from = give On
from_start (Some k) from = from k
