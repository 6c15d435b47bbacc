-- What was found so far and the names in force, and what work adds to them (own).
use Rattle.std.specs.Prelude.{◌≡◌, List, ◌++◌, Result, Ok, Err, OnOk}
use Rattle.nm_base.specs.declared.no_memory.NoMemory.{NoMemory}
use Rattle.nm_base.specs.declared.pos.Pos.{Pos}
use Rattle.nesc_types.specs.Rule.{Rule}
use Rattle.elab_meaning.specs.Elab.{Elab, State}
use Rattle.elab_attempts.specs.View.{now}
use Rattle.item_targets.specs.declared.search.Search.{Search}

abbrev pub Seen : Type 0
Seen = List Pos × State

abbrev pub seen_of : Search → Seen
seen_of x = (x.found.items, now x.scopes)

-- what is found stands behind what was found before
abbrev pub behind : List Pos → Rule Seen → Rule Seen
behind before (Ok x) = Ok (before ++ x.0, x.1)
behind before (Err e) = Err e

abbrev pub goes : Elab (List Pos) → Seen → Rule Seen
goes work old = behind old.0 (work old.1)

-- what work adds, where no memory is missing
unfoldable pub Adds : Result (Unit {0}) NoMemory → Elab (List Pos) → (old new : Search) → Type 0
Adds r work old new = OnOk r (goes work (seen_of old) ≡ Ok (seen_of new))
