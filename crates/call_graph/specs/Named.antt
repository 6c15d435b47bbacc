-- Where the calls of a well-formed program go (own).
use Rattle.std.specs.Prelude.{ℕ, ◌<◌, length}
use Rattle.nesc_core.specs.Plain.{Program}
use Rattle.nesc_core.specs.WellFormed.{IsWellFormed}
use Rattle.call_graph.specs.Paths.{IsIn, callees}

abbrev pub EachCallNamesABody : Type 0
EachCallNamesABody = (p : Program) → IsWellFormed p → (f g : ℕ) → IsIn g (callees p f) → g < length p.bodies
