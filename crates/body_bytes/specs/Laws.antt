-- What the code of a program's bodies takes, beside their nodes (own).
use Rattle.std.specs.Prelude.{◌+◌, ◌*◌, ◌≤◌, length}
use Rattle.nesc_core.specs.Plain.{Program}
use Rattle.nesc_core.specs.Derefs.{derefs}
use Rattle.nesc_core.specs.Nodes.{nodes_of}
use Rattle.nesc_core.specs.WellFormed.{IsWellFormed}
use Rattle.lower_stmt.specs.Bodies.{lowered}
use Rattle.select_emitter.specs.Code.{all_code}
use Rattle.code_bytes.specs.Bytes.{most_of}
use Rattle.lean_pace.specs.Lean.{IsLean}

-- 96 bytes for each node, of which 62 for each dereference are left to its check
abbrev pub BodiesAreSmall : Type 0
BodiesAreSmall = (p : Program) → IsWellFormed p → IsLean p → most_of (all_code (lowered p)) + 62 * length (derefs p) ≤ 96 * nodes_of p
