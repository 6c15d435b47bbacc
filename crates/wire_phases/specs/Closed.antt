-- The paths of wires come behind all pairs (own: the order of the phases).
use Rattle.std.specs.Prelude.{◌≡◌, List, Ok, Err}
use Rattle.wire_units.specs.declared.loaded.Loaded.{Loaded}
use Rattle.wire_pairs.specs.Application.{Application}
use Rattle.wire_paths.specs.Paths.{Paths}
use Rattle.wire_phases.specs.Wired.{Phase, Telling, Wired, wired_of}

abbrev pub app_of : Wired → Application
app_of w = record { units = w.units; made = w.made; facts = w.facts }

-- behind pairs
abbrev pub WithPaths : Phase Wired → Phase Wired → Type 0
WithPaths (Ok w) (Ok v) = (v ≡ w) × Paths (app_of w) w.pairs (Ok tt)
WithPaths (Ok w) (Err e) = Paths (app_of w) w.pairs (Err e)
WithPaths (Err e) answer = answer ≡ Err e

-- the instances and pairs of an application whose paths are fine, or its first refusal
abbrev pub Wires : Telling → List Loaded → Phase Wired → Type 0
Wires tell units answer = WithPaths (wired_of tell units) answer
