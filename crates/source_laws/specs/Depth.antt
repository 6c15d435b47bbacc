-- How deep calls are, where they have no cycle (own).
use Rattle.std.specs.Prelude.{◌≡◌, ℕ, ℤ, ◌+◌, List, length}
use Rattle.nm_base.specs.Behaviour.{Behaviour}
use Rattle.nesc_core.specs.Plain.{Program}
use Rattle.nesc_core.specs.Calls.{HasNoCycle}
use Rattle.core_meaning.specs.Act.{calls_of}

-- room for deeper calls than there are bodies changes nothing
abbrev pub DepthCutsNothing : Type 0
DepthCutsNothing = (p : Program) → HasNoCycle p → (more n f : ℕ) (arguments : List ℤ) (after : ℤ → Behaviour)
    → calls_of p (length p.bodies + more) n f arguments after ≡ calls_of p (length p.bodies) n f arguments after
