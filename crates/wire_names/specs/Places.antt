-- Places by name (own).
use Rattle.std.specs.Prelude.{ℕ, List, [], ◌∷◌, map, Option, Some, None, bytes_eq, if◌then◌else◌}
use Rattle.std.specs.declared.vec.Vec.{Vec}
use Rattle.std.specs.declared.alloc.Global.{Global}

abbrev pub Placed : Type 0
Placed = List (List ℕ × ℕ)

abbrev pub place_of : Placed → List ℕ → Option ℕ
place_of [] name = None
place_of (p ∷ ps) name = if bytes_eq name p.0 then Some p.1 else place_of ps name

-- what a map of places holds
abbrev pub held : List (Vec ℕ Global × ℕ) → Placed
held = map (λ e. (e.0.items, e.1))
