-- What the map of declared names holds.
use Rattle.std.specs.Prelude.{ℕ, Bool, List, map}
use Rattle.std.specs.declared.vec.Vec.{Vec}
use Rattle.std.specs.declared.alloc.Global.{Global}
use Rattle.nesc_tree.specs.Sorts.{Names}

abbrev pub bindings : List (Vec ℕ Global × Bool) → Names
bindings = map (λ e. (e.0.items, e.1))
