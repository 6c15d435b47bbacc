-- Constants by name, in the order in which they were first set (own).
use Rattle.std.specs.Prelude.{ℕ, ℤ, List, [], ◌∷◌, map, Option, Some, None, bytes_eq, if◌then◌else◌}
use Rattle.std.specs.declared.vec.Vec.{Vec}
use Rattle.std.specs.declared.alloc.Global.{Global}
use Rattle.nm_base.specs.declared.int_type.IntType.{IntType}

-- a type, and a number of it
abbrev pub Constant : Type 0
Constant = IntType × ℤ

abbrev pub Values : Type 0
Values = List (List ℕ × Constant)

abbrev pub value_of : Values → List ℕ → Option Constant
value_of [] name = None
value_of (v ∷ vs) name = if bytes_eq name v.0 then Some v.1 else value_of vs name

-- in the place of the name's earlier value, or behind all
abbrev pub with_value : List ℕ → Constant → Values → Values
with_value name x [] = (name, x) ∷ []
with_value name x (v ∷ vs) = if bytes_eq name v.0 then (v.0, x) ∷ vs else v ∷ with_value name x vs

-- what a map of constants holds
abbrev pub held : List (Vec ℕ Global × Constant) → Values
held = map (λ e. (e.0.items, e.1))
