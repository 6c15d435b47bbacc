-- Macros by name, as the code keeps them: all definitions in their order, and for each name the number of the one that counts
-- (own).
use Rattle.std.specs.Prelude.{ℕ, suc, Bool, false, not, List, [], ◌∷◌, nat_eq, cond, bytes_eq, filter, map, Option, Some, None, slice_get}
use Rattle.std.specs.declared.vec.Vec.{Vec}
use Rattle.std.specs.declared.alloc.Global.{Global}
use Rattle.nesc_macros.specs.declared.definition.Macro.{Macro}
use Rattle.nesc_macros.specs.declared.table.Table.{Table}
use Rattle.nesc_macros.specs.Invocation.{Name, same_name}

-- the number of the definition of each name that counts, or None where the name is defined no more
abbrev pub Numbers : Type 0
Numbers = List (Name × Option ℕ)

abbrev pub held : List (Vec ℕ Global × Option ℕ) → Numbers
held = map (λ e. (e.0.items, e.1))

abbrev pub number_of : Numbers → Name → Option ℕ
number_of [] name = None
number_of (n ∷ ns) name = cond (bytes_eq name n.0) n.1 (number_of ns name)

abbrev pub with_number : Name → Option ℕ → Numbers → Numbers
with_number name x [] = (name, x) ∷ []
with_number name x (n ∷ ns) = cond (bytes_eq name n.0) ((n.0, x) ∷ ns) (n ∷ with_number name x ns)

abbrev pub is_number : Option ℕ → ℕ → Bool
is_number None i = false
is_number (Some k) i = nat_eq k i

-- the definitions that count, of which the first has the number i
abbrev pub counted_from : Numbers → ℕ → List Macro → List Macro
counted_from numbers i [] = []
counted_from numbers i (m ∷ ms) = cond (is_number (number_of numbers m.name) i) (m ∷ counted_from numbers (suc i) ms) (counted_from numbers (suc i) ms)

pub record Defined : Type 0 where
  pub definitions : List Macro
  pub numbers : Numbers

abbrev pub defined_in : Table → Defined
defined_in t = record { definitions = t.definitions.items; numbers = held t.numbers.entries }

-- the macros that are defined, in the order of their definitions
abbrev pub macros_of : Defined → List Macro
macros_of d = counted_from d.numbers 0 d.definitions

abbrev pub macros_in : Table → List Macro
macros_in t = macros_of (defined_in t)

abbrev pub without : Name → List Macro → List Macro
without name = filter (λ (m : Macro). not (same_name m.name name))

abbrev pub name_if : Numbers → ℕ → Option Macro → Option Name
name_if numbers i None = None
name_if numbers i (Some m) = cond (is_number (number_of numbers m.name) i) (Some m.name) None

-- the name of the macro of this number
unfoldable pub name_in : Defined → ℕ → Option Name
name_in d i = name_if d.numbers i (slice_get d.definitions i)
