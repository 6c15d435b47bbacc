-- Interfaces as the specifications of components see them.
use Rattle.std.specs.Prelude.{List, [], length, map, Option, Some, None, option_and_then, slice_get}
use Rattle.nm_base.specs.declared.pos.Pos.{Pos}
use Rattle.nesc_tree.specs.declared.components.Part.{Part}
use Rattle.nesc_tree.specs.declared.components.Part.TheVariants as part
use Rattle.nesc_tree.specs.declared.components.Interface.{Interface}
use Rattle.nesc_tree.specs.declared.components.Sig.{Sig}
use Rattle.wire_units.specs.declared.loaded.Loaded.{Loaded}
use Rattle.wire_units.specs.declared.face.Face.{Face}
use Rattle.wire_units.specs.Units.{Name, number_of}
use Rattle.wire_units.specs.Scope.{Judged, Declared, ◌>>=◌, declare_all, fault_of}

-- names that are declared at one place
abbrev pub all_at : Pos → List Name → List Declared
all_at at names = map (λ (n : Name). (n, at)) names

abbrev pub items_of : List Sig → List Declared
items_of items = map (λ (s : Sig). (s.name, s.pos)) items

-- the parameters of an interface whose name stands at a place, and then its items, each once
abbrev pub judged_face : Pos → Interface → Judged
judged_face at i = declare_all [] (all_at at i.params) >>= λ _. declare_all [] (items_of i.items)

abbrev pub face_in : Pos → Part → Option Face
face_in at (part.Interface i) = Some (record { params = length i.params; refused = fault_of (judged_face at i) })
face_in at (part.Module m) = None
face_in at (part.Config c) = None
face_in at part.Header = None

abbrev pub faces_of : List Loaded → List (Option Face)
faces_of units = map (λ (u : Loaded). face_in u.at u.unit.part) units

abbrev pub joined : Option (Option Face) → Option Face
joined None = None
joined (Some o) = o

abbrev pub face_of : List Loaded → Name → Option Face
face_of units name = option_and_then (λ k. joined (slice_get (faces_of units) k)) (number_of units name)
