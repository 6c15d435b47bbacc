-- The specification of a component (nesC 1.3 Reference): its parameters and its elements are one scope, and each element has an
-- interface with as many parameters as it has arguments.
use Rattle.std.specs.Prelude.{ℕ, ◌==◌, cond, List, [], ◌∷◌, length, map, Option, Some, None, Ok, Err}
use Rattle.nm_base.specs.declared.pos.Pos.{Pos}
use Rattle.nesc_tree.specs.declared.components.Head.{Head}
use Rattle.nesc_tree.specs.declared.components.Elem.{Elem}
use Rattle.nesc_tree.specs.declared.components.GenericParam.{GenericParam}
use Rattle.wire_instances.specs.declared.plan.Unmet.TheVariants as unmet
use Rattle.wire_units.specs.declared.loaded.Loaded.{Loaded}
use Rattle.wire_units.specs.declared.face.Face.{Face}
use Rattle.wire_units.specs.Scope.{Scope, Judged, Declared, ◌>>=◌, declare, declare_all}
use Rattle.wire_units.specs.Faces.{face_of}

-- the parameters of a generic component, all at the place of its name
abbrev pub params_at : Pos → List GenericParam → List Declared
params_at at params = map (λ (p : GenericParam). (p.name, at)) params

abbrev pub params_of : Pos → Option (List GenericParam) → List Declared
params_of at None = []
params_of at (Some params) = params_at at params

-- what is wrong with the interface itself is found where an element names it
abbrev pub unless_refused : Face → Scope → Judged
unless_refused f scope = elim (f.refused) [ None ↦ Ok scope | Some e ↦ Err e ]

abbrev pub fits : Face → ℕ → Pos → Scope → Judged
fits f given pos scope = cond (given == f.params) (unless_refused f scope) (Err (unmet.ArgumentMismatch pos))

abbrev pub with_face : Option Face → Scope → Elem → Judged
with_face None scope e = Err (unmet.UnknownName e.pos)
with_face (Some f) scope e = declare scope e.name e.pos >>= fits f (length e.args) e.pos

abbrev pub judged_element : List Loaded → Scope → Elem → Judged
judged_element units scope e = with_face (face_of units e.iface) scope e

abbrev pub judged_elements : List Loaded → Scope → List Elem → Judged
judged_elements units scope [] = Ok scope
judged_elements units scope (e ∷ es) = judged_element units scope e >>= λ more. judged_elements units more es

abbrev pub judged_head : List Loaded → Pos → Head → Judged
judged_head units at h = declare_all [] (params_of at h.generic) >>= λ scope. judged_elements units scope h.elems
