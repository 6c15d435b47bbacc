-- What attributes say of a line, seen as plain data (own).
use Rattle.std.specs.Prelude.{List, [], ◌∷◌, codes, Option, Some, None}
use Rattle.std.specs.List.{filter}
use Rattle.nesc_tree.specs.View.{expr_of}
use Rattle.body_meaning.specs.Tree.{Attr}
use Rattle.program_meaning.specs.Heads as spec
use Rattle.program_meaning.specs.Heads.{Vector, is_named}
use Rattle.elab_heads.specs.declared.handlers.Vector as vector
use Rattle.elab_heads.specs.declared.handlers.Vector.TheVariants as V

abbrev pub vector_of : vector.Vector → Vector
vector_of V.Nothing = spec.no_vector
vector_of (V.At e) = spec.a_vector (expr_of e.now)
vector_of V.Bad = spec.bad_vector

-- each `@vector`, by the first one and the attributes behind it
abbrev pub vectors_from : Option (Attr × List Attr) → List Attr
vectors_from None = []
vectors_from (Some x) = x.0 ∷ filter (is_named (codes "vector")) x.1
