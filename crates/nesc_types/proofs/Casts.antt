-- Types of casts as plain data.
use Rattle.std.proofs.Common.{◌≡◌, ℕ, false, List, [], ◌∷◌, length, ◌≤◌, refl, arith}
use Rattle.nesc_tree.specs.declared.tree.TypeSpec.{TypeSpec, fold_out-TypeSpec}
use Rattle.nesc_tree.specs.declared.tree.Expr.{Expr}
use Rattle.nesc_tree.specs.Plain as p
use Rattle.nesc_tree.specs.View as v
use Rattle.nesc_tree.specs.View.{spec_of, base_of, exprs_of}
use Rattle.nesc_types.specs.Constant.{is_plain}

pub spec_is : (t : TypeSpec) → spec_of t ≡ p.type_spec (base_of t.base) t.stars (exprs_of t.dims) t.is_const
spec_is t = fold_out-TypeSpec p.Base p.Expr v.Declarator v.Item v.Group p.TypeSpec v.base_layer v.expr_layer v.declarator_layer v.item_layer v.group_layer v.spec_layer t

pub not_plain : (stars : ℕ) (dims : List Expr) → 1 ≤ length dims → false ≡ is_plain stars (exprs_of dims)
not_plain stars [] some = absurd (omega arith)
not_plain stars (e ∷ es) some = refl
