use Rattle.std.proofs.Common.{◌≡◌, ◌∙◌, ap, subst, sym, map}
use Rattle.nesc_core.specs.Plain.{Ty, pointer}
use Rattle.nesc_core.specs.View.{type_of}
use Rattle.elab_meaning.specs.Answers.{Follows}
use Rattle.elab_meaning.specs.Operators.{points_well}
use Rattle.elab_meaning.specs.View.{struct_of}
use Rattle.elab_types.proofs.Lengths.{pointer-type}
use Rattle.elab_types.proofs.structs.+points.Goals as goal

pub points_well-returns-in-Pointer : goal.points_well-returns-in-Pointer
points_well-returns-in-Pointer t c =
    let here : type_of c.args.t.now ≡ pointer (type_of c.in-Pointer.part.value) = pointer-type c.args.t.now c.in-Pointer.part c.in-Pointer.is in
    let behind : c.deref.result.now ≡ c.in-Pointer.part.value = c.deref.ensures in
    let same : type_of c.args.t.now ≡ pointer (type_of c.deref.result.now) = here ∙ ap (λ x. pointer (type_of x)) (sym behind) in
    subst (λ (u : Ty). Follows (λ _. tt) c.pointer_points_well.result (points_well (map struct_of c.args.structs.now) c.args.at u)) (sym same) c.pointer_points_well.ensures
