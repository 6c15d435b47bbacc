use Rattle.std.proofs.Common.{◌≡◌, ◌+◌, ◌-◌, ◌≤◌, All, List, length, map, get_or, ap, sym, subst, ◌∙◌, Fits, w32, arith}
use Rattle.nesc_core.specs.declared.tree.Object as tree
use Rattle.nesc_core.specs.declared.tree.Structs.{Structs}
use Rattle.nesc_core.specs.Plain.{Object}
use Rattle.nesc_core.specs.Size.{IsSized, layout_of}
use Rattle.nesc_core.specs.Typing.{IsType}
use Rattle.nesc_core.specs.View.{object_of, program_of, structs_of, type_of}
use Rattle.nesc_core.specs.Weights.{objects_start}
use Rattle.image_builder.proofs.Objects.{end_from, end_small, holds_of_last, last_end}
use Rattle.image_builder.proofs.data.objects_end.Goals as goal

-- src/data.rt:22:31
pub size-requires : goal.size-requires
size-requires c =
    let p = program_of c.args.p.now in
    let all : All (λ (o : Object). IsType p.structs o.ty) (map object_of c.as_slice.result.now) =
    subst (λ (os : List tree.Object). All (λ (o : Object). IsType p.structs o.ty) (map object_of os)) (sym c.as_slice.ensures) c.requires.objects in
    let own = holds_of_last c.as_slice.result.now c.last-item.result c.in-len1-up.len_at_least c.last-item.is (λ (o : Object). IsType p.structs o.ty) all in
    subst (λ (s : Structs). IsSized (structs_of s) (type_of c.last-item.result.ty)) (sym c.in_ok-layouts.ensures) own.sized

-- src/data.rt:22:8
pub overflow_add-result : goal.overflow_add-result
overflow_add-result c =
    let p = program_of c.args.p.now in
    let e = last_end c.as_slice.result.now c.last-item.result c.in-len1-up.len_at_least c.last-item.is p.structs objects_start in
    let small = end_small p.structs objects_start p.objects c.requires.addresses in
    let a = subst (λ (os : List tree.Object). end_from p.structs objects_start (map object_of os) ≤ 65535) (sym c.as_slice.ensures) small in
    let same = c.size.ensures ∙ ap (λ (s : Structs). (layout_of (structs_of s) (type_of c.last-item.result.ty)).size) c.in_ok-layouts.ensures in
    omega (arith, e, a, same, c.from-2.ensures)
