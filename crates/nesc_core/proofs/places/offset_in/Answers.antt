use Rattle.std.proofs.Common.{◌≡◌, ◌∙◌, arith, ap, get_or, take, map, subst, sym}
use Rattle.nesc_core.specs.declared.tree.Field.{Field}
use Rattle.nesc_core.specs.declared.layout.Layout.{Layout}
use Rattle.nesc_core.specs.Size.{rounded, layout_of, fields_layout, IsSized}
use Rattle.nesc_core.specs.View.{type_of, structs_of}
use Rattle.nesc_core.proofs.SizeLemmas.{field_sized, field_small, rounded-le}
use Rattle.nesc_core.proofs.FieldLemmas.{offset_is, inside_fields}
use Rattle.nesc_core.proofs.places.offset_in.Goals as goal

pub type_layout-f-requires-clause-sized : goal.type_layout-f-requires-clause-sized
type_layout-f-requires-clause-sized c =
    let fields = c.fields_of-fields.result.now in
    let inside = inside_fields c.args.s.now c.args.n fields c.args.k c.fields_of-fields.ensures c.requires.inside in
    subst (λ (f : Field). IsSized (structs_of c.args.s.now) (type_of f.ty)) c.index-fields-i.is
    (field_sized c.args.s.now c.args.n c.requires.structs c.requires.known fields c.loop-i.i c.index-fields-i.result c.fields_of-fields.ensures (omega arith) c.index-fields-i.is)

pub round_up-requires : goal.round_up-requires
round_up-requires c =
    let fields = c.fields_of-fields.result.now in
    let inside = inside_fields c.args.s.now c.args.n fields c.args.k c.fields_of-fields.ensures c.requires.inside in
    let small = field_small c.args.s.now c.args.n c.requires.structs c.requires.known fields c.loop-i.i c.index-fields-i.result c.loop-i.before c.fields_of-fields.ensures (omega arith) c.index-fields-i.is c.loop-i.invariant in
    omega (arith, small, rounded-le c.loop-i.before.size (layout_of (structs_of c.args.s.now) (type_of c.index-fields-i.result.ty)).align)

pub overflow_add-before : goal.overflow_add-before
overflow_add-before c =
    let fields = c.fields_of-fields.result.now in
    let inside = inside_fields c.args.s.now c.args.n fields c.args.k c.fields_of-fields.ensures c.requires.inside in
    let small = field_small c.args.s.now c.args.n c.requires.structs c.requires.known fields c.loop-i.i c.index-fields-i.result c.loop-i.before c.fields_of-fields.ensures (omega arith) c.index-fields-i.is c.loop-i.invariant in
    let same : c.type_layout-f.result ≡ layout_of (structs_of c.args.s.now) (type_of c.index-fields-i.result.ty) =
    c.type_layout-f.ensures ∙ ap (λ (f : Field). layout_of (structs_of c.args.s.now) (type_of f.ty)) (sym c.index-fields-i.is) in
    omega (arith, small, c.round_up.ensures, ap (λ (d : Layout). rounded c.loop-i.before.size d.align) same, ap (λ (d : Layout). d.size) same)

pub type_layout-requires-clause-sized : goal.type_layout-requires-clause-sized
type_layout-requires-clause-sized c =
    let fields = c.fields_of-fields.result.now in
    let inside = inside_fields c.args.s.now c.args.n fields c.args.k c.fields_of-fields.ensures c.requires.inside in
    subst (λ (f : Field). IsSized (structs_of c.args.s.now) (type_of f.ty)) c.index-fields-k.is
    (field_sized c.args.s.now c.args.n c.requires.structs c.requires.known fields c.args.k c.index-fields-k.result c.fields_of-fields.ensures (omega arith) c.index-fields-k.is)

pub round_up-requires-2 : goal.round_up-requires-2
round_up-requires-2 c =
    let fields = c.fields_of-fields.result.now in
    let inside = inside_fields c.args.s.now c.args.n fields c.args.k c.fields_of-fields.ensures c.requires.inside in
    let all : c.loop-i.i ≡ c.args.k = omega arith in
    let small = field_small c.args.s.now c.args.n c.requires.structs c.requires.known fields c.loop-i.i c.index-fields-k.result c.loop-i.before c.fields_of-fields.ensures (omega arith) (c.index-fields-k.is ∙ ap (λ k. get_or fields k c.index-fields-k.result) (sym all)) c.loop-i.invariant in
    omega (arith, small, rounded-le c.loop-i.before.size (layout_of (structs_of c.args.s.now) (type_of c.index-fields-k.result.ty)).align)

pub returns : goal.returns
returns c =
    let fields = c.fields_of-fields.result.now in
    let inside = inside_fields c.args.s.now c.args.n fields c.args.k c.fields_of-fields.ensures c.requires.inside in
    let all : c.loop-i.i ≡ c.args.k = omega arith in
    let same : c.type_layout.result ≡ layout_of (structs_of c.args.s.now) (type_of c.index-fields-k.result.ty) =
    c.type_layout.ensures ∙ ap (λ (f : Field). layout_of (structs_of c.args.s.now) (type_of f.ty)) (sym c.index-fields-k.is) in
    c.round_up-2.ensures ∙ ap (λ (d : Layout). rounded c.loop-i.before.size d.align) same
    ∙ offset_is c.args.s.now c.args.n fields c.args.k c.index-fields-k.result c.loop-i.before c.fields_of-fields.ensures inside c.index-fields-k.is
    (c.loop-i.invariant ∙ ap (λ k. fields_layout (map (λ (f : Field). layout_of (structs_of c.args.s.now) (type_of f.ty)) (take k fields))) all)
