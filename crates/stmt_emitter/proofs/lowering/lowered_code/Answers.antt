use Rattle.std.proofs.Common.{◌<◌, ◌^◌, List, All, length, map, ap, sym, subst, arith}
use Rattle.std.proofs.lemmas.List.{length-map}
use Rattle.nesc_core.specs.declared.tree.Body as tree_body
use Rattle.nesc_core.specs.Plain.{Body}
use Rattle.nesc_core.specs.View.{body_of, program_of, type_of}
use Rattle.nesc_core.specs.WellFormed.{IsBody}
use Rattle.lower_stmt.specs.Code.{stmt_labels}
use Rattle.lower_form.proofs.Counted.{is_numbered}
use Rattle.stmt_emitter.proofs.Items.{body_item}
use Rattle.stmt_emitter.proofs.lowering.lowered_code.Goals as goal

pub lower_body-requires-clause-body : goal.lower_body-requires-clause-body
lower_body-requires-clause-body c =
    let p = program_of c.args.p.now in
    let all : All (IsBody p) (map body_of c.as_slice-body-items.result.now) =
    subst (λ (bs : List tree_body.Body). All (IsBody p) (map body_of bs)) (sym c.as_slice-body-items.ensures) c.requires.program.bodies in
    body_item (IsBody p) c.as_slice-body-items.result.now c.loop-body.body-index c.body-item.result all c.loop-body-test.true c.body-item.is

pub lower_body-requires-clause-labels : goal.lower_body-requires-clause-labels
lower_body-requires-clause-labels c =
    let few = λ (b : Body). stmt_labels b.code < 2 ^ 32 in
    let all : All few (map body_of c.as_slice-body-items.result.now) =
    subst (λ (bs : List tree_body.Body). All few (map body_of bs)) (sym c.as_slice-body-items.ensures) (is_numbered (program_of c.args.p.now) c.requires.short).labels in
    body_item few c.as_slice-body-items.result.now c.loop-body.body-index c.body-item.result all c.loop-body-test.true c.body-item.is

pub lower_body-requires-clause-checks : goal.lower_body-requires-clause-checks
lower_body-requires-clause-checks c =
    let few = (is_numbered (program_of c.args.p.now) c.requires.short).checks in
    let given = ap length c.as_slice.ensures.value in
    let seen = length-map c.in_ok-types.types.items type_of in
    let found = ap length c.in_ok-types.ensures in
    omega (arith, few, given, seen, found)
