use Rattle.std.proofs.Common.{◌≡◌, ◌+◌, ◌<◌, ◌≤◌, List, [], length, map, drop, to_z, of_z, w64, pos, ap, sym, subst, ◌∙◌, arith, rules}
use Rattle.std.proofs.lemmas.List.{nil_from_length}
use Rattle.nesc_core.specs.View.{type_of as core_type_of, exprs_of as core_exprs_of}
use Rattle.nesc_tree.specs.View.{exprs_of}
use Rattle.elab_meaning.specs.View.{env_of, state_of, struct_of}
use Rattle.elab_meaning.specs.Wired as spec
use Rattle.elab_forms.specs.Trees.{items_of}
use Rattle.elab_exprs.proofs.Faults.{stops}
use Rattle.elab_exprs.proofs.Loops.{argument_passed, argument_failed, arguments_end, arguments_short, length_passed, length_failed, group_passed, group_failed, field_passed, field_failed, item_passed, item_failed}
use Rattle.elab_exprs.proofs.Sizes.{sizes_next, groups_size_next, names_size_next, items_size_next}
use Rattle.nesc_tree.specs.Plain as s
use Rattle.nesc_types.specs.Rule.{Rule}
use Rattle.nesc_types.specs.Values.{Constant}
use Rattle.elab_meaning.specs.Convert.{Found}
use Rattle.elab_meaning.specs.Elab.{State}
use Rattle.elab_exprs.specs.Walk.{AreExprs, AreLengths, IsConstant, IsDone, IsExpr, IsFound, IsLength, IsNumber, IsStruct, argument_at, arguments_at, constant_at, field_at, fields_at, fields_of_at, found_at, group_at, item_at, items_at, length_at, lengths_at, parameter_at}
use Rattle.elab_exprs.proofs.Forms.{assign_is, binary_is, binary_anywhere, call_fn_is, call_item_is, call_item_found, cast_is, choice_is, choice_anywhere, comma_is, comma_anywhere, index_is, maybe_is, parameter_none, port_write_is, port_write_anywhere}
use Rattle.elab_exprs.proofs.+walk.Goals as goal

pub walk::found-returns-in-Assign : goal.walk::found-returns-in-Assign
walk::found-returns-in-Assign t c =
    subst (λ (x : s.Expr). IsFound c.assign.result c.assign.new.work (found_at c.args.told.now x c.args.work.now))
    (sym (assign_is _ _ _ _ _ _ _ c.in-Assign.is c.get-in-Assign.ensures c.get-in-Assign-2.ensures)) c.assign.ensures

pub walk::found-returns-in-Cast : goal.walk::found-returns-in-Cast
walk::found-returns-in-Cast t c =
    subst (λ (x : s.Expr). IsFound c.cast.result c.cast.new.work (found_at c.args.told.now x c.args.work.now))
    (sym (cast_is _ _ _ _ _ c.in-Cast.is c.get-in-Cast.ensures)) c.cast.ensures

pub walk::found-returns-in-Index : goal.walk::found-returns-in-Index
walk::found-returns-in-Index t c =
    subst (λ (x : s.Expr). IsFound c.index.result c.index.new.work (found_at c.args.told.now x c.args.work.now))
    (sym (index_is _ _ _ _ _ _ c.in-Index.is c.get-in-Index.ensures c.get-in-Index-2.ensures)) c.index.ensures

pub walk::found-returns-in-CallFn : goal.walk::found-returns-in-CallFn
walk::found-returns-in-CallFn t c =
    subst (λ (x : s.Expr). IsFound c.call.result c.call.new.work (found_at c.args.told.now x c.args.work.now))
    (sym (call_fn_is _ _ _ _ _ c.in-CallFn.is c.get-in-CallFn.ensures)) c.call.ensures

pub walk::found-returns-in_ok-found-in-CallItem : goal.walk::found-returns-in_ok-found-in-CallItem
walk::found-returns-in_ok-found-in-CallItem t c =
    subst (λ (r : Rule (Found × State)). IsFound c.call_item.result c.call_item.new.work r)
    (sym (ap (λ (x : s.Expr). found_at c.args.told.now x c.args.work.now) (call_item_is _ _ _ _ _ _ _ c.in-CallItem.is)
    ∙ call_item_found c.args.told.now _ _ _ _ _ _ _ _ c.args.work.now c.as_slice-in-CallItem.ensures c.in_ok-found-in-CallItem.ensures))
    c.call_item.ensures

pub walk::found-returns-in-PortWrite : goal.walk::found-returns-in-PortWrite
walk::found-returns-in-PortWrite t c =
    subst (λ (r : Rule (Found × State)). IsFound c.port_write.result c.port_write.new.work r)
    (sym (ap (λ (x : s.Expr). found_at c.args.told.now x c.args.work.now) (port_write_is _ _ _ _ _ _ c.in-PortWrite.is c.get-in-PortWrite.ensures c.get-in-PortWrite-2.ensures)
    ∙ port_write_anywhere _ _ _ _ _))
    c.port_write.ensures

pub constants::constant_in-returns-in-Binary : goal.constants::constant_in-returns-in-Binary
constants::constant_in-returns-in-Binary t c =
    subst (λ (r : Rule (Constant × State)). IsConstant c.constant_between.result c.constant_between.new.work r)
    (sym (ap (λ (x : s.Expr). constant_at c.args.told.now c.args.whole x c.args.evaluated c.args.work.now) (binary_is _ _ _ _ _ _ _ c.in-Binary.is c.get-in-Binary.ensures c.get-in-Binary-2.ensures)
    ∙ binary_anywhere _ _ _ _ _ _ _ _))
    c.constant_between.ensures

pub constants::constant_in-returns-in-Cond : goal.constants::constant_in-returns-in-Cond
constants::constant_in-returns-in-Cond t c =
    subst (λ (r : Rule (Constant × State)). IsConstant c.constant_choice.result c.constant_choice.new.work r)
    (sym (ap (λ (x : s.Expr). constant_at c.args.told.now c.args.whole x c.args.evaluated c.args.work.now) (choice_is _ _ _ _ _ _ _ _ c.in-Cond.is c.get-in-Cond.ensures c.get-in-Cond-2.ensures c.get-in-Cond-3.ensures)
    ∙ choice_anywhere _ _ _ _ _ _ _ _))
    c.constant_choice.ensures

pub constants::constant_in-returns-in-Comma : goal.constants::constant_in-returns-in-Comma
constants::constant_in-returns-in-Comma t c =
    subst (λ (r : Rule (Constant × State)). IsConstant c.constant_comma.result c.constant_comma.new.work r)
    (sym (ap (λ (x : s.Expr). constant_at c.args.told.now c.args.whole x c.args.evaluated c.args.work.now) (comma_is _ _ _ _ _ _ c.in-Comma.is c.get-in-Comma.ensures c.get-in-Comma-2.ensures)
    ∙ comma_anywhere _ _ _ _ _ _ _))
    c.constant_comma.ensures

pub constants::constant_in-returns-in-Cast : goal.constants::constant_in-returns-in-Cast
constants::constant_in-returns-in-Cast t c =
    subst (λ (x : s.Expr). IsConstant c.constant_cast.result c.constant_cast.new.work (constant_at c.args.told.now c.args.whole x c.args.evaluated c.args.work.now))
    (sym (cast_is _ _ _ _ _ c.in-Cast.is c.get-in-Cast.ensures)) c.constant_cast.ensures

pub walk::parameter-returns-in-Some : goal.walk::parameter-returns-in-Some
walk::parameter-returns-in-Some t c =
    subst (λ (x : s.MaybeExpr). AreExprs c.given_parameter.result c.given_parameter.new.work (parameter_at c.args.told.now c.args.at c.args.t x c.args.work.now))
    (sym (maybe_is _ _ _ c.in-Some.is c.get.ensures)) c.given_parameter.ensures

pub walk::parameter-returns-in-None : goal.walk::parameter-returns-in-None
walk::parameter-returns-in-None t c = parameter_none c.args.told.now c.args.at c.args.t c.args.param.now c.args.work.now c.no_parameter.result c.in-None.is c.no_parameter.ensures

-- ---- lists

pub walk::arguments-returns : goal.walk::arguments-returns
unfolding AreExprs arguments_at
walk::arguments-returns t c =
    let h : length c.as_slice-a-items.result.now ≤ c.loop-a.a-index = omega (arith, c.loop-a-test.false) in
    arguments_end _ _ _ c.loop-a.values.items c.as_slice-a-items.result.now c.loop-a.params.now c.loop-a.a-index (state_of c.loop-a.work) c.loop-a.invariant.rest h

pub walk::arguments-returns-in_default : goal.walk::arguments-returns-in_default
unfolding AreExprs arguments_at
walk::arguments-returns-in_default t c =
    let p : c.loop-a.params.now ≡ [] = nil_from_length c.loop-a.params.now c.in_default.ensures.cases in
    arguments_short _ _ _ c.loop-a.values.items c.as_slice-a-items.result.now c.loop-a.params.now c.loop-a.a-index (state_of c.loop-a.work) c.loop-a.invariant.rest p

pub walk::arguments-returns-in_err-x : goal.walk::arguments-returns-in_err-x
unfolding AreExprs IsExpr argument_at arguments_at
walk::arguments-returns-in_err-x t c =
    let h : c.loop-a.a-index < length c.as_slice-a-items.result.now = omega (arith, c.loop-a-test.true) in
    stops (λ v. core_exprs_of v.items) c.from_residual.result c.in_err-x.field-0.0 _ _ c.from_residual.ensures
    (argument_failed _ _ _ c.loop-a.values.items c.as_slice-a-items.result.now c.loop-a.params.now _ _ c.loop-a.a-index c.a-item.result (state_of c.loop-a.work) c.in_err-x.field-0.0
    c.loop-a.invariant.rest c.in-Some.ensures.cases.0 h c.a-item.is c.in_err-x.ensures)

pub walk::arguments-loop-a-preserved : goal.walk::arguments-loop-a-preserved
unfolding IsExpr argument_at
walk::arguments-loop-a-preserved t c =
    let h : c.loop-a.a-index < length c.as_slice-a-items.result.now = omega (arith, c.loop-a-test.true) in
    let n = sizes_next c.as_slice-a-items.result.now c.loop-a.a-index c.a-item.result h c.a-item.is in
    record {
      rest = argument_passed _ _ _ c.loop-a.values.items c.as_slice-a-items.result.now c.loop-a.params.now _ _ c.loop-a.a-index c.a-item.result (state_of c.loop-a.work) (state_of c.argument.new.work) c.in_ok-x.x _
          c.loop-a.invariant.rest c.in-Some.ensures.cases.0 h c.a-item.is c.in_ok-x.ensures c.in_ok-push.ensures.items;
      smaller = omega (arith, n, c.loop-a.invariant.smaller);
    }

pub types::lengths-returns-in_err-n : goal.types::lengths-returns-in_err-n
unfolding AreLengths IsLength length_at lengths_at
types::lengths-returns-in_err-n t c =
    let h : c.loop-e.e-index < length c.as_slice-e-items.result.now = omega (arith, c.loop-e-test.true) in
    stops (λ v. v.items) c.from_residual.result c.in_err-n.field-0.0 _ _ c.from_residual.ensures
    (length_failed _ _ _ c.loop-e.ns.items c.as_slice-e-items.result.now c.loop-e.e-index c.e-item.result (state_of c.loop-e.work) c.in_err-n.field-0.0 c.loop-e.invariant.rest h c.e-item.is c.in_err-n.ensures)

pub types::lengths-loop-e-preserved : goal.types::lengths-loop-e-preserved
unfolding IsLength length_at
types::lengths-loop-e-preserved t c =
    let h : c.loop-e.e-index < length c.as_slice-e-items.result.now = omega (arith, c.loop-e-test.true) in
    let n = sizes_next c.as_slice-e-items.result.now c.loop-e.e-index c.e-item.result h c.e-item.is in
    record {
      rest = length_passed _ _ _ c.loop-e.ns.items _ c.as_slice-e-items.result.now c.loop-e.e-index c.e-item.result (state_of c.loop-e.work) (state_of c.length_of.new.work) c.in_ok-n.n
          c.loop-e.invariant.rest h c.e-item.is c.in_ok-n.ensures c.in_ok-push.ensures.items;
      smaller = omega (arith, n, c.loop-e.invariant.smaller);
    }

pub types::fields-returns-in_err-made : goal.types::fields-returns-in_err-made
unfolding IsStruct fields_at group_at
types::fields-returns-in_err-made t c =
    let h : c.loop-g.g-index < length c.as_slice-g-items.result.now = omega (arith, c.loop-g-test.true) in
    stops struct_of c.from_residual.result c.in_err-made.field-0.0 _ _ c.from_residual.ensures
    (group_failed _ _ _ _ c.as_slice-g-items.result.now c.loop-g.g-index c.g-item.result (state_of c.loop-g.work) c.in_err-made.field-0.0 _ c.loop-g.invariant.rest h c.g-item.is c.in_err-made.ensures)

pub types::fields-loop-g-preserved : goal.types::fields-loop-g-preserved
unfolding IsStruct group_at
types::fields-loop-g-preserved t c =
    let h : c.loop-g.g-index < length c.as_slice-g-items.result.now = omega (arith, c.loop-g-test.true) in
    let n = groups_size_next c.as_slice-g-items.result.now c.loop-g.g-index c.g-item.result h c.g-item.is in
    record {
      rest = group_passed _ _ _ _ _ c.as_slice-g-items.result.now c.loop-g.g-index c.g-item.result (state_of c.loop-g.work) (state_of c.group.new.work) _ c.loop-g.invariant.rest h c.g-item.is c.in_ok-made.ensures;
      smaller = omega (arith, n, c.loop-g.invariant.smaller);
    }

pub types::fields_of-returns-in_err-made : goal.types::fields_of-returns-in_err-made
unfolding IsStruct fields_of_at field_at
types::fields_of-returns-in_err-made t c =
    let h : c.loop-d.d-index < length c.as_slice-d-items.result.now = omega (arith, c.loop-d-test.true) in
    stops struct_of c.from_residual.result c.in_err-made.field-0.0 _ _ c.from_residual.ensures
    (field_failed _ _ _ _ _ _ c.as_slice-d-items.result.now c.loop-d.d-index c.d-item.result (state_of c.loop-d.work) c.in_err-made.field-0.0 _ c.loop-d.invariant.rest h c.d-item.is c.in_err-made.ensures)

pub types::fields_of-loop-d-preserved : goal.types::fields_of-loop-d-preserved
unfolding IsStruct field_at
types::fields_of-loop-d-preserved t c =
    let h : c.loop-d.d-index < length c.as_slice-d-items.result.now = omega (arith, c.loop-d-test.true) in
    let n = names_size_next c.as_slice-d-items.result.now c.loop-d.d-index c.d-item.result h c.d-item.is in
    record {
      rest = field_passed _ _ _ _ _ _ _ c.as_slice-d-items.result.now c.loop-d.d-index c.d-item.result (state_of c.loop-d.work) (state_of c.one_field.new.work) _ c.loop-d.invariant.rest h c.d-item.is c.in_ok-made.ensures;
      smaller = omega (arith, n, c.loop-d.invariant.smaller);
    }

pub types::enum_items-returns-in_err-next : goal.types::enum_items-returns-in_err-next
unfolding IsDone IsNumber items_at item_at
types::enum_items-returns-in_err-next t c =
    let h : c.loop-x.x-index < length c.as_slice-x-items.result.now = omega (arith, c.loop-x-test.true) in
    stops (λ _. tt) c.from_residual.result c.in_err-next.field-0.0 _ _ c.from_residual.ensures
    (item_failed _ _ _ c.as_slice-x-items.result.now c.loop-x.x-index c.x-item.result (state_of c.loop-x.work) c.in_err-next.field-0.0 _ c.loop-x.invariant.rest h c.x-item.is c.in_err-next.ensures)

pub types::enum_items-loop-x-preserved : goal.types::enum_items-loop-x-preserved
unfolding IsNumber item_at
types::enum_items-loop-x-preserved t c =
    let h : c.loop-x.x-index < length c.as_slice-x-items.result.now = omega (arith, c.loop-x-test.true) in
    let n = items_size_next c.as_slice-x-items.result.now c.loop-x.x-index c.x-item.result h c.x-item.is in
    let back : to_z w64 (of_z w64 c.in_ok-next.next) ≡ c.in_ok-next.next = search rules in
    record {
      rest = item_passed _ _ _ c.in_ok-next.next c.as_slice-x-items.result.now c.loop-x.x-index c.x-item.result (state_of c.loop-x.work) (state_of c.enum_item.new.work) _ c.loop-x.invariant.rest h c.x-item.is c.in_ok-next.ensures
          ∙ ap (λ z. spec.enum_items (env_of c.args.told.now.env) c.args.told.now.values z (items_of (drop (c.loop-x.x-index + 1) c.as_slice-x-items.result.now)) (state_of c.enum_item.new.work)) (sym back);
      smaller = omega (arith, n, c.loop-x.invariant.smaller);
    }
