use Rattle.std.proofs.Common.{◌≡◌, ◌<◌, ◌≤◌, List, Ok, length, map, subst, arith}
use Rattle.nesc_tree.specs.declared.declarations.Decl.{Decl}
use Rattle.elab_exprs.proofs.Faults.{stops}
use Rattle.elab_meaning.specs.Answers.{FaultIs}
use Rattle.elab_meaning.specs.View.{state_of}
use Rattle.body_meaning.specs.View.{decl_of}
use Rattle.wire_facts.specs.Seen.{all_declared}
use Rattle.wire_elements.specs.View.{early_env}
use Rattle.wire_elements.proofs.Turns.{unit_passed, unit_failed, units_end}
use Rattle.wire_elements.proofs.headers.headers_declared.Goals as goal

pub returns-in_err-all_declared : goal.returns-in_err-all_declared
returns-in_err-all_declared c =
    let h : c.loop-loaded.loaded-index < length c.args.units.now = omega (arith, c.loop-loaded-test.true) in
    stops (λ _. tt) c.from_residual.result c.in_err-all_declared.field-0.0 _ _ c.from_residual.ensures
    (unit_failed (early_env c.args.early.now) c.args.units.now c.loop-loaded.loaded-index (state_of c.loop-loaded.work) _ c.loaded-item.result c.in_err-all_declared.field-0.0
    c.loop-loaded.invariant h c.loaded-item.is
    (subst (λ (ds : List Decl). FaultIs c.in_err-all_declared.field-0.0 (all_declared (early_env c.args.early.now) (map decl_of ds) (state_of c.loop-loaded.work))) c.as_slice.ensures c.in_err-all_declared.ensures))

pub loop-loaded-preserved : goal.loop-loaded-preserved
loop-loaded-preserved c =
    let h : c.loop-loaded.loaded-index < length c.args.units.now = omega (arith, c.loop-loaded-test.true) in
    unit_passed (early_env c.args.early.now) c.args.units.now c.loop-loaded.loaded-index (state_of c.loop-loaded.work) _ c.loaded-item.result (state_of c.all_declared.new.work)
    c.loop-loaded.invariant h c.loaded-item.is
    (subst (λ (ds : List Decl). all_declared (early_env c.args.early.now) (map decl_of ds) (state_of c.loop-loaded.work) ≡ Ok (tt, state_of c.all_declared.new.work)) c.as_slice.ensures c.in_ok-all_declared.ensures)

pub returns : goal.returns
returns c =
    let h : length c.args.units.now ≤ c.loop-loaded.loaded-index = omega (arith, c.loop-loaded-test.false) in
    units_end (early_env c.args.early.now) c.args.units.now c.loop-loaded.loaded-index (state_of c.loop-loaded.work) _ c.loop-loaded.invariant h
