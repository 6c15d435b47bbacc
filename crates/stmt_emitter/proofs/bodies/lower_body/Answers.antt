use Rattle.std.proofs.Common.{◌≤◌, List, All, map, ap, ◌∙◌, sym, subst, arith}
use Rattle.nesc_core.specs.declared.tree.CoreType.{CoreType}
use Rattle.nesc_core.specs.Typing.{IsType}
use Rattle.nesc_core.specs.View.{body_of, program_of, stmt_of, type_of}
use Rattle.lower_stmt.specs.Bodies.{all_bytes, spots_from}
use Rattle.stmt_emitter.specs.Standing.{StmtFits}
use Rattle.stmt_emitter.proofs.Placed.{body_bounds, body_fits, placed}
use Rattle.stmt_emitter.proofs.bodies.lower_body.Goals as goal

pub whole_code-requires-clause-placed : goal.whole_code-requires-clause-placed
whole_code-requires-clause-placed c =
    let p = program_of c.args.p.now in
    let b = body_bounds p (body_of c.args.b.now) c.requires.body in
    let v = b.bytes in
    let small : all_bytes p (map type_of c.args.b.now.locals) ≤ 65535 = omega (arith, v) in
    placed _ c.requires.program (subst (λ (ts : List CoreType). All (IsType p.structs) (map type_of ts)) (sym c.as_slice.ensures) c.requires.body.locals) c.requires.checks
    (c.as_slice-2.ensures.value ∙ c.in_ok-held.ensures.spots ∙ ap (λ (ts : List CoreType). spots_from p (map type_of ts) 0 0) (sym c.as_slice.ensures))
    (subst (λ (ts : List CoreType). all_bytes p (map type_of ts) ≤ 65535) (sym c.as_slice.ensures) small)

pub whole_code-requires-clause-fits : goal.whole_code-requires-clause-fits
whole_code-requires-clause-fits c =
    let p = program_of c.args.p.now in
    subst (λ (ts : List CoreType). StmtFits p (map type_of ts) (stmt_of c.args.b.now.code)) (sym c.as_slice.ensures) (body_fits p (body_of c.args.b.now) c.requires.program c.requires.body)

pub whole_code-requires-clause-values : goal.whole_code-requires-clause-values
whole_code-requires-clause-values c =
    let b = body_bounds (program_of c.args.p.now) (body_of c.args.b.now) c.requires.body in
    let v = b.values in
    let e = c.in_ok-held.ensures.values in
    omega (arith, v, e)

pub whole_code-requires-clause-status : goal.whole_code-requires-clause-status
whole_code-requires-clause-status c =
    let b = body_bounds (program_of c.args.p.now) (body_of c.args.b.now) c.requires.body in
    let v = b.bytes in
    let e = c.in_ok-held.ensures.bytes in
    omega (arith, v, e)

pub params_in-requires-clause-values : goal.params_in-requires-clause-values
params_in-requires-clause-values c =
    let b = body_bounds (program_of c.args.p.now) (body_of c.args.b.now) c.requires.body in
    let v = b.values in
    omega (arith, v)

pub values_in-requires : goal.values_in-requires
values_in-requires c =
    let b = body_bounds (program_of c.args.p.now) (body_of c.args.b.now) c.requires.body in
    let v = b.values in
    let e = c.in_ok-held.ensures.values in
    omega (arith, v, e)

pub frame_in-requires : goal.frame_in-requires
frame_in-requires c =
    let b = body_bounds (program_of c.args.p.now) (body_of c.args.b.now) c.requires.body in
    let v = b.bytes in
    let e = c.in_ok-held.ensures.bytes in
    omega (arith, v, e)
