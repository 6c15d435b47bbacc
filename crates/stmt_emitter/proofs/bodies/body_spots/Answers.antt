use Rattle.std.proofs.Common.{◌+◌, ◌<◌, ◌≤◌, ◌^◌, List, map, sym, subst, arith}
use Rattle.nesc_core.specs.declared.tree.CoreType.{CoreType}
use Rattle.nesc_core.specs.View.{body_of, program_of, type_of}
use Rattle.lower_stmt.specs.Bodies.{all_bytes, all_values}
use Rattle.stmt_emitter.specs.Starts.{AreAllSized}
use Rattle.stmt_emitter.proofs.Fitting.{all_are_sized}
use Rattle.stmt_emitter.proofs.Placed.{body_bounds}
use Rattle.stmt_emitter.proofs.bodies.body_spots.Goals as goal

pub spots_of-requires-clause-types : goal.spots_of-requires-clause-types
spots_of-requires-clause-types c =
    let p = program_of c.args.p.now in
    subst (λ (ts : List CoreType). AreAllSized p.structs (map type_of ts)) (sym c.as_slice.ensures) (all_are_sized p.structs (map type_of c.args.b.now.locals) c.requires.body.locals)

pub spots_of-requires-clause-values : goal.spots_of-requires-clause-values
spots_of-requires-clause-values c =
    let b = body_bounds (program_of c.args.p.now) (body_of c.args.b.now) c.requires.body in
    let v = b.values in
    let small : all_values (map type_of c.args.b.now.locals) + 1 < 2 ^ 32 = omega (arith, v) in
    subst (λ (ts : List CoreType). all_values (map type_of ts) + 1 < 2 ^ 32) (sym c.as_slice.ensures) small

pub spots_of-requires-clause-bytes : goal.spots_of-requires-clause-bytes
spots_of-requires-clause-bytes c =
    let p = program_of c.args.p.now in
    let b = body_bounds p (body_of c.args.b.now) c.requires.body in
    let v = b.bytes in
    let small : all_bytes p (map type_of c.args.b.now.locals) ≤ 65535 = omega (arith, v) in
    subst (λ (ts : List CoreType). all_bytes p (map type_of ts) ≤ 65535) (sym c.as_slice.ensures) small
