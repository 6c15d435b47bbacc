-- The functions of a program's code are counted in 32 bits.
use Rattle.std.proofs.Common.{◌≡◌, ℕ, ◌+◌, ◌<◌, ◌≤◌, length, arith}
use Rattle.std.proofs.lemmas.List.{length-map}
use Rattle.nesc_core.specs.Plain.{Program}
use Rattle.mid_code.specs.declared.code.Check.{Check}
use Rattle.lower_expr.specs.Code.{check_for}
use Rattle.lower_stmt.specs.Bodies.{checks_of, lowered, mid_fn_of}
use Rattle.lower_form.proofs.Counted.{is_numbered}
use Rattle.lower_form.proofs.Sound.{bodies_few}
use Rattle.msp_routines.specs.Routines.{routine_fns}
use Rattle.program_image.specs.Order.{reset_place}
use Rattle.image_code.specs.Code.{code_of}
use Rattle.image_code.specs.Laws.{CanBeChecked, IsCompilable}
use Rattle.image_code.proofs.Good.{long}
use Rattle.image_code.proofs.Whole.{are_routines}

pub code_many : (p : Program) → IsCompilable p → CanBeChecked (lowered p).checks → (length (code_of p) ≡ reset_place p + 9) × (length (code_of p) + 9 < 4294967296)
code_many p h can =
    let l = long p h.well h.ranked h.short (routine_fns (lowered p).checks) (are_routines (lowered p).checks can.few can.words) in
    let few = (is_numbered p h.short).checks in
    let checks = length-map (checks_of p) (check_for p) in
    let fns = length-map p.bodies (mid_fn_of p (checks_of p)) in
    let bodies = bodies_few p.bodies in
    let nodes = h.short.nodes in
    (omega (arith, l), omega (arith, l, few, checks, fns, bodies, nodes))
