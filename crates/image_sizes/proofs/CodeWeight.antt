-- The code of an image beside the weight of its program.
use Rattle.std.proofs.Common.{◌≡◌, ℕ, ◌+◌, ◌*◌, List, [], ◌∷◌, ◌++◌, length, map, sum_by, arith}
use Rattle.std.proofs.lemmas.List.{length-map}
use Rattle.std.proofs.lemmas.List.Sums.{sum_by-append, sum_by-cons}
use Rattle.nesc_core.specs.Plain.{Ty, Program}
use Rattle.nesc_core.specs.Parts.{runs_of}
use Rattle.mid_code.specs.declared.code.Check.{Check}
use Rattle.lower_expr.specs.Code.{check_for}
use Rattle.lower_stmt.specs.Bodies.{checks_of, lowered}
use Rattle.msp_isa.specs.declared.code.CodeFn.{CodeFn}
use Rattle.msp_checks.specs.Checks.{check_fn, check_fns}
use Rattle.msp_runtime.specs.Emitted.{operation_fns}
use Rattle.select_emitter.specs.Code.{all_code}
use Rattle.program_image.specs.Order.{pieces_of}
use Rattle.image_code.specs.Code.{code_of}
use Rattle.code_bytes.specs.Bytes.{most_in, most_of}
use Rattle.code_bytes.proofs.Within.{items_within}
use Rattle.code_bytes.proofs.Fixed.{fixed_small}
use Rattle.check_bytes.proofs.Checks.{checks_are_small}
use Rattle.body_bytes.proofs.Bodies.{are_small}
use Rattle.range_sums.proofs.Few.{checks_few}
use Rattle.range_sums.proofs.Sums.{runs_ranges}
use Rattle.image_sizes.specs.Laws.{CodeIsWithinWeight}
use Rattle.image_sizes.proofs.Bounds.{AreBelow, IsBelow, all_below, both_below, sum_below}

-- ---- functions with all jumps in their longer form

abbrev pub most : CodeFn → ℕ
most f = most_in f.items

pub own_below : (fs : List CodeFn) → AreBelow fs (map most fs)
own_below [] = tt
own_below (f ∷ fs) = ((λ sizes h. items_within f.items sizes h), own_below fs)

abbrev pub all_of : List ℕ → ℕ
all_of ns = sum_by (λ n. n) ns

pub own_sum : (fs : List CodeFn) → all_of (map most fs) ≡ most_of fs
own_sum [] = omega arith
own_sum (f ∷ fs) =
    let a = sum_by-cons (λ (n : ℕ). n) (most f) (map most fs) in
    let b = sum_by-cons most f fs in
    let h = own_sum fs in
    omega (arith, a, b, h)

-- ---- checks

abbrev pub check_most : Check → ℕ
check_most check = 24 * length check.runs + 62

pub check_below : (check : Check) → IsBelow (check_fn check) (check_most check)
check_below check = λ sizes h. checks_are_small check sizes h

pub checks_sum : (p : Program) (ts : List Ty) → all_of (map check_most (map (check_for p) ts)) ≡ 24 * sum_by (λ (t : Ty). length (runs_of p t)) ts + 62 * length ts
checks_sum p [] = omega arith
checks_sum p (t ∷ ts) =
    let a = sum_by-cons (λ (n : ℕ). n) (check_most (check_for p t)) (map check_most (map (check_for p) ts)) in
    let b = sum_by-cons (λ (u : Ty). length (runs_of p u)) t ts in
    let n = length-map {B = ℕ × ℕ} (runs_of p t) (λ r. (r.first, r.count)) in
    let h = checks_sum p ts in
    omega (arith, a, b, n, h)

-- ---- the law

pub code_within : CodeIsWithinWeight
code_within p bytes h lean has =
    let of_bodies : List ℕ = map most (all_code (lowered p)) in
    let of_operations : List ℕ = map most operation_fns in
    let of_checks : List ℕ = map check_most (lowered p).checks in
    let of_pieces : List ℕ = map most (pieces_of p) in
    let below = both_below (all_code (lowered p)) _ of_bodies ((of_operations ++ of_checks) ++ of_pieces) (own_below (all_code (lowered p)))
    (both_below (operation_fns ++ check_fns (lowered p).checks) (pieces_of p) (of_operations ++ of_checks) of_pieces
    (both_below operation_fns (check_fns (lowered p).checks) of_operations of_checks (own_below operation_fns) (all_below check_fn check_most check_below (lowered p).checks))
    (own_below (pieces_of p))) in
    let all = sum_below (code_of p) has.sizes (of_bodies ++ ((of_operations ++ of_checks) ++ of_pieces)) has.shortest below in
    let s1 = sum_by-append (λ (n : ℕ). n) of_bodies ((of_operations ++ of_checks) ++ of_pieces) in
    let s2 = sum_by-append (λ (n : ℕ). n) (of_operations ++ of_checks) of_pieces in
    let s3 = sum_by-append (λ (n : ℕ). n) of_operations of_checks in
    let e1 = own_sum (all_code (lowered p)) in
    let e2 = own_sum operation_fns in
    let e3 = own_sum (pieces_of p) in
    let e4 = checks_sum p (checks_of p) in
    let bodies = are_small p h.well lean in
    let fixed = fixed_small p.boot p.handlers in
    let ranges = runs_ranges p in
    let few = checks_few p in
    let sum = has.sum in
    omega (arith, all, s1, s2, s3, e1, e2, e3, e4, bodies, fixed, ranges, few, sum)
