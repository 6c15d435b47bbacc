-- The code of an image with tasks beside the weight of its program.
use Rattle.std.proofs.Common.{ℕ, ◌+◌, ◌*◌, ◌≤◌, List, [], ◌∷◌, ◌++◌, length, map, sum_by, All, arith, length-append}
use Rattle.std.specs.List.{flat_map}
use Rattle.std.proofs.lemmas.List.Elements.{All-head, All-tail}
use Rattle.std.proofs.lemmas.List.Sums.{sum_by-append, sum_by-cons}
use Rattle.nesc_core.specs.Plain.{Ty, Body, Program}
use Rattle.nesc_core.specs.Derefs.{derefs, stmt_derefs}
use Rattle.nesc_core.specs.Nodes.{body_nodes_of, nodes_of}
use Rattle.nesc_core.specs.WellFormed.{IsBody, IsWellFormed}
use Rattle.mid_code.specs.declared.code.Check.{Check}
use Rattle.mid_code.specs.declared.code.MidCode.{MidCode}
use Rattle.lower_stmt.specs.Bodies.{checks_of, lowered, mid_fn_of}
use Rattle.msp_isa.specs.declared.code.CodeFn.{CodeFn}
use Rattle.msp_checks.specs.Checks.{check_fn, check_fns}
use Rattle.msp_runtime.specs.Emitted.{operation_fns}
use Rattle.select_emitter.specs.Code.{all_code}
use Rattle.select_emitter.specs.Code as select
use Rattle.code_bytes.specs.Bytes.{most_of}
use Rattle.code_bytes.proofs.Fixed.{operation_bytes}
use Rattle.lean_pace.specs.Lean.{IsLean, IsLeanStmt}
use Rattle.lean_pace.proofs.Kernel.{kernel_is_lean, ranges_same}
use Rattle.body_bytes.proofs.Bodies.{body_bytes, function_bytes}
use Rattle.range_sums.proofs.Few.{checks_few}
use Rattle.range_sums.proofs.Sums.{runs_ranges}
use Rattle.task_queue.specs.Kernel.{kernel_program, pop_body, posting_body, queue_body}
use Rattle.image_sizes.proofs.Bounds.{all_below, both_below, sum_below}
use Rattle.image_sizes.proofs.CodeWeight.{check_below, check_most, checks_sum, most, own_below, own_sum}
use Rattle.task_image.specs.Order.{pieces_of}
use Rattle.task_code.specs.Code.{code_of}
use Rattle.task_sizes.specs.Laws.{CodeIsWithinWeight}
use Rattle.task_sizes.proofs.Kernel.{pop_costs, queue_costs}
use Rattle.task_sizes.proofs.Loop.{pieces_bytes}
use Rattle.task_sizes.proofs.Posts.{stmt_posts}
use Rattle.task_sizes.proofs.Tasks.{tasks_few}

-- ---- the functions of the kernel's bodies

abbrev Lean : Body → Type 0
Lean b = IsLeanStmt b.code

abbrev derefs_in : List Body → List Ty
derefs_in bs = flat_map (λ (b : Body). stmt_derefs b.code) bs

module _ (p : Program) (few : length p.tasks ≤ 254) (c : MidCode) (checks : List Ty) where
  abbrev K : Program
  K = kernel_program p

  abbrev q : ℕ
  q = length p.bodies

  abbrev fn_of : Body → CodeFn
  fn_of b = select.code_of c (mid_fn_of K checks b)

  abbrev own : List Body
  own = queue_body (length p.objects) ∷ pop_body (length p.objects) ∷ []

  abbrev of_kernel : List Body → List Body
  of_kernel bs = map (posting_body q) bs ++ own

  abbrev fns_of : List Body → List CodeFn
  fns_of bs = map (select.code_of c) (map (mid_fn_of K checks) (of_kernel bs))

  queue_bytes : most (fn_of (queue_body (length p.objects))) ≤ 616
  queue_bytes =
      let h = function_bytes c (mid_fn_of K checks (queue_body (length p.objects))) in
      let g = queue_costs p few checks in
      omega (arith, h, g)

  pop_bytes : most (fn_of (pop_body (length p.objects))) ≤ 524
  pop_bytes =
      let h = function_bytes c (mid_fn_of K checks (pop_body (length p.objects))) in
      let g = pop_costs p few checks in
      omega (arith, h, g)

  own_bytes : most_of (fns_of []) ≤ 1140
  own_bytes =
      let e1 = sum_by-cons most (fn_of (queue_body (length p.objects))) (fn_of (pop_body (length p.objects)) ∷ []) in
      let e2 = sum_by-cons most (fn_of (pop_body (length p.objects))) [] in
      let h = queue_bytes in
      let g = pop_bytes in
      omega (arith, e1, e2, h, g)

  -- a body leaves 62 bytes for each dereference, and 10
  posting_bytes : (b : Body) → IsBody K (posting_body q b) → Lean (posting_body q b) → most (fn_of (posting_body q b)) + 62 * length (stmt_derefs (posting_body q b).code) + 10 ≤ 96 * body_nodes_of b
  posting_bytes b formed lean =
      let h = body_bytes K c checks (posting_body q b) formed lean in
      let g = stmt_posts q b.code in
      omega (arith, h, g)

  pub kernel_bytes : (bs : List Body) → All (IsBody K) (of_kernel bs) → All Lean (of_kernel bs)
      → most_of (fns_of bs) + 62 * length (derefs_in (of_kernel bs)) + 10 * length bs ≤ 96 * sum_by body_nodes_of bs + 1140
  kernel_bytes [] formed lean = let h = own_bytes in omega (arith, h)
  kernel_bytes (b ∷ bs) formed lean =
      let e1 = sum_by-cons most (fn_of (posting_body q b)) (fns_of bs) in
      let e2 = sum_by-cons body_nodes_of b bs in
      let e3 = length-append (stmt_derefs (posting_body q b).code) (derefs_in (of_kernel bs)) in
      let h = posting_bytes b (All-head (IsBody K) (posting_body q b) (of_kernel bs) formed) (All-head Lean (posting_body q b) (of_kernel bs) lean) in
      let g = kernel_bytes bs (All-tail (IsBody K) (posting_body q b) (of_kernel bs) formed) (All-tail Lean (posting_body q b) (of_kernel bs) lean) in
      omega (arith, e1, e2, e3, h, g)

of_bodies : (p : Program) → length p.tasks ≤ 254 → IsWellFormed (kernel_program p) → IsLean p
    → most_of (all_code (lowered (kernel_program p))) + 62 * length (derefs (kernel_program p)) + 10 * length p.bodies ≤ 96 * nodes_of p + 1140
of_bodies p few formed lean = kernel_bytes p few (lowered (kernel_program p)) (checks_of (kernel_program p)) p.bodies formed.bodies (kernel_is_lean p lean).bodies

-- ---- the law

pub code_within : CodeIsWithinWeight
code_within p bytes h has =
    let K : Program = kernel_program p in
    let fns : List CodeFn = all_code (lowered K) in
    let checks : List Check = (lowered K).checks in
    let of_fns : List ℕ = map most fns in
    let of_operations : List ℕ = map most operation_fns in
    let of_checks : List ℕ = map check_most checks in
    let of_pieces : List ℕ = map most (pieces_of p) in
    let routines = both_below operation_fns (check_fns checks) of_operations of_checks (own_below operation_fns) (all_below check_fn check_most check_below checks) in
    let behind = both_below (operation_fns ++ check_fns checks) (pieces_of p) (of_operations ++ of_checks) of_pieces routines (own_below (pieces_of p)) in
    let below = both_below fns ((operation_fns ++ check_fns checks) ++ pieces_of p) of_fns ((of_operations ++ of_checks) ++ of_pieces) (own_below fns) behind in
    let all = sum_below (code_of p) has.sizes (of_fns ++ ((of_operations ++ of_checks) ++ of_pieces)) has.shortest below in
    let s1 = sum_by-append (λ (n : ℕ). n) of_fns ((of_operations ++ of_checks) ++ of_pieces) in
    let s2 = sum_by-append (λ (n : ℕ). n) (of_operations ++ of_checks) of_pieces in
    let s3 = sum_by-append (λ (n : ℕ). n) of_operations of_checks in
    let e1 = own_sum fns in
    let e2 = own_sum operation_fns in
    let e3 = own_sum (pieces_of p) in
    let e4 = checks_sum K (checks_of K) in
    let bodies = of_bodies p h.fits.tasks h.kernel_well h.lean in
    let operations = operation_bytes in
    let pieces = pieces_bytes p in
    let tasks = tasks_few p h.well h.apart in
    let ranges = runs_ranges K in
    let same = ranges_same p in
    let few = checks_few K in
    let sum = has.sum in
    omega (arith, all, s1, s2, s3, e1, e2, e3, e4, bodies, operations, pieces, tasks, ranges, same, few, sum)
