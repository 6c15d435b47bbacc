-- Eleven bounds of the kernel's program keep to the pace of the program.
use Rattle.std.proofs.Common.{◌≡◌, ℕ, ◌+◌, ◌*◌, ◌≤◌, sym, subst, length, arith}
use Rattle.std.proofs.lemmas.Nat.{mul-le}
use Rattle.std.proofs.Math.Nat.{add-mul, mul-add, mul_assoc, mul_left_comm}
use Rattle.nesc_core.specs.Plain.{Stmt, eval, block, branch, loop, switch, break, continue, return, atomic, clear, here, Stmts, no_stmts, more_stmts, Body, Program}
use Rattle.nesc_core.specs.Derefs.{ranges_of}
use Rattle.nesc_core.specs.Nodes.{body_nodes_of, nodes_of, stmt_nodes_of, stmts_nodes_of}
use Rattle.nesc_core.specs.Weights.{local_bytes, local_bytes_in, pace_of_program}
use Rattle.lower_pace.proofs.Bodies.{bytes_within, nodes_within}
use Rattle.task_queue.specs.Kernel.{kernel_program}
use Rattle.task_queue.proofs.Bodies.{InKernel, in_kernel, kept, pops, queues}
use Rattle.lean_pace.specs.Pace.{KernelKeepsPace, clears_in, clears_in_all, longest_gap, most_nodes, most_of_bodies, most_of_body}
use Rattle.lean_pace.proofs.Lists.{most_within}
use Rattle.lean_pace.proofs.Kernel.{clears_stay, ranges_same, stmt_twice}

-- ---- counts

mutual
  clears_low : (s : Stmt) → clears_in s ≤ stmt_nodes_of s
  clears_low (eval e) = omega arith
  clears_low (block list) = let h = all_clears_low list in omega (arith, h)
  clears_low (branch test a b) = let h = clears_low a in let g = clears_low b in omega (arith, h, g)
  clears_low (loop first test step body) = let h = clears_low body in omega (arith, h)
  clears_low (switch e cases list) = let h = all_clears_low list in omega (arith, h)
  clears_low break = omega arith
  clears_low continue = omega arith
  clears_low (return e) = omega arith
  clears_low (atomic s) = let h = clears_low s in omega (arith, h)
  clears_low (clear x) = omega arith
  clears_low (here arguments first count body) = let h = clears_low body in omega (arith, h)

  all_clears_low : (list : Stmts) → clears_in_all list ≤ stmts_nodes_of list
  all_clears_low no_stmts = omega arith
  all_clears_low (more_stmts s rest) = let h = clears_low s in let g = all_clears_low rest in omega (arith, h, g)

-- ---- products

sum_le : (a b m n : ℕ) → a ≤ m → b ≤ n → a + b ≤ m + n
sum_le a b m n h g = omega (arith, h, g)

-- where a body has at most so many nodes and clears, with these ranges and bytes of locals
body_le : (nodes clears ranges bytes n r l : ℕ) → nodes ≤ 2 * n + 74 → clears ≤ n → ranges ≡ r → bytes ≤ l + 2 →
    nodes * (1220 + 8 * ranges) + clears * (15 * bytes) ≤ (2 * n + 74) * (1220 + 8 * r) + n * (15 * (l + 2))
body_le nodes clears ranges bytes n r l few cleared same small =
    sum_le (nodes * (1220 + 8 * ranges)) (clears * (15 * bytes)) ((2 * n + 74) * (1220 + 8 * r)) (n * (15 * (l + 2)))
    (mul-le nodes (1220 + 8 * ranges) (2 * n + 74) (1220 + 8 * r) few (omega (arith, same)))
    (mul-le clears (15 * bytes) n (15 * (l + 2)) cleared (omega (arith, small)))

firsts : (n u v x : ℕ) → 22 * u + 11 * v + 396 ≤ 96 * x → 22 * (n * u) + 11 * (n * v) + 396 * n ≤ 96 * n * x
firsts n u v x le =
    let a : n * (22 * u + 11 * v + 396) ≡ n * (22 * u + 11 * v) + n * 396 = mul-add n (22 * u + 11 * v) 396 in
    let b : n * (22 * u + 11 * v) ≡ n * (22 * u) + n * (11 * v) = mul-add n (22 * u) (11 * v) in
    let c : n * (22 * u) ≡ 22 * (n * u) = mul_left_comm n 22 u in
    let d : n * (11 * v) ≡ 11 * (n * v) = mul_left_comm n 11 v in
    let e : n * (96 * x) ≡ 96 * (n * x) = mul_left_comm n 96 x in
    let f : 96 * n * x ≡ 96 * (n * x) = mul_assoc 96 n x in
    let g = mul-le n (22 * u + 11 * v + 396) n (96 * x) (omega arith) le in
    omega (arith, a, b, c, d, e, f, g)

-- u for each node, v for each local that is cleared, x the bytes of the stack and the ranges that the pace counts
eleven : (n u v x y more : ℕ) → 22 * u + 11 * v + 396 ≤ 96 * x → 814 * u + more ≤ 4000 * x → 11 * ((2 * n + 74) * u + n * v) + 396 * n + more ≤ (96 * n + y + 4000) * x
eleven n u v x y more le rest =
    let a : (2 * n + 74) * u ≡ 2 * n * u + 74 * u = add-mul (2 * n) 74 u in
    let b : 2 * n * u ≡ 2 * (n * u) = mul_assoc 2 n u in
    let c : (96 * n + y + 4000) * x ≡ (96 * n + y) * x + 4000 * x = add-mul (96 * n + y) 4000 x in
    let d : (96 * n + y) * x ≡ 96 * n * x + y * x = add-mul (96 * n) y x in
    let e = firsts n u v x le in
    omega (arith, a, b, c, d, e, rest)

-- the numbers of nodes, ranges and bytes
numbers : (n r l t bodies : ℕ) → t ≤ 254 → bodies ≤ (2 * n + 74) * (1220 + 8 * r) + n * (15 * (l + 2)) →
    11 * bodies + 396 * n + (99 * l + 88 * r + 24199 + 36 * t) ≤ (96 * n + 24 * r + 4000) * (300 + 3 * r + 2 * l)
numbers n r l t bodies few le =
    larger bodies ((2 * n + 74) * (1220 + 8 * r) + n * (15 * (l + 2))) (396 * n) (99 * l + 88 * r + 24199 + 36 * t) ((96 * n + 24 * r + 4000) * (300 + 3 * r + 2 * l)) le
    (eleven n (1220 + 8 * r) (15 * (l + 2)) (300 + 3 * r + 2 * l) (24 * r) (99 * l + 88 * r + 24199 + 36 * t) (omega arith) (omega (arith, few)))
  where
    larger : (a b c d e : ℕ) → a ≤ b → 11 * b + c + d ≤ e → 11 * a + c + d ≤ e
    larger a b c d e h g = omega (arith, h, g)

-- a gap, by what a body takes
gap_le : (bodies bytes nodes ranges n r l : ℕ) → nodes ≤ 2 * n + 74 → ranges ≡ r → bytes ≤ l + 2 →
    bodies + (3 * bytes + 6 * nodes + 26) + 60 + (3 * bytes + 6 * nodes + 26) + (3 * bytes + 6 * nodes + 26 + (608 + 8 * ranges) + 10) + 2 ≤ bodies + 36 * n + 9 * l + 8 * r + 2110
gap_le bodies bytes nodes ranges n r l few same small = omega (arith, few, same, small)

in_all : (gap bodies n r l t pace : ℕ) → gap ≤ bodies + 36 * n + 9 * l + 8 * r + 2110 → 11 * bodies + 396 * n + (99 * l + 88 * r + 24199 + 36 * t) ≤ pace → 11 * (gap + 68 + (3 * t + 20)) + (3 * t + 20) + 1 ≤ pace
in_all gap bodies n r l t pace le h = omega (arith, le, h)

-- ---- the kernel's program

module _ (p : Program) where
  abbrev K : Program
  K = kernel_program p

  abbrev BytesFew : Body → Type 0
  BytesFew b = local_bytes_in K b ≤ local_bytes p + 2

  abbrev NodesFew : Body → Type 0
  NodesFew b = body_nodes_of b ≤ 2 * nodes_of p + 74

  abbrev ClearsFew : Body → Type 0
  ClearsFew b = clears_in b.code ≤ nodes_of p

  body_bytes : (f : ℕ) (b : Body) → InKernel p f b → BytesFew b
  body_bytes f b (kept c old lt same) = subst BytesFew (sym same) (let h = bytes_within p f c old in omega (arith, h))
  body_bytes f b (queues at same) = subst BytesFew (sym same) (omega arith)
  body_bytes f b (pops at same) = subst BytesFew (sym same) (omega arith)

  body_nodes : (f : ℕ) (b : Body) → InKernel p f b → NodesFew b
  body_nodes f b (kept c old lt same) = subst NodesFew (sym same) (let h = nodes_within p f c old in let g = stmt_twice (length p.bodies) c.code in omega (arith, h, g))
  body_nodes f b (queues at same) = subst NodesFew (sym same) (omega arith)
  body_nodes f b (pops at same) = subst NodesFew (sym same) (omega arith)

  body_clears : (f : ℕ) (b : Body) → InKernel p f b → ClearsFew b
  body_clears f b (kept c old lt same) =
      subst ClearsFew (sym same) (let h = nodes_within p f c old in let g = clears_stay (length p.bodies) c.code in let k = clears_low c.code in omega (arith, h, g, k))
  body_clears f b (queues at same) = subst ClearsFew (sym same) (omega arith)
  body_clears f b (pops at same) = subst ClearsFew (sym same) (omega arith)

  bytes_few : local_bytes K ≤ local_bytes p + 2
  bytes_few = most_within (local_bytes_in K) K.bodies 0 (local_bytes p + 2) (omega arith) (λ f b is. body_bytes f b (in_kernel p f b is))

  abbrev all_bodies : ℕ
  all_bodies = (2 * nodes_of p + 74) * (1220 + 8 * ranges_of p) + nodes_of p * (15 * (local_bytes p + 2))

  bodies_few : most_of_bodies K ≤ all_bodies
  bodies_few =
      most_within (most_of_body K) K.bodies 0 all_bodies (omega arith)
      (λ f b is.
      body_le (body_nodes_of b) (clears_in b.code) (ranges_of K) (local_bytes K) (nodes_of p) (ranges_of p) (local_bytes p) (body_nodes f b (in_kernel p f b is)) (body_clears f b (in_kernel p f b is)) (ranges_same p) bytes_few)

  gap_few : longest_gap K ≤ most_of_bodies K + 36 * nodes_of p + 9 * local_bytes p + 8 * ranges_of p + 2110
  gap_few =
      gap_le (most_of_bodies K) (local_bytes K) (most_nodes K) (ranges_of K) (nodes_of p) (ranges_of p) (local_bytes p)
      (most_within body_nodes_of K.bodies 0 (2 * nodes_of p + 74) (omega arith) (λ f b is. body_nodes f b (in_kernel p f b is))) (ranges_same p) bytes_few

pub kernel_keeps_pace : KernelKeepsPace
kernel_keeps_pace p few =
    in_all (longest_gap (K p)) (most_of_bodies (K p)) (nodes_of p) (ranges_of p) (local_bytes p) (length p.tasks) (pace_of_program p) (gap_few p)
    (numbers (nodes_of p) (ranges_of p) (local_bytes p) (length p.tasks) (most_of_bodies (K p)) few (bodies_few p))
