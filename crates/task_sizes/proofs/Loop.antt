-- The bytes of the code that stands behind the functions of a kernel: a lone RET, the loop of tasks and the lines.
use Rattle.std.proofs.Common.{◌≡◌, ℕ, suc, ◌+◌, ◌*◌, ◌≤◌, false, List, [], ◌∷◌, ◌++◌, length, map, refl, arith}
use Rattle.std.specs.Prelude.{pos}
use Rattle.std.specs.List.{range_with_len}
use Rattle.std.proofs.lemmas.List.Sums.{sum_by-append, sum_by-cons}
use Rattle.nesc_core.specs.Plain.{Program}
use Rattle.msp_isa.specs.declared.code.CodeFn.{CodeFn}
use Rattle.msp_isa.specs.declared.code.Item.{Item}
use Rattle.msp_isa.specs.declared.code.Item.TheVariants as item
use Rattle.msp_isa.specs.declared.instr.Cond.TheVariants.{Jmp, Jne}
use Rattle.msp_isa.specs.declared.instr.Instr.TheVariants.{One, Jump}
use Rattle.msp_isa.specs.declared.instr.Op1.TheVariants.{Call}
use Rattle.msp_isa.specs.declared.instr.Operand.TheVariants.{Reg}
use Rattle.code_pieces.specs.Pieces.{open_gate}
use Rattle.preempt_tasks.specs.Bodies.{compare}
use Rattle.preempt_tasks.specs.Laid.{choice_items, loop_items}
use Rattle.task_pieces.specs.Loop.{loop_of, turn_items}
use Rattle.task_queue.specs.Kernel.{kernel}
use Rattle.task_image.specs.Order.{lone, lone_place, pieces_of}
use Rattle.code_bytes.specs.Bytes.{most_bytes, most_in, most_of}
use Rattle.code_bytes.proofs.Fixed.{line, lines_bytes}

lone_bytes : most_in lone.items ≡ 2
lone_bytes = refl

-- ---- the loop

abbrev choice : ℕ → ℕ → List Item
choice k task = item.Is (compare k) ∷ item.Is (Jump Jne (pos 2)) ∷ item.AddrOf task 13 ∷ []

choice_bytes : (k task : ℕ) → most_in (choice k task) ≡ 10
choice_bytes k task = refl

choices_bytes : (k : ℕ) (tasks : List ℕ) → most_in (choice_items k tasks) ≡ 10 * length tasks
choices_bytes k [] = omega arith
choices_bytes k (task ∷ more) =
    let e = sum_by-append most_bytes (choice k task) (choice_items (suc k) more) in
    let h = choice_bytes k task in
    let g = choices_bytes (suc k) more in
    omega (arith, e, h, g)

turn_bytes : (boot pop none : ℕ) → most_in (turn_items boot pop none) ≡ 34
turn_bytes boot pop none = refl

abbrev ends : List Item
ends = item.Is open_gate ∷ item.Is (One Call false (Reg 13)) ∷ item.Jump Jmp 0 ∷ []

end_bytes : most_in ends ≡ 8
end_bytes = refl

loop_bytes : (boot pop none : ℕ) (tasks : List ℕ) → most_in (loop_items boot pop none tasks) ≡ 42 + 10 * length tasks
loop_bytes boot pop none tasks =
    let e1 = sum_by-append most_bytes (turn_items boot pop none) (choice_items 0 tasks ++ ends) in
    let e2 = sum_by-append most_bytes (choice_items 0 tasks) ends in
    let h1 = turn_bytes boot pop none in
    let h2 = choices_bytes 0 tasks in
    let h3 = end_bytes in
    omega (arith, e1, e2, h1, h2, h3)

-- ---- the pieces

pub pieces_bytes : (p : Program) → most_of (pieces_of p) ≤ 524 + 10 * length p.tasks
pieces_bytes p =
    let all : List CodeFn = map (line p.handlers) (range_with_len 0 8) in
    let loops : CodeFn = loop_of p.boot (kernel p).pop (lone_place p) p.tasks in
    add _ _ _ _ _ (length p.tasks) (sum_by-cons (λ (f : CodeFn). most_in f.items) lone (loops ∷ all)) (sum_by-cons (λ (f : CodeFn). most_in f.items) loops all) lone_bytes
    (loop_bytes p.boot (kernel p).pop (lone_place p) p.tasks) (lines_bytes p.handlers (range_with_len 0 8))
  where
    add : (whole first more second rest n : ℕ) → whole ≡ first + more → more ≡ second + rest → first ≡ 2 → second ≡ 42 + 10 * n → rest ≤ 60 * 8 → whole ≤ 524 + 10 * n
    add whole first more second rest n s t one two le = omega (arith, s, t, one, two, le)
