-- Where the functions of a program with tasks stand in its code.
use Rattle.std.proofs.Common.{◌≡◌, ◌⊎◌, ℕ, zero, suc, ◌+◌, ◌-◌, ◌<◌, ◌≤◌, List, length, Some, refl, sym, ap, ◌∙◌, arith}
use mathlib.Core.Logic.{inl, inr}
use Rattle.std.specs.Prelude.{slice_get, slice_index_or}
use Rattle.std.proofs.lemmas.Bool.{cases_lt}
use Rattle.std.proofs.lemmas.List.{get_or-map, length-map}
use Rattle.std.proofs.lemmas.List.FromFn.{get_or-map-range_with_len, length-map-range_with_len}
use Rattle.nesc_core.specs.Plain.{Program}
use Rattle.nesc_core.specs.WellFormed.{BeginsContext, boots, is_task}
use Rattle.core_meaning.specs.SourceOf.{handler_in}
use Rattle.task_queue.specs.Kernel.{kernel, pop_body}
use Rattle.task_queue.proofs.Bodies.{pop_is}
use Rattle.msp_isa.specs.declared.code.CodeFn.{CodeFn}
use Rattle.msp_isa.specs.Stands.{no_code}
use Rattle.mid_code.specs.declared.code.MidCode.{MidCode}
use Rattle.mid_code.specs.Machine.{fn_of, no_fn}
use Rattle.lower_stmt.specs.Bodies.{lowered}
use Rattle.select_emitter.specs.Code.{CanBeSelected, all_code, code_of}
use Rattle.task_pieces.specs.Loop.{loop_of}
use Rattle.program_image.specs.Image.{functions_of}
use Rattle.program_image.specs.Order.{line_of}
use Rattle.program_image.proofs.InOrder.{code_long, in_functions, in_pieces, in_routines}
use Rattle.program_image.proofs.Roots.{fn_there, handler_begins, root_body, root_there}
use Rattle.image_code.proofs.Good.{AreRoutines, lowered_can_be_selected}
use Rattle.task_image.specs.Order.{lone, lone_place, loop_place, pieces_of, task_image_code}
use Rattle.task_code.specs.Laws.{IsCompilable}

-- where a function stands
pub data Stands (p : Program) (routines : List CodeFn) (f : ℕ) : Type 0 where
  selected : f < functions_of (kernel p).program →
      slice_index_or (task_image_code p (all_code (lowered (kernel p).program)) routines) f no_code ≡ code_of (lowered (kernel p).program) (fn_of (lowered (kernel p).program) f) → Stands p routines f
  routine : (r : ℕ) → f ≡ functions_of (kernel p).program + r → r < length routines →
      slice_index_or (task_image_code p (all_code (lowered (kernel p).program)) routines) f no_code ≡ slice_index_or routines r no_code → Stands p routines f
  at_lone : f ≡ lone_place p → slice_index_or (task_image_code p (all_code (lowered (kernel p).program)) routines) f no_code ≡ lone → Stands p routines f
  at_loop : f ≡ loop_place p → slice_index_or (task_image_code p (all_code (lowered (kernel p).program)) routines) f no_code ≡ loop_of p.boot (kernel p).pop (lone_place p) p.tasks → Stands p routines f
  at_line : (v : ℕ) → v < 8 → f ≡ loop_place p + (v + 1) →
      slice_index_or (task_image_code p (all_code (lowered (kernel p).program)) routines) f no_code ≡ line_of (kernel p).program v → Stands p routines f

module _ (p : Program) (h : IsCompilable p) (routines : List CodeFn) (are : AreRoutines (lowered (kernel p).program).checks routines) where
  abbrev K : Program
  K = (kernel p).program

  abbrev c : MidCode
  c = lowered K

  abbrev code : List CodeFn
  code = task_image_code p (all_code c) routines

  abbrev n : ℕ
  n = functions_of K

  pub can : CanBeSelected c
  can = lowered_can_be_selected K h.kernel_well h.short

  many_fns : length (all_code c) ≡ n
  many_fns = length-map c.fns (code_of c)

  many_pieces : length (pieces_of p) ≡ 10
  many_pieces = let e = length-map-range_with_len (line_of K) 0 8 in omega (arith, e)

  pub long : length code ≡ n + (48 + (length c.checks + 10))
  long = let a = code_long (all_code c) routines (pieces_of p) in let b = many_fns in let d = are.many in let e = many_pieces in omega (arith, a, b, d, e)

  -- ---- each function

  pub selected_at : (f : ℕ) → f < n → slice_index_or code f no_code ≡ code_of c (fn_of c f)
  selected_at f lt = in_functions (all_code c) routines (pieces_of p) f (let b = many_fns in omega (arith, b, lt)) ∙ get_or-map (code_of c) c.fns f no_fn no_code lt

  pub routine_stands : (r : ℕ) → r < length routines → slice_index_or code (n + r) no_code ≡ slice_index_or routines r no_code
  routine_stands r lt = ap (λ k. slice_index_or code (k + r) no_code) (sym many_fns) ∙ in_routines (all_code c) routines (pieces_of p) r lt

  place : (k : ℕ) → lone_place p + k ≡ length (all_code c) + (length routines + k)
  place k = let b = many_fns in let d = are.many in omega (arith, b, d)

  piece_at : (f k : ℕ) → f ≡ lone_place p + k → slice_index_or code f no_code ≡ slice_index_or (pieces_of p) k no_code
  piece_at f k same = ap (λ i. slice_index_or code i no_code) (same ∙ place k) ∙ in_pieces (all_code c) routines (pieces_of p) k

  line_piece : (v : ℕ) → v < 8 → slice_index_or (pieces_of p) (v + 2) no_code ≡ line_of K v
  line_piece v few =
      ap (λ k. slice_index_or (pieces_of p) k no_code) (let e : v + 2 ≡ suc (suc v) = omega arith in e)
      ∙ get_or-map-range_with_len (line_of K) 0 8 v v no_code few (omega arith)

  pub lone_stands : slice_index_or code (lone_place p) no_code ≡ lone
  lone_stands = piece_at (lone_place p) zero (omega arith)

  pub loop_stands : slice_index_or code (loop_place p) no_code ≡ loop_of p.boot (kernel p).pop (lone_place p) p.tasks
  loop_stands = piece_at (loop_place p) (suc zero) (omega arith)

  pub line_stands : (v : ℕ) → v < 8 → slice_index_or code (loop_place p + (v + 1)) no_code ≡ line_of K v
  line_stands v few = piece_at (loop_place p + (v + 1)) (v + 2) (omega arith) ∙ line_piece v few

  routine_behind : (f : ℕ) → n ≤ f → f < lone_place p → Stands p routines f
  routine_behind f behind before =
      let m = are.many in
      let at : f ≡ n + (f - n) = omega (arith, behind) in
      let few : f - n < length routines = omega (arith, behind, before, m) in
      routine (f - n) at few (ap (λ k. slice_index_or code k no_code) at ∙ routine_stands (f - n) few)

  line_behind : (f : ℕ) → f < length code → loop_place p < f → Stands p routines f
  line_behind f lt more =
      let l = long in
      let at : f ≡ loop_place p + (f - loop_place p - 1 + 1) = omega (arith, more) in
      let few : f - loop_place p - 1 < 8 = omega (arith, more, lt, l) in
      at_line (f - loop_place p - 1) few at (ap (λ k. slice_index_or code k no_code) at ∙ line_stands (f - loop_place p - 1) few)

  pub stands : (f : ℕ) → f < length code → Stands p routines f
  stands f lt = by (cases_lt f n) (cases_lt f (lone_place p)) (cases_lt (lone_place p) f) (cases_lt (loop_place p) f)
    where
      by : (f < n) ⊎ (n ≤ f) → (f < lone_place p) ⊎ (lone_place p ≤ f) → (lone_place p < f) ⊎ (f ≤ lone_place p) → (loop_place p < f) ⊎ (f ≤ loop_place p) → Stands p routines f
      by (inl first) b d e = selected first (selected_at f first)
      by (inr behind) (inl before) d e = routine_behind f behind before
      by (inr behind) (inr last) (inr le) e = let at : f ≡ lone_place p = omega (arith, last, le) in at_lone at (ap (λ k. slice_index_or code k no_code) at ∙ lone_stands)
      by (inr behind) (inr last) (inl more) (inr le) = let at : f ≡ loop_place p = omega (arith, more, le) in at_loop at (ap (λ k. slice_index_or code k no_code) at ∙ loop_stands)
      by (inr behind) (inr last) (inl more) (inl above) = line_behind f lt above

  -- ---- what the loop and the lines call

  context_there : (f : ℕ) → BeginsContext K f → f < n
  context_there f context = root_there K f (root_body K h.kernel_well f context)

  pub boot_there : p.boot < n
  boot_there = context_there p.boot (boots refl)

  pub pop_there : (kernel p).pop < n
  pop_there = fn_there K (kernel p).pop (pop_body (length p.objects)) (pop_is p)

  pub task_there : (k f : ℕ) → slice_get p.tasks k ≡ Some f → f < n
  task_there k f e = context_there f (is_task k e)

  pub handler_there : (v f : ℕ) → handler_in p.handlers v ≡ Some f → f < n
  handler_there v f e = context_there f (handler_begins K v f e)
