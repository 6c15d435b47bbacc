-- Code in the order of an image with tasks stands as its law asks.
use Rattle.std.proofs.Common.{◌≡◌, ℕ, zero, suc, ◌+◌, ◌<◌, length, ap, ◌∙◌, arith}
use Rattle.std.specs.Prelude.{slice_index_or}
use Rattle.std.proofs.lemmas.List.FromFn.{get_or-map-range_with_len, length-map-range_with_len}
use Rattle.nesc_core.specs.Plain.{Program}
use Rattle.task_queue.specs.Kernel.{kernel}
use Rattle.msp_isa.specs.declared.code.CodeFn.{CodeFn}
use Rattle.msp_isa.specs.Stands.{no_code}
use Rattle.program_image.specs.Order.{line_of}
use Rattle.program_image.proofs.InOrder.{code_long, functions_stand, in_pieces}
use Rattle.program_image.proofs.Vectors.{line_leads, reset_leads}
use Rattle.task_image.specs.Order.{TaskCodeStands, lone_place, loop_place, pieces_of, task_image_code}

many_pieces : (p : Program) → length (pieces_of p) ≡ 10
many_pieces p = let e = length-map-range_with_len (line_of (kernel p).program) 0 8 in omega (arith, e)

line_piece : (p : Program) (v : ℕ) → v < 8 → slice_index_or (pieces_of p) (v + 2) no_code ≡ line_of (kernel p).program v
line_piece p v few =
    ap (λ k. slice_index_or (pieces_of p) k no_code) (let e : v + 2 ≡ suc (suc v) = omega arith in e)
    ∙ get_or-map-range_with_len (line_of (kernel p).program) 0 8 v v no_code few (omega arith)

pub task_code_stands : TaskCodeStands
task_code_stands p z deep words vectors data_end functions routines entries h = record {
  lowered_code = functions_stand (kernel p).program deep data_end functions routines (pieces_of p) h.lowered_code;
  boot_depth = h.boot_depth;
  pop_depth = h.pop_depth;
  task_depths = h.task_depths;
  least_depth = h.least_depth;
  handlers = h.handlers;
  even_end = h.even_end;
  room = h.room;
  none_is = let a = long in omega (arith, a);
  none_items = ap (λ (g : CodeFn). g.items) (at (lone_place p) zero (omega arith));
  reset = loop_place p;
  reset_is = let a = long in omega (arith, a);
  reset_items = ap (λ (g : CodeFn). g.items) (at (loop_place p) (suc zero) (omega arith));
  vector = reset_leads entries (loop_place p) words vectors h.leads;
  lines = λ v few. record {
    f = loop_place p + (v + 1);
    is = let a = long in omega (arith, a, few);
    behind = omega arith;
    items = ap (λ (g : CodeFn). g.items) (at (loop_place p + (v + 1)) (v + 2) (omega arith) ∙ line_piece p v few);
    vector = line_leads entries (loop_place p) words vectors h.leads v few;
  };
}
  where
    long : length (task_image_code p functions routines) ≡ lone_place p + 10
    long =
        let a = code_long functions routines (pieces_of p) in
        let b = many_pieces p in
        let c = h.lowered_code.many in
        let d = h.lowered_code.many_routines in
        omega (arith, a, b, c, d)

    there : (k : ℕ) → lone_place p + k ≡ length functions + (length routines + k)
    there k = let c = h.lowered_code.many in let d = h.lowered_code.many_routines in omega (arith, c, d)

    at : (f k : ℕ) → f ≡ lone_place p + k → slice_index_or (task_image_code p functions routines) f no_code ≡ slice_index_or (pieces_of p) k no_code
    at f k same = ap (λ n. slice_index_or (task_image_code p functions routines) n no_code) (same ∙ there k) ∙ in_pieces functions routines (pieces_of p) k
