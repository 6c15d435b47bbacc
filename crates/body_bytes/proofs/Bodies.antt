-- The bytes of the functions of all bodies.
use Rattle.std.proofs.Common.{ℕ, ◌+◌, ◌*◌, ◌≤◌, List, [], ◌∷◌, length, map, sum_by, All, arith, length-append}
use Rattle.std.specs.List.{flat_map}
use Rattle.std.proofs.lemmas.List.Elements.{All-head, All-tail}
use Rattle.std.proofs.lemmas.List.Sums.{sum_by-cons}
use Rattle.msp_isa.specs.declared.code.CodeFn.{CodeFn}
use Rattle.nesc_core.specs.Plain.{Ty, Body, Program}
use Rattle.nesc_core.specs.Derefs.{stmt_derefs}
use Rattle.nesc_core.specs.Nodes.{body_nodes_of}
use Rattle.nesc_core.specs.WellFormed.{IsBody}
use Rattle.mid_code.specs.declared.code.MidCode.{MidCode}
use Rattle.mid_code.specs.declared.code.MidFn.{MidFn}
use Rattle.lower_stmt.specs.Bodies.{checks_of, lowered, mid_fn_of}
use Rattle.msp_select.specs.Frames.{frame_home, frame_place, own_bytes}
use Rattle.msp_select.specs.Select.{entry_of, parts_of_all, parts_of_fn}
use Rattle.select_emitter.specs.Code.{code_of, fn_items}
use Rattle.code_bytes.specs.Bytes.{most_in}
use Rattle.body_bytes.specs.Laws.{BodiesAreSmall}
use Rattle.lean_pace.specs.Lean.{IsLeanStmt}
use Rattle.body_bytes.proofs.Costs.{costs}
use Rattle.body_bytes.proofs.Parts.{all_bytes, bytes_are, bytes_both, entry_bytes}
use Rattle.body_bytes.proofs.Small.{stmt_small}
use Rattle.body_bytes.proofs.Spots.{framed_of}
use Rattle.body_bytes.proofs.Stmts.{body_light}

pub function_bytes : (c : MidCode) (fn : MidFn) → most_in (fn_items c fn) ≤ 10 + costs fn.code
function_bytes c fn =
    let e1 = bytes_are (parts_of_fn c (frame_home fn) (own_bytes fn) fn) in
    let e2 = bytes_both (entry_of (own_bytes fn)) (parts_of_all c (frame_home fn) (own_bytes fn) fn.code) in
    let h1 = entry_bytes (own_bytes fn) in
    let h2 = all_bytes c (frame_place fn) (own_bytes fn) fn.code in
    omega (arith, e1, e2, h1, h2)

abbrev bytes_of : CodeFn → ℕ
bytes_of f = most_in f.items

module _ (p : Program) (c : MidCode) (checks : List Ty) where
  pub body_bytes : (b : Body) → IsBody p b → IsLeanStmt b.code → most_in (fn_items c (mid_fn_of p checks b)) + 62 * length (stmt_derefs b.code) + 96 * stmt_small b.code + 10 ≤ 96 * body_nodes_of b
  body_bytes b formed lean =
      let h = function_bytes c (mid_fn_of p checks b) in
      let g = body_light p checks b (framed_of p b) formed.code lean in
      omega (arith, h, g)

  all_bodies : (bs : List Body) → All (IsBody p) bs → All (λ (b : Body). IsLeanStmt b.code) bs
      → sum_by bytes_of (map (code_of c) (map (mid_fn_of p checks) bs)) + 62 * length (flat_map (λ (b : Body). stmt_derefs b.code) bs) ≤ 96 * sum_by body_nodes_of bs
  all_bodies [] formed lean = omega arith
  all_bodies (b ∷ bs) formed lean =
      let e1 = sum_by-cons bytes_of (code_of c (mid_fn_of p checks b)) (map (code_of c) (map (mid_fn_of p checks) bs)) in
      let e2 = sum_by-cons body_nodes_of b bs in
      let e3 = length-append (stmt_derefs b.code) (flat_map (λ (x : Body). stmt_derefs x.code) bs) in
      let h = body_bytes b (All-head (IsBody p) b bs formed) (All-head (λ (x : Body). IsLeanStmt x.code) b bs lean) in
      let g = all_bodies bs (All-tail (IsBody p) b bs formed) (All-tail (λ (x : Body). IsLeanStmt x.code) b bs lean) in
      omega (arith, e1, e2, e3, h, g)

pub are_small : BodiesAreSmall
are_small p formed lean = all_bodies p (lowered p) (checks_of p) p.bodies formed.bodies lean.bodies
