-- The functions of a lean program's bodies keep an action near.
use Rattle.std.proofs.Common.{◌≡◌, ℕ, zero, suc, ◌+◌, ◌*◌, ◌<◌, ◌≤◌, true, List, [], ◌∷◌, ◌++◌, length, Some, sym, subst, arith}
use Rattle.std.specs.Prelude.{slice_get, slice_index_or, sum_by}
use Rattle.std.proofs.lemmas.List.Sums.{sum_by-cons}
use Rattle.nesc_core.specs.Plain.{Ty, void, int, pointer, array, struct, Body, Program}
use Rattle.nesc_core.specs.Nodes.{stmt_nodes_of}
use Rattle.nesc_core.specs.Weights.{local_bytes_in}
use Rattle.nesc_core.specs.WellFormed.{IsBody, by_return}
use Rattle.core_meaning.specs.Layout.{size_of}
use Rattle.mid_code.specs.declared.instr.Mid.{Mid}
use Rattle.mid_code.specs.declared.instr.Mid.TheVariants.{Jump, Label, Ret}
use Rattle.mid_code.specs.Machine.{fn_of}
use Rattle.lower_expr.specs.declared.spot.Spot.TheVariants.{Frame}
use Rattle.lower_expr.specs.Code.{taken_at}
use Rattle.lower_stmt.specs.Code.{WayOut, breaking, continuing, returning, leads, nothing_code}
use Rattle.lower_stmt.specs.Bodies.{all_bytes, base_of, body_code, bytes_in_frame, spots_from, spots_of, values_of, ways_of}
use Rattle.lower_stmt.proofs.Leaving.{leads_allowed}
use Rattle.lower_stmt.proofs.Weighed.{is_within}
use Rattle.lower_pace.proofs.Flow.{Flow, Setting, nothing, plains, returns}
use Rattle.lower_pace.proofs.Exprs.{costs}
use Rattle.lower_pace.proofs.Ways.{WayLeads, nothing_plain}
use Rattle.lean_pace.specs.Lean.{IsLeanStmt}
use Rattle.lean_pace.specs.Pace.{clears_in}
use Rattle.lean_pace.proofs.Stmts.{stmt_flows}

-- ---- locals

frame_small : (p : Program) (ts : List Ty) (v o x at : ℕ) → x < length ts → slice_get (spots_from p ts v o) x ≡ Some (Frame at) → at + size_of p (slice_index_or ts x void) ≤ o + all_bytes p ts
frame_small p [] v o x at lt e = absurd (omega (arith, lt))
frame_small p (void ∷ ts) v o zero at lt e = let same : o ≡ at = cc in omega (arith, same)
frame_small p (int t ∷ ts) v o zero at lt e = absurd (cc)
frame_small p (pointer t ∷ ts) v o zero at lt e = absurd (cc)
frame_small p (array t n ∷ ts) v o zero at lt e = let same : o ≡ at = cc in omega (arith, same)
frame_small p (struct k ∷ ts) v o zero at lt e = let same : o ≡ at = cc in omega (arith, same)
frame_small p (t ∷ ts) v o (suc x) at lt e = let h = frame_small p ts (v + values_of t) (o + bytes_in_frame p t) x at (omega (arith, lt)) e in omega (arith, h)

local_small : (p : Program) (ts : List Ty) (x : ℕ) → x < length ts → size_of p (slice_index_or ts x void) ≤ sum_by (λ t. size_of p t) ts
local_small p [] x lt = absurd (omega (arith, lt))
local_small p (t ∷ ts) zero lt =
    let e : sum_by (λ t. size_of p t) (t ∷ ts) ≡ size_of p t + sum_by (λ t. size_of p t) ts = sum_by-cons (λ t. size_of p t) t ts in
    omega (arith, e)
local_small p (t ∷ ts) (suc x) lt =
    let e : sum_by (λ t. size_of p t) (t ∷ ts) ≡ size_of p t + sum_by (λ t. size_of p t) ts = sum_by-cons (λ t. size_of p t) t ts in
    let h = local_small p ts x (omega (arith, lt)) in
    omega (arith, e, h)

-- ---- functions

pub body_flows : (given : Setting) (label_free : (l : ℕ) → given.size (Some (Label l)) ≤ 0) (jump_short : (l : ℕ) → given.size (Some (Jump l)) ≤ 1) (p : Program) (checks : List Ty) (b : Body) (unit clearing : ℕ) → (fn_of given.code given.f).code ≡ body_code p checks b → IsBody p b → IsLeanStmt b.code →
    15 * local_bytes_in p b ≤ clearing → given.help + 600 ≤ unit →
    Flow given (50 + (costs unit (stmt_nodes_of b.code) + costs clearing (clears_in b.code))) (fn_of given.code given.f).code
body_flows given label_free jump_short p checks b unit clearing is well few room enough =
    let base = base_of b in
    let cn : List Mid = nothing_code b.result (base + 2) in
    let tail : List Mid = cn ++ Ret (taken_at b.result (base + 2)) ∷ [] in
    let most : ℕ = 50 + (costs unit (stmt_nodes_of b.code) + costs clearing (clears_in b.code)) in
    let rets : Flow given 30 (Ret (taken_at b.result (base + 2)) ∷ []) = returns given 10 30 (taken_at b.result (base + 2)) [] (nothing given 10 (omega arith)) (omega arith) in
    let ends : Flow given 50 tail = plains given 30 50 2 cn _ (nothing_plain b.result (base + 2)) rets (omega arith) in
    let weighs = is_within p checks b in
    let frames : (x o : ℕ) → x < length b.locals → slice_get (spots_of p b) x ≡ Some (Frame o) → o + size_of p (slice_index_or b.locals x void) < 65536 =
    λ x o lt e. let small = frame_small p b.locals 0 0 x o lt e in let le = weighs.within in let most_frame = well.frame in omega (arith, small, le, most_frame) in
    let locals : (x : ℕ) → x < length b.locals → 15 * size_of p (slice_index_or b.locals x void) ≤ clearing =
    λ x lt. let le = local_small p b.locals x lt in omega (arith, le, room) in
    subst (Flow given most) (sym is)
    (stmt_flows given label_free jump_short p b.locals checks (spots_of p b) base unit clearing frames locals enough b.code (by_return b.result) (ways_of p b) 0 50 most tail well.code few
    (record { way = ways tail }) ends (record { at = 0; is = is }) (omega arith) (omega arith))
  where
    ways : (u : List Mid) (out : WayOut) → leads b.code out ≡ true → WayLeads given 50 (ways_of p b) out u
    ways u returning e = tt
    ways u breaking e = let no = leads_allowed p b.locals b.code (by_return b.result) breaking well.code e in absurd (cc)
    ways u continuing e = let no = leads_allowed p b.locals b.code (by_return b.result) continuing well.code e in absurd (cc)
