-- The bytes of the code of statements, with 62 for each dereference and 96 for each small call, beside those of their nodes.
use Rattle.std.proofs.Common.{ℕ, suc, ◌+◌, ◌*◌, ◌≤◌, Bool, true, false, List, [], ◌∷◌, ◌++◌, length, Option, Some, None, arith}
use Rattle.std.specs.Prelude.{ℤ, ◌==◌, slice_get, slice_index_or}
use Rattle.std.specs.Ordering.{int_eq}
use Rattle.nm_base.specs.declared.int_type.IntType.{IntType}
use Rattle.nm_base.specs.IntType.{wrapped}
use Rattle.nesc_core.specs.Plain.{Ty, Expr, Stmt, Stmts, Case, no_stmts, more_stmts, Body, Program}
use Rattle.nesc_core.specs.Plain as plain
use Rattle.nesc_core.specs.Derefs.{expr_derefs, maybe_derefs, stmt_derefs, stmts_derefs}
use Rattle.nesc_core.specs.Nodes.{expr_nodes_of, maybe_nodes_of, stmt_nodes_of, stmts_nodes_of}
use Rattle.nesc_core.specs.Typing.{Has}
use Rattle.nesc_core.specs.WellFormed.{AreStmts, Exits, IsDone, IsGiven, IsStmt, by_return, count_stmts}
use Rattle.nesc_core.specs.WellFormed as formed
use Rattle.core_meaning.specs.Layout.{size_of}
use Rattle.core_meaning.specs.Work.{number_of}
use Rattle.core_meaning.specs.Flow.{start_of_default}
use Rattle.mid_code.specs.declared.instr.Mid.{Mid}
use Rattle.mid_code.specs.declared.instr.Mid.TheVariants.{Label, Jump, Ret, End}
use Rattle.mid_code.specs.declared.instr.Test.TheVariants.{Eq, Ne}
use Rattle.mid_code.specs.Help.{is_wide}
use Rattle.open_law.specs.Homes.{is_made}
use Rattle.lower_expr.specs.declared.spot.Regs.{Regs}
use Rattle.lower_expr.specs.declared.spot.Spot.{Spot}
use Rattle.lower_expr.specs.declared.spot.Spot.TheVariants.{Values, Frame}
use Rattle.lower_expr.specs.Held.{held}
use Rattle.lower_expr.specs.Pieces.{const_code, zero_code}
use Rattle.lower_expr.specs.Code.{expr_code, is_void, labels, taken_at}
use Rattle.lower_stmt.specs.Code.{Ways, back, case_code, cases_code, in_atomic, in_loop, in_switch, label_of, maybe_labels, nothing_code, returned_code, same_code, step_code, stmt_code, stmt_labels, stmts_code, switch_code, zero_local_code, zero_regs_code, WayOut, breaking, continuing, returning, exit_code, exits_code, leads, way_out}
use Rattle.lower_stmt.specs.Bodies.{base_of, body_code, spots_of, ways_of}
use Rattle.lean_pace.specs.Lean.{AreLeanStmts, IsLeanStmt, count_working, works}
use Rattle.body_bytes.proofs.Costs.{IsWithin, bin_most, bin_same, both, both_within, const_within, cost, costs, if_within, set_most, zero_within}
use Rattle.body_bytes.proofs.Exprs.{ders, expr_light, taken_few}
use Rattle.body_bytes.proofs.Small.{maybe_small, small_calls, stmt_small, stmts_small}
use Rattle.body_bytes.proofs.Updates.{AreFramed}

-- ---- pieces of statements

nothing_within : (ty : Ty) (r : ℕ) → IsWithin 8 (nothing_code ty r)
nothing_within ty r =
    if_within 8 (is_void ty) _ _ (record { le = omega arith })
    (if_within 8 (is_wide (number_of ty)) _ _ (record { le = omega arith }) (record { le = omega arith }))

same_within : (wide : Bool) (r l : ℕ) → IsWithin 52 (same_code wide r l)
same_within true r l =
    let a = bin_most (r + 2 == r) in let b = bin_most (r + 3 == r + 1) in let c = bin_most (r + 2 == r + 2) in record { le = omega (arith, a, b, c) }
same_within false r l = record { le = omega arith }

case_within : (t : IntType) (o : Option ℤ) (r l : ℕ) → IsWithin 64 (case_code t o r l)
case_within t None r l = record { le = omega arith }
case_within t (Some n) r l =
    if_within 64 (int_eq (wrapped t n) n) _ _ (both_within 12 52 (const_code t n (r + 2)) (same_code (is_wide t) r l) (const_within t n (r + 2)) (same_within (is_wide t) r l)) (record { le = omega arith })

cases_light : (t : IntType) (cases : List Case) (default : Option ℕ) (r l : ℕ) → costs (cases_code t cases default r l) ≤ 4 + 64 * length cases
cases_light t [] default r l = omega arith
cases_light t (c ∷ cases) default r l =
    let e = both (case_code t c.value r (label_of (Some c.start) l)) (cases_code t cases default r l) in
    let h = (case_within t c.value r (label_of (Some c.start) l)).le in
    let g = cases_light t cases default r l in
    omega (arith, e, h, g)

zero_regs_within : (wide : Bool) (regs : Regs) → IsWithin 54 (zero_regs_code wide regs)
zero_regs_within true regs = record { le = omega arith }
zero_regs_within false regs = record { le = omega arith }

zero_local_within : (o : Option Spot) (ty : Ty) (size r l : ℕ) → IsWithin 54 (zero_local_code o ty size r l)
zero_local_within None ty size r l = record { le = omega arith }
zero_local_within (Some (Values regs)) ty size r l = zero_regs_within (is_wide (number_of ty)) regs
zero_local_within (Some (Frame o)) ty size r l =
    let a = set_most (is_made o) in let b = set_most (is_made (o + size)) in let c = bin_same r in record { le = omega (arith, a, b, c) }

back_few : (o : Option ℕ) (ty : Ty) (r : ℕ) → cost (back o ty r) ≤ 14
back_few None ty r = let t = taken_few ty r in omega (arith, t)
back_few (Some l) ty r = omega arith

way_few : (w : Ways) (r : ℕ) (out : WayOut) → cost (way_out w r out) ≤ 14
way_few w r returning = back_few w.return_to w.gives r
way_few w r breaking = omega arith
way_few w r continuing = omega arith

exit_within : (b : Bool) (o l n : ℕ) (onward : Mid) → cost onward ≤ n → IsWithin (8 + n) (exit_code b o l onward)
exit_within true o l n onward h = record { le = omega (arith, h) }
exit_within false o l n onward h = record { le = omega arith }

exits_within : (may : WayOut → Bool) (w : Ways) (r l : ℕ) → IsWithin 46 (exits_code may w r l)
exits_within may w r l =
    both_within 22 24 (exit_code (may returning) w.status l (way_out w r returning)) _ (exit_within (may returning) w.status l 14 (way_out w r returning) (way_few w r returning))
    (both_within 12 12 (exit_code (may breaking) w.status (l + 2) (way_out w r breaking)) (exit_code (may continuing) w.status (l + 4) (way_out w r continuing))
    (exit_within (may breaking) w.status (l + 2) 4 (way_out w r breaking) (omega arith)) (exit_within (may continuing) w.status (l + 4) 4 (way_out w r continuing) (omega arith)))

-- ---- what a statement leaves of the bytes of its nodes

abbrev pub stmt_spare : Stmt → ℕ
stmt_spare (plain.clear x) = 42
stmt_spare _ = 64

spare_low : (s : Stmt) → 42 ≤ stmt_spare s
spare_low (plain.eval e) = omega arith
spare_low (plain.block list) = omega arith
spare_low (plain.branch test a b) = omega arith
spare_low (plain.loop first test step body) = omega arith
spare_low (plain.switch e cases list) = omega arith
spare_low plain.break = omega arith
spare_low plain.continue = omega arith
spare_low (plain.return e) = omega arith
spare_low (plain.atomic s) = omega arith
spare_low (plain.clear x) = omega arith
spare_low (plain.here arguments first count body) = omega arith

spare_of_work : (s : Stmt) → 64 * works s ≤ stmt_spare s
spare_of_work (plain.eval e) = omega arith
spare_of_work (plain.block list) = omega arith
spare_of_work (plain.branch test a b) = omega arith
spare_of_work (plain.loop first test step body) = omega arith
spare_of_work (plain.switch e cases list) = omega arith
spare_of_work plain.break = omega arith
spare_of_work plain.continue = omega arith
spare_of_work (plain.return e) = omega arith
spare_of_work (plain.atomic s) = omega arith
spare_of_work (plain.clear x) = omega arith
spare_of_work (plain.here arguments first count body) = omega arith

-- ---- statements

module _ (p : Program) (types checks : List Ty) (spots : List Spot) (base : ℕ) (framed : AreFramed types spots) where
  abbrev expr_at : Expr → (r l : ℕ) → List Mid
  expr_at e r l = expr_code p types checks spots e r l

  of_expr : (e : Expr) (ty : Ty) (r l : ℕ) → Has p types e ty → costs (expr_at e r l) + 62 * length (expr_derefs e) + 96 * small_calls e + 64 ≤ 96 * expr_nodes_of e
  of_expr e ty r l h = (expr_light p types checks spots framed e ty r l h).le

  of_step : (e : Option Expr) (l : ℕ) → IsDone p types e → costs (step_code p types checks spots base e l) + 62 * length (maybe_derefs e) + 96 * maybe_small e ≤ 96 * maybe_nodes_of e
  of_step None l h = omega arith
  of_step (Some e) l h = let g = of_expr e h.0 base l h.1 in omega (arith, g)

  of_returned : (e : Option Expr) (w : Ways) (ty : Ty) (l : ℕ) → IsGiven p types e ty → costs (returned_code p types checks spots base e w l) + 62 * length (maybe_derefs e) + 96 * maybe_small e ≤ 8 + 96 * maybe_nodes_of e
  of_returned None w ty l h = let g = (nothing_within w.gives (base + 2)).le in omega (arith, g)
  of_returned (Some e) w ty l h = let g = of_expr e ty (base + 2) l h.1 in omega (arith, g)

  mutual
    pub stmt_light : (s : Stmt) (exits : Exits) (w : Ways) (l : ℕ) → IsStmt p types s exits → IsLeanStmt s
        → costs (stmt_code p types checks spots base s w l) + 62 * length (stmt_derefs s) + 96 * stmt_small s + stmt_spare s ≤ 96 * stmt_nodes_of s
    stmt_light (plain.eval e) exits w l h lean = let g = of_expr e h.0 base l h.1 in omega (arith, g)
    stmt_light (plain.block list) exits w l h lean = let g = stmts_light list exits w l h lean in omega (arith, g)
    stmt_light (plain.branch test a b) exits w l h lean =
        let ct : List Mid = expr_at test base (l + 2) in
        let ca : List Mid = stmt_code p types checks spots base a w (l + 2 + labels test) in
        let cb : List Mid = stmt_code p types checks spots base b w (l + 2 + labels test + stmt_labels a) in
        let z : List Mid = zero_code Eq (is_wide (held p types test)) base l in
        let e1 = both ct (z ++ (ca ++ (Jump (l + 1) ∷ Label l ∷ (cb ++ Label (l + 1) ∷ [])))) in
        let e2 = both z (ca ++ (Jump (l + 1) ∷ Label l ∷ (cb ++ Label (l + 1) ∷ []))) in
        let e3 = both ca (Jump (l + 1) ∷ Label l ∷ (cb ++ Label (l + 1) ∷ [])) in
        let e4 = both cb (Label (l + 1) ∷ []) in
        let d1 = ders (expr_derefs test ++ stmt_derefs a) (stmt_derefs b) in
        let d2 = ders (expr_derefs test) (stmt_derefs a) in
        let h1 = of_expr test h.0.0 base (l + 2) h.0.2 in
        let h2 = (zero_within Eq (is_wide (held p types test)) base l).le in
        let h3 = stmt_light a exits w (l + 2 + labels test) h.1 lean.0 in
        let h4 = stmt_light b exits w (l + 2 + labels test + stmt_labels a) h.2 lean.1 in
        let s1 = spare_low a in
        let s2 = spare_low b in
        omega (arith, e1, e2, e3, e4, d1, d2, h1, h2, h3, h4, s1, s2)
    stmt_light (plain.loop true test step body) exits w l h lean =
        let inner : Ways = in_loop (l + 1) (l + 2) w in
        let lb : ℕ = l + 3 + labels test + maybe_labels step in
        let ct : List Mid = expr_at test base (l + 3) in
        let cb : List Mid = stmt_code p types checks spots base body inner lb in
        let cs : List Mid = step_code p types checks spots base step (l + 3 + labels test) in
        let z : List Mid = zero_code Eq (is_wide (held p types test)) base (l + 1) in
        let e1 = both ct (z ++ (cb ++ (Label (l + 2) ∷ (cs ++ Jump l ∷ Label (l + 1) ∷ [])))) in
        let e2 = both z (cb ++ (Label (l + 2) ∷ (cs ++ Jump l ∷ Label (l + 1) ∷ []))) in
        let e3 = both cb (Label (l + 2) ∷ (cs ++ Jump l ∷ Label (l + 1) ∷ [])) in
        let e4 = both cs (Jump l ∷ Label (l + 1) ∷ []) in
        let d1 = ders (expr_derefs test ++ maybe_derefs step) (stmt_derefs body) in
        let d2 = ders (expr_derefs test) (maybe_derefs step) in
        let h1 = of_expr test h.0.0 base (l + 3) h.0.2 in
        let h2 = (zero_within Eq (is_wide (held p types test)) base (l + 1)).le in
        let h3 = stmt_light body (formed.in_loop exits) inner lb h.2 lean in
        let h4 = of_step step (l + 3 + labels test) h.1 in
        omega (arith, e1, e2, e3, e4, d1, d2, h1, h2, h3, h4)
    stmt_light (plain.loop false test step body) exits w l h lean =
        let inner : Ways = in_loop (l + 1) (l + 2) w in
        let lb : ℕ = l + 3 + labels test + maybe_labels step in
        let ct : List Mid = expr_at test base (l + 3) in
        let cb : List Mid = stmt_code p types checks spots base body inner lb in
        let z : List Mid = zero_code Ne (is_wide (held p types test)) base l in
        let e1 = both cb (Label (l + 2) ∷ (ct ++ (z ++ Label (l + 1) ∷ []))) in
        let e2 = both ct (z ++ Label (l + 1) ∷ []) in
        let e3 = both z (Label (l + 1) ∷ []) in
        let d1 = ders (expr_derefs test ++ maybe_derefs step) (stmt_derefs body) in
        let d2 = ders (expr_derefs test) (maybe_derefs step) in
        let h1 = of_expr test h.0.0 base (l + 3) h.0.2 in
        let h2 = (zero_within Ne (is_wide (held p types test)) base l).le in
        let h3 = stmt_light body (formed.in_loop exits) inner lb h.2 lean in
        let h4 = of_step step (l + 3 + labels test) h.1 in
        omega (arith, e1, e2, e3, d1, d2, h1, h2, h3, h4)
    stmt_light (plain.switch e cases list) exits w l h lean =
        let ls : ℕ = l + 1 + count_stmts list + labels e in
        let ce : List Mid = expr_at e base (l + 1 + count_stmts list) in
        let cs : List Mid = switch_code p types checks spots base list (in_switch l w) (l + 1) ls in
        let z : List Mid = cases_code (held p types e) cases (start_of_default cases) base l in
        let e1 = both ce (z ++ (cs ++ Label l ∷ [])) in
        let e2 = both z (cs ++ Label l ∷ []) in
        let e3 = both cs (Label l ∷ []) in
        let d = ders (expr_derefs e) (stmts_derefs list) in
        let h1 = of_expr e (plain.int h.0.0) base (l + 1 + count_stmts list) h.0.1 in
        let h2 = cases_light (held p types e) cases (start_of_default cases) base l in
        let h3 = switch_light list (formed.in_switch exits) (in_switch l w) (l + 1) ls h.2 lean.1 in
        let few = lean.0 in
        omega (arith, e1, e2, e3, d, h1, h2, h3, few)
    stmt_light plain.break exits w l h lean = omega arith
    stmt_light plain.continue exits w l h lean = omega arith
    stmt_light (plain.return e) exits w l h lean =
        let c = both (returned_code p types checks spots base e w l) (way_out w (base + 2) returning ∷ []) in
        let g = of_returned e w exits.gives l h in
        let f = back_few w.return_to w.gives (base + 2) in
        omega (arith, c, g, f)
    stmt_light (plain.atomic s) exits w l h lean =
        let cs : List Mid = stmt_code p types checks spots base s (in_atomic l w) (l + 6) in
        let c = both cs (End w.status ∷ exits_code (leads s) w (base + 2) l) in
        let g = stmt_light s exits (in_atomic l w) (l + 6) h lean in
        let f = (exits_within (leads s) w (base + 2) l).le in
        let sp = spare_low s in
        omega (arith, c, g, f, sp)
    stmt_light (plain.clear x) exits w l h lean =
        let g = (zero_local_within (slice_get spots x) (slice_index_or types x plain.void) (size_of p (slice_index_or types x plain.void)) base l).le in
        omega (arith, g)
    stmt_light (plain.here arguments first count body) exits w l h lean = absurd lean

    stmts_light : (list : Stmts) (exits : Exits) (w : Ways) (l : ℕ) → AreStmts p types list exits → AreLeanStmts list
        → costs (stmts_code p types checks spots base list w l) + 62 * length (stmts_derefs list) + 96 * stmts_small list ≤ 96 * stmts_nodes_of list
    stmts_light no_stmts exits w l h lean = omega arith
    stmts_light (more_stmts s rest) exits w l h lean =
        let c = both (stmt_code p types checks spots base s w l) (stmts_code p types checks spots base rest w (l + stmt_labels s)) in
        let d = ders (stmt_derefs s) (stmts_derefs rest) in
        let g = stmt_light s exits w l h.0 lean.0 in
        let f = stmts_light rest exits w (l + stmt_labels s) h.1 lean.1 in
        omega (arith, c, d, g, f)

    -- with room for a case at each statement that clears no local
    switch_light : (list : Stmts) (exits : Exits) (w : Ways) (k l : ℕ) → AreStmts p types list exits → AreLeanStmts list
        → costs (switch_code p types checks spots base list w k l) + 62 * length (stmts_derefs list) + 96 * stmts_small list + 64 * count_working list ≤ 96 * stmts_nodes_of list
    switch_light no_stmts exits w k l h lean = omega arith
    switch_light (more_stmts s rest) exits w k l h lean =
        let c = both (stmt_code p types checks spots base s w l) (switch_code p types checks spots base rest w (suc k) (l + stmt_labels s)) in
        let d = ders (stmt_derefs s) (stmts_derefs rest) in
        let g = stmt_light s exits w l h.0 lean.0 in
        let f = switch_light rest exits w (suc k) (l + stmt_labels s) h.1 lean.1 in
        let sp = spare_of_work s in
        omega (arith, c, d, g, f, sp)

-- a body's code leaves 20 bytes, 10 of them for what stands before it
pub body_light : (p : Program) (checks : List Ty) (b : Body) → AreFramed b.locals (spots_of p b) → IsStmt p b.locals b.code (by_return b.result) → IsLeanStmt b.code
    → costs (body_code p checks b) + 62 * length (stmt_derefs b.code) + 96 * stmt_small b.code + 20 ≤ 96 * stmt_nodes_of b.code
body_light p checks b framed h lean =
    let c : List Mid = stmt_code p b.locals checks (spots_of p b) (base_of b) b.code (ways_of p b) 0 in
    let n : List Mid = nothing_code b.result (base_of b + 2) in
    let e1 = both c (n ++ Ret (taken_at b.result (base_of b + 2)) ∷ []) in
    let e2 = both n (Ret (taken_at b.result (base_of b + 2)) ∷ []) in
    let g = stmt_light p b.locals checks (spots_of p b) (base_of b) framed b.code (by_return b.result) (ways_of p b) 0 h lean in
    let f = (nothing_within b.result (base_of b + 2)).le in
    let t = taken_few b.result (base_of b + 2) in
    let sp = spare_low b.code in
    omega (arith, e1, e2, g, f, t, sp)
