-- The code of statements of lean programs keeps an action near: it takes at most so much for each node, and so much more for each local
-- that is cleared.
use Rattle.std.proofs.Common.{◌≡◌, ℕ, zero, suc, ◌+◌, ◌-◌, ◌*◌, ◌<◌, ◌≤◌, Bool, true, false, List, [], ◌∷◌, ◌++◌, length, Option, Some, None, refl, sym, ap, subst, append_assoc, arith}
use Rattle.std.specs.Prelude.{slice_get, slice_index_or}
use Rattle.nesc_core.specs.Plain.{Ty, Expr, Stmt, Stmts, no_stmts, more_stmts, Program}
use Rattle.nesc_core.specs.Plain as plain
use Rattle.nesc_core.specs.Nodes.{expr_nodes_of, maybe_nodes_of, stmt_nodes_of, stmts_nodes_of}
use Rattle.nesc_core.specs.WellFormed.{AreStmts, Exits, IsStmt, count_stmts}
use Rattle.nesc_core.specs.WellFormed as formed
use Rattle.core_meaning.specs.Layout.{size_of}
use Rattle.core_meaning.specs.Flow.{start_of_default}
use Rattle.core_meaning.specs.Work.{number_of}
use Rattle.mid_code.specs.declared.instr.Mid.{Mid}
use Rattle.mid_code.specs.declared.instr.Mid.TheVariants.{Label, Jump, Begin, End, Tick}
use Rattle.mid_code.specs.declared.instr.Test.TheVariants.{Eq, Ne}
use Rattle.mid_code.specs.Help.{is_wide}
use Rattle.lower_expr.specs.declared.spot.Spot.{Spot}
use Rattle.lower_expr.specs.declared.spot.Spot.TheVariants.{Values, Frame}
use Rattle.lower_expr.specs.Held.{held}
use Rattle.lower_expr.specs.Pieces.{zero_code}
use Rattle.lower_expr.specs.Code.{expr_code, labels}
use Rattle.lower_stmt.specs.Code.{Ways, WayOut, breaking, continuing, returning, cases_code, clear_code, exit_code, in_atomic, in_loop, in_switch, leads, maybe_labels, returned_code, some_leads, step_code, stmt_code, stmt_labels, stmts_code, switch_code, way_out, zero_local_code}
use Rattle.lower_stmt.proofs.Leaving.{or_first, or_second}
use Rattle.lower_pace.proofs.Flow.{Flow, Leads, Setting, flow_more, jump, label, leads_here, leads_more, leads_over, leads_past, plains, regroup}
use Rattle.lower_pace.proofs.Pieces.{zero_flows}
use Rattle.lower_pace.proofs.Ways.{Stand, WayLeads, WaysLead, cases_flows, default_leads, exit_flows, nothing_plain, regs_plain, stand_over, stand_past, turn, way_flows, way_further, ways_further}
use Rattle.lower_pace.proofs.Exprs.{cost_some, cost0, cost1, cost2, cost3, cost_both, costs, expr_flows}
use Rattle.lean_pace.specs.Lean.{AreLeanStmts, IsLeanStmt}
use Rattle.lean_pace.specs.Pace.{clears_in, clears_in_all}
use Rattle.lean_pace.proofs.Measured.{working_few}
use Rattle.lean_pace.proofs.Clears.{zeroes}

-- ---- counts

nodes_some : (s : Stmt) → 1 ≤ stmt_nodes_of s
nodes_some (plain.eval e) = omega arith
nodes_some (plain.block list) = omega arith
nodes_some (plain.branch test a b) = omega arith
nodes_some (plain.loop first test step body) = omega arith
nodes_some (plain.switch e cases list) = omega arith
nodes_some plain.break = omega arith
nodes_some plain.continue = omega arith
nodes_some (plain.return e) = omega arith
nodes_some (plain.atomic s) = omega arith
nodes_some (plain.clear x) = omega arith
nodes_some (plain.here arguments first count body) = omega arith

-- where locals have these types and spots, and `clearing` is enough for each of them
module _ (given : Setting) (label_free : (l : ℕ) → given.size (Some (Label l)) ≤ 0) (jump_short : (l : ℕ) → given.size (Some (Jump l)) ≤ 1) (p : Program) (types checks : List Ty) (spots : List Spot) (base unit clearing : ℕ) (frames : (x o : ℕ) → x < length types → slice_get spots x ≡ Some (Frame o) → o + size_of p (slice_index_or types x plain.void) < 65536) (room : (x : ℕ) → x < length types → 15 * size_of p (slice_index_or types x plain.void) ≤ clearing) (enough : given.help + 600 ≤ unit) where
  abbrev F : ℕ → List Mid → Type 0
  F n u = Flow given n u

  abbrev S : Stmt → Ways → ℕ → List Mid
  S s w l = stmt_code p types checks spots base s w l

  abbrev of_stmt : Stmt → ℕ
  of_stmt s = costs unit (stmt_nodes_of s) + costs clearing (clears_in s)

  abbrev of_stmts : Stmts → ℕ
  of_stmts list = costs unit (stmts_nodes_of list) + costs clearing (clears_in_all list)

  abbrev of_expr : Expr → ℕ
  of_expr e = costs unit (expr_nodes_of e)

  expression : (e : Expr) (r l n m : ℕ) (u : List Mid) → F n u → n + of_expr e ≤ m + 60 → F m (expr_code p types checks spots e r l ++ u)
  expression e r l n m u h le = expr_flows given unit enough p types checks spots e r l n m u h le

  one_some : (s : Stmt) → unit ≤ costs unit (stmt_nodes_of s)
  one_some s = cost_some unit (stmt_nodes_of s) (nodes_some s)

  each_some : (list : Stmts) → 200 * count_stmts list ≤ costs unit (stmts_nodes_of list)
  each_some no_stmts = omega arith
  each_some (more_stmts s rest) =
      let c = cost_both unit (stmt_nodes_of s) (stmts_nodes_of rest) in
      let one = one_some s in
      let others = each_some rest in
      omega (arith, c, one, others, enough)

  -- ---- locals that become 0

  clear_flows : (x l n m : ℕ) (u : List Mid) → x < length types → F n u → n + 28 + 15 * size_of p (slice_index_or types x plain.void) ≤ m → F m (clear_code p types checks spots base x l ++ u)
  clear_flows x l n m u lt h le = by (slice_get spots x) refl
    where
      by : (o : Option Spot) → slice_get spots x ≡ o → F m (zero_local_code o (slice_index_or types x plain.void) (size_of p (slice_index_or types x plain.void)) base l ++ u)
      by None e = flow_more given n m u (omega (arith, le)) h
      by (Some (Values regs)) e = plains given n m 2 _ u (regs_plain (is_wide (number_of (slice_index_or types x plain.void))) regs) h (omega (arith, le))
      by (Some (Frame o)) e = zeroes given label_free jump_short n m (size_of p (slice_index_or types x plain.void)) o base l u h (frames x o lt e) le

  -- ---- parts

  step_flows : (e : Option Expr) (l n m : ℕ) (u : List Mid) → F n u → n + costs unit (maybe_nodes_of e) ≤ m → F m (step_code p types checks spots base e l ++ u)
  step_flows None l n m u h le = flow_more given n m u (omega (arith, le)) h
  step_flows (Some e) l n m u h le = expression e base l n m u h (omega (arith, le))

  returned_flows : (e : Option Expr) (w : Ways) (l n m : ℕ) (u : List Mid) → F n u → n + 18 + costs unit (maybe_nodes_of e) ≤ m → F m (returned_code p types checks spots base e w l ++ u)
  returned_flows None w l n m u h le = plains given n m 2 _ u (nothing_plain w.gives (base + 2)) h (omega (arith, le))
  returned_flows (Some e) w l n m u h le = expression e (base + 2) l n m u h (omega (arith, le))

  loop_ways : (n : ℕ) (own : WayOut → Bool) (w : Ways) (out next : ℕ) (u : List Mid) → Leads given n out u → Leads given n next u → (own returning ≡ true → WayLeads given n w returning u) → WaysLead given n own (in_loop out next w) u
  loop_ways n own w out next u h g back = record { way = by }
    where
      by : (o : WayOut) → own o ≡ true → WayLeads given n (in_loop out next w) o u
      by returning e = back e
      by breaking e = h
      by continuing e = g

  switch_ways : (n : ℕ) (own : WayOut → Bool) (w : Ways) (out : ℕ) (u : List Mid) → Leads given n out u → (own returning ≡ true → WayLeads given n w returning u) → (own continuing ≡ true → WayLeads given n w continuing u) →
      WaysLead given n own (in_switch out w) u
  switch_ways n own w out u h back on = record { way = by }
    where
      by : (o : WayOut) → own o ≡ true → WayLeads given n (in_switch out w) o u
      by returning e = back e
      by breaking e = h
      by continuing e = on e

  atomic_ways : (n : ℕ) (own : WayOut → Bool) (w : Ways) (l : ℕ) (u : List Mid) → (own returning ≡ true → Leads given n l u) → (own breaking ≡ true → Leads given n (l + 2) u) → (own continuing ≡ true → Leads given n (l + 4) u) →
      WaysLead given n own (in_atomic l w) u
  atomic_ways n own w l u h1 h2 h3 = record { way = by }
    where
      by : (o : WayOut) → own o ≡ true → WayLeads given n (in_atomic l w) o u
      by returning e = h1 e
      by breaking e = h2 e
      by continuing e = h3 e

  -- the statements of a switch, each at a label
  record Choices (m k : ℕ) (list : Stmts) (code : List Mid) : Type 0 where
    flows : F m code
    starts : (j : ℕ) → j < count_stmts list → Leads given m (k + j) code

  one_more : (m k count : ℕ) (code : List Mid) → Leads given m k code → ((j : ℕ) → j < count → Leads given m (suc k + j) code) → (j : ℕ) → j < suc count → Leads given m (k + j) code
  one_more m k count code first rest zero lt = let e : k ≡ k + 0 = omega arith in subst (λ i. Leads given m i code) e first
  one_more m k count code first rest (suc j) lt = let e : suc k + j ≡ k + suc j = omega arith in subst (λ i. Leads given m i code) e (rest j (omega (arith, lt)))

  -- ---- statements

  mutual
    pub stmt_flows : (s : Stmt) (exits : Exits) (w : Ways) (l n m : ℕ) (u : List Mid) → IsStmt p types s exits → IsLeanStmt s → WaysLead given n (leads s) w u → F n u → Stand given (S s w l ++ u) → 10 ≤ n →
        n + of_stmt s ≤ m + 300 → F m (S s w l ++ u)
    stmt_flows (plain.eval e) exits w l n m u typed few ways h stand some le = let c = cost1 unit (expr_nodes_of e) in expression e base l n m u h (omega (arith, c, le, enough))
    stmt_flows (plain.block list) exits w l n m u typed few ways h stand some le =
        let c = cost1 unit (stmts_nodes_of list) in stmts_flows list exits w l n m u typed few ways h stand some (omega (arith, c, le, enough))
    stmt_flows (plain.branch test a b) exits w l n m u typed few ways h stand some le =
        let c = cost3 unit (expr_nodes_of test) (stmt_nodes_of a) (stmt_nodes_of b) in
        let d = cost_both clearing (clears_in a) (clears_in b) in
        let la : ℕ = l + 2 + labels test in
        let ct : List Mid = expr_code p types checks spots test base (l + 2) in
        let z : List Mid = zero_code Eq (is_wide (held p types test)) base l in
        let ca : List Mid = S a w la in
        let cb : List Mid = S b w (la + stmt_labels a) in
        let tail : List Mid = cb ++ (Label (l + 1) ∷ u) in
        let second : List Mid = Jump (l + 1) ∷ Label l ∷ tail in
        let eq : (ct ++ (z ++ (ca ++ (Jump (l + 1) ∷ Label l ∷ (cb ++ Label (l + 1) ∷ []))))) ++ u ≡ ct ++ (z ++ (ca ++ second)) = simp append_assoc in
        let stand1 : Stand given (ca ++ second) = stand_over given z _ (stand_over given ct _ (subst (Stand given) eq stand)) in
        let stand2 : Stand given tail = stand_past given _ _ (stand_past given _ _ (stand_over given ca _ stand1)) in
        let nb : ℕ = n + 4 + of_stmt b in
        let na : ℕ = nb + 8 + of_stmt a in
        let out : F (n + 4) (Label (l + 1) ∷ u) = label given n (n + 4) (l + 1) u h (omega arith) in
        let ways1 = ways_further given n (n + 4) (leads (plain.branch test a b)) (leads (plain.branch test a b)) w (Label (l + 1) ∷ []) u (omega arith) (λ o e. e) ways in
        let ways2 = ways_further given (n + 4) nb (leads (plain.branch test a b)) (leads (plain.branch test a b)) w cb (Label (l + 1) ∷ u) (omega arith) (λ o e. e) ways1 in
        let bs : F nb tail =
        stmt_flows b exits w (la + stmt_labels a) (n + 4) nb (Label (l + 1) ∷ u) typed.2 few.1
        (ways_further given (n + 4) (n + 4) (leads (plain.branch test a b)) (leads b) w [] (Label (l + 1) ∷ u) (omega arith) (λ o e. or_second (leads a o) (leads b o) e) ways1) out stand2 (omega (arith, some)) (omega arith) in
        let other : F (nb + 4) (Label l ∷ tail) = label given nb (nb + 4) l tail bs (omega arith) in
        let jumps : F (nb + 8) second =
        jump given (nb + 4) (nb + 8) (l + 1) _ (leads_past given _ _ _ _ (leads_over given _ _ cb _ (leads_more given (n + 4) (nb + 4) (l + 1) _ (omega arith) (leads_here given (n + 4) (l + 1) u out)))) other (omega arith) in
        let firsts : F na (ca ++ second) =
        stmt_flows a exits w la (nb + 8) na second typed.1 few.0
        (ways_further given nb (nb + 8) (leads (plain.branch test a b)) (leads a) w (Jump (l + 1) ∷ Label l ∷ []) tail (omega arith) (λ o e. or_first (leads a o) (leads b o) e) ways2) jumps stand1 (omega (arith, some)) (omega arith) in
        let tests : F (na + 22) (z ++ (ca ++ second)) =
        zero_flows given na (na + 22) Eq (is_wide (held p types test)) base l _ (leads_over given _ _ ca _ (leads_past given _ _ _ _ (leads_more given (nb + 4) na l _ (omega arith) (leads_here given (nb + 4) l tail other)))) firsts (omega arith) in
        subst (F m) (sym eq) (expression test base (l + 2) (na + 22) m _ tests (omega (arith, c, d, le, enough)))
    stmt_flows (plain.loop true test step body) exits w l n m u typed few ways h stand some le =
        let c = cost3 unit (expr_nodes_of test) (maybe_nodes_of step) (stmt_nodes_of body) in
        let lb : ℕ = l + 3 + labels test + maybe_labels step in
        let inner : Ways = in_loop (l + 1) (l + 2) w in
        let ct : List Mid = expr_code p types checks spots test base (l + 3) in
        let z : List Mid = zero_code Eq (is_wide (held p types test)) base (l + 1) in
        let cb : List Mid = S body inner lb in
        let cs : List Mid = step_code p types checks spots base step (l + 3 + labels test) in
        let u1 : List Mid = Label (l + 1) ∷ u in
        let u2 : List Mid = Jump l ∷ u1 in
        let u4 : List Mid = Label (l + 2) ∷ (cs ++ u2) in
        let flat : List Mid = Label l ∷ Tick ∷ (ct ++ (z ++ (cb ++ u4))) in
        let eq : Label l ∷ Tick ∷ ((ct ++ (z ++ (cb ++ (Label (l + 2) ∷ (cs ++ Jump l ∷ Label (l + 1) ∷ []))))) ++ u) ≡ flat = simp append_assoc in
        let stand0 : Stand given flat = subst (Stand given) eq stand in
        let stand1 : Stand given (cb ++ u4) = stand_over given z _ (stand_over given ct _ (stand_past given _ _ (stand_past given _ _ stand0))) in
        let k : ℕ = n + 10 in
        let ks : ℕ = k + 4 + costs unit (maybe_nodes_of step) in
        let kb : ℕ = ks + 4 + of_stmt body in
        let kt : ℕ = kb + 22 + of_expr test in
        let out : F k u1 = label given n k (l + 1) u h (omega arith) in
        let backs : F (k + 4) u2 = jump given k (k + 4) l u1 (leads_more given 10 k l u1 (omega arith) (turn given l _ u1 stand0)) out (omega arith) in
        let steps : F ks (cs ++ u2) = step_flows step (l + 3 + labels test) (k + 4) ks u2 backs (omega arith) in
        let next : F (ks + 4) u4 = label given ks (ks + 4) (l + 2) _ steps (omega arith) in
        let leaves : Leads given (ks + 4) (l + 1) u4 = leads_past given _ _ _ _ (leads_over given _ _ cs _ (leads_past given _ _ _ _ (leads_more given k (ks + 4) (l + 1) u1 (omega arith) (leads_here given k (l + 1) u out)))) in
        let returns_by : leads body returning ≡ true → WayLeads given (ks + 4) w returning u4 =
        λ e. way_further given (ks + 4) (ks + 4) w returning (Label (l + 2) ∷ []) (cs ++ u2) (omega arith)
        (way_further given (ks + 4) (ks + 4) w returning cs u2 (omega arith) (way_further given n (ks + 4) w returning (Jump l ∷ Label (l + 1) ∷ []) u (omega arith) (ways.way returning e))) in
        let bodies : F kb (cb ++ u4) =
        stmt_flows body (formed.in_loop exits) inner lb (ks + 4) kb u4 typed.2 few (loop_ways (ks + 4) (leads body) w (l + 1) (l + 2) u4 leaves (leads_here given (ks + 4) (l + 2) _ next) returns_by) next stand1 (omega (arith, some)) (omega arith) in
        let tests : F (kb + 22) (z ++ (cb ++ u4)) = zero_flows given kb (kb + 22) Eq (is_wide (held p types test)) base (l + 1) _ (leads_over given _ _ cb _ (leads_more given (ks + 4) kb (l + 1) _ (omega arith) leaves)) bodies (omega arith) in
        let begins : F (kt + 9) (Tick ∷ (ct ++ (z ++ (cb ++ u4)))) = plains given kt (kt + 9) 1 (Tick ∷ []) _ (record { all = refl; short = omega arith }) (expression test base (l + 3) (kb + 22) kt _ tests (omega arith)) (omega arith) in
        subst (F m) (sym eq) (label given (kt + 9) m l _ begins (omega (arith, c, le, enough)))
    stmt_flows (plain.loop false test step body) exits w l n m u typed few ways h stand some le =
        let c = cost3 unit (expr_nodes_of test) (maybe_nodes_of step) (stmt_nodes_of body) in
        let lb : ℕ = l + 3 + labels test + maybe_labels step in
        let inner : Ways = in_loop (l + 1) (l + 2) w in
        let ct : List Mid = expr_code p types checks spots test base (l + 3) in
        let z : List Mid = zero_code Ne (is_wide (held p types test)) base l in
        let cb : List Mid = S body inner lb in
        let u1 : List Mid = Label (l + 1) ∷ u in
        let u4 : List Mid = Label (l + 2) ∷ (ct ++ (z ++ u1)) in
        let flat : List Mid = Label l ∷ Tick ∷ (cb ++ u4) in
        let eq : Label l ∷ Tick ∷ ((cb ++ (Label (l + 2) ∷ (ct ++ (z ++ Label (l + 1) ∷ [])))) ++ u) ≡ flat = simp append_assoc in
        let stand0 : Stand given flat = subst (Stand given) eq stand in
        let stand1 : Stand given (cb ++ u4) = stand_past given _ _ (stand_past given _ _ stand0) in
        let k : ℕ = n + 10 in
        let kt : ℕ = k + 22 + of_expr test in
        let kb : ℕ = kt + 4 + of_stmt body in
        let out : F k u1 = label given n k (l + 1) u h (omega arith) in
        let tests : F (k + 22) (z ++ u1) = zero_flows given k (k + 22) Ne (is_wide (held p types test)) base l u1 (leads_more given 10 k l u1 (omega arith) (turn given l _ u1 stand0)) out (omega arith) in
        let asks : F kt (ct ++ (z ++ u1)) = expression test base (l + 3) (k + 22) kt _ tests (omega arith) in
        let next : F (kt + 4) u4 = label given kt (kt + 4) (l + 2) _ asks (omega arith) in
        let leaves : Leads given (kt + 4) (l + 1) u4 = leads_past given _ _ _ _ (leads_over given _ _ ct _ (leads_over given _ _ z _ (leads_more given k (kt + 4) (l + 1) u1 (omega arith) (leads_here given k (l + 1) u out)))) in
        let returns_by : leads body returning ≡ true → WayLeads given (kt + 4) w returning u4 =
        λ e. way_further given (kt + 4) (kt + 4) w returning (Label (l + 2) ∷ []) (ct ++ (z ++ u1)) (omega arith)
        (way_further given (kt + 4) (kt + 4) w returning ct (z ++ u1) (omega arith)
        (way_further given (kt + 4) (kt + 4) w returning z u1 (omega arith) (way_further given n (kt + 4) w returning (Label (l + 1) ∷ []) u (omega arith) (ways.way returning e)))) in
        let bodies : F kb (cb ++ u4) =
        stmt_flows body (formed.in_loop exits) inner lb (kt + 4) kb u4 typed.2 few (loop_ways (kt + 4) (leads body) w (l + 1) (l + 2) u4 leaves (leads_here given (kt + 4) (l + 2) _ next) returns_by) next stand1 (omega (arith, some)) (omega arith) in
        let begins : F (kb + 9) (Tick ∷ (cb ++ u4)) = plains given kb (kb + 9) 1 (Tick ∷ []) _ (record { all = refl; short = omega arith }) bodies (omega arith) in
        subst (F m) (sym eq) (label given (kb + 9) m l _ begins (omega (arith, c, le, enough)))
    stmt_flows (plain.switch e cases list) exits w l n m u typed few ways h stand some le =
        let c = cost2 unit (expr_nodes_of e) (stmts_nodes_of list) in
        let count : ℕ = count_stmts list in
        let ls : ℕ = l + 1 + count + labels e in
        let inner : Ways = in_switch l w in
        let ct : List Mid = expr_code p types checks spots e base (l + 1 + count) in
        let z : List Mid = cases_code (held p types e) cases (start_of_default cases) base l in
        let cs : List Mid = switch_code p types checks spots base list inner (l + 1) ls in
        let u1 : List Mid = Label l ∷ u in
        let eq : (ct ++ (z ++ (cs ++ Label l ∷ []))) ++ u ≡ ct ++ (z ++ (cs ++ u1)) = simp append_assoc in
        let stand1 : Stand given (cs ++ u1) = stand_over given z _ (stand_over given ct _ (subst (Stand given) eq stand)) in
        let out : F (n + 4) u1 = label given n (n + 4) l u h (omega arith) in
        let leaves : Leads given (n + 4) l u1 = leads_here given (n + 4) l u out in
        let inside : WaysLead given (n + 4) (some_leads list) inner u1 =
        switch_ways (n + 4) (some_leads list) w l u1 leaves (λ q. way_further given n (n + 4) w returning (Label l ∷ []) u (omega arith) (ways.way returning q))
        (λ q. way_further given n (n + 4) w continuing (Label l ∷ []) u (omega arith) (ways.way continuing q)) in
        let each = each_some list in
        let ns : ℕ = n + 4 + of_stmts list - 200 * count in
        let chosen : Choices ns (l + 1) list (cs ++ u1) = switch_flows list (formed.in_switch exits) inner (l + 1) ls (n + 4) ns u1 typed.2 few.1 inside out stand1 (omega (arith, some)) (omega (arith, each)) in
        let nc : ℕ = ns + 4 + 60 * length cases in
        let asks : F nc (z ++ (cs ++ u1)) =
        cases_flows given ns nc (held p types e) cases (start_of_default cases) base l count _ chosen.starts
        (default_leads given ns cases (start_of_default cases) l count _ refl typed.1 (leads_over given _ _ cs _ (leads_more given (n + 4) ns l u1 (omega (arith, each)) leaves)) chosen.starts) typed.1 chosen.flows (omega arith) in
        subst (F m) (sym eq) (expression e base (l + 1 + count) nc m _ asks (let few_cases = few.0 in let working = working_few list in omega (arith, c, le, enough, each, few_cases, working)))
    stmt_flows plain.break exits w l n m u typed few ways h stand some le = let c = cost0 unit in way_flows given n m w (base + 2) breaking u (ways.way breaking refl) h (omega (arith, c, le, enough))
    stmt_flows plain.continue exits w l n m u typed few ways h stand some le = let c = cost0 unit in way_flows given n m w (base + 2) continuing u (ways.way continuing refl) h (omega (arith, c, le, enough))
    stmt_flows (plain.return e) exits w l n m u typed few ways h stand some le =
        let c = cost1 unit (maybe_nodes_of e) in
        regroup given m (returned_code p types checks spots base e w l) (way_out w (base + 2) returning ∷ []) u
        (returned_flows e w l (n + 20) m _ (way_flows given n (n + 20) w (base + 2) returning u (ways.way returning refl) h (omega arith)) (omega (arith, c, le, enough)))
    stmt_flows (plain.atomic s) exits w l n m u typed few ways h stand some le =
        let c = cost1 unit (stmt_nodes_of s) in
        let cs : List Mid = S s (in_atomic l w) (l + 6) in
        let x1 : List Mid = exit_code (leads s returning) w.status l (way_out w (base + 2) returning) in
        let x2 : List Mid = exit_code (leads s breaking) w.status (l + 2) (way_out w (base + 2) breaking) in
        let x3 : List Mid = exit_code (leads s continuing) w.status (l + 4) (way_out w (base + 2) continuing) in
        let u1 : List Mid = End w.status ∷ (x1 ++ (x2 ++ (x3 ++ u))) in
        let eq : Begin w.status ∷ ((cs ++ (End w.status ∷ (x1 ++ (x2 ++ x3)))) ++ u) ≡ Begin w.status ∷ (cs ++ u1) = simp append_assoc in
        let stand1 : Stand given (cs ++ u1) = stand_past given _ _ (subst (Stand given) eq stand) in
        let e3 = exit_flows given n (n + 60) w (base + 2) continuing (leads s continuing) w.status (l + 4) u (λ q. ways.way continuing q) h (omega arith) in
        let e2 = exit_flows given (n + 60) (n + 120) w (base + 2) breaking (leads s breaking) w.status (l + 2) (x3 ++ u) (λ q. way_further given n (n + 60) w breaking x3 u (omega arith) (ways.way breaking q)) e3.flows (omega arith) in
        let e1 = exit_flows given (n + 120) (n + 180) w (base + 2) returning (leads s returning) w.status l (x2 ++ (x3 ++ u))
        (λ q. way_further given (n + 60) (n + 120) w returning x2 (x3 ++ u) (omega arith) (way_further given n (n + 60) w returning x3 u (omega arith) (ways.way returning q))) e2.flows (omega arith) in
        let ends : F (n + 189) u1 = plains given (n + 180) (n + 189) 1 (End w.status ∷ []) _ (record { all = refl; short = omega arith }) e1.flows (omega arith) in
        let inside : WaysLead given (n + 189) (leads s) (in_atomic l w) u1 =
        atomic_ways (n + 189) (leads s) w l u1 (λ q. leads_past given _ _ _ _ (leads_more given (n + 180) (n + 189) l _ (omega arith) (e1.leads_to q)))
        (λ q. leads_past given _ _ _ _ (leads_over given _ _ x1 _ (leads_more given (n + 120) (n + 189) (l + 2) _ (omega arith) (e2.leads_to q))))
        (λ q. leads_past given _ _ _ _ (leads_over given _ _ x1 _ (leads_over given _ _ x2 _ (leads_more given (n + 60) (n + 189) (l + 4) _ (omega arith) (e3.leads_to q))))) in
        let ns : ℕ = n + 189 + of_stmt s in
        let bodies : F ns (cs ++ u1) = stmt_flows s exits (in_atomic l w) (l + 6) (n + 189) ns u1 typed few inside ends stand1 (omega (arith, some)) (omega arith) in
        subst (F m) (sym eq) (plains given ns m 1 (Begin w.status ∷ []) _ (record { all = refl; short = omega arith }) bodies (omega (arith, c, le, enough)))
    stmt_flows (plain.clear x) exits w l n m u typed few ways h stand some le =
        let c = cost0 unit in
        let d = cost0 clearing in
        let small = room x typed in
        clear_flows x l n m u typed h (omega (arith, c, d, le, enough, small))
    stmt_flows (plain.here arguments first count body) exits w l n m u typed few ways h stand some le = absurd few

    stmts_flows : (list : Stmts) (exits : Exits) (w : Ways) (l n m : ℕ) (u : List Mid) → AreStmts p types list exits → AreLeanStmts list → WaysLead given n (some_leads list) w u → F n u →
        Stand given (stmts_code p types checks spots base list w l ++ u) → 10 ≤ n → n + of_stmts list ≤ m → F m (stmts_code p types checks spots base list w l ++ u)
    stmts_flows no_stmts exits w l n m u typed few ways h stand some le = flow_more given n m u (omega (arith, le)) h
    stmts_flows (more_stmts s rest) exits w l n m u typed few ways h stand some le =
        let c = cost_both unit (stmt_nodes_of s) (stmts_nodes_of rest) in
        let d = cost_both clearing (clears_in s) (clears_in_all rest) in
        let a : List Mid = S s w l in
        let b : List Mid = stmts_code p types checks spots base rest w (l + stmt_labels s) in
        let eq : (a ++ b) ++ u ≡ a ++ (b ++ u) = append_assoc a b u in
        let stand0 : Stand given (a ++ (b ++ u)) = subst (Stand given) eq stand in
        let nr : ℕ = n + of_stmts rest in
        let others : F nr (b ++ u) =
        stmts_flows rest exits w (l + stmt_labels s) n nr u typed.1 few.1 (ways_further given n n (some_leads (more_stmts s rest)) (some_leads rest) w [] u (omega arith) (λ o e. or_second (leads s o) (some_leads rest o) e) ways) h
        (stand_over given a _ stand0) some (omega arith) in
        subst (F m) (sym eq)
        (stmt_flows s exits w l nr m (b ++ u) typed.0 few.0 (ways_further given n nr (some_leads (more_stmts s rest)) (leads s) w b u (omega arith) (λ o e. or_first (leads s o) (some_leads rest o) e) ways) others stand0
        (omega (arith, some)) (omega (arith, c, d, le)))

    switch_flows : (list : Stmts) (exits : Exits) (w : Ways) (k l n m : ℕ) (u : List Mid) → AreStmts p types list exits → AreLeanStmts list → WaysLead given n (some_leads list) w u → F n u →
        Stand given (switch_code p types checks spots base list w k l ++ u) → 10 ≤ n → n + of_stmts list ≤ m + 200 * count_stmts list → Choices m k list (switch_code p types checks spots base list w k l ++ u)
    switch_flows no_stmts exits w k l n m u typed few ways h stand some le = record { flows = flow_more given n m u (omega (arith, le)) h; starts = λ j lt. absurd (omega (arith, lt)) }
    switch_flows (more_stmts s rest) exits w k l n m u typed few ways h stand some le =
        let c = cost_both unit (stmt_nodes_of s) (stmts_nodes_of rest) in
        let d = cost_both clearing (clears_in s) (clears_in_all rest) in
        let a : List Mid = S s w l in
        let b : List Mid = switch_code p types checks spots base rest w (suc k) (l + stmt_labels s) in
        let eq : Label k ∷ ((a ++ b) ++ u) ≡ Label k ∷ (a ++ (b ++ u)) = ap (λ xs. Label k ∷ xs) (append_assoc a b u) in
        let stand0 : Stand given (a ++ (b ++ u)) = stand_past given _ _ (subst (Stand given) eq stand) in
        let each = each_some rest in
        let one = one_some s in
        let nr : ℕ = n + of_stmts rest - 200 * count_stmts rest in
        let others : Choices nr (suc k) rest (b ++ u) =
        switch_flows rest exits w (suc k) (l + stmt_labels s) n nr u typed.1 few.1 (ways_further given n n (some_leads (more_stmts s rest)) (some_leads rest) w [] u (omega arith) (λ o e. or_second (leads s o) (some_leads rest o) e) ways) h
        (stand_over given a _ stand0) some (omega (arith, each)) in
        let first : F (m - 4) (a ++ (b ++ u)) =
        stmt_flows s exits w l nr (m - 4) (b ++ u) typed.0 few.0 (ways_further given n nr (some_leads (more_stmts s rest)) (leads s) w b u (omega (arith, each)) (λ o e. or_first (leads s o) (some_leads rest o) e) ways) others.flows stand0
        (omega (arith, some, each)) (omega (arith, c, d, le, each)) in
        let flows : F m (Label k ∷ (a ++ (b ++ u))) = label given (m - 4) m k _ first (omega (arith, c, d, le, each, one, enough, some)) in
        subst (λ xs. Choices m k (more_stmts s rest) xs) (sym eq)
        (record {
          flows = flows;
          starts = one_more m k (count_stmts rest) _ (leads_here given m k _ flows)
              (λ j lt. leads_past given _ _ _ _ (leads_over given _ _ a _ (leads_more given nr m (suc k + j) _ (omega (arith, c, d, le, each, one, enough, some)) (others.starts j lt))));
        })
