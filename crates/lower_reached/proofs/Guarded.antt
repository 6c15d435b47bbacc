-- At each label of a statement's own nothing is known.
use Rattle.std.proofs.Common.{◌≡◌, ℕ, zero, suc, ◌+◌, ◌-◌, ◌*◌, ◌<◌, ◌≤◌, Bool, true, false, List, [], ◌∷◌, ◌++◌, take, drop, All, Option, Some, None, refl, ap, ◌∙◌, arith}
use Rattle.std.specs.Prelude.{⊤, ℤ, pos, nat_lt, slice_get, slice_index_or, if◌then◌else◌}
use Rattle.std.specs.Ordering.{int_eq}
use Rattle.std.proofs.lemmas.List.Elements.{All-head, All-tail}
use Rattle.nm_base.specs.declared.int_type.IntType.{IntType}
use Rattle.nm_base.specs.IntType.{wrapped}
use Rattle.nesc_core.specs.Plain.{Ty, Expr, Exprs, no_exprs, more_exprs, Stmt, Stmts, Case, no_stmts, more_stmts, Program}
use Rattle.nesc_core.specs.Plain as plain
use Rattle.nesc_core.specs.Heres.{gives_value}
use Rattle.nesc_core.specs.Typing.{AllHave, Has}
use Rattle.nesc_core.specs.WellFormed.{AreStmts, Exits, IsDone, IsGiven, IsStmt, by_result, count_exprs, count_stmts}
use Rattle.nesc_core.specs.WellFormed as formed
use Rattle.core_meaning.specs.Layout.{size_of}
use Rattle.core_meaning.specs.Flow.{start_of_default}
use Rattle.core_meaning.specs.Work.{number_of}
use Rattle.mid_code.specs.declared.instr.Mid.{Mid}
use Rattle.mid_code.specs.declared.instr.Mid.TheVariants.{Label, Jump, End, Tick}
use Rattle.mid_code.specs.declared.instr.Test.TheVariants.{Eq, Ne}
use Rattle.mid_code.specs.Help.{is_wide}
use Rattle.lower_expr.specs.declared.spot.Regs.{Regs}
use Rattle.lower_expr.specs.declared.spot.Spot.{Spot}
use Rattle.lower_expr.specs.declared.spot.Spot.TheVariants.{Values, Frame}
use Rattle.lower_expr.specs.Held.{held}
use Rattle.lower_expr.specs.Pieces.{const_code, zero_code}
use Rattle.lower_expr.specs.Code.{all_labels, expr_code, is_void, kind_of_spot, labels, local_code, put_code}
use Rattle.lower_stmt.specs.Code.{WayOut, Ways, breaking, continuing, returning, back, case_code, cases_code, clear_code, clears_code, enter_code, exit_code, here_gives, in_atomic, in_here, in_loop, in_switch, kept_code, label_of, leads, maybe_labels, nothing_code, result_code, returned_code, same_code, some_leads, step_code, stmt_code, stmt_labels, stmts_code, stmts_labels, switch_code, way_out, zero_local_code, zero_regs_code}
use Rattle.lower_stmt.proofs.Cases.{default_inside}
use Rattle.lower_stmt.proofs.Leaving.{or_first, or_second}
use Rattle.lower_reached.proofs.Facts.{Are, Fact, Keeps, MayStand, first, if_keeps, jump_keeps, jump_stands, keeps_both, label_keeps, label_stands, nothing, second, tick_keeps}
use Rattle.lower_reached.proofs.Divided.{IsPlain, const_plain, if_plain, local_plain, of_plain, put_plain, zero_plain}
use Rattle.lower_reached.proofs.Guards.{expr_keeps, facts}

-- ---- what is known at a label, where values from `base` on are free

module _ (base : ℕ) where
  abbrev pub maybe_facts : Option Expr → (r l k : ℕ) → Fact
  maybe_facts None r l k = nothing
  maybe_facts (Some e) r l k = facts e r l k

  abbrev pub enter_facts : Exprs → (l k : ℕ) → Fact
  enter_facts no_exprs l k = nothing
  enter_facts (more_exprs e rest) l k = if nat_lt k (l + labels e) then facts e (base + 2) l k else enter_facts rest (l + labels e) k

  -- at the label k of a statement whose labels are those from l on
  abbrev mutual
    pub stmt_facts : Stmt → (l k : ℕ) → Fact
    stmt_facts (plain.eval e) l k = facts e base l k
    stmt_facts (plain.block list) l k = stmts_facts list l k
    stmt_facts (plain.branch test a b) l k =
        let la : ℕ = l + 2 + labels test in
        if nat_lt k (l + 2) then nothing else if nat_lt k la then facts test base (l + 2) k else if nat_lt k (la + stmt_labels a) then stmt_facts a la k else stmt_facts b (la + stmt_labels a) k
    stmt_facts (plain.loop early test step body) l k =
        let ls : ℕ = l + 3 + labels test in
        if nat_lt k (l + 3) then nothing else if nat_lt k ls then facts test base (l + 3) k else if nat_lt k (ls + maybe_labels step) then maybe_facts step base ls k else stmt_facts body (ls + maybe_labels step) k
    stmt_facts (plain.switch e cases list) l k =
        let le : ℕ = l + 1 + count_stmts list in
        if nat_lt k le then nothing else if nat_lt k (le + labels e) then facts e base le k else stmts_facts list (le + labels e) k
    stmt_facts plain.break l k = nothing
    stmt_facts plain.continue l k = nothing
    stmt_facts (plain.return e) l k = maybe_facts e (base + 2) l k
    stmt_facts (plain.atomic s) l k = if nat_lt k (l + 6) then nothing else stmt_facts s (l + 6) k
    stmt_facts (plain.clear x) l k = nothing
    stmt_facts (plain.here arguments from count body) l k =
        let lc : ℕ = l + 1 + all_labels arguments in
        if nat_lt k (l + 1) then nothing else if nat_lt k lc then enter_facts arguments (l + 1) k else if nat_lt k (lc + 2 * count) then nothing else stmt_facts body (lc + 2 * count) k

    pub stmts_facts : Stmts → (l k : ℕ) → Fact
    stmts_facts no_stmts l k = nothing
    stmts_facts (more_stmts s rest) l k = if nat_lt k (l + stmt_labels s) then stmt_facts s l k else stmts_facts rest (l + stmt_labels s) k

module _ (at_label : ℕ → Fact) where
  abbrev M : List Mid → Type 0
  M u = MayStand at_label nothing u

  abbrev K : List Mid → Type 0
  K c = Keeps at_label c

  abbrev A : (ℕ → Fact) → (lo n : ℕ) → Type 0
  A t lo n = Are at_label t lo n

  abbrev None_at : ℕ → Type 0
  None_at l = at_label l ≡ nothing

  both : (a b : List Mid) → K a → K b → K (a ++ b)
  both a b h g = keeps_both at_label a b h g

  plain_one : (a : List Mid) → IsPlain at_label a → K a
  plain_one a h = of_plain at_label a h

  at : (lo n k : ℕ) → A (λ i. nothing) lo n → lo ≤ k → k < lo + n → None_at k
  at lo n k h ge lt = h.each k ge lt

  fewer : (lo n lo2 n2 : ℕ) → lo ≤ lo2 → lo2 + n2 ≤ lo + n → A (λ i. nothing) lo n → A (λ i. nothing) lo2 n2
  fewer lo n lo2 n2 a b h = record { each = λ k ge lt. h.each k (omega (arith, ge, a)) (omega (arith, lt, b)) }

  -- ---- pieces

  pub nothing_keeps : (ty : Ty) (r : ℕ) → K (nothing_code ty r)
  nothing_keeps ty r = plain_one _ (if_plain at_label (is_void ty) [] (const_code (number_of ty) (pos 0) r) (record { each = tt }) (const_plain at_label (number_of ty) (pos 0) r))

  same_keeps : (wide : Bool) (r l : ℕ) → None_at l → K (same_code wide r l)
  same_keeps true r l e = plain_one _ (record { each = (e, tt) })
  same_keeps false r l e = plain_one _ (record { each = (e, tt) })

  case_keeps : (t : IntType) (o : Option ℤ) (r l : ℕ) → None_at l → K (case_code t o r l)
  case_keeps t None r l e = record { over = λ u h. h }
  case_keeps t (Some n) r l e =
      if_keeps at_label (int_eq (wrapped t n) n) (const_code t n (r + 2) ++ same_code (is_wide t) r l) []
      (both (const_code t n (r + 2)) (same_code (is_wide t) r l) (plain_one _ (const_plain at_label t n (r + 2))) (same_keeps (is_wide t) r l e)) (record { over = λ u h. h })

  cases_keep : (t : IntType) (cases : List Case) (default : Option ℕ) (r l count : ℕ) → ((k : ℕ) → k < count → None_at (l + 1 + k)) → None_at (label_of default l) → All (λ c. c.start < count) cases → K (cases_code t cases default r l)
  cases_keep t [] default r l count starts other inside = record { over = λ u h. jump_stands at_label (label_of default l) u other h }
  cases_keep t (c ∷ cases) default r l count starts other inside =
      both (case_code t c.value r (label_of (Some c.start) l)) (cases_code t cases default r l)
      (case_keeps t c.value r (label_of (Some c.start) l) (starts c.start (All-head (λ x. x.start < count) c cases inside)))
      (cases_keep t cases default r l count starts other (All-tail (λ x. x.start < count) c cases inside))

  default_at : (cases : List Case) (o : Option ℕ) (l count : ℕ) → start_of_default cases ≡ o → All (λ c. c.start < count) cases → None_at l → ((k : ℕ) → k < count → None_at (l + 1 + k)) → None_at (label_of o l)
  default_at cases None l count is inside out starts = out
  default_at cases (Some k) l count is inside out starts = starts k (default_inside cases count k inside is)

  regs_keep : (wide : Bool) (regs : Regs) → K (zero_regs_code wide regs)
  regs_keep true regs = plain_one _ (record { each = tt })
  regs_keep false regs = plain_one _ (record { each = tt })

  zero_local_keeps : (o : Option Spot) (ty : Ty) (size r l : ℕ) → None_at l → None_at (l + 1) → K (zero_local_code o ty size r l)
  zero_local_keeps None ty size r l e f = record { over = λ u h. h }
  zero_local_keeps (Some (Values regs)) ty size r l e f = regs_keep (is_wide (number_of ty)) regs
  zero_local_keeps (Some (Frame o)) ty size r l e f = plain_one _ (record { each = (e, (f, (e, (f, tt)))) })

  -- ---- ways out

  abbrev BackIs : Option ℕ → Type 0
  BackIs None = ⊤
  BackIs (Some l) = None_at l

  abbrev pub WayIs : Ways → WayOut → Type 0
  WayIs w returning = BackIs w.return_to
  WayIs w breaking = None_at w.break_to
  WayIs w continuing = None_at w.continue_to

  pub record WaysAre (own : WayOut → Bool) (w : Ways) : Type 0 where
    pub way : (out : WayOut) → own out ≡ true → WayIs w out

  back_stands : (o : Option ℕ) (ty : Ty) (r : ℕ) (u : List Mid) → BackIs o → M u → M (back o ty r ∷ u)
  back_stands None ty r u b h = (nothing, h)
  back_stands (Some l) ty r u b h = jump_stands at_label l u b h

  way_stands : (w : Ways) (r : ℕ) (out : WayOut) (u : List Mid) → WayIs w out → M u → M (way_out w r out ∷ u)
  way_stands w r returning u b h = back_stands w.return_to w.gives r u b h
  way_stands w r breaking u b h = jump_stands at_label w.break_to u b h
  way_stands w r continuing u b h = jump_stands at_label w.continue_to u b h

  exit_keeps : (b : Bool) (o l : ℕ) (w : Ways) (r : ℕ) (out : WayOut) → None_at l → None_at (l + 1) → (b ≡ true → WayIs w out) → K (exit_code b o l (way_out w r out))
  exit_keeps false o l w r out inside outside way = record { over = λ u h. h }
  exit_keeps true o l w r out inside outside way = record {
    over = λ u h. jump_stands at_label (l + 1) (Label l ∷ End o ∷ way_out w r out ∷ Label (l + 1) ∷ u) outside (label_stands at_label l (End o ∷ way_out w r out ∷ Label (l + 1) ∷ u) inside (way_stands w r out (Label (l + 1) ∷ u) (way refl) (label_stands at_label (l + 1) u outside h)));
  }

  loop_ways : (own : WayOut → Bool) (w : Ways) (out next : ℕ) → None_at out → None_at next → (own returning ≡ true → WayIs w returning) → WaysAre own (in_loop out next w)
  loop_ways own w out next h g back = record { way = by }
    where
      by : (o : WayOut) → own o ≡ true → WayIs (in_loop out next w) o
      by returning e = back e
      by breaking e = h
      by continuing e = g

  switch_ways : (own : WayOut → Bool) (w : Ways) (out : ℕ) → None_at out → (own returning ≡ true → WayIs w returning) → (own continuing ≡ true → WayIs w continuing) → WaysAre own (in_switch out w)
  switch_ways own w out h back on = record { way = by }
    where
      by : (o : WayOut) → own o ≡ true → WayIs (in_switch out w) o
      by returning e = back e
      by breaking e = h
      by continuing e = on e

  atomic_ways : (own : WayOut → Bool) (w : Ways) (l : ℕ) → None_at l → None_at (l + 2) → None_at (l + 4) → WaysAre own (in_atomic l w)
  atomic_ways own w l h1 h2 h3 = record { way = by }
    where
      by : (o : WayOut) → own o ≡ true → WayIs (in_atomic l w) o
      by returning e = h1
      by breaking e = h2
      by continuing e = h3

  here_ways : (own : WayOut → Bool) (w : Ways) (l : ℕ) (ty : Ty) → None_at l → WaysAre own (in_here l ty w)
  here_ways own w l ty h = record { way = by }
    where
      by : (o : WayOut) → own o ≡ true → WayIs (in_here l ty w) o
      by returning e = h
      by breaking e = h
      by continuing e = h

  -- ---- statements

  module _ (p : Program) (types checks : List Ty) (spots : List Spot) (base : ℕ) where
    of_expr : (e : Expr) (ty : Ty) (r l : ℕ) → Has p types e ty → A (λ k. facts e r l k) l (labels e) → K (expr_code p types checks spots e r l)
    of_expr e ty r l h a = expr_keeps at_label p types checks spots e ty r l h a

    step_keeps : (e : Option Expr) (l : ℕ) → IsDone p types e → A (λ k. maybe_facts base e base l k) l (maybe_labels e) → K (step_code p types checks spots base e l)
    step_keeps None l h a = record { over = λ u g. g }
    step_keeps (Some e) l h a = of_expr e h.0 base l h.1 a

    returned_keeps : (e : Option Expr) (w : Ways) (t : Ty) (l : ℕ) → IsGiven p types e t → A (λ k. maybe_facts base e (base + 2) l k) l (maybe_labels e) → K (returned_code p types checks spots base e w l)
    returned_keeps None w t l h a = nothing_keeps w.gives (base + 2)
    returned_keeps (Some e) w t l h a = of_expr e t (base + 2) l h.1 a

    kept_keeps : (ty : Ty) (o : Option Spot) (work : List Mid) → K work → K (kept_code p types checks spots base ty o work)
    kept_keeps ty o work h =
        if_keeps at_label (is_void ty) work (local_code o base ++ (work ++ put_code (kind_of_spot o) (number_of ty) (base + 2) base)) h
        (both (local_code o base) (work ++ put_code (kind_of_spot o) (number_of ty) (base + 2) base) (plain_one _ (local_plain at_label o base))
        (both work (put_code (kind_of_spot o) (number_of ty) (base + 2) base) h (plain_one _ (put_plain at_label (kind_of_spot o) (number_of ty) (base + 2) base))))

    enter_keeps : (es : Exprs) (ts : List Ty) (x l : ℕ) → AllHave p types es ts → A (λ k. enter_facts base es l k) l (all_labels es) → K (enter_code p types checks spots base es x l)
    enter_keeps no_exprs ts x l h a = record { over = λ u g. g }
    enter_keeps (more_exprs e rest) [] x l h a = absurd h
    enter_keeps (more_exprs e rest) (t ∷ ts) x l h a =
        let fe : ℕ → Fact = (λ k. facts e (base + 2) l k) in
        let fr : ℕ → Fact = (λ k. enter_facts base rest (l + labels e) k) in
        let ae : A fe l (labels e) = first at_label fe fr l (l + labels e) (labels e) (labels e + all_labels rest) a (omega arith) (omega arith) in
        let ar : A fr (l + labels e) (all_labels rest) = second at_label fe fr l (l + labels e) (labels e) (labels e + all_labels rest) (all_labels rest) a (omega arith) (omega arith) in
        both (kept_code p types checks spots base (slice_index_or types x plain.void) (slice_get spots x) (expr_code p types checks spots e (base + 2) l)) (enter_code p types checks spots base rest (x + 1) (l + labels e))
        (kept_keeps (slice_index_or types x plain.void) (slice_get spots x) (expr_code p types checks spots e (base + 2) l) (of_expr e t (base + 2) l h.0 ae)) (enter_keeps rest ts (x + 1) (l + labels e) h.1 ar)

    clears_keep : (count x l : ℕ) → A (λ k. nothing) l (2 * count) → K (clears_code p types checks spots base count x l)
    clears_keep zero x l a = record { over = λ u h. h }
    clears_keep (suc count) x l a =
        both (clear_code p types checks spots base x l) (clears_code p types checks spots base count (x + 1) (l + 2))
        (zero_local_keeps (slice_get spots x) (slice_index_or types x plain.void) (size_of p (slice_index_or types x plain.void)) base l (at l (2 * suc count) l a (omega arith) (omega arith)) (at l (2 * suc count) (l + 1) a (omega arith) (omega arith)))
        (clears_keep count (x + 1) (l + 2) (fewer l (2 * suc count) (l + 2) (2 * count) (omega arith) (omega arith) a))

    result_keeps : (b : Bool) (x : ℕ) → K (result_code p types checks spots base b x)
    result_keeps false x = record { over = λ u h. h }
    result_keeps true x = kept_keeps (slice_index_or types x plain.void) (slice_get spots x) [] (record { over = λ u h. h })

    loop_keeps : (early : Bool) (test : Expr) (step : Option Expr) (body : Stmt) (exits : Exits) (w : Ways) (l : ℕ) → IsStmt p types (plain.loop early test step body) exits → A (λ k. nothing) l 3 →
        A (λ k. facts test base (l + 3) k) (l + 3) (labels test) → A (λ k. maybe_facts base step base (l + 3 + labels test) k) (l + 3 + labels test) (maybe_labels step) →
        K (stmt_code p types checks spots base body (in_loop (l + 1) (l + 2) w) (l + 3 + labels test + maybe_labels step)) →
        K (stmt_code p types checks spots base (plain.loop early test step body) w l)
    loop_keeps true test step body exits w l typed own of_test of_step of_body =
        let lb : ℕ = l + 3 + labels test + maybe_labels step in
        let inner : Ways = in_loop (l + 1) (l + 2) w in
        let e0 = at l 3 l own (omega arith) (omega arith) in
        let e1 = at l 3 (l + 1) own (omega arith) (omega arith) in
        let e2 = at l 3 (l + 2) own (omega arith) (omega arith) in
        let ct : List Mid = expr_code p types checks spots test base (l + 3) in
        let z : List Mid = zero_code Eq (is_wide (held p types test)) base (l + 1) in
        let cb : List Mid = stmt_code p types checks spots base body inner lb in
        let cs : List Mid = step_code p types checks spots base step (l + 3 + labels test) in
        let last : List Mid = Label (l + 2) ∷ (cs ++ Jump l ∷ Label (l + 1) ∷ []) in
        let steps : K (cs ++ Jump l ∷ Label (l + 1) ∷ []) = both cs (Jump l ∷ Label (l + 1) ∷ []) (step_keeps step (l + 3 + labels test) typed.1 of_step) (plain_one _ (record { each = (e0, (e1, tt)) })) in
        let turn : K (ct ++ (z ++ (cb ++ last))) =
        both ct (z ++ (cb ++ last)) (of_expr test typed.0.0 base (l + 3) typed.0.2 of_test)
        (both z (cb ++ last) (plain_one _ (zero_plain at_label Eq (is_wide (held p types test)) base (l + 1) e1))
        (both cb last of_body (label_keeps at_label (l + 2) (cs ++ Jump l ∷ Label (l + 1) ∷ []) e2 steps))) in
        label_keeps at_label l (Tick ∷ (ct ++ (z ++ (cb ++ last)))) e0 (tick_keeps at_label (ct ++ (z ++ (cb ++ last))) turn)
    loop_keeps false test step body exits w l typed own of_test of_step of_body =
        let lb : ℕ = l + 3 + labels test + maybe_labels step in
        let inner : Ways = in_loop (l + 1) (l + 2) w in
        let e0 = at l 3 l own (omega arith) (omega arith) in
        let e1 = at l 3 (l + 1) own (omega arith) (omega arith) in
        let e2 = at l 3 (l + 2) own (omega arith) (omega arith) in
        let ct : List Mid = expr_code p types checks spots test base (l + 3) in
        let z : List Mid = zero_code Ne (is_wide (held p types test)) base l in
        let cb : List Mid = stmt_code p types checks spots base body inner lb in
        let tests : K (ct ++ (z ++ Label (l + 1) ∷ [])) =
        both ct (z ++ Label (l + 1) ∷ []) (of_expr test typed.0.0 base (l + 3) typed.0.2 of_test)
        (both z (Label (l + 1) ∷ []) (plain_one _ (zero_plain at_label Ne (is_wide (held p types test)) base l e0)) (plain_one _ (record { each = (e1, tt) }))) in
        let turn : K (cb ++ (Label (l + 2) ∷ (ct ++ (z ++ Label (l + 1) ∷ [])))) =
        both cb (Label (l + 2) ∷ (ct ++ (z ++ Label (l + 1) ∷ []))) of_body
        (label_keeps at_label (l + 2) (ct ++ (z ++ Label (l + 1) ∷ [])) e2 tests) in
        label_keeps at_label l (Tick ∷ (cb ++ (Label (l + 2) ∷ (ct ++ (z ++ Label (l + 1) ∷ []))))) e0 (tick_keeps at_label (cb ++ (Label (l + 2) ∷ (ct ++ (z ++ Label (l + 1) ∷ [])))) turn)

    mutual
      pub stmt_keeps : (s : Stmt) (exits : Exits) (w : Ways) (l : ℕ) → IsStmt p types s exits → A (λ k. stmt_facts base s l k) l (stmt_labels s) → WaysAre (leads s) w → K (stmt_code p types checks spots base s w l)
      stmt_keeps (plain.eval e) exits w l typed a ways = of_expr e typed.0 base l typed.1 a
      stmt_keeps (plain.block list) exits w l typed a ways = stmts_keep list exits w l typed a (record { way = λ o e. ways.way o e })
      stmt_keeps (plain.branch test x y) exits w l typed a ways =
          let la : ℕ = l + 2 + labels test in
          let lb : ℕ = la + stmt_labels x in
          let n : ℕ = 2 + labels test + stmt_labels x + stmt_labels y in
          let ft : ℕ → Fact = (λ k. facts test base (l + 2) k) in
          let fx : ℕ → Fact = (λ k. stmt_facts base x la k) in
          let fy : ℕ → Fact = (λ k. stmt_facts base y lb k) in
          let fs : ℕ → Fact = (λ k. if nat_lt k lb then stmt_facts base x la k else stmt_facts base y lb k) in
          let fr : ℕ → Fact = (λ k. if nat_lt k la then facts test base (l + 2) k else if nat_lt k lb then stmt_facts base x la k else stmt_facts base y lb k) in
          let own : A (λ k. nothing) l 2 = first at_label (λ k. nothing) fr l (l + 2) 2 n a (omega arith) (omega arith) in
          let rest : A fr (l + 2) (labels test + stmt_labels x + stmt_labels y) = second at_label (λ k. nothing) fr l (l + 2) 2 n (labels test + stmt_labels x + stmt_labels y) a (omega arith) (omega arith) in
          let of_test : A ft (l + 2) (labels test) = first at_label ft fs (l + 2) la (labels test) (labels test + stmt_labels x + stmt_labels y) rest (omega arith) (omega arith) in
          let rest2 : A fs la (stmt_labels x + stmt_labels y) = second at_label ft fs (l + 2) la (labels test) (labels test + stmt_labels x + stmt_labels y) (stmt_labels x + stmt_labels y) rest (omega arith) (omega arith) in
          let of_x : A fx la (stmt_labels x) = first at_label fx fy la lb (stmt_labels x) (stmt_labels x + stmt_labels y) rest2 (omega arith) (omega arith) in
          let of_y : A fy lb (stmt_labels y) = second at_label fx fy la lb (stmt_labels x) (stmt_labels x + stmt_labels y) (stmt_labels y) rest2 (omega arith) (omega arith) in
          let e0 = at l 2 l own (omega arith) (omega arith) in
          let e1 = at l 2 (l + 1) own (omega arith) (omega arith) in
          let ct : List Mid = expr_code p types checks spots test base (l + 2) in
          let z : List Mid = zero_code Eq (is_wide (held p types test)) base l in
          let ca : List Mid = stmt_code p types checks spots base x w la in
          let cb : List Mid = stmt_code p types checks spots base y w lb in
          let last : K (cb ++ Label (l + 1) ∷ []) =
          both cb (Label (l + 1) ∷ []) (stmt_keeps y exits w lb typed.2 of_y (record { way = λ o e. ways.way o (or_second (leads x o) (leads y o) e) })) (plain_one _ (record { each = (e1, tt) })) in
          both ct (z ++ (ca ++ (Jump (l + 1) ∷ Label l ∷ (cb ++ Label (l + 1) ∷ [])))) (of_expr test typed.0.0 base (l + 2) typed.0.2 of_test)
          (both z (ca ++ (Jump (l + 1) ∷ Label l ∷ (cb ++ Label (l + 1) ∷ []))) (plain_one _ (zero_plain at_label Eq (is_wide (held p types test)) base l e0))
          (both ca (Jump (l + 1) ∷ Label l ∷ (cb ++ Label (l + 1) ∷ [])) (stmt_keeps x exits w la typed.1 of_x (record { way = λ o e. ways.way o (or_first (leads x o) (leads y o) e) }))
          (jump_keeps at_label (l + 1) (Label l ∷ (cb ++ Label (l + 1) ∷ [])) e1 (label_keeps at_label l (cb ++ Label (l + 1) ∷ []) e0 last))))
      stmt_keeps (plain.loop early test step body) exits w l typed a ways =
          let ls : ℕ = l + 3 + labels test in
          let lb : ℕ = ls + maybe_labels step in
          let n : ℕ = 3 + labels test + maybe_labels step + stmt_labels body in
          let ft : ℕ → Fact = (λ k. facts test base (l + 3) k) in
          let fs : ℕ → Fact = (λ k. maybe_facts base step base ls k) in
          let fb : ℕ → Fact = (λ k. stmt_facts base body lb k) in
          let f2 : ℕ → Fact = (λ k. if nat_lt k lb then maybe_facts base step base ls k else stmt_facts base body lb k) in
          let fr : ℕ → Fact = (λ k. if nat_lt k ls then facts test base (l + 3) k else if nat_lt k lb then maybe_facts base step base ls k else stmt_facts base body lb k) in
          let own : A (λ k. nothing) l 3 = first at_label (λ k. nothing) fr l (l + 3) 3 n a (omega arith) (omega arith) in
          let rest : A fr (l + 3) (labels test + maybe_labels step + stmt_labels body) = second at_label (λ k. nothing) fr l (l + 3) 3 n (labels test + maybe_labels step + stmt_labels body) a (omega arith) (omega arith) in
          let of_test : A ft (l + 3) (labels test) = first at_label ft f2 (l + 3) ls (labels test) (labels test + maybe_labels step + stmt_labels body) rest (omega arith) (omega arith) in
          let rest2 : A f2 ls (maybe_labels step + stmt_labels body) = second at_label ft f2 (l + 3) ls (labels test) (labels test + maybe_labels step + stmt_labels body) (maybe_labels step + stmt_labels body) rest (omega arith) (omega arith) in
          let of_step : A fs ls (maybe_labels step) = first at_label fs fb ls lb (maybe_labels step) (maybe_labels step + stmt_labels body) rest2 (omega arith) (omega arith) in
          let of_body : A fb lb (stmt_labels body) = second at_label fs fb ls lb (maybe_labels step) (maybe_labels step + stmt_labels body) (stmt_labels body) rest2 (omega arith) (omega arith) in
          let bodies : K (stmt_code p types checks spots base body (in_loop (l + 1) (l + 2) w) lb) =
          stmt_keeps body (formed.in_loop exits) (in_loop (l + 1) (l + 2) w) lb typed.2 of_body
          (loop_ways (leads body) w (l + 1) (l + 2) (at l 3 (l + 1) own (omega arith) (omega arith)) (at l 3 (l + 2) own (omega arith) (omega arith)) (λ e. ways.way returning e)) in
          loop_keeps early test step body exits w l typed own of_test of_step bodies
      stmt_keeps (plain.switch e cases list) exits w l typed a ways =
          let count : ℕ = count_stmts list in
          let le : ℕ = l + 1 + count in
          let ls : ℕ = le + labels e in
          let n : ℕ = 1 + count + labels e + stmts_labels list in
          let inner : Ways = in_switch l w in
          let fe : ℕ → Fact = (λ k. facts e base le k) in
          let fl : ℕ → Fact = (λ k. stmts_facts base list ls k) in
          let fr : ℕ → Fact = (λ k. if nat_lt k ls then facts e base le k else stmts_facts base list ls k) in
          let own : A (λ k. nothing) l (1 + count) = first at_label (λ k. nothing) fr l le (1 + count) n a (omega arith) (omega arith) in
          let rest : A fr le (labels e + stmts_labels list) = second at_label (λ k. nothing) fr l le (1 + count) n (labels e + stmts_labels list) a (omega arith) (omega arith) in
          let of_e : A fe le (labels e) = first at_label fe fl le ls (labels e) (labels e + stmts_labels list) rest (omega arith) (omega arith) in
          let of_list : A fl ls (stmts_labels list) = second at_label fe fl le ls (labels e) (labels e + stmts_labels list) (stmts_labels list) rest (omega arith) (omega arith) in
          let out : None_at l = at l (1 + count) l own (omega arith) (omega arith) in
          let starts : (k : ℕ) → k < count → None_at (l + 1 + k) = (λ k lt. at l (1 + count) (l + 1 + k) own (omega arith) (omega (arith, lt))) in
          let ct : List Mid = expr_code p types checks spots e base le in
          let z : List Mid = cases_code (held p types e) cases (start_of_default cases) base l in
          let cs : List Mid = switch_code p types checks spots base list inner (l + 1) ls in
          both ct (z ++ (cs ++ Label l ∷ [])) (of_expr e (plain.int typed.0.0) base le typed.0.1 of_e)
          (both z (cs ++ Label l ∷ []) (cases_keep (held p types e) cases (start_of_default cases) base l count starts (default_at cases (start_of_default cases) l count refl typed.1 out starts) typed.1)
          (both cs (Label l ∷ [])
          (switch_keeps list (formed.in_switch exits) inner (l + 1) ls typed.2 of_list (switch_ways (some_leads list) w l out (λ q. ways.way returning q) (λ q. ways.way continuing q)) starts) (plain_one _ (record { each = (out, tt) }))))
      stmt_keeps plain.break exits w l typed a ways = record { over = λ u h. way_stands w (base + 2) breaking u (ways.way breaking refl) h }
      stmt_keeps plain.continue exits w l typed a ways = record { over = λ u h. way_stands w (base + 2) continuing u (ways.way continuing refl) h }
      stmt_keeps (plain.return e) exits w l typed a ways =
          both (returned_code p types checks spots base e w l) (way_out w (base + 2) returning ∷ []) (returned_keeps e w exits.gives l typed a) (record { over = λ u h. way_stands w (base + 2) returning u (ways.way returning refl) h })
      stmt_keeps (plain.atomic s) exits w l typed a ways =
          let fs : ℕ → Fact = (λ k. stmt_facts base s (l + 6) k) in
          let own : A (λ k. nothing) l 6 = first at_label (λ k. nothing) fs l (l + 6) 6 (6 + stmt_labels s) a (omega arith) (omega arith) in
          let of_s : A fs (l + 6) (stmt_labels s) = second at_label (λ k. nothing) fs l (l + 6) 6 (6 + stmt_labels s) (stmt_labels s) a (omega arith) (omega arith) in
          let none : (k : ℕ) → l ≤ k → k < l + 6 → None_at k = (λ k ge lt. at l 6 k own ge lt) in
          let cs : List Mid = stmt_code p types checks spots base s (in_atomic l w) (l + 6) in
          let x1 : List Mid = exit_code (leads s returning) w.status l (way_out w (base + 2) returning) in
          let x2 : List Mid = exit_code (leads s breaking) w.status (l + 2) (way_out w (base + 2) breaking) in
          let x3 : List Mid = exit_code (leads s continuing) w.status (l + 4) (way_out w (base + 2) continuing) in
          let leaves : K (x1 ++ (x2 ++ x3)) =
          both x1 (x2 ++ x3) (exit_keeps (leads s returning) w.status l w (base + 2) returning (none l (omega arith) (omega arith)) (none (l + 1) (omega arith) (omega arith)) (λ q. ways.way returning q))
          (both x2 x3 (exit_keeps (leads s breaking) w.status (l + 2) w (base + 2) breaking (none (l + 2) (omega arith) (omega arith)) (none (l + 2 + 1) (omega arith) (omega arith)) (λ q. ways.way breaking q))
          (exit_keeps (leads s continuing) w.status (l + 4) w (base + 2) continuing (none (l + 4) (omega arith) (omega arith)) (none (l + 4 + 1) (omega arith) (omega arith)) (λ q. ways.way continuing q))) in
          let within : K (cs ++ (End w.status ∷ (x1 ++ (x2 ++ x3)))) =
          both cs (End w.status ∷ (x1 ++ (x2 ++ x3)))
          (stmt_keeps s exits (in_atomic l w) (l + 6) typed of_s (atomic_ways (leads s) w l (none l (omega arith) (omega arith)) (none (l + 2) (omega arith) (omega arith)) (none (l + 4) (omega arith) (omega arith))))
          (record { over = λ u h. leaves.over u h }) in
          record { over = λ u h. within.over u h }
      stmt_keeps (plain.clear x) exits w l typed a ways =
          zero_local_keeps (slice_get spots x) (slice_index_or types x plain.void) (size_of p (slice_index_or types x plain.void)) base l (at l 2 l a (omega arith) (omega arith)) (at l 2 (l + 1) a (omega arith) (omega arith))
      stmt_keeps (plain.here arguments from count body) exits w l typed a ways =
          let gives : Bool = gives_value body in
          let inner : Ways = in_here l (here_gives p types checks spots base gives (from + count)) w in
          let args : ℕ = count_exprs arguments in
          let la : ℕ = all_labels arguments in
          let lc : ℕ = l + 1 + la in
          let lb : ℕ = lc + 2 * count in
          let n : ℕ = 1 + la + 2 * count + stmt_labels body in
          let fa : ℕ → Fact = (λ k. enter_facts base arguments (l + 1) k) in
          let fb : ℕ → Fact = (λ k. stmt_facts base body lb k) in
          let f2 : ℕ → Fact = (λ k. if nat_lt k lb then nothing else stmt_facts base body lb k) in
          let fr : ℕ → Fact = (λ k. if nat_lt k lc then enter_facts base arguments (l + 1) k else if nat_lt k lb then nothing else stmt_facts base body lb k) in
          let own : A (λ k. nothing) l 1 = first at_label (λ k. nothing) fr l (l + 1) 1 n a (omega arith) (omega arith) in
          let rest : A fr (l + 1) (la + 2 * count + stmt_labels body) = second at_label (λ k. nothing) fr l (l + 1) 1 n (la + 2 * count + stmt_labels body) a (omega arith) (omega arith) in
          let of_args : A fa (l + 1) la = first at_label fa f2 (l + 1) lc la (la + 2 * count + stmt_labels body) rest (omega arith) (omega arith) in
          let rest2 : A f2 lc (2 * count + stmt_labels body) = second at_label fa f2 (l + 1) lc la (la + 2 * count + stmt_labels body) (2 * count + stmt_labels body) rest (omega arith) (omega arith) in
          let of_clears : A (λ k. nothing) lc (2 * count) = first at_label (λ k. nothing) fb lc lb (2 * count) (2 * count + stmt_labels body) rest2 (omega arith) (omega arith) in
          let of_body : A fb lb (stmt_labels body) = second at_label (λ k. nothing) fb lc lb (2 * count) (2 * count + stmt_labels body) (stmt_labels body) rest2 (omega arith) (omega arith) in
          let out : None_at l = at l 1 l own (omega arith) (omega arith) in
          let ca : List Mid = enter_code p types checks spots base arguments from (l + 1) in
          let cw : List Mid = clears_code p types checks spots base (count - args) (from + args) lc in
          let cb : List Mid = stmt_code p types checks spots base body inner lb in
          let cn : List Mid = nothing_code inner.gives (base + 2) in
          let cr : List Mid = result_code p types checks spots base gives (from + count) in
          let results : K cr = result_keeps gives (from + count) in
          let called : K (cb ++ (cn ++ (Label l ∷ Tick ∷ cr))) =
          both cb (cn ++ (Label l ∷ Tick ∷ cr))
          (stmt_keeps body (by_result p types from count) inner lb typed.1 of_body (here_ways (leads body) w l (here_gives p types checks spots base gives (from + count)) out))
          (both cn (Label l ∷ Tick ∷ cr) (nothing_keeps inner.gives (base + 2)) (label_keeps at_label l (Tick ∷ cr) out (tick_keeps at_label cr results))) in
          both ca (cw ++ (Tick ∷ (cb ++ (cn ++ (Label l ∷ Tick ∷ cr))))) (enter_keeps arguments (take args (drop from types)) from (l + 1) typed.0.passed of_args)
          (both cw (Tick ∷ (cb ++ (cn ++ (Label l ∷ Tick ∷ cr)))) (clears_keep (count - args) (from + args) lc (fewer lc (2 * count) lc (2 * (count - args)) (omega arith) (omega arith) of_clears))
          (record { over = λ u h. called.over u h }))

      stmts_keep : (list : Stmts) (exits : Exits) (w : Ways) (l : ℕ) → AreStmts p types list exits → A (λ k. stmts_facts base list l k) l (stmts_labels list) → WaysAre (some_leads list) w → K (stmts_code p types checks spots base list w l)
      stmts_keep no_stmts exits w l typed a ways = record { over = λ u h. h }
      stmts_keep (more_stmts s rest) exits w l typed a ways =
          let fs : ℕ → Fact = (λ k. stmt_facts base s l k) in
          let fr : ℕ → Fact = (λ k. stmts_facts base rest (l + stmt_labels s) k) in
          let of_s : A fs l (stmt_labels s) = first at_label fs fr l (l + stmt_labels s) (stmt_labels s) (stmt_labels s + stmts_labels rest) a (omega arith) (omega arith) in
          let of_rest : A fr (l + stmt_labels s) (stmts_labels rest) = second at_label fs fr l (l + stmt_labels s) (stmt_labels s) (stmt_labels s + stmts_labels rest) (stmts_labels rest) a (omega arith) (omega arith) in
          both (stmt_code p types checks spots base s w l) (stmts_code p types checks spots base rest w (l + stmt_labels s))
          (stmt_keeps s exits w l typed.0 of_s (record { way = λ o e. ways.way o (or_first (leads s o) (some_leads rest o) e) }))
          (stmts_keep rest exits w (l + stmt_labels s) typed.1 of_rest (record { way = λ o e. ways.way o (or_second (leads s o) (some_leads rest o) e) }))

      switch_keeps : (list : Stmts) (exits : Exits) (w : Ways) (j l : ℕ) → AreStmts p types list exits → A (λ k. stmts_facts base list l k) l (stmts_labels list) → WaysAre (some_leads list) w →
          ((k : ℕ) → k < count_stmts list → None_at (j + k)) → K (switch_code p types checks spots base list w j l)
      switch_keeps no_stmts exits w j l typed a ways starts = record { over = λ u h. h }
      switch_keeps (more_stmts s rest) exits w j l typed a ways starts =
          let fs : ℕ → Fact = (λ k. stmt_facts base s l k) in
          let fr : ℕ → Fact = (λ k. stmts_facts base rest (l + stmt_labels s) k) in
          let of_s : A fs l (stmt_labels s) = first at_label fs fr l (l + stmt_labels s) (stmt_labels s) (stmt_labels s + stmts_labels rest) a (omega arith) (omega arith) in
          let of_rest : A fr (l + stmt_labels s) (stmts_labels rest) = second at_label fs fr l (l + stmt_labels s) (stmt_labels s) (stmt_labels s + stmts_labels rest) (stmts_labels rest) a (omega arith) (omega arith) in
          let here : j ≡ j + 0 = omega arith in
          let own : None_at j = ap at_label here ∙ starts 0 (omega arith) in
          let next : (k : ℕ) → k < count_stmts rest → None_at (suc j + k) = (λ k lt. (let e : suc j + k ≡ j + suc k = omega arith in ap at_label e ∙ starts (suc k) (omega (arith, lt)))) in
          let each : K (stmt_code p types checks spots base s w l ++ switch_code p types checks spots base rest w (suc j) (l + stmt_labels s)) =
          both (stmt_code p types checks spots base s w l) (switch_code p types checks spots base rest w (suc j) (l + stmt_labels s))
          (stmt_keeps s exits w l typed.0 of_s (record { way = λ o e. ways.way o (or_first (leads s o) (some_leads rest o) e) }))
          (switch_keeps rest exits w (suc j) (l + stmt_labels s) typed.1 of_rest (record { way = λ o e. ways.way o (or_second (leads s o) (some_leads rest o) e) }) next) in
          label_keeps at_label j (stmt_code p types checks spots base s w l ++ switch_code p types checks spots base rest w (suc j) (l + stmt_labels s)) own each
