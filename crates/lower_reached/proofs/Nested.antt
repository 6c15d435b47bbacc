-- The code of statements may stand where as many Begins are open as its atomic statements say.
use Rattle.std.proofs.Common.{◌≡◌, ℕ, zero, suc, ◌+◌, ◌-◌, ◌*◌, ◌%◌, ◌<◌, ◌≤◌, Bool, true, false, List, [], ◌∷◌, ◌++◌, All, Option, Some, None, refl, sym, ap, ◌∙◌, subst, append_assoc, arith}
use Rattle.std.specs.Prelude.{ℤ, pos, ◌==◌, nat_lt, slice_get, slice_index_or, if◌then◌else◌}
use Rattle.std.specs.Ordering.{int_eq}
use Rattle.std.proofs.lemmas.Bool.{le-ltb, lt-ltb}
use Rattle.std.proofs.lemmas.List.Elements.{All-head, All-tail}
use Rattle.nm_base.specs.declared.int_type.IntType.{IntType}
use Rattle.nm_base.specs.IntType.{wrapped}
use Rattle.nesc_core.specs.Plain.{Ty, Expr, Exprs, no_exprs, more_exprs, Stmt, Stmts, Case, no_stmts, more_stmts, Program}
use Rattle.nesc_core.specs.Plain as plain
use Rattle.nesc_core.specs.Heres.{gives_value}
use Rattle.nesc_core.specs.WellFormed.{AreStmts, Exits, IsStmt, by_result, count_exprs, count_stmts}
use Rattle.nesc_core.specs.WellFormed as formed
use Rattle.core_meaning.specs.Layout.{size_of}
use Rattle.core_meaning.specs.Flow.{start_of_default}
use Rattle.core_meaning.specs.Work.{number_of}
use Rattle.mid_code.specs.declared.instr.Mid.{Mid}
use Rattle.mid_code.specs.declared.instr.Mid.TheVariants.{Label, Jump, End, Tick}
use Rattle.mid_code.specs.declared.instr.Test.{Test}
use Rattle.mid_code.specs.declared.instr.Test.TheVariants.{Eq, Ne}
use Rattle.mid_code.specs.Help.{is_wide}
use Rattle.lower_expr.specs.declared.spot.Regs.{Regs}
use Rattle.lower_expr.specs.declared.spot.Spot.{Spot}
use Rattle.lower_expr.specs.declared.spot.Spot.TheVariants.{Values, Frame}
use Rattle.lower_expr.specs.Held.{held}
use Rattle.lower_expr.specs.Pieces.{const_code, zero_code}
use Rattle.lower_expr.specs.Code.{Kind, InValues, InFrame, InMemory, all_labels, expr_code, is_void, keep_code, kind_of_spot, labels, local_code, put_code}
use Rattle.expr_emitter.proofs.Labels.{has_labels}
use Rattle.lower_stmt.specs.Code.{WayOut, Ways, breaking, continuing, returning, back, case_code, cases_code, clear_code, clears_code, enter_code, exit_code, here_gives, in_atomic, in_here, in_loop, in_switch, kept_code, label_of, leads, maybe_labels, nothing_code, result_code, returned_code, same_code, some_leads, step_code, stmt_code, stmt_labels, stmts_code, stmts_labels, switch_code, way_out, zero_local_code, zero_regs_code}
use Rattle.lower_stmt.proofs.Cases.{default_inside}
use Rattle.lower_stmt.proofs.Leaving.{or_first, or_second}
use Rattle.lower_reached.proofs.Level.{expr_level}
use Rattle.lower_reached.proofs.Depths.{AreAt, Keeps, MayStand, if_keeps, keeps_both, labels_keep}

-- ---- how many Begins are open at a label

-- the exits of an atomic statement stand before its End
abbrev pub at_exit : (d j : ℕ) → ℕ
at_exit d j = if j % 2 == 0 then suc d else d

-- at the label k of a statement whose labels are those from l on, where d are open
abbrev mutual
  pub depth : Stmt → (d l k : ℕ) → ℕ
  depth (plain.eval e) d l k = d
  depth (plain.block list) d l k = depths list d l k
  depth (plain.branch test a b) d l k =
      let la : ℕ = l + 2 + labels test in
      if nat_lt k la then d else if nat_lt k (la + stmt_labels a) then depth a d la k else depth b d (la + stmt_labels a) k
  depth (plain.loop first test step body) d l k =
      let lb : ℕ = l + 3 + labels test + maybe_labels step in
      if nat_lt k lb then d else depth body d lb k
  depth (plain.switch e cases list) d l k =
      let ls : ℕ = l + 1 + count_stmts list + labels e in
      if nat_lt k ls then d else depths list d ls k
  depth plain.break d l k = d
  depth plain.continue d l k = d
  depth (plain.return e) d l k = d
  depth (plain.atomic s) d l k = if nat_lt k (l + 6) then at_exit d (k - l) else depth s (suc d) (l + 6) k
  depth (plain.clear x) d l k = d
  depth (plain.here arguments first count body) d l k =
      let lb : ℕ = l + 1 + all_labels arguments + 2 * count in
      if nat_lt k lb then d else depth body d lb k

  pub depths : Stmts → (d l k : ℕ) → ℕ
  depths no_stmts d l k = d
  depths (more_stmts s rest) d l k = if nat_lt k (l + stmt_labels s) then depth s d l k else depths rest d (l + stmt_labels s) k

low : (k m a b : ℕ) → k < m → (if nat_lt k m then a else b) ≡ a
low k m a b lt = ap (λ (t : Bool). if t then a else b) (lt-ltb k m lt)

high : (k m a b : ℕ) → m ≤ k → (if nat_lt k m then a else b) ≡ b
high k m a b le = ap (λ (t : Bool). if t then a else b) (le-ltb k m le)

module _ (at_label : ℕ → ℕ) (start : ℕ) where
  abbrev M : ℕ → List Mid → Type 0
  M d u = MayStand at_label start d u

  abbrev K : ℕ → List Mid → Type 0
  K d c = Keeps at_label start d c

  abbrev A : (d lo n : ℕ) → Type 0
  A d lo n = AreAt at_label start d lo n

  both : (d : ℕ) (a b : List Mid) → K d a → K d b → K d (a ++ b)
  both d a b h g = keeps_both at_label start d a b h g

  fewer : (d lo n lo2 n2 : ℕ) → lo ≤ lo2 → lo2 + n2 ≤ lo + n → A d lo n → A d lo2 n2
  fewer d lo n lo2 n2 a b h = record { each = λ k ge lt. h.each k (omega (arith, ge, a)) (omega (arith, lt, b)) }

  at : (d lo n k : ℕ) → lo ≤ k → k < lo + n → A d lo n → at_label k ≡ d
  at d lo n k ge lt h = h.each k ge lt

  -- ---- pieces

  const_keeps : (d : ℕ) (t : IntType) (x : ℤ) (r : ℕ) → K d (const_code t x r)
  const_keeps d t x r = if_keeps at_label start (is_wide t) d _ _ (record { over = λ u h. h }) (record { over = λ u h. h })

  pub nothing_keeps : (d : ℕ) (ty : Ty) (r : ℕ) → K d (nothing_code ty r)
  nothing_keeps d ty r = if_keeps at_label start (is_void ty) d [] (const_code (number_of ty) (pos 0) r) (record { over = λ u h. h }) (const_keeps d (number_of ty) (pos 0) r)

  zero_keeps : (d : ℕ) (test : Test) (wide : Bool) (r l : ℕ) → at_label l ≡ d → K d (zero_code test wide r l)
  zero_keeps d test true r l e = record { over = λ u h. (e, h) }
  zero_keeps d test false r l e = record { over = λ u h. (e, h) }

  same_keeps : (d : ℕ) (wide : Bool) (r l : ℕ) → at_label l ≡ d → K d (same_code wide r l)
  same_keeps d true r l e = record { over = λ u h. (e, h) }
  same_keeps d false r l e = record { over = λ u h. (e, h) }

  case_keeps : (d : ℕ) (t : IntType) (o : Option ℤ) (r l : ℕ) → at_label l ≡ d → K d (case_code t o r l)
  case_keeps d t None r l e = record { over = λ u h. h }
  case_keeps d t (Some n) r l e =
      if_keeps at_label start (int_eq (wrapped t n) n) d (const_code t n (r + 2) ++ same_code (is_wide t) r l) []
      (both d (const_code t n (r + 2)) (same_code (is_wide t) r l) (const_keeps d t n (r + 2)) (same_keeps d (is_wide t) r l e)) (record { over = λ u h. h })

  cases_keep : (d : ℕ) (t : IntType) (cases : List Case) (default : Option ℕ) (r l count : ℕ) → ((k : ℕ) → k < count → at_label (l + 1 + k) ≡ d) → at_label (label_of default l) ≡ d → All (λ c. c.start < count) cases →
      K d (cases_code t cases default r l)
  cases_keep d t [] default r l count starts other inside = record { over = λ u h. (other, (d, h)) }
  cases_keep d t (c ∷ cases) default r l count starts other inside =
      both d (case_code t c.value r (label_of (Some c.start) l)) (cases_code t cases default r l)
      (case_keeps d t c.value r (label_of (Some c.start) l) (starts c.start (All-head (λ x. x.start < count) c cases inside)))
      (cases_keep d t cases default r l count starts other (All-tail (λ x. x.start < count) c cases inside))

  default_at : (d : ℕ) (cases : List Case) (o : Option ℕ) (l count : ℕ) → start_of_default cases ≡ o → All (λ c. c.start < count) cases → at_label l ≡ d → ((k : ℕ) → k < count → at_label (l + 1 + k) ≡ d) → at_label (label_of o l) ≡ d
  default_at d cases None l count is inside out starts = out
  default_at d cases (Some k) l count is inside out starts = starts k (default_inside cases count k inside is)

  -- level code without labels
  keep_keeps : (d : ℕ) (wide : Bool) (regs : Regs) (v : ℕ) → K d (keep_code wide regs v)
  keep_keeps d true regs v = record { over = λ u h. h }
  keep_keeps d false regs v = record { over = λ u h. h }

  put_keeps : (d : ℕ) (kind : Kind) (t : IntType) (v r : ℕ) → K d (put_code kind t v r)
  put_keeps d (InValues regs) t v r = keep_keeps d (is_wide t) regs v
  put_keeps d InFrame t v r = if_keeps at_label start (is_wide t) d _ _ (record { over = λ u h. h }) (record { over = λ u h. h })
  put_keeps d InMemory t v r = if_keeps at_label start (is_wide t) d _ _ (record { over = λ u h. h }) (record { over = λ u h. h })

  local_keeps : (d : ℕ) (o : Option Spot) (r : ℕ) → K d (local_code o r)
  local_keeps d None r = record { over = λ u h. h }
  local_keeps d (Some (Values regs)) r = record { over = λ u h. h }
  local_keeps d (Some (Frame o)) r = record { over = λ u h. h }

  regs_keep : (d : ℕ) (wide : Bool) (regs : Regs) → K d (zero_regs_code wide regs)
  regs_keep d true regs = record { over = λ u h. h }
  regs_keep d false regs = record { over = λ u h. h }

  zero_local_keeps : (d : ℕ) (o : Option Spot) (ty : Ty) (size r l : ℕ) → A d l 2 → K d (zero_local_code o ty size r l)
  zero_local_keeps d None ty size r l a = record { over = λ u h. h }
  zero_local_keeps d (Some (Values regs)) ty size r l a = regs_keep d (is_wide (number_of ty)) regs
  zero_local_keeps d (Some (Frame o)) ty size r l a =
      let first : at_label l ≡ d = at d l 2 l (omega arith) (omega arith) a in
      let second : at_label (l + 1) ≡ d = at d l 2 (l + 1) (omega arith) (omega arith) a in
      record { over = λ u h. (first, (second, (first, (d, (second, h))))) }

  -- ---- ways out

  abbrev BackIs : ℕ → Option ℕ → Type 0
  BackIs d None = d ≡ 0
  BackIs d (Some l) = at_label l ≡ d

  abbrev pub WayIs : ℕ → Ways → WayOut → Type 0
  WayIs d w returning = BackIs d w.return_to
  WayIs d w breaking = at_label w.break_to ≡ d
  WayIs d w continuing = at_label w.continue_to ≡ d

  pub record WaysAre (d : ℕ) (own : WayOut → Bool) (w : Ways) : Type 0 where
    pub way : (out : WayOut) → own out ≡ true → WayIs d w out

  back_stands : (d e : ℕ) (o : Option ℕ) (ty : Ty) (r : ℕ) (u : List Mid) → BackIs d o → M e u → M d (back o ty r ∷ u)
  back_stands d e None ty r u b h = (b, (e, h))
  back_stands d e (Some l) ty r u b h = (b, (e, h))

  way_stands : (d e : ℕ) (w : Ways) (r : ℕ) (out : WayOut) (u : List Mid) → WayIs d w out → M e u → M d (way_out w r out ∷ u)
  way_stands d e w r returning u b h = back_stands d e w.return_to w.gives r u b h
  way_stands d e w r breaking u b h = (b, (e, h))
  way_stands d e w r continuing u b h = (b, (e, h))

  exit_keeps : (d : ℕ) (b : Bool) (l : ℕ) (w : Ways) (r : ℕ) (out : WayOut) → w.status ≡ start + 2 * d → at_label l ≡ suc d → at_label (l + 1) ≡ d → (b ≡ true → WayIs d w out) → K d (exit_code b w.status l (way_out w r out))
  exit_keeps d false l w r out is inside outside way = record { over = λ u h. h }
  exit_keeps d true l w r out is inside outside way =
      record { over = λ u h. (outside, (suc d, (inside, (d, refl, is, way_stands d d w r out (Label (l + 1) ∷ u) (way refl) (outside, h))))) }

  loop_ways : (d : ℕ) (own : WayOut → Bool) (w : Ways) (out next : ℕ) → at_label out ≡ d → at_label next ≡ d → (own returning ≡ true → WayIs d w returning) → WaysAre d own (in_loop out next w)
  loop_ways d own w out next h g back = record { way = by }
    where
      by : (o : WayOut) → own o ≡ true → WayIs d (in_loop out next w) o
      by returning e = back e
      by breaking e = h
      by continuing e = g

  switch_ways : (d : ℕ) (own : WayOut → Bool) (w : Ways) (out : ℕ) → at_label out ≡ d → (own returning ≡ true → WayIs d w returning) → (own continuing ≡ true → WayIs d w continuing) → WaysAre d own (in_switch out w)
  switch_ways d own w out h back on = record { way = by }
    where
      by : (o : WayOut) → own o ≡ true → WayIs d (in_switch out w) o
      by returning e = back e
      by breaking e = h
      by continuing e = on e

  atomic_ways : (d : ℕ) (own : WayOut → Bool) (w : Ways) (l : ℕ) → at_label l ≡ d → at_label (l + 2) ≡ d → at_label (l + 4) ≡ d → WaysAre d own (in_atomic l w)
  atomic_ways d own w l h1 h2 h3 = record { way = by }
    where
      by : (o : WayOut) → own o ≡ true → WayIs d (in_atomic l w) o
      by returning e = h1
      by breaking e = h2
      by continuing e = h3

  here_ways : (d : ℕ) (own : WayOut → Bool) (w : Ways) (l : ℕ) (ty : Ty) → at_label l ≡ d → WaysAre d own (in_here l ty w)
  here_ways d own w l ty h = record { way = by }
    where
      by : (o : WayOut) → own o ≡ true → WayIs d (in_here l ty w) o
      by returning e = h
      by breaking e = h
      by continuing e = h

  -- ---- statements

  module _ (p : Program) (types checks : List Ty) (spots : List Spot) (base : ℕ) where
    expr_keeps : (e : Expr) (d r l : ℕ) → A d l (labels e) → K d (expr_code p types checks spots e r l)
    expr_keeps e d r l a = labels_keep at_label start d l (labels e) (expr_code p types checks spots e r l) a (expr_level p types checks spots e r l) (has_labels p types checks spots e r l)

    step_keeps : (e : Option Expr) (d l : ℕ) → A d l (maybe_labels e) → K d (step_code p types checks spots base e l)
    step_keeps None d l a = record { over = λ u h. h }
    step_keeps (Some e) d l a = expr_keeps e d base l a

    returned_keeps : (e : Option Expr) (w : Ways) (d l : ℕ) → A d l (maybe_labels e) → K d (returned_code p types checks spots base e w l)
    returned_keeps None w d l a = nothing_keeps d w.gives (base + 2)
    returned_keeps (Some e) w d l a = expr_keeps e d (base + 2) l a

    kept_keeps : (d : ℕ) (ty : Ty) (o : Option Spot) (work : List Mid) → K d work → K d (kept_code p types checks spots base ty o work)
    kept_keeps d ty o work h =
        if_keeps at_label start (is_void ty) d work (local_code o base ++ (work ++ put_code (kind_of_spot o) (number_of ty) (base + 2) base)) h
        (both d (local_code o base) (work ++ put_code (kind_of_spot o) (number_of ty) (base + 2) base) (local_keeps d o base)
        (both d work (put_code (kind_of_spot o) (number_of ty) (base + 2) base) h (put_keeps d (kind_of_spot o) (number_of ty) (base + 2) base)))

    enter_keeps : (es : Exprs) (d x l : ℕ) → A d l (all_labels es) → K d (enter_code p types checks spots base es x l)
    enter_keeps no_exprs d x l a = record { over = λ u h. h }
    enter_keeps (more_exprs e rest) d x l a =
        both d (kept_code p types checks spots base (slice_index_or types x plain.void) (slice_get spots x) (expr_code p types checks spots e (base + 2) l)) (enter_code p types checks spots base rest (x + 1) (l + labels e))
        (kept_keeps d (slice_index_or types x plain.void) (slice_get spots x) (expr_code p types checks spots e (base + 2) l)
        (expr_keeps e d (base + 2) l (fewer d l (labels e + all_labels rest) l (labels e) (omega arith) (omega arith) a)))
        (enter_keeps rest d (x + 1) (l + labels e) (fewer d l (labels e + all_labels rest) (l + labels e) (all_labels rest) (omega arith) (omega arith) a))

    clears_keep : (count d x l : ℕ) → A d l (2 * count) → K d (clears_code p types checks spots base count x l)
    clears_keep zero d x l a = record { over = λ u h. h }
    clears_keep (suc count) d x l a =
        both d (clear_code p types checks spots base x l) (clears_code p types checks spots base count (x + 1) (l + 2))
        (zero_local_keeps d (slice_get spots x) (slice_index_or types x plain.void) (size_of p (slice_index_or types x plain.void)) base l (fewer d l (2 * suc count) l 2 (omega arith) (omega arith) a))
        (clears_keep count d (x + 1) (l + 2) (fewer d l (2 * suc count) (l + 2) (2 * count) (omega arith) (omega arith) a))

    result_keeps : (b : Bool) (d x : ℕ) → K d (result_code p types checks spots base b x)
    result_keeps false d x = record { over = λ u h. h }
    result_keeps true d x = kept_keeps d (slice_index_or types x plain.void) (slice_get spots x) [] (record { over = λ u h. h })

    -- so many Begins are open at each label of a statement
    pub record DepthsAre (s : Stmt) (d l : ℕ) : Type 0 where
      pub each : (k : ℕ) → l ≤ k → k < l + stmt_labels s → at_label k ≡ depth s d l k

    record AllDepthsAre (list : Stmts) (d l : ℕ) : Type 0 where
      each : (k : ℕ) → l ≤ k → k < l + stmts_labels list → at_label k ≡ depths list d l k

    -- the labels of a statement's own code, which come first
    flat : (d l m n total : ℕ) (rest : ℕ → ℕ) → ((k : ℕ) → l ≤ k → k < l + total → at_label k ≡ (if nat_lt k m then d else rest k)) → m ≡ l + n → n ≤ total → A d l n
    flat d l m n total rest h e le = record { each = λ k ge lt. h k ge (omega (arith, lt, le)) ∙ low k m d (rest k) (omega (arith, lt, e)) }

    first_of : (s : Stmt) (rest : Stmts) (d l : ℕ) → AllDepthsAre (more_stmts s rest) d l → DepthsAre s d l
    first_of s rest d l a = record { each = λ k ge lt. a.each k ge (omega (arith, lt)) ∙ low k (l + stmt_labels s) (depth s d l k) (depths rest d (l + stmt_labels s) k) lt }

    others_of : (s : Stmt) (rest : Stmts) (d l : ℕ) → AllDepthsAre (more_stmts s rest) d l → AllDepthsAre rest d (l + stmt_labels s)
    others_of s rest d l a = record { each = λ k ge lt. a.each k (omega (arith, ge)) (omega (arith, lt)) ∙ high k (l + stmt_labels s) (depth s d l k) (depths rest d (l + stmt_labels s) k) ge }

    mutual
      pub stmt_keeps : (s : Stmt) (exits : Exits) (w : Ways) (d l : ℕ) → IsStmt p types s exits → w.status ≡ start + 2 * d → DepthsAre s d l → WaysAre d (leads s) w → K d (stmt_code p types checks spots base s w l)
      stmt_keeps (plain.eval e) exits w d l typed is a ways = expr_keeps e d base l (record { each = λ k ge lt. a.each k ge lt })
      stmt_keeps (plain.block list) exits w d l typed is a ways = stmts_keep list exits w d l typed is (record { each = λ k ge lt. a.each k ge lt }) (record { way = λ o e. ways.way o e })
      stmt_keeps (plain.branch test a b) exits w d l typed is at_all ways =
          let la : ℕ = l + 2 + labels test in
          let lb : ℕ = la + stmt_labels a in
          let own : A d l (2 + labels test) =
          flat d l la (2 + labels test) (2 + labels test + stmt_labels a + stmt_labels b) (λ k. if nat_lt k lb then depth a d la k else depth b d lb k) at_all.each (omega arith) (omega arith) in
          let first : at_label l ≡ d = at d l (2 + labels test) l (omega arith) (omega arith) own in
          let second : at_label (l + 1) ≡ d = at d l (2 + labels test) (l + 1) (omega arith) (omega arith) own in
          let of_a : DepthsAre a d la =
          record { each = λ k ge lt. at_all.each k (omega (arith, ge)) (omega (arith, lt)) ∙ high k la d (if nat_lt k lb then depth a d la k else depth b d lb k) ge ∙ low k lb (depth a d la k) (depth b d lb k) lt } in
          let of_b : DepthsAre b d lb =
          record {
            each = λ k ge lt.
                at_all.each k (omega (arith, ge)) (omega (arith, lt)) ∙ high k la d (if nat_lt k lb then depth a d la k else depth b d lb k) (omega (arith, ge))
                ∙ high k lb (depth a d la k) (depth b d lb k) ge;
          } in
          let ct : List Mid = expr_code p types checks spots test base (l + 2) in
          let z : List Mid = zero_code Eq (is_wide (held p types test)) base l in
          let ca : List Mid = stmt_code p types checks spots base a w la in
          let cb : List Mid = stmt_code p types checks spots base b w lb in
          let last : K d (cb ++ Label (l + 1) ∷ []) =
          both d cb (Label (l + 1) ∷ []) (stmt_keeps b exits w d lb typed.2 is of_b (record { way = λ o e. ways.way o (or_second (leads a o) (leads b o) e) })) (record { over = λ u h. (second, h) }) in
          both d ct (z ++ (ca ++ (Jump (l + 1) ∷ Label l ∷ (cb ++ Label (l + 1) ∷ [])))) (expr_keeps test d base (l + 2) (fewer d l (2 + labels test) (l + 2) (labels test) (omega arith) (omega arith) own))
          (both d z (ca ++ (Jump (l + 1) ∷ Label l ∷ (cb ++ Label (l + 1) ∷ []))) (zero_keeps d Eq (is_wide (held p types test)) base l first)
          (both d ca (Jump (l + 1) ∷ Label l ∷ (cb ++ Label (l + 1) ∷ []))
          (stmt_keeps a exits w d la typed.1 is of_a (record { way = λ o e. ways.way o (or_first (leads a o) (leads b o) e) }))
          (record { over = λ u h. (second, (d, (first, last.over u h))) })))
      stmt_keeps (plain.loop true test step body) exits w d l typed is a ways =
          let n : ℕ = 3 + labels test + maybe_labels step in
          let lb : ℕ = l + 3 + labels test + maybe_labels step in
          let inner : Ways = in_loop (l + 1) (l + 2) w in
          let own : A d l n = flat d l lb n (n + stmt_labels body) (λ k. depth body d lb k) a.each (omega arith) (omega arith) in
          let first : at_label l ≡ d = at d l n l (omega arith) (omega arith) own in
          let second : at_label (l + 1) ≡ d = at d l n (l + 1) (omega arith) (omega arith) own in
          let third : at_label (l + 2) ≡ d = at d l n (l + 2) (omega arith) (omega arith) own in
          let of_body : DepthsAre body d lb = record { each = λ k ge lt. a.each k (omega (arith, ge)) (omega (arith, lt)) ∙ high k lb d (depth body d lb k) ge } in
          let ct : List Mid = expr_code p types checks spots test base (l + 3) in
          let z : List Mid = zero_code Eq (is_wide (held p types test)) base (l + 1) in
          let cb : List Mid = stmt_code p types checks spots base body inner lb in
          let cs : List Mid = step_code p types checks spots base step (l + 3 + labels test) in
          let last : List Mid = Label (l + 2) ∷ (cs ++ Jump l ∷ Label (l + 1) ∷ []) in
          let steps : K d (cs ++ Jump l ∷ Label (l + 1) ∷ []) =
          both d cs (Jump l ∷ Label (l + 1) ∷ []) (step_keeps step d (l + 3 + labels test) (fewer d l n (l + 3 + labels test) (maybe_labels step) (omega arith) (omega arith) own)) (record { over = λ u h. (first, (d, (second, h))) }) in
          let turn : K d (ct ++ (z ++ (cb ++ last))) =
          both d ct (z ++ (cb ++ last)) (expr_keeps test d base (l + 3) (fewer d l n (l + 3) (labels test) (omega arith) (omega arith) own))
          (both d z (cb ++ last) (zero_keeps d Eq (is_wide (held p types test)) base (l + 1) second)
          (both d cb last (stmt_keeps body (formed.in_loop exits) inner d lb typed.2 is of_body (loop_ways d (leads body) w (l + 1) (l + 2) second third (λ e. ways.way returning e))) (record { over = λ u h. (third, steps.over u h) }))) in
          record { over = λ u h. (first, turn.over u h) }
      stmt_keeps (plain.loop false test step body) exits w d l typed is a ways =
          let n : ℕ = 3 + labels test + maybe_labels step in
          let lb : ℕ = l + 3 + labels test + maybe_labels step in
          let inner : Ways = in_loop (l + 1) (l + 2) w in
          let own : A d l n = flat d l lb n (n + stmt_labels body) (λ k. depth body d lb k) a.each (omega arith) (omega arith) in
          let first : at_label l ≡ d = at d l n l (omega arith) (omega arith) own in
          let second : at_label (l + 1) ≡ d = at d l n (l + 1) (omega arith) (omega arith) own in
          let third : at_label (l + 2) ≡ d = at d l n (l + 2) (omega arith) (omega arith) own in
          let of_body : DepthsAre body d lb = record { each = λ k ge lt. a.each k (omega (arith, ge)) (omega (arith, lt)) ∙ high k lb d (depth body d lb k) ge } in
          let ct : List Mid = expr_code p types checks spots test base (l + 3) in
          let z : List Mid = zero_code Ne (is_wide (held p types test)) base l in
          let cb : List Mid = stmt_code p types checks spots base body inner lb in
          let tests : K d (ct ++ (z ++ Label (l + 1) ∷ [])) =
          both d ct (z ++ Label (l + 1) ∷ []) (expr_keeps test d base (l + 3) (fewer d l n (l + 3) (labels test) (omega arith) (omega arith) own))
          (both d z (Label (l + 1) ∷ []) (zero_keeps d Ne (is_wide (held p types test)) base l first) (record { over = λ u h. (second, h) })) in
          let turn : K d (cb ++ (Label (l + 2) ∷ (ct ++ (z ++ Label (l + 1) ∷ [])))) =
          both d cb (Label (l + 2) ∷ (ct ++ (z ++ Label (l + 1) ∷ [])))
          (stmt_keeps body (formed.in_loop exits) inner d lb typed.2 is of_body (loop_ways d (leads body) w (l + 1) (l + 2) second third (λ e. ways.way returning e))) (record { over = λ u h. (third, tests.over u h) }) in
          record { over = λ u h. (first, turn.over u h) }
      stmt_keeps (plain.switch e cases list) exits w d l typed is a ways =
          let count : ℕ = count_stmts list in
          let n : ℕ = 1 + count + labels e in
          let ls : ℕ = l + 1 + count + labels e in
          let inner : Ways = in_switch l w in
          let own : A d l n = flat d l ls n (n + stmts_labels list) (λ k. depths list d ls k) a.each (omega arith) (omega arith) in
          let out : at_label l ≡ d = at d l n l (omega arith) (omega arith) own in
          let starts : (k : ℕ) → k < count → at_label (l + 1 + k) ≡ d = (λ k lt. at d l n (l + 1 + k) (omega arith) (omega (arith, lt)) own) in
          let of_list : AllDepthsAre list d ls = record { each = λ k ge lt. a.each k (omega (arith, ge)) (omega (arith, lt)) ∙ high k ls d (depths list d ls k) ge } in
          let ct : List Mid = expr_code p types checks spots e base (l + 1 + count) in
          let z : List Mid = cases_code (held p types e) cases (start_of_default cases) base l in
          let cs : List Mid = switch_code p types checks spots base list inner (l + 1) ls in
          both d ct (z ++ (cs ++ Label l ∷ [])) (expr_keeps e d base (l + 1 + count) (fewer d l n (l + 1 + count) (labels e) (omega arith) (omega arith) own))
          (both d z (cs ++ Label l ∷ []) (cases_keep d (held p types e) cases (start_of_default cases) base l count starts (default_at d cases (start_of_default cases) l count refl typed.1 out starts) typed.1)
          (both d cs (Label l ∷ [])
          (switch_keeps list (formed.in_switch exits) inner d (l + 1) ls typed.2 is of_list (switch_ways d (some_leads list) w l out (λ q. ways.way returning q) (λ q. ways.way continuing q)) starts) (record { over = λ u h. (out, h) })))
      stmt_keeps plain.break exits w d l typed is a ways = record { over = λ u h. way_stands d d w (base + 2) breaking u (ways.way breaking refl) h }
      stmt_keeps plain.continue exits w d l typed is a ways = record { over = λ u h. way_stands d d w (base + 2) continuing u (ways.way continuing refl) h }
      stmt_keeps (plain.return e) exits w d l typed is a ways =
          both d (returned_code p types checks spots base e w l) (way_out w (base + 2) returning ∷ []) (returned_keeps e w d l (record { each = λ k ge lt. a.each k ge lt }))
          (record { over = λ u h. way_stands d d w (base + 2) returning u (ways.way returning refl) h })
      stmt_keeps (plain.atomic s) exits w d l typed is a ways =
          let exit_at : (k j : ℕ) → k ≡ l + j → j < 6 → at_label k ≡ at_exit d j =
          (λ k j e lt.
          (let same : k - l ≡ j = omega (arith, e) in
          a.each k (omega (arith, e)) (omega (arith, e, lt)) ∙ low k (l + 6) (at_exit d (k - l)) (depth s (suc d) (l + 6) k) (omega (arith, e, lt)) ∙ ap (at_exit d) same)) in
          let of_s : DepthsAre s (suc d) (l + 6) = record { each = λ k ge lt. a.each k (omega (arith, ge)) (omega (arith, lt)) ∙ high k (l + 6) (at_exit d (k - l)) (depth s (suc d) (l + 6) k) ge } in
          let cs : List Mid = stmt_code p types checks spots base s (in_atomic l w) (l + 6) in
          let x1 : List Mid = exit_code (leads s returning) w.status l (way_out w (base + 2) returning) in
          let x2 : List Mid = exit_code (leads s breaking) w.status (l + 2) (way_out w (base + 2) breaking) in
          let x3 : List Mid = exit_code (leads s continuing) w.status (l + 4) (way_out w (base + 2) continuing) in
          let i1 : at_label l ≡ suc d = exit_at l 0 (omega arith) (omega arith) in
          let i2 : at_label (l + 2) ≡ suc d = exit_at (l + 2) 2 (omega arith) (omega arith) in
          let i3 : at_label (l + 4) ≡ suc d = exit_at (l + 4) 4 (omega arith) (omega arith) in
          let leaves : K d (x1 ++ (x2 ++ x3)) =
          both d x1 (x2 ++ x3) (exit_keeps d (leads s returning) l w (base + 2) returning is i1 (exit_at (l + 1) 1 (omega arith) (omega arith)) (λ q. ways.way returning q))
          (both d x2 x3 (exit_keeps d (leads s breaking) (l + 2) w (base + 2) breaking is i2 (exit_at (l + 2 + 1) 3 (omega arith) (omega arith)) (λ q. ways.way breaking q))
          (exit_keeps d (leads s continuing) (l + 4) w (base + 2) continuing is i3 (exit_at (l + 4 + 1) 5 (omega arith) (omega arith)) (λ q. ways.way continuing q))) in
          let within : K (suc d) cs = stmt_keeps s exits (in_atomic l w) (suc d) (l + 6) typed (omega (arith, is)) of_s (atomic_ways (suc d) (leads s) w l i1 i2 i3) in
          record {
            over = λ u h. (is, subst (M (suc d)) (sym (append_assoc cs (End w.status ∷ (x1 ++ (x2 ++ x3))) u)) (within.over (End w.status ∷ ((x1 ++ (x2 ++ x3)) ++ u)) (d, refl, is, leaves.over u h)));
          }
      stmt_keeps (plain.clear x) exits w d l typed is a ways =
          zero_local_keeps d (slice_get spots x) (slice_index_or types x plain.void) (size_of p (slice_index_or types x plain.void)) base l (record { each = λ k ge lt. a.each k ge lt })
      stmt_keeps (plain.here arguments first count body) exits w d l typed is a ways =
          let gives : Bool = gives_value body in
          let inner : Ways = in_here l (here_gives p types checks spots base gives (first + count)) w in
          let args : ℕ = count_exprs arguments in
          let la : ℕ = all_labels arguments in
          let n : ℕ = 1 + la + 2 * count in
          let lb : ℕ = l + 1 + la + 2 * count in
          let own : A d l n = flat d l lb n (n + stmt_labels body) (λ k. depth body d lb k) a.each (omega arith) (omega arith) in
          let out : at_label l ≡ d = at d l n l (omega arith) (omega arith) own in
          let of_body : DepthsAre body d lb = record { each = λ k ge lt. a.each k (omega (arith, ge)) (omega (arith, lt)) ∙ high k lb d (depth body d lb k) ge } in
          let ca : List Mid = enter_code p types checks spots base arguments first (l + 1) in
          let cw : List Mid = clears_code p types checks spots base (count - args) (first + args) (l + 1 + la) in
          let cb : List Mid = stmt_code p types checks spots base body inner lb in
          let cn : List Mid = nothing_code inner.gives (base + 2) in
          let cr : List Mid = result_code p types checks spots base gives (first + count) in
          let results : K d cr = result_keeps gives d (first + count) in
          let called : K d (cb ++ (cn ++ (Label l ∷ Tick ∷ cr))) =
          both d cb (cn ++ (Label l ∷ Tick ∷ cr))
          (stmt_keeps body (by_result p types first count) inner d lb typed.1 is of_body (here_ways d (leads body) w l (here_gives p types checks spots base gives (first + count)) out))
          (both d cn (Label l ∷ Tick ∷ cr) (nothing_keeps d inner.gives (base + 2)) (record { over = λ u h. (out, results.over u h) })) in
          both d ca (cw ++ (Tick ∷ (cb ++ (cn ++ (Label l ∷ Tick ∷ cr))))) (enter_keeps arguments d first (l + 1) (fewer d l n (l + 1) la (omega arith) (omega arith) own))
          (both d cw (Tick ∷ (cb ++ (cn ++ (Label l ∷ Tick ∷ cr)))) (clears_keep (count - args) d (first + args) (l + 1 + la) (fewer d l n (l + 1 + la) (2 * (count - args)) (omega arith) (omega arith) own))
          (record { over = λ u h. called.over u h }))

      stmts_keep : (list : Stmts) (exits : Exits) (w : Ways) (d l : ℕ) → AreStmts p types list exits → w.status ≡ start + 2 * d → AllDepthsAre list d l → WaysAre d (some_leads list) w → K d (stmts_code p types checks spots base list w l)
      stmts_keep no_stmts exits w d l typed is a ways = record { over = λ u h. h }
      stmts_keep (more_stmts s rest) exits w d l typed is a ways =
          both d (stmt_code p types checks spots base s w l) (stmts_code p types checks spots base rest w (l + stmt_labels s))
          (stmt_keeps s exits w d l typed.0 is (first_of s rest d l a) (record { way = λ o e. ways.way o (or_first (leads s o) (some_leads rest o) e) }))
          (stmts_keep rest exits w d (l + stmt_labels s) typed.1 is (others_of s rest d l a) (record { way = λ o e. ways.way o (or_second (leads s o) (some_leads rest o) e) }))

      switch_keeps : (list : Stmts) (exits : Exits) (w : Ways) (d j l : ℕ) → AreStmts p types list exits → w.status ≡ start + 2 * d → AllDepthsAre list d l → WaysAre d (some_leads list) w →
          ((k : ℕ) → k < count_stmts list → at_label (j + k) ≡ d) → K d (switch_code p types checks spots base list w j l)
      switch_keeps no_stmts exits w d j l typed is a ways starts = record { over = λ u h. h }
      switch_keeps (more_stmts s rest) exits w d j l typed is a ways starts =
          let here : j ≡ j + 0 = omega arith in
          let first : at_label j ≡ d = ap at_label here ∙ starts 0 (omega arith) in
          let next : (k : ℕ) → k < count_stmts rest → at_label (suc j + k) ≡ d = (λ k lt. (let e : suc j + k ≡ j + suc k = omega arith in ap at_label e ∙ starts (suc k) (omega (arith, lt)))) in
          let each : K d (stmt_code p types checks spots base s w l ++ switch_code p types checks spots base rest w (suc j) (l + stmt_labels s)) =
          both d (stmt_code p types checks spots base s w l) (switch_code p types checks spots base rest w (suc j) (l + stmt_labels s))
          (stmt_keeps s exits w d l typed.0 is (first_of s rest d l a) (record { way = λ o e. ways.way o (or_first (leads s o) (some_leads rest o) e) }))
          (switch_keeps rest exits w d (suc j) (l + stmt_labels s) typed.1 is (others_of s rest d l a) (record { way = λ o e. ways.way o (or_second (leads s o) (some_leads rest o) e) })
          next) in
          record { over = λ u h. (first, each.over u h) }
