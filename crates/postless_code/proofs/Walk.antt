-- The code of expressions and statements whose posts are calls has no Post, in whatever program it stands.
use Rattle.std.proofs.Common.{◌≡◌, ℕ, zero, suc, ◌+◌, ◌-◌, ◌*◌, Bool, true, false, List, [], ◌∷◌, ◌++◌, Option, Some, None, refl}
use Rattle.std.specs.Prelude.{pos, if◌then◌else◌, slice_get, slice_index_or}
use Rattle.nm_base.specs.declared.int_type.IntType.{IntType}
use Rattle.nesc_core.specs.Plain.{Ty, Expr, Exprs, no_exprs, more_exprs, Place, Stmt, Stmts, Case, no_stmts, more_stmts, Program}
use Rattle.nesc_core.specs.Plain as plain
use Rattle.nesc_core.specs.Heres.{gives_value}
use Rattle.nesc_core.specs.PlaceTypes.{place_type, element_of, count_of}
use Rattle.nesc_core.specs.WellFormed.{count_exprs, count_stmts}
use Rattle.core_meaning.specs.Flow.{start_of_default}
use Rattle.core_meaning.specs.Layout.{size_of}
use Rattle.core_meaning.specs.Work.{number_of}
use Rattle.mid_code.specs.declared.instr.Mid.{Mid}
use Rattle.mid_code.specs.declared.instr.Mid.TheVariants.{Begin, End, Jump, Label, Set, Tick}
use Rattle.mid_code.specs.declared.instr.Test.TheVariants.{Eq, Ne}
use Rattle.mid_code.specs.Help.{is_wide}
use Rattle.lower_expr.specs.declared.spot.Spot.{Spot}
use Rattle.lower_expr.specs.Held.{held}
use Rattle.lower_expr.specs.Pieces.{binary_code, convert_code, move_code, truth_code, zero_code}
use Rattle.lower_expr.specs.Code.{Kind, all_labels, args_code, expr_code, fetch_code, is_void, kind_of, kind_of_spot, labels, local_code, place_code, place_labels, put_code}
use Rattle.lower_stmt.specs.Code.{WayOut, Ways, back, breaking, case_code, cases_code, clear_code, clears_code, continuing, enter_code, exit_code, exits_code, here_gives, in_atomic, in_here, in_loop, in_switch, kept_code, label_of, leads, maybe_labels, nothing_code, result_code, returned_code, returning, step_code, stmt_code, stmt_labels, stmts_code, switch_code, way_out}
use Rattle.task_queue.specs.Posting.{posting_expr, posting_exprs, posting_maybe, posting_place, posting_stmt, posting_stmts}
use Rattle.postless_code.proofs.Pieces.{IsFree, address_free, before, binary_free, both, case_free, const_free, convert_free, distance_free, either, element_free, fetch_free, is_other, local_free, move_free, offset_free, put_free, unary_free, zero_free, zeros_free}

-- ---- expressions

module _ (p : Program) (types checks : List Ty) (spots : List Spot) (queue : ℕ) where
  abbrev E : Expr → Expr
  E e = posting_expr queue e

  abbrev P : Place → Place
  P place = posting_place queue place

  abbrev code : Expr → (r l : ℕ) → List Mid
  code e r l = expr_code p types checks spots (posting_expr queue e) r l

  abbrev at_place : Place → (r l : ℕ) → List Mid
  at_place place r l = place_code p types checks spots (posting_place queue place) r l

  abbrev wide : Expr → Bool
  wide e = is_wide (held p types (posting_expr queue e))

  abbrev kind : Place → Kind
  kind place = kind_of p types checks spots (posting_place queue place)

  abbrev number : Place → IntType
  number place = number_of (place_type p types (posting_place queue place))

  mutual
    place_free : (place : Place) (r l : ℕ) → IsFree (place_code p types checks spots (posting_place queue place) r l)
    place_free (plain.object k) r l = record { none = refl }
    place_free (plain.local x) r l = local_free (slice_get spots x) r
    place_free (plain.deref e t) r l = both (code e r l) _ (expr_free e r l) (record { none = refl })
    place_free (plain.index place e) r l =
        both (at_place place r (l + 2)) _ (place_free place r (l + 2))
        (both (code e (r + 2) (l + 2 + place_labels (P place))) _ (expr_free e (r + 2) (l + 2 + place_labels (P place)))
        (element_free (held p types (E e)) (count_of (place_type p types (P place))) (size_of p (element_of (place_type p types (P place)))) r l))
    place_free (plain.field place k) r l = both (at_place place r l) _ (place_free place r l) (record { none = refl })

    pub expr_free : (e : Expr) (r l : ℕ) → IsFree (expr_code p types checks spots (posting_expr queue e) r l)
    expr_free (plain.const t x) r l = const_free t x r
    expr_free plain.null r l = record { none = refl }
    expr_free (plain.read place at) r l = both (at_place place r l) _ (place_free place r l) (fetch_free (kind place) (number place) r r)
    expr_free (plain.addr place) r l = both (at_place place r l) _ (place_free place r l) (address_free (kind place) r)
    expr_free (plain.un op t e) r l = both (code e r (l + 2)) _ (expr_free e r (l + 2)) (unary_free op (is_wide t) r l)
    expr_free (plain.bin op t a b) r l =
        both (code a r (l + 3)) _ (expr_free a r (l + 3))
        (both (code b (r + 2) (l + 3 + labels (E a))) _ (expr_free b (r + 2) (l + 3 + labels (E a))) (binary_free op t (held p types (E b)) r l))
    expr_free (plain.convert t e) r l = both (code e r (l + 1)) _ (expr_free e r (l + 1)) (convert_free (held p types (E e)) t r l)
    expr_free (plain.offset a b size) r l =
        both (code a r l) _ (expr_free a r l) (both (code b (r + 2) (l + labels (E a))) _ (expr_free b (r + 2) (l + labels (E a))) (offset_free size r))
    expr_free (plain.distance a b size) r l =
        both (code a r l) _ (expr_free a r l) (both (code b (r + 2) (l + labels (E a))) _ (expr_free b (r + 2) (l + labels (E a))) (distance_free size r))
    expr_free (plain.both a b) r l =
        both (code a r (l + 2)) _ (expr_free a r (l + 2))
        (both (zero_code Eq (wide a) r l) _ (zero_free Eq (wide a) r l)
        (both (code b r (l + 2 + labels (E a))) _ (expr_free b r (l + 2 + labels (E a)))
        (both (zero_code Eq (wide b) r l) (Set r 1 ∷ Jump (l + 1) ∷ Label l ∷ Set r 0 ∷ Label (l + 1) ∷ []) (zero_free Eq (wide b) r l) (record { none = refl }))))
    expr_free (plain.either a b) r l =
        both (code a r (l + 2)) _ (expr_free a r (l + 2))
        (both (zero_code Ne (wide a) r l) _ (zero_free Ne (wide a) r l)
        (both (code b r (l + 2 + labels (E a))) _ (expr_free b r (l + 2 + labels (E a)))
        (both (zero_code Ne (wide b) r l) (truth_code r l) (zero_free Ne (wide b) r l) (record { none = refl }))))
    expr_free (plain.choice test a b) r l =
        both (code test r (l + 2)) _ (expr_free test r (l + 2))
        (both (zero_code Eq (wide test) r l) _ (zero_free Eq (wide test) r l)
        (both (code a r (l + 2 + labels (E test))) _ (expr_free a r (l + 2 + labels (E test)))
        (before (Jump (l + 1)) _ refl (before (Label l) _ refl
        (both (code b r (l + 2 + labels (E test) + labels (E a))) (Label (l + 1) ∷ []) (expr_free b r (l + 2 + labels (E test) + labels (E a))) (record { none = refl }))))))
    expr_free (plain.assign place e at) r l =
        both (at_place place r l) _ (place_free place r l)
        (both (code e (r + 2) (l + place_labels (P place))) _ (expr_free e (r + 2) (l + place_labels (P place)))
        (both (put_code (kind place) (number place) (r + 2) r) _ (put_free (kind place) (number place) (r + 2) r) (move_free (is_wide (number place)) r (r + 2))))
    expr_free (plain.update place op t e gives_old at) r l =
        let of : IntType = number place in
        let s : IntType = held p types (E e) in
        both (at_place place r (l + 5)) _ (place_free place r (l + 5))
        (both (fetch_code (kind place) of (r + 2) r) _ (fetch_free (kind place) of (r + 2) r)
        (both (code e (r + 4) (l + 5 + place_labels (P place))) _ (expr_free e (r + 4) (l + 5 + place_labels (P place)))
        (both (move_code (is_wide of) (r + 6) (r + 2)) _ (move_free (is_wide of) (r + 6) (r + 2))
        (both (convert_code of t (r + 6) l) _ (convert_free of t (r + 6) l)
        (both (move_code (is_wide s) (r + 8) (r + 4)) _ (move_free (is_wide s) (r + 8) (r + 4))
        (both (binary_code op t s (r + 6) (l + 1)) _ (binary_free op t s (r + 6) (l + 1))
        (both (convert_code t of (r + 6) (l + 4)) _ (convert_free t of (r + 6) (l + 4))
        (both (put_code (kind place) of (r + 6) r) _ (put_free (kind place) of (r + 6) r) (move_free (is_wide of) r (if gives_old then r + 2 else r + 6))))))))))
    expr_free (plain.call f arguments at) r l = both (args_code p types checks spots (posting_exprs queue arguments) r l) _ (args_free arguments r l) (record { none = refl })
    expr_free (plain.post k) r l = record { none = refl }
    expr_free (plain.port_in port) r l = record { none = refl }
    expr_free (plain.port_out port e) r l = both (code e r l) _ (expr_free e r l) (record { none = refl })
    expr_free (plain.comma a b) r l = both (code a r l) _ (expr_free a r l) (expr_free b r (l + labels (E a)))

    args_free : (es : Exprs) (r l : ℕ) → IsFree (args_code p types checks spots (posting_exprs queue es) r l)
    args_free no_exprs r l = record { none = refl }
    args_free (more_exprs e rest) r l = both (code e r l) _ (expr_free e r l) (args_free rest (r + 2) (l + labels (E e)))

-- ---- statements

pub nothing_free : (ty : Ty) (r : ℕ) → IsFree (nothing_code ty r)
nothing_free ty r = either (is_void ty) _ _ (record { none = refl }) (const_free (number_of ty) (pos 0) r)

back_other : (o : Option ℕ) (ty : Ty) (r : ℕ) → is_other (back o ty r) ≡ true
back_other None ty r = refl
back_other (Some l) ty r = refl

way_other : (w : Ways) (r : ℕ) (out : WayOut) → is_other (way_out w r out) ≡ true
way_other w r returning = back_other w.return_to w.gives r
way_other w r breaking = refl
way_other w r continuing = refl

exit_free : (b : Bool) (o l : ℕ) (w : Ways) (r : ℕ) (out : WayOut) → IsFree (exit_code b o l (way_out w r out))
exit_free true o l w r out = before (Jump (l + 1)) _ refl (before (Label l) _ refl (before (End o) _ refl (before (way_out w r out) (Label (l + 1) ∷ []) (way_other w r out) (record { none = refl }))))
exit_free false o l w r out = record { none = refl }

exits_free : (may : WayOut → Bool) (w : Ways) (r l : ℕ) → IsFree (exits_code may w r l)
exits_free may w r l =
    both (exit_code (may returning) w.status l (way_out w r returning)) _ (exit_free (may returning) w.status l w r returning)
    (both (exit_code (may breaking) w.status (l + 2) (way_out w r breaking)) (exit_code (may continuing) w.status (l + 4) (way_out w r continuing))
    (exit_free (may breaking) w.status (l + 2) w r breaking) (exit_free (may continuing) w.status (l + 4) w r continuing))

cases_free : (t : IntType) (cases : List Case) (default : Option ℕ) (r l : ℕ) → IsFree (cases_code t cases default r l)
cases_free t [] default r l = record { none = refl }
cases_free t (c ∷ cases) default r l =
    both (case_code t c.value r (label_of (Some c.start) l)) (cases_code t cases default r l) (case_free t c.value r (label_of (Some c.start) l)) (cases_free t cases default r l)

module _ (p : Program) (types checks : List Ty) (spots : List Spot) (base queue : ℕ) where
  abbrev own : Expr → (r l : ℕ) → List Mid
  own e r l = expr_code p types checks spots (posting_expr queue e) r l

  of_expr : (e : Expr) (r l : ℕ) → IsFree (expr_code p types checks spots (posting_expr queue e) r l)
  of_expr e r l = expr_free p types checks spots queue e r l

  of_step : (e : Option Expr) (l : ℕ) → IsFree (step_code p types checks spots base (posting_maybe queue e) l)
  of_step None l = record { none = refl }
  of_step (Some e) l = of_expr e base l

  of_returned : (e : Option Expr) (w : Ways) (l : ℕ) → IsFree (returned_code p types checks spots base (posting_maybe queue e) w l)
  of_returned None w l = nothing_free w.gives (base + 2)
  of_returned (Some e) w l = of_expr e (base + 2) l

  of_kept : (ty : Ty) (x : ℕ) (work : List Mid) → IsFree work → IsFree (kept_code p types checks spots base ty (slice_get spots x) work)
  of_kept ty x work h =
      let o : Option Spot = slice_get spots x in
      either (is_void ty) _ _ h
      (both (local_code o base) (work ++ put_code (kind_of_spot o) (number_of ty) (base + 2) base) (local_free o base)
      (both work (put_code (kind_of_spot o) (number_of ty) (base + 2) base) h (put_free (kind_of_spot o) (number_of ty) (base + 2) base)))

  of_enter : (es : Exprs) (x l : ℕ) → IsFree (enter_code p types checks spots base (posting_exprs queue es) x l)
  of_enter no_exprs x l = record { none = refl }
  of_enter (more_exprs e rest) x l =
      both (kept_code p types checks spots base (slice_index_or types x plain.void) (slice_get spots x) (own e (base + 2) l)) (enter_code p types checks spots base (posting_exprs queue rest) (x + 1) (l + labels (posting_expr queue e)))
      (of_kept (slice_index_or types x plain.void) x (own e (base + 2) l) (of_expr e (base + 2) l)) (of_enter rest (x + 1) (l + labels (posting_expr queue e)))

  of_clear : (x l : ℕ) → IsFree (clear_code p types checks spots base x l)
  of_clear x l = zeros_free (slice_get spots x) (slice_index_or types x plain.void) (size_of p (slice_index_or types x plain.void)) base l

  of_clears : (count x l : ℕ) → IsFree (clears_code p types checks spots base count x l)
  of_clears zero x l = record { none = refl }
  of_clears (suc count) x l =
      both (clear_code p types checks spots base x l) (clears_code p types checks spots base count (x + 1) (l + 2)) (of_clear x l) (of_clears count (x + 1) (l + 2))

  of_result : (b : Bool) (x : ℕ) → IsFree (result_code p types checks spots base b x)
  of_result false x = record { none = refl }
  of_result true x = of_kept (slice_index_or types x plain.void) x [] (record { none = refl })

  abbrev S : Stmt → Stmt
  S s = posting_stmt queue s

  abbrev run : Stmt → Ways → ℕ → List Mid
  run s w l = stmt_code p types checks spots base (posting_stmt queue s) w l

  mutual
    pub stmt_free : (s : Stmt) (w : Ways) (l : ℕ) → IsFree (stmt_code p types checks spots base (posting_stmt queue s) w l)
    stmt_free (plain.eval e) w l = of_expr e base l
    stmt_free (plain.block list) w l = stmts_free list w l
    stmt_free (plain.branch test a b) w l =
        let t : ℕ = labels (posting_expr queue test) in
        let ca : List Mid = run a w (l + 2 + t) in
        let cb : List Mid = run b w (l + 2 + t + stmt_labels (S a)) in
        let z : List Mid = zero_code Eq (is_wide (held p types (posting_expr queue test))) base l in
        both (own test base (l + 2)) (z ++ (ca ++ (Jump (l + 1) ∷ Label l ∷ (cb ++ Label (l + 1) ∷ [])))) (of_expr test base (l + 2))
        (both z (ca ++ (Jump (l + 1) ∷ Label l ∷ (cb ++ Label (l + 1) ∷ []))) (zero_free Eq (is_wide (held p types (posting_expr queue test))) base l)
        (both ca (Jump (l + 1) ∷ Label l ∷ (cb ++ Label (l + 1) ∷ [])) (stmt_free a w (l + 2 + t))
        (before (Jump (l + 1)) (Label l ∷ (cb ++ Label (l + 1) ∷ [])) refl (before (Label l) (cb ++ Label (l + 1) ∷ []) refl
        (both cb (Label (l + 1) ∷ []) (stmt_free b w (l + 2 + t + stmt_labels (S a))) (record { none = refl }))))))
    stmt_free (plain.loop true test step body) w l =
        let t : ℕ = labels (posting_expr queue test) in
        let inner : Ways = in_loop (l + 1) (l + 2) w in
        let lb : ℕ = l + 3 + t + maybe_labels (posting_maybe queue step) in
        let cb : List Mid = run body inner lb in
        let cs : List Mid = step_code p types checks spots base (posting_maybe queue step) (l + 3 + t) in
        let z : List Mid = zero_code Eq (is_wide (held p types (posting_expr queue test))) base (l + 1) in
        let ct : List Mid = own test base (l + 3) in
        before (Label l) (Tick ∷ (ct ++ (z ++ (cb ++ (Label (l + 2) ∷ (cs ++ Jump l ∷ Label (l + 1) ∷ [])))))) refl
        (before Tick (ct ++ (z ++ (cb ++ (Label (l + 2) ∷ (cs ++ Jump l ∷ Label (l + 1) ∷ []))))) refl
        (both ct (z ++ (cb ++ (Label (l + 2) ∷ (cs ++ Jump l ∷ Label (l + 1) ∷ [])))) (of_expr test base (l + 3))
        (both z (cb ++ (Label (l + 2) ∷ (cs ++ Jump l ∷ Label (l + 1) ∷ []))) (zero_free Eq (is_wide (held p types (posting_expr queue test))) base (l + 1))
        (both cb (Label (l + 2) ∷ (cs ++ Jump l ∷ Label (l + 1) ∷ [])) (stmt_free body inner lb)
        (before (Label (l + 2)) (cs ++ Jump l ∷ Label (l + 1) ∷ []) refl (both cs (Jump l ∷ Label (l + 1) ∷ []) (of_step step (l + 3 + t)) (record { none = refl })))))))
    stmt_free (plain.loop false test step body) w l =
        let t : ℕ = labels (posting_expr queue test) in
        let inner : Ways = in_loop (l + 1) (l + 2) w in
        let lb : ℕ = l + 3 + t + maybe_labels (posting_maybe queue step) in
        let cb : List Mid = run body inner lb in
        let ct : List Mid = own test base (l + 3) in
        let z : List Mid = zero_code Ne (is_wide (held p types (posting_expr queue test))) base l in
        before (Label l) (Tick ∷ (cb ++ (Label (l + 2) ∷ (ct ++ (z ++ Label (l + 1) ∷ []))))) refl
        (before Tick (cb ++ (Label (l + 2) ∷ (ct ++ (z ++ Label (l + 1) ∷ [])))) refl
        (both cb (Label (l + 2) ∷ (ct ++ (z ++ Label (l + 1) ∷ []))) (stmt_free body inner lb)
        (before (Label (l + 2)) (ct ++ (z ++ Label (l + 1) ∷ [])) refl
        (both ct (z ++ Label (l + 1) ∷ []) (of_expr test base (l + 3))
        (both z (Label (l + 1) ∷ []) (zero_free Ne (is_wide (held p types (posting_expr queue test))) base l) (record { none = refl }))))))
    stmt_free (plain.switch e cases list) w l =
        let n : ℕ = count_stmts (posting_stmts queue list) in
        let t : IntType = held p types (posting_expr queue e) in
        let ls : ℕ = l + 1 + n + labels (posting_expr queue e) in
        let cs : List Mid = switch_code p types checks spots base (posting_stmts queue list) (in_switch l w) (l + 1) ls in
        let z : List Mid = cases_code t cases (start_of_default cases) base l in
        both (own e base (l + 1 + n)) (z ++ (cs ++ Label l ∷ [])) (of_expr e base (l + 1 + n))
        (both z (cs ++ Label l ∷ []) (cases_free t cases (start_of_default cases) base l)
        (both cs (Label l ∷ []) (switch_free list (in_switch l w) (l + 1) ls) (record { none = refl })))
    stmt_free plain.break w l = record { none = refl }
    stmt_free plain.continue w l = record { none = refl }
    stmt_free (plain.return e) w l =
        both (returned_code p types checks spots base (posting_maybe queue e) w l) (way_out w (base + 2) returning ∷ []) (of_returned e w l)
        (before (way_out w (base + 2) returning) [] (way_other w (base + 2) returning) (record { none = refl }))
    stmt_free (plain.atomic s) w l =
        let exits : List Mid = exits_code (leads (S s)) w (base + 2) l in
        let cs : List Mid = run s (in_atomic l w) (l + 6) in
        before (Begin w.status) (cs ++ (End w.status ∷ exits)) refl
        (both cs (End w.status ∷ exits) (stmt_free s (in_atomic l w) (l + 6)) (before (End w.status) exits refl (exits_free (leads (S s)) w (base + 2) l)))
    stmt_free (plain.clear x) w l = of_clear x l
    stmt_free (plain.here arguments first count body) w l =
        let gives : Bool = gives_value (S body) in
        let ways : Ways = in_here l (here_gives p types checks spots base gives (first + count)) w in
        let n : ℕ = count_exprs (posting_exprs queue arguments) in
        let la : ℕ = all_labels (posting_exprs queue arguments) in
        let cc1 : List Mid = clears_code p types checks spots base (count - n) (first + n) (l + 1 + la) in
        let cb : List Mid = run body ways (l + 1 + la + 2 * count) in
        let cn : List Mid = nothing_code ways.gives (base + 2) in
        let cr : List Mid = result_code p types checks spots base gives (first + count) in
        both (enter_code p types checks spots base (posting_exprs queue arguments) first (l + 1)) (cc1 ++ (Tick ∷ (cb ++ (cn ++ (Label l ∷ Tick ∷ cr))))) (of_enter arguments first (l + 1))
        (both cc1 (Tick ∷ (cb ++ (cn ++ (Label l ∷ Tick ∷ cr)))) (of_clears (count - n) (first + n) (l + 1 + la))
        (before Tick (cb ++ (cn ++ (Label l ∷ Tick ∷ cr))) refl
        (both cb (cn ++ (Label l ∷ Tick ∷ cr)) (stmt_free body ways (l + 1 + la + 2 * count))
        (both cn (Label l ∷ Tick ∷ cr) (nothing_free ways.gives (base + 2)) (before (Label l) (Tick ∷ cr) refl (before Tick cr refl (of_result gives (first + count))))))))

    stmts_free : (list : Stmts) (w : Ways) (l : ℕ) → IsFree (stmts_code p types checks spots base (posting_stmts queue list) w l)
    stmts_free no_stmts w l = record { none = refl }
    stmts_free (more_stmts s rest) w l =
        both (run s w l) (stmts_code p types checks spots base (posting_stmts queue rest) w (l + stmt_labels (S s))) (stmt_free s w l) (stmts_free rest w (l + stmt_labels (S s)))

    switch_free : (list : Stmts) (w : Ways) (k l : ℕ) → IsFree (switch_code p types checks spots base (posting_stmts queue list) w k l)
    switch_free no_stmts w k l = record { none = refl }
    switch_free (more_stmts s rest) w k l =
        before (Label k) (run s w l ++ switch_code p types checks spots base (posting_stmts queue rest) w (suc k) (l + stmt_labels (S s))) refl
        (both (run s w l) (switch_code p types checks spots base (posting_stmts queue rest) w (suc k) (l + stmt_labels (S s))) (stmt_free s w l) (switch_free rest w (suc k) (l + stmt_labels (S s))))
