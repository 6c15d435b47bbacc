-- The code of a body names values below two for each level and eight, from the first free one on, and those of locals.
use Rattle.std.proofs.Common.{◌≡◌, ℕ, zero, suc, ◌+◌, ◌-◌, ◌*◌, ◌<◌, ◌≤◌, Bool, true, false, List, [], ◌∷◌, ◌++◌, All, take, Option, Some, None, refl, subst, arith}
use Rattle.std.specs.Prelude.{⊤, ℤ, pos, slice_get, slice_index_or, if◌then◌else◌}
use Rattle.std.specs.Ordering.{int_eq}
use Rattle.std.proofs.lemmas.List.Elements.{All-append, All-cons, All-head, All-nil, All-tail}
use Rattle.nm_base.specs.declared.int_type.IntType.{IntType}
use Rattle.nm_base.specs.declared.int_type.IntType.TheVariants.{I8, U8, I16, U16, I32, U32}
use Rattle.nm_base.specs.IntType.{wrapped}
use Rattle.nesc_core.specs.Plain.{Ty, void, int, pointer, array, struct, Expr, Exprs, no_exprs, more_exprs, Stmt, Stmts, Case, no_stmts, more_stmts, Body, Program}
use Rattle.nesc_core.specs.Plain as plain
use Rattle.nesc_core.specs.Typing.{IsScalar}
use Rattle.nesc_core.specs.Heres.{gives_value}
use Rattle.nesc_core.specs.WellFormed.{IsBody, count_exprs, count_stmts}
use Rattle.nesc_core.specs.Weights.{expr_levels, greatest_levels, maybe_levels, stmt_levels, stmts_levels}
use Rattle.core_meaning.specs.Layout.{size_of}
use Rattle.core_meaning.specs.Work.{number_of}
use Rattle.core_meaning.specs.Flow.{start_of_default}
use Rattle.mid_code.specs.declared.instr.Mid.{Mid}
use Rattle.mid_code.specs.declared.instr.Mid.TheVariants.{Set, Move, Bin, Poke, Store, Label, Jump, Branch, Ret, Begin, End, Tick}
use Rattle.mid_code.specs.declared.instr.Op.{Op}
use Rattle.mid_code.specs.declared.instr.Op.TheVariants.{Add, Or, Xor}
use Rattle.mid_code.specs.declared.instr.Test.{Test}
use Rattle.mid_code.specs.declared.instr.Test.TheVariants.{Eq, Ne}
use Rattle.mid_code.specs.Form.{AreBelow}
use Rattle.mid_code.specs.Help.{is_wide}
use Rattle.lower_expr.specs.declared.spot.Regs.{Regs}
use Rattle.lower_expr.specs.declared.spot.Spot.{Spot}
use Rattle.lower_expr.specs.declared.spot.Spot.TheVariants.{Values, Frame}
use Rattle.lower_expr.specs.Held.{held}
use Rattle.lower_expr.specs.Pieces.{const_code, values_at, zero_code}
use Rattle.lower_expr.specs.Code.{all_labels, expr_code, is_void, keep_code, kind_of_spot, labels, local_code, poke_code, put_code, taken_at, value_named}
use Rattle.expr_emitter.specs.Laws.{AreRegsBelow, AreSpotsBelow, NamesBelow}
use Rattle.expr_emitter.proofs.Values.{names_below}
use Rattle.lower_stmt.specs.Code.{WayOut, Ways, breaking, continuing, returning, back, case_code, cases_code, clear_code, clears_code, enter_code, exit_code, exits_code, here_gives, in_atomic, in_here, in_loop, in_switch, kept_code, label_of, leads, maybe_labels, nothing_code, result_code, returned_code, same_code, step_code, stmt_code, stmt_labels, stmts_code, switch_code, way_out, zero_bytes_code, zero_local_code, zero_regs_code}
use Rattle.lower_stmt.specs.Bodies.{all_values, base_of, mid_fn_of, params_from, regs_from, spot_at, spots_from, spots_of, values_of, ways_of}
use Rattle.mid_code.specs.declared.code.MidFn.{MidFn}

-- a function names values that it has, in its code and as parameters
pub record NamesItsValues (fn : MidFn) : Type 0 where
  pub code : All (NamesBelow fn.values) fn.code
  pub params : AreBelow fn.values fn.params

module _ (n : ℕ) where
  -- each instruction names values below n
  abbrev Under : List Mid → Type 0
  Under [] = ⊤
  Under (i ∷ is) = NamesBelow n i × Under is

  under_both : (a b : List Mid) → Under a → Under b → Under (a ++ b)
  under_both [] b h g = g
  under_both (i ∷ a) b h g = (h.0, under_both a b h.1 g)

  from_all : (c : List Mid) → All (NamesBelow n) c → Under c
  from_all [] h = tt
  from_all (i ∷ c) h = (All-head (NamesBelow n) i c h, from_all c (All-tail (NamesBelow n) i c h))

  to_all : (c : List Mid) → Under c → All (NamesBelow n) c
  to_all [] h = All-nil (NamesBelow n)
  to_all (i ∷ c) h = All-cons (NamesBelow n) i c h.0 (to_all c h.1)

  none : AreBelow n []
  none = All-nil (λ v. v < n)

  one : (v : ℕ) → v < n → AreBelow n (v ∷ [])
  one v h = All-cons (λ v. v < n) v [] h none

  two : (v w : ℕ) → v < n → w < n → AreBelow n (v ∷ w ∷ [])
  two v w h g = All-cons (λ v. v < n) v (w ∷ []) h (one w g)

  set_under : (d x : ℕ) → d < n → NamesBelow n (Set d x)
  set_under d x h = record { written = one d h; read = none }

  move_under : (d x : ℕ) → d < n → x < n → NamesBelow n (Move d x)
  move_under d x h g = record { written = one d h; read = one x g }

  bin_under : (op : Op) (d x y : ℕ) → d < n → x < n → y < n → NamesBelow n (Bin op d x y)
  bin_under op d x y h g f = record { written = one d h; read = two x y g f }

  poke_under : (b : Bool) (v x : ℕ) → v < n → x < n → NamesBelow n (Poke b v x)
  poke_under b v x h g = record { written = none; read = two v x h g }

  store_under : (b : Bool) (v x : ℕ) → v < n → x < n → NamesBelow n (Store b v x)
  store_under b v x h g = record { written = none; read = two v x h g }

  branch_under : (test : Test) (x y l : ℕ) → x < n → y < n → NamesBelow n (Branch test x y l)
  branch_under test x y l h g = record { written = none; read = two x y h g }

  label_under : (l : ℕ) → NamesBelow n (Label l)
  label_under l = record { written = none; read = none }

  jump_under : (l : ℕ) → NamesBelow n (Jump l)
  jump_under l = record { written = none; read = none }

  begin_under : (o : ℕ) → NamesBelow n (Begin o)
  begin_under o = record { written = none; read = none }

  end_under : (o : ℕ) → NamesBelow n (End o)
  end_under o = record { written = none; read = none }

  tick_under : NamesBelow n Tick
  tick_under = record { written = none; read = none }

  values_under : (wide : Bool) (r : ℕ) → r + 2 ≤ n → AreBelow n (values_at wide r)
  values_under true r h = two r (r + 1) (omega (arith, h)) (omega (arith, h))
  values_under false r h = one r (omega (arith, h))

  if_under : (b : Bool) (x y : List Mid) → Under x → Under y → Under (if b then x else y)
  if_under true x y h g = h
  if_under false x y h g = g

  -- ---- pieces

  const_under : (t : IntType) (x : ℤ) (r : ℕ) → r + 2 ≤ n → Under (const_code t x r)
  const_under I8 x r h = (set_under r _ (omega (arith, h)), tt)
  const_under U8 x r h = (set_under r _ (omega (arith, h)), tt)
  const_under I16 x r h = (set_under r _ (omega (arith, h)), tt)
  const_under U16 x r h = (set_under r _ (omega (arith, h)), tt)
  const_under I32 x r h = (set_under r _ (omega (arith, h)), (set_under (r + 1) _ (omega (arith, h)), (tt)))
  const_under U32 x r h = (set_under r _ (omega (arith, h)), (set_under (r + 1) _ (omega (arith, h)), (tt)))

  zero_under : (test : Test) (wide : Bool) (r l : ℕ) → r + 3 ≤ n → Under (zero_code test wide r l)
  zero_under test true r l h =
      (bin_under Or r r (r + 1) (omega (arith, h)) (omega (arith, h)) (omega (arith, h)), (set_under (r + 2) 0 (omega (arith, h)), (branch_under test r (r + 2) l (omega (arith, h)) (omega (arith, h)), (tt))))
  zero_under test false r l h = (set_under (r + 2) 0 (omega (arith, h)), (branch_under test r (r + 2) l (omega (arith, h)) (omega (arith, h)), (tt)))

  nothing_under : (ty : Ty) (r : ℕ) → r + 2 ≤ n → Under (nothing_code ty r)
  nothing_under ty r h = if_under (is_void ty) [] (const_code (number_of ty) (pos 0) r) tt (const_under (number_of ty) (pos 0) r h)

  taken_under : (b wide : Bool) (r : ℕ) → r + 2 ≤ n → AreBelow n (if b then [] else values_at wide r)
  taken_under true wide r h = none
  taken_under false wide r h = values_under wide r h

  ret_under : (ty : Ty) (r : ℕ) → r + 2 ≤ n → NamesBelow n (Ret (taken_at ty r))
  ret_under ty r h = record { written = none; read = taken_under (is_void ty) (is_wide (number_of ty)) r h }

  way_under : (w : Ways) (r : ℕ) (out : WayOut) → r + 2 ≤ n → NamesBelow n (way_out w r out)
  way_under w r returning h = by w.return_to
    where
      by : (o : Option ℕ) → NamesBelow n (back o w.gives r)
      by None = ret_under w.gives r h
      by (Some l) = jump_under l
  way_under w r breaking h = jump_under w.break_to
  way_under w r continuing h = jump_under w.continue_to

  exit_under : (b : Bool) (o l : ℕ) (onward : Mid) → NamesBelow n onward → Under (exit_code b o l onward)
  exit_under true o l onward h = (jump_under (l + 1), (label_under l, (end_under o, (h, (label_under (l + 1), tt)))))
  exit_under false o l onward h = tt

  exits_under : (may : WayOut → Bool) (w : Ways) (r l : ℕ) → r + 2 ≤ n → Under (exits_code may w r l)
  exits_under may w r l h =
      under_both (exit_code (may returning) w.status l (way_out w r returning)) _ (exit_under (may returning) w.status l (way_out w r returning) (way_under w r returning h))
      (under_both (exit_code (may breaking) w.status (l + 2) (way_out w r breaking)) (exit_code (may continuing) w.status (l + 4) (way_out w r continuing))
      (exit_under (may breaking) w.status (l + 2) (way_out w r breaking) (way_under w r breaking h)) (exit_under (may continuing) w.status (l + 4) (way_out w r continuing) (way_under w r continuing h)))

  same_under : (wide : Bool) (r l : ℕ) → r + 4 ≤ n → Under (same_code wide r l)
  same_under true r l h = (
    bin_under Xor (r + 2) r (r + 2) (omega (arith, h)) (omega (arith, h)) (omega (arith, h)),
    (
      bin_under Xor (r + 3) (r + 1) (r + 3) (omega (arith, h)) (omega (arith, h)) (omega (arith, h)),
      (
        bin_under Or (r + 2) (r + 2) (r + 3) (omega (arith, h)) (omega (arith, h)) (omega (arith, h)),
        (set_under (r + 3) 0 (omega (arith, h)), (branch_under Eq (r + 2) (r + 3) l (omega (arith, h)) (omega (arith, h)), (tt))),
      ),
    ),
  )
  same_under false r l h = (branch_under Eq r (r + 2) l (omega (arith, h)) (omega (arith, h)), tt)

  case_under : (t : IntType) (o : Option ℤ) (r l : ℕ) → r + 4 ≤ n → Under (case_code t o r l)
  case_under t None r l h = tt
  case_under t (Some m) r l h =
      if_under (int_eq (wrapped t m) m) (const_code t m (r + 2) ++ same_code (is_wide t) r l) []
      (under_both (const_code t m (r + 2)) (same_code (is_wide t) r l) (const_under t m (r + 2) (omega (arith, h))) (same_under (is_wide t) r l h)) tt

  cases_under : (t : IntType) (cases : List Case) (default : Option ℕ) (r l : ℕ) → r + 4 ≤ n → Under (cases_code t cases default r l)
  cases_under t [] default r l h = (jump_under (label_of default l), tt)
  cases_under t (c ∷ cases) default r l h =
      under_both (case_code t c.value r (label_of (Some c.start) l)) (cases_code t cases default r l) (case_under t c.value r (label_of (Some c.start) l) h) (cases_under t cases default r l h)

  bytes_under : (size o r l : ℕ) → r + 4 ≤ n → Under (zero_bytes_code size o r l)
  bytes_under size o r l h = (
    set_under r o (omega (arith, h)),
    (
      set_under (r + 1) 0 (omega (arith, h)),
      (
        set_under (r + 2) (o + size) (omega (arith, h)),
        (
          set_under (r + 3) 1 (omega (arith, h)),
          (
            label_under l,
            (
              branch_under Eq r (r + 2) (l + 1) (omega (arith, h)) (omega (arith, h)),
              (
                poke_under false (r + 1) r (omega (arith, h)) (omega (arith, h)),
                (
                  bin_under Add r r (r + 3) (omega (arith, h)) (omega (arith, h)) (omega (arith, h)),
                  (
                    jump_under l,
                    (label_under (l + 1), (tt)),
                  ),
                ),
              ),
            ),
          ),
        ),
      ),
    ),
  )

  regs_under : (wide : Bool) (regs : Regs) → AreRegsBelow n regs → Under (zero_regs_code wide regs)
  regs_under true regs h = (set_under (value_named regs.low) 0 h.low, (set_under (value_named regs.high) 0 h.high, (tt)))
  regs_under false regs h = (set_under (value_named regs.low) 0 h.low, tt)

  keep_under : (wide : Bool) (regs : Regs) (v : ℕ) → AreRegsBelow n regs → v + 2 ≤ n → Under (keep_code wide regs v)
  keep_under true regs v h g = (move_under (value_named regs.low) v h.low (omega (arith, g)), (move_under (value_named regs.high) (v + 1) h.high (omega (arith, g)), (tt)))
  keep_under false regs v h g = (move_under (value_named regs.low) v h.low (omega (arith, g)), tt)

  poked_under : (t : IntType) (v r : ℕ) → v + 2 ≤ n → r + 2 ≤ n → Under (poke_code t v r)
  poked_under t v r h g =
      if_under (is_wide t) (Poke true v r ∷ Set (r + 1) 2 ∷ Bin Add (r + 1) r (r + 1) ∷ Poke true (v + 1) (r + 1) ∷ []) _ (
        poke_under true v r (omega (arith, h)) (omega (arith, g)),
        (
          set_under (r + 1) 2 (omega (arith, g)),
          (
            bin_under Add (r + 1) r (r + 1) (omega (arith, g)) (omega (arith, g)) (omega (arith, g)),
            (
              poke_under true (v + 1) (r + 1) (omega (arith, h)) (omega (arith, g)),
              (tt),
            ),
          ),
        ),
      )
      (poke_under _ v r (omega (arith, h)) (omega (arith, g)), tt)

  module _ (p : Program) (types checks : List Ty) (spots : List Spot) (base : ℕ) (below : AreSpotsBelow n spots) (room : base + 8 ≤ n) where
    -- a local that is set to 0, and one that gets a value
    local_zero_under : (o : Option Spot) (x : ℕ) (ty : Ty) (size l : ℕ) → slice_get spots x ≡ o → Under (zero_local_code o ty size base l)
    local_zero_under None x ty size l e = tt
    local_zero_under (Some (Values regs)) x ty size l e = regs_under (is_wide (number_of ty)) regs (below x regs e)
    local_zero_under (Some (Frame o)) x ty size l e = bytes_under size o base l (omega (arith, room))

    local_under : (o : Option Spot) → Under (local_code o base)
    local_under None = (set_under base 0 (omega (arith, room)), tt)
    local_under (Some (Values regs)) = tt
    local_under (Some (Frame o)) = (set_under base o (omega (arith, room)), tt)

    put_under : (o : Option Spot) (x : ℕ) (t : IntType) → slice_get spots x ≡ o → Under (put_code (kind_of_spot o) t (base + 2) base)
    put_under None x t e = poked_under t (base + 2) base (omega (arith, room)) (omega (arith, room))
    put_under (Some (Values regs)) x t e = keep_under (is_wide t) regs (base + 2) (below x regs e) (omega (arith, room))
    put_under (Some (Frame o)) x t e = poked_under t (base + 2) base (omega (arith, room)) (omega (arith, room))

    kept_under : (x : ℕ) (ty : Ty) (work : List Mid) → Under work → Under (kept_code p types checks spots base ty (slice_get spots x) work)
    kept_under x ty work h =
        if_under (is_void ty) work (local_code (slice_get spots x) base ++ (work ++ put_code (kind_of_spot (slice_get spots x)) (number_of ty) (base + 2) base)) h
        (under_both (local_code (slice_get spots x) base) (work ++ put_code (kind_of_spot (slice_get spots x)) (number_of ty) (base + 2) base) (local_under (slice_get spots x))
        (under_both work (put_code (kind_of_spot (slice_get spots x)) (number_of ty) (base + 2) base) h (put_under (slice_get spots x) x (number_of ty) refl)))

    expr_under : (e : Expr) (r l : ℕ) → r + (2 * expr_levels e + 6) ≤ n → Under (expr_code p types checks spots e r l)
    expr_under e r l h = from_all (expr_code p types checks spots e r l) (names_below p types checks spots e r l n below h)

    step_under : (e : Option Expr) (l : ℕ) → base + 2 * maybe_levels e + 8 ≤ n → Under (step_code p types checks spots base e l)
    step_under None l h = tt
    step_under (Some e) l h = expr_under e base l (omega (arith, h))

    returned_under : (e : Option Expr) (w : Ways) (l : ℕ) → base + 2 * maybe_levels e + 8 ≤ n → Under (returned_code p types checks spots base e w l)
    returned_under None w l h = nothing_under w.gives (base + 2) (omega (arith, room))
    returned_under (Some e) w l h = expr_under e (base + 2) l (omega (arith, h))

    enter_under : (es : Exprs) (x l : ℕ) → base + 2 * greatest_levels es + 8 ≤ n → Under (enter_code p types checks spots base es x l)
    enter_under no_exprs x l h = tt
    enter_under (more_exprs e rest) x l h =
        under_both (kept_code p types checks spots base (slice_index_or types x void) (slice_get spots x) (expr_code p types checks spots e (base + 2) l)) (enter_code p types checks spots base rest (x + 1) (l + labels e))
        (kept_under x (slice_index_or types x void) (expr_code p types checks spots e (base + 2) l) (expr_under e (base + 2) l (omega (arith, h)))) (enter_under rest (x + 1) (l + labels e) (omega (arith, h)))

    clear_under : (x l : ℕ) → Under (clear_code p types checks spots base x l)
    clear_under x l = local_zero_under (slice_get spots x) x (slice_index_or types x void) (size_of p (slice_index_or types x void)) l refl

    clears_under : (count x l : ℕ) → Under (clears_code p types checks spots base count x l)
    clears_under zero x l = tt
    clears_under (suc count) x l = under_both (clear_code p types checks spots base x l) (clears_code p types checks spots base count (x + 1) (l + 2)) (clear_under x l) (clears_under count (x + 1) (l + 2))

    result_under : (b : Bool) (x : ℕ) → Under (result_code p types checks spots base b x)
    result_under false x = tt
    result_under true x = kept_under x (slice_index_or types x void) [] tt

    mutual
      stmt_under : (s : Stmt) (w : Ways) (l : ℕ) → base + 2 * stmt_levels s + 8 ≤ n → Under (stmt_code p types checks spots base s w l)
      stmt_under (plain.eval e) w l h = expr_under e base l (omega (arith, h))
      stmt_under (plain.block list) w l h = stmts_under list w l h
      stmt_under (plain.branch test a b) w l h =
          let ca : List Mid = stmt_code p types checks spots base a w (l + 2 + labels test) in
          let cb : List Mid = stmt_code p types checks spots base b w (l + 2 + labels test + stmt_labels a) in
          let z : List Mid = zero_code Eq (is_wide (held p types test)) base l in
          under_both (expr_code p types checks spots test base (l + 2)) (z ++ (ca ++ (Jump (l + 1) ∷ Label l ∷ (cb ++ Label (l + 1) ∷ [])))) (expr_under test base (l + 2) (omega (arith, h)))
          (under_both z (ca ++ (Jump (l + 1) ∷ Label l ∷ (cb ++ Label (l + 1) ∷ []))) (zero_under Eq (is_wide (held p types test)) base l (omega (arith, room)))
          (under_both ca (Jump (l + 1) ∷ Label l ∷ (cb ++ Label (l + 1) ∷ [])) (stmt_under a w (l + 2 + labels test) (omega (arith, h)))
          (jump_under (l + 1), (label_under l, (under_both cb (Label (l + 1) ∷ []) (stmt_under b w (l + 2 + labels test + stmt_labels a) (omega (arith, h))) (label_under (l + 1), tt))))))
      stmt_under (plain.loop true test step body) w l h =
          let inner : Ways = in_loop (l + 1) (l + 2) w in
          let lb : ℕ = l + 3 + labels test + maybe_labels step in
          let cb : List Mid = stmt_code p types checks spots base body inner lb in
          let cs : List Mid = step_code p types checks spots base step (l + 3 + labels test) in
          let z : List Mid = zero_code Eq (is_wide (held p types test)) base (l + 1) in (
            label_under l,
            (
              tick_under,
              (
                  under_both (expr_code p types checks spots test base (l + 3)) (z ++ (cb ++ (Label (l + 2) ∷ (cs ++ Jump l ∷ Label (l + 1) ∷ [])))) (expr_under test base (l + 3) (omega (arith, h)))
                  (under_both z (cb ++ (Label (l + 2) ∷ (cs ++ Jump l ∷ Label (l + 1) ∷ []))) (zero_under Eq (is_wide (held p types test)) base (l + 1) (omega (arith, room)))
                  (under_both cb (Label (l + 2) ∷ (cs ++ Jump l ∷ Label (l + 1) ∷ [])) (stmt_under body inner lb (omega (arith, h)))
                  (label_under (l + 2), under_both cs (Jump l ∷ Label (l + 1) ∷ []) (step_under step (l + 3 + labels test) (omega (arith, h))) (jump_under l, (label_under (l + 1), (tt))))))),
            ),
          )
      stmt_under (plain.loop false test step body) w l h =
          let inner : Ways = in_loop (l + 1) (l + 2) w in
          let lb : ℕ = l + 3 + labels test + maybe_labels step in
          let cb : List Mid = stmt_code p types checks spots base body inner lb in
          let ct : List Mid = expr_code p types checks spots test base (l + 3) in
          let z : List Mid = zero_code Ne (is_wide (held p types test)) base l in (
            label_under l,
            (
              tick_under,
              (
                  under_both cb (Label (l + 2) ∷ (ct ++ (z ++ Label (l + 1) ∷ []))) (stmt_under body inner lb (omega (arith, h))) (
                    label_under (l + 2),
                    under_both ct (z ++ Label (l + 1) ∷ []) (expr_under test base (l + 3) (omega (arith, h)))
                        (under_both z (Label (l + 1) ∷ []) (zero_under Ne (is_wide (held p types test)) base l (omega (arith, room))) (label_under (l + 1), tt)),
                  )),
            ),
          )
      stmt_under (plain.switch e cases list) w l h =
          let ls : ℕ = l + 1 + count_stmts list + labels e in
          let cs : List Mid = switch_code p types checks spots base list (in_switch l w) (l + 1) ls in
          let z : List Mid = cases_code (held p types e) cases (start_of_default cases) base l in
          under_both (expr_code p types checks spots e base (l + 1 + count_stmts list)) (z ++ (cs ++ Label l ∷ [])) (expr_under e base (l + 1 + count_stmts list) (omega (arith, h)))
          (under_both z (cs ++ Label l ∷ []) (cases_under (held p types e) cases (start_of_default cases) base l (omega (arith, room)))
          (under_both cs (Label l ∷ []) (switch_under list (in_switch l w) (l + 1) ls (omega (arith, h))) (label_under l, tt)))
      stmt_under plain.break w l h = (way_under w (base + 2) breaking (omega (arith, room)), tt)
      stmt_under plain.continue w l h = (way_under w (base + 2) continuing (omega (arith, room)), tt)
      stmt_under (plain.return e) w l h =
          under_both (returned_code p types checks spots base e w l) (way_out w (base + 2) returning ∷ []) (returned_under e w l h) (way_under w (base + 2) returning (omega (arith, room)), tt)
      stmt_under (plain.atomic s) w l h =
          let exits : List Mid = End w.status ∷ exits_code (leads s) w (base + 2) l in
          (begin_under w.status, under_both (stmt_code p types checks spots base s (in_atomic l w) (l + 6)) exits (stmt_under s (in_atomic l w) (l + 6) h) (end_under w.status, exits_under (leads s) w (base + 2) l (omega (arith, room))))
      stmt_under (plain.clear x) w l h = clear_under x l
      stmt_under (plain.here arguments first count body) w l h =
          let gives : Bool = gives_value body in
          let ways : Ways = in_here l (here_gives p types checks spots base gives (first + count)) w in
          let k : ℕ = count_exprs arguments in
          let la : ℕ = all_labels arguments in
          let cc1 : List Mid = clears_code p types checks spots base (count - k) (first + k) (l + 1 + la) in
          let cb : List Mid = stmt_code p types checks spots base body ways (l + 1 + la + 2 * count) in
          let cn : List Mid = nothing_code ways.gives (base + 2) in
          let cr : List Mid = result_code p types checks spots base gives (first + count) in
          under_both (enter_code p types checks spots base arguments first (l + 1)) (cc1 ++ (Tick ∷ (cb ++ (cn ++ (Label l ∷ Tick ∷ cr))))) (enter_under arguments first (l + 1) (omega (arith, h)))
          (under_both cc1 (Tick ∷ (cb ++ (cn ++ (Label l ∷ Tick ∷ cr)))) (clears_under (count - k) (first + k) (l + 1 + la)) (
            tick_under,
            under_both cb (cn ++ (Label l ∷ Tick ∷ cr)) (stmt_under body ways (l + 1 + la + 2 * count) (omega (arith, h)))
                (under_both cn (Label l ∷ Tick ∷ cr) (nothing_under ways.gives (base + 2) (omega (arith, room))) (label_under l, (tick_under, (result_under gives (first + count))))),
          ))

      stmts_under : (list : Stmts) (w : Ways) (l : ℕ) → base + 2 * stmts_levels list + 8 ≤ n → Under (stmts_code p types checks spots base list w l)
      stmts_under no_stmts w l h = tt
      stmts_under (more_stmts s rest) w l h =
          under_both (stmt_code p types checks spots base s w l) (stmts_code p types checks spots base rest w (l + stmt_labels s)) (stmt_under s w l (omega (arith, h))) (stmts_under rest w (l + stmt_labels s) (omega (arith, h)))

      switch_under : (list : Stmts) (w : Ways) (k l : ℕ) → base + 2 * stmts_levels list + 8 ≤ n → Under (switch_code p types checks spots base list w k l)
      switch_under no_stmts w k l h = tt
      switch_under (more_stmts s rest) w k l h = (
        label_under k,
        under_both (stmt_code p types checks spots base s w l) (switch_code p types checks spots base rest w (suc k) (l + stmt_labels s)) (stmt_under s w l (omega (arith, h)))
            (switch_under rest w (suc k) (l + stmt_labels s) (omega (arith, h))),
      )

-- ---- functions

-- values of locals
spot_under : (t : Ty) (v o n : ℕ) (regs : Regs) → v + values_of t ≤ n → 0 < n → spot_at t v o ≡ Values regs → AreRegsBelow n regs
spot_under void v o n regs le some e = absurd (cc)
spot_under (int I8) v o n regs le some e = let q : regs_from (int I8) v ≡ regs = cc in subst (AreRegsBelow n) q (record { low = omega (arith, le); high = some })
spot_under (int U8) v o n regs le some e = let q : regs_from (int U8) v ≡ regs = cc in subst (AreRegsBelow n) q (record { low = omega (arith, le); high = some })
spot_under (int I16) v o n regs le some e = let q : regs_from (int I16) v ≡ regs = cc in subst (AreRegsBelow n) q (record { low = omega (arith, le); high = some })
spot_under (int U16) v o n regs le some e = let q : regs_from (int U16) v ≡ regs = cc in subst (AreRegsBelow n) q (record { low = omega (arith, le); high = some })
spot_under (int I32) v o n regs le some e = let q : regs_from (int I32) v ≡ regs = cc in subst (AreRegsBelow n) q (record { low = omega (arith, le); high = omega (arith, le) })
spot_under (int U32) v o n regs le some e = let q : regs_from (int U32) v ≡ regs = cc in subst (AreRegsBelow n) q (record { low = omega (arith, le); high = omega (arith, le) })
spot_under (pointer t) v o n regs le some e = let q : regs_from (pointer t) v ≡ regs = cc in subst (AreRegsBelow n) q (record { low = omega (arith, le); high = some })
spot_under (array t m) v o n regs le some e = absurd (cc)
spot_under (struct k) v o n regs le some e = absurd (cc)

spots_under : (p : Program) (ts : List Ty) (v o n : ℕ) → v + all_values ts ≤ n → 0 < n → AreSpotsBelow n (spots_from p ts v o)
spots_under p [] v o n le some x regs e = absurd (cc)
spots_under p (t ∷ ts) v o n le some zero regs e = let q : spot_at t v o ≡ Values regs = cc in spot_under t v o n regs (omega (arith, le)) some q
spots_under p (t ∷ ts) v o n le some (suc x) regs e = spots_under p ts (v + values_of t) _ n (omega (arith, le)) some x regs e

param_under : (n : ℕ) (t : Ty) (v : ℕ) → IsScalar t → v + values_of t ≤ n → AreBelow n (values_at (is_wide (number_of t)) v)
param_under n void v ok le = absurd ok
param_under n (int I8) v ok le = one n v (omega (arith, le))
param_under n (int U8) v ok le = one n v (omega (arith, le))
param_under n (int I16) v ok le = one n v (omega (arith, le))
param_under n (int U16) v ok le = one n v (omega (arith, le))
param_under n (int I32) v ok le = two n v (v + 1) (omega (arith, le)) (omega (arith, le))
param_under n (int U32) v ok le = two n v (v + 1) (omega (arith, le)) (omega (arith, le))
param_under n (pointer t) v ok le = one n v (omega (arith, le))
param_under n (array t m) v ok le = absurd ok
param_under n (struct k) v ok le = absurd ok

params_under : (n : ℕ) (ts : List Ty) (k v : ℕ) → All IsScalar (take k ts) → v + all_values ts ≤ n → AreBelow n (params_from (take k ts) v)
params_under n [] zero v h le = none n
params_under n [] (suc k) v h le = none n
params_under n (t ∷ ts) zero v h le = none n
params_under n (t ∷ ts) (suc k) v h le =
    All-append (λ x. x < n) (values_at (is_wide (number_of t)) v) (params_from (take k ts) (v + values_of t)) (param_under n t v (All-head IsScalar t (take k ts) h) (omega (arith, le)))
    (params_under n ts k (v + values_of t) (All-tail IsScalar t (take k ts) h) (omega (arith, le)))

pub names_its_values : (p : Program) (checks : List Ty) (b : Body) → IsBody p b → NamesItsValues (mid_fn_of p checks b)
names_its_values p checks b own =
    let base : ℕ = base_of b in
    let n : ℕ = base + 2 * stmt_levels b.code + 8 in
    let below = spots_under p b.locals 0 0 n (omega arith) (omega arith) in
    let c : List Mid = stmt_code p b.locals checks (spots_of p b) base b.code (ways_of p b) 0 in
    let tail : List Mid = nothing_code b.result (base + 2) ++ Ret (taken_at b.result (base + 2)) ∷ [] in
    record {
      code = to_all n (c ++ tail)
          (under_both n c tail (stmt_under n p b.locals checks (spots_of p b) base below (omega arith) b.code (ways_of p b) 0 (omega arith))
          (under_both n (nothing_code b.result (base + 2)) (Ret (taken_at b.result (base + 2)) ∷ []) (nothing_under n b.result (base + 2) (omega arith)) (ret_under n b.result (base + 2) (omega arith), tt)));
      params = params_under n b.locals b.params 0 own.passed (omega arith);
    }
