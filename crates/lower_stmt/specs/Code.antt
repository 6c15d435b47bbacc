-- The code of statements (C99, 6.8; own: values from `base` on are free, a value that is returned comes to base + 2, and labels are
-- those from l on).
use Rattle.std.specs.Prelude.{ℕ, ℤ, pos, zero, suc, ◌+◌, ◌*◌, ◌-◌, Bool, true, false, List, [], ◌∷◌, ◌++◌, if◌then◌else◌, ◌&&◌, ◌||◌, not, Option, Some, None, slice_get, slice_index_or}
use Rattle.std.specs.Ordering.{int_eq}
use Rattle.nm_base.specs.declared.int_type.IntType.{IntType}
use Rattle.nm_base.specs.IntType.{wrapped}
use Rattle.nesc_core.specs.Plain.{Ty, Expr, Exprs, no_exprs, more_exprs, Stmt, Stmts, Case, no_stmts, more_stmts, Program}
use Rattle.nesc_core.specs.Plain as plain
use Rattle.nesc_core.specs.Heres.{gives_value}
use Rattle.nesc_core.specs.WellFormed.{count_exprs, count_stmts}
use Rattle.core_meaning.specs.Layout.{size_of}
use Rattle.core_meaning.specs.Work.{number_of}
use Rattle.core_meaning.specs.Flow.{start_of_default}
use Rattle.mid_code.specs.declared.instr.Op.TheVariants.{Add, Or, Xor}
use Rattle.mid_code.specs.declared.instr.Test.TheVariants.{Eq, Ne}
use Rattle.mid_code.specs.declared.instr.Mid.{Mid}
use Rattle.mid_code.specs.declared.instr.Mid.TheVariants.{Set, Bin, Poke, Label, Jump, Branch, Ret, Begin, End, Tick}
use Rattle.mid_code.specs.Help.{is_wide}
use Rattle.lower_expr.specs.declared.spot.Regs.{Regs}
use Rattle.lower_expr.specs.declared.spot.Spot.{Spot}
use Rattle.lower_expr.specs.declared.spot.Spot.TheVariants.{Values, Frame}
use Rattle.lower_expr.specs.Held.{held}
use Rattle.lower_expr.specs.Pieces.{const_code, zero_code}
use Rattle.lower_expr.specs.Code.{labels, all_labels, expr_code, kind_of_spot, local_code, put_code, is_void, taken_at, value_named}

-- ---- ways out of a statement

-- how a statement may be left before its end
pub data WayOut : Type 0 where
  returning : WayOut
  breaking : WayOut
  continuing : WayOut

abbrev pub is_return : WayOut → Bool
is_return returning = true
is_return breaking = false
is_return continuing = false

abbrev pub is_break : WayOut → Bool
is_break returning = false
is_break breaking = true
is_break continuing = false

abbrev pub is_continue : WayOut → Bool
is_continue returning = false
is_continue breaking = false
is_continue continuing = true

-- some part of the statement leads out of it so: loops take breaks and continues, switches take breaks
abbrev mutual
  pub leads : Stmt → WayOut → Bool
  leads (plain.eval e) out = false
  leads (plain.block list) out = some_leads list out
  leads (plain.branch test a b) out = leads a out || leads b out
  leads (plain.loop first test step body) out = is_return out && leads body out
  leads (plain.switch e cases list) out = not (is_break out) && some_leads list out
  leads plain.break out = is_break out
  leads plain.continue out = is_continue out
  leads (plain.return e) out = is_return out
  leads (plain.atomic s) out = leads s out
  leads (plain.clear x) out = false
  leads (plain.here arguments first count body) out = false

  pub some_leads : Stmts → WayOut → Bool
  some_leads no_stmts out = false
  some_leads (more_stmts s rest) out = leads s out || some_leads rest out

-- What a return gives; the labels that a return, a break and a continue lead to, where a return without one leads back to the caller.
-- The next Begin saves the status at `status`
pub record Ways : Type 0 where
  pub gives : Ty
  pub return_to : Option ℕ
  pub break_to : ℕ
  pub continue_to : ℕ
  pub status : ℕ

-- in an atomic statement, whose exits are at l, l + 2 and l + 4
abbrev pub in_atomic : (l : ℕ) → Ways → Ways
in_atomic l w = record {
  gives = w.gives;
  return_to = Some l;
  break_to = l + 2;
  continue_to = l + 4;
  status = w.status + 2;
}

abbrev pub in_loop : (out next : ℕ) → Ways → Ways
in_loop out next w = record {
  gives = w.gives;
  return_to = w.return_to;
  break_to = out;
  continue_to = next;
  status = w.status;
}

abbrev pub in_switch : (out : ℕ) → Ways → Ways
in_switch out w = record {
  gives = w.gives;
  return_to = w.return_to;
  break_to = out;
  continue_to = w.continue_to;
  status = w.status;
}

-- in an inlined call, of which nothing but a return or its end leads out
abbrev pub in_here : (out : ℕ) → Ty → Ways → Ways
in_here out ty w = record {
  gives = ty;
  return_to = Some out;
  break_to = out;
  continue_to = out;
  status = w.status;
}

-- with a value of this type at r
abbrev pub back : Option ℕ → Ty → (r : ℕ) → Mid
back None ty r = Ret (taken_at ty r)
back (Some l) ty r = Jump l

-- with a value that is returned at r
abbrev pub way_out : Ways → (r : ℕ) → WayOut → Mid
way_out w r returning = back w.return_to w.gives r
way_out w r breaking = Jump w.break_to
way_out w r continuing = Jump w.continue_to

-- an exit at l of an atomic statement, whose status is saved at o; what comes from the end of the statement jumps over it
abbrev pub exit_code : Bool → (o l : ℕ) → Mid → List Mid
exit_code true o l onward = Jump (l + 1) ∷ Label l ∷ End o ∷ onward ∷ Label (l + 1) ∷ []
exit_code false o l onward = []

-- those that it has, from l on
abbrev pub exits_code : (may : WayOut → Bool) → Ways → (r l : ℕ) → List Mid
exits_code may w r l =
    exit_code (may returning) w.status l (way_out w r returning)
    ++ (exit_code (may breaking) w.status (l + 2) (way_out w r breaking)
    ++ exit_code (may continuing) w.status (l + 4) (way_out w r continuing))

-- ---- labels

abbrev pub maybe_labels : Option Expr → ℕ
maybe_labels None = 0
maybe_labels (Some e) = labels e

abbrev mutual
  pub stmt_labels : Stmt → ℕ
  stmt_labels (plain.eval e) = labels e
  stmt_labels (plain.block list) = stmts_labels list
  stmt_labels (plain.branch test a b) = 2 + labels test + stmt_labels a + stmt_labels b
  stmt_labels (plain.loop first test step body) = 3 + labels test + maybe_labels step + stmt_labels body
  stmt_labels (plain.switch e cases list) = 1 + count_stmts list + labels e + stmts_labels list
  stmt_labels plain.break = 0
  stmt_labels plain.continue = 0
  stmt_labels (plain.return e) = maybe_labels e
  stmt_labels (plain.atomic s) = 6 + stmt_labels s
  stmt_labels (plain.clear x) = 2
  stmt_labels (plain.here arguments first count body) = 1 + all_labels arguments + 2 * count + stmt_labels body

  pub stmts_labels : Stmts → ℕ
  stmts_labels no_stmts = 0
  stmts_labels (more_stmts s rest) = stmt_labels s + stmts_labels rest

-- ---- locals

-- a number in values becomes 0
abbrev pub zero_regs_code : (wide : Bool) → Regs → List Mid
zero_regs_code true regs = Set (value_named regs.low) 0 ∷ Set (value_named regs.high) 0 ∷ []
zero_regs_code false regs = Set (value_named regs.low) 0 ∷ []

-- and so does each byte of the frame from o on, of so many
abbrev pub zero_bytes_code : (size o r l : ℕ) → List Mid
zero_bytes_code size o r l =
    Set r o ∷ Set (r + 1) 0 ∷ Set (r + 2) (o + size) ∷ Set (r + 3) 1
    ∷ Label l ∷ Branch Eq r (r + 2) (l + 1) ∷ Poke false (r + 1) r ∷ Bin Add r r (r + 3) ∷ Jump l ∷ Label (l + 1) ∷ []

-- a local of this type and size
abbrev pub zero_local_code : Option Spot → Ty → (size r l : ℕ) → List Mid
zero_local_code None ty size r l = []
zero_local_code (Some (Values regs)) ty size r l = zero_regs_code (is_wide (number_of ty)) regs
zero_local_code (Some (Frame o)) ty size r l = zero_bytes_code size o r l

-- ---- a value

-- 0 of this type
abbrev pub nothing_code : Ty → (r : ℕ) → List Mid
nothing_code ty r = if is_void ty then [] else const_code (number_of ty) (pos 0) r

-- the number at r is n: goes to l
abbrev pub same_code : (wide : Bool) → (r l : ℕ) → List Mid
same_code true r l =
    Bin Xor (r + 2) r (r + 2) ∷ Bin Xor (r + 3) (r + 1) (r + 3) ∷ Bin Or (r + 2) (r + 2) (r + 3) ∷ Set (r + 3) 0 ∷ Branch Eq (r + 2) (r + 3) l ∷ []
same_code false r l = Branch Eq r (r + 2) l ∷ []

-- no number of the type is the case's, where that is none of the type
abbrev pub case_code : IntType → Option ℤ → (r l : ℕ) → List Mid
case_code t None r l = []
case_code t (Some n) r l = if int_eq (wrapped t n) n then const_code t n (r + 2) ++ same_code (is_wide t) r l else []

-- the label of a switch's statement, of those from l on, or the one behind the switch
abbrev pub label_of : Option ℕ → (l : ℕ) → ℕ
label_of None l = l
label_of (Some k) l = l + 1 + k

-- the value at r is compared with that of each case, in order
abbrev pub cases_code : IntType → List Case → (default : Option ℕ) → (r l : ℕ) → List Mid
cases_code t [] default r l = Jump (label_of default l) ∷ []
cases_code t (c ∷ cases) default r l = case_code t c.value r (label_of (Some c.start) l) ++ cases_code t cases default r l

-- ---- statements, in a program, where locals have these types and spots

module _ (p : Program) (types checks : List Ty) (spots : List Spot) (base : ℕ) where
  abbrev pub returned_code : Option Expr → Ways → (l : ℕ) → List Mid
  returned_code None w l = nothing_code w.gives (base + 2)
  returned_code (Some e) w l = expr_code p types checks spots e (base + 2) l

  abbrev pub step_code : Option Expr → (l : ℕ) → List Mid
  step_code None l = []
  step_code (Some e) l = expr_code p types checks spots e base l

  abbrev pub clear_code : ℕ → (l : ℕ) → List Mid
  clear_code x l = zero_local_code (slice_get spots x) (slice_index_or types x plain.void) (size_of p (slice_index_or types x plain.void)) base l

  -- so many locals from x on
  abbrev pub clears_code : (count x l : ℕ) → List Mid
  clears_code zero x l = []
  clears_code (suc count) x l = clear_code x l ++ clears_code count (x + 1) (l + 2)

  -- work that leaves a value of this type at base + 2, which becomes that of the local
  abbrev pub kept_code : Ty → Option Spot → List Mid → List Mid
  kept_code ty spot work =
      if is_void ty then work else local_code spot base ++ (work ++ put_code (kind_of_spot spot) (number_of ty) (base + 2) base)

  -- each argument becomes the value of a local, from x on
  abbrev pub enter_code : Exprs → (x l : ℕ) → List Mid
  enter_code no_exprs x l = []
  enter_code (more_exprs e rest) x l =
      kept_code (slice_index_or types x plain.void) (slice_get spots x) (expr_code p types checks spots e (base + 2) l) ++ enter_code rest (x + 1) (l + labels e)

  -- where an inlined call gives a value, it is that of this local
  abbrev pub result_code : Bool → ℕ → List Mid
  result_code true x = kept_code (slice_index_or types x plain.void) (slice_get spots x) []
  result_code false x = []

  -- what an inlined call gives
  abbrev pub here_gives : Bool → ℕ → Ty
  here_gives true x = slice_index_or types x plain.void
  here_gives false x = plain.void

  abbrev mutual
    pub stmt_code : Stmt → Ways → (l : ℕ) → List Mid
    stmt_code (plain.eval e) w l = expr_code p types checks spots e base l
    stmt_code (plain.block list) w l = stmts_code list w l
    stmt_code (plain.branch test a b) w l =
        expr_code p types checks spots test base (l + 2)
        ++ (zero_code Eq (is_wide (held p types test)) base l
        ++ (stmt_code a w (l + 2 + labels test)
        ++ (Jump (l + 1) ∷ Label l ∷ (stmt_code b w (l + 2 + labels test + stmt_labels a) ++ Label (l + 1) ∷ []))))
    -- a turn begins at l, a break leads to l + 1 and a continue to l + 2
    stmt_code (plain.loop true test step body) w l =
        Label l ∷ Tick ∷ (expr_code p types checks spots test base (l + 3)
        ++ (zero_code Eq (is_wide (held p types test)) base (l + 1)
        ++ (stmt_code body (in_loop (l + 1) (l + 2) w) (l + 3 + labels test + maybe_labels step)
        ++ (Label (l + 2) ∷ (step_code step (l + 3 + labels test) ++ Jump l ∷ Label (l + 1) ∷ [])))))
    stmt_code (plain.loop false test step body) w l =
        Label l ∷ Tick ∷ (stmt_code body (in_loop (l + 1) (l + 2) w) (l + 3 + labels test + maybe_labels step)
        ++ (Label (l + 2) ∷ (expr_code p types checks spots test base (l + 3)
        ++ (zero_code Ne (is_wide (held p types test)) base l ++ Label (l + 1) ∷ []))))
    -- l is behind it, and its k-th statement at l + 1 + k
    stmt_code (plain.switch e cases list) w l =
        expr_code p types checks spots e base (l + 1 + count_stmts list)
        ++ (cases_code (held p types e) cases (start_of_default cases) base l
        ++ (switch_code list (in_switch l w) (l + 1) (l + 1 + count_stmts list + labels e) ++ Label l ∷ []))
    stmt_code plain.break w l = way_out w (base + 2) breaking ∷ []
    stmt_code plain.continue w l = way_out w (base + 2) continuing ∷ []
    stmt_code (plain.return e) w l = returned_code e w l ++ way_out w (base + 2) returning ∷ []
    stmt_code (plain.atomic s) w l = Begin w.status ∷ (stmt_code s (in_atomic l w) (l + 6) ++ End w.status ∷ exits_code (leads s) w (base + 2) l)
    stmt_code (plain.clear x) w l = clear_code x l
    -- l is behind it
    stmt_code (plain.here arguments first count body) w l =
        let gives = gives_value body in
        let ways = in_here l (here_gives gives (first + count)) w in
        let n = count_exprs arguments in
        enter_code arguments first (l + 1)
        ++ (clears_code (count - n) (first + n) (l + 1 + all_labels arguments)
        ++ (Tick ∷ (stmt_code body ways (l + 1 + all_labels arguments + 2 * count)
        ++ (nothing_code ways.gives (base + 2) ++ (Label l ∷ Tick ∷ result_code gives (first + count))))))

    pub stmts_code : Stmts → Ways → (l : ℕ) → List Mid
    stmts_code no_stmts w l = []
    stmts_code (more_stmts s rest) w l = stmt_code s w l ++ stmts_code rest w (l + stmt_labels s)

    -- the statements of a switch, each at a label, from k on
    pub switch_code : Stmts → Ways → (k l : ℕ) → List Mid
    switch_code no_stmts w k l = []
    switch_code (more_stmts s rest) w k l = Label k ∷ (stmt_code s w l ++ switch_code rest w (suc k) (l + stmt_labels s))
