-- Each label that the code of a body names stands in it.
use Rattle.std.proofs.Common.{◌≡◌, ℕ, zero, suc, ◌+◌, ◌-◌, ◌*◌, ◌<◌, ◌≤◌, Bool, true, false, List, [], ◌∷◌, ◌++◌, All, Option, Some, None, refl, sym, subst, arith}
use Rattle.std.specs.Prelude.{ℤ, pos, ◌==◌, slice_get, slice_index_or, if◌then◌else◌}
use Rattle.std.specs.Ordering.{int_eq}
use Rattle.std.proofs.lemmas.Bool.{eq-eqb}
use Rattle.std.proofs.lemmas.List.Elements.{All-cons, All-head, All-nil, All-tail}
use Rattle.nm_base.specs.declared.int_type.IntType.{IntType}
use Rattle.nm_base.specs.IntType.{wrapped}
use Rattle.nesc_core.specs.Plain.{Ty, Expr, Exprs, no_exprs, more_exprs, Stmt, Stmts, Case, no_stmts, more_stmts, Body, Program}
use Rattle.nesc_core.specs.Plain as plain
use Rattle.nesc_core.specs.Heres.{gives_value}
use Rattle.nesc_core.specs.WellFormed.{AreStmts, Exits, IsBody, IsStmt, by_result, by_return, count_exprs, count_stmts}
use Rattle.nesc_core.specs.WellFormed as formed
use Rattle.core_meaning.specs.Layout.{size_of}
use Rattle.core_meaning.specs.Work.{number_of}
use Rattle.core_meaning.specs.Flow.{start_of_default}
use Rattle.mid_code.specs.declared.instr.Mid.{Mid}
use Rattle.mid_code.specs.declared.instr.Mid.TheVariants.{Set, Move, Bin, Carry, Load, Store, Peek, Poke, In, Out, Label, Jump, Branch, Call, Help, Ret, Begin, End, Post, Tick, Fault}
use Rattle.mid_code.specs.declared.instr.Test.{Test}
use Rattle.mid_code.specs.declared.instr.Test.TheVariants.{Eq, Ne}
use Rattle.mid_code.specs.Form.{labels_named, one_more, times}
use Rattle.mid_code.specs.Help.{is_wide}
use Rattle.mid_code.specs.Machine.{is_label}
use Rattle.lower_expr.specs.declared.spot.Regs.{Regs}
use Rattle.lower_expr.specs.declared.spot.Spot.{Spot}
use Rattle.lower_expr.specs.declared.spot.Spot.TheVariants.{Values, Frame}
use Rattle.lower_expr.specs.Held.{held}
use Rattle.lower_expr.specs.Pieces.{const_code, zero_code}
use Rattle.lower_expr.specs.Code.{Kind, InValues, InFrame, InMemory, all_labels, expr_code, is_void, keep_code, kind_of_spot, labels, local_code, put_code, taken_at}
use Rattle.expr_emitter.specs.Laws.{NamesIn}
use Rattle.expr_emitter.proofs.Labels.{has_labels}
use Rattle.lower_stmt.specs.Code.{Ways, case_code, cases_code, clear_code, clears_code, enter_code, here_gives, in_atomic, in_here, in_loop, in_switch, kept_code, label_of, maybe_labels, nothing_code, result_code, returned_code, same_code, step_code, stmt_code, stmt_labels, stmts_code, switch_code, zero_local_code, zero_regs_code, WayOut, breaking, continuing, returning, exit_code, leads, some_leads, way_out}
use Rattle.lower_stmt.specs.Bodies.{base_of, body_code, spots_of, ways_of}
use Rattle.lower_stmt.proofs.Leaving.{leads_allowed, or_first, or_second}
use Rattle.lower_stmt.proofs.Cases.{default_inside}
use Rattle.lower_stmt.proofs.Labels.{times_both}

at_self : (k n : ℕ) → 1 ≤ one_more (k == k) n
at_self k n = subst (λ b. 1 ≤ one_more b n) (sym (eq-eqb k k refl)) (omega arith)

-- one more instruction in front
past : (b : Bool) (n : ℕ) → 1 ≤ n → 1 ≤ one_more b n
past true n h = omega arith
past false n h = h

module _ (whole : List Mid) where
  abbrev StandsThere : ℕ → Type 0
  StandsThere l = 1 ≤ times l whole

  -- code that is part of the whole
  record Part (c : List Mid) : Type 0 where
    there : (k : ℕ) → 1 ≤ times k c → StandsThere k

  first_part : (a b : List Mid) → Part (a ++ b) → Part a
  first_part a b h = record { there = λ k le. h.there k (let e = times_both k a b in omega (arith, e, le)) }

  second_part : (a b : List Mid) → Part (a ++ b) → Part b
  second_part a b h = record { there = λ k le. h.there k (let e = times_both k a b in omega (arith, e, le)) }

  -- behind a label, which stands there
  behind_label : (l : ℕ) (c : List Mid) → Part (Label l ∷ c) → Part c
  behind_label l c h = record { there = λ k le. h.there k (past (l == k) (times k c) le) }

  label_there : (l : ℕ) (c : List Mid) → Part (Label l ∷ c) → StandsThere l
  label_there l c h = h.there l (at_self l (times l c))

  -- each label that the code names stands there
  record Names (c : List Mid) : Type 0 where
    named : NamesIn whole c

  more_names : (v is : List Mid) → Part v → NamesIn v is → NamesIn whole is
  more_names v [] part h = tt
  more_names v (Jump k ∷ is) part h = (part.there k h.0, more_names v is part h.1)
  more_names v (Branch test x y k ∷ is) part h = (part.there k h.0, more_names v is part h.1)
  more_names v (Set d n ∷ is) part h = more_names v is part h
  more_names v (Move d x ∷ is) part h = more_names v is part h
  more_names v (Bin op d x y ∷ is) part h = more_names v is part h
  more_names v (Carry op d x y ∷ is) part h = more_names v is part h
  more_names v (Load b d x ∷ is) part h = more_names v is part h
  more_names v (Store b d x ∷ is) part h = more_names v is part h
  more_names v (Peek b d x ∷ is) part h = more_names v is part h
  more_names v (Poke b d x ∷ is) part h = more_names v is part h
  more_names v (In d port ∷ is) part h = more_names v is part h
  more_names v (Out port d ∷ is) part h = more_names v is part h
  more_names v (Label k ∷ is) part h = more_names v is part h
  more_names v (Call g ins outs ∷ is) part h = more_names v is part h
  more_names v (Help g ins outs ∷ is) part h = more_names v is part h
  more_names v (Ret vs ∷ is) part h = more_names v is part h
  more_names v (Begin o ∷ is) part h = more_names v is part h
  more_names v (End o ∷ is) part h = more_names v is part h
  more_names v (Post k d ∷ is) part h = more_names v is part h
  more_names v (Tick ∷ is) part h = more_names v is part h
  more_names v (Fault c ∷ is) part h = more_names v is part h

  join_names : (a b : List Mid) → NamesIn whole a → NamesIn whole b → NamesIn whole (a ++ b)
  join_names [] b h g = g
  join_names (Jump k ∷ is) b h g = (h.0, join_names is b h.1 g)
  join_names (Branch test x y k ∷ is) b h g = (h.0, join_names is b h.1 g)
  join_names (Set d n ∷ is) b h g = join_names is b h g
  join_names (Move d x ∷ is) b h g = join_names is b h g
  join_names (Bin op d x y ∷ is) b h g = join_names is b h g
  join_names (Carry op d x y ∷ is) b h g = join_names is b h g
  join_names (Load c d x ∷ is) b h g = join_names is b h g
  join_names (Store c d x ∷ is) b h g = join_names is b h g
  join_names (Peek c d x ∷ is) b h g = join_names is b h g
  join_names (Poke c d x ∷ is) b h g = join_names is b h g
  join_names (In d port ∷ is) b h g = join_names is b h g
  join_names (Out port d ∷ is) b h g = join_names is b h g
  join_names (Label k ∷ is) b h g = join_names is b h g
  join_names (Call c ins outs ∷ is) b h g = join_names is b h g
  join_names (Help c ins outs ∷ is) b h g = join_names is b h g
  join_names (Ret vs ∷ is) b h g = join_names is b h g
  join_names (Begin o ∷ is) b h g = join_names is b h g
  join_names (End o ∷ is) b h g = join_names is b h g
  join_names (Post k d ∷ is) b h g = join_names is b h g
  join_names (Tick ∷ is) b h g = join_names is b h g
  join_names (Fault c ∷ is) b h g = join_names is b h g

  both : (a b : List Mid) → Names a → Names b → Names (a ++ b)
  both a b h g = record { named = join_names a b h.named g.named }

  if_names : (b : Bool) (x y : List Mid) → Names x → Names y → Names (if b then x else y)
  if_names true x y h g = h
  if_names false x y h g = g

  -- ---- pieces

  const_names : (t : IntType) (x : ℤ) (r : ℕ) → Names (const_code t x r)
  const_names t x r = if_names (is_wide t) (Set r _ ∷ Set (r + 1) _ ∷ []) (Set r _ ∷ []) (record { named = tt }) (record { named = tt })

  zero_names : (test : Test) (wide : Bool) (r l : ℕ) → StandsThere l → Names (zero_code test wide r l)
  zero_names test true r l h = record { named = (h, tt) }
  zero_names test false r l h = record { named = (h, tt) }

  nothing_names : (ty : Ty) (r : ℕ) → Names (nothing_code ty r)
  nothing_names ty r = if_names (is_void ty) [] (const_code (number_of ty) (pos 0) r) (record { named = tt }) (const_names (number_of ty) (pos 0) r)

  same_names : (wide : Bool) (r l : ℕ) → StandsThere l → Names (same_code wide r l)
  same_names true r l h = record { named = (h, tt) }
  same_names false r l h = record { named = (h, tt) }

  case_names : (t : IntType) (o : Option ℤ) (r l : ℕ) → StandsThere l → Names (case_code t o r l)
  case_names t None r l h = record { named = tt }
  case_names t (Some m) r l h =
      if_names (int_eq (wrapped t m) m) (const_code t m (r + 2) ++ same_code (is_wide t) r l) []
      (both (const_code t m (r + 2)) (same_code (is_wide t) r l) (const_names t m (r + 2)) (same_names (is_wide t) r l h)) (record { named = tt })

  cases_names : (t : IntType) (cases : List Case) (default : Option ℕ) (r l count : ℕ) → ((k : ℕ) → k < count → StandsThere (l + 1 + k)) → StandsThere (label_of default l) → All (λ c. c.start < count) cases →
      Names (cases_code t cases default r l)
  cases_names t [] default r l count starts other inside = record { named = (other, tt) }
  cases_names t (c ∷ cases) default r l count starts other inside =
      both (case_code t c.value r (label_of (Some c.start) l)) (cases_code t cases default r l) (case_names t c.value r (label_of (Some c.start) l) (starts c.start (All-head (λ x. x.start < count) c cases inside)))
      (cases_names t cases default r l count starts other (All-tail (λ x. x.start < count) c cases inside))

  regs_names : (wide : Bool) (regs : Regs) → Names (zero_regs_code wide regs)
  regs_names true regs = record { named = tt }
  regs_names false regs = record { named = tt }

  keep_names : (wide : Bool) (regs : Regs) (v : ℕ) → Names (keep_code wide regs v)
  keep_names true regs v = record { named = tt }
  keep_names false regs v = record { named = tt }

  put_names : (kind : Kind) (t : IntType) (v r : ℕ) → Names (put_code kind t v r)
  put_names (InValues regs) t v r = keep_names (is_wide t) regs v
  put_names InFrame t v r = if_names (is_wide t) (Poke true v r ∷ Set (r + 1) 2 ∷ Bin _ (r + 1) r (r + 1) ∷ Poke true (v + 1) (r + 1) ∷ []) (Poke _ v r ∷ []) (record { named = tt }) (record { named = tt })
  put_names InMemory t v r = if_names (is_wide t) (Store true v r ∷ Set (r + 1) 2 ∷ Bin _ (r + 1) r (r + 1) ∷ Store true (v + 1) (r + 1) ∷ []) (Store _ v r ∷ []) (record { named = tt }) (record { named = tt })

  local_names : (o : Option Spot) (r : ℕ) → Names (local_code o r)
  local_names None r = record { named = tt }
  local_names (Some (Values regs)) r = record { named = tt }
  local_names (Some (Frame o)) r = record { named = tt }

  local_zero_names : (o : Option Spot) (ty : Ty) (size r l : ℕ) → Part (zero_local_code o ty size r l) → Names (zero_local_code o ty size r l)
  local_zero_names None ty size r l part = record { named = tt }
  local_zero_names (Some (Values regs)) ty size r l part = regs_names (is_wide (number_of ty)) regs
  local_zero_names (Some (Frame o)) ty size r l part =
      record { named = (part.there (l + 1) (past (l == l + 1) (times (l + 1) (Label (l + 1) ∷ [])) (at_self (l + 1) 0)), (part.there l (at_self l (times l (Label (l + 1) ∷ []))), tt)) }

  -- ---- ways out

  -- the label that a way out leads to stands there
  record Leads (onward : Mid) : Type 0 where
    names : (more : List Mid) → NamesIn whole more → NamesIn whole (onward ∷ more)

  jump_leads : (l : ℕ) → StandsThere l → Leads (Jump l)
  jump_leads l h = record { names = λ more g. (h, g) }

  -- for each way that statements have
  record WaysStand (may : WayOut → Bool) (w : Ways) (r : ℕ) : Type 0 where
    way : (out : WayOut) → may out ≡ true → Leads (way_out w r out)

  exit_names : (b : Bool) (o l : ℕ) (onward : Mid) → (b ≡ true → Leads onward) → Part (exit_code b o l onward) → Names (exit_code b o l onward)
  exit_names false o l onward h part = record { named = tt }
  exit_names true o l onward h part =
      let there = part.there (l + 1) (past (l == l + 1) (times (l + 1) (onward ∷ Label (l + 1) ∷ [])) (past (is_label onward (l + 1)) (times (l + 1) (Label (l + 1) ∷ [])) (at_self (l + 1) 0))) in
      record { named = (there, (h refl).names (Label (l + 1) ∷ []) tt) }

  exit_there : (b : Bool) (o l : ℕ) (onward : Mid) → b ≡ true → Part (exit_code b o l onward) → StandsThere l
  exit_there false o l onward is part = absurd (cc)
  exit_there true o l onward is part = part.there l (at_self l (times l (onward ∷ Label (l + 1) ∷ [])))

  module _ (p : Program) (types checks : List Ty) (spots : List Spot) (base : ℕ) where
    expr_names : (e : Expr) (r l : ℕ) → Part (expr_code p types checks spots e r l) → Names (expr_code p types checks spots e r l)
    expr_names e r l part = record { named = more_names (expr_code p types checks spots e r l) (expr_code p types checks spots e r l) part (has_labels p types checks spots e r l).named }

    step_names : (e : Option Expr) (l : ℕ) → Part (step_code p types checks spots base e l) → Names (step_code p types checks spots base e l)
    step_names None l part = record { named = tt }
    step_names (Some e) l part = expr_names e base l part

    returned_names : (e : Option Expr) (w : Ways) (l : ℕ) → Part (returned_code p types checks spots base e w l) → Names (returned_code p types checks spots base e w l)
    returned_names None w l part = nothing_names w.gives (base + 2)
    returned_names (Some e) w l part = expr_names e (base + 2) l part

    kept_names : (ty : Ty) (o : Option Spot) (work : List Mid) → (Part work → Names work) → Part (kept_code p types checks spots base ty o work) → Names (kept_code p types checks spots base ty o work)
    kept_names ty o work h part = by (is_void ty) part
      where
        by : (b : Bool) → Part (if b then work else local_code o base ++ (work ++ put_code (kind_of_spot o) (number_of ty) (base + 2) base)) → Names (if b then work else local_code o base ++ (work ++ put_code (kind_of_spot o) (number_of ty) (base + 2) base))
        by true q = h q
        by false q =
            both (local_code o base) (work ++ put_code (kind_of_spot o) (number_of ty) (base + 2) base) (local_names o base)
            (both work (put_code (kind_of_spot o) (number_of ty) (base + 2) base)
            (h (first_part work (put_code (kind_of_spot o) (number_of ty) (base + 2) base) (second_part (local_code o base) (work ++ put_code (kind_of_spot o) (number_of ty) (base + 2) base) q)))
            (put_names (kind_of_spot o) (number_of ty) (base + 2) base))

    enter_names : (es : Exprs) (x l : ℕ) → Part (enter_code p types checks spots base es x l) → Names (enter_code p types checks spots base es x l)
    enter_names no_exprs x l part = record { named = tt }
    enter_names (more_exprs e rest) x l part =
        let a : List Mid = kept_code p types checks spots base (slice_index_or types x plain.void) (slice_get spots x) (expr_code p types checks spots e (base + 2) l) in
        let b : List Mid = enter_code p types checks spots base rest (x + 1) (l + labels e) in
        both a b (kept_names (slice_index_or types x plain.void) (slice_get spots x) (expr_code p types checks spots e (base + 2) l) (λ q. expr_names e (base + 2) l q) (first_part a b part))
        (enter_names rest (x + 1) (l + labels e) (second_part a b part))

    clears_names : (count x l : ℕ) → Part (clears_code p types checks spots base count x l) → Names (clears_code p types checks spots base count x l)
    clears_names zero x l part = record { named = tt }
    clears_names (suc count) x l part =
        let a : List Mid = clear_code p types checks spots base x l in
        let b : List Mid = clears_code p types checks spots base count (x + 1) (l + 2) in
        both a b (local_zero_names (slice_get spots x) (slice_index_or types x plain.void) (size_of p (slice_index_or types x plain.void)) base l (first_part a b part)) (clears_names count (x + 1) (l + 2) (second_part a b part))

    result_names : (b : Bool) (x : ℕ) → Part (result_code p types checks spots base b x) → Names (result_code p types checks spots base b x)
    result_names false x part = record { named = tt }
    result_names true x part = kept_names (slice_index_or types x plain.void) (slice_get spots x) [] (λ q. record { named = tt }) part

    -- the statements of a switch stand behind their labels
    starts_there : (list : Stmts) (w : Ways) (j l k : ℕ) → k < count_stmts list → Part (switch_code p types checks spots base list w j l) → StandsThere (j + k)
    starts_there no_stmts w j l k lt part = absurd (omega (arith, lt))
    starts_there (more_stmts s rest) w j l zero lt part =
        let e : j ≡ j + 0 = omega arith in
        subst StandsThere e (label_there j (stmt_code p types checks spots base s w l ++ switch_code p types checks spots base rest w (suc j) (l + stmt_labels s)) part)
    starts_there (more_stmts s rest) w j l (suc k) lt part =
        let a : List Mid = stmt_code p types checks spots base s w l in
        let b : List Mid = switch_code p types checks spots base rest w (suc j) (l + stmt_labels s) in
        let e : suc j + k ≡ j + suc k = omega arith in
        subst StandsThere e (starts_there rest w (suc j) (l + stmt_labels s) k (omega (arith, lt)) (second_part a b (behind_label j (a ++ b) part)))

    default_there : (cases : List Case) (d : Option ℕ) (l count : ℕ) → start_of_default cases ≡ d → All (λ c. c.start < count) cases → StandsThere l → ((k : ℕ) → k < count → StandsThere (l + 1 + k)) → StandsThere (label_of d l)
    default_there cases None l count is inside out starts = out
    default_there cases (Some k) l count is inside out starts = starts k (default_inside cases count k inside is)

    behind_jump : (m : ℕ) (c : List Mid) → Part (Jump m ∷ c) → Part c
    behind_jump m c h = record { there = λ k le. h.there k le }

    behind_tick : (c : List Mid) → Part (Tick ∷ c) → Part c
    behind_tick c h = record { there = λ k le. h.there k le }

    behind_begin : (o : ℕ) (c : List Mid) → Part (Begin o ∷ c) → Part c
    behind_begin o c h = record { there = λ k le. h.there k le }

    behind_end : (o : ℕ) (c : List Mid) → Part (End o ∷ c) → Part c
    behind_end o c h = record { there = λ k le. h.there k le }

    -- ---- the ways out of what stands within

    loop_ways : (own : WayOut → Bool) (w : Ways) (out next : ℕ) → StandsThere out → StandsThere next → (own returning ≡ true → Leads (way_out w (base + 2) returning)) → WaysStand own (in_loop out next w) (base + 2)
    loop_ways own w out next h g returns = record { way = by }
      where
        by : (o : WayOut) → own o ≡ true → Leads (way_out (in_loop out next w) (base + 2) o)
        by returning e = record { names = (returns e).names }
        by breaking e = jump_leads out h
        by continuing e = jump_leads next g

    switch_ways : (own : WayOut → Bool) (w : Ways) (out : ℕ) → StandsThere out → (own returning ≡ true → Leads (way_out w (base + 2) returning)) → (own continuing ≡ true → Leads (way_out w (base + 2) continuing)) →
        WaysStand own (in_switch out w) (base + 2)
    switch_ways own w out h returns goes_on = record { way = by }
      where
        by : (o : WayOut) → own o ≡ true → Leads (way_out (in_switch out w) (base + 2) o)
        by returning e = record { names = (returns e).names }
        by breaking e = jump_leads out h
        by continuing e = record { names = (goes_on e).names }

    atomic_ways : (own : WayOut → Bool) (w : Ways) (l : ℕ) → (own returning ≡ true → StandsThere l) → (own breaking ≡ true → StandsThere (l + 2)) → (own continuing ≡ true → StandsThere (l + 4)) → WaysStand own (in_atomic l w) (base + 2)
    atomic_ways own w l h1 h2 h3 = record { way = by }
      where
        by : (o : WayOut) → own o ≡ true → Leads (way_out (in_atomic l w) (base + 2) o)
        by returning e = jump_leads l (h1 e)
        by breaking e = jump_leads (l + 2) (h2 e)
        by continuing e = jump_leads (l + 4) (h3 e)

    here_ways : (own : WayOut → Bool) (w : Ways) (l : ℕ) (ty : Ty) → StandsThere l → WaysStand own (in_here l ty w) (base + 2)
    here_ways own w l ty h = record { way = by }
      where
        by : (o : WayOut) → own o ≡ true → Leads (way_out (in_here l ty w) (base + 2) o)
        by returning e = jump_leads l h
        by breaking e = jump_leads l h
        by continuing e = jump_leads l h

    mutual
      stmt_names : (s : Stmt) (exits : Exits) (w : Ways) (l : ℕ) → IsStmt p types s exits → WaysStand (leads s) w (base + 2) → Part (stmt_code p types checks spots base s w l) → Names (stmt_code p types checks spots base s w l)
      stmt_names (plain.eval e) exits w l typed ways part = expr_names e base l part
      stmt_names (plain.block list) exits w l typed ways part = stmts_names list exits w l typed (record { way = λ o e. ways.way o e }) part
      stmt_names (plain.branch test a b) exits w l typed ways part =
          let t : List Mid = expr_code p types checks spots test base (l + 2) in
          let z : List Mid = zero_code Eq (is_wide (held p types test)) base l in
          let ca : List Mid = stmt_code p types checks spots base a w (l + 2 + labels test) in
          let cb : List Mid = stmt_code p types checks spots base b w (l + 2 + labels test + stmt_labels a) in
          let last : List Mid = cb ++ Label (l + 1) ∷ [] in
          let middle : List Mid = Jump (l + 1) ∷ Label l ∷ last in
          let q1 = second_part z (ca ++ middle) (second_part t (z ++ (ca ++ middle)) part) in
          let q2 = behind_jump (l + 1) (Label l ∷ last) (second_part ca middle q1) in
          let q3 = behind_label l last q2 in
          let out = label_there (l + 1) [] (second_part cb (Label (l + 1) ∷ []) q3) in
          let second = both cb (Label (l + 1) ∷ []) (stmt_names b exits w (l + 2 + labels test + stmt_labels a) typed.2 (record { way = λ o e. ways.way o (or_second (leads a o) (leads b o) e) }) (first_part cb (Label (l + 1) ∷ []) q3)) (record { named = tt }) in
          both t (z ++ (ca ++ middle)) (expr_names test base (l + 2) (first_part t (z ++ (ca ++ middle)) part))
          (both z (ca ++ middle) (zero_names Eq (is_wide (held p types test)) base l (label_there l last q2))
          (both ca middle (stmt_names a exits w (l + 2 + labels test) typed.1 (record { way = λ o e. ways.way o (or_first (leads a o) (leads b o) e) }) (first_part ca middle q1)) (record { named = (out, second.named) })))
      stmt_names (plain.loop true test step body) exits w l typed ways part =
          let inner : Ways = in_loop (l + 1) (l + 2) w in
          let lb : ℕ = l + 3 + labels test + maybe_labels step in
          let t : List Mid = expr_code p types checks spots test base (l + 3) in
          let z : List Mid = zero_code Eq (is_wide (held p types test)) base (l + 1) in
          let cb : List Mid = stmt_code p types checks spots base body inner lb in
          let cs : List Mid = step_code p types checks spots base step (l + 3 + labels test) in
          let last : List Mid = Jump l ∷ Label (l + 1) ∷ [] in
          let all : List Mid = t ++ (z ++ (cb ++ (Label (l + 2) ∷ (cs ++ last)))) in
          let top = label_there l (Tick ∷ all) part in
          let q0 = behind_tick all (behind_label l (Tick ∷ all) part) in
          let q1 = second_part z (cb ++ (Label (l + 2) ∷ (cs ++ last))) (second_part t (z ++ (cb ++ (Label (l + 2) ∷ (cs ++ last)))) q0) in
          let q2 = second_part cb (Label (l + 2) ∷ (cs ++ last)) q1 in
          let next = label_there (l + 2) (cs ++ last) q2 in
          let q3 = behind_label (l + 2) (cs ++ last) q2 in
          let out = label_there (l + 1) [] (behind_jump l (Label (l + 1) ∷ []) (second_part cs last q3)) in
          let behind_body = both cs last (step_names step (l + 3 + labels test) (first_part cs last q3)) (record { named = (top, tt) }) in
          let named = both t (z ++ (cb ++ (Label (l + 2) ∷ (cs ++ last)))) (expr_names test base (l + 3) (first_part t (z ++ (cb ++ (Label (l + 2) ∷ (cs ++ last)))) q0))
          (both z (cb ++ (Label (l + 2) ∷ (cs ++ last))) (zero_names Eq (is_wide (held p types test)) base (l + 1) out)
          (both cb (Label (l + 2) ∷ (cs ++ last))
          (stmt_names body (formed.in_loop exits) inner lb typed.2 (loop_ways (leads body) w (l + 1) (l + 2) out next (λ e. ways.way returning e)) (first_part cb (Label (l + 2) ∷ (cs ++ last)) q1))
          (record { named = behind_body.named }))) in
          record { named = named.named }
      stmt_names (plain.loop false test step body) exits w l typed ways part =
          let inner : Ways = in_loop (l + 1) (l + 2) w in
          let lb : ℕ = l + 3 + labels test + maybe_labels step in
          let t : List Mid = expr_code p types checks spots test base (l + 3) in
          let z : List Mid = zero_code Ne (is_wide (held p types test)) base l in
          let cb : List Mid = stmt_code p types checks spots base body inner lb in
          let last : List Mid = t ++ (z ++ Label (l + 1) ∷ []) in
          let top = label_there l (Tick ∷ (cb ++ (Label (l + 2) ∷ last))) part in
          let q0 = behind_tick (cb ++ (Label (l + 2) ∷ last)) (behind_label l (Tick ∷ (cb ++ (Label (l + 2) ∷ last))) part) in
          let q1 = second_part cb (Label (l + 2) ∷ last) q0 in
          let next = label_there (l + 2) last q1 in
          let q2 = behind_label (l + 2) last q1 in
          let q3 = second_part t (z ++ Label (l + 1) ∷ []) q2 in
          let out = label_there (l + 1) [] (second_part z (Label (l + 1) ∷ []) q3) in
          let tests = both t (z ++ Label (l + 1) ∷ []) (expr_names test base (l + 3) (first_part t (z ++ Label (l + 1) ∷ []) q2))
          (both z (Label (l + 1) ∷ []) (zero_names Ne (is_wide (held p types test)) base l top) (record { named = tt })) in
          let named = both cb (Label (l + 2) ∷ last)
          (stmt_names body (formed.in_loop exits) inner lb typed.2 (loop_ways (leads body) w (l + 1) (l + 2) out next (λ e. ways.way returning e)) (first_part cb (Label (l + 2) ∷ last) q0))
          (record { named = tests.named }) in
          record { named = named.named }
      stmt_names (plain.switch e cases list) exits w l typed ways part =
          let m : ℕ = count_stmts list in
          let ls : ℕ = l + 1 + m + labels e in
          let inner : Ways = in_switch l w in
          let t : List Mid = expr_code p types checks spots e base (l + 1 + m) in
          let z : List Mid = cases_code (held p types e) cases (start_of_default cases) base l in
          let cs : List Mid = switch_code p types checks spots base list inner (l + 1) ls in
          let q1 = second_part z (cs ++ Label l ∷ []) (second_part t (z ++ (cs ++ Label l ∷ [])) part) in
          let out = label_there l [] (second_part cs (Label l ∷ []) q1) in
          let inside = first_part cs (Label l ∷ []) q1 in
          let starts : (k : ℕ) → k < m → StandsThere (l + 1 + k) = (λ k lt. starts_there list inner (l + 1) ls k lt inside) in
          both t (z ++ (cs ++ Label l ∷ [])) (expr_names e base (l + 1 + m) (first_part t (z ++ (cs ++ Label l ∷ [])) part))
          (both z (cs ++ Label l ∷ []) (cases_names (held p types e) cases (start_of_default cases) base l m starts (default_there cases (start_of_default cases) l m refl typed.1 out starts) typed.1)
          (both cs (Label l ∷ []) (switch_names list (formed.in_switch exits) inner (l + 1) ls typed.2 (switch_ways (some_leads list) w l out (λ e. ways.way returning e) (λ e. ways.way continuing e)) inside) (record { named = tt })))
      stmt_names plain.break exits w l typed ways part = record { named = (ways.way breaking refl).names [] tt }
      stmt_names plain.continue exits w l typed ways part = record { named = (ways.way continuing refl).names [] tt }
      stmt_names (plain.return e) exits w l typed ways part =
          let c : List Mid = returned_code p types checks spots base e w l in
          let x : List Mid = way_out w (base + 2) returning ∷ [] in
          both c x (returned_names e w l (first_part c x part)) (record { named = (ways.way returning refl).names [] tt })
      stmt_names (plain.atomic s) exits w l typed ways part =
          let c : List Mid = stmt_code p types checks spots base s (in_atomic l w) (l + 6) in
          let x1 : List Mid = exit_code (leads s returning) w.status l (way_out w (base + 2) returning) in
          let x2 : List Mid = exit_code (leads s breaking) w.status (l + 2) (way_out w (base + 2) breaking) in
          let x3 : List Mid = exit_code (leads s continuing) w.status (l + 4) (way_out w (base + 2) continuing) in
          let all : List Mid = End w.status ∷ (x1 ++ (x2 ++ x3)) in
          let q = behind_begin w.status (c ++ all) part in
          let q1 = behind_end w.status (x1 ++ (x2 ++ x3)) (second_part c all q) in
          let q2 = second_part x1 (x2 ++ x3) q1 in
          let p1 = first_part x1 (x2 ++ x3) q1 in
          let p2 = first_part x2 x3 q2 in
          let p3 = second_part x2 x3 q2 in
          let inside = stmt_names s exits (in_atomic l w) (l + 6) typed
          (atomic_ways (leads s) w l (λ e. exit_there (leads s returning) w.status l (way_out w (base + 2) returning) e p1) (λ e. exit_there (leads s breaking) w.status (l + 2) (way_out w (base + 2) breaking) e p2)
          (λ e. exit_there (leads s continuing) w.status (l + 4) (way_out w (base + 2) continuing) e p3)) (first_part c all q) in
          let outside = both x1 (x2 ++ x3) (exit_names (leads s returning) w.status l (way_out w (base + 2) returning) (λ e. ways.way returning e) p1)
          (both x2 x3 (exit_names (leads s breaking) w.status (l + 2) (way_out w (base + 2) breaking) (λ e. ways.way breaking e) p2)
          (exit_names (leads s continuing) w.status (l + 4) (way_out w (base + 2) continuing) (λ e. ways.way continuing e) p3)) in
          let named = both c all inside (record { named = outside.named }) in
          record { named = named.named }
      stmt_names (plain.clear x) exits w l typed ways part = local_zero_names (slice_get spots x) (slice_index_or types x plain.void) (size_of p (slice_index_or types x plain.void)) base l part
      stmt_names (plain.here arguments first count body) exits w l typed ways part =
          let gives : Bool = gives_value body in
          let inner : Ways = in_here l (here_gives p types checks spots base gives (first + count)) w in
          let n : ℕ = count_exprs arguments in
          let la : ℕ = all_labels arguments in
          let ca : List Mid = enter_code p types checks spots base arguments first (l + 1) in
          let cw : List Mid = clears_code p types checks spots base (count - n) (first + n) (l + 1 + la) in
          let cb : List Mid = stmt_code p types checks spots base body inner (l + 1 + la + 2 * count) in
          let cn : List Mid = nothing_code inner.gives (base + 2) in
          let cr : List Mid = result_code p types checks spots base gives (first + count) in
          let last : List Mid = cn ++ (Label l ∷ Tick ∷ cr) in
          let q1 = second_part ca (cw ++ (Tick ∷ (cb ++ last))) part in
          let q2 = behind_tick (cb ++ last) (second_part cw (Tick ∷ (cb ++ last)) q1) in
          let q3 = second_part cn (Label l ∷ Tick ∷ cr) (second_part cb last q2) in
          let out = label_there l (Tick ∷ cr) q3 in
          let q4 = behind_tick cr (behind_label l (Tick ∷ cr) q3) in
          let named = both cb last
          (stmt_names body (by_result p types first count) inner (l + 1 + la + 2 * count) typed.1
          (here_ways (leads body) w l (here_gives p types checks spots base gives (first + count)) out) (first_part cb last q2))
          (both cn (Label l ∷ Tick ∷ cr) (nothing_names inner.gives (base + 2)) (record { named = (result_names gives (first + count) q4).named })) in
          both ca (cw ++ (Tick ∷ (cb ++ last))) (enter_names arguments first (l + 1) (first_part ca (cw ++ (Tick ∷ (cb ++ last))) part))
          (both cw (Tick ∷ (cb ++ last)) (clears_names (count - n) (first + n) (l + 1 + la) (first_part cw (Tick ∷ (cb ++ last)) q1)) (record { named = named.named }))

      stmts_names : (list : Stmts) (exits : Exits) (w : Ways) (l : ℕ) → AreStmts p types list exits → WaysStand (some_leads list) w (base + 2) → Part (stmts_code p types checks spots base list w l) → Names (stmts_code p types checks spots base list w l)
      stmts_names no_stmts exits w l typed ways part = record { named = tt }
      stmts_names (more_stmts s rest) exits w l typed ways part =
          let a : List Mid = stmt_code p types checks spots base s w l in
          let b : List Mid = stmts_code p types checks spots base rest w (l + stmt_labels s) in
          both a b (stmt_names s exits w l typed.0 (record { way = λ o e. ways.way o (or_first (leads s o) (some_leads rest o) e) }) (first_part a b part))
          (stmts_names rest exits w (l + stmt_labels s) typed.1 (record { way = λ o e. ways.way o (or_second (leads s o) (some_leads rest o) e) }) (second_part a b part))

      switch_names : (list : Stmts) (exits : Exits) (w : Ways) (k l : ℕ) → AreStmts p types list exits → WaysStand (some_leads list) w (base + 2) → Part (switch_code p types checks spots base list w k l) → Names (switch_code p types checks spots base list w k l)
      switch_names no_stmts exits w k l typed ways part = record { named = tt }
      switch_names (more_stmts s rest) exits w k l typed ways part =
          let a : List Mid = stmt_code p types checks spots base s w l in
          let b : List Mid = switch_code p types checks spots base rest w (suc k) (l + stmt_labels s) in
          let q = behind_label k (a ++ b) part in
          let named = both a b (stmt_names s exits w l typed.0 (record { way = λ o e. ways.way o (or_first (leads s o) (some_leads rest o) e) }) (first_part a b q))
          (switch_names rest exits w (suc k) (l + stmt_labels s) typed.1 (record { way = λ o e. ways.way o (or_second (leads s o) (some_leads rest o) e) }) (second_part a b q)) in
          record { named = named.named }

-- ---- functions

-- the labels that an instruction names stand there
abbrev pub LabelsStand : List Mid → Mid → Type 0
LabelsStand whole i = All (λ l. 1 ≤ times l whole) (labels_named i)

one_label : (whole : List Mid) (k : ℕ) → 1 ≤ times k whole → All (λ l. 1 ≤ times l whole) (k ∷ [])
one_label whole k h = All-cons (λ l. 1 ≤ times l whole) k [] h (All-nil (λ l. 1 ≤ times l whole))

each_named : (whole is : List Mid) → NamesIn whole is → All (LabelsStand whole) is
each_named whole [] h = All-nil (LabelsStand whole)
each_named whole (Jump k ∷ is) h = All-cons (LabelsStand whole) (Jump k) is (one_label whole k h.0) (each_named whole is h.1)
each_named whole (Branch test x y k ∷ is) h = All-cons (LabelsStand whole) (Branch test x y k) is (one_label whole k h.0) (each_named whole is h.1)
each_named whole (Set d n ∷ is) h = All-cons (LabelsStand whole) (Set d n) is (All-nil (λ l. 1 ≤ times l whole)) (each_named whole is h)
each_named whole (Move d x ∷ is) h = All-cons (LabelsStand whole) (Move d x) is (All-nil (λ l. 1 ≤ times l whole)) (each_named whole is h)
each_named whole (Bin op d x y ∷ is) h = All-cons (LabelsStand whole) (Bin op d x y) is (All-nil (λ l. 1 ≤ times l whole)) (each_named whole is h)
each_named whole (Carry op d x y ∷ is) h = All-cons (LabelsStand whole) (Carry op d x y) is (All-nil (λ l. 1 ≤ times l whole)) (each_named whole is h)
each_named whole (Load c d x ∷ is) h = All-cons (LabelsStand whole) (Load c d x) is (All-nil (λ l. 1 ≤ times l whole)) (each_named whole is h)
each_named whole (Store c d x ∷ is) h = All-cons (LabelsStand whole) (Store c d x) is (All-nil (λ l. 1 ≤ times l whole)) (each_named whole is h)
each_named whole (Peek c d x ∷ is) h = All-cons (LabelsStand whole) (Peek c d x) is (All-nil (λ l. 1 ≤ times l whole)) (each_named whole is h)
each_named whole (Poke c d x ∷ is) h = All-cons (LabelsStand whole) (Poke c d x) is (All-nil (λ l. 1 ≤ times l whole)) (each_named whole is h)
each_named whole (In d port ∷ is) h = All-cons (LabelsStand whole) (In d port) is (All-nil (λ l. 1 ≤ times l whole)) (each_named whole is h)
each_named whole (Out port d ∷ is) h = All-cons (LabelsStand whole) (Out port d) is (All-nil (λ l. 1 ≤ times l whole)) (each_named whole is h)
each_named whole (Label k ∷ is) h = All-cons (LabelsStand whole) (Label k) is (All-nil (λ l. 1 ≤ times l whole)) (each_named whole is h)
each_named whole (Call g ins outs ∷ is) h = All-cons (LabelsStand whole) (Call g ins outs) is (All-nil (λ l. 1 ≤ times l whole)) (each_named whole is h)
each_named whole (Help g ins outs ∷ is) h = All-cons (LabelsStand whole) (Help g ins outs) is (All-nil (λ l. 1 ≤ times l whole)) (each_named whole is h)
each_named whole (Ret vs ∷ is) h = All-cons (LabelsStand whole) (Ret vs) is (All-nil (λ l. 1 ≤ times l whole)) (each_named whole is h)
each_named whole (Begin o ∷ is) h = All-cons (LabelsStand whole) (Begin o) is (All-nil (λ l. 1 ≤ times l whole)) (each_named whole is h)
each_named whole (End o ∷ is) h = All-cons (LabelsStand whole) (End o) is (All-nil (λ l. 1 ≤ times l whole)) (each_named whole is h)
each_named whole (Post k d ∷ is) h = All-cons (LabelsStand whole) (Post k d) is (All-nil (λ l. 1 ≤ times l whole)) (each_named whole is h)
each_named whole (Tick ∷ is) h = All-cons (LabelsStand whole) Tick is (All-nil (λ l. 1 ≤ times l whole)) (each_named whole is h)
each_named whole (Fault code ∷ is) h = All-cons (LabelsStand whole) (Fault code) is (All-nil (λ l. 1 ≤ times l whole)) (each_named whole is h)

body_ways : (whole : List Mid) (p : Program) (b : Body) → IsBody p b → WaysStand whole (leads b.code) (ways_of p b) (base_of b + 2)
body_ways whole p b own = record { way = by }
  where
    by : (o : WayOut) → leads b.code o ≡ true → Leads whole (way_out (ways_of p b) (base_of b + 2) o)
    by returning e = record { names = λ more g. g }
    by breaking e = let q = leads_allowed p b.locals b.code (by_return b.result) breaking own.code e in absurd (cc q)
    by continuing e = let q = leads_allowed p b.locals b.code (by_return b.result) continuing own.code e in absurd (cc q)

in_itself : (p : Program) (checks : List Ty) (b : Body) → IsBody p b → NamesIn (body_code p checks b) (body_code p checks b)
in_itself p checks b own =
    let base : ℕ = base_of b in
    let c : List Mid = stmt_code p b.locals checks (spots_of p b) base b.code (ways_of p b) 0 in
    let tail : List Mid = nothing_code b.result (base + 2) ++ Ret (taken_at b.result (base + 2)) ∷ [] in
    let whole : List Mid = body_code p checks b in
    let part : Part whole (c ++ tail) = record { there = λ k le. le } in
    (both whole c tail
    (stmt_names whole p b.locals checks (spots_of p b) base b.code (by_return b.result) (ways_of p b) 0 own.code (body_ways whole p b own) (first_part whole c tail part))
    (both whole (nothing_code b.result (base + 2)) (Ret (taken_at b.result (base + 2)) ∷ []) (nothing_names whole b.result (base + 2)) (record { named = tt }))).named

pub labels_stand : (p : Program) (checks : List Ty) (b : Body) → IsBody p b → All (LabelsStand (body_code p checks b)) (body_code p checks b)
labels_stand p checks b own = each_named (body_code p checks b) (body_code p checks b) (in_itself p checks b own)
