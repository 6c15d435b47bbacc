-- The code of statements, where nothing is known around them.
use Rattle.std.proofs.Common.{◌≡◌, ◌≢◌, ℕ, zero, suc, ◌+◌, ◌-◌, ◌*◌, ◌%◌, ◌<◌, ◌≤◌, ◌==◌, Bool, true, false, List, [], ◌∷◌, ◌++◌, length, take, drop, All, Option, Some, None, refl, sym, ◌∙◌, subst, arith}
use Rattle.std.specs.Prelude.{⊤, ℤ, pos, nat_lt, slice_get, slice_index_or, if◌then◌else◌}
use Rattle.std.specs.Ordering.{int_eq}
use Rattle.std.proofs.lemmas.Bool.{eq-eqb, ne_eqb}
use Rattle.std.proofs.lemmas.Bool.Decides.{nat_tests}
use Rattle.std.proofs.lemmas.List.Elements.{All-head, All-tail}
use Rattle.nm_base.specs.declared.int_type.IntType.{IntType}
use Rattle.nm_base.specs.IntType.{wrapped}
use Rattle.nesc_core.specs.Plain.{Ty, Expr, Exprs, no_exprs, more_exprs, Stmt, Stmts, Case, no_stmts, more_stmts, Program}
use Rattle.nesc_core.specs.Plain as plain
use Rattle.nesc_core.specs.Heres.{gives_value}
use Rattle.nesc_core.specs.Typing.{AllHave, Has, IsResult, IsScalar}
use Rattle.nesc_core.specs.WellFormed.{AreStmts, Exits, IsDone, IsGiven, IsStmt, IsWellFormed, by_result, count_exprs, count_stmts}
use Rattle.nesc_core.specs.WellFormed as formed_
use Rattle.core_meaning.specs.Layout.{size_of}
use Rattle.core_meaning.specs.Flow.{start_of_default}
use Rattle.core_meaning.specs.Work.{number_of}
use Rattle.mid_code.specs.declared.instr.Mid.{Mid}
use Rattle.mid_code.specs.declared.instr.Mid.TheVariants.{Label, Jump, Begin, End, Tick}
use Rattle.mid_code.specs.declared.instr.Test.TheVariants.{Eq, Ne}
use Rattle.mid_code.specs.declared.code.MidCode.{MidCode}
use Rattle.mid_code.specs.Help.{is_wide}
use Rattle.mid_code.specs.Machine.{put}
use Rattle.mid_code.proofs.Written.{put_other, put_same}
use Rattle.lower_expr.specs.declared.spot.Regs.{Regs}
use Rattle.lower_expr.specs.declared.spot.Spot.{Spot}
use Rattle.lower_expr.specs.declared.spot.Spot.TheVariants.{Values, Frame}
use Rattle.lower_expr.specs.Held.{held}
use Rattle.lower_expr.specs.Pieces.{const_code, zero_code}
use Rattle.lower_expr.specs.Code.{all_labels, expr_code, is_void, kind_of_spot, labels, local_code, put_code}
use Rattle.lower_stmt.specs.Code.{WayOut, Ways, breaking, continuing, returning, back, case_code, cases_code, clear_code, clears_code, enter_code, exit_code, here_gives, in_atomic, in_here, in_loop, in_switch, kept_code, label_of, leads, maybe_labels, nothing_code, result_code, returned_code, same_code, some_leads, step_code, stmt_code, stmt_labels, stmts_code, stmts_labels, switch_code, way_out, zero_bytes_code, zero_local_code, zero_regs_code}
use Rattle.lower_stmt.proofs.Cases.{default_inside}
use Rattle.lower_stmt.proofs.Enters.{drop_at, scalar_inside}
use Rattle.lower_stmt.proofs.Leaving.{or_first, or_second}
use Rattle.lower_keeps.proofs.Safe.{IsKnown, IsQuiet, IsQuietOne, IsStable, Leads, if_leads, if_quiet, leads_on, no_code, quiet}
use Rattle.lower_keeps.proofs.Forms.{const_quiet, keep_quiet, zero_quiet}
use Rattle.lower_keeps.proofs.Known.{Clears, Nothing, Pick, clear_facts, clears_facts, enter_facts, facts, maybe_facts, spot_facts, stmt_facts, stmts_facts}
use Rattle.lower_keeps.proofs.Exprs.{Are, AreSpots, expr_leads, first, second}
use Rattle.lower_keeps.proofs.Values.{gives_scalar, has_result, result_scalar, scalar_result}

module _ (code : MidCode) (limit : ℕ) (small : limit ≤ 65535) (at_label : ℕ → (ℕ → ℕ) → Type 0) (p : Program) (formed : IsWellFormed p) (types checks : List Ty) (spots : List Spot) (base : ℕ) (spotted : AreSpots p types spots base limit) where
  abbrev Tasks : ℕ
  Tasks = length p.tasks

  abbrev No : (ℕ → ℕ) → Type 0
  No values = Nothing limit p types checks spots values

  abbrev K : List Mid → Type 0
  K c = Leads code limit Tasks at_label No No c

  abbrev Q : List Mid → Type 0
  Q c = IsQuiet code limit Tasks at_label base 0 No c

  abbrev A : (ℕ → (ℕ → ℕ) → Type 0) → (lo n : ℕ) → Type 0
  A t lo n = Are code limit small at_label p formed types checks spots base spotted t lo n

  abbrev None_at : ℕ → Type 0
  None_at l = IsKnown code limit Tasks at_label l No

  abbrev FE : Expr → (r l k : ℕ) → (ℕ → ℕ) → Type 0
  FE e r l k values = facts limit p types checks spots e (Nothing limit p types checks spots) r l k values

  abbrev FM : Option Expr → (r l k : ℕ) → (ℕ → ℕ) → Type 0
  FM e r l k values = maybe_facts limit p types checks spots base e r l k values

  abbrev FN : Exprs → (l k : ℕ) → (ℕ → ℕ) → Type 0
  FN es l k values = enter_facts limit p types checks spots base es l k values

  abbrev FC : (count x l k : ℕ) → (ℕ → ℕ) → Type 0
  FC count x l k values = clears_facts limit p types checks spots base count x l k values

  abbrev FS : Stmt → (l k : ℕ) → (ℕ → ℕ) → Type 0
  FS s l k values = stmt_facts limit p types checks spots base s l k values

  abbrev FL : Stmts → (l k : ℕ) → (ℕ → ℕ) → Type 0
  FL list l k values = stmts_facts limit p types checks spots base list l k values

  front : (t u : ℕ → (ℕ → ℕ) → Type 0) (lo m n total : ℕ) → A (λ k values. Pick (nat_lt k m) (t k values) (u k values)) lo total → m ≡ lo + n → n ≤ total → A t lo n
  front t u lo m n total h e le = first code limit small at_label p formed types checks spots base spotted t u lo m n total h e le

  back_of : (t u : ℕ → (ℕ → ℕ) → Type 0) (lo m n total rest : ℕ) → A (λ k values. Pick (nat_lt k m) (t k values) (u k values)) lo total → m ≡ lo + n → n + rest ≤ total → A u m rest
  back_of t u lo m n total rest h e le = second code limit small at_label p formed types checks spots base spotted t u lo m n total rest h e le

  both : (a b : List Mid) → K a → K b → K (a ++ b)
  both a b h g = leads_on code limit Tasks at_label No No No a b h g

  stable : (s : ℕ) → IsStable code limit Tasks at_label base s No
  stable s = record { written = λ v n values free k. tt }

  plain_one : (a : List Mid) → Q a → K a
  plain_one a h = quiet code limit Tasks at_label base 0 No (stable 0) a h

  empty : K []
  empty = no_code code limit Tasks at_label No No (λ values k. k)

  label_keeps : (l : ℕ) (c : List Mid) → None_at l → K c → K (Label l ∷ c)
  label_keeps l c e k = both (Label l ∷ []) c (plain_one _ (record { each = (e, tt) })) k

  jump_keeps : (l : ℕ) (c : List Mid) → None_at l → K c → K (Jump l ∷ c)
  jump_keeps l c e k = both (Jump l ∷ []) c (plain_one _ (record { each = (e, tt) })) k

  tick_keeps : (c : List Mid) → K c → K (Tick ∷ c)
  tick_keeps c k = both (Tick ∷ []) c (plain_one _ (record { each = (tt, tt) })) k

  at : (lo n k : ℕ) → A (λ i values. ⊤) lo n → lo ≤ k → k < lo + n → None_at k
  at lo n k h ge lt = h.each k ge lt

  fewer : (t : ℕ → (ℕ → ℕ) → Type 0) (lo n m : ℕ) → m ≤ n → A t lo n → A t lo m
  fewer t lo n m le h = record { each = λ k ge lt. h.each k ge (omega (arith, lt, le)) }

  -- ---- pieces

  const_of : (t : IntType) (x : ℤ) (r : ℕ) → Q (const_code t x r)
  const_of t x r = const_quiet code limit Tasks at_label base 0 No t x r (omega arith)

  zero_of : (test : _) (wide : Bool) (r l : ℕ) → None_at l → Q (zero_code test wide r l)
  zero_of test wide r l e = zero_quiet code limit Tasks at_label base 0 No test wide r l (omega arith) e

  pub nothing_keeps : (ty : Ty) (r : ℕ) → K (nothing_code ty r)
  nothing_keeps ty r = plain_one _ (if_quiet code limit Tasks at_label base 0 No (is_void ty) [] (const_code (number_of ty) (pos 0) r) (record { each = tt }) (const_of (number_of ty) (pos 0) r))

  same_keeps : (wide : Bool) (r l : ℕ) → None_at l → K (same_code wide r l)
  same_keeps true r l e = plain_one _ (record { each = ((λ lt. absurd (omega (arith, lt))), ((λ lt. absurd (omega (arith, lt))), ((λ lt. absurd (omega (arith, lt))), ((λ lt. absurd (omega (arith, lt))), (e, tt))))) })
  same_keeps false r l e = plain_one _ (record { each = (e, tt) })

  case_keeps : (t : IntType) (o : Option ℤ) (r l : ℕ) → None_at l → K (case_code t o r l)
  case_keeps t None r l e = empty
  case_keeps t (Some n) r l e =
      if_leads code limit Tasks at_label No No (int_eq (wrapped t n) n) (const_code t n (r + 2) ++ same_code (is_wide t) r l) []
      (both (const_code t n (r + 2)) (same_code (is_wide t) r l) (plain_one _ (const_of t n (r + 2))) (same_keeps (is_wide t) r l e)) empty

  cases_keep : (t : IntType) (cases : List Case) (default : Option ℕ) (r l count : ℕ) → ((k : ℕ) → k < count → None_at (l + 1 + k)) → None_at (label_of default l) → All (λ c. c.start < count) cases → K (cases_code t cases default r l)
  cases_keep t [] default r l count starts other inside = plain_one _ (record { each = (other, tt) })
  cases_keep t (c ∷ cases) default r l count starts other inside =
      both (case_code t c.value r (label_of (Some c.start) l)) (cases_code t cases default r l)
      (case_keeps t c.value r (label_of (Some c.start) l) (starts c.start (All-head (λ x. x.start < count) c cases inside)))
      (cases_keep t cases default r l count starts other (All-tail (λ x. x.start < count) c cases inside))

  default_at : (cases : List Case) (o : Option ℕ) (l count : ℕ) → start_of_default cases ≡ o → All (λ c. c.start < count) cases → None_at l → ((k : ℕ) → k < count → None_at (l + 1 + k)) → None_at (label_of o l)
  default_at cases None l count is inside out starts = out
  default_at cases (Some k) l count is inside out starts = starts k (default_inside cases count k inside is)

  -- ---- locals

  regs_keep : (wide : Bool) (regs : Regs) → K (zero_regs_code wide regs)
  regs_keep true regs = plain_one _ (record { each = ((λ lt. absurd (omega (arith, lt))), ((λ lt. absurd (omega (arith, lt))), tt)) })
  regs_keep false regs = plain_one _ (record { each = ((λ lt. absurd (omega (arith, lt))), tt) })

  differ : (x y : ℕ) → (x == y) ≡ false → x ≢ y
  differ x y h = grind (arith, nat_tests)

  bytes_keep : (size o l : ℕ) → o + size ≤ limit → IsKnown code limit Tasks at_label l (λ values. Clears limit p types checks spots size o base values) → None_at (l + 1) → K (zero_bytes_code size o base l)
  bytes_keep size o l room at_l out = record {
    over = λ u st k. (
      (
        (λ values h.
            let c = at_l.out values h in (
              (λ e. out.into values tt),
              (λ ne.
                  let most = c.0 in
                  let end = c.1 in
                  let one = c.2 in
                  let apart = differ (values base) (values (base + 2)) ne in
                  let below : values base < o + size = grind (arith, apart, end, most) in
                  let x : ℕ = (values base + values (base + 3)) % 65536 in
                  let same2 : put values base x (base + 2) ≡ values (base + 2) = put_other values base x (base + 2) (λ q. omega (arith, q)) in
                  let same3 : put values base x (base + 3) ≡ values (base + 3) = put_other values base x (base + 3) (λ q. omega (arith, q)) in
                  let own : put values base x base ≡ x = put_same values base x in (
                    (omega (arith, below, room), tt),
                    at_l.into (put values base x) (omega (arith, own, one, below, room, small), same2 ∙ end, same3 ∙ one),
                  )),
            )),
        ((λ values h. k values tt), st),
      ),
      (λ values h.
          let v1 : ℕ → ℕ = put values base o in
          let v2 : ℕ → ℕ = put v1 (base + 1) 0 in
          let v3 : ℕ → ℕ = put v2 (base + 2) (o + size) in
          let v4 : ℕ → ℕ = put v3 (base + 3) 1 in
          let first_is : v4 base ≡ o =
          put_other v3 (base + 3) 1 base (λ q. omega (arith, q)) ∙ put_other v2 (base + 2) (o + size) base (λ q. omega (arith, q)) ∙ put_other v1 (base + 1) 0 base (λ q. omega (arith, q)) ∙ put_same values base o in
          let end_is : v4 (base + 2) ≡ o + size = put_other v3 (base + 3) 1 (base + 2) (λ q. omega (arith, q)) ∙ put_same v2 (base + 2) (o + size) in
          at_l.into v4 (omega (arith, first_is), end_is, put_same v3 (base + 3) 1)),
    );
  }

  spot_keeps : (o : Option Spot) (ty : Ty) (size l : ℕ) → ((q : ℕ) → o ≡ Some (Frame q) → q + size ≤ limit) → A (λ k values. spot_facts limit p types checks spots o size base l k values) l 2 → K (zero_local_code o ty size base l)
  spot_keeps None ty size l room a = empty
  spot_keeps (Some (Values regs)) ty size l room a = regs_keep (is_wide (number_of ty)) regs
  spot_keeps (Some (Frame q)) ty size l room a =
      bytes_keep size q l (room q refl)
      (subst (λ b. IsKnown code limit Tasks at_label l (λ values. Pick b (Clears limit p types checks spots size q base values) ⊤)) (eq-eqb l l refl) (a.each l (omega arith) (omega arith)))
      (subst (λ b. IsKnown code limit Tasks at_label (l + 1) (λ values. Pick b (Clears limit p types checks spots size q base values) ⊤)) (ne_eqb (l + 1) l (λ e. omega (arith, e))) (a.each (l + 1) (omega arith) (omega arith)))

  clear_keeps : (x l : ℕ) → x < length types → A (λ k values. clear_facts limit p types checks spots base x l k values) l 2 → K (clear_code p types checks spots base x l)
  clear_keeps x l lt a = spot_keeps (slice_get spots x) (slice_index_or types x plain.void) (size_of p (slice_index_or types x plain.void)) l (λ q is. spotted.room x q lt is) a

  clears_keep : (count x l : ℕ) → x + count ≤ length types → A (λ k values. FC count x l k values) l (2 * count) → K (clears_code p types checks spots base count x l)
  clears_keep zero x l le a = empty
  clears_keep (suc count) x l le a =
      let fc : ℕ → (ℕ → ℕ) → Type 0 = (λ k values. clear_facts limit p types checks spots base x l k values) in
      let fr : ℕ → (ℕ → ℕ) → Type 0 = (λ k values. FC count (x + 1) (l + 2) k values) in
      let ac : A fc l 2 = front fc fr l (l + 2) 2 (2 * suc count) a (omega arith) (omega arith) in
      let ar : A fr (l + 2) (2 * count) = back_of fc fr l (l + 2) 2 (2 * suc count) (2 * count) a (omega arith) (omega arith) in
      both (clear_code p types checks spots base x l) (clears_code p types checks spots base count (x + 1) (l + 2)) (clear_keeps x l (omega (arith, le)) ac) (clears_keep count (x + 1) (l + 2) (omega (arith, le)) ar)

  -- ---- ways out

  abbrev BackIs : Option ℕ → Type 0
  BackIs None = ⊤
  BackIs (Some l) = None_at l

  abbrev pub WayIs : Ways → WayOut → Type 0
  WayIs w returning = BackIs w.return_to
  WayIs w breaking = None_at w.break_to
  WayIs w continuing = None_at w.continue_to

  pub record WaysAre (own : WayOut → Bool) (w : Ways) : Type 0 where
    pub way : (out : WayOut) → own out ≡ true → WayIs w out

  abbrev One : Mid → Type 0
  One i = IsQuietOne code limit Tasks at_label base 0 No i

  back_one : (o : Option ℕ) (ty : Ty) (r : ℕ) → BackIs o → One (back o ty r)
  back_one None ty r b = tt
  back_one (Some l) ty r b = b

  way_one : (w : Ways) (r : ℕ) (out : WayOut) → WayIs w out → One (way_out w r out)
  way_one w r returning b = back_one w.return_to w.gives r b
  way_one w r breaking b = b
  way_one w r continuing b = b

  way_keeps : (w : Ways) (r : ℕ) (out : WayOut) → WayIs w out → K (way_out w r out ∷ [])
  way_keeps w r out b = plain_one _ (record { each = (way_one w r out b, tt) })

  exit_keeps : (b : Bool) (o l : ℕ) (w : Ways) (r : ℕ) (out : WayOut) → None_at l → None_at (l + 1) → (b ≡ true → WayIs w out) → K (exit_code b o l (way_out w r out))
  exit_keeps false o l w r out inside outside way = empty
  exit_keeps true o l w r out inside outside way = plain_one _ (record { each = (outside, (inside, (tt, (way_one w r out (way refl), (outside, tt))))) })

  loop_ways : (own : WayOut → Bool) (w : Ways) (out next : ℕ) → None_at out → None_at next → (own returning ≡ true → WayIs w returning) → WaysAre own (in_loop out next w)
  loop_ways own w out next h g back = record { way = by }
    where
      by : (o : WayOut) → own o ≡ true → WayIs (in_loop out next w) o
      by returning e = back e
      by breaking e = h
      by continuing e = g

  switch_ways : (own : WayOut → Bool) (w : Ways) (out : ℕ) → None_at out → (own returning ≡ true → WayIs w returning) → (own continuing ≡ true → WayIs w continuing) → WaysAre own (in_switch out w)
  switch_ways own w out h back on = record { way = by }
    where
      by : (o : WayOut) → own o ≡ true → WayIs (in_switch out w) o
      by returning e = back e
      by breaking e = h
      by continuing e = on e

  atomic_ways : (own : WayOut → Bool) (w : Ways) (l : ℕ) → None_at l → None_at (l + 2) → None_at (l + 4) → WaysAre own (in_atomic l w)
  atomic_ways own w l h1 h2 h3 = record { way = by }
    where
      by : (o : WayOut) → own o ≡ true → WayIs (in_atomic l w) o
      by returning e = h1
      by breaking e = h2
      by continuing e = h3

  here_ways : (own : WayOut → Bool) (w : Ways) (l : ℕ) (ty : Ty) → None_at l → WaysAre own (in_here l ty w)
  here_ways own w l ty h = record { way = by }
    where
      by : (o : WayOut) → own o ≡ true → WayIs (in_here l ty w) o
      by returning e = h
      by breaking e = h
      by continuing e = h

  -- ---- statements

  of_expr : (e : Expr) (ty : Ty) (r l : ℕ) → Has p types e ty → base ≤ r → A (λ k values. FE e r l k values) l (labels e) → K (expr_code p types checks spots e r l)
  of_expr e ty r l h le a = expr_leads code limit small at_label p formed types checks spots base spotted e ty No r l h le (stable r) a

  step_keeps : (e : Option Expr) (l : ℕ) → IsDone p types e → A (λ k values. FM e base l k values) l (maybe_labels e) → K (step_code p types checks spots base e l)
  step_keeps None l h a = empty
  step_keeps (Some e) l h a = of_expr e h.0 base l h.1 (omega arith) a

  returned_keeps : (e : Option Expr) (w : Ways) (t : Ty) (l : ℕ) → IsGiven p types e t → A (λ k values. FM e (base + 2) l k values) l (maybe_labels e) → K (returned_code p types checks spots base e w l)
  returned_keeps None w t l h a = nothing_keeps w.gives (base + 2)
  returned_keeps (Some e) w t l h a = of_expr e t (base + 2) l h.1 (omega arith) a

  -- a number or a pointer is held in values
  held_at : (ty : Ty) (x : ℕ) (o : Option Spot) → x < length types → slice_get spots x ≡ o → slice_index_or types x plain.void ≡ ty → IsScalar ty → (work : List Mid) → K work →
      K (local_code o base ++ (work ++ put_code (kind_of_spot o) (number_of ty) (base + 2) base))
  held_at ty x None lt at_x is scalar work h = absurd (spotted.there x lt at_x)
  held_at ty x (Some (Frame o)) lt at_x is scalar work h = absurd (spotted.values x o lt at_x (subst IsScalar (sym is) scalar))
  held_at ty x (Some (Values regs)) lt at_x is scalar work h =
      both work (put_code (kind_of_spot (Some (Values regs))) (number_of ty) (base + 2) base) h
      (plain_one _ (keep_quiet code limit Tasks at_label base 0 No (is_wide (number_of ty)) regs (base + 2) (spotted.low x regs lt at_x) (spotted.high x regs lt at_x)))

  kept_keeps : (x : ℕ) → x < length types → IsResult (slice_index_or types x plain.void) → (work : List Mid) → K work → K (kept_code p types checks spots base (slice_index_or types x plain.void) (slice_get spots x) work)
  kept_keeps x lt is work h = by (is_void (slice_index_or types x plain.void)) refl
    where
      by : (b : Bool) → is_void (slice_index_or types x plain.void) ≡ b →
          K (if b then work else local_code (slice_get spots x) base ++ (work ++ put_code (kind_of_spot (slice_get spots x)) (number_of (slice_index_or types x plain.void)) (base + 2) base))
      by true e = h
      by false e = held_at (slice_index_or types x plain.void) x (slice_get spots x) lt refl refl (result_scalar (slice_index_or types x plain.void) is e) work h

  enter_keeps : (es : Exprs) (x l : ℕ) → x + count_exprs es ≤ length types → AllHave p types es (take (count_exprs es) (drop x types)) → A (λ k values. FN es l k values) l (all_labels es) → K (enter_code p types checks spots base es x l)
  enter_keeps no_exprs x l le h a = empty
  enter_keeps (more_exprs e rest) x l le h a =
      let ty : Ty = slice_index_or types x plain.void in
      let lt : x < length types = omega (arith, le) in
      let split : AllHave p types (more_exprs e rest) (take (suc (count_exprs rest)) (ty ∷ drop (x + 1) types)) = subst (λ ts. AllHave p types (more_exprs e rest) (take (suc (count_exprs rest)) ts)) (drop_at types x lt) h in
      let fe : ℕ → (ℕ → ℕ) → Type 0 = (λ k values. FE e (base + 2) l k values) in
      let fr : ℕ → (ℕ → ℕ) → Type 0 = (λ k values. FN rest (l + labels e) k values) in
      let ae : A fe l (labels e) = front fe fr l (l + labels e) (labels e) (labels e + all_labels rest) a (omega arith) (omega arith) in
      let ar : A fr (l + labels e) (all_labels rest) = back_of fe fr l (l + labels e) (labels e) (labels e + all_labels rest) (all_labels rest) a (omega arith) (omega arith) in
      both (kept_code p types checks spots base ty (slice_get spots x) (expr_code p types checks spots e (base + 2) l)) (enter_code p types checks spots base rest (x + 1) (l + labels e))
      (kept_keeps x lt (has_result p formed types e ty split.0) (expr_code p types checks spots e (base + 2) l) (of_expr e ty (base + 2) l split.0 (omega arith) ae)) (enter_keeps rest (x + 1) (l + labels e) (omega (arith, le)) split.1 ar)

  result_keeps : (b : Bool) (x : ℕ) → (b ≡ true → IsScalar (slice_index_or types x plain.void)) → K (result_code p types checks spots base b x)
  result_keeps false x scalar = empty
  result_keeps true x scalar =
      let is = scalar refl in kept_keeps x (scalar_inside types x is) (scalar_result (slice_index_or types x plain.void) is) [] empty

  loop_keeps : (early : Bool) (test : Expr) (step : Option Expr) (body : Stmt) (exits : Exits) (w : Ways) (l : ℕ) → IsStmt p types (plain.loop early test step body) exits → A (λ k values. ⊤) l 3 →
      A (λ k values. FE test base (l + 3) k values) (l + 3) (labels test) → A (λ k values. FM step base (l + 3 + labels test) k values) (l + 3 + labels test) (maybe_labels step) →
      K (stmt_code p types checks spots base body (in_loop (l + 1) (l + 2) w) (l + 3 + labels test + maybe_labels step)) →
      K (stmt_code p types checks spots base (plain.loop early test step body) w l)
  loop_keeps true test step body exits w l typed own of_test of_step of_body =
      let lb : ℕ = l + 3 + labels test + maybe_labels step in
      let inner : Ways = in_loop (l + 1) (l + 2) w in
      let e0 = at l 3 l own (omega arith) (omega arith) in
      let e1 = at l 3 (l + 1) own (omega arith) (omega arith) in
      let e2 = at l 3 (l + 2) own (omega arith) (omega arith) in
      let ct : List Mid = expr_code p types checks spots test base (l + 3) in
      let z : List Mid = zero_code Eq (is_wide (held p types test)) base (l + 1) in
      let cb : List Mid = stmt_code p types checks spots base body inner lb in
      let cs : List Mid = step_code p types checks spots base step (l + 3 + labels test) in
      let last : List Mid = Label (l + 2) ∷ (cs ++ Jump l ∷ Label (l + 1) ∷ []) in
      let steps : K (cs ++ Jump l ∷ Label (l + 1) ∷ []) = both cs (Jump l ∷ Label (l + 1) ∷ []) (step_keeps step (l + 3 + labels test) typed.1 of_step) (plain_one _ (record { each = (e0, (e1, tt)) })) in
      let turn : K (ct ++ (z ++ (cb ++ last))) =
      both ct (z ++ (cb ++ last)) (of_expr test typed.0.0 base (l + 3) typed.0.2 (omega arith) of_test)
      (both z (cb ++ last) (plain_one _ (zero_of Eq (is_wide (held p types test)) base (l + 1) e1))
      (both cb last of_body (label_keeps (l + 2) (cs ++ Jump l ∷ Label (l + 1) ∷ []) e2 steps))) in
      label_keeps l (Tick ∷ (ct ++ (z ++ (cb ++ last)))) e0 (tick_keeps (ct ++ (z ++ (cb ++ last))) turn)
  loop_keeps false test step body exits w l typed own of_test of_step of_body =
      let lb : ℕ = l + 3 + labels test + maybe_labels step in
      let inner : Ways = in_loop (l + 1) (l + 2) w in
      let e0 = at l 3 l own (omega arith) (omega arith) in
      let e1 = at l 3 (l + 1) own (omega arith) (omega arith) in
      let e2 = at l 3 (l + 2) own (omega arith) (omega arith) in
      let ct : List Mid = expr_code p types checks spots test base (l + 3) in
      let z : List Mid = zero_code Ne (is_wide (held p types test)) base l in
      let cb : List Mid = stmt_code p types checks spots base body inner lb in
      let tests : K (ct ++ (z ++ Label (l + 1) ∷ [])) =
      both ct (z ++ Label (l + 1) ∷ []) (of_expr test typed.0.0 base (l + 3) typed.0.2 (omega arith) of_test)
      (both z (Label (l + 1) ∷ []) (plain_one _ (zero_of Ne (is_wide (held p types test)) base l e0)) (plain_one _ (record { each = (e1, tt) }))) in
      let turn : K (cb ++ (Label (l + 2) ∷ (ct ++ (z ++ Label (l + 1) ∷ [])))) =
      both cb (Label (l + 2) ∷ (ct ++ (z ++ Label (l + 1) ∷ []))) of_body
      (label_keeps (l + 2) (ct ++ (z ++ Label (l + 1) ∷ [])) e2 tests) in
      label_keeps l (Tick ∷ (cb ++ (Label (l + 2) ∷ (ct ++ (z ++ Label (l + 1) ∷ []))))) e0 (tick_keeps (cb ++ (Label (l + 2) ∷ (ct ++ (z ++ Label (l + 1) ∷ [])))) turn)

  mutual
    pub stmt_keeps : (s : Stmt) (exits : Exits) (w : Ways) (l : ℕ) → limit ≤ w.status → IsStmt p types s exits → A (λ k values. FS s l k values) l (stmt_labels s) → WaysAre (leads s) w → K (stmt_code p types checks spots base s w l)
    stmt_keeps (plain.eval e) exits w l from_limit typed a ways = of_expr e typed.0 base l typed.1 (omega arith) a
    stmt_keeps (plain.block list) exits w l from_limit typed a ways = stmts_keep list exits w l from_limit typed a (record { way = λ o e. ways.way o e })
    stmt_keeps (plain.branch test x y) exits w l from_limit typed a ways =
        let la : ℕ = l + 2 + labels test in
        let lb : ℕ = la + stmt_labels x in
        let n : ℕ = 2 + labels test + stmt_labels x + stmt_labels y in
        let ft : ℕ → (ℕ → ℕ) → Type 0 = (λ k values. FE test base (l + 2) k values) in
        let fx : ℕ → (ℕ → ℕ) → Type 0 = (λ k values. FS x la k values) in
        let fy : ℕ → (ℕ → ℕ) → Type 0 = (λ k values. FS y lb k values) in
        let fs : ℕ → (ℕ → ℕ) → Type 0 = (λ k values. Pick (nat_lt k lb) (fx k values) (fy k values)) in
        let fr : ℕ → (ℕ → ℕ) → Type 0 = (λ k values. Pick (nat_lt k la) (ft k values) (fs k values)) in
        let own : A (λ k values. ⊤) l 2 = front (λ k values. ⊤) fr l (l + 2) 2 n a (omega arith) (omega arith) in
        let rest : A fr (l + 2) (labels test + stmt_labels x + stmt_labels y) = back_of (λ k values. ⊤) fr l (l + 2) 2 n (labels test + stmt_labels x + stmt_labels y) a (omega arith) (omega arith) in
        let of_test : A ft (l + 2) (labels test) = front ft fs (l + 2) la (labels test) (labels test + stmt_labels x + stmt_labels y) rest (omega arith) (omega arith) in
        let rest2 : A fs la (stmt_labels x + stmt_labels y) = back_of ft fs (l + 2) la (labels test) (labels test + stmt_labels x + stmt_labels y) (stmt_labels x + stmt_labels y) rest (omega arith) (omega arith) in
        let of_x : A fx la (stmt_labels x) = front fx fy la lb (stmt_labels x) (stmt_labels x + stmt_labels y) rest2 (omega arith) (omega arith) in
        let of_y : A fy lb (stmt_labels y) = back_of fx fy la lb (stmt_labels x) (stmt_labels x + stmt_labels y) (stmt_labels y) rest2 (omega arith) (omega arith) in
        let e0 = at l 2 l own (omega arith) (omega arith) in
        let e1 = at l 2 (l + 1) own (omega arith) (omega arith) in
        let ct : List Mid = expr_code p types checks spots test base (l + 2) in
        let z : List Mid = zero_code Eq (is_wide (held p types test)) base l in
        let ca : List Mid = stmt_code p types checks spots base x w la in
        let cb : List Mid = stmt_code p types checks spots base y w lb in
        let last : K (cb ++ Label (l + 1) ∷ []) =
        both cb (Label (l + 1) ∷ []) (stmt_keeps y exits w lb from_limit typed.2 of_y (record { way = λ o e. ways.way o (or_second (leads x o) (leads y o) e) })) (plain_one _ (record { each = (e1, tt) })) in
        both ct (z ++ (ca ++ (Jump (l + 1) ∷ Label l ∷ (cb ++ Label (l + 1) ∷ [])))) (of_expr test typed.0.0 base (l + 2) typed.0.2 (omega arith) of_test)
        (both z (ca ++ (Jump (l + 1) ∷ Label l ∷ (cb ++ Label (l + 1) ∷ []))) (plain_one _ (zero_of Eq (is_wide (held p types test)) base l e0))
        (both ca (Jump (l + 1) ∷ Label l ∷ (cb ++ Label (l + 1) ∷ [])) (stmt_keeps x exits w la from_limit typed.1 of_x (record { way = λ o e. ways.way o (or_first (leads x o) (leads y o) e) }))
        (jump_keeps (l + 1) (Label l ∷ (cb ++ Label (l + 1) ∷ [])) e1 (label_keeps l (cb ++ Label (l + 1) ∷ []) e0 last))))
    stmt_keeps (plain.loop early test step body) exits w l from_limit typed a ways =
        let ls : ℕ = l + 3 + labels test in
        let lb : ℕ = ls + maybe_labels step in
        let n : ℕ = 3 + labels test + maybe_labels step + stmt_labels body in
        let ft : ℕ → (ℕ → ℕ) → Type 0 = (λ k values. FE test base (l + 3) k values) in
        let fs : ℕ → (ℕ → ℕ) → Type 0 = (λ k values. FM step base ls k values) in
        let fb : ℕ → (ℕ → ℕ) → Type 0 = (λ k values. FS body lb k values) in
        let f2 : ℕ → (ℕ → ℕ) → Type 0 = (λ k values. Pick (nat_lt k lb) (fs k values) (fb k values)) in
        let fr : ℕ → (ℕ → ℕ) → Type 0 = (λ k values. Pick (nat_lt k ls) (ft k values) (f2 k values)) in
        let own : A (λ k values. ⊤) l 3 = front (λ k values. ⊤) fr l (l + 3) 3 n a (omega arith) (omega arith) in
        let rest : A fr (l + 3) (labels test + maybe_labels step + stmt_labels body) = back_of (λ k values. ⊤) fr l (l + 3) 3 n (labels test + maybe_labels step + stmt_labels body) a (omega arith) (omega arith) in
        let of_test : A ft (l + 3) (labels test) = front ft f2 (l + 3) ls (labels test) (labels test + maybe_labels step + stmt_labels body) rest (omega arith) (omega arith) in
        let rest2 : A f2 ls (maybe_labels step + stmt_labels body) = back_of ft f2 (l + 3) ls (labels test) (labels test + maybe_labels step + stmt_labels body) (maybe_labels step + stmt_labels body) rest (omega arith) (omega arith) in
        let of_step : A fs ls (maybe_labels step) = front fs fb ls lb (maybe_labels step) (maybe_labels step + stmt_labels body) rest2 (omega arith) (omega arith) in
        let of_body : A fb lb (stmt_labels body) = back_of fs fb ls lb (maybe_labels step) (maybe_labels step + stmt_labels body) (stmt_labels body) rest2 (omega arith) (omega arith) in
        let bodies : K (stmt_code p types checks spots base body (in_loop (l + 1) (l + 2) w) lb) =
        stmt_keeps body (formed_.in_loop exits) (in_loop (l + 1) (l + 2) w) lb from_limit typed.2 of_body
        (loop_ways (leads body) w (l + 1) (l + 2) (at l 3 (l + 1) own (omega arith) (omega arith)) (at l 3 (l + 2) own (omega arith) (omega arith)) (λ e. ways.way returning e)) in
        loop_keeps early test step body exits w l typed own of_test of_step bodies
    stmt_keeps (plain.switch e cases list) exits w l from_limit typed a ways =
        let count : ℕ = count_stmts list in
        let le : ℕ = l + 1 + count in
        let ls : ℕ = le + labels e in
        let n : ℕ = 1 + count + labels e + stmts_labels list in
        let inner : Ways = in_switch l w in
        let fe : ℕ → (ℕ → ℕ) → Type 0 = (λ k values. FE e base le k values) in
        let fl : ℕ → (ℕ → ℕ) → Type 0 = (λ k values. FL list ls k values) in
        let fr : ℕ → (ℕ → ℕ) → Type 0 = (λ k values. Pick (nat_lt k ls) (fe k values) (fl k values)) in
        let own : A (λ k values. ⊤) l (1 + count) = front (λ k values. ⊤) fr l le (1 + count) n a (omega arith) (omega arith) in
        let rest : A fr le (labels e + stmts_labels list) = back_of (λ k values. ⊤) fr l le (1 + count) n (labels e + stmts_labels list) a (omega arith) (omega arith) in
        let of_e : A fe le (labels e) = front fe fl le ls (labels e) (labels e + stmts_labels list) rest (omega arith) (omega arith) in
        let of_list : A fl ls (stmts_labels list) = back_of fe fl le ls (labels e) (labels e + stmts_labels list) (stmts_labels list) rest (omega arith) (omega arith) in
        let out : None_at l = at l (1 + count) l own (omega arith) (omega arith) in
        let starts : (k : ℕ) → k < count → None_at (l + 1 + k) = (λ k lt. at l (1 + count) (l + 1 + k) own (omega arith) (omega (arith, lt))) in
        let ct : List Mid = expr_code p types checks spots e base le in
        let z : List Mid = cases_code (held p types e) cases (start_of_default cases) base l in
        let cs : List Mid = switch_code p types checks spots base list inner (l + 1) ls in
        both ct (z ++ (cs ++ Label l ∷ [])) (of_expr e (plain.int typed.0.0) base le typed.0.1 (omega arith) of_e)
        (both z (cs ++ Label l ∷ []) (cases_keep (held p types e) cases (start_of_default cases) base l count starts (default_at cases (start_of_default cases) l count refl typed.1 out starts) typed.1)
        (both cs (Label l ∷ [])
        (switch_keeps list (formed_.in_switch exits) inner (l + 1) ls from_limit typed.2 of_list (switch_ways (some_leads list) w l out (λ q. ways.way returning q) (λ q. ways.way continuing q)) starts) (plain_one _ (record { each = (out, tt) }))))
    stmt_keeps plain.break exits w l from_limit typed a ways = way_keeps w (base + 2) breaking (ways.way breaking refl)
    stmt_keeps plain.continue exits w l from_limit typed a ways = way_keeps w (base + 2) continuing (ways.way continuing refl)
    stmt_keeps (plain.return e) exits w l from_limit typed a ways =
        both (returned_code p types checks spots base e w l) (way_out w (base + 2) returning ∷ []) (returned_keeps e w exits.gives l typed a) (way_keeps w (base + 2) returning (ways.way returning refl))
    stmt_keeps (plain.atomic s) exits w l from_limit typed a ways =
        let fs : ℕ → (ℕ → ℕ) → Type 0 = (λ k values. FS s (l + 6) k values) in
        let own : A (λ k values. ⊤) l 6 = front (λ k values. ⊤) fs l (l + 6) 6 (6 + stmt_labels s) a (omega arith) (omega arith) in
        let of_s : A fs (l + 6) (stmt_labels s) = back_of (λ k values. ⊤) fs l (l + 6) 6 (6 + stmt_labels s) (stmt_labels s) a (omega arith) (omega arith) in
        let none : (k : ℕ) → l ≤ k → k < l + 6 → None_at k = (λ k ge lt. at l 6 k own ge lt) in
        let cs : List Mid = stmt_code p types checks spots base s (in_atomic l w) (l + 6) in
        let x1 : List Mid = exit_code (leads s returning) w.status l (way_out w (base + 2) returning) in
        let x2 : List Mid = exit_code (leads s breaking) w.status (l + 2) (way_out w (base + 2) breaking) in
        let x3 : List Mid = exit_code (leads s continuing) w.status (l + 4) (way_out w (base + 2) continuing) in
        let leaves : K (x1 ++ (x2 ++ x3)) =
        both x1 (x2 ++ x3) (exit_keeps (leads s returning) w.status l w (base + 2) returning (none l (omega arith) (omega arith)) (none (l + 1) (omega arith) (omega arith)) (λ q. ways.way returning q))
        (both x2 x3 (exit_keeps (leads s breaking) w.status (l + 2) w (base + 2) breaking (none (l + 2) (omega arith) (omega arith)) (none (l + 2 + 1) (omega arith) (omega arith)) (λ q. ways.way breaking q))
        (exit_keeps (leads s continuing) w.status (l + 4) w (base + 2) continuing (none (l + 4) (omega arith) (omega arith)) (none (l + 4 + 1) (omega arith) (omega arith)) (λ q. ways.way continuing q))) in
        let within : K (cs ++ (End w.status ∷ (x1 ++ (x2 ++ x3)))) =
        both cs (End w.status ∷ (x1 ++ (x2 ++ x3)))
        (stmt_keeps s exits (in_atomic l w) (l + 6) (omega (arith, from_limit)) typed of_s (atomic_ways (leads s) w l (none l (omega arith) (omega arith)) (none (l + 2) (omega arith) (omega arith)) (none (l + 4) (omega arith) (omega arith))))
        (both (End w.status ∷ []) (x1 ++ (x2 ++ x3)) (plain_one _ (record { each = (tt, tt) })) leaves) in
        both (Begin w.status ∷ []) (cs ++ (End w.status ∷ (x1 ++ (x2 ++ x3)))) (plain_one _ (record { each = (from_limit, tt) })) within
    stmt_keeps (plain.clear x) exits w l from_limit typed a ways =
        clear_keeps x l typed a
    stmt_keeps (plain.here arguments from count body) exits w l from_limit typed a ways =
        let gives : Bool = gives_value body in
        let inner : Ways = in_here l (here_gives p types checks spots base gives (from + count)) w in
        let args : ℕ = count_exprs arguments in
        let la : ℕ = all_labels arguments in
        let lc : ℕ = l + 1 + la in
        let lb : ℕ = lc + 2 * count in
        let n : ℕ = 1 + la + 2 * count + stmt_labels body in
        let fa : ℕ → (ℕ → ℕ) → Type 0 = (λ k values. FN arguments (l + 1) k values) in
        let fb : ℕ → (ℕ → ℕ) → Type 0 = (λ k values. FS body lb k values) in
        let fw : ℕ → (ℕ → ℕ) → Type 0 = (λ k values. FC (count - args) (from + args) lc k values) in
        let f2 : ℕ → (ℕ → ℕ) → Type 0 = (λ k values. Pick (nat_lt k lb) (fw k values) (fb k values)) in
        let fr : ℕ → (ℕ → ℕ) → Type 0 = (λ k values. Pick (nat_lt k lc) (fa k values) (f2 k values)) in
        let own : A (λ k values. ⊤) l 1 = front (λ k values. ⊤) fr l (l + 1) 1 n a (omega arith) (omega arith) in
        let rest : A fr (l + 1) (la + 2 * count + stmt_labels body) = back_of (λ k values. ⊤) fr l (l + 1) 1 n (la + 2 * count + stmt_labels body) a (omega arith) (omega arith) in
        let of_args : A fa (l + 1) la = front fa f2 (l + 1) lc la (la + 2 * count + stmt_labels body) rest (omega arith) (omega arith) in
        let rest2 : A f2 lc (2 * count + stmt_labels body) = back_of fa f2 (l + 1) lc la (la + 2 * count + stmt_labels body) (2 * count + stmt_labels body) rest (omega arith) (omega arith) in
        let of_clears : A fw lc (2 * count) = front fw fb lc lb (2 * count) (2 * count + stmt_labels body) rest2 (omega arith) (omega arith) in
        let of_body : A fb lb (stmt_labels body) = back_of fw fb lc lb (2 * count) (2 * count + stmt_labels body) (stmt_labels body) rest2 (omega arith) (omega arith) in
        let out : None_at l = at l 1 l own (omega arith) (omega arith) in
        let ca : List Mid = enter_code p types checks spots base arguments from (l + 1) in
        let cw : List Mid = clears_code p types checks spots base (count - args) (from + args) lc in
        let cb : List Mid = stmt_code p types checks spots base body inner lb in
        let cn : List Mid = nothing_code inner.gives (base + 2) in
        let cr : List Mid = result_code p types checks spots base gives (from + count) in
        let results : K cr = result_keeps gives (from + count) (λ e. gives_scalar p formed types body (by_result p types from count) typed.1 e) in
        let called : K (cb ++ (cn ++ (Label l ∷ Tick ∷ cr))) =
        both cb (cn ++ (Label l ∷ Tick ∷ cr))
        (stmt_keeps body (by_result p types from count) inner lb from_limit typed.1 of_body (here_ways (leads body) w l (here_gives p types checks spots base gives (from + count)) out))
        (both cn (Label l ∷ Tick ∷ cr) (nothing_keeps inner.gives (base + 2)) (label_keeps l (Tick ∷ cr) out (tick_keeps cr results))) in
        both ca (cw ++ (Tick ∷ (cb ++ (cn ++ (Label l ∷ Tick ∷ cr))))) (enter_keeps arguments from (l + 1) (let inside = typed.0.inside in let room = typed.0.room in omega (arith, inside, room)) typed.0.passed of_args)
        (both cw (Tick ∷ (cb ++ (cn ++ (Label l ∷ Tick ∷ cr)))) (clears_keep (count - args) (from + args) lc (let inside = typed.0.inside in let room = typed.0.room in omega (arith, inside, room)) (fewer fw lc (2 * count) (2 * (count - args)) (omega arith) of_clears))
        (tick_keeps (cb ++ (cn ++ (Label l ∷ Tick ∷ cr))) called))

    stmts_keep : (list : Stmts) (exits : Exits) (w : Ways) (l : ℕ) → limit ≤ w.status → AreStmts p types list exits → A (λ k values. FL list l k values) l (stmts_labels list) → WaysAre (some_leads list) w → K (stmts_code p types checks spots base list w l)
    stmts_keep no_stmts exits w l from_limit typed a ways = empty
    stmts_keep (more_stmts s rest) exits w l from_limit typed a ways =
        let fs : ℕ → (ℕ → ℕ) → Type 0 = (λ k values. FS s l k values) in
        let fr : ℕ → (ℕ → ℕ) → Type 0 = (λ k values. FL rest (l + stmt_labels s) k values) in
        let of_s : A fs l (stmt_labels s) = front fs fr l (l + stmt_labels s) (stmt_labels s) (stmt_labels s + stmts_labels rest) a (omega arith) (omega arith) in
        let of_rest : A fr (l + stmt_labels s) (stmts_labels rest) = back_of fs fr l (l + stmt_labels s) (stmt_labels s) (stmt_labels s + stmts_labels rest) (stmts_labels rest) a (omega arith) (omega arith) in
        both (stmt_code p types checks spots base s w l) (stmts_code p types checks spots base rest w (l + stmt_labels s))
        (stmt_keeps s exits w l from_limit typed.0 of_s (record { way = λ o e. ways.way o (or_first (leads s o) (some_leads rest o) e) }))
        (stmts_keep rest exits w (l + stmt_labels s) from_limit typed.1 of_rest (record { way = λ o e. ways.way o (or_second (leads s o) (some_leads rest o) e) }))

    switch_keeps : (list : Stmts) (exits : Exits) (w : Ways) (j l : ℕ) → limit ≤ w.status → AreStmts p types list exits → A (λ k values. FL list l k values) l (stmts_labels list) → WaysAre (some_leads list) w →
        ((k : ℕ) → k < count_stmts list → None_at (j + k)) → K (switch_code p types checks spots base list w j l)
    switch_keeps no_stmts exits w j l from_limit typed a ways starts = empty
    switch_keeps (more_stmts s rest) exits w j l from_limit typed a ways starts =
        let fs : ℕ → (ℕ → ℕ) → Type 0 = (λ k values. FS s l k values) in
        let fr : ℕ → (ℕ → ℕ) → Type 0 = (λ k values. FL rest (l + stmt_labels s) k values) in
        let of_s : A fs l (stmt_labels s) = front fs fr l (l + stmt_labels s) (stmt_labels s) (stmt_labels s + stmts_labels rest) a (omega arith) (omega arith) in
        let of_rest : A fr (l + stmt_labels s) (stmts_labels rest) = back_of fs fr l (l + stmt_labels s) (stmt_labels s) (stmt_labels s + stmts_labels rest) (stmts_labels rest) a (omega arith) (omega arith) in
        let here : j ≡ j + 0 = omega arith in
        let own : None_at j = subst None_at (sym here) (starts 0 (omega arith)) in
        let next : (k : ℕ) → k < count_stmts rest → None_at (suc j + k) = (λ k lt. (let e : suc j + k ≡ j + suc k = omega arith in subst None_at (sym e) (starts (suc k) (omega (arith, lt))))) in
        let each : K (stmt_code p types checks spots base s w l ++ switch_code p types checks spots base rest w (suc j) (l + stmt_labels s)) =
        both (stmt_code p types checks spots base s w l) (switch_code p types checks spots base rest w (suc j) (l + stmt_labels s))
        (stmt_keeps s exits w l from_limit typed.0 of_s (record { way = λ o e. ways.way o (or_first (leads s o) (some_leads rest o) e) }))
        (switch_keeps rest exits w (suc j) (l + stmt_labels s) from_limit typed.1 of_rest (record { way = λ o e. ways.way o (or_second (leads s o) (some_leads rest o) e) }) next) in
        label_keeps j (stmt_code p types checks spots base s w l ++ switch_code p types checks spots base rest w (suc j) (l + stmt_labels s)) own each
