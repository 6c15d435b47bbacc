-- No label stands twice in the code of a body, so each is found where it stands.
use Rattle.std.proofs.Common.{◌≡◌, ◌≢◌, ⊎_elim, ℕ, zero, suc, ◌+◌, ◌-◌, ◌*◌, ◌<◌, ◌≤◌, Bool, true, false, List, [], ◌∷◌, ◌++◌, map, Option, Some, None, refl, ap, subst, arith}
use Rattle.std.specs.Prelude.{ℤ, pos, ◌==◌, slice_get, slice_index_or, if◌then◌else◌}
use Rattle.std.specs.Ordering.{int_eq}
use Rattle.std.proofs.lemmas.Bool.Decides.{eqb_tells}
use Rattle.nm_base.specs.declared.int_type.IntType.{IntType}
use Rattle.nm_base.specs.declared.int_type.IntType.TheVariants.{I8, U8, I16, U16, I32, U32}
use Rattle.nm_base.specs.IntType.{wrapped}
use Rattle.nesc_core.specs.Plain.{Ty, Expr, Exprs, no_exprs, more_exprs, Stmt, Stmts, Case, no_stmts, more_stmts, Body, Program}
use Rattle.nesc_core.specs.Plain as plain
use Rattle.nesc_core.specs.Heres.{gives_value}
use Rattle.nesc_core.specs.WellFormed.{count_exprs, count_stmts}
use Rattle.core_meaning.specs.Layout.{size_of}
use Rattle.core_meaning.specs.Work.{number_of}
use Rattle.core_meaning.specs.Flow.{start_of_default}
use Rattle.mid_code.specs.declared.instr.Mid.{Mid}
use Rattle.mid_code.specs.declared.instr.Mid.TheVariants.{Label, Jump, Ret, End, Tick}
use Rattle.mid_code.specs.declared.instr.Test.{Test}
use Rattle.mid_code.specs.declared.instr.Test.TheVariants.{Eq, Ne}
use Rattle.mid_code.specs.Form.{one_more, times}
use Rattle.mid_code.specs.Help.{is_wide}
use Rattle.mid_code.specs.Machine.{is_label, no_fn}
use Rattle.mid_code.specs.Runs.{IsLabelled}
use Rattle.mid_code.proofs.Labels.{found}
use Rattle.lower_expr.specs.declared.spot.Spot.{Spot}
use Rattle.lower_expr.specs.declared.spot.Spot.TheVariants.{Values, Frame}
use Rattle.lower_expr.specs.Held.{held}
use Rattle.lower_expr.specs.Pieces.{const_code, zero_code}
use Rattle.lower_expr.specs.Code.{Kind, InValues, InFrame, InMemory, all_labels, expr_code, is_void, keep_code, kind_of_spot, labels, local_code, poke_code, put_code, store_code, taken_at}
use Rattle.expr_emitter.proofs.Labels.{has_labels}
use Rattle.lower_stmt.specs.Code.{WayOut, Ways, breaking, continuing, returning, back, case_code, cases_code, clear_code, clears_code, enter_code, exit_code, exits_code, here_gives, in_atomic, in_here, in_loop, in_switch, kept_code, label_of, leads, maybe_labels, nothing_code, result_code, returned_code, same_code, step_code, stmt_code, stmt_labels, stmts_code, stmts_labels, switch_code, way_out, zero_local_code, zero_regs_code}
use Rattle.lower_stmt.specs.Bodies.{base_of, body_code, checks_of, lowered, mid_fn_of, spots_of, ways_of}
use Rattle.lower_stmt.specs.Correct.{AreLabelled}

-- ---- counting

-- t is how often the label k stands in code whose labels are n, from lo on
record Once (k lo n t : ℕ) : Type 0 where
  under : k < lo → t ≡ 0
  over : lo + n ≤ k → t ≡ 0
  most : t ≤ 1

pub times_both : (k : ℕ) (a b : List Mid) → times k (a ++ b) ≡ times k a + times k b
times_both k [] b = omega arith
times_both k (i ∷ a) b =
    let r = times_both k a b in
    elim (is_label i k) as (λ t. one_more t (times k (a ++ b)) ≡ one_more t (times k a) + times k b) [ true ↦ omega (arith, r) | false ↦ r ]

abbrev at_label : ℕ → ℕ → ℕ
at_label k l = one_more (l == k) 0

one_tells : (k l : ℕ) → (l ≡ k → at_label k l ≡ 1) × (l ≢ k → at_label k l ≡ 0) × (at_label k l ≤ 1)
one_tells k l =
    ⊎_elim
    (λ t. let e = ap (λ b. one_more b 0) t.0 in ((λ _. e), (λ other. absurd (other t.1)), omega (arith, e)))
    (λ t. let e = ap (λ b. one_more b 0) t.0 in ((λ is. absurd (t.1 is)), (λ _. e), omega (arith, e)))
    (eqb_tells l k)

one : (k l : ℕ) → Once k l 1 (at_label k l)
one k l = let t = one_tells k l in record { under = λ lt. t.1 (λ e. omega arith); over = λ ge. t.1 (λ e. omega arith); most = t.2 }

one_plus : (k l n : ℕ) → one_more (l == k) n ≡ at_label k l + n
one_plus k l n = elim (l == k) as (λ b. one_more b n ≡ one_more b 0 + n) [ true ↦ omega arith | false ↦ omega arith ]

join : (k lo1 n1 lo2 n2 lo n t u v : ℕ) → lo ≤ lo1 → lo1 + n1 ≤ lo2 → lo2 + n2 ≤ lo + n → v ≡ t + u → Once k lo1 n1 t → Once k lo2 n2 u → Once k lo n v
join k lo1 n1 lo2 n2 lo n t u v a b c e h h2 = record { under = λ lt. grind arith; over = λ ge. grind arith; most = grind arith }

-- one label, and those behind it
next : (k l n t v : ℕ) → v ≡ at_label k l + t → Once k (l + 1) n t → Once k l (1 + n) v
next k l n t v e h = join k l 1 (l + 1) n l (1 + n) (at_label k l) t v (omega arith) (omega arith) (omega arith) e (one k l) h

wider : (k lo1 n1 lo n t u : ℕ) → lo ≤ lo1 → lo1 + n1 ≤ lo + n → u ≡ t → Once k lo1 n1 t → Once k lo n u
wider k lo1 n1 lo n t u a b e h = join k lo1 n1 (lo1 + n1) 0 lo n t 0 u a (omega arith) (omega (arith, b)) (omega (arith, e)) h (record { under = λ lt. refl; over = λ ge. refl; most = omega arith })

none_once : (k lo n t : ℕ) → t ≡ 0 → Once k lo n t
none_once k lo n t e = record { under = λ lt. e; over = λ ge. e; most = omega (arith, e) }

-- three parts behind one another
three_parts : (k lo n m q a b d : ℕ) → Once k lo n a → Once k (lo + n) m b → Once k (lo + n + m) q d → Once k lo (n + (m + q)) (a + (b + d))
three_parts k lo n m q a b d x y z =
    join k lo n (lo + n) (m + q) lo (n + (m + q)) a (b + d) (a + (b + d)) (omega arith) (omega arith) (omega arith) refl x
    (join k (lo + n) m (lo + n + m) q (lo + n) (m + q) b d (b + d) (omega arith) (omega arith) (omega arith) refl y z)

-- three labels, and those behind them
three_labels : (k l n t v all : ℕ) → 3 + n ≤ all → v ≡ at_label k l + (at_label k (l + 1) + (at_label k (l + 2) + t)) → Once k (l + 3) n t → Once k l all v
three_labels k l n t v all le e h =
    join k l 1 (l + 1) (2 + n) l all (at_label k l) (at_label k (l + 1) + (at_label k (l + 2) + t)) v (omega arith) (omega arith) (omega (arith, le)) e (one k l)
    (join k (l + 1) 1 (l + 2) (1 + n) (l + 1) (2 + n) (at_label k (l + 1)) (at_label k (l + 2) + t) _ (omega arith) (omega arith) (omega arith) refl (one k (l + 1))
    (join k (l + 2) 1 (l + 3) n (l + 2) (1 + n) (at_label k (l + 2)) t _ (omega arith) (omega arith) (omega arith) refl (one k (l + 2)) h))

-- code whose labels are n, from lo on
record Fresh (lo n : ℕ) (c : List Mid) : Type 0 where
  once : (k : ℕ) → Once k lo n (times k c)

-- code without labels
record Free (c : List Mid) : Type 0 where
  none : (k : ℕ) → times k c ≡ 0

free : (lo n : ℕ) (c : List Mid) → Free c → Fresh lo n c
free lo n c h = record { once = λ k. none_once k lo n (times k c) (h.none k) }

both_free : (a b : List Mid) → Free a → Free b → Free (a ++ b)
both_free a b f g = record { none = λ k. let e = times_both k a b in let x = f.none k in let y = g.none k in omega (arith, e, x, y) }

before : (lo n m : ℕ) (a b : List Mid) → Fresh lo n a → Fresh (lo + n) m b → Fresh lo (n + m) (a ++ b)
before lo n m a b h g = record {
  once = λ k. join k lo n (lo + n) m lo (n + m) (times k a) (times k b) (times k (a ++ b)) (omega arith) (omega arith) (omega arith) (times_both k a b) (h.once k) (g.once k);
}

tail : (lo n : ℕ) (a b : List Mid) → Free b → Fresh lo n a → Fresh lo n (a ++ b)
tail lo n a b f h = record { once = λ k. let x = f.none k in let e = times_both k a b in wider k lo n lo n (times k a) (times k (a ++ b)) (omega arith) (omega arith) (omega (arith, x, e)) (h.once k) }

head : (lo n : ℕ) (a b : List Mid) → Free a → Fresh lo n b → Fresh lo n (a ++ b)
head lo n a b f h = record { once = λ k. let x = f.none k in let e = times_both k a b in wider k lo n lo n (times k b) (times k (a ++ b)) (omega arith) (omega arith) (omega (arith, x, e)) (h.once k) }

-- ---- pieces without labels

const_free : (t : IntType) (x : ℤ) (r : ℕ) → Free (const_code t x r)
const_free I8 x r = record { none = λ k. refl }
const_free U8 x r = record { none = λ k. refl }
const_free I16 x r = record { none = λ k. refl }
const_free U16 x r = record { none = λ k. refl }
const_free I32 x r = record { none = λ k. refl }
const_free U32 x r = record { none = λ k. refl }

zero_free : (test : Test) (wide : Bool) (r l : ℕ) → Free (zero_code test wide r l)
zero_free test true r l = record { none = λ k. refl }
zero_free test false r l = record { none = λ k. refl }

keep_free : (wide : Bool) (regs : _) (v : ℕ) → Free (keep_code wide regs v)
keep_free true regs v = record { none = λ k. refl }
keep_free false regs v = record { none = λ k. refl }

poke_free : (t : IntType) (v r : ℕ) → Free (poke_code t v r)
poke_free I8 v r = record { none = λ k. refl }
poke_free U8 v r = record { none = λ k. refl }
poke_free I16 v r = record { none = λ k. refl }
poke_free U16 v r = record { none = λ k. refl }
poke_free I32 v r = record { none = λ k. refl }
poke_free U32 v r = record { none = λ k. refl }

store_free : (t : IntType) (v r : ℕ) → Free (store_code t v r)
store_free I8 v r = record { none = λ k. refl }
store_free U8 v r = record { none = λ k. refl }
store_free I16 v r = record { none = λ k. refl }
store_free U16 v r = record { none = λ k. refl }
store_free I32 v r = record { none = λ k. refl }
store_free U32 v r = record { none = λ k. refl }

put_free : (kind : Kind) (t : IntType) (v r : ℕ) → Free (put_code kind t v r)
put_free (InValues regs) t v r = keep_free (is_wide t) regs v
put_free InFrame t v r = poke_free t v r
put_free InMemory t v r = store_free t v r

local_free : (o : Option Spot) (r : ℕ) → Free (local_code o r)
local_free None r = record { none = λ k. refl }
local_free (Some (Values regs)) r = record { none = λ k. refl }
local_free (Some (Frame o)) r = record { none = λ k. refl }

if_free : (b : Bool) (c : List Mid) → Free c → Free (if b then [] else c)
if_free true c h = record { none = λ k. refl }
if_free false c h = h

nothing_free : (ty : Ty) (r : ℕ) → Free (nothing_code ty r)
nothing_free ty r = if_free (is_void ty) (const_code (number_of ty) (pos 0) r) (const_free (number_of ty) (pos 0) r)

-- the way out is no label
way_is_none : (w : Ways) (r : ℕ) (out : WayOut) (k : ℕ) → is_label (way_out w r out) k ≡ false
way_is_none w r returning k = by w.return_to
  where
    by : (o : Option ℕ) → is_label (back o w.gives r) k ≡ false
    by None = refl
    by (Some l) = refl
way_is_none w r breaking k = refl
way_is_none w r continuing k = refl

way_free : (w : Ways) (r : ℕ) (out : WayOut) → Free (way_out w r out ∷ [])
way_free w r out = record { none = λ k. ap (λ b. one_more b 0) (way_is_none w r out k) }

exit_fresh : (b : Bool) (o l : ℕ) (w : Ways) (r : ℕ) (out : WayOut) → Fresh l 2 (exit_code b o l (way_out w r out))
exit_fresh true o l w r out = record {
  once = λ k.
      let t : ℕ = at_label k (l + 1) in
      let e1 = one_plus k l (one_more (is_label (way_out w r out) k) t) in
      let e2 = ap (λ b. one_more b t) (way_is_none w r out k) in
      next k l 1 t _ (omega (arith, e1, e2)) (one k (l + 1));
}
exit_fresh false o l w r out = free l 2 [] (record { none = λ k. refl })

exits_fresh : (may : WayOut → Bool) (w : Ways) (r l : ℕ) → Fresh l 6 (exits_code may w r l)
exits_fresh may w r l =
    let b : List Mid = exit_code (may breaking) w.status (l + 2) (way_out w r breaking) in
    let d : List Mid = exit_code (may continuing) w.status (l + 4) (way_out w r continuing) in
    let e : l + 4 ≡ l + 2 + 2 = omega arith in
    before l 2 4 (exit_code (may returning) w.status l (way_out w r returning)) (b ++ d) (exit_fresh (may returning) w.status l w r returning)
    (before (l + 2) 2 2 b d (exit_fresh (may breaking) w.status (l + 2) w r breaking) (subst (λ q. Fresh q 2 d) e (exit_fresh (may continuing) w.status (l + 4) w r continuing)))

same_free : (wide : Bool) (r l : ℕ) → Free (same_code wide r l)
same_free true r l = record { none = λ k. refl }
same_free false r l = record { none = λ k. refl }

case_free : (t : IntType) (o : Option ℤ) (r l : ℕ) → Free (case_code t o r l)
case_free t None r l = record { none = λ k. refl }
case_free t (Some n) r l = by (int_eq (wrapped t n) n)
  where
    by : (b : Bool) → Free (if b then const_code t n (r + 2) ++ same_code (is_wide t) r l else [])
    by true = both_free (const_code t n (r + 2)) (same_code (is_wide t) r l) (const_free t n (r + 2)) (same_free (is_wide t) r l)
    by false = record { none = λ k. refl }

cases_free : (t : IntType) (cases : List Case) (default : Option ℕ) (r l : ℕ) → Free (cases_code t cases default r l)
cases_free t [] default r l = record { none = λ k. refl }
cases_free t (c ∷ cases) default r l =
    both_free (case_code t c.value r (label_of (Some c.start) l)) (cases_code t cases default r l) (case_free t c.value r (label_of (Some c.start) l)) (cases_free t cases default r l)

regs_free : (wide : Bool) (regs : _) → Free (zero_regs_code wide regs)
regs_free true regs = record { none = λ k. refl }
regs_free false regs = record { none = λ k. refl }

zero_fresh : (o : Option Spot) (ty : Ty) (size r l : ℕ) → Fresh l 2 (zero_local_code o ty size r l)
zero_fresh None ty size r l = free l 2 [] (record { none = λ k. refl })
zero_fresh (Some (Values regs)) ty size r l = free l 2 _ (regs_free (is_wide (number_of ty)) regs)
zero_fresh (Some (Frame o)) ty size r l = record { once = λ k. next k l 1 (at_label k (l + 1)) _ (one_plus k l (at_label k (l + 1))) (one k (l + 1)) }

-- ---- statements

module _ (p : Program) (types checks : List Ty) (spots : List Spot) (base : ℕ) where
  expr_fresh : (e : Expr) (r l : ℕ) → Fresh l (labels e) (expr_code p types checks spots e r l)
  expr_fresh e r l =
      let h = has_labels p types checks spots e r l in
      record { once = λ k. record { under = λ lt. h.under k lt; over = λ ge. h.over k ge; most = h.once k } }

  step_fresh : (e : Option Expr) (l : ℕ) → Fresh l (maybe_labels e) (step_code p types checks spots base e l)
  step_fresh None l = free l 0 [] (record { none = λ k. refl })
  step_fresh (Some e) l = expr_fresh e base l

  returned_fresh : (e : Option Expr) (w : Ways) (l : ℕ) → Fresh l (maybe_labels e) (returned_code p types checks spots base e w l)
  returned_fresh None w l = free l 0 _ (nothing_free w.gives (base + 2))
  returned_fresh (Some e) w l = expr_fresh e (base + 2) l

  kept_fresh : (ty : Ty) (o : Option Spot) (lo n : ℕ) (work : List Mid) → Fresh lo n work → Fresh lo n (kept_code p types checks spots base ty o work)
  kept_fresh ty o lo n work h = by (is_void ty)
    where
      by : (b : Bool) → Fresh lo n (if b then work else local_code o base ++ (work ++ put_code (kind_of_spot o) (number_of ty) (base + 2) base))
      by true = h
      by false = head lo n (local_code o base) _ (local_free o base) (tail lo n work _ (put_free (kind_of_spot o) (number_of ty) (base + 2) base) h)

  enter_fresh : (es : Exprs) (x l : ℕ) → Fresh l (all_labels es) (enter_code p types checks spots base es x l)
  enter_fresh no_exprs x l = free l 0 [] (record { none = λ k. refl })
  enter_fresh (more_exprs e rest) x l =
      before l (labels e) (all_labels rest) _ (enter_code p types checks spots base rest (x + 1) (l + labels e))
      (kept_fresh (slice_index_or types x plain.void) (slice_get spots x) l (labels e) _ (expr_fresh e (base + 2) l)) (enter_fresh rest (x + 1) (l + labels e))

  clears_fresh : (count x l : ℕ) → Fresh l (2 * count) (clears_code p types checks spots base count x l)
  clears_fresh zero x l = free l (2 * 0) [] (record { none = λ k. refl })
  clears_fresh (suc count) x l =
      let e : 2 + 2 * count ≡ 2 * suc count = omega arith in
      subst (λ n. Fresh l n (clears_code p types checks spots base (suc count) x l)) e
      (before l 2 (2 * count) (clear_code p types checks spots base x l) (clears_code p types checks spots base count (x + 1) (l + 2))
      (zero_fresh (slice_get spots x) (slice_index_or types x plain.void) (size_of p (slice_index_or types x plain.void)) base l) (clears_fresh count (x + 1) (l + 2)))

  result_free : (b : Bool) (x : ℕ) → Free (result_code p types checks spots base b x)
  result_free false x = record { none = λ k. refl }
  result_free true x =
      let h = kept_fresh (slice_index_or types x plain.void) (slice_get spots x) 0 0 [] (free 0 0 [] (record { none = λ k. refl })) in
      record { none = λ k. (h.once k).over (omega arith) }

  -- labels of two ranges, the first below the second
  record InTwo (k lo n lo2 m : ℕ) (c : List Mid) : Type 0 where
    first : ℕ
    second : ℕ
    sum : times k c ≡ first + second
    low : Once k lo n first
    high : Once k lo2 m second

  mutual
    stmt_fresh : (s : Stmt) (w : Ways) (l : ℕ) → Fresh l (stmt_labels s) (stmt_code p types checks spots base s w l)
    stmt_fresh (plain.eval e) w l = expr_fresh e base l
    stmt_fresh (plain.block list) w l = stmts_fresh list w l
    stmt_fresh (plain.branch test a b) w l =
        let t : List Mid = expr_code p types checks spots test base (l + 2) in
        let z : List Mid = zero_code Eq (is_wide (held p types test)) base l in
        let ca : List Mid = stmt_code p types checks spots base a w (l + 2 + labels test) in
        let cb : List Mid = stmt_code p types checks spots base b w (l + 2 + labels test + stmt_labels a) in
        let ht = expr_fresh test base (l + 2) in
        let ha = stmt_fresh a w (l + 2 + labels test) in
        let hb = stmt_fresh b w (l + 2 + labels test + stmt_labels a) in
        let hz = zero_free Eq (is_wide (held p types test)) base l in
        record {
          once = λ k.
              let e1 = times_both k t (z ++ (ca ++ (Jump (l + 1) ∷ Label l ∷ (cb ++ Label (l + 1) ∷ [])))) in
              let e2 = times_both k z (ca ++ (Jump (l + 1) ∷ Label l ∷ (cb ++ Label (l + 1) ∷ []))) in
              let e3 = times_both k ca (Jump (l + 1) ∷ Label l ∷ (cb ++ Label (l + 1) ∷ [])) in
              let e4 = one_plus k l (times k (cb ++ Label (l + 1) ∷ [])) in
              let e5 = times_both k cb (Label (l + 1) ∷ []) in
              let e6 = hz.none k in
              let n : ℕ = labels test + (stmt_labels a + stmt_labels b) in
              let t3 : ℕ = times k t + (times k ca + times k cb) in
              wider k l (1 + (1 + n)) l (2 + labels test + stmt_labels a + stmt_labels b) _ _ (omega arith) (omega arith) refl
              (next k l (1 + n) (at_label k (l + 1) + t3) _ (omega (arith, e1, e2, e3, e4, e5, e6))
              (next k (l + 1) n t3 _ refl
              (wider k (l + 2) n (l + 1 + 1) n t3 t3 (omega arith) (omega arith) refl
              (three_parts k (l + 2) (labels test) (stmt_labels a) (stmt_labels b) (times k t) (times k ca) (times k cb) (ht.once k) (ha.once k) (hb.once k)))));
        }
    stmt_fresh (plain.loop true test step body) w l =
        let n : ℕ = labels test + (maybe_labels step + stmt_labels body) in
        let t : List Mid = expr_code p types checks spots test base (l + 3) in
        let z : List Mid = zero_code Eq (is_wide (held p types test)) base (l + 1) in
        let cb : List Mid = stmt_code p types checks spots base body (in_loop (l + 1) (l + 2) w) (l + 3 + labels test + maybe_labels step) in
        let cs : List Mid = step_code p types checks spots base step (l + 3 + labels test) in
        let ht = expr_fresh test base (l + 3) in
        let hb = stmt_fresh body (in_loop (l + 1) (l + 2) w) (l + 3 + labels test + maybe_labels step) in
        let hs = step_fresh step (l + 3 + labels test) in
        let hz = zero_free Eq (is_wide (held p types test)) base (l + 1) in
        record {
          once = λ k.
              let e0 = one_plus k l (times k (t ++ (z ++ (cb ++ (Label (l + 2) ∷ (cs ++ Jump l ∷ Label (l + 1) ∷ [])))))) in
              let e1 = times_both k t (z ++ (cb ++ (Label (l + 2) ∷ (cs ++ Jump l ∷ Label (l + 1) ∷ [])))) in
              let e2 = times_both k z (cb ++ (Label (l + 2) ∷ (cs ++ Jump l ∷ Label (l + 1) ∷ []))) in
              let e3 = times_both k cb (Label (l + 2) ∷ (cs ++ Jump l ∷ Label (l + 1) ∷ [])) in
              let e4 = one_plus k (l + 2) (times k (cs ++ Jump l ∷ Label (l + 1) ∷ [])) in
              let e5 = times_both k cs (Jump l ∷ Label (l + 1) ∷ []) in
              let e6 = hz.none k in
              three_labels k l n (times k t + (times k cs + times k cb)) _ (3 + labels test + maybe_labels step + stmt_labels body) (omega arith) (omega (arith, e0, e1, e2, e3, e4, e5, e6))
              (three_parts k (l + 3) (labels test) (maybe_labels step) (stmt_labels body) (times k t) (times k cs) (times k cb) (ht.once k) (hs.once k) (hb.once k));
        }
    stmt_fresh (plain.loop false test step body) w l =
        let n : ℕ = labels test + (maybe_labels step + stmt_labels body) in
        let t : List Mid = expr_code p types checks spots test base (l + 3) in
        let z : List Mid = zero_code Ne (is_wide (held p types test)) base l in
        let cb : List Mid = stmt_code p types checks spots base body (in_loop (l + 1) (l + 2) w) (l + 3 + labels test + maybe_labels step) in
        let ht = expr_fresh test base (l + 3) in
        let hb = stmt_fresh body (in_loop (l + 1) (l + 2) w) (l + 3 + labels test + maybe_labels step) in
        let hz = zero_free Ne (is_wide (held p types test)) base l in
        record {
          once = λ k.
              let e0 = one_plus k l (times k (cb ++ (Label (l + 2) ∷ (t ++ (z ++ Label (l + 1) ∷ []))))) in
              let e1 = times_both k cb (Label (l + 2) ∷ (t ++ (z ++ Label (l + 1) ∷ []))) in
              let e2 = one_plus k (l + 2) (times k (t ++ (z ++ Label (l + 1) ∷ []))) in
              let e3 = times_both k t (z ++ Label (l + 1) ∷ []) in
              let e4 = times_both k z (Label (l + 1) ∷ []) in
              let e5 = hz.none k in
              three_labels k l n (times k t + (0 + times k cb)) _ (3 + labels test + maybe_labels step + stmt_labels body) (omega arith) (omega (arith, e0, e1, e2, e3, e4, e5))
              (three_parts k (l + 3) (labels test) (maybe_labels step) (stmt_labels body) (times k t) 0 (times k cb) (ht.once k) (none_once k (l + 3 + labels test) (maybe_labels step) 0 refl) (hb.once k));
        }
    stmt_fresh (plain.switch e cases list) w l =
        let m : ℕ = count_stmts list in
        let t : List Mid = expr_code p types checks spots e base (l + 1 + m) in
        let z : List Mid = cases_code (held p types e) cases (start_of_default cases) base l in
        let cs : List Mid = switch_code p types checks spots base list (in_switch l w) (l + 1) (l + 1 + m + labels e) in
        let ht = expr_fresh e base (l + 1 + m) in
        let hz = cases_free (held p types e) cases (start_of_default cases) base l in
        record {
          once = λ k.
              let two = switch_fresh list (in_switch l w) (l + 1) (l + 1 + m + labels e) k in
              let e1 = times_both k t (z ++ (cs ++ Label l ∷ [])) in
              let e2 = times_both k z (cs ++ Label l ∷ []) in
              let e3 = times_both k cs (Label l ∷ []) in
              let e4 = hz.none k in
              let e5 = two.sum in
              wider k l (1 + (m + (labels e + stmts_labels list))) l (1 + m + labels e + stmts_labels list) _ _ (omega arith) (omega arith) refl
              (next k l (m + (labels e + stmts_labels list)) (two.first + (times k t + two.second)) _ (omega (arith, e1, e2, e3, e4, e5))
              (three_parts k (l + 1) m (labels e) (stmts_labels list) two.first (times k t) two.second two.low (ht.once k) two.high));
        }
    stmt_fresh plain.break w l = free l 0 _ (way_free w (base + 2) breaking)
    stmt_fresh plain.continue w l = free l 0 _ (way_free w (base + 2) continuing)
    stmt_fresh (plain.return e) w l = tail l (maybe_labels e) (returned_code p types checks spots base e w l) _ (way_free w (base + 2) returning) (returned_fresh e w l)
    stmt_fresh (plain.atomic s) w l =
        let c : List Mid = stmt_code p types checks spots base s (in_atomic l w) (l + 6) in
        let x : List Mid = exits_code (leads s) w (base + 2) l in
        let hc = stmt_fresh s (in_atomic l w) (l + 6) in
        let hx = exits_fresh (leads s) w (base + 2) l in
        record {
          once = λ k.
              let e = times_both k c (End w.status ∷ x) in
              join k l 6 (l + 6) (stmt_labels s) l (6 + stmt_labels s) (times k x) (times k c) _ (omega arith) (omega arith) (omega arith) (omega (arith, e)) (hx.once k) (hc.once k);
        }
    stmt_fresh (plain.clear x) w l = zero_fresh (slice_get spots x) (slice_index_or types x plain.void) (size_of p (slice_index_or types x plain.void)) base l
    stmt_fresh (plain.here arguments first count body) w l =
        let gives : Bool = gives_value body in
        let ways : Ways = in_here l (here_gives p types checks spots base gives (first + count)) w in
        let n : ℕ = count_exprs arguments in
        let la : ℕ = all_labels arguments in
        let ca : List Mid = enter_code p types checks spots base arguments first (l + 1) in
        let cw : List Mid = clears_code p types checks spots base (count - n) (first + n) (l + 1 + la) in
        let cb : List Mid = stmt_code p types checks spots base body ways (l + 1 + la + 2 * count) in
        let cn : List Mid = nothing_code ways.gives (base + 2) in
        let cr : List Mid = result_code p types checks spots base gives (first + count) in
        let ha = enter_fresh arguments first (l + 1) in
        let hc = clears_fresh (count - n) (first + n) (l + 1 + la) in
        let hb = stmt_fresh body ways (l + 1 + la + 2 * count) in
        let hn = nothing_free ways.gives (base + 2) in
        let hr = result_free gives (first + count) in
        record {
          once = λ k.
              let e1 = times_both k ca (cw ++ (Tick ∷ (cb ++ (cn ++ (Label l ∷ Tick ∷ cr))))) in
              let e2 = times_both k cw (Tick ∷ (cb ++ (cn ++ (Label l ∷ Tick ∷ cr)))) in
              let e3 = times_both k cb (cn ++ (Label l ∷ Tick ∷ cr)) in
              let e4 = times_both k cn (Label l ∷ Tick ∷ cr) in
              let e5 = one_plus k l (times k cr) in
              let e6 = hn.none k in
              let e7 = hr.none k in
              wider k l (1 + (la + (2 * count + stmt_labels body))) l (1 + la + 2 * count + stmt_labels body) _ _ (omega arith) (omega arith) refl
              (next k l (la + (2 * count + stmt_labels body)) (times k ca + (times k cw + times k cb)) _ (omega (arith, e1, e2, e3, e4, e5, e6, e7))
              (three_parts k (l + 1) la (2 * count) (stmt_labels body) (times k ca) (times k cw) (times k cb) (ha.once k)
              (wider k (l + 1 + la) (2 * (count - n)) (l + 1 + la) (2 * count) _ _ (omega arith) (omega arith) refl (hc.once k)) (hb.once k)));
        }

    stmts_fresh : (list : Stmts) (w : Ways) (l : ℕ) → Fresh l (stmts_labels list) (stmts_code p types checks spots base list w l)
    stmts_fresh no_stmts w l = free l 0 [] (record { none = λ k. refl })
    stmts_fresh (more_stmts s rest) w l =
        before l (stmt_labels s) (stmts_labels rest) (stmt_code p types checks spots base s w l) (stmts_code p types checks spots base rest w (l + stmt_labels s)) (stmt_fresh s w l) (stmts_fresh rest w (l + stmt_labels s))

    switch_fresh : (list : Stmts) (w : Ways) (j l k : ℕ) → InTwo k j (count_stmts list) l (stmts_labels list) (switch_code p types checks spots base list w j l)
    switch_fresh no_stmts w j l k = record { first = 0; second = 0; sum = refl; low = none_once k j 0 0 refl; high = none_once k l 0 0 refl }
    switch_fresh (more_stmts s rest) w j l k =
        let c : List Mid = stmt_code p types checks spots base s w l in
        let more : List Mid = switch_code p types checks spots base rest w (suc j) (l + stmt_labels s) in
        let h = stmt_fresh s w l in
        let r = switch_fresh rest w (suc j) (l + stmt_labels s) k in
        let e1 = one_plus k j (times k (c ++ more)) in
        let e2 = times_both k c more in
        let e3 = r.sum in
        record {
          first = at_label k j + r.first;
          second = times k c + r.second;
          sum = omega (arith, e1, e2, e3);
          low = join k j 1 (suc j) (count_stmts rest) j (suc (count_stmts rest)) (at_label k j) r.first _ (omega arith) (omega arith) (omega arith) refl (one k j) r.low;
          high = join k l (stmt_labels s) (l + stmt_labels s) (stmts_labels rest) l (stmt_labels s + stmts_labels rest) (times k c) r.second _ (omega arith) (omega arith) (omega arith) refl (h.once k) r.high;
        }

-- ---- functions

body_fresh : (p : Program) (checks : List Ty) (b : Body) → Fresh 0 (stmt_labels b.code) (body_code p checks b)
body_fresh p checks b =
    tail 0 (stmt_labels b.code) (stmt_code p b.locals checks (spots_of p b) (base_of b) b.code (ways_of p b) 0) _
    (both_free (nothing_code b.result (base_of b + 2)) (Ret (taken_at b.result (base_of b + 2)) ∷ []) (nothing_free b.result (base_of b + 2)) (record { none = λ k. refl }))
    (stmt_fresh p b.locals checks (spots_of p b) (base_of b) b.code (ways_of p b) 0)

pub once_each : (p : Program) (checks : List Ty) (b : Body) (l : ℕ) → times l (body_code p checks b) ≤ 1
once_each p checks b l = ((body_fresh p checks b).once l).most

fns_labelled : (p : Program) (checks : List Ty) (bodies : List Body) (f : ℕ) → IsLabelled (slice_index_or (map (mid_fn_of p checks) bodies) f no_fn).code
fns_labelled p checks [] f = record { at = λ pc l h. absurd (cc) }
fns_labelled p checks (b ∷ bodies) zero = let h = body_fresh p checks b in record { at = λ pc l there. found (body_code p checks b) pc l there (h.once l).most }
fns_labelled p checks (b ∷ bodies) (suc f) = fns_labelled p checks bodies f

pub are_labelled : (p : Program) → AreLabelled (lowered p)
are_labelled p f = fns_labelled p (checks_of p) p.bodies f
