-- A switch goes to the first case of its value, or else to its default, and on from there.
use Rattle.std.proofs.Common.{◌≡◌, ℕ, ◌+◌, ◌<◌, Bool, true, false, List, [], ◌∷◌, ◌++◌, All, Option, Some, None, refl, sym, ap, ◌∙◌, subst, arith}
use Rattle.std.specs.Prelude.{ℤ, pos, slice_get, bit_or, bit_xor, ◌==◌, ◌%◌, is_none, if◌then◌else◌}
use Rattle.std.specs.Ordering.{int_eq}
use Rattle.std.proofs.lemmas.Bool.Decides.{Decides-eqb, Decides-int_eq, same_from_decides}
use Rattle.std.proofs.lemmas.List.Elements.{All-head, All-tail}
use Rattle.nm_base.specs.declared.int_type.IntType.{IntType}
use Rattle.nm_base.specs.declared.int_type.IntType.TheVariants.{I8, U8, I16, U16, I32, U32}
use Rattle.nm_base.specs.IntType.{wrapped}
use Rattle.nm_base.specs.Behaviour.{Behaviour}
use Rattle.nesc_core.specs.Plain.{Expr, Case, int}
use Rattle.nesc_core.specs.Typing.{Has, IsNumber}
use Rattle.nesc_core.specs.Derefs.{expr_derefs}
use Rattle.nesc_core.specs.Calls.{expr_calls}
use Rattle.core_meaning.specs.declared.flow.Flow.{Flow}
use Rattle.core_meaning.specs.declared.flow.Flow.TheVariants.{On, Broke, Continued, Gave}
use Rattle.core_meaning.specs.Flow.{from_case, is_case, out_of_switch, start_of_default, start_of_value}
use Rattle.core_meaning.specs.Work.{Locals, Work}
use Rattle.core_meaning.specs.Act.{value}
use Rattle.mid_code.specs.declared.instr.Mid.{Mid}
use Rattle.mid_code.specs.declared.instr.Mid.TheVariants.{Branch, Label}
use Rattle.mid_code.specs.declared.instr.Op.TheVariants.{Or, Xor}
use Rattle.mid_code.specs.declared.instr.Test.TheVariants.{Eq}
use Rattle.mid_code.specs.Help.{is_wide}
use Rattle.mid_code.specs.Machine.{put}
use Rattle.mid_code.specs.Runs.{Runs, Stands}
use Rattle.mid_code.proofs.Stands.{branch_runs, split, stay_runs}
use Rattle.mid_code.proofs.Written.{put_same, put_other}
use Rattle.lower_expr.specs.Held.{held, high, low, IsHeld}
use Rattle.lower_expr.specs.Pieces.{const_code}
use Rattle.lower_expr.specs.Code.{expr_code}
use Rattle.lower_expr.proofs.Halves.{differing, equal_halves}
use Rattle.lower_expr.proofs.Kept.{number_of_byte}
use Rattle.lower_expr.proofs.Numbers.{byte_of_low, number_of_low}
use Rattle.lower_expr.proofs.Pieces.{const_runs, set_runs}
use Rattle.lower_expr.proofs.Values.{holds_put, keeps_put, keeps_refl, still}
use Rattle.lower_expr.proofs.Wide.{bin_runs, high_of, wide_is}
use Rattle.lower_stmt.specs.Code.{Ways, case_code, cases_code, in_switch, label_of, same_code}
use Rattle.lower_stmt.specs.Runs.{AreHeld, Setting, code, here}
use Rattle.lower_stmt.proofs.Common.{GoesOn, Ready, behind, held_as, jumps, past_label, value_runs}
use Rattle.lower_stmt.proofs.Leaving.{Follows, May, switch_may}
use Rattle.lower_stmt.proofs.Exits.{DoesIt}

-- ---- numbers that are the same

-- numbers of a type with at most 16 bits and the same low halves
same_low : (t : IntType) → is_wide t ≡ false → (x y : ℤ) → wrapped t x ≡ x → wrapped t y ≡ y → low x ≡ low y → x ≡ y
same_low I8 narrow x y ex ey e = sym (number_of_byte I8 tt x ex) ∙ ap (λ m. wrapped I8 (pos m)) (sym (byte_of_low x) ∙ ap (λ (m : ℕ). m % 256) e ∙ byte_of_low y) ∙ number_of_byte I8 tt y ey
same_low U8 narrow x y ex ey e = sym (number_of_byte U8 tt x ex) ∙ ap (λ m. wrapped U8 (pos m)) (sym (byte_of_low x) ∙ ap (λ (m : ℕ). m % 256) e ∙ byte_of_low y) ∙ number_of_byte U8 tt y ey
same_low I16 narrow x y ex ey e = sym (number_of_low I16 tt x ex) ∙ ap (λ m. wrapped I16 (pos m)) e ∙ number_of_low I16 tt y ey
same_low U16 narrow x y ex ey e = sym (number_of_low U16 tt x ex) ∙ ap (λ m. wrapped U16 (pos m)) e ∙ number_of_low U16 tt y ey
same_low I32 wide x y ex ey e = absurd (cc)
same_low U32 wide x y ex ey e = absurd (cc)

narrow_test : (t : IntType) → is_wide t ≡ false → (v n : ℤ) → wrapped t v ≡ v → wrapped t n ≡ n → (low v == low n) ≡ int_eq n v
narrow_test t narrow v n ev en =
    let d = Decides-eqb (low v) (low n) in
    same_from_decides (low v == low n) (int_eq n v) ((λ e. sym (same_low t narrow v n ev en (d.0 e))), (λ e. d.1 (ap low (sym e)))) (Decides-int_eq n v)

wide_test : (t : IntType) → is_wide t ≡ true → (v n : ℤ) → wrapped t v ≡ v → wrapped t n ≡ n → (differing v n == 0) ≡ int_eq n v
wide_test t wide v n ev en =
    let d = Decides-int_eq v n in
    equal_halves t (wide_is t wide) v n ev en ∙ same_from_decides (int_eq v n) (int_eq n v) ((λ e. sym (d.0 e)), (λ e. d.1 (sym e))) (Decides-int_eq n v)

-- no number of the type is one that is none of it
not_of : (t : IntType) (v n : ℤ) → wrapped t v ≡ v → int_eq (wrapped t n) n ≡ false → int_eq n v ≡ false
not_of t v n number other = by (int_eq n v) refl
  where
    by : (b : Bool) → int_eq n v ≡ b → int_eq n v ≡ false
    by false e = e
    by true e =
        let same : n ≡ v = (Decides-int_eq n v).0 e in
        let typed : wrapped t n ≡ n = ap (wrapped t) same ∙ number ∙ sym same in
        let is : int_eq (wrapped t n) n ≡ true = (Decides-int_eq (wrapped t n) n).1 typed in
        absurd (cc)

-- a default is one of the cases
pub default_inside : (cases : List Case) (count k : ℕ) → All (λ c. c.start < count) cases → start_of_default cases ≡ Some k → k < count
default_inside [] count k all is = absurd (cc)
default_inside (c ∷ cases) count k all is = by (is_none c.value) refl (default_inside cases count k (All-tail (λ x. x.start < count) c cases all))
  where
    first : (b : Bool) → is_none c.value ≡ b → (if b then Some c.start else start_of_default cases) ≡ Some k
    first b e = sym (ap (λ (b : Bool). if b then Some c.start else start_of_default cases) e) ∙ is

    by : (b : Bool) → is_none c.value ≡ b → (start_of_default cases ≡ Some k → k < count) → k < count
    by true e more =
        let q : Some c.start ≡ Some k = first true e in
        let same : c.start ≡ k = cc in
        subst (λ m. m < count) same (All-head (λ x. x.start < count) c cases all)
    by false e more = more (first false e)

module _ (c : Setting) where
  abbrev r : ℕ
  r = c.base

  -- ---- one case

  narrow_runs : (b : Bool) (t : IntType) (v m : ℤ) (l pc end to n : ℕ) (behaviour : Behaviour) (env : Locals) (values frame : ℕ → ℕ) →
      is_wide t ≡ false → int_eq m v ≡ b → IsHeld t v values r → IsHeld t m values (r + 2) → Stands (code c) pc (same_code false r l) end → slice_get (code c) to ≡ Some (Label l) → AreHeld c env values frame →
      (b ≡ true → (new : ℕ → ℕ) → AreHeld c env new frame → Runs c.codes n behaviour (here c to new frame)) →
      (b ≡ false → (new : ℕ → ℕ) → AreHeld c env new frame → IsHeld t v new r → Runs c.codes n behaviour (here c end new frame)) → Runs c.codes n behaviour (here c pc values frame)
  narrow_runs b t v m l pc end to n behaviour env values frame narrow is hv hm s label h gone other = by b refl
    where
      compared : (values r == values (r + 2)) ≡ b
      compared = ap (λ u. u == values (r + 2)) hv.low_half ∙ ap (λ u. low v == u) hm.low_half ∙ narrow_test t narrow v m hv.number hm.number ∙ is

      by : (a : Bool) → b ≡ a → Runs c.codes n behaviour (here c pc values frame)
      by true e = branch_runs c.codes c.f c.rest c.fits.labelled n behaviour Eq r (r + 2) l pc to values frame s.0 label (compared ∙ e) (gone e values h)
      by false e = stay_runs c.codes c.f c.rest c.fits.labelled n behaviour Eq r (r + 2) l pc values frame s.0 (compared ∙ e) (behind c n behaviour (pc + 1) end values frame s.1 (other e values h hv))

  wide_runs : (b : Bool) (t : IntType) (v m : ℤ) (l pc end to n : ℕ) (behaviour : Behaviour) (env : Locals) (values frame : ℕ → ℕ) →
      is_wide t ≡ true → int_eq m v ≡ b → IsHeld t v values r → IsHeld t m values (r + 2) → Stands (code c) pc (same_code true r l) end → slice_get (code c) to ≡ Some (Label l) → AreHeld c env values frame →
      (b ≡ true → (new : ℕ → ℕ) → AreHeld c env new frame → Runs c.codes n behaviour (here c to new frame)) →
      (b ≡ false → (new : ℕ → ℕ) → AreHeld c env new frame → IsHeld t v new r → Runs c.codes n behaviour (here c end new frame)) → Runs c.codes n behaviour (here c pc values frame)
  wide_runs b t v m l pc end to n behaviour env values frame wide is hv hm s label h gone other =
      let ok = wide_is t wide in
      let d : ℕ = bit_xor (values r) (values (r + 2)) in
      let one : ℕ → ℕ = put values (r + 2) d in
      let e : ℕ = bit_xor (one (r + 1)) (one (r + 3)) in
      let two : ℕ → ℕ = put one (r + 3) e in
      let x : ℕ = bit_or (two (r + 2)) (two (r + 3)) in
      let three : ℕ → ℕ = put two (r + 2) x in
      let four : ℕ → ℕ = put three (r + 3) 0 in
      let third : r + 3 ≡ r + 2 + 1 = omega arith in
      let d_is : d ≡ bit_xor (low v) (low m) = ap (λ u. bit_xor u (values (r + 2))) hv.low_half ∙ ap (bit_xor (low v)) hm.low_half in
      let e1 : one (r + 1) ≡ high v = put_other values (r + 2) d (r + 1) (λ q. omega (arith, q)) ∙ high_of t v values r ok hv in
      let e3 : one (r + 3) ≡ high m = put_other values (r + 2) d (r + 3) (λ q. omega (arith, q)) ∙ ap values third ∙ high_of t m values (r + 2) ok hm in
      let e_is : e ≡ bit_xor (high v) (high m) = ap (λ u. bit_xor u (one (r + 3))) e1 ∙ ap (bit_xor (high v)) e3 in
      let x_is : x ≡ differing v m =
      ap (λ u. bit_or u (two (r + 3))) (put_other one (r + 3) e (r + 2) (λ q. omega (arith, q)) ∙ put_same values (r + 2) d ∙ d_is) ∙ ap (bit_or (bit_xor (low v) (low m))) (put_same one (r + 3) e ∙ e_is) in
      let compared : (four (r + 2) == four (r + 3)) ≡ b =
      ap (λ u. u == four (r + 3)) (put_other three (r + 3) 0 (r + 2) (λ q. omega (arith, q)) ∙ put_same two (r + 2) x ∙ x_is) ∙ ap (λ u. differing v m == u) (put_same three (r + 3) 0)
      ∙ wide_test t wide v m hv.number hm.number ∙ is in
      let held4 : AreHeld c env four frame =
      holds_put c.base c.p c.types c.spots env three frame (r + 3) 0 (omega arith) (holds_put c.base c.p c.types c.spots env two frame (r + 2) x (omega arith)
      (holds_put c.base c.p c.types c.spots env one frame (r + 3) e (omega arith) (holds_put c.base c.p c.types c.spots env values frame (r + 2) d (omega arith) h))) in
      let kept = keeps_put c.base (r + 2) (r + 3) 0 values three (omega arith) (keeps_put c.base (r + 2) (r + 2) x values two (omega arith) (keeps_put c.base (r + 2) (r + 3) e values one (omega arith)
      (keeps_put c.base (r + 2) (r + 2) d values values (omega arith) (keeps_refl c.base (r + 2) values)))) in
      let number4 : IsHeld t v four r = still c.base t v r (r + 2) values four (omega arith) (omega arith) kept hv in
      let at_branch = s.1.1.1.1.0 in
      let at_end = s.1.1.1.1.1 in
      bin_runs c.codes c.f c.rest c.fits.labelled n c.p c.types c.spots c.base behaviour Xor (r + 2) r (r + 2) pc values frame s.0
      (bin_runs c.codes c.f c.rest c.fits.labelled n c.p c.types c.spots c.base behaviour Xor (r + 3) (r + 1) (r + 3) (pc + 1) one frame s.1.0
      (bin_runs c.codes c.f c.rest c.fits.labelled n c.p c.types c.spots c.base behaviour Or (r + 2) (r + 2) (r + 3) (pc + 1 + 1) two frame s.1.1.0
      (set_runs c.codes c.f c.rest c.fits.labelled n c.p c.types c.spots c.base behaviour (r + 3) 0 (pc + 1 + 1 + 1) three frame s.1.1.1.0
      (goes_by b l (pc + 1 + 1 + 1 + 1) end to n behaviour four frame at_branch at_end label compared (λ q. gone q four held4) (λ q. other q four held4 number4)))))
    where
      goes_by : (b : Bool) (l pc end to n : ℕ) (behaviour : Behaviour) (values frame : ℕ → ℕ) → slice_get (code c) pc ≡ Some (Branch Eq (r + 2) (r + 3) l) → pc + 1 ≡ end → slice_get (code c) to ≡ Some (Label l) →
          (values (r + 2) == values (r + 3)) ≡ b → (b ≡ true → Runs c.codes n behaviour (here c to values frame)) → (b ≡ false → Runs c.codes n behaviour (here c end values frame)) → Runs c.codes n behaviour (here c pc values frame)
      goes_by true l pc end to n behaviour values frame at e label compared gone other =
          branch_runs c.codes c.f c.rest c.fits.labelled n behaviour Eq (r + 2) (r + 3) l pc to values frame at label compared (gone refl)
      goes_by false l pc end to n behaviour values frame at e label compared gone other =
          stay_runs c.codes c.f c.rest c.fits.labelled n behaviour Eq (r + 2) (r + 3) l pc values frame at compared (behind c n behaviour (pc + 1) end values frame e (other refl))

  same_runs : (wide b : Bool) (t : IntType) (v m : ℤ) (l pc end to n : ℕ) (behaviour : Behaviour) (env : Locals) (values frame : ℕ → ℕ) →
      is_wide t ≡ wide → int_eq m v ≡ b → IsHeld t v values r → IsHeld t m values (r + 2) → Stands (code c) pc (same_code wide r l) end → slice_get (code c) to ≡ Some (Label l) → AreHeld c env values frame →
      (b ≡ true → (new : ℕ → ℕ) → AreHeld c env new frame → Runs c.codes n behaviour (here c to new frame)) →
      (b ≡ false → (new : ℕ → ℕ) → AreHeld c env new frame → IsHeld t v new r → Runs c.codes n behaviour (here c end new frame)) → Runs c.codes n behaviour (here c pc values frame)
  same_runs false b t v m l pc end to n behaviour env values frame narrow is hv hm s label h gone other = narrow_runs b t v m l pc end to n behaviour env values frame narrow is hv hm s label h gone other
  same_runs true b t v m l pc end to n behaviour env values frame wide is hv hm s label h gone other = wide_runs b t v m l pc end to n behaviour env values frame wide is hv hm s label h gone other

  -- what goes on with the value still there
  abbrev OtherCase : (t : IntType) (v : ℤ) (end n : ℕ) → (Locals → Behaviour) → Type 0
  OtherCase t v end n b = (env : Locals) (values frame : ℕ → ℕ) → AreHeld c env values frame → IsHeld t v values r → Runs c.codes n (b env) (here c end values frame)

  number_case : (b : Bool) (m : ℤ) (t : IntType) (v : ℤ) (l pc end to n : ℕ) (x : Bool → Locals → Behaviour) (env : Locals) (values frame : ℕ → ℕ) → int_eq (wrapped t m) m ≡ b →
      Stands (code c) pc (if b then const_code t m (r + 2) ++ same_code (is_wide t) r l else []) end → slice_get (code c) to ≡ Some (Label l) → IsHeld t v values r → AreHeld c env values frame →
      GoesOn c n to (x true) → OtherCase t v end n (x false) → Runs c.codes n (x (int_eq m v) env) (here c pc values frame)
  number_case true m t v l pc end to n x env values frame is s label hv h gone other =
      let typed : wrapped t m ≡ m = (Decides-int_eq (wrapped t m) m).0 is in
      let s1 = split (code c) pc end (const_code t m (r + 2)) (same_code (is_wide t) r l) s in
      const_runs c.codes c.f c.rest c.fits.labelled n c.p c.types c.spots c.base t m (r + 2) pc s1.0 (λ m1. x (int_eq m1 v)) env values frame (omega arith) typed s1.1 h
      (λ m1 env1 values1 frame1 h1.
      let hv1 : IsHeld t v values1 r = still c.base t v r (r + 2) values values1 (omega arith) (omega arith) h1.keeps hv in
      same_runs (is_wide t) (int_eq m1 v) t v m1 l s1.0 end to n (x (int_eq m1 v) env1) env1 values1 frame1 refl refl hv1 h1.is s1.2 label h1.holds
      (λ q new hn. subst (λ b. Runs c.codes n (x b env1) (here c to new frame1)) (sym q) (gone env1 new frame1 hn))
      (λ q new hn hv2. subst (λ b. Runs c.codes n (x b env1) (here c end new frame1)) (sym q) (other env1 new frame1 hn hv2)))
  number_case false m t v l pc end to n x env values frame is s label hv h gone other =
      subst (λ b. Runs c.codes n (x b env) (here c pc values frame)) (sym (not_of t v m hv.number is)) (behind c n (x false env) pc end values frame s (other env values frame h hv))

  case_runs : (o : Option ℤ) (t : IntType) (v : ℤ) (l pc end to n : ℕ) (x : Bool → Locals → Behaviour) (env : Locals) (values frame : ℕ → ℕ) →
      Stands (code c) pc (case_code t o r l) end → slice_get (code c) to ≡ Some (Label l) → IsHeld t v values r → AreHeld c env values frame →
      GoesOn c n to (x true) → OtherCase t v end n (x false) → Runs c.codes n (x (is_case o v) env) (here c pc values frame)
  case_runs None t v l pc end to n x env values frame s label hv h gone other = behind c n (x false env) pc end values frame s (other env values frame h hv)
  case_runs (Some m) t v l pc end to n x env values frame s label hv h gone other = number_case (int_eq (wrapped t m) m) m t v l pc end to n x env values frame refl s label hv h gone other

  -- ---- all cases

  -- where a label stands, and what goes on behind it
  pub record StandsAt (n l : ℕ) (b : Locals → Behaviour) : Type 0 where
    pub to : ℕ
    pub label : slice_get (code c) to ≡ Some (Label l)
    pub runs : GoesOn c n (to + 1) b

  pub cases_runs : (cases : List Case) (default : Option ℕ) (t : IntType) (v : ℤ) (count l pc end n : ℕ) (from : ℕ → Work Flow) (after : Flow → Locals → Behaviour) (env : Locals) (values frame : ℕ → ℕ) →
      Stands (code c) pc (cases_code t cases default r l) end → IsHeld t v values r → AreHeld c env values frame → All (λ x. x.start < count) cases →
      ((k : ℕ) → k < count → StandsAt n (label_of (Some k) l) (from k after)) → StandsAt n (label_of default l) (from_case None default from after) →
      Runs c.codes n (from_case (start_of_value cases v) default from after env) (here c pc values frame)
  cases_runs [] default t v count l pc end n from after env values frame s hv h inside starts other =
      jumps c n (from_case None default from after env) (label_of default l) pc other.to values frame s.0 other.label (other.runs env values frame h)
  cases_runs (x ∷ cases) default t v count l pc end n from after env values frame s hv h inside starts other =
      let s1 = split (code c) pc end (case_code t x.value r (label_of (Some x.start) l)) (cases_code t cases default r l) s in
      let there = starts x.start (All-head (λ y. y.start < count) x cases inside) in
      case_runs x.value t v (label_of (Some x.start) l) pc s1.0 there.to n (λ b. from_case (if b then Some x.start else start_of_value cases v) default from after) env values frame s1.1 there.label hv h
      (λ env1 values1 frame1 h1. past_label c n (from x.start after env1) (label_of (Some x.start) l) there.to values1 frame1 there.label (there.runs env1 values1 frame1 h1))
      (λ env1 values1 frame1 h1 hv1. cases_runs cases default t v count l s1.0 end n from after env1 values1 frame1 s1.2 hv1 h1 (All-tail (λ y. y.start < count) x cases inside) starts other)

  -- ---- the whole

  -- a break ends at the switch's own label
  switch_left : (may : May) (w : Ways) (l mid n : ℕ) (after : Flow → Locals → Behaviour) → slice_get (code c) mid ≡ Some (Label l) → Follows c may w (mid + 1) n after →
      Follows c (switch_may may) (in_switch l w) mid n (λ flow. after (out_of_switch flow))
  switch_left may w l mid n after label next On env values frame pc h left = behind c n (after On env) pc mid values frame left (past_label c n (after On env) l mid values frame label (next On env values frame (mid + 1) h refl))
  switch_left may w l mid n after label next Broke env values frame pc h left = jumps c n (after On env) l pc mid values frame left.1 label (next On env values frame (mid + 1) h refl)
  switch_left may w l mid n after label next Continued env values frame pc h left = next Continued env values frame pc h left
  switch_left may w l mid n after label next (Gave v) env values frame pc h left = next (Gave v) env values frame pc h left

  -- a statement of the switch, behind its label
  pub record Starts (may : May) (w : Ways) (l end : ℕ) (work : Work Flow) : Type 0 where
    pub to : ℕ
    pub label : slice_get (code c) to ≡ Some (Label l)
    pub runs : DoesIt c may w (to + 1) end work

  pub switch_runs : (may : May) (w : Ways) (e : Expr) (cases : List Case) (count l le pc end : ℕ) (inner : List Mid) (from : ℕ → Work Flow) → IsNumber (Has c.p c.types e) → Ready c (expr_derefs e) (expr_calls e) →
      All (λ x. x.start < count) cases →
      Stands (code c) pc (expr_code c.p c.types c.checks c.spots e c.base le ++ (cases_code (held c.p c.types e) cases (start_of_default cases) c.base l ++ (inner ++ Label l ∷ []))) end →
      ((mid to : ℕ) → Stands (code c) mid inner to → (k : ℕ) → k < count → Starts (switch_may may) (in_switch l w) (l + 1 + k) to (from k)) →
      DoesIt c may w pc end (λ after. value c.p c.types c.calls e (λ v. from_case (start_of_value cases v) (start_of_default cases) from (λ flow. after (out_of_switch flow))))
  switch_runs may w e cases count l le pc end inner from typed ready inside s starts =
      let s1 = split (code c) pc end (expr_code c.p c.types c.checks c.spots e c.base le) _ s in
      let s2 = split (code c) s1.0 end (cases_code (held c.p c.types e) cases (start_of_default cases) c.base l) (inner ++ Label l ∷ []) s1.2 in
      let s3 = split (code c) s2.0 end inner (Label l ∷ []) s2.2 in
      record {
        by = λ n after env values frame few h next.
            let left = switch_left may w l s3.0 n after s3.2.0 (subst (λ q. Follows c may w q n after) (sym s3.2.1) next) in
            let begins : (k : ℕ) → k < count → StandsAt n (label_of (Some k) l) (from k (λ flow. after (out_of_switch flow))) =
            (λ k lt. let there = starts s2.0 s3.0 s3.1 k lt in
            record { to = there.to; label = there.label; runs = λ env1 values1 frame1 h1. there.runs.by n (λ flow. after (out_of_switch flow)) env1 values1 frame1 few h1 left }) in
            value_runs c e (int typed.0) c.base le pc s1.0 n (λ v. from_case (start_of_value cases v) (start_of_default cases) from (λ flow. after (out_of_switch flow))) env values frame few (omega arith) typed.1 ready s1.1 h
            (λ v env1 values1 frame1 h1.
            cases_runs cases (start_of_default cases) (held c.p c.types e) v count l s1.0 s2.0 n from (λ flow. after (out_of_switch flow)) env1 values1 frame1 s2.1
            (subst (λ t. IsHeld t v values1 c.base) (sym (held_as c e (int typed.0) typed.1)) h1.is) h1.holds inside begins
            (by_default n after s3.0 s3.2.0 (subst (λ q. Follows c may w q n after) (sym s3.2.1) next) (start_of_default cases) refl begins));
      }
    where
      by_default : (n : ℕ) (after : Flow → Locals → Behaviour) (mid : ℕ) → slice_get (code c) mid ≡ Some (Label l) → Follows c may w (mid + 1) n after → (d : Option ℕ) → start_of_default cases ≡ d →
          ((k : ℕ) → k < count → StandsAt n (label_of (Some k) l) (from k (λ flow. after (out_of_switch flow)))) →
          StandsAt n (label_of d l) (from_case None d from (λ flow. after (out_of_switch flow)))
      by_default n after mid label next None is begins = record { to = mid; label = label; runs = λ env values frame h. next On env values frame (mid + 1) h refl }
      by_default n after mid label next (Some k) is begins = begins k (default_inside cases count k inside is)
