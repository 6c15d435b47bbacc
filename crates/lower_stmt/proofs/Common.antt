-- What the forms of statements share: expressions, tests, labels and jumps in a setting.
use Rattle.std.proofs.Common.{◌≡◌, ℕ, ◌+◌, ◌<◌, ◌≤◌, Bool, true, false, List, [], ◌∷◌, ◌++◌, All, length, Some, refl, sym, ap, subst, arith}
use Rattle.std.specs.Prelude.{ℤ, slice_get, not, if◌then◌else◌}
use Rattle.std.proofs.lemmas.List.Elements.{All-cons, All-head, All-nil, All-tail}
use Rattle.nm_base.specs.Behaviour.{Behaviour}
use Rattle.nesc_core.specs.Plain.{Ty, Expr}
use Rattle.nesc_core.specs.Typing.{Has, IsTest}
use Rattle.nesc_core.specs.Derefs.{expr_derefs}
use Rattle.nesc_core.specs.Calls.{expr_calls}
use Rattle.core_meaning.specs.declared.flow.Flow.{Flow}
use Rattle.core_meaning.specs.Numbers.{is_zero}
use Rattle.core_meaning.specs.Work.{Locals, Work, number_of}
use Rattle.core_meaning.specs.Act.{value}
use Rattle.mid_code.specs.declared.instr.Mid.TheVariants.{Label, Jump}
use Rattle.mid_code.specs.declared.instr.Test.TheVariants.{Eq, Ne}
use Rattle.mid_code.specs.Help.{is_wide}
use Rattle.mid_code.specs.Runs.{Runs, Stands}
use Rattle.mid_code.proofs.Runs.{goes}
use Rattle.mid_code.proofs.Stands.{does, at_end, jump_runs}
use Rattle.lower_expr.specs.Held.{held, IsHeld}
use Rattle.lower_expr.specs.Runs.{After, IsReady}
use Rattle.lower_expr.specs.Pieces.{zero_code}
use Rattle.lower_expr.specs.Code.{check_of, expr_code}
use Rattle.lower_expr.proofs.Exprs.{expr_runs, held_is}
use Rattle.lower_expr.proofs.Found.{as_number}
use Rattle.lower_expr.proofs.Values.{keeps_refl}
use Rattle.lower_expr.proofs.Wide.{apart_tested, non_zero_test_runs, tested, zero_test_runs}
use Rattle.lower_stmt.specs.Runs.{AreHeld, Setting, code, here}

-- what holds of all of two lists
pub both_of : {A : Type 0} (P : A → Type 0) (xs ys : List A) → All P (xs ++ ys) → All P xs × All P ys
both_of P [] ys h = (All-nil P, h)
both_of P (x ∷ xs) ys h = let r = both_of P xs ys (All-tail P x (xs ++ ys) h) in (All-cons P x xs (All-head P x (xs ++ ys) h) r.0, r.1)

-- a test of what a behaviour goes on from
pub by_test : (P : Behaviour → Type 0) (t b : Bool) (yes_work no_work : Work Flow) (after : Flow → Locals → Behaviour) (env : Locals) → t ≡ b →
    (t ≡ true → P (yes_work after env)) → (t ≡ false → P (no_work after env)) → P ((if t then yes_work else no_work) after env)
by_test P t true yes_work no_work after env e on otherwise = subst (λ (u : Bool). P ((if u then yes_work else no_work) after env)) (sym e) (on e)
by_test P t false yes_work no_work after env e on otherwise = subst (λ (u : Bool). P ((if u then yes_work else no_work) after env)) (sym e) (otherwise e)

module _ (c : Setting) where
  abbrev pub Ready : List Ty → List ℕ → Type 0
  Ready ds gs = IsReady c.checks c.rank c.below ds gs

  -- what is ready for two parts is ready for each
  pub two_ready : (ds es : List Ty) (gs hs : List ℕ) → Ready (ds ++ es) (gs ++ hs) → Ready ds gs × Ready es hs
  two_ready ds es gs hs h =
      let a = both_of (λ t. check_of c.checks t < length c.checks) ds es h.checked in
      let b = both_of (λ g. c.rank g < c.below) gs hs h.lower in
      (record { checked = a.0; lower = b.0 }, record { checked = a.1; lower = b.1 })

  abbrev pub Next : Ty → (r end n : ℕ) → (ℕ → ℕ) → (ℤ → Locals → Behaviour) → Type 0
  Next ty r end n old after =
      (v : ℤ) (env : Locals) (values frame : ℕ → ℕ) → After c.p c.types c.spots c.base ty r old v env values frame → Runs c.codes n (after v env) (here c end values frame)

  pub value_runs : (e : Expr) (ty : Ty) (r l pc end n : ℕ) (after : ℤ → Locals → Behaviour) (env : Locals) (values frame : ℕ → ℕ) →
      n ≤ c.turns → c.base ≤ r → Has c.p c.types e ty → Ready (expr_derefs e) (expr_calls e) → Stands (code c) pc (expr_code c.p c.types c.checks c.spots e r l) end → AreHeld c env values frame →
      Next ty r end n values after → Runs c.codes n (value c.p c.types c.calls e after env) (here c pc values frame)
  value_runs e ty r l pc end n after env values frame few le typed ready s h next =
      expr_runs c.codes c.f c.rest n c.p c.types c.checks c.spots c.base c.rank c.below c.calls c.fits (c.calls_run n few) e ty r l pc end after env values frame le typed ready s h next

  -- a value is held as its type says
  pub held_as : (e : Expr) (ty : Ty) → Has c.p c.types e ty → held c.p c.types e ≡ number_of ty
  held_as e ty h = held_is c.codes c.f c.rest 0 c.p c.types c.checks c.spots c.base c.rank c.below c.calls c.fits (c.calls_run 0 (omega arith)) e ty h

  -- a label that is passed
  pub past_label : (n : ℕ) (b : Behaviour) (l pc : ℕ) (values frame : ℕ → ℕ) → slice_get (code c) pc ≡ Some (Label l) → Runs c.codes n b (here c (pc + 1) values frame) → Runs c.codes n b (here c pc values frame)
  past_label n b l pc values frame at h = goes c.codes n b _ (here c (pc + 1) values frame) (does c.codes c.f c.rest pc values frame (Label l) at) h

  pub jumps : (n : ℕ) (b : Behaviour) (l pc to : ℕ) (values frame : ℕ → ℕ) → slice_get (code c) pc ≡ Some (Jump l) → slice_get (code c) to ≡ Some (Label l) →
      Runs c.codes n b (here c (to + 1) values frame) → Runs c.codes n b (here c pc values frame)
  jumps n b l pc to values frame at label h =
      jump_runs c.codes c.f c.rest c.fits.labelled n b l pc to values frame at label (past_label n b l to values frame label h)

  pub behind : (n : ℕ) (b : Behaviour) (pc end : ℕ) (values frame : ℕ → ℕ) → pc ≡ end → Runs c.codes n b (here c end values frame) → Runs c.codes n b (here c pc values frame)
  behind n b pc end values frame e h = at_end c.codes c.f c.rest n b pc end values frame e h

  -- ---- tests

  -- what goes on at a place, where the locals are held
  abbrev pub GoesOn : (n pc : ℕ) → (Locals → Behaviour) → Type 0
  GoesOn n pc b = (env : Locals) (values frame : ℕ → ℕ) → AreHeld c env values frame → Runs c.codes n (b env) (here c pc values frame)

  -- 0 leads to a label
  pub test_runs : (e : Expr) (l out pc mid end to n : ℕ) (on_zero otherwise : Work Flow) (after : Flow → Locals → Behaviour) (env : Locals) (values frame : ℕ → ℕ) →
      n ≤ c.turns → IsTest (Has c.p c.types e) → Ready (expr_derefs e) (expr_calls e) →
      Stands (code c) pc (expr_code c.p c.types c.checks c.spots e c.base l) mid → Stands (code c) mid (zero_code Eq (is_wide (held c.p c.types e)) c.base out) end → slice_get (code c) to ≡ Some (Label out) →
      AreHeld c env values frame → GoesOn n (to + 1) (on_zero after) → GoesOn n end (otherwise after) →
      Runs c.codes n (value c.p c.types c.calls e (λ x. (if is_zero x then on_zero else otherwise) after) env) (here c pc values frame)
  test_runs e l out pc mid end to n on_zero otherwise after env values frame few typed ready s z label h gone on =
      value_runs e typed.0 c.base l pc mid n (λ x. (if is_zero x then on_zero else otherwise) after) env values frame few (omega arith) typed.2 ready s h
      (λ x env1 values1 frame1 h1.
      let number : IsHeld (number_of typed.0) x values1 c.base = as_number typed.0 x values1 c.base typed.1 h1.is in
      let wide : Bool = is_wide (held c.p c.types e) in
      let same : is_wide (number_of typed.0) ≡ wide = ap is_wide (sym (held_as e typed.0 typed.2)) in
      let after_test = apart_tested c.p c.types c.spots c.base c.base (omega arith) wide values1 env1 values1 frame1 (h1.holds, keeps_refl c.base c.base values1) in
      by_test (λ b. Runs c.codes n b (here c mid values1 frame1)) (is_zero x) (is_zero x) on_zero otherwise after env1 refl
      (λ q. zero_test_runs c.codes c.f c.rest c.fits.labelled n c.p c.types c.spots c.base wide true (number_of typed.0) x (on_zero after env1) c.base out mid end to values1 frame1 same number q z label
      (λ _. past_label n (on_zero after env1) out to (tested wide values1 c.base) frame1 label (gone env1 (tested wide values1 c.base) frame1 after_test.0))
      (λ r. absurd (cc)))
      (λ q. zero_test_runs c.codes c.f c.rest c.fits.labelled n c.p c.types c.spots c.base wide false (number_of typed.0) x (otherwise after env1) c.base out mid end to values1 frame1 same number q z label
      (λ r. absurd (cc))
      (λ _. on env1 (tested wide values1 c.base) frame1 after_test.0)))

  -- what is not 0 leads to a label
  pub back_test_runs : (e : Expr) (l out pc mid end to n : ℕ) (on_zero otherwise : Work Flow) (after : Flow → Locals → Behaviour) (env : Locals) (values frame : ℕ → ℕ) →
      n ≤ c.turns → IsTest (Has c.p c.types e) → Ready (expr_derefs e) (expr_calls e) →
      Stands (code c) pc (expr_code c.p c.types c.checks c.spots e c.base l) mid → Stands (code c) mid (zero_code Ne (is_wide (held c.p c.types e)) c.base out) end → slice_get (code c) to ≡ Some (Label out) →
      AreHeld c env values frame → GoesOn n end (on_zero after) → GoesOn n to (otherwise after) →
      Runs c.codes n (value c.p c.types c.calls e (λ x. (if is_zero x then on_zero else otherwise) after) env) (here c pc values frame)
  back_test_runs e l out pc mid end to n on_zero otherwise after env values frame few typed ready s z label h on gone =
      value_runs e typed.0 c.base l pc mid n (λ x. (if is_zero x then on_zero else otherwise) after) env values frame few (omega arith) typed.2 ready s h
      (λ x env1 values1 frame1 h1.
      let number : IsHeld (number_of typed.0) x values1 c.base = as_number typed.0 x values1 c.base typed.1 h1.is in
      let wide : Bool = is_wide (held c.p c.types e) in
      let same : is_wide (number_of typed.0) ≡ wide = ap is_wide (sym (held_as e typed.0 typed.2)) in
      let after_test = apart_tested c.p c.types c.spots c.base c.base (omega arith) wide values1 env1 values1 frame1 (h1.holds, keeps_refl c.base c.base values1) in
      by_test (λ b. Runs c.codes n b (here c mid values1 frame1)) (is_zero x) (is_zero x) on_zero otherwise after env1 refl
      (λ q. non_zero_test_runs c.codes c.f c.rest c.fits.labelled n c.p c.types c.spots c.base wide false (number_of typed.0) x (on_zero after env1) c.base out mid end to values1 frame1 same number (ap not q) z label
      (λ r. absurd (cc))
      (λ _. on env1 (tested wide values1 c.base) frame1 after_test.0))
      (λ q. non_zero_test_runs c.codes c.f c.rest c.fits.labelled n c.p c.types c.spots c.base wide true (number_of typed.0) x (otherwise after env1) c.base out mid end to values1 frame1 same number (ap not q) z label
      (λ _. gone env1 (tested wide values1 c.base) frame1 after_test.0)
      (λ r. absurd (cc))))
