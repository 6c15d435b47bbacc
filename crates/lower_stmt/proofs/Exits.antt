-- How statements are left: on to what is behind them, or through the exits of what they stand in.
use Rattle.std.proofs.Common.{Bool, false, ◌≡◌, ℕ, ◌+◌, ◌≤◌, true, List, [], ◌∷◌, ◌++◌, Option, Some, None, refl, sym, subst, arith}
use Rattle.std.specs.Prelude.{ℤ, pos, slice_get}
use Rattle.nm_base.specs.declared.action.Action.TheVariants as action
use Rattle.nm_base.specs.declared.int_type.IntType.{IntType}
use Rattle.nm_base.specs.declared.int_type.IntType.TheVariants.{I8, U8, I16, U16, I32, U32}
use Rattle.nm_base.specs.Behaviour.{Behaviour, Does}
use Rattle.nesc_core.specs.Plain.{Ty, Expr, void, int, pointer, array, struct}
use Rattle.nesc_core.specs.Plain as plain
use Rattle.nesc_core.specs.Typing.{Has, IsOf, IsScalar}
use Rattle.nesc_core.specs.Typing as typing
use Rattle.nesc_core.specs.WellFormed.{Exits, IsDone, IsGiven}
use Rattle.nesc_core.specs.Derefs.{expr_derefs, maybe_derefs}
use Rattle.nesc_core.specs.Calls.{expr_calls, maybe_calls}
use Rattle.core_meaning.specs.declared.flow.Flow.{Flow}
use Rattle.core_meaning.specs.declared.flow.Flow.TheVariants.{On, Broke, Continued, Gave}
use Rattle.core_meaning.specs.Flow.{on}
use Rattle.core_meaning.specs.Work.{Locals, Work, give, number_of}
use Rattle.core_meaning.specs.Act.{done, returned, run, value}
use Rattle.mid_code.specs.declared.instr.Mid.{Mid}
use Rattle.mid_code.specs.declared.instr.Mid.TheVariants.{Begin, End, Jump}
use Rattle.mid_code.specs.Runs.{Runs, Stands}
use Rattle.mid_code.proofs.Runs.{acts_on, fewer}
use Rattle.mid_code.proofs.Stands.{does, split}
use Rattle.lower_expr.specs.Held.{IsHeld}
use Rattle.lower_expr.proofs.Found.{as_number}
use Rattle.lower_expr.proofs.Pieces.{const_runs}
use Rattle.lower_stmt.specs.Code.{Ways, breaking, continuing, exit_code, exits_code, in_atomic, nothing_code, returned_code, returning, step_code, stmt_code, way_out}
use Rattle.lower_stmt.specs.Runs.{AreHeld, Gives, IsGivenAt, Setting, code, here}
use Rattle.lower_expr.specs.Code.{is_void}
use Rattle.lower_stmt.proofs.Common.{GoesOn, Ready, behind, jumps, value_runs}
use Rattle.lower_stmt.proofs.Leaving.{Follows, LeftAt, May, Within}

pub scalar_not_void : (ty : Ty) → IsScalar ty → is_void ty ≡ false
scalar_not_void void h = absurd h
scalar_not_void (int t) h = refl
scalar_not_void (pointer t) h = refl
scalar_not_void (array t m) h = absurd h
scalar_not_void (struct j) h = absurd h

module _ (c : Setting) where
  -- a statement's work, at code from one place to another
  pub record DoesIt (may : May) (w : Ways) (pc end : ℕ) (work : Work Flow) : Type 0 where
    pub by : (n : ℕ) (after : Flow → Locals → Behaviour) (env : Locals) (values frame : ℕ → ℕ) → n ≤ c.turns → AreHeld c env values frame →
        Follows c may w end n after → Runs c.codes n (work after env) (here c pc values frame)

  -- work without a value
  pub record StepsIt (pc end : ℕ) (work : Work (Unit {0})) : Type 0 where
    pub by : (n : ℕ) (after : Locals → Behaviour) (env : Locals) (values frame : ℕ → ℕ) → n ≤ c.turns → AreHeld c env values frame →
        GoesOn c n end after → Runs c.codes n (work (λ _. after) env) (here c pc values frame)

  -- fewer steps are asked of what follows
  pub follows_fewer : (may : May) (w : Ways) (end m n : ℕ) (after : Flow → Locals → Behaviour) → m ≤ n → Follows c may w end n after → Follows c may w end m after
  follows_fewer may w end m n after le next flow env values frame pc h left =
      fewer c.codes m n (after flow env) (here c pc values frame) le (next flow env values frame pc h left)

  -- ---- expressions

  pub eval_runs : (e : Expr) (may : May) (w : Ways) (l pc end : ℕ) → typing.IsSome (Has c.p c.types e) → Ready c (expr_derefs e) (expr_calls e) →
      Stands (code c) pc (step_code c.p c.types c.checks c.spots c.base (Some e) l) end → DoesIt may w pc end (λ after. value c.p c.types c.calls e (λ _. after On))
  eval_runs e may w l pc end typed ready s = record {
    by = λ n after env values frame few h next.
        value_runs c e typed.0 c.base l pc end n (λ _. after On) env values frame few (omega arith) typed.1 ready s h
        (λ v env1 values1 frame1 h1. next On env1 values1 frame1 end h1.holds refl);
  }

  pub step_runs : (e : Option Expr) (l pc end : ℕ) → IsDone c.p c.types e → Ready c (maybe_derefs e) (maybe_calls e) →
      Stands (code c) pc (step_code c.p c.types c.checks c.spots c.base e l) end → StepsIt pc end (done c.p c.types c.calls c.turns e)
  step_runs None l pc end typed ready s = record { by = λ n after env values frame few h next. behind c n (after env) pc end values frame s (next env values frame h) }
  step_runs (Some e) l pc end typed ready s = record {
    by = λ n after env values frame few h next.
        value_runs c e typed.0 c.base l pc end n (λ _. after) env values frame few (omega arith) typed.1 ready s h
        (λ v env1 values1 frame1 h1. next env1 values1 frame1 h1.holds);
  }

  -- ---- what is given back

  abbrev pub NextGiven : Ty → (end n : ℕ) → (ℤ → Locals → Behaviour) → Type 0
  NextGiven ty end n after = (v : ℤ) (env : Locals) (values frame : ℕ → ℕ) → AreHeld c env values frame → IsGivenAt c ty v values → Runs c.codes n (after v env) (here c end values frame)

  zero_of : (t : IntType) → IsOf t (pos 0)
  zero_of I8 = refl
  zero_of U8 = refl
  zero_of I16 = refl
  zero_of U16 = refl
  zero_of I32 = refl
  zero_of U32 = refl

  -- 0 of a type
  pub nothing_runs : (ty : Ty) (pc end n : ℕ) (after : ℤ → Locals → Behaviour) (env : Locals) (values frame : ℕ → ℕ) → typing.IsResult ty →
      Stands (code c) pc (nothing_code ty (c.base + 2)) end → AreHeld c env values frame → NextGiven ty end n after → Runs c.codes n (after (pos 0) env) (here c pc values frame)
  nothing_runs void pc end n after env values frame ok s h next =
      behind c n (after (pos 0) env) pc end values frame s (next (pos 0) env values frame h (record { number = refl; is = tt; nothing = λ e. refl }))
  nothing_runs (int t) pc end n after env values frame ok s h next =
      const_runs c.codes c.f c.rest c.fits.labelled n c.p c.types c.spots c.base t (pos 0) (c.base + 2) pc end after env values frame (omega arith) (zero_of t) s h
      (λ v env1 values1 frame1 h1. next v env1 values1 frame1 h1.holds (record { number = h1.is.number; is = h1.is; nothing = λ e. absurd (cc) }))
  nothing_runs (pointer t) pc end n after env values frame ok s h next =
      const_runs c.codes c.f c.rest c.fits.labelled n c.p c.types c.spots c.base U16 (pos 0) (c.base + 2) pc end after env values frame (omega arith) refl s h
      (λ v env1 values1 frame1 h1. next v env1 values1 frame1 h1.holds (record { number = h1.is.number; is = h1.is; nothing = λ e. absurd (cc) }))
  nothing_runs (array t m) pc end n after env values frame ok s h next = absurd ok
  nothing_runs (struct k) pc end n after env values frame ok s h next = absurd ok

  returned_runs : (e : Option Expr) (exits : Exits) (w : Ways) (l pc end n : ℕ) (after : ℤ → Locals → Behaviour) (env : Locals) (values frame : ℕ → ℕ) →
      n ≤ c.turns → IsGiven c.p c.types e exits.gives → Gives (plain.return e) exits w → Ready c (maybe_derefs e) (maybe_calls e) →
      Stands (code c) pc (returned_code c.p c.types c.checks c.spots c.base e w l) end → AreHeld c env values frame → NextGiven w.gives end n after →
      Runs c.codes n (returned c.p c.types c.calls c.turns e after env) (here c pc values frame)
  returned_runs None exits w l pc end n after env values frame few typed gives ready s h next = nothing_runs w.gives pc end n after env values frame gives.result s h next
  returned_runs (Some e) exits w l pc end n after env values frame few typed gives ready s h next =
      let same : w.gives ≡ exits.gives = gives.same refl in
      value_runs c e exits.gives (c.base + 2) l pc end n after env values frame few (omega arith) typed.1 ready s h
      (λ v env1 values1 frame1 h1.
      let number : IsHeld (number_of exits.gives) v values1 (c.base + 2) = as_number exits.gives v values1 (c.base + 2) typed.0 h1.is in
      next v env1 values1 frame1 h1.holds (subst (λ ty. IsGivenAt c ty v values1) (sym same) (record { number = number.number; is = h1.is; nothing = λ e. (let given = scalar_not_void exits.gives typed.0 in absurd (cc)) })))

  pub return_runs : (e : Option Expr) (exits : Exits) (may : May) (w : Ways) (l pc end : ℕ) → may returning ≡ true → IsGiven c.p c.types e exits.gives → Gives (plain.return e) exits w → Ready c (maybe_derefs e) (maybe_calls e) →
      Stands (code c) pc (stmt_code c.p c.types c.checks c.spots c.base (plain.return e) w l) end → DoesIt may w pc end (run c.p c.types c.calls c.turns (plain.return e))
  return_runs e exits may w l pc end ok typed gives ready s =
      let s1 = split (code c) pc end (returned_code c.p c.types c.checks c.spots c.base e w l) (way_out w (c.base + 2) returning ∷ []) s in
      record {
        by = λ n after env values frame few h next.
            returned_runs e exits w l pc s1.0 n (λ v. after (Gave v)) env values frame few typed gives ready s1.1 h
            (λ v env1 values1 frame1 h1 given. next (Gave v) env1 values1 frame1 s1.0 h1 (ok, given, s1.2.0));
      }

  pub break_runs : (may : May) (w : Ways) (pc end : ℕ) → may breaking ≡ true → Stands (code c) pc (way_out w (c.base + 2) breaking ∷ []) end → DoesIt may w pc end (give Broke)
  break_runs may w pc end ok s = record { by = λ n after env values frame few h next. next Broke env values frame pc h (ok, s.0) }

  pub continue_runs : (may : May) (w : Ways) (pc end : ℕ) → may continuing ≡ true → Stands (code c) pc (way_out w (c.base + 2) continuing ∷ []) end → DoesIt may w pc end (give Continued)
  continue_runs may w pc end ok s = record { by = λ n after env values frame few h next. next Continued env values frame pc h (ok, s.0) }

  -- ---- what stands behind a statement

  pub on_follows : (may : May) (w : Ways) (mid end n : ℕ) (more : Work Flow) (after : Flow → Locals → Behaviour) → Follows c may w end n after → GoesOn c n mid (more after) →
      Follows c may w mid n (λ flow. on flow more after)
  on_follows may w mid end n more after next go On env values frame pc h left = behind c n (more after env) pc mid values frame left (go env values frame h)
  on_follows may w mid end n more after next go Broke env values frame pc h left = next Broke env values frame pc h left
  on_follows may w mid end n more after next go Continued env values frame pc h left = next Continued env values frame pc h left
  on_follows may w mid end n more after next go (Gave v) env values frame pc h left = next (Gave v) env values frame pc h left

  -- the same exits, where only the place behind differs
  pub ends_sooner : (may : May) (w : Ways) (mid end n : ℕ) (after : Flow → Locals → Behaviour) → Follows c may w end n after → GoesOn c n mid (after On) → Follows c may w mid n after
  ends_sooner may w mid end n after next go On env values frame pc h left = behind c n (after On env) pc mid values frame left (go env values frame h)
  ends_sooner may w mid end n after next go Broke env values frame pc h left = next Broke env values frame pc h left
  ends_sooner may w mid end n after next go Continued env values frame pc h left = next Continued env values frame pc h left
  ends_sooner may w mid end n after next go (Gave v) env values frame pc h left = next (Gave v) env values frame pc h left

  -- ---- atomic statements

  -- an exit that is jumped over
  exit_passed : (b : Bool) (o l pc end n : ℕ) (onward : Mid) (what : Behaviour) (values frame : ℕ → ℕ) → Stands (code c) pc (exit_code b o l onward) end → Runs c.codes n what (here c end values frame) →
      Runs c.codes n what (here c pc values frame)
  exit_passed true o l pc end n onward what values frame s h =
      jumps c n what (l + 1) pc (pc + 1 + 1 + 1 + 1) values frame s.0 s.1.1.1.1.0 (behind c n what (pc + 1 + 1 + 1 + 1 + 1) end values frame s.1.1.1.1.1 h)
  exit_passed false o l pc end n onward what values frame s h = behind c n what pc end values frame s h

  -- and one that is gone to
  exit_taken : (b : Bool) (o l pc from end n : ℕ) (onward : Mid) (what : Behaviour) (values frame : ℕ → ℕ) → b ≡ true → Stands (code c) from (exit_code b o l onward) end → slice_get (code c) pc ≡ Some (Jump l) →
      ((to : ℕ) → slice_get (code c) to ≡ Some onward → Runs c.codes n what (here c to values frame)) → Runs c.codes n (Does action.End what) (here c pc values frame)
  exit_taken true o l pc from end n onward what values frame ok s at next =
      jumps c n (Does action.End what) l pc (from + 1) values frame at s.1.0
      (acts_on c.codes n action.End what _ (here c (from + 1 + 1 + 1) values frame) (does c.codes c.f c.rest (from + 1 + 1) values frame (End o) s.1.1.0) (next (from + 1 + 1 + 1) s.1.1.1.0))
  exit_taken false o l pc from end n onward what values frame ok s at next = absurd (cc)

  -- each way out of an atomic statement leads through its End
  atomic_left : (own may : May) (w : Ways) (l mid end n : ℕ) (after : Flow → Locals → Behaviour) → Within own may → Stands (code c) mid (End w.status ∷ exits_code own w (c.base + 2) l) end → Follows c may w end n after →
      Follows c own (in_atomic l w) mid n (λ flow env. Does action.End (after flow env))
  atomic_left own may w l mid end n after within s next flow env values frame pc h left =
      let r : ℕ = c.base + 2 in
      let s1 = split (code c) (mid + 1) end (exit_code (own returning) w.status l (way_out w r returning)) _ s.1 in
      let s2 = split (code c) s1.0 end (exit_code (own breaking) w.status (l + 2) (way_out w r breaking)) (exit_code (own continuing) w.status (l + 4) (way_out w r continuing)) s1.2 in
      by flow s1.0 s2.0 s1.1 s2.1 s2.2 left
    where
      by : (flow : Flow) (p1 p2 : ℕ) → Stands (code c) (mid + 1) (exit_code (own returning) w.status l (way_out w (c.base + 2) returning)) p1 →
          Stands (code c) p1 (exit_code (own breaking) w.status (l + 2) (way_out w (c.base + 2) breaking)) p2 → Stands (code c) p2 (exit_code (own continuing) w.status (l + 4) (way_out w (c.base + 2) continuing)) end →
          LeftAt c own (in_atomic l w) mid flow pc values → Runs c.codes n (Does action.End (after flow env)) (here c pc values frame)
      by On p1 p2 a b d left =
          behind c n (Does action.End (after On env)) pc mid values frame left
          (acts_on c.codes n action.End (after On env) _ (here c (mid + 1) values frame) (does c.codes c.f c.rest mid values frame (End w.status) s.0)
          (exit_passed (own returning) w.status l (mid + 1) p1 n (way_out w (c.base + 2) returning) (after On env) values frame a
          (exit_passed (own breaking) w.status (l + 2) p1 p2 n (way_out w (c.base + 2) breaking) (after On env) values frame b
          (exit_passed (own continuing) w.status (l + 4) p2 end n (way_out w (c.base + 2) continuing) (after On env) values frame d (next On env values frame end h refl)))))
      by Broke p1 p2 a b d left =
          exit_taken (own breaking) w.status (l + 2) pc p1 p2 n (way_out w (c.base + 2) breaking) (after Broke env) values frame left.0 b left.1
          (λ to at. next Broke env values frame to h (within breaking left.0, at))
      by Continued p1 p2 a b d left =
          exit_taken (own continuing) w.status (l + 4) pc p2 end n (way_out w (c.base + 2) continuing) (after Continued env) values frame left.0 d left.1
          (λ to at. next Continued env values frame to h (within continuing left.0, at))
      by (Gave v) p1 p2 a b d left =
          exit_taken (own returning) w.status l pc (mid + 1) p1 n (way_out w (c.base + 2) returning) (after (Gave v) env) values frame left.0 a left.2
          (λ to at. next (Gave v) env values frame to h (within returning left.0, left.1, at))

  pub atomic_runs : (own may : May) (w : Ways) (l pc end : ℕ) (inner : List Mid) (work : Work Flow) → Within own may →
      Stands (code c) pc (Begin w.status ∷ (inner ++ End w.status ∷ exits_code own w (c.base + 2) l)) end →
      ((from to : ℕ) → Stands (code c) from inner to → DoesIt own (in_atomic l w) from to work) →
      DoesIt may w pc end (λ after env. Does action.Begin (work (λ flow env1. Does action.End (after flow env1)) env))
  atomic_runs own may w l pc end inner work within s runs =
      let s1 = split (code c) (pc + 1) end inner (End w.status ∷ exits_code own w (c.base + 2) l) s.1 in
      let inside = runs (pc + 1) s1.0 s1.1 in
      record {
        by = λ n after env values frame few h next.
            acts_on c.codes n action.Begin (work (λ flow env1. Does action.End (after flow env1)) env) _ (here c (pc + 1) values frame) (does c.codes c.f c.rest pc values frame (Begin w.status) s.0)
            (inside.by n (λ flow env1. Does action.End (after flow env1)) env values frame few h (atomic_left own may w l s1.0 end n after within s1.2 next));
      }
