-- The turns of a loop: each begins with a Tick, and where they are used up both sides are cut off.
use Rattle.std.proofs.Common.{◌≡◌, ℕ, zero, suc, ◌+◌, ◌-◌, ◌≤◌, true, false, List, [], ◌∷◌, ◌++◌, Some, arith}
use Rattle.std.specs.Prelude.{ℤ, slice_get, if◌then◌else◌}
use Rattle.nm_base.specs.declared.action.Action.TheVariants as action
use Rattle.nm_base.specs.Behaviour.{Behaviour, Cut}
use Rattle.nesc_core.specs.Plain.{Expr}
use Rattle.nesc_core.specs.Typing.{Has, IsTest}
use Rattle.nesc_core.specs.Derefs.{expr_derefs}
use Rattle.nesc_core.specs.Calls.{expr_calls}
use Rattle.core_meaning.specs.declared.flow.Flow.{Flow}
use Rattle.core_meaning.specs.declared.flow.Flow.TheVariants.{On, Broke, Continued, Gave}
use Rattle.core_meaning.specs.Flow.{again, turns}
use Rattle.core_meaning.specs.Numbers.{is_zero}
use Rattle.core_meaning.specs.Work.{Locals, Work, give}
use Rattle.core_meaning.specs.Act.{value}
use Rattle.mid_code.specs.declared.instr.Mid.{Mid}
use Rattle.mid_code.specs.declared.instr.Mid.TheVariants.{Label, Jump, Tick}
use Rattle.mid_code.specs.declared.instr.Test.TheVariants.{Eq, Ne}
use Rattle.mid_code.specs.Help.{is_wide}
use Rattle.mid_code.specs.Runs.{Runs, Stands}
use Rattle.mid_code.proofs.Runs.{acts, cut_off, fewer}
use Rattle.mid_code.proofs.Stands.{does, split}
use Rattle.lower_expr.specs.Held.{held}
use Rattle.lower_expr.specs.Pieces.{zero_code}
use Rattle.lower_expr.specs.Code.{expr_code}
use Rattle.lower_stmt.specs.Code.{Ways, in_loop}
use Rattle.lower_stmt.specs.Runs.{AreHeld, Setting, code, here}
use Rattle.lower_stmt.proofs.Common.{GoesOn, Ready, back_test_runs, behind, jumps, past_label, test_runs}
use Rattle.lower_stmt.proofs.Leaving.{Follows, May, loop_may}
use Rattle.lower_stmt.proofs.Exits.{DoesIt, StepsIt, follows_fewer}

module _ (c : Setting) where
  -- behind a turn's body: what comes in the turn, or what comes after the loop
  again_follows : (may : May) (w : Ways) (out next mid end to n : ℕ) (more : Work Flow) (after : Flow → Locals → Behaviour) →
      slice_get (code c) mid ≡ Some (Label next) → slice_get (code c) to ≡ Some (Label out) → to + 1 ≡ end → Follows c may w end n after → GoesOn c n (mid + 1) (more after) →
      Follows c (loop_may may) (in_loop out next w) mid n (λ flow. again flow more after)
  again_follows may w out next mid end to n more after on_label out_label e follows turn On env values frame pc h left =
      behind c n (more after env) pc mid values frame left (past_label c n (more after env) next mid values frame on_label (turn env values frame h))
  again_follows may w out next mid end to n more after on_label out_label e follows turn Broke env values frame pc h left =
      jumps c n (after On env) out pc to values frame left.1 out_label (follows On env values frame (to + 1) h e)
  again_follows may w out next mid end to n more after on_label out_label e follows turn Continued env values frame pc h left =
      jumps c n (more after env) next pc mid values frame left.1 on_label (turn env values frame h)
  again_follows may w out next mid end to n more after on_label out_label e follows turn (Gave v) env values frame pc h left = follows (Gave v) env values frame pc h left

  module _ (may : May) (w : Ways) (test : Expr) (body : Work Flow) (step : Work (Unit {0})) (typed : IsTest (Has c.p c.types test)) (ready : Ready c (expr_derefs test) (expr_calls test)) where
    abbrev tests : Work ℤ
    tests = value c.p c.types c.calls test

    -- the label, the test, the body, the step, and the label behind
    first_turns : (l lt pc p1 p2 p3 p4 end : ℕ) → slice_get (code c) pc ≡ Some (Label l) → slice_get (code c) (pc + 1) ≡ Some Tick →
        Stands (code c) (pc + 1 + 1) (expr_code c.p c.types c.checks c.spots test c.base lt) p1 → Stands (code c) p1 (zero_code Eq (is_wide (held c.p c.types test)) c.base (l + 1)) p2 →
        DoesIt c (loop_may may) (in_loop (l + 1) (l + 2) w) p2 p3 body → slice_get (code c) p3 ≡ Some (Label (l + 2)) → StepsIt c (p3 + 1) p4 step →
        slice_get (code c) p4 ≡ Some (Jump l) → slice_get (code c) (p4 + 1) ≡ Some (Label (l + 1)) → p4 + 1 + 1 ≡ end →
        (m n : ℕ) → n ≤ m → m ≤ c.turns → (after : Flow → Locals → Behaviour) (env : Locals) (values frame : ℕ → ℕ) → AreHeld c env values frame → Follows c may w end n after →
        Runs c.codes n (turns m true tests body step after env) (here c (pc + 1) values frame)
    first_turns l lt pc p1 p2 p3 p4 end top tick test_at zero_at bodys on_label steps jump out_label e zero n le few after env values frame h next =
        fewer c.codes n 0 Cut (here c (pc + 1) values frame) le (cut_off c.codes (here c (pc + 1) values frame))
    first_turns l lt pc p1 p2 p3 p4 end top tick test_at zero_at bodys on_label steps jump out_label e (suc m) n le few after env values frame h next =
        let d : ℕ = n - 1 in
        let more : Work Flow = turns m true tests body step in
        let behind_step : Work Flow = λ k. step (λ _. more k) in
        let second : Work Flow = λ k. body (λ flow. again flow behind_step k) in
        let next1 = follows_fewer c may w end d n after (omega arith) next in
        fewer c.codes n (suc d) (turns (suc m) true tests body step after env) (here c (pc + 1) values frame) (omega arith)
        (acts c.codes d action.Tick (tests (λ x. (if is_zero x then give On else second) after) env) _ (here c (pc + 1 + 1) values frame) (does c.codes c.f c.rest (pc + 1) values frame Tick tick)
        (test_runs c test lt (l + 1) (pc + 1 + 1) p1 p2 (p4 + 1) d (give On) second after env values frame (omega (arith, le, few)) typed ready test_at zero_at out_label h
        (λ env1 values1 frame1 h1. next1 On env1 values1 frame1 (p4 + 1 + 1) h1 e)
        (λ env1 values1 frame1 h1. bodys.by d (λ flow. again flow behind_step after) env1 values1 frame1 (omega (arith, le, few)) h1
        (again_follows may w (l + 1) (l + 2) p3 end (p4 + 1) d behind_step after on_label out_label e next1
        (λ env2 values2 frame2 h2. steps.by d (more after) env2 values2 frame2 (omega (arith, le, few)) h2
        (λ env3 values3 frame3 h3. jumps c d (more after env3) l p4 pc values3 frame3 jump top
        (first_turns l lt pc p1 p2 p3 p4 end top tick test_at zero_at bodys on_label steps jump out_label e m d (omega (arith, le)) (omega (arith, few)) after env3 values3 frame3 h3 next1)))))))

    -- the label, the body, the test, and the label behind
    last_turns : (l lt pc p1 p2 p3 end : ℕ) → slice_get (code c) pc ≡ Some (Label l) → slice_get (code c) (pc + 1) ≡ Some Tick →
        DoesIt c (loop_may may) (in_loop (l + 1) (l + 2) w) (pc + 1 + 1) p1 body → slice_get (code c) p1 ≡ Some (Label (l + 2)) →
        Stands (code c) (p1 + 1) (expr_code c.p c.types c.checks c.spots test c.base lt) p2 → Stands (code c) p2 (zero_code Ne (is_wide (held c.p c.types test)) c.base l) p3 →
        slice_get (code c) p3 ≡ Some (Label (l + 1)) → p3 + 1 ≡ end →
        (m n : ℕ) → n ≤ m → m ≤ c.turns → (after : Flow → Locals → Behaviour) (env : Locals) (values frame : ℕ → ℕ) → AreHeld c env values frame → Follows c may w end n after →
        Runs c.codes n (turns m false tests body step after env) (here c (pc + 1) values frame)
    last_turns l lt pc p1 p2 p3 end top tick bodys on_label test_at zero_at out_label e zero n le few after env values frame h next =
        fewer c.codes n 0 Cut (here c (pc + 1) values frame) le (cut_off c.codes (here c (pc + 1) values frame))
    last_turns l lt pc p1 p2 p3 end top tick bodys on_label test_at zero_at out_label e (suc m) n le few after env values frame h next =
        let d : ℕ = n - 1 in
        let more : Work Flow = turns m false tests body step in
        let second : Work Flow = λ k. tests (λ x. (if is_zero x then give On else more) k) in
        let next1 = follows_fewer c may w end d n after (omega arith) next in
        fewer c.codes n (suc d) (turns (suc m) false tests body step after env) (here c (pc + 1) values frame) (omega arith)
        (acts c.codes d action.Tick (body (λ flow. again flow second after) env) _ (here c (pc + 1 + 1) values frame) (does c.codes c.f c.rest (pc + 1) values frame Tick tick)
        (bodys.by d (λ flow. again flow second after) env values frame (omega (arith, le, few)) h
        (again_follows may w (l + 1) (l + 2) p1 end p3 d second after on_label out_label e next1
        (λ env1 values1 frame1 h1. back_test_runs c test lt l (p1 + 1) p2 p3 pc d (give On) more after env1 values1 frame1 (omega (arith, le, few)) typed ready test_at zero_at top h1
        (λ env2 values2 frame2 h2. past_label c d (after On env2) (l + 1) p3 values2 frame2 out_label (next1 On env2 values2 frame2 (p3 + 1) h2 e))
        (λ env2 values2 frame2 h2. past_label c d (more after env2) l pc values2 frame2 top
        (last_turns l lt pc p1 p2 p3 end top tick bodys on_label test_at zero_at out_label e m d (omega (arith, le)) (omega (arith, few)) after env2 values2 frame2 h2 next1))))))

    pub first_loop_runs : (l lt pc end : ℕ) (body_code step_code : List Mid) →
        Stands (code c) pc (Label l ∷ Tick ∷ (expr_code c.p c.types c.checks c.spots test c.base lt ++ (zero_code Eq (is_wide (held c.p c.types test)) c.base (l + 1)
        ++ (body_code ++ (Label (l + 2) ∷ (step_code ++ Jump l ∷ Label (l + 1) ∷ [])))))) end →
        ((from to : ℕ) → Stands (code c) from body_code to → DoesIt c (loop_may may) (in_loop (l + 1) (l + 2) w) from to body) →
        ((from to : ℕ) → Stands (code c) from step_code to → StepsIt c from to step) →
        DoesIt c may w pc end (turns c.turns true tests body step)
    first_loop_runs l lt pc end body_code step_code s bodies steps =
        let s1 = split (code c) (pc + 1 + 1) end (expr_code c.p c.types c.checks c.spots test c.base lt) _ s.1.1 in
        let s2 = split (code c) s1.0 end (zero_code Eq (is_wide (held c.p c.types test)) c.base (l + 1)) (body_code ++ (Label (l + 2) ∷ (step_code ++ Jump l ∷ Label (l + 1) ∷ []))) s1.2 in
        let s3 = split (code c) s2.0 end body_code (Label (l + 2) ∷ (step_code ++ Jump l ∷ Label (l + 1) ∷ [])) s2.2 in
        let s4 = split (code c) (s3.0 + 1) end step_code (Jump l ∷ Label (l + 1) ∷ []) s3.2.1 in
        record {
          by = λ n after env values frame few h next. past_label c n (turns c.turns true tests body step after env) l pc values frame s.0
              (first_turns l lt pc s1.0 s2.0 s3.0 s4.0 end s.0 s.1.0 s1.1 s2.1 (bodies s2.0 s3.0 s3.1) s3.2.0 (steps (s3.0 + 1) s4.0 s4.1) s4.2.0 s4.2.1.0 s4.2.1.1
              c.turns n few (omega arith) after env values frame h next);
        }

    pub last_loop_runs : (l lt pc end : ℕ) (body_code : List Mid) →
        Stands (code c) pc (Label l ∷ Tick ∷ (body_code ++ (Label (l + 2) ∷ (expr_code c.p c.types c.checks c.spots test c.base lt
        ++ (zero_code Ne (is_wide (held c.p c.types test)) c.base l ++ Label (l + 1) ∷ []))))) end →
        ((from to : ℕ) → Stands (code c) from body_code to → DoesIt c (loop_may may) (in_loop (l + 1) (l + 2) w) from to body) →
        DoesIt c may w pc end (turns c.turns false tests body step)
    last_loop_runs l lt pc end body_code s bodies =
        let s1 = split (code c) (pc + 1 + 1) end body_code _ s.1.1 in
        let s2 = split (code c) (s1.0 + 1) end (expr_code c.p c.types c.checks c.spots test c.base lt) _ s1.2.1 in
        let s3 = split (code c) s2.0 end (zero_code Ne (is_wide (held c.p c.types test)) c.base l) (Label (l + 1) ∷ []) s2.2 in
        record {
          by = λ n after env values frame few h next. past_label c n (turns c.turns false tests body step after env) l pc values frame s.0
              (last_turns l lt pc s1.0 s2.0 s3.0 end s.0 s.1.0 (bodies (pc + 1 + 1) s1.0 s1.1) s1.2.0 s2.1 s3.1 s3.2.0 s3.2.1 c.turns n few (omega arith) after env values frame h next);
        }
