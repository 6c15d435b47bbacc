-- An if runs the one or the other of two statements.
use Rattle.std.proofs.Common.{ℕ, ◌+◌, List, [], ◌∷◌, ◌++◌}
use Rattle.std.specs.Prelude.{if◌then◌else◌}
use Rattle.nesc_core.specs.Plain.{Expr}
use Rattle.nesc_core.specs.Typing.{Has, IsTest}
use Rattle.nesc_core.specs.Derefs.{expr_derefs}
use Rattle.nesc_core.specs.Calls.{expr_calls}
use Rattle.core_meaning.specs.declared.flow.Flow.{Flow}
use Rattle.core_meaning.specs.declared.flow.Flow.TheVariants.{On}
use Rattle.core_meaning.specs.Numbers.{is_zero}
use Rattle.core_meaning.specs.Work.{Work}
use Rattle.core_meaning.specs.Act.{value}
use Rattle.mid_code.specs.declared.instr.Mid.{Mid}
use Rattle.mid_code.specs.declared.instr.Mid.TheVariants.{Label, Jump}
use Rattle.mid_code.specs.declared.instr.Test.TheVariants.{Eq}
use Rattle.mid_code.specs.Help.{is_wide}
use Rattle.mid_code.specs.Runs.{Stands}
use Rattle.mid_code.proofs.Stands.{split}
use Rattle.lower_expr.specs.Held.{held}
use Rattle.lower_expr.specs.Pieces.{zero_code}
use Rattle.lower_expr.specs.Code.{expr_code}
use Rattle.lower_stmt.specs.Code.{Ways}
use Rattle.lower_stmt.specs.Runs.{Setting, code}
use Rattle.lower_stmt.proofs.Common.{Ready, jumps, past_label, test_runs}
use Rattle.lower_stmt.proofs.Leaving.{May}
use Rattle.lower_stmt.proofs.Exits.{DoesIt, ends_sooner}

module _ (c : Setting) where
  pub branch_runs : (may : May) (w : Ways) (test : Expr) (a b : Work Flow) (l lt pc end : ℕ) (a_code b_code : List Mid) → IsTest (Has c.p c.types test) → Ready c (expr_derefs test) (expr_calls test) →
      Stands (code c) pc (expr_code c.p c.types c.checks c.spots test c.base lt ++ (zero_code Eq (is_wide (held c.p c.types test)) c.base l
      ++ (a_code ++ (Jump (l + 1) ∷ Label l ∷ (b_code ++ Label (l + 1) ∷ []))))) end →
      ((from to : ℕ) → Stands (code c) from a_code to → DoesIt c may w from to a) → ((from to : ℕ) → Stands (code c) from b_code to → DoesIt c may w from to b) →
      DoesIt c may w pc end (λ after. value c.p c.types c.calls test (λ x. (if is_zero x then b else a) after))
  branch_runs may w test a b l lt pc end a_code b_code typed ready s firsts seconds =
      let s1 = split (code c) pc end (expr_code c.p c.types c.checks c.spots test c.base lt) _ s in
      let s2 = split (code c) s1.0 end (zero_code Eq (is_wide (held c.p c.types test)) c.base l) (a_code ++ (Jump (l + 1) ∷ Label l ∷ (b_code ++ Label (l + 1) ∷ []))) s1.2 in
      let s3 = split (code c) s2.0 end a_code (Jump (l + 1) ∷ Label l ∷ (b_code ++ Label (l + 1) ∷ [])) s2.2 in
      let s4 = split (code c) (s3.0 + 1 + 1) end b_code (Label (l + 1) ∷ []) s3.2.1.1 in
      let first = firsts s2.0 s3.0 s3.1 in
      let second = seconds (s3.0 + 1 + 1) s4.0 s4.1 in
      record {
        by = λ n after env values frame few h next.
            test_runs c test lt l pc s1.0 s2.0 (s3.0 + 1) n b a after env values frame few typed ready s1.1 s2.1 s3.2.1.0 h
            (λ env1 values1 frame1 h1. second.by n after env1 values1 frame1 few h1
            (ends_sooner c may w s4.0 end n after next (λ env2 values2 frame2 h2. past_label c n (after On env2) (l + 1) s4.0 values2 frame2 s4.2.0 (next On env2 values2 frame2 (s4.0 + 1) h2 s4.2.1))))
            (λ env1 values1 frame1 h1. first.by n after env1 values1 frame1 few h1
            (ends_sooner c may w s3.0 end n after next (λ env2 values2 frame2 h2. jumps c n (after On env2) (l + 1) s3.0 s4.0 values2 frame2 s3.2.0 s4.2.0 (next On env2 values2 frame2 (s4.0 + 1) h2 s4.2.1))));
      }
