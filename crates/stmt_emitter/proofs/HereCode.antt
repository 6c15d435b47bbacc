-- The code of an inlined call, from that of its parts.
use Rattle.std.proofs.Common.{◌≡◌, ℕ, ◌+◌, ◌-◌, ◌*◌, Bool, List, [], ◌∷◌, ◌++◌, append_assoc, ap, ◌∙◌, arith}
use Rattle.mid_code.specs.declared.instr.Mid.{Mid}
use Rattle.mid_code.specs.declared.instr.Mid.TheVariants.{Label, Tick}
use Rattle.nesc_core.specs.Heres.{gives_value}
use Rattle.nesc_core.specs.Plain.{Ty, Exprs, Stmt}
use Rattle.nesc_core.specs.Plain as plain
use Rattle.nesc_core.specs.WellFormed.{count_exprs}
use Rattle.lower_expr.specs.Code.{all_labels}
use Rattle.lower_stmt.specs.Code as code
use Rattle.lower_stmt.specs.Code.{Ways, nothing_code, stmt_code}
use Rattle.expr_emitter.specs.declared.scope.Scope.{Scope}
use Rattle.expr_emitter.specs.Scoped.{checks_in, locals_in, program_in}
use Rattle.stmt_emitter.specs.Located.{clears_in, enter_in, gives_in, result_in}

glued : (old a b c1 c2 c3 body tail : List Mid) → c1 ≡ old ++ (a ++ b) → c2 ≡ c1 ++ Tick ∷ [] → c3 ≡ c2 ++ body → c3 ++ tail ≡ old ++ (a ++ (b ++ (Tick ∷ (body ++ tail))))
glued old a b c1 c2 c3 body tail e1 e2 e3 =
    ap (λ m. m ++ tail) e3 ∙ append_assoc c2 body tail ∙ ap (λ m. m ++ (body ++ tail)) e2 ∙ append_assoc c1 (Tick ∷ []) (body ++ tail)
    ∙ ap (λ m. m ++ (Tick ∷ (body ++ tail))) e1 ∙ append_assoc old (a ++ b) (Tick ∷ (body ++ tail)) ∙ ap (λ m. old ++ m) (append_assoc a b (Tick ∷ (body ++ tail)))

module _ (s : Scope) (base : ℕ) where
  abbrev at : Stmt → Ways → ℕ → List Mid
  at st w l = stmt_code (program_in s) (locals_in s) (checks_in s) s.spots.now base st w l

  abbrev last : (l x : ℕ) → Ty → Bool → List Mid
  last l x ty gives = nothing_code ty (base + 2) ++ Label l ∷ Tick ∷ result_in s base gives x

  pub here_code : (l next first count : ℕ) (es : Exprs) (st : Stmt) (w inside : Ways) (ty : Ty) (gives : Bool) (old c1 c2 c3 : List Mid)
      → gives ≡ gives_value st → ty ≡ gives_in s base gives (first + count) → inside ≡ code.in_here l ty w → next ≡ l + 1 + (all_labels es + 2 * count)
      → c1 ≡ old ++ (enter_in s base es first (l + 1) ++ clears_in s base (count - count_exprs es) (first + count_exprs es) (l + 1 + all_labels es))
      → c2 ≡ c1 ++ Tick ∷ [] → c3 ≡ c2 ++ at st inside next
      → c3 ++ last l (first + count) ty gives ≡ old ++ at (plain.here es first count st) w l
  here_code l next first count es st w inside ty gives old c1 c2 c3 eg et ew en e1 e2 e3 =
      let x = first + count in
      let n = l + 1 + all_labels es + 2 * count in
      let a = enter_in s base es first (l + 1) in
      let b = clears_in s base (count - count_exprs es) (first + count_exprs es) (l + 1 + all_labels es) in
      let ty2 = gives_in s base (gives_value st) x in
      let tys : ty ≡ ty2 = et ∙ ap (λ g. gives_in s base g x) eg in
      let ways : inside ≡ code.in_here l ty2 w = ew ∙ ap (λ t. code.in_here l t w) tys in
      let labels : next ≡ n = omega (arith, en) in
      let whole : at st inside next ≡ at st (code.in_here l ty2 w) n = ap (λ v. at st v next) ways ∙ ap (λ k. at st (code.in_here l ty2 w) k) labels in
      let ends : last l x ty gives ≡ last l x ty2 (gives_value st) = ap (λ t. last l x t gives) tys ∙ ap (λ g. last l x ty2 g) eg in
      glued old a b c1 c2 c3 (at st inside next) (last l x ty gives) e1 e2 e3
      ∙ ap (λ m. old ++ (a ++ (b ++ (Tick ∷ (m ++ last l x ty gives))))) whole
      ∙ ap (λ m. old ++ (a ++ (b ++ (Tick ∷ (at st (code.in_here l ty2 w) n ++ m))))) ends
