-- What each function of the walk over initialisers gives, under names that do not unfold by themselves (own).
use Rattle.std.specs.Prelude.{ℕ, List, map, Result}
use Rattle.std.specs.declared.alloc.Global.{Global}
use Rattle.std.specs.declared.vec.Vec.{Vec}
use Rattle.nm_base.specs.declared.fault.Fault.{Fault}
use Rattle.nm_base.specs.declared.pos.Pos.{Pos}
use Rattle.nesc_core.specs.declared.tree.CoreExpr as core_expr
use Rattle.nesc_core.specs.Plain.{Expr}
use Rattle.nesc_core.specs.View.{expr_of}
use Rattle.nesc_types.specs.Rule.{Rule}
use Rattle.elab_meaning.specs.declared.work.Work.{Work}
use Rattle.elab_meaning.specs.Answers.{Gives}
use Rattle.elab_meaning.specs.Convert.{Target}
use Rattle.elab_meaning.specs.Elab.{State}
use Rattle.elab_meaning.specs.View.{env_of, state_of}
use Rattle.elab_forms.specs.declared.forms.Told.{Told}
use Rattle.body_meaning.specs.Initial as initial
use Rattle.body_meaning.specs.Tree.{Init, Inits}
use Rattle.elab_locals.specs.Parts as parts

unfoldable pub AreSteps : Result (Vec core_expr.CoreExpr Global) Fault → Work → Rule (List Expr × State) → Type 0
AreSteps r new outcome = Gives (λ v. map expr_of v.items) r (state_of new) outcome

unfoldable pub initial_at : Told → Pos → Target → Init → Work → Rule (List Expr × State)
initial_at t at p i w = initial.initial (env_of t.env) t.values at p i (state_of w)

unfoldable pub initials_at : Told → Pos → Target → Inits → Work → Rule (List Expr × State)
initials_at t at p is w = initial.initials (env_of t.env) t.values at p 0 is (state_of w)

unfoldable pub one_initial_at : Told → Pos → Target → ℕ → Init → Work → Rule (List Expr × State)
one_initial_at t at p k i w = parts.one_initial (env_of t.env) t.values at p k i (state_of w)
