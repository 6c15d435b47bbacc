-- Work inside the scope of an instance.
use Rattle.std.proofs.Common.{◌≡◌, Result, Ok, Err, ap, sym, subst, ◌∙◌}
use Rattle.nm_base.specs.declared.fault.Fault.{Fault}
use Rattle.nm_base.specs.declared.fault.Fault.TheVariants.{Refused, Missing, ReadFault, Limit, TooLarge, NoMemory}
use Rattle.nesc_types.specs.Rule.{Rule}
use Rattle.elab_meaning.specs.Answers.{FaultIs, Gives}
use Rattle.elab_meaning.specs.Elab.{Elab, State}
use Rattle.wire_facts.specs.Scopes.{Base, Own, Scope, back_in, declaring, inside, own_in, scope_in, with_own}
use Rattle.wire_scopes.specs.declared.scopes.Scope as scope
use Rattle.wire_scopes.specs.View.{scope_of}
use Rattle.wire_elements.specs.Scoped.{IsLeft}

back-passes : {A : Type 0} (e : Fault) (b : Base) (own : Own) (r : Rule (A × State)) → FaultIs e r → FaultIs e (back_in b own r)
back-passes NoMemory b own r h = tt
back-passes (Refused x) b own r h = ap (back_in b own) h
back-passes (Missing x) b own r h = ap (back_in b own) h
back-passes ReadFault b own r h = ap (back_in b own) h
back-passes (Limit x) b own r h = ap (back_in b own) h
back-passes (TooLarge x y) b own r h = ap (back_in b own) h

module _ {A T : Type 0} (view : T → A) (gave : Result T Fault) (st : State) (r : Rule (A × State)) where
  fault-given : (e : Fault) → Gives view gave st r → FaultIs e gave → FaultIs e r
  fault-given NoMemory g h = tt
  fault-given (Refused x) g h = subst (λ (y : Result T Fault). Gives view y st r) h g
  fault-given (Missing x) g h = subst (λ (y : Result T Fault). Gives view y st r) h g
  fault-given ReadFault g h = subst (λ (y : Result T Fault). Gives view y st r) h g
  fault-given (Limit x) g h = subst (λ (y : Result T Fault). Gives view y st r) h g
  fault-given (TooLarge x y) g h = subst (λ (z : Result T Fault). Gives view z st r) h g

-- what the work gave, and the scope that it left, are what work inside the scope gives
module _ {A T : Type 0} (view : T → A) (b : Base) (x : Scope) (work : Elab A) (s0 s1 s2 s3 : State) (was : Own) (gave : Result T Fault) where
  pub inside_gives : (result : Result (T × scope.Scope) Fault)
      → was ≡ own_in b s0 → s1 ≡ with_own b (declaring b x) s0 → Gives view gave s2 (work s1) → IsLeft b was gave s2 s3 result
      → Gives (λ p. (view p.0, scope_of p.1)) result s3 (inside b x work s0)
  inside_gives (Ok p) own now g left =
      let does : work s1 ≡ Ok (view p.0, s2) = subst (λ (y : Result T Fault). Gives view y s2 (work s1)) left.0 g in
      ap (λ (s : State). back_in b (own_in b s0) (work s)) (sym now)
      ∙ ap (back_in b (own_in b s0)) does
      ∙ ap (λ (o : Own). Ok ((view p.0, scope_in b s2), with_own b o s2)) (sym own)
      ∙ ap (λ (s : State). Ok ((view p.0, scope_in b s2), s)) (sym left.2)
      ∙ ap (λ (y : Scope). Ok ((view p.0, y), s3)) (sym left.1)
  inside_gives (Err e) own now g left =
      subst (λ (s : State). FaultIs e (back_in b (own_in b s0) (work s))) now
      (back-passes e b (own_in b s0) (work s1) (fault-given view gave s2 (work s1) e g left))
