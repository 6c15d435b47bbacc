-- Lists of work, of which some parts are done: what these gave stands before what the rest gives.
use Rattle.std.proofs.Common.{◌≡◌, List, [], ◌∷◌, ◌++◌, Ok, Err, ap, sym, ◌∙◌, refl, append_assoc, append-nil}
use Rattle.std.proofs.lemmas.List.{map-append}
use Rattle.nm_base.specs.declared.fault.Fault.{Fault}
use Rattle.nesc_types.specs.Rule.{Rule}
use Rattle.elab_meaning.specs.Answers.{FaultIs}
use Rattle.elab_meaning.specs.Elab.{State, after, give}
use Rattle.elab_exprs.proofs.Faults.{passes}

module _ {A : Type 0} where
  abbrev pub behind : List A → List A → State → Rule (List A × State)
  behind done more st = Ok (done ++ more, st)

  abbrev pub then_rest : (State → Rule (List A × State)) → List A → State → Rule (List A × State)
  then_rest rest xs s1 = after (rest s1) (λ ys. give (xs ++ ys))

  pub begins : (r : Rule (List A × State)) → r ≡ after r (behind [])
  begins (Ok p) = refl
  begins (Err e) = refl

  move : (xs done : List A) (r : Rule (List A × State)) → after (after r (λ ys. give (xs ++ ys))) (behind done) ≡ after r (behind (done ++ xs))
  move xs done (Ok p) = ap (λ (l : List A). Ok (l, p.1)) (sym (append_assoc done xs p.0))
  move xs done (Err e) = refl

  pub passed : (whole one : Rule (List A × State)) (rest : State → Rule (List A × State)) (done xs more : List A) (st1 : State)
      → whole ≡ after (after one (then_rest rest)) (behind done) → one ≡ Ok (xs, st1) → more ≡ done ++ xs
      → whole ≡ after (rest st1) (behind more)
  passed whole one rest done xs more st1 is e m =
      is ∙ ap (λ (r : Rule (List A × State)). after (after r (then_rest rest)) (behind done)) e
      ∙ move xs done (rest st1)
      ∙ ap (λ (l : List A). after (rest st1) (behind l)) (sym m)

  pub failed : (whole one : Rule (List A × State)) (rest : State → Rule (List A × State)) (done : List A) (e : Fault)
      → whole ≡ after (after one (then_rest rest)) (behind done) → FaultIs e one → FaultIs e whole
  failed whole one rest done e is f = rw is (passes e _ _ (passes e _ _ f))

  pub ended : (whole : Rule (List A × State)) (done : List A) (st : State) → whole ≡ after (Ok ([], st)) (behind done) → whole ≡ Ok (done, st)
  ended whole done st is = is ∙ ap (λ (l : List A). Ok (l, st)) (append-nil done)

pub ruleset lists = (append-nil, map-append)
