-- Parameters, one after the other.
use Rattle.std.proofs.Common.{◌≡◌, ℕ, ◌+◌, ◌<◌, ◌≤◌, List, [], ◌∷◌, ◌++◌, map, drop, length, get_or, Option, Ok, Err, ap, sym, ◌∙◌, refl, append_assoc}
use Rattle.nm_base.specs.declared.fault.Fault.{Fault}
use Rattle.nm_base.specs.declared.pos.Pos.{Pos}
use Rattle.nesc_core.specs.Plain.{Ty}
use Rattle.nesc_tree.specs.declared.tree.Param as rust_param
use Rattle.nesc_types.specs.Rule.{Rule}
use Rattle.nesc_types.specs.Values.{Constant}
use Rattle.elab_meaning.specs.Answers.{FaultIs}
use Rattle.elab_meaning.specs.Elab.{State, after, give}
use Rattle.elab_meaning.specs.Scope.{Env}
use Rattle.elab_exprs.proofs.Faults.{passes}
use Rattle.elab_exprs.proofs.Steps.{after-after, after-same, drop-past}
use Rattle.elab_forms.proofs.Lists.{next_of}
use Rattle.elab_locals.proofs.Turns as turns
use Rattle.elab_locals.proofs.Turns.{behind}
use Rattle.body_meaning.specs.Tree.{Param}
use Rattle.body_meaning.specs.View.{param_of}
use Rattle.program_meaning.specs.Heads.{Passed, passed_by, parameter, parameters}
use Rattle.elab_heads.specs.Parts.{one_parameter}

move : (t : Ty) (done : List Ty) (r : Rule (List Ty × State)) → after (after r (λ ts. give (t ∷ ts))) (behind done) ≡ after r (behind (done ++ (t ∷ [])))
move t done (Ok p) = ap (λ (l : List Ty). Ok (l, p.1)) (sym (append_assoc done (t ∷ []) p.0))
move t done (Err e) = refl

module _ (env : Env) (given : List (Option Constant)) (at : Pos) where
  abbrev rest_then : List Param → Ty → State → Rule (List Ty × State)
  rest_then ps t s1 = after (parameters env given at ps s1) (λ ts. give (t ∷ ts))

  parameters-more : (p : Param) (ps : List Param) (st : State) → parameters env given at (p ∷ ps) st ≡ after (one_parameter env given at p st) (rest_then ps)
  parameters-more p ps st =
      let placed : Passed → State → Rule (Ty × State) = λ t. λ s1. after (parameter at t p.name s1) (λ u. give t.ty) in
      let long : Passed → State → Rule (List Ty × State) = λ t. λ s1. after (parameter at t p.name s1) (λ u. rest_then ps t.ty) in
      after-same (passed_by env given at p.ty st) long (λ t. λ s1. after (placed t s1) (rest_then ps))
      (λ t. λ s1. after-after (parameter at t p.name s1) (λ u. give t.ty) (rest_then ps))
      ∙ after-after (passed_by env given at p.ty st) placed (rest_then ps)

  pub parameters_begin : (list : List rust_param.Param) (st : State)
      → parameters env given at (map param_of list) st ≡ after (parameters env given at (map param_of (drop 0 list)) st) (behind [])
  parameters_begin list st = turns.begins (parameters env given at (map param_of list) st)

  next_parameter : (list : List rust_param.Param) (i : ℕ) (p : rust_param.Param) (st : State) (whole : Rule (List Ty × State)) (done : List Ty)
      → whole ≡ after (parameters env given at (map param_of (drop i list)) st) (behind done) → i < length list → p ≡ get_or list i p
      → whole ≡ after (after (one_parameter env given at (param_of p) st) (rest_then (map param_of (drop (i + 1) list)))) (behind done)
  next_parameter list i p st whole done is h isp =
      is
      ∙ ap (λ (ys : List rust_param.Param). after (parameters env given at (map param_of ys) st) (behind done)) (next_of list i p h isp)
      ∙ ap (λ (r : Rule (List Ty × State)). after r (behind done)) (parameters-more (param_of p) (map param_of (drop (i + 1) list)) st)

  pub parameter_passed : (list : List rust_param.Param) (i : ℕ) (p : rust_param.Param) (st st1 : State) (whole : Rule (List Ty × State)) (done : List Ty) (t : Ty) (more : List Ty)
      → whole ≡ after (parameters env given at (map param_of (drop i list)) st) (behind done) → i < length list → p ≡ get_or list i p
      → one_parameter env given at (param_of p) st ≡ Ok (t, st1) → more ≡ done ++ (t ∷ [])
      → whole ≡ after (parameters env given at (map param_of (drop (i + 1) list)) st1) (behind more)
  parameter_passed list i p st st1 whole done t more is h isp e m =
      next_parameter list i p st whole done is h isp
      ∙ ap (λ (r : Rule (Ty × State)). after (after r (rest_then (map param_of (drop (i + 1) list)))) (behind done)) e
      ∙ move t done (parameters env given at (map param_of (drop (i + 1) list)) st1)
      ∙ ap (λ (l : List Ty). after (parameters env given at (map param_of (drop (i + 1) list)) st1) (behind l)) (sym m)

  pub parameter_failed : (list : List rust_param.Param) (i : ℕ) (p : rust_param.Param) (st : State) (whole : Rule (List Ty × State)) (done : List Ty) (e : Fault)
      → whole ≡ after (parameters env given at (map param_of (drop i list)) st) (behind done) → i < length list → p ≡ get_or list i p
      → FaultIs e (one_parameter env given at (param_of p) st) → FaultIs e whole
  parameter_failed list i p st whole done e is h isp f = rw (next_parameter list i p st whole done is h isp) (passes e _ _ (passes e _ _ f))

  pub parameters_end : (list : List rust_param.Param) (i : ℕ) (st : State) (whole : Rule (List Ty × State)) (done : List Ty)
      → whole ≡ after (parameters env given at (map param_of (drop i list)) st) (behind done) → length list ≤ i → whole ≡ Ok (done, st)
  parameters_end list i st whole done is h =
      turns.ended whole done st (is ∙ ap (λ (ys : List rust_param.Param). after (parameters env given at (map param_of ys) st) (behind done)) (drop-past list i h))

pub ruleset parameter_lists = (parameters_begin, parameters_end)
