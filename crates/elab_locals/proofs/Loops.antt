-- Initialisers in braces and variables, one after the other.
use Rattle.std.proofs.Common.{◌≡◌, ℕ, suc, ◌+◌, ◌<◌, ◌≤◌, Bool, List, [], ◌++◌, map, drop, length, get_or, Option, Ok, ap, ◌∙◌, arith}
use Rattle.nm_base.specs.declared.fault.Fault.{Fault}
use Rattle.nm_base.specs.declared.pos.Pos.{Pos}
use Rattle.nm_base.specs.declared.refusal.Refusal.TheVariants.{BadType}
use Rattle.nesc_core.specs.Plain.{Expr, Stmt}
use Rattle.nesc_tree.specs.declared.declarations.Init as rust_init
use Rattle.nesc_tree.specs.declared.declarations.Variable as rust_variable
use Rattle.nesc_types.specs.Rule.{Rule, or_refuse}
use Rattle.nesc_types.specs.Values.{Constant}
use Rattle.elab_meaning.specs.Answers.{FaultIs}
use Rattle.elab_meaning.specs.Convert.{Target}
use Rattle.elab_meaning.specs.Elab.{State, after, by}
use Rattle.elab_meaning.specs.Operators.{Based}
use Rattle.elab_meaning.specs.Scope.{Env}
use Rattle.elab_exprs.proofs.Steps.{after-after, drop-past}
use Rattle.elab_forms.proofs.Lists.{next_of}
use Rattle.body_meaning.specs.Tree.{Init, Inits, more_inits}
use Rattle.body_meaning.specs.Initial.{initial, initials, init_pos, part_of}
use Rattle.body_meaning.specs.Stmts.{all_variables}
use Rattle.body_meaning.specs.View.{init_of, inits, variable_of}
use Rattle.elab_locals.specs.Parts.{one_initial, one_variable}
use Rattle.elab_locals.proofs.Cuts.{variable_is}
use Rattle.elab_locals.proofs.Sizes.{sizes_next}
use Rattle.elab_locals.proofs.Turns as turns
use Rattle.elab_locals.proofs.Turns.{behind, then_rest}

module _ (env : Env) (given : List (Option Constant)) where
  -- ---- initialisers in braces

  initials-more : (at : Pos) (p : Target) (k : ℕ) (i : Init) (rest : Inits) (st : State)
      → initials env given at p k (more_inits i rest) st ≡ after (one_initial env given at p k i st) (then_rest (initials env given at p (suc k) rest))
  initials-more at p k i rest st =
      after-after (by (or_refuse (BadType (init_pos at i)) (part_of st.structs p k p.ty)) st) (λ q. initial env given at q i) (then_rest (initials env given at p (suc k) rest))

  pub initials_begin : (at : Pos) (p : Target) (list : List rust_init.Init) (st : State)
      → initials env given at p 0 (inits (map init_of list)) st ≡ after (initials env given at p 0 (inits (map init_of (drop 0 list))) st) (behind [])
  initials_begin at p list st = turns.begins (initials env given at p 0 (inits (map init_of list)) st)

  next_initial : (at : Pos) (p : Target) (k : ℕ) (list : List rust_init.Init) (i : ℕ) (x : rust_init.Init) (st : State) (whole : Rule (List Expr × State)) (done : List Expr)
      → whole ≡ after (initials env given at p k (inits (map init_of (drop i list))) st) (behind done) → i < length list → x ≡ get_or list i x
      → whole ≡ after (after (one_initial env given at p k (init_of x) st) (then_rest (initials env given at p (suc k) (inits (map init_of (drop (i + 1) list)))))) (behind done)
  next_initial at p k list i x st whole done is h isx =
      is
      ∙ ap (λ (ys : List rust_init.Init). after (initials env given at p k (inits (map init_of ys)) st) (behind done)) (next_of list i x h isx)
      ∙ ap (λ (r : Rule (List Expr × State)). after r (behind done)) (initials-more at p k (init_of x) (inits (map init_of (drop (i + 1) list))) st)

  pub initial_passed : (at : Pos) (p : Target) (k j : ℕ) (list : List rust_init.Init) (i : ℕ) (x : rust_init.Init) (st st1 : State) (whole : Rule (List Expr × State)) (done xs more : List Expr)
      → whole ≡ after (initials env given at p k (inits (map init_of (drop i list))) st) (behind done) → i < length list → x ≡ get_or list i x
      → one_initial env given at p k (init_of x) st ≡ Ok (xs, st1) → more ≡ done ++ xs → j ≡ k + 1
      → whole ≡ after (initials env given at p j (inits (map init_of (drop (i + 1) list))) st1) (behind more)
  initial_passed at p k j list i x st st1 whole done xs more is h isx e m js =
      let next : suc k ≡ j = omega (arith, js) in
      turns.passed whole (one_initial env given at p k (init_of x) st) (initials env given at p (suc k) (inits (map init_of (drop (i + 1) list)))) done xs more st1
      (next_initial at p k list i x st whole done is h isx) e m
      ∙ ap (λ (n : ℕ). after (initials env given at p n (inits (map init_of (drop (i + 1) list))) st1) (behind more)) next

  pub initial_failed : (at : Pos) (p : Target) (k : ℕ) (list : List rust_init.Init) (i : ℕ) (x : rust_init.Init) (st : State) (whole : Rule (List Expr × State)) (done : List Expr) (e : Fault)
      → whole ≡ after (initials env given at p k (inits (map init_of (drop i list))) st) (behind done) → i < length list → x ≡ get_or list i x
      → FaultIs e (one_initial env given at p k (init_of x) st) → FaultIs e whole
  initial_failed at p k list i x st whole done e is h isx f =
      turns.failed whole (one_initial env given at p k (init_of x) st) (initials env given at p (suc k) (inits (map init_of (drop (i + 1) list)))) done e
      (next_initial at p k list i x st whole done is h isx) f

  pub initials_end : (at : Pos) (p : Target) (k : ℕ) (list : List rust_init.Init) (i : ℕ) (st : State) (whole : Rule (List Expr × State)) (done : List Expr)
      → whole ≡ after (initials env given at p k (inits (map init_of (drop i list))) st) (behind done) → length list ≤ i → whole ≡ Ok (done, st)
  initials_end at p k list i st whole done is h =
      turns.ended whole done st (is ∙ ap (λ (ys : List rust_init.Init). after (initials env given at p k (inits (map init_of ys)) st) (behind done)) (drop-past list i h))

  -- ---- variables

  pub variables_begin : (b : Based) (said : Bool) (list : List rust_variable.Variable) (st : State)
      → all_variables env given b said (map variable_of list) st ≡ after (all_variables env given b said (map variable_of (drop 0 list)) st) (behind [])
  variables_begin b said list st = turns.begins (all_variables env given b said (map variable_of list) st)

  next_variable : (b : Based) (said : Bool) (list : List rust_variable.Variable) (i : ℕ) (x : rust_variable.Variable) (st : State) (whole : Rule (List Stmt × State)) (done : List Stmt)
      → whole ≡ after (all_variables env given b said (map variable_of (drop i list)) st) (behind done) → i < length list → x ≡ get_or list i x
      → whole ≡ after (after (one_variable env given b said (variable_of x) st) (then_rest (all_variables env given b said (map variable_of (drop (i + 1) list))))) (behind done)
  next_variable b said list i x st whole done is h isx =
      is
      ∙ ap (λ (ys : List rust_variable.Variable). after (all_variables env given b said (map variable_of ys) st) (behind done)) (next_of list i x h isx)
      ∙ ap (λ (r : Rule (List Stmt × State)). after (after r (then_rest (all_variables env given b said (map variable_of (drop (i + 1) list))))) (behind done)) (variable_is env given b said (variable_of x) st)

  pub variable_passed : (b : Based) (said : Bool) (list : List rust_variable.Variable) (i : ℕ) (x : rust_variable.Variable) (st st1 : State) (whole : Rule (List Stmt × State)) (done xs more : List Stmt)
      → whole ≡ after (all_variables env given b said (map variable_of (drop i list)) st) (behind done) → i < length list → x ≡ get_or list i x
      → one_variable env given b said (variable_of x) st ≡ Ok (xs, st1) → more ≡ done ++ xs
      → whole ≡ after (all_variables env given b said (map variable_of (drop (i + 1) list)) st1) (behind more)
  variable_passed b said list i x st st1 whole done xs more is h isx e m =
      turns.passed whole (one_variable env given b said (variable_of x) st) (all_variables env given b said (map variable_of (drop (i + 1) list))) done xs more st1
      (next_variable b said list i x st whole done is h isx) e m

  pub variable_failed : (b : Based) (said : Bool) (list : List rust_variable.Variable) (i : ℕ) (x : rust_variable.Variable) (st : State) (whole : Rule (List Stmt × State)) (done : List Stmt) (e : Fault)
      → whole ≡ after (all_variables env given b said (map variable_of (drop i list)) st) (behind done) → i < length list → x ≡ get_or list i x
      → FaultIs e (one_variable env given b said (variable_of x) st) → FaultIs e whole
  variable_failed b said list i x st whole done e is h isx f =
      turns.failed whole (one_variable env given b said (variable_of x) st) (all_variables env given b said (map variable_of (drop (i + 1) list))) done e
      (next_variable b said list i x st whole done is h isx) f

  pub variables_end : (b : Based) (said : Bool) (list : List rust_variable.Variable) (i : ℕ) (st : State) (whole : Rule (List Stmt × State)) (done : List Stmt)
      → whole ≡ after (all_variables env given b said (map variable_of (drop i list)) st) (behind done) → length list ≤ i → whole ≡ Ok (done, st)
  variables_end b said list i st whole done is h =
      turns.ended whole done st (is ∙ ap (λ (ys : List rust_variable.Variable). after (all_variables env given b said (map variable_of ys) st) (behind done)) (drop-past list i h))

pub ruleset init_lists = (initials_begin, initials_end, sizes_next)

pub ruleset variable_lists = (variables_begin, variables_end)
