-- Arguments, items and elements, one after the other.
use Rattle.std.proofs.Common.{◌≡◌, ℕ, ◌+◌, ◌<◌, ◌≤◌, List, [], ◌∷◌, ◌++◌, map, drop, length, get_or, Ok, Err, Option, ap, sym, ◌∙◌, refl, append_assoc, append-nil}
use Rattle.nm_base.specs.declared.fault.Fault.{Fault}
use Rattle.nm_base.specs.declared.pos.Pos.{Pos}
use Rattle.nesc_tree.specs.declared.tree.TypeSpec as rust_spec
use Rattle.nesc_tree.specs.declared.components.Sig as rust_sig
use Rattle.nesc_tree.specs.View.{spec_of}
use Rattle.nesc_types.specs.Rule.{Rule}
use Rattle.nesc_types.specs.Values.{Constant}
use Rattle.elab_meaning.specs.Answers.{FaultIs}
use Rattle.elab_meaning.specs.Elab.{State, after, give}
use Rattle.elab_meaning.specs.Scope.{Entry, Env}
use Rattle.elab_exprs.proofs.Faults.{passes}
use Rattle.elab_exprs.proofs.Steps.{drop-past}
use Rattle.elab_forms.proofs.Lists.{next_of}
use Rattle.elab_locals.proofs.Turns as turns
use Rattle.elab_locals.proofs.Turns.{behind}
use Rattle.elab_targets.specs.declared.application.Element as rust_element
use Rattle.elab_targets.specs.View.{element_of, sig_of}
use Rattle.wire_facts.specs.Scopes.{Base}
use Rattle.program_meaning.specs.Items.{Fact}
use Rattle.program_meaning.specs.Parts.{Application, Elem}
use Rattle.elab_items.specs.Parts.{arguments, facts_of, facts_of_element, items_of, one_argument, one_item}

-- ---- lists of which each part gives one

map-end : {R A : Type 0} (view : R → A) (xs : List R) (x : R) → map view (xs ++ (x ∷ [])) ≡ map view xs ++ (view x ∷ [])
map-end view [] x = refl
map-end view (y ∷ ys) x = ap (λ l. view y ∷ l) (map-end view ys x)

move : {A : Type 0} (x : A) (done : List A) (r : Rule (List A × State)) → after (after r (λ ys. give (x ∷ ys))) (behind done) ≡ after r (behind (done ++ (x ∷ [])))
move x done (Ok p) = ap (λ l. Ok (l, p.1)) (sym (append_assoc done (x ∷ []) p.0))
move x done (Err e) = refl

abbrev cons_then : {A : Type 0} → (State → Rule (List A × State)) → A → State → Rule (List A × State)
cons_then rest x s1 = after (rest s1) (λ ys. give (x ∷ ys))

module _ {R A : Type 0} (view : R → A) where
  one_passed : (whole : Rule (List A × State)) (one : Rule (A × State)) (rest : State → Rule (List A × State)) (done : List R) (x : R) (more : List R) (st1 : State)
      → whole ≡ after (after one (cons_then rest)) (behind (map view done)) → one ≡ Ok (view x, st1) → more ≡ done ++ (x ∷ []) → whole ≡ after (rest st1) (behind (map view more))
  one_passed whole one rest done x more st1 is e m =
      is
      ∙ ap (λ (r : Rule (A × State)). after (after r (cons_then rest)) (behind (map view done))) e
      ∙ move (view x) (map view done) (rest st1)
      ∙ ap (λ (l : List A). after (rest st1) (behind l)) (sym (map-end view done x))
      ∙ ap (λ (l : List R). after (rest st1) (behind (map view l))) (sym m)

  one_failed : (whole : Rule (List A × State)) (one : Rule (A × State)) (rest : State → Rule (List A × State)) (done : List R) (e : Fault)
      → whole ≡ after (after one (cons_then rest)) (behind (map view done)) → FaultIs e one → FaultIs e whole
  one_failed whole one rest done e is f = rw is (passes e _ _ (passes e _ _ f))

-- ---- arguments

module _ (env : Env) (given : List (Option Constant)) (at : Pos) where
  pub arguments_begin : (params : List (List ℕ)) (args : List rust_spec.TypeSpec) (st : State)
      → arguments env given at params (map spec_of args) st ≡ after (arguments env given at params (map spec_of (drop 0 args)) st) (behind [])
  arguments_begin params args st = turns.begins (arguments env given at params (map spec_of args) st)

module _ {R : Type 0} (view : R → Entry) (env : Env) (given : List (Option Constant)) (at : Pos) (whole : Rule (List Entry × State)) (done : List R) (args : List rust_spec.TypeSpec) where
  next_argument : (params rest : List (List ℕ)) (n : List ℕ) (i : ℕ) (d : rust_spec.TypeSpec) (st : State)
      → whole ≡ after (arguments env given at params (map spec_of (drop i args)) st) (behind (map view done)) → params ≡ n ∷ rest → i < length args → d ≡ get_or args i d
      → whole ≡ after (after (one_argument env given at n (spec_of d) st) (cons_then (arguments env given at rest (map spec_of (drop (i + 1) args))))) (behind (map view done))
  next_argument params rest n i d st is p h isd =
      is
      ∙ ap (λ (ps : List (List ℕ)). after (arguments env given at ps (map spec_of (drop i args)) st) (behind (map view done))) p
      ∙ ap (λ (ts : List rust_spec.TypeSpec). after (arguments env given at (n ∷ rest) (map spec_of ts) st) (behind (map view done))) (next_of args i d h isd)

  pub argument_passed : (params rest : List (List ℕ)) (n : List ℕ) (i : ℕ) (d : rust_spec.TypeSpec) (st st1 : State) (x : R) (more : List R)
      → whole ≡ after (arguments env given at params (map spec_of (drop i args)) st) (behind (map view done)) → params ≡ n ∷ rest → i < length args → d ≡ get_or args i d
      → one_argument env given at n (spec_of d) st ≡ Ok (view x, st1) → more ≡ done ++ (x ∷ [])
      → whole ≡ after (arguments env given at rest (map spec_of (drop (i + 1) args)) st1) (behind (map view more))
  argument_passed params rest n i d st st1 x more is p h isd e m =
      one_passed view whole (one_argument env given at n (spec_of d) st) (arguments env given at rest (map spec_of (drop (i + 1) args))) done x more st1 (next_argument params rest n i d st is p h isd) e m

  pub argument_failed : (params rest : List (List ℕ)) (n : List ℕ) (i : ℕ) (d : rust_spec.TypeSpec) (st : State) (e : Fault)
      → whole ≡ after (arguments env given at params (map spec_of (drop i args)) st) (behind (map view done)) → params ≡ n ∷ rest → i < length args → d ≡ get_or args i d
      → FaultIs e (one_argument env given at n (spec_of d) st) → FaultIs e whole
  argument_failed params rest n i d st e is p h isd f =
      one_failed view whole (one_argument env given at n (spec_of d) st) (arguments env given at rest (map spec_of (drop (i + 1) args))) done e (next_argument params rest n i d st is p h isd) f

  pub arguments_end : (params : List (List ℕ)) (i : ℕ) (st : State)
      → whole ≡ after (arguments env given at params (map spec_of (drop i args)) st) (behind (map view done)) → length args ≤ i → whole ≡ Ok (map view done, st)
  arguments_end [] i st is h = turns.ended whole (map view done) st is
  arguments_end (n ∷ ns) i st is h =
      turns.ended whole (map view done) st (is ∙ ap (λ (ts : List rust_spec.TypeSpec). after (arguments env given at (n ∷ ns) (map spec_of ts) st) (behind (map view done))) (drop-past args i h))

  pub arguments_short : (params : List (List ℕ)) (i : ℕ) (st : State)
      → whole ≡ after (arguments env given at params (map spec_of (drop i args)) st) (behind (map view done)) → params ≡ [] → whole ≡ Ok (map view done, st)
  arguments_short params i st is p =
      turns.ended whole (map view done) st (is ∙ ap (λ (ps : List (List ℕ)). after (arguments env given at ps (map spec_of (drop i args)) st) (behind (map view done))) p)

-- ---- items

module _ (app : Application) (env : Env) (given : List (Option Constant)) (k : ℕ) (x : Elem) where
  pub items_begin : (list : List rust_sig.Sig) (st : State)
      → items_of app env given k x (map sig_of list) st ≡ after (items_of app env given k x (map sig_of (drop 0 list)) st) (behind [])
  items_begin list st = turns.begins (items_of app env given k x (map sig_of list) st)

module _ {R : Type 0} (view : R → Fact) (app : Application) (env : Env) (given : List (Option Constant)) (k : ℕ) (x : Elem) (whole : Rule (List Fact × State)) (done : List R) (list : List rust_sig.Sig) where
  next_item : (i : ℕ) (d : rust_sig.Sig) (st : State)
      → whole ≡ after (items_of app env given k x (map sig_of (drop i list)) st) (behind (map view done)) → i < length list → d ≡ get_or list i d
      → whole ≡ after (after (one_item app env given k x (sig_of d) st) (cons_then (items_of app env given k x (map sig_of (drop (i + 1) list))))) (behind (map view done))
  next_item i d st is h isd = is ∙ ap (λ (ds : List rust_sig.Sig). after (items_of app env given k x (map sig_of ds) st) (behind (map view done))) (next_of list i d h isd)

  pub item_passed : (i : ℕ) (d : rust_sig.Sig) (st st1 : State) (f : R) (more : List R)
      → whole ≡ after (items_of app env given k x (map sig_of (drop i list)) st) (behind (map view done)) → i < length list → d ≡ get_or list i d
      → one_item app env given k x (sig_of d) st ≡ Ok (view f, st1) → more ≡ done ++ (f ∷ [])
      → whole ≡ after (items_of app env given k x (map sig_of (drop (i + 1) list)) st1) (behind (map view more))
  item_passed i d st st1 f more is h isd e m =
      one_passed view whole (one_item app env given k x (sig_of d) st) (items_of app env given k x (map sig_of (drop (i + 1) list))) done f more st1 (next_item i d st is h isd) e m

  pub item_failed : (i : ℕ) (d : rust_sig.Sig) (st : State) (e : Fault)
      → whole ≡ after (items_of app env given k x (map sig_of (drop i list)) st) (behind (map view done)) → i < length list → d ≡ get_or list i d
      → FaultIs e (one_item app env given k x (sig_of d) st) → FaultIs e whole
  item_failed i d st e is h isd f =
      one_failed view whole (one_item app env given k x (sig_of d) st) (items_of app env given k x (map sig_of (drop (i + 1) list))) done e (next_item i d st is h isd) f

  pub items_end : (i : ℕ) (st : State)
      → whole ≡ after (items_of app env given k x (map sig_of (drop i list)) st) (behind (map view done)) → length list ≤ i → whole ≡ Ok (map view done, st)
  items_end i st is h =
      turns.ended whole (map view done) st (is ∙ ap (λ (ds : List rust_sig.Sig). after (items_of app env given k x (map sig_of ds) st) (behind (map view done))) (drop-past list i h))

-- ---- elements

module _ (app : Application) (env : Env) (given : List (Option Constant)) (b : Base) (k : ℕ) where
  pub elements_begin : (list : List rust_element.Element) (st : State)
      → facts_of app env given b k (map element_of list) st ≡ after (facts_of app env given b k (map element_of (drop 0 list)) st) (behind [])
  elements_begin list st = turns.begins (facts_of app env given b k (map element_of list) st)

  next_element : (list : List rust_element.Element) (i : ℕ) (x : rust_element.Element) (st : State) (whole : Rule (List Fact × State)) (done : List Fact)
      → whole ≡ after (facts_of app env given b k (map element_of (drop i list)) st) (behind done) → i < length list → x ≡ get_or list i x
      → whole ≡ after (after (facts_of_element app env given b k (element_of x) st) (turns.then_rest (facts_of app env given b k (map element_of (drop (i + 1) list))))) (behind done)
  next_element list i x st whole done is h isx = is ∙ ap (λ (ys : List rust_element.Element). after (facts_of app env given b k (map element_of ys) st) (behind done)) (next_of list i x h isx)

  pub element_passed : (list : List rust_element.Element) (i : ℕ) (x : rust_element.Element) (st st1 : State) (whole : Rule (List Fact × State)) (done xs more : List Fact)
      → whole ≡ after (facts_of app env given b k (map element_of (drop i list)) st) (behind done) → i < length list → x ≡ get_or list i x
      → facts_of_element app env given b k (element_of x) st ≡ Ok (xs, st1) → more ≡ done ++ xs
      → whole ≡ after (facts_of app env given b k (map element_of (drop (i + 1) list)) st1) (behind more)
  element_passed list i x st st1 whole done xs more is h isx e m =
      turns.passed whole (facts_of_element app env given b k (element_of x) st) (facts_of app env given b k (map element_of (drop (i + 1) list))) done xs more st1 (next_element list i x st whole done is h isx) e m

  pub element_failed : (list : List rust_element.Element) (i : ℕ) (x : rust_element.Element) (st : State) (whole : Rule (List Fact × State)) (done : List Fact) (e : Fault)
      → whole ≡ after (facts_of app env given b k (map element_of (drop i list)) st) (behind done) → i < length list → x ≡ get_or list i x
      → FaultIs e (facts_of_element app env given b k (element_of x) st) → FaultIs e whole
  element_failed list i x st whole done e is h isx f =
      turns.failed whole (facts_of_element app env given b k (element_of x) st) (facts_of app env given b k (map element_of (drop (i + 1) list))) done e (next_element list i x st whole done is h isx) f

  pub elements_end : (list : List rust_element.Element) (i : ℕ) (st : State) (whole : Rule (List Fact × State)) (done : List Fact)
      → whole ≡ after (facts_of app env given b k (map element_of (drop i list)) st) (behind done) → length list ≤ i → whole ≡ Ok (done, st)
  elements_end list i st whole done is h =
      turns.ended whole done st (is ∙ ap (λ (ys : List rust_element.Element). after (facts_of app env given b k (map element_of ys) st) (behind done)) (drop-past list i h))

pub ruleset argument_lists = (arguments_begin, arguments_end, arguments_short)

pub ruleset item_lists = (items_begin, items_end)

pub ruleset element_lists = (elements_begin, elements_end)
