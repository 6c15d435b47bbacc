-- Loops over lists of work, of which some parts are done: what the rest gives from here is what the whole gives.
use Rattle.std.proofs.Common.{◌≡◌, ℕ, ◌+◌, ◌<◌, ◌≤◌, List, [], ◌∷◌, ◌++◌, length, map, drop, get_or, Ok, ap, sym, ◌∙◌, refl}
use Rattle.nm_base.specs.declared.fault.Fault.{Fault}
use Rattle.nm_base.specs.declared.pos.Pos.{Pos}
use Rattle.nesc_core.specs.Plain.{Ty}
use Rattle.nesc_tree.specs.declared.components.Elem as rust_elem
use Rattle.nesc_tree.specs.declared.components.GenericArg as rust_arg
use Rattle.nesc_tree.specs.declared.components.GenericParam as rust_param
use Rattle.nesc_tree.specs.declared.declarations.Decl as rust_decl
use Rattle.nesc_tree.specs.declared.tree.TypeSpec as rust_spec
use Rattle.nesc_tree.specs.View.{spec_of}
use Rattle.nesc_types.specs.Rule.{Rule}
use Rattle.elab_meaning.specs.Answers.{FaultIs}
use Rattle.elab_meaning.specs.Elab.{Elab, State, after}
use Rattle.elab_meaning.specs.Scope.{Env}
use Rattle.body_meaning.specs.View.{decl_of}
use Rattle.elab_forms.proofs.Lists.{next_of}
use Rattle.elab_exprs.proofs.Faults.{passes}
use Rattle.elab_exprs.proofs.Steps.{drop-past}
use Rattle.wire_pairs.specs.declared.facts.ElementFacts.{ElementFacts}
use Rattle.wire_units.specs.declared.loaded.Loaded as rust_loaded
use Rattle.wire_facts.specs.Components.{Param, Arg, arg_of, components_of, element_of, param_of}
use Rattle.wire_facts.specs.Scopes.{Base, Scope}
use Rattle.wire_facts.specs.Seen.{all_declared, arg_told, args_told, element_told, elements_told, header_declared, headers_declared, param_given, params_declared}

-- one part passed, or failed
module _ {A B : Type 0} (whole : Rule (B × State)) (one : Rule (A × State)) (rest : A → Elab B) where
  passed : (x : A) (st : State) → whole ≡ after one rest → one ≡ Ok (x, st) → whole ≡ rest x st
  passed x st is e = is ∙ ap (λ (r : Rule (A × State)). after r rest) e

  failed : (e : Fault) → whole ≡ after one rest → FaultIs e one → FaultIs e whole
  failed e is f = rw is (passes e one rest f)

module _ (env : Env) where
  -- ---- declarations of a header

  module _ (ds : List rust_decl.Decl) (i : ℕ) (st : State) (whole : Rule (Unit {0} × State)) where
    next_decl : (d : rust_decl.Decl) → whole ≡ all_declared env (map decl_of (drop i ds)) st → i < length ds → d ≡ get_or ds i d
        → whole ≡ after (header_declared env (decl_of d) st) (λ _. all_declared env (map decl_of (drop (i + 1) ds)))
    next_decl d is h isd = is ∙ ap (λ (ys : List rust_decl.Decl). all_declared env (map decl_of ys) st) (next_of ds i d h isd)

    pub decl_passed : (d : rust_decl.Decl) (st1 : State) → whole ≡ all_declared env (map decl_of (drop i ds)) st → i < length ds → d ≡ get_or ds i d
        → header_declared env (decl_of d) st ≡ Ok (tt, st1) → whole ≡ all_declared env (map decl_of (drop (i + 1) ds)) st1
    decl_passed d st1 is h isd e =
        passed whole (header_declared env (decl_of d) st) (λ _. all_declared env (map decl_of (drop (i + 1) ds))) tt st1 (next_decl d is h isd) e

    pub decl_failed : (d : rust_decl.Decl) (e : Fault) → whole ≡ all_declared env (map decl_of (drop i ds)) st → i < length ds → d ≡ get_or ds i d
        → FaultIs e (header_declared env (decl_of d) st) → FaultIs e whole
    decl_failed d e is h isd f =
        failed whole (header_declared env (decl_of d) st) (λ _. all_declared env (map decl_of (drop (i + 1) ds))) e (next_decl d is h isd) f

    pub decls_end : whole ≡ all_declared env (map decl_of (drop i ds)) st → length ds ≤ i → whole ≡ Ok (tt, st)
    decls_end is h = is ∙ ap (λ (ys : List rust_decl.Decl). all_declared env (map decl_of ys) st) (drop-past ds i h)

  -- ---- headers

  module _ (us : List rust_loaded.Loaded) (i : ℕ) (st : State) (whole : Rule (Unit {0} × State)) where
    next_unit : (u : rust_loaded.Loaded) → whole ≡ headers_declared env (components_of (drop i us)) st → i < length us → u ≡ get_or us i u
        → whole ≡ after (all_declared env (map decl_of u.unit.decls) st) (λ _. headers_declared env (components_of (drop (i + 1) us)))
    next_unit u is h isu = is ∙ ap (λ (ys : List rust_loaded.Loaded). headers_declared env (components_of ys) st) (next_of us i u h isu)

    pub unit_passed : (u : rust_loaded.Loaded) (st1 : State) → whole ≡ headers_declared env (components_of (drop i us)) st → i < length us → u ≡ get_or us i u
        → all_declared env (map decl_of u.unit.decls) st ≡ Ok (tt, st1) → whole ≡ headers_declared env (components_of (drop (i + 1) us)) st1
    unit_passed u st1 is h isu e =
        passed whole (all_declared env (map decl_of u.unit.decls) st) (λ _. headers_declared env (components_of (drop (i + 1) us))) tt st1 (next_unit u is h isu) e

    pub unit_failed : (u : rust_loaded.Loaded) (e : Fault) → whole ≡ headers_declared env (components_of (drop i us)) st → i < length us → u ≡ get_or us i u
        → FaultIs e (all_declared env (map decl_of u.unit.decls) st) → FaultIs e whole
    unit_failed u e is h isu f =
        failed whole (all_declared env (map decl_of u.unit.decls) st) (λ _. headers_declared env (components_of (drop (i + 1) us))) e (next_unit u is h isu) f

    pub units_end : whole ≡ headers_declared env (components_of (drop i us)) st → length us ≤ i → whole ≡ Ok (tt, st)
    units_end is h = is ∙ ap (λ (ys : List rust_loaded.Loaded). headers_declared env (components_of ys) st) (drop-past us i h)

  -- ---- type arguments

  module _ (at : Pos) (types : List Ty) (before : List ℕ) (ts : List rust_spec.TypeSpec) (i : ℕ) (st : State) (whole : Rule ((List ℕ × List Ty) × State)) where
    abbrev args_behind : ℕ × List Ty → Elab (List ℕ × List Ty)
    args_behind one = args_told env at one.1 (before ++ one.0 ∷ []) (map spec_of (drop (i + 1) ts))

    next_arg : (t : rust_spec.TypeSpec) → whole ≡ args_told env at types before (map spec_of (drop i ts)) st → i < length ts → t ≡ get_or ts i t
        → whole ≡ after (arg_told env at types (spec_of t) st) args_behind
    next_arg t is h ist = is ∙ ap (λ (ys : List rust_spec.TypeSpec). args_told env at types before (map spec_of ys) st) (next_of ts i t h ist)

    pub arg_passed : (t : rust_spec.TypeSpec) (k : ℕ) (types1 : List Ty) (more : List ℕ) (st1 : State)
        → whole ≡ args_told env at types before (map spec_of (drop i ts)) st → i < length ts → t ≡ get_or ts i t
        → arg_told env at types (spec_of t) st ≡ Ok ((k, types1), st1) → more ≡ before ++ k ∷ []
        → whole ≡ args_told env at types1 more (map spec_of (drop (i + 1) ts)) st1
    arg_passed t k types1 more st1 is h ist e m =
        passed whole (arg_told env at types (spec_of t) st) args_behind (k, types1) st1 (next_arg t is h ist) e
        ∙ ap (λ (ns : List ℕ). args_told env at types1 ns (map spec_of (drop (i + 1) ts)) st1) (sym m)

    pub arg_failed : (t : rust_spec.TypeSpec) (e : Fault)
        → whole ≡ args_told env at types before (map spec_of (drop i ts)) st → i < length ts → t ≡ get_or ts i t
        → FaultIs e (arg_told env at types (spec_of t) st) → FaultIs e whole
    arg_failed t e is h ist f = failed whole (arg_told env at types (spec_of t) st) args_behind e (next_arg t is h ist) f

    pub args_end : whole ≡ args_told env at types before (map spec_of (drop i ts)) st → length ts ≤ i → whole ≡ Ok ((before, types), st)
    args_end is h = is ∙ ap (λ (ys : List rust_spec.TypeSpec). args_told env at types before (map spec_of ys) st) (drop-past ts i h)

  -- ---- elements

  module _ (types : List Ty) (before : List ElementFacts) (es : List rust_elem.Elem) (i : ℕ) (st : State) (whole : Rule ((List ElementFacts × List Ty) × State)) where
    abbrev elements_behind : ElementFacts × List Ty → Elab (List ElementFacts × List Ty)
    elements_behind one = elements_told env one.1 (before ++ one.0 ∷ []) (map element_of (drop (i + 1) es))

    next_element : (x : rust_elem.Elem) → whole ≡ elements_told env types before (map element_of (drop i es)) st → i < length es → x ≡ get_or es i x
        → whole ≡ after (element_told env types (element_of x) st) elements_behind
    next_element x is h isx = is ∙ ap (λ (ys : List rust_elem.Elem). elements_told env types before (map element_of ys) st) (next_of es i x h isx)

    pub element_passed : (x : rust_elem.Elem) (f : ElementFacts) (types1 : List Ty) (more : List ElementFacts) (st1 : State)
        → whole ≡ elements_told env types before (map element_of (drop i es)) st → i < length es → x ≡ get_or es i x
        → element_told env types (element_of x) st ≡ Ok ((f, types1), st1) → more ≡ before ++ f ∷ []
        → whole ≡ elements_told env types1 more (map element_of (drop (i + 1) es)) st1
    element_passed x f types1 more st1 is h isx e m =
        passed whole (element_told env types (element_of x) st) elements_behind (f, types1) st1 (next_element x is h isx) e
        ∙ ap (λ (fs : List ElementFacts). elements_told env types1 fs (map element_of (drop (i + 1) es)) st1) (sym m)

    pub element_failed : (x : rust_elem.Elem) (e : Fault)
        → whole ≡ elements_told env types before (map element_of (drop i es)) st → i < length es → x ≡ get_or es i x
        → FaultIs e (element_told env types (element_of x) st) → FaultIs e whole
    element_failed x e is h isx f = failed whole (element_told env types (element_of x) st) elements_behind e (next_element x is h isx) f

    pub elements_end : whole ≡ elements_told env types before (map element_of (drop i es)) st → length es ≤ i → whole ≡ Ok ((before, types), st)
    elements_end is h = is ∙ ap (λ (ys : List rust_elem.Elem). elements_told env types before (map element_of ys) st) (drop-past es i h)

-- ---- parameters

module _ (b : Base) (maker made : Env) (at line : Pos) where
  none_left : (xs : List Arg) (scope : Scope) → params_declared b maker made at line [] xs scope ≡ (λ st. Ok (scope, st))
  none_left [] scope = refl
  none_left (x ∷ xs) scope = refl

  none_given : (ps : List Param) (scope : Scope) → params_declared b maker made at line ps [] scope ≡ (λ st. Ok (scope, st))
  none_given [] scope = refl
  none_given (p ∷ ps) scope = refl

  module _ (params : List rust_param.GenericParam) (args : List rust_arg.GenericArg) (i : ℕ) (scope : Scope) (st : State) (whole : Rule (Scope × State)) where
    next_param : (p : rust_param.GenericParam) (ps : List rust_param.GenericParam) (x : rust_arg.GenericArg)
        → whole ≡ params_declared b maker made at line (map param_of params) (map arg_of (drop i args)) scope st
        → params ≡ p ∷ ps → i < length args → x ≡ get_or args i x
        → whole ≡ after (param_given b maker made at line (param_of p) (arg_of x) scope st) (λ more. params_declared b maker made at line (map param_of ps) (map arg_of (drop (i + 1) args)) more)
    next_param p ps x is first h isx =
        is ∙ ap (λ (ys : List rust_param.GenericParam). params_declared b maker made at line (map param_of ys) (map arg_of (drop i args)) scope st) first
        ∙ ap (λ (ys : List rust_arg.GenericArg). params_declared b maker made at line (map param_of (p ∷ ps)) (map arg_of ys) scope st) (next_of args i x h isx)

    pub param_passed : (p : rust_param.GenericParam) (ps : List rust_param.GenericParam) (x : rust_arg.GenericArg) (more : Scope) (st1 : State)
        → whole ≡ params_declared b maker made at line (map param_of params) (map arg_of (drop i args)) scope st
        → params ≡ p ∷ ps → i < length args → x ≡ get_or args i x
        → param_given b maker made at line (param_of p) (arg_of x) scope st ≡ Ok (more, st1)
        → whole ≡ params_declared b maker made at line (map param_of ps) (map arg_of (drop (i + 1) args)) more st1
    param_passed p ps x more st1 is first h isx e =
        passed whole (param_given b maker made at line (param_of p) (arg_of x) scope st) (λ y. params_declared b maker made at line (map param_of ps) (map arg_of (drop (i + 1) args)) y)
        more st1 (next_param p ps x is first h isx) e

    pub param_failed : (p : rust_param.GenericParam) (ps : List rust_param.GenericParam) (x : rust_arg.GenericArg) (e : Fault)
        → whole ≡ params_declared b maker made at line (map param_of params) (map arg_of (drop i args)) scope st
        → params ≡ p ∷ ps → i < length args → x ≡ get_or args i x
        → FaultIs e (param_given b maker made at line (param_of p) (arg_of x) scope st) → FaultIs e whole
    param_failed p ps x e is first h isx f =
        failed whole (param_given b maker made at line (param_of p) (arg_of x) scope st) (λ y. params_declared b maker made at line (map param_of ps) (map arg_of (drop (i + 1) args)) y)
        e (next_param p ps x is first h isx) f

    pub params_end : whole ≡ params_declared b maker made at line (map param_of params) (map arg_of (drop i args)) scope st → length args ≤ i → whole ≡ Ok (scope, st)
    params_end is h =
        is ∙ ap (λ (ys : List rust_arg.GenericArg). params_declared b maker made at line (map param_of params) (map arg_of ys) scope st) (drop-past args i h)
        ∙ ap (λ (w : State → Rule (Scope × State)). w st) (none_given (map param_of params) scope)

    pub params_over : whole ≡ params_declared b maker made at line (map param_of params) (map arg_of (drop i args)) scope st → params ≡ [] → whole ≡ Ok (scope, st)
    params_over is none =
        is ∙ ap (λ (ys : List rust_param.GenericParam). params_declared b maker made at line (map param_of ys) (map arg_of (drop i args)) scope st) none
        ∙ ap (λ (w : State → Rule (Scope × State)). w st) (none_left (map arg_of (drop i args)) scope)
