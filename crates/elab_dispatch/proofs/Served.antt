-- The body by what the calls have in common is the one of the definition.
use Rattle.std.proofs.Common.{◌≡◌, ℕ, ◌+◌, Bool, false, ◌&&◌, ◌||◌, not, nat_lt, is_some, if◌then◌else◌, List, [], ◌∷◌, ◌++◌, length, map, flat_map, Option, Result, Ok, Err, IfOk, refl, sym, ap, ◌∙◌, length-append}
use Rattle.std.proofs.lemmas.List.{length-map}
use Rattle.std.specs.List.{list_any}
use Rattle.nm_base.specs.declared.pos.Pos.{Pos}
use Rattle.nesc_core.specs.declared.tree.Body as rust_body
use Rattle.nesc_core.specs.Plain as core
use Rattle.nesc_core.specs.Plain.{Body, Expr, Stmt, Ty, void, int, pointer, array, struct}
use Rattle.nesc_core.specs.View.{body_of, stmts}
use Rattle.combine_fanout.specs.Dispatch as plain
use Rattle.elab_facts.specs.declared.targets.Reached as reached
use Rattle.elab_facts.specs.declared.targets.Target as target
use Rattle.elab_facts.specs.View.{reached_of, target_of}
use Rattle.elab_meaning.specs.Convert.{is_void}
use Rattle.program_meaning.specs.Dispatch as spec
use Rattle.program_meaning.specs.Dispatch.{own_parameter, parameters, read_local}
use Rattle.program_meaning.specs.Heads.{Form}
use Rattle.program_meaning.specs.Items.{Reached}
use Rattle.elab_dispatch.specs.Calls as own
use Rattle.elab_dispatch.specs.Calls.{calling_of}
use Rattle.elab_dispatch.specs.declared.calling.Calling.{Calling}

void-same : (t : Ty) → is_void t ≡ plain.is_void t
void-same void = refl
void-same (int t) = refl
void-same (pointer t) = refl
void-same (array t n) = refl
void-same (struct k) = refl

flat-same : (g : reached.Reached → List Stmt) (h : Reached → List Stmt) → ((c : reached.Reached) → g c ≡ h (reached_of c))
    → (cs : List reached.Reached) → flat_map g cs ≡ flat_map h (map reached_of cs)
flat-same g h same [] = refl
flat-same g h same (c ∷ cs) = ap (λ (ss : List Stmt). ss ++ flat_map g cs) (same c) ∙ ap (λ (ss : List Stmt). h (reached_of c) ++ ss) (flat-same g h same cs)

-- whether some case has two targets
pub two-same : (cs : List reached.Reached) → list_any spec.has_two (map reached_of cs) ≡ list_any own.has_two cs
two-same [] = refl
two-same (c ∷ cs) =
    ap (λ (n : ℕ). nat_lt 1 n || list_any spec.has_two (map reached_of cs)) (length-map c.targets target_of)
    ∙ ap (λ (b : Bool). own.has_two c || b) (two-same cs)

module _ (f : Form) (combine : Option ℕ) (at : Pos) where
  count-same : length (own_parameter f.bracket) + length f.params ≡ length (parameters f)
  count-same = sym (length-append (own_parameter f.bracket) f.params)

  -- with as many parameters
  abbrev calling_with : ℕ → Calling
  calling_with n = record { own = f.bracket; others = length f.params; params = n; is_void = is_void f.result; combine = combine; at = at }

  behind-same : (e : Expr) (es : List Expr) → own.gives_behind (calling_with (length (parameters f))) e es ≡ plain.gives_behind (plain.item (parameters f) f.result combine at) e es
  behind-same e [] = refl
  behind-same e (d ∷ es) =
      ap (λ (ss : List Stmt). plain.kept (plain.item (parameters f) f.result combine at) e ∷ ss)
      (behind-same (plain.combined (plain.item (parameters f) f.result combine at) d) es)

  each-same : (es : List Expr) → own.gives_each (calling_with (length (parameters f))) es ≡ spec.gives_each f combine at es
  each-same [] = refl
  each-same (e ∷ es) = behind-same e es

  gives-same : (es : List Expr) → own.gives_each (calling_of f combine at) es ≡ spec.gives_each f combine at es
  gives-same es = ap (λ (n : ℕ). own.gives_each (calling_with n) es) count-same ∙ each-same es

  local-same : own.result_local (calling_of f combine at) f.result ≡ spec.result_local f combine at
  local-same = ap (λ (b : Bool). if is_some combine && not b then f.result ∷ [] else []) (void-same f.result)

  targets-same : (ts : List target.Target) → map (own.called (calling_of f combine at)) ts ≡ map (spec.called at f) (map target_of ts)
  targets-same [] = refl
  targets-same (t ∷ ts) = ap (λ (es : List Expr). spec.called at f (target_of t) ∷ es) (targets-same ts)

  calls-same : (c : reached.Reached) → own.calls (calling_of f combine at) c ≡ spec.calls at f (spec.gives_each f combine at) (reached_of c)
  calls-same c =
      ap (λ (es : List Expr). if is_void f.result then map core.eval es else own.gives_each (calling_of f combine at) es) (targets-same c.targets)
      ∙ ap (λ (ss : List Stmt). if is_void f.result then map core.eval (map (spec.called at f) (map target_of c.targets)) else ss)
      (gives-same (map (spec.called at f) (map target_of c.targets)))

  closed-same : (c : reached.Reached) → own.closed (calling_of f combine at) c ≡ spec.closed at f (spec.gives_each f combine at) (reached_of c)
  closed-same c = ap (λ (ss : List Stmt). ss ++ (core.break ∷ [])) (calls-same c)

  abbrev case_at : ℕ → reached.Reached → core.Case
  case_at n c = record { value = plain.number c.value; start = n }

  starts-same : (n : ℕ) (cs : List reached.Reached)
      → own.starts (calling_of f combine at) n cs ≡ spec.starts at f (spec.gives_each f combine at) n (map reached_of cs)
  starts-same n [] = refl
  starts-same n (c ∷ cs) =
      ap (λ (ss : List Stmt). case_at n c ∷ own.starts (calling_of f combine at) (n + length ss) cs) (closed-same c)
      ∙ ap (λ (xs : List core.Case). case_at n c ∷ xs) (starts-same (n + length (spec.closed at f (spec.gives_each f combine at) (reached_of c))) cs)

  by_parameter-same : (cs : List reached.Reached)
      → own.by_parameter (calling_of f combine at) cs ≡ spec.by_parameter at f (spec.gives_each f combine at) (map reached_of cs)
  by_parameter-same cs =
      ap (λ (xs : List core.Case). core.switch (read_local at 0) xs (stmts (flat_map (own.closed (calling_of f combine at)) cs)) ∷ []) (starts-same 0 cs)
      ∙ ap (λ (ss : List Stmt). core.switch (read_local at 0) (spec.starts at f (spec.gives_each f combine at) 0 (map reached_of cs)) (stmts ss) ∷ [])
      (flat-same (own.closed (calling_of f combine at)) (spec.closed at f (spec.gives_each f combine at)) closed-same cs)

  value-same : (cs : List reached.Reached)
      → list_any own.has_value cs ≡ list_any (spec.has_value at f (spec.gives_each f combine at)) (map reached_of cs)
  value-same [] = refl
  value-same (c ∷ cs) = ap (λ (b : Bool). own.has_value c || b) (value-same cs)

  code-same : (cs : List reached.Reached) → own.code (calling_of f combine at) cs ≡ spec.code at f (spec.gives_each f combine at) (map reached_of cs)
  code-same cs =
      ap (λ (ss : List Stmt). if list_any own.has_value cs then ss else flat_map (own.calls (calling_of f combine at)) cs) (by_parameter-same cs)
      ∙ (ap (λ (ss : List Stmt). if list_any own.has_value cs then spec.by_parameter at f (spec.gives_each f combine at) (map reached_of cs) else ss)
      (flat-same (own.calls (calling_of f combine at)) (spec.calls at f (spec.gives_each f combine at)) calls-same cs)
      ∙ ap (λ (b : Bool). if b then spec.by_parameter at f (spec.gives_each f combine at) (map reached_of cs)
      else flat_map (spec.calls at f (spec.gives_each f combine at)) (map reached_of cs)) (value-same cs))

  abbrev body_with : List ℕ → ℕ → List Ty → List Stmt → Body
  body_with name n locals code = record {
    name = name;
    params = n;
    locals = parameters f ++ locals;
    result = f.result;
    code = core.block (stmts code);
    is_async = false;
    is_item = false;
  }

  body-same : (name : List ℕ) (cs : List reached.Reached)
      → own.body name (calling_of f combine at) (parameters f) f.result cs ≡ spec.dispatch name f combine at (map reached_of cs)
  body-same name cs =
      ap (λ (n : ℕ). body_with name n (own.result_local (calling_of f combine at) f.result) (own.code (calling_of f combine at) cs)) count-same
      ∙ (ap (λ (ts : List Ty). body_with name (length (parameters f)) ts (own.code (calling_of f combine at) cs)) local-same
      ∙ ap (λ (ss : List Stmt). body_with name (length (parameters f)) (spec.result_local f combine at) ss) (code-same cs))

-- what is a body by the calls of a form, if there is memory, is the dispatch function
pub served : {E : Type 0} (r : Result rust_body.Body E) (name : List ℕ) (f : Form) (combine : Option ℕ) (at : Pos) (i : Calling) (cs : List reached.Reached)
    → i ≡ calling_of f combine at
    → IfOk r (λ b. body_of b ≡ own.body name i (parameters f) f.result cs)
    → IfOk r (λ b. body_of b ≡ spec.dispatch name f combine at (map reached_of cs))
served (Ok b) name f combine at i cs is made = made ∙ (ap (λ (x : Calling). own.body name x (parameters f) f.result cs) is ∙ body-same f combine at name cs)
served (Err e) name f combine at i cs is made = tt

pub ruleset tests = (two-same)
