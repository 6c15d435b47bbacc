-- Declarations only add names and tags, and an instance leaves those of the headers as they were.
use Rattle.std.proofs.Common.{◌≡◌, ℕ, Bool, true, false, List, [], ◌∷◌, ◌++◌, length, map, drop, Option, Some, None, Ok, Err, if◌then◌else◌, refl, sym, subst}
use Rattle.std.specs.Prelude.{slice_get}
use Rattle.nm_base.specs.declared.pos.Pos.{Pos}
use Rattle.nm_base.specs.declared.fault.Fault.{Fault}
use Rattle.nesc_core.specs.Plain as core
use Rattle.nesc_core.specs.Plain.{Ty}
use Rattle.nesc_tree.specs.declared.declarations.FuncKind.{FuncKind}
use Rattle.nesc_tree.specs.declared.declarations.FuncKind.TheVariants as kind
use Rattle.nesc_tree.specs.Plain as s
use Rattle.nesc_types.specs.Rule.{Rule}
use Rattle.body_meaning.specs.Scopes.{back_to}
use Rattle.body_meaning.specs.Stmts.{initials_of, type_declared, type_named}
use Rattle.body_meaning.specs.Tree as tree
use Rattle.body_meaning.specs.Tree.{Decl, Head, MaybeStmt, Stmt}
use Rattle.elab_items.proofs.Scoped.{Scoped, again, scoped_of}
use Rattle.elab_kept.proofs.Steps.{behind_prefix, longer_prefix, whole_prefix}
use Rattle.elab_kept.proofs.Walk.{base_kept}
use Rattle.elab_meaning.specs.Elab.{Asked, Elab, State}
use Rattle.elab_meaning.specs.Operators.{Based}
use Rattle.elab_meaning.specs.Scope.{Meaning}
use Rattle.elab_meaning.specs.Wired.{base_of}
use Rattle.elab_modules.specs.Behind.{Has, begun, behind_given, without_declared}
use Rattle.elab_modules.proofs.Facts.{facts_scoped, given_scoped}
use Rattle.elab_modules.proofs.Statements.{code_scoped, declared_kept, entered, has_same, heading_scoped, initials_of_kept, line_kept, same_prefix, type_declared_kept, type_named_kept}
use Rattle.program_meaning.specs.Dispatch.{dispatch}
use Rattle.program_meaning.specs.Heads.{Form, Heading, code_of, heading, line}
use Rattle.program_meaning.specs.Items.{Fact, dispatch_text, facts_of, given_names}
use Rattle.program_meaning.specs.Making.{Declared, Whole, after, behind_boot, boot_state, by, in_boot, part, with_work}
use Rattle.program_meaning.specs.Modules.{Met, given_as, head_env, instance_declared, instance_told}
use Rattle.program_meaning.specs.Parts.{Application, Instance}
use Rattle.program_meaning.specs.Variables.{declared_variable, name_in_force}
use Rattle.program_meaning.specs.Walk as walk
use Rattle.program_meaning.specs.Walk.{Told, agrees, body, boot_function, called_from_here, combined, earlier, first_at, free_line, function_declared, in_module, is_definition, is_new, line_before, loses, one_line, or_nothing, other_function, prototype_stands, warned, weighed, well_formed, well_named}

-- ---- steps over the whole program

-- the names and tags of this state stand first behind whatever a step gives
pub record Grown {A : Type 0} (st : State) (r : Rule (A × Whole)) : Type 0 where
  pub by : (x : A) (w : Whole) → r ≡ Ok (x, w) → Has st w.work

pub has_on : (s t u : State) → Has s t → Has t u → Has s u
has_on s t u g h = (longer_prefix s.names t.names u.names g.0 h.0, longer_prefix s.tags t.tags u.tags g.1 h.1)

grown_give : {A : Type 0} (x : A) (st : State) (w : Whole) → Has st w.work → Grown st (Ok (x, w))
grown_give {A = A} x st w h = record { by = λ y v e. subst (λ (z : A × Whole). Has st z.1.work) (paired e) h }
  where
    made : A × Whole → Rule (A × Whole)
    made a = Ok a

    paired : {a b : A × Whole} → made a ≡ made b → a ≡ b
    paired e = cc

grown_same : {A : Type 0} (x : A) (w : Whole) → Grown w.work (Ok (x, w))
grown_same x w = grown_give x w.work w (has_same w.work)

grown_stopped : {A : Type 0} (st : State) (e : Fault) → Grown {A = A} st (Err e)
grown_stopped st e = record { by = λ x w h. absurd cc }

grown_on : {A : Type 0} (s t : State) (r : Rule (A × Whole)) → Has s t → Grown t r → Grown s r
grown_on s t r g h = record { by = λ x w e. has_on s t w.work g (h.by x w e) }

grown_then : {A B : Type 0} (st : State) (r : Rule (A × Whole)) (next : A → Whole → Rule (B × Whole))
    → Grown st r → ((x : A) (w : Whole) → Grown w.work (next x w)) → Grown st (after r next)
grown_then st (Ok x) next h f = grown_on st x.1.work (next x.0 x.1) (h.by x.0 x.1 refl) (f x.0 x.1)
grown_then st (Err e) next h f = grown_stopped st e

grown_rule : {A B : Type 0} (st : State) (w : Whole) (r : Rule A) (next : A → Whole → Rule (B × Whole)) → ((x : A) → Grown st (next x w)) → Grown st (after (by r w) next)
grown_rule st w (Ok x) next f = f x
grown_rule st w (Err e) next f = grown_stopped st e

grown_part : {A : Type 0} (work : Elab A) (w : Whole) → Scoped w.work (work w.work) → Grown w.work (part work w)
grown_part {A} work w h = with_result (work w.work) h
  where
    with_result : (r : Rule (A × State)) → Scoped w.work r → Grown w.work (with_work w r)
    with_result (Ok x) h = grown_give x.0 w.work (record w { work = x.1 }) (h.by x.0 x.1 refl)
    with_result (Err e) h = grown_stopped w.work e

grown_boot : {A : Type 0} (work : Elab A) (w : Whole) → Scoped (boot_state w) (work (boot_state w)) → Grown w.work (in_boot work w)
grown_boot {A} work w h = with_result (work (boot_state w)) h
  where
    with_result : (r : Rule (A × State)) → Scoped (boot_state w) r → Grown w.work (behind_boot w r)
    with_result (Ok x) h = grown_give x.0 w.work _ (h.by x.0 x.1 refl)
    with_result (Err e) h = grown_stopped w.work e

-- ---- dispatch functions

warned_grown : (b : Bool) (at : Pos) (name : List ℕ) (w : Whole) → Grown w.work (warned b at name w)
warned_grown true at name w = grown_give tt w.work _ (has_same w.work)
warned_grown false at name w = grown_same tt w

dispatched_grown : (name : List ℕ) (told : Told) (at : Pos) (x : Fact) (w : Whole) → Grown w.work (walk.dispatched name told at x w)
dispatched_grown name told at x w = grown_rule w.work w (called_from_here at x.comes_out) _ (λ z. grown_rule w.work w (combined told at x) _
    (λ f. grown_rule w.work w (weighed at w.work.structs (dispatch name x.form f at x.cases)) _ (λ u. warned_grown (loses x f) at name _)))

asked_grown : (instance : List ℕ) (told : Told) (a : Asked) (x : Option Fact) (w : Whole) → Grown w.work (walk.asked_of instance told a x w)
asked_grown instance told a None w = grown_stopped w.work _
asked_grown instance told a (Some x) w = dispatched_grown (dispatch_text instance x) told a.at x w

all_asked_grown : (told : Told) (list : List Asked) (w : Whole) → Grown w.work (walk.all_asked told list w)
all_asked_grown told [] w = grown_same tt w
all_asked_grown told (a ∷ rest) w = grown_then w.work _ _ (asked_grown (or_nothing told.instance) told a (slice_get told.facts a.item) w) (λ z v. all_asked_grown told rest v)

dispatch_grown : (told : Told) (w : Whole) → Grown w.work (walk.dispatch_asked told w)
dispatch_grown told w = all_asked_grown told (drop (length w.dispatch) w.work.asked) w

-- ---- variables

variable_grown : (told : Told) (b : Based) (said norace : Bool) (v : tree.Variable) (w : Whole) → Grown w.work (walk.variable told b said norace v w)
variable_grown told b said norace v w =
    grown_then w.work _ _ (grown_part (declared_variable told.env told.values b said v (length w.variables)) w (scoped_of w.work _ (declared_kept told.env told.values b said v (length w.variables) w.work)))
    (λ (t : Ty) (x : Whole). grown_then x.work _ _
    (grown_boot (initials_of told.env told.values v.at (core.object (length w.variables)) t v.init) _ (scoped_of _ _ (initials_of_kept told.env told.values v.at (core.object (length w.variables)) t v.init _)))
    (λ es y. dispatch_grown told _))

variables_grown : (told : Told) (b : Based) (said norace : Bool) (vs : List tree.Variable) (w : Whole) → Grown w.work (walk.variables told b said norace vs w)
variables_grown told b said norace [] w = grown_same tt w
variables_grown told b said norace (v ∷ vs) w = grown_then w.work _ _ (variable_grown told b said norace v w) (λ z x. variables_grown told b said norace vs x)

variables_of_grown : (told : Told) (t : s.TypeSpec) (norace : Bool) (vs : List tree.Variable) (w : Whole) → Grown w.work (walk.variables_of told t norace vs w)
variables_of_grown told (s.type_spec base stars dims is_const) norace vs w =
    grown_then w.work _ _ (grown_part (base_of told.env told.values (first_at vs) base) w (scoped_of w.work _ (base_kept told.env told.values (first_at vs) base w.work)))
    (λ b x. variables_grown told b is_const norace vs x)

variables_in_grown : (told : Told) (i : Option (List ℕ)) (t : s.TypeSpec) (norace : Bool) (vs : List tree.Variable) (w : Whole) → Grown w.work (walk.variables_in told i t norace vs w)
variables_in_grown told None t norace vs w = grown_stopped w.work _
variables_in_grown told (Some i) t norace vs w = variables_of_grown told t norace vs w

-- ---- functions

named_grown : (name : List ℕ) (m : Meaning) (w : Whole) → Grown w.work (part (name_in_force name m) w)
named_grown name m w = grown_give tt w.work _ (behind_prefix w.work.names _, whole_prefix w.work.tags)

in_force_grown : (told : Told) (h : Head) (f : Form) (d : Option Declared) (k : FuncKind) (w : Whole) → Grown w.work (walk.in_force told h f d k w)
in_force_grown told h f (Some d) k w = grown_same tt w
in_force_grown told h f None kind.Plain w = named_grown h.name _ w
in_force_grown told h f None kind.Task w = named_grown h.name _ w
in_force_grown told h f None kind.Command w = grown_same tt w
in_force_grown told h f None kind.Event w = grown_same tt w

handles_grown : (at : Pos) (line : Option ℕ) (w : Whole) → Grown w.work (walk.handles at line w)
handles_grown at None w = grown_same tt w
handles_grown at (Some n) w = grown_rule w.work w (free_line at n w.handlers) _ (λ z. grown_give tt w.work _ (has_same w.work))

boot_grown : (told : Told) (h : Head) (g : Heading) (x : Stmt) (w : Whole) → Grown w.work (boot_function told h g x w)
boot_grown told h g x w = grown_then w.work _ _ (grown_boot (code_of told.env told.values g x) w (code_scoped told.env told.values g x (boot_state w))) (λ code v. dispatch_grown told _)

other_grown : (told : Told) (h : Head) (g : Heading) (x : Stmt) (w : Whole) → Grown w.work (other_function told h g x w)
other_grown told h g x w = grown_then w.work _ _ (grown_part (code_of told.env told.values g x) w (code_scoped told.env told.values g x w.work))
    (λ (code : core.Stmt) (v : Whole). grown_rule v.work v (weighed h.at v.work.structs (body told h g.form v.work.locals code)) _
    (λ z. grown_on v.work (record v.work { locals = [] }) _ (has_same v.work)
    (dispatch_grown told (record v { work = record v.work { locals = [] }; bodies = v.bodies ++ (body told h g.form v.work.locals code ∷ []) }))))

bodied_grown : (told : Told) (h : Head) (g : Heading) (x : Stmt) (b : Bool) (w : Whole) → Grown w.work ((if b then boot_function told h g x else other_function told h g x) w)
bodied_grown told h g x true w = boot_grown told h g x w
bodied_grown told h g x false w = other_grown told h g x w

defined_grown : (told : Told) (h : Head) (g : Heading) (l : Option ℕ) (x : MaybeStmt) (w : Whole) → Grown w.work (walk.defined told h g l x w)
defined_grown told h g l tree.no_stmt w = grown_rule w.work w (prototype_stands told h l) _ (λ z. grown_give tt w.work _ (has_same w.work))
defined_grown told h g l (tree.some_stmt x) w = grown_then w.work _ _ (handles_grown h.at l w) (λ z v. bodied_grown told h g x (walk.boots told h) v)

function_grown : (told : Told) (h : Head) (x : MaybeStmt) (w : Whole) → Grown w.work (function_declared told h x w)
function_grown told h x w = grown_rule w.work w (well_named h h.kind) _
    (λ z. grown_then w.work _ _ (grown_part (heading told.env told.values h) w (heading_scoped told.env told.values h w.work))
    (λ (g : Heading) (v : Whole). grown_rule v.work v (well_formed told h g.form h.kind) _
    (λ z1. grown_rule v.work v (agrees h.at (is_definition x) g.form (earlier v.declared h)) _
    (λ z2. grown_rule v.work v (is_new h v.work (earlier v.declared h) h.kind) _
    (λ z3. grown_then v.work _ _ (grown_part (line told.env told.values (in_module told.instance) h g.form) v (scoped_of v.work _ (line_kept told.env told.values (in_module told.instance) h g.form v.work)))
    (λ own (u : Whole). grown_rule u.work u (one_line h.at own (line_before (earlier v.declared h))) _
    (λ l. grown_then u.work _ _ (in_force_grown told h g.form (earlier v.declared h) h.kind u) (λ z4 y. defined_grown told h g l x _))))))))

-- ---- declarations

declaration_grown : (told : Told) (d : Decl) (w : Whole) → Grown w.work (walk.declaration told d w)
declaration_grown told (tree.typedef name t attrs at) w =
    grown_then w.work _ _ (grown_part (type_named told.env told.values at name t) w (scoped_of w.work _ (type_named_kept told.env told.values at name t w.work))) (λ x v. grown_same tt v)
declaration_grown told (tree.type_only t at) w =
    grown_then w.work _ _ (grown_part (type_declared told.env told.values at t) w (scoped_of w.work _ (type_declared_kept told.env told.values at t w.work))) (λ x v. grown_same tt v)
declaration_grown told (tree.variables t norace vs) w = variables_in_grown told told.instance t norace vs w
declaration_grown told (tree.function h x) w = function_grown told h x w

pub declarations_grown : (told : Told) (ds : List Decl) (w : Whole) → Grown w.work (walk.declarations told ds w)
declarations_grown told [] w = grown_same tt w
declarations_grown told (d ∷ ds) w = grown_then w.work _ _ (declaration_grown told d w) (λ z v. declarations_grown told ds v)

-- ---- one instance

abbrev work_entered : Whole → Whole
work_entered w = record w { work = entered w.work }

pub begun_grown : (m : Met) (i : Instance) (w : Whole) → Grown w.work (begun m i w)
begun_grown m i w = grown_on w.work (entered w.work) _ (has_same w.work)
    (grown_part (given_names (map (given_as m) i.given)) (work_entered (without_declared w)) (given_scoped (map (given_as m) i.given) (entered w.work)))

restored : (h : State) (told : Told) (ds : List Decl) (w : Whole) → Has h w.work → Grown h (after (walk.declarations told ds w) (λ u. part (back_to h)))
restored h told ds w g = closed (walk.declarations told ds w) (declarations_grown told ds w)
  where
    closed : (r : Rule (Unit {0} × Whole)) → Grown w.work r → Grown h (after r (λ u. part (back_to h)))
    closed (Ok x) k = let kept = has_on h w.work x.1.work g (k.by x.0 x.1 refl) in
        grown_give tt h _ (same_prefix h.names _ (again h.names x.1.work.names kept.0), same_prefix h.tags _ (again h.tags x.1.work.tags kept.1))
    closed (Err e) k = grown_stopped h e

-- from a state that has the headers' names
grown_from : {A B : Type 0} (h : State) (w : Whole) (r : Rule (A × Whole)) (next : A → Whole → Rule (B × Whole))
    → Has h w.work → Grown w.work r → ((x : A) (v : Whole) → Has h v.work → Grown h (next x v)) → Grown h (after r next)
grown_from h w (Ok x) next g k f = f x.0 x.1 (has_on h w.work x.1.work g (k.by x.0 x.1 refl))
grown_from h w (Err e) next g k f = grown_stopped h e

-- what is done behind the parameters
pub instance_is : (app : Application) (h : Whole) (m : Met) (k : ℕ) (i : Instance) (w : Whole) → instance_declared app h m k i w ≡ after (begun m i w) (λ u. behind_given app h k i)
instance_is app h m k i w = refl

pub instance_grown : (app : Application) (h : Whole) (m : Met) (k : ℕ) (i : Instance) (w : Whole) → Has h.work w.work → Grown h.work (instance_declared app h m k i w)
instance_grown app h m k i w g = grown_from h.work w (begun m i w) (λ u. behind_given app h k i) g (begun_grown m i w)
    (λ z v g1. grown_from h.work v (part (facts_of app (head_env app k i) h.work k i.elems) v) _ g1
    (grown_part (facts_of app (head_env app k i) h.work k i.elems) v (facts_scoped app (head_env app k i) h.work k i.elems v.work))
    (λ facts u g2. restored h.work (instance_told app h k i facts) i.decls (work_entered u) g2))

-- what headers declared is no part of the names
pub lent : (h w : Whole) → w ≡ without_declared h → Has h.work w.work
lent h w is = subst (λ (v : Whole). Has h.work v.work) (sym is) (has_same h.work)
