-- What each function of the walk gives, under names that do not unfold by themselves, so that the statements of the walk stay small (own).
use Rattle.std.specs.Prelude.{ℕ, ℤ, Bool, true, List, Option, Result}
use Rattle.std.specs.declared.alloc.Global.{Global}
use Rattle.std.specs.declared.vec.Vec.{Vec}
use Rattle.nm_base.specs.declared.fault.Fault.{Fault}
use Rattle.nm_base.specs.declared.pos.Pos.{Pos}
use Rattle.nm_base.specs.declared.int_type.IntType.{IntType}
use Rattle.nesc_core.specs.declared.tree.CoreExpr as core_expr
use Rattle.nesc_core.specs.declared.tree.CoreType as core_type
use Rattle.nesc_core.specs.Plain.{Ty, Expr, Exprs}
use Rattle.nesc_core.specs.View as core
use Rattle.nesc_tree.specs.Plain as s
use Rattle.nesc_tree.specs.View.{Declarator, Group, Item}
use Rattle.nesc_types.specs.Constant.{pos_of}
use Rattle.nesc_types.specs.Rule.{Rule}
use Rattle.nesc_types.specs.Values.{Constant}
use Rattle.elab_meaning.specs.declared.found.Based as rust_based
use Rattle.elab_meaning.specs.declared.found.Found as rust_found
use Rattle.elab_meaning.specs.declared.found.Typed as rust_typed
use Rattle.elab_meaning.specs.declared.scope.Struct as rust_struct
use Rattle.elab_meaning.specs.declared.work.Work.{Work}
use Rattle.elab_meaning.specs.Answers.{Gives}
use Rattle.elab_meaning.specs.Convert.{Found, Typed}
use Rattle.elab_meaning.specs.Elab.{State, after, by}
use Rattle.elab_meaning.specs.Operators.{Based, array_length, chosen}
use Rattle.elab_meaning.specs.Scope as scope
use Rattle.elab_meaning.specs.Scope.{Struct}
use Rattle.elab_meaning.specs.View.{based_of, env_of, found_of, state_of, struct_of, typed_of}
use Rattle.elab_meaning.specs.Wired as wired
use Rattle.elab_forms.specs.declared.forms.Told.{Told}
use Rattle.elab_forms.specs.Parts as parts

-- ---- what is returned is what the definition gives

unfoldable pub IsFound : Result rust_found.Found Fault → Work → Rule (Found × State) → Type 0
IsFound r new outcome = Gives found_of r (state_of new) outcome

unfoldable pub IsValue : Result rust_typed.Typed Fault → Work → Rule (Typed × State) → Type 0
IsValue r new outcome = Gives typed_of r (state_of new) outcome

unfoldable pub IsConstant : Result Constant Fault → Work → Rule (Constant × State) → Type 0
IsConstant r new outcome = Gives (λ x. x) r (state_of new) outcome

unfoldable pub IsExpr : Result core_expr.CoreExpr Fault → Work → Rule (Expr × State) → Type 0
IsExpr r new outcome = Gives core.expr_of r (state_of new) outcome

unfoldable pub IsType : Result core_type.CoreType Fault → Work → Rule (Ty × State) → Type 0
IsType r new outcome = Gives core.type_of r (state_of new) outcome

unfoldable pub IsBased : Result rust_based.Based Fault → Work → Rule (Based × State) → Type 0
IsBased r new outcome = Gives based_of r (state_of new) outcome

unfoldable pub IsStruct : Result rust_struct.Struct Fault → Work → Rule (Struct × State) → Type 0
IsStruct r new outcome = Gives struct_of r (state_of new) outcome

unfoldable pub IsNumber : Result ℤ Fault → Work → Rule (ℤ × State) → Type 0
IsNumber r new outcome = Gives (λ z. z) r (state_of new) outcome

unfoldable pub IsLength : Result ℕ Fault → Work → Rule (ℕ × State) → Type 0
IsLength r new outcome = Gives (λ n. n) r (state_of new) outcome

unfoldable pub AreExprs : Result (Vec core_expr.CoreExpr Global) Fault → Work → Rule (Exprs × State) → Type 0
AreExprs r new outcome = Gives (λ v. core.exprs_of v.items) r (state_of new) outcome

unfoldable pub AreLengths : Result (Vec ℕ Global) Fault → Work → Rule (List ℕ × State) → Type 0
AreLengths r new outcome = Gives (λ v. v.items) r (state_of new) outcome

unfoldable pub IsDone : Result (Unit {0}) Fault → Work → Rule (Unit {0} × State) → Type 0
IsDone r new outcome = Gives (λ _. tt) r (state_of new) outcome

-- ---- the definition at what is told and at the work so far

unfoldable pub found_at : Told → s.Expr → Work → Rule (Found × State)
found_at t e w = wired.found (env_of t.env) t.values e (state_of w)

unfoldable pub value_at : Told → s.Expr → Work → Rule (Typed × State)
value_at t e w = wired.value (env_of t.env) t.values e (state_of w)

unfoldable pub chosen_at : Told → s.Expr → Pos → Typed → Typed → Work → Rule (Found × State)
chosen_at t e at x y w = after (wired.value (env_of t.env) t.values e (state_of w)) (λ z. by (chosen at x y z))

unfoldable pub measured_at : Told → s.Expr → Pos → Work → Rule (Constant × State)
measured_at t e at w = wired.measured at (wired.found (env_of t.env) t.values e) (state_of w)

unfoldable pub size_at : Told → s.TypeSpec → Pos → Work → Rule (Constant × State)
size_at t x at w = wired.size_of at (wired.type_of (env_of t.env) t.values at x) (state_of w)

unfoldable pub argument_at : Told → Ty → s.Expr → Work → Rule (Expr × State)
argument_at t ty e w = wired.argument ty e (wired.found (env_of t.env) t.values e) (state_of w)

unfoldable pub arguments_at : Told → List Ty → s.Exprs → Work → Rule (Exprs × State)
arguments_at t tys es w = wired.all_arguments (env_of t.env) t.values tys es (state_of w)

unfoldable pub parameter_at : Told → Pos → Option IntType → s.MaybeExpr → Work → Rule (Exprs × State)
parameter_at t at ty e w = wired.parameter (env_of t.env) t.values at ty e (state_of w)

unfoldable pub item_call_at : Told → Pos → ℕ × scope.Item → s.MaybeExpr → s.Exprs → Work → Rule (Found × State)
item_call_at t at i param es w = parts.item_call (env_of t.env) t.values at i param es (state_of w)

unfoldable pub item_call_with_at : Told → Pos → ℕ × scope.Item → s.Exprs → Exprs → Work → Rule (Found × State)
item_call_with_at t at i es ps w = parts.item_call_with (env_of t.env) t.values at i es ps (state_of w)

unfoldable pub constant_at : Told → Pos → s.Expr → Bool → Work → Rule (Constant × State)
constant_at t whole e evaluated w = wired.constant_in (env_of t.env) t.values whole e evaluated (state_of w)

unfoldable pub type_at : Told → Pos → s.TypeSpec → Work → Rule (Ty × State)
type_at t at x w = wired.type_of (env_of t.env) t.values at x (state_of w)

unfoldable pub lengths_at : Told → s.Exprs → Work → Rule (List ℕ × State)
lengths_at t es w = wired.lengths (env_of t.env) t.values es (state_of w)

unfoldable pub length_at : Told → s.Expr → Work → Rule (ℕ × State)
length_at t e w = after (wired.constant_in (env_of t.env) t.values (pos_of e) e true (state_of w)) (λ c. by (array_length (pos_of e) c.1))

unfoldable pub base_at : Told → Pos → s.Base → Work → Rule (Based × State)
base_at t at b w = wired.base_of (env_of t.env) t.values at b (state_of w)

unfoldable pub fields_at : Told → Pos → Struct → s.Groups → Work → Rule (Struct × State)
fields_at t at made gs w = wired.fields (env_of t.env) t.values at made gs (state_of w)

unfoldable pub group_at : Told → Pos → Struct → Group → Work → Rule (Struct × State)
group_at t at made g w = parts.one_group (env_of t.env) t.values at made g (state_of w)

unfoldable pub fields_of_at : Told → Pos → Based → Bool → Struct → s.Declarators → Work → Rule (Struct × State)
fields_of_at t at b said made ds w = wired.fields_of (env_of t.env) t.values at b said made ds (state_of w)

unfoldable pub field_at : Told → Pos → Based → Bool → Struct → Declarator → Work → Rule (Struct × State)
field_at t at b said made d w = parts.one_field (env_of t.env) t.values at b said made d (state_of w)

unfoldable pub items_at : Told → ℤ → s.Items → Work → Rule (Unit {0} × State)
items_at t next xs w = wired.enum_items (env_of t.env) t.values next xs (state_of w)

unfoldable pub item_at : Told → ℤ → Item → Work → Rule (ℤ × State)
item_at t next x w = parts.one_item (env_of t.env) t.values next x (state_of w)

unfoldable pub item_value_at : Told → ℤ → s.MaybeExpr → Work → Rule (ℤ × State)
item_value_at t next e w = wired.item_value (env_of t.env) t.values next e (state_of w)
