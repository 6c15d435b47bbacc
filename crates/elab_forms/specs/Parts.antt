-- What one part of a form does, given what stands before it (own: the equations of the wired program, cut where the code is cut).
use Rattle.std.specs.Prelude.{ℕ, ℤ, pos, ◌+ℤ◌, Bool, length, List, [], ◌∷◌, slice_index_or, Option, Some, None, Ok}
use Rattle.nm_base.specs.declared.pos.Pos.{Pos}
use Rattle.nm_base.specs.declared.int_type.IntType.{IntType}
use Rattle.nm_base.specs.declared.refusal.Refusal.TheVariants.{BadType}
use Rattle.nesc_core.specs.Plain.{Exprs, no_exprs}
use Rattle.nesc_tree.specs.Plain as s
use Rattle.nesc_tree.specs.View.{Declarator, Group, Item}
use Rattle.nesc_types.specs.Rule.{Rule, refuse}
use Rattle.nesc_types.specs.Values.{Constant}
use Rattle.elab_meaning.specs.Scope.{Env, Struct, constant}
use Rattle.elab_meaning.specs.Scope as scope
use Rattle.elab_meaning.specs.Elab.{Elab, by, ◌>>=◌, ◌>>◌, give, state, add_name}
use Rattle.elab_meaning.specs.Convert.{Found}
use Rattle.elab_meaning.specs.Operators.{Based, called, count, same_count, with_field_named, new_name, enum_constant}
use Rattle.elab_meaning.specs.Places.{body_reached}
use Rattle.elab_meaning.specs.Wired.{base_of, fields_of, lengths, item_value, starred, dimensioned, is_const_at, all_arguments, parameter, reached, value_given, join_exprs}

-- no argument for an element's parameter
abbrev pub parameter_missing : Pos → Option IntType → Rule Exprs
parameter_missing at None = Ok no_exprs
parameter_missing at (Some t) = refuse (BadType at)

abbrev pub call_of : List (Option Constant) → Pos → ℕ × scope.Item → (body : ℕ) → Exprs → Exprs → Found
call_of values at i body ps es = called at (reached body i.1) (join_exprs (value_given i.1.body (slice_index_or values i.0 None)) (join_exprs ps es))

abbrev pub declared : Pos → List ℕ → ℤ → Elab ℤ
declared at name z = do
  c ← by (enum_constant at z)
  x ← state
  by (new_name at x.first_name x.names name)
  add_name name (constant c.0 c.1)
  give (z +ℤ pos 1)

module _ (env : Env) (values : List (Option Constant)) where
  -- behind the argument of the element's parameter
  abbrev pub item_call_with : Pos → ℕ × scope.Item → s.Exprs → Exprs → Elab Found
  item_call_with at i arguments ps = do
    es ← all_arguments env values i.1.params arguments
    body ← body_reached env at i.0 i.1.body
    give (call_of values at i body ps es)

  abbrev pub item_call : Pos → ℕ × scope.Item → s.MaybeExpr → s.Exprs → Elab Found
  item_call at i param arguments = do
    by (same_count at (length i.1.params) (count arguments))
    ps ← parameter env values at i.1.parameter param
    item_call_with at i arguments ps

  abbrev pub group_of_type : Pos → Struct → s.TypeSpec → s.Declarators → Elab Struct
  group_of_type at made (s.type_spec base stars dims is_const) names = do
    b ← base_of env values at base
    fields_of env values at b is_const made names

  abbrev pub one_group : Pos → Struct → Group → Elab Struct
  one_group at made x = group_of_type at made x.0 x.1

  abbrev pub one_field : Pos → Based → Bool → Struct → Declarator → Elab Struct
  one_field at b said made x = do
    p ← starred at x.0 b
    ns ← lengths env values x.2
    t ← dimensioned at p ns
    y ← state
    by (with_field_named y.structs at made x.1 t (is_const_at x.0 said b.is_const))

  abbrev pub one_item : ℤ → Item → Elab ℤ
  one_item next x = do
    z ← item_value env values next x.1
    declared x.2 x.0 z
