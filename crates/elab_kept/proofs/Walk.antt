-- The walk over trees: one equation for each form.
use Rattle.std.proofs.Common.{◌≡◌, ℕ, Bool, true, false, List, [], ◌∷◌, length, Option, Some, None}
use Rattle.std.specs.Prelude.{ℤ, pos, ◌+ℤ◌, ◌+◌, ◌&&◌}
use Rattle.nm_base.specs.declared.pos.Pos.{Pos}
use Rattle.nm_base.specs.declared.int_type.IntType.{IntType}
use Rattle.nesc_core.specs.Plain.{Ty, int}
use Rattle.nesc_tree.specs.Plain as s
use Rattle.nesc_types.specs.Constant.{pos_of, goes_on, is_true}
use Rattle.core_meaning.specs.Numbers as numbers
use Rattle.nesc_types.specs.Values.{Constant}
use Rattle.elab_meaning.specs.Scope.{Env, Struct, an_enum, a_struct, count_of, item_from, unique_at}
use Rattle.elab_meaning.specs.Elab.{State, alone, by}
use Rattle.elab_meaning.specs.Operators.{Based, array_length, callee, count, counted, enum_constant, item_named, new_name, no_fields, port, same_count, with_field_named}
use Rattle.elab_meaning.specs.Ends.{ends_in_groups}
use Rattle.elab_meaning.specs.Wired.{all_arguments, base_of, constant_in, enum_items, fields, fields_of, found, is_const_at, item_value, lengths, measured, on_constants, parameter, size_of, type_of}
use Rattle.elab_meaning.specs.Convert.{assignable}
use Rattle.elab_kept.proofs.Steps.{Kept, kept_by, kept_on, kept_rule, kept_same, kept_stopped, kept_then, with_name}
use Rattle.elab_kept.proofs.Places as places
use Rattle.elab_kept.proofs.Parts as parts

module _ (env : Env) (values : List (Option Constant)) where
  mutual
    pub found_kept : (e : s.Expr) (st : State) → Kept st (found env values e st)
    found_kept (s.name n at) st = kept_by st _
    found_kept (s.number text at) st = kept_by st _
    found_kept (s.char text at) st = kept_by st _
    found_kept (s.null at) st = kept_same _ st
    found_kept (s.unique text at) st = parts.as_found_kept (by (counted at (unique_at env.uniques at))) st (kept_by st _)
    found_kept (s.unique_count text at) st = parts.as_found_kept (by (counted at (count_of env.counts text))) st (kept_by st _)
    found_kept (s.unary o e at) st = kept_then st _ _ (found_kept e st) (λ f t. places.prefixed_kept o at (pos_of e) f t)
    found_kept (s.postfix o e at) st = kept_then st _ _ (found_kept e st) (λ f t. kept_rule t (assignable at f) _ (λ p. kept_by t _))
    found_kept (s.binary o a b at) st = kept_then st _ _ (parts.valued_kept a (found env values a) st (found_kept a st))
        (λ x t. kept_then t _ _ (parts.valued_kept b (found env values b) t (found_kept b t)) (λ y u. places.binary_kept o at x y u))
    found_kept (s.assign o a b at) st = kept_then st _ _ (found_kept a st) (λ f t. kept_rule t (assignable at f) _
        (λ p. kept_then t _ _ (found_kept b t) (λ g v. places.stored_kept o at (pos_of b) p g v)))
    found_kept (s.choice a b c at) st = kept_then st _ _ (parts.valued_kept a (found env values a) st (found_kept a st))
        (λ x t. kept_then t _ _ (parts.valued_kept b (found env values b) t (found_kept b t))
        (λ y u. kept_then u _ _ (parts.valued_kept c (found env values c) u (found_kept c u)) (λ z v. kept_by v _)))
    found_kept (s.comma a b at) st = kept_then st _ _ (parts.valued_kept a (found env values a) st (found_kept a st))
        (λ x t. kept_then t _ _ (parts.valued_kept b (found env values b) t (found_kept b t)) (λ y u. kept_same _ u))
    found_kept (s.cast ty e at) st = kept_then st _ _ (type_kept at ty st)
        (λ to t. kept_then t _ _ (parts.valued_kept e (found env values e) t (found_kept e t)) (λ v u. kept_by u _))
    found_kept (s.size_of_expr e at) st = parts.as_found_kept (measured at (found env values e)) st (parts.measured_kept at (found env values e) st (found_kept e (alone st)))
    found_kept (s.size_of_type ty at) st = parts.as_found_kept (size_of at (type_of env values at ty)) st (parts.size_of_kept at (type_of env values at ty) st (type_kept at ty st))
    found_kept (s.index a i at) st = kept_then st _ _ (found_kept a st) (λ f t. kept_then t _ _ (places.indexed_kept (pos_of a) f t)
        (λ base u. kept_then u _ _ (parts.valued_kept i (found env values i) u (found_kept i u)) (λ v w. kept_by w _)))
    found_kept (s.member e n at) st = kept_then st _ _ (found_kept e st) (λ f t. kept_by t _)
    found_kept (s.arrow e n at) st = kept_then st _ _ (parts.valued_kept e (found env values e) st (found_kept e st)) (λ v t. kept_by t _)
    found_kept (s.call_fn f arguments at) st = kept_rule st (callee st.names f) _
        (λ g. kept_rule st (same_count at (length g.params) (count arguments)) _ (λ z. kept_then st _ _ (arguments_kept g.params arguments st) (λ es v. kept_same _ v)))
    found_kept (s.call_item signal owner item param arguments at) st = kept_rule st (item_named at signal (item_from 0 env.items owner item)) _
        (λ i. kept_rule st (same_count at (length i.1.params) (count arguments)) _ (λ z. kept_then st _ _ (parameter_kept at i.1.parameter param st)
        (λ ps v. kept_then v _ _ (arguments_kept i.1.params arguments v)
        (λ es w. kept_then w _ _ (places.reached_kept env at i.0 i.1.body w) (λ body x. kept_same _ x)))))
    found_kept (s.port_read p at) st = kept_then st _ _ (constant_kept (pos_of p) p true st)
        (λ (k : Constant) (t : State). kept_rule t (port (pos_of p) k.1) _ (λ n. kept_same _ t))
    found_kept (s.port_write p e at) st = kept_then st _ _ (constant_kept (pos_of p) p true st)
        (λ (k : Constant) (t : State). kept_rule t (port (pos_of p) k.1) _
        (λ n. kept_then t _ _ (parts.valued_kept e (found env values e) t (found_kept e t)) (λ v w. kept_by w _)))
    found_kept (s.post n at) st = kept_by st _

    arguments_kept : (ts : List Ty) (es : s.Exprs) (st : State) → Kept st (all_arguments env values ts es st)
    arguments_kept [] s.no_exprs st = kept_same _ st
    arguments_kept [] (s.more_exprs e es) st = kept_same _ st
    arguments_kept (t ∷ ts) s.no_exprs st = kept_same _ st
    arguments_kept (t ∷ ts) (s.more_exprs e es) st = kept_then st _ _ (parts.argument_kept t e (found env values e) st (found_kept e st))
        (λ x u. kept_then u _ _ (arguments_kept ts es u) (λ xs v. kept_same _ v))

    parameter_kept : (at : Pos) (t : Option IntType) (e : s.MaybeExpr) (st : State) → Kept st (parameter env values at t e st)
    parameter_kept at (Some t) (s.some_expr e) st = kept_then st _ _ (parts.argument_kept (int t) e (found env values e) st (found_kept e st)) (λ x u. kept_same _ u)
    parameter_kept at (Some t) s.no_expr st = kept_stopped st _
    parameter_kept at None (s.some_expr e) st = kept_stopped st _
    parameter_kept at None s.no_expr st = kept_same _ st

    pub constant_kept : (whole : Pos) (e : s.Expr) (evaluated : Bool) (st : State) → Kept st (constant_in env values whole e evaluated st)
    constant_kept whole (s.name n at) evaluated st = kept_by st _
    constant_kept whole (s.number text at) evaluated st = kept_by st _
    constant_kept whole (s.char text at) evaluated st = kept_by st _
    constant_kept whole (s.unique text at) evaluated st = kept_by st _
    constant_kept whole (s.unique_count text at) evaluated st = kept_by st _
    constant_kept whole (s.unary o e at) evaluated st = kept_rule st (on_constants whole o) _
        (λ z. kept_then st _ _ (constant_kept whole e evaluated st) (λ x u. kept_by u _))
    constant_kept whole (s.binary o a b at) evaluated st = kept_then st _ _ (constant_kept whole a evaluated st)
        (λ x t. kept_then t _ _ (constant_kept whole b (evaluated && goes_on o x) t) (λ y u. kept_by u _))
    constant_kept whole (s.choice a b c at) evaluated st = kept_then st _ _ (constant_kept whole a evaluated st)
        (λ (x : Constant) (t : State). kept_then t _ _ (constant_kept whole b (evaluated && is_true x) t)
        (λ y u. kept_then u _ _ (constant_kept whole c (evaluated && numbers.is_zero x.1) u) (λ z v. kept_same _ v)))
    constant_kept whole (s.comma a b at) true st = kept_stopped st _
    constant_kept whole (s.comma a b at) false st = kept_then st _ _ (constant_kept whole a false st) (λ x t. constant_kept whole b false t)
    constant_kept whole (s.cast ty e at) evaluated st = kept_then st _ _ (type_kept at ty st)
        (λ to t. kept_then t _ _ (constant_kept whole e evaluated t) (λ x u. kept_by u _))
    constant_kept whole (s.size_of_expr e at) evaluated st = parts.measured_kept at (found env values e) st (found_kept e (alone st))
    constant_kept whole (s.size_of_type ty at) evaluated st = parts.size_of_kept at (type_of env values at ty) st (type_kept at ty st)
    constant_kept whole (s.null at) evaluated st = kept_stopped st _
    constant_kept whole (s.postfix o e at) evaluated st = kept_stopped st _
    constant_kept whole (s.assign o a b at) evaluated st = kept_stopped st _
    constant_kept whole (s.index a i at) evaluated st = kept_stopped st _
    constant_kept whole (s.member e n at) evaluated st = kept_stopped st _
    constant_kept whole (s.arrow e n at) evaluated st = kept_stopped st _
    constant_kept whole (s.call_fn f arguments at) evaluated st = kept_stopped st _
    constant_kept whole (s.call_item signal owner item param arguments at) evaluated st = kept_stopped st _
    constant_kept whole (s.port_read p at) evaluated st = kept_stopped st _
    constant_kept whole (s.port_write p e at) evaluated st = kept_stopped st _
    constant_kept whole (s.post n at) evaluated st = kept_stopped st _

    pub type_kept : (at : Pos) (ty : s.TypeSpec) (st : State) → Kept st (type_of env values at ty st)
    type_kept at (s.type_spec base stars dims is_const) st = kept_then st _ _ (base_kept at base st)
        (λ b t. kept_then t _ _ (parts.starred_kept at stars b t) (λ p u. kept_then u _ _ (lengths_kept dims u) (λ ns v. parts.dimensioned_kept at p ns v)))

    pub lengths_kept : (es : s.Exprs) (st : State) → Kept st (lengths env values es st)
    lengths_kept s.no_exprs st = kept_same _ st
    lengths_kept (s.more_exprs e es) st = kept_then st _ _ (constant_kept (pos_of e) e true st)
        (λ (c : Constant) (t : State). kept_rule t (array_length (pos_of e) c.1) _ (λ n. kept_then t _ _ (lengths_kept es t) (λ ns v. kept_same _ v)))

    pub base_kept : (at : Pos) (b : s.Base) (st : State) → Kept st (base_of env values at b st)
    base_kept at s.void st = kept_same _ st
    base_kept at (s.int t) st = kept_same _ st
    base_kept at (s.named n) st = kept_by st _
    base_kept at (s.struct None) st = kept_stopped st _
    base_kept at (s.struct (Some tag)) st = kept_by st _
    base_kept at (s.struct_of tag groups) st = kept_then st _ _ (parts.tagged_kept at tag (a_struct (length st.structs + ends_in_groups groups)) st)
        (λ z t. kept_then t _ _ (fields_kept at no_fields groups t) (λ fs u. parts.struct_ended_kept at (length st.structs) fs u))
    base_kept at (s.enum None) st = kept_stopped st _
    base_kept at (s.enum (Some tag)) st = kept_by st _
    base_kept at (s.enum_of tag items) st = kept_then st _ _ (parts.tagged_kept at tag an_enum st) (λ z t. kept_then t _ _ (items_kept (pos 0) items t) (λ w u. kept_same _ u))

    fields_kept : (at : Pos) (done : Struct) (gs : s.Groups) (st : State) → Kept st (fields env values at done gs st)
    fields_kept at done s.no_groups st = kept_same _ st
    fields_kept at done (s.more_groups (s.type_spec base stars dims is_const) names rest) st = kept_then st _ _ (base_kept at base st)
        (λ b t. kept_then t _ _ (names_kept at b is_const done names t) (λ more u. fields_kept at more rest u))

    names_kept : (at : Pos) (b : Based) (said : Bool) (done : Struct) (ds : s.Declarators) (st : State) → Kept st (fields_of env values at b said done ds st)
    names_kept at b said done s.no_declarators st = kept_same _ st
    names_kept at b said done (s.more_declarators stars name dims rest) st = kept_then st _ _ (parts.starred_kept at stars b st)
        (λ p t. kept_then t _ _ (lengths_kept dims t) (λ ns u. kept_then u _ _ (parts.dimensioned_kept at p ns u)
        (λ ty v. kept_rule v (with_field_named v.structs at done name ty (is_const_at stars said b.is_const)) _ (λ more. names_kept at b said more rest v))))

    items_kept : (next : ℤ) (is : s.Items) (st : State) → Kept st (enum_items env values next is st)
    items_kept next s.no_items st = kept_same _ st
    items_kept next (s.more_items name value at rest) st = kept_then st _ _ (item_value_kept next value st)
        (λ z t. kept_rule t (enum_constant at z) _ (λ c. kept_rule t (new_name at t.first_name t.names name) _ (λ w. kept_on t _ _ (with_name t _) (items_kept (z +ℤ pos 1) rest _))))

    item_value_kept : (next : ℤ) (e : s.MaybeExpr) (st : State) → Kept st (item_value env values next e st)
    item_value_kept next s.no_expr st = kept_same _ st
    item_value_kept next (s.some_expr e) st = kept_then st _ _ (constant_kept (pos_of e) e true st) (λ c t. kept_same _ t)
