-- The walk over trees: one equation for each form.
use Rattle.std.proofs.Common.{inl, ◌≡◌, ℕ, ◌+◌, Bool, true, false, List, [], ◌∷◌, length, Option, Some, None, ap, ◌∙◌, refl, arith}
use Rattle.std.specs.Prelude.{⊤, ℤ, pos, ◌+ℤ◌, ◌&&◌, slice_index_or}
use Rattle.nm_base.specs.declared.pos.Pos.{Pos}
use Rattle.nm_base.specs.declared.int_type.IntType.{IntType}
use Rattle.nm_base.specs.declared.int_type.IntType.TheVariants.{I16}
use Rattle.nm_base.specs.declared.refusal.Refusal.{Refusal}
use Rattle.nesc_core.specs.Plain.{Ty, Expr, Exprs, Program, void, int, pointer, array, struct, no_exprs, more_exprs}
use Rattle.nesc_core.specs.Plain as core
use Rattle.nesc_core.specs.Typing.{AllHave, Has, IsType, PointsWell}
use Rattle.nesc_tree.specs.Plain as s
use Rattle.nesc_types.specs.Constant as constants
use Rattle.nesc_types.specs.Constant.{pos_of, computed, goes_on, is_true}
use Rattle.core_meaning.specs.Numbers as numbers
use Rattle.nesc_types.specs.Literals as literals
use Rattle.nesc_types.specs.Rule.{Rule, refuse}
use Rattle.nesc_types.specs.Values.{Constant}
use Rattle.elab_meaning.specs.Scope.{Env, Struct, item_from, lookup, lookup_tag, unique_at, count_of}
use Rattle.elab_meaning.specs.Elab.{State, after, alone, by}
use Rattle.elab_meaning.specs.Convert.{Target, Typed, Found, assignable, int_of, null_type, value_found}
use Rattle.elab_meaning.specs.Operators.{Based, array_length, called, callee, cast_to, comma, count, counted, enum_constant, enum_tagged, item_named, new_name, no_fields, plain_base, port, read_from, same_count, struct_tagged, type_named, with_field_named}
use Rattle.elab_meaning.specs.Ends.{ends_in, ends_in_all, ends_in_base, ends_in_groups, ends_in_items, ends_in_maybe, ends_in_names, ends_in_type}
use Rattle.elab_meaning.specs.Wired.{all_arguments, base_of, constant_in, enum_items, fields, fields_of, found, is_const_at, item_value, join_exprs, lengths, measured, on_constants, parameter, reached, size_of, type_of, value_given, valued}
use Rattle.elab_laws.specs.Known.{Each, IsKnown, IsKnownMeaning, NamesStruct}
use Rattle.elab_laws.specs.Formed.{HasIndexes, IsBodyOf, IsPlaceOf, IsValueOf, IsWellFound, parameter_type}
use Rattle.elab_laws.specs.Groups.{AllHavePlainGroups, ArePlainGroups, BaseHasPlainGroups, HasPlainGroups, ItemsHavePlainGroups, MaybeHasPlainGroups, NamesHavePlainGroups, TypeHasPlainGroups}
use Rattle.elab_laws.proofs.Numbers.{character_is, chosen_is, computed_is, converted_is, number_is, prefixed_is}
use Rattle.elab_laws.proofs.Steps.{Gets, gets_stopped, says_any, says_kept, says_under}
use Rattle.elab_laws.proofs.Later.{known_type_later}
use Rattle.elab_laws.proofs.Types.{AreFields, MayBase, MayType, MaybeIs, enum_says, field_says, fields_later, lookup_is, lookup_tag_is, may_base_later, may_type_later, none_yet}
use Rattle.elab_laws.proofs.Values as values
use Rattle.elab_laws.proofs.Operations as operations
use Rattle.elab_laws.proofs.Places as places
use Rattle.elab_laws.proofs.Stored as stored
use Rattle.elab_laws.proofs.Calls as calls
use Rattle.elab_laws.proofs.Does as does
use Rattle.elab_laws.proofs.Does.{Any, Does, Free, Untyped}
use Rattle.elab_laws.proofs.Parts as parts
use Rattle.elab_laws.proofs.Parts.{constant_named_is, count_is, counted_is, enum_tagged_is, fits_is, int_known, item_named_is, may_of_known, port_is, rule_then, struct_settled, struct_tagged_is, type_named_is}
use Rattle.elab_laws.proofs.Ended as ended

module _ (p : Program) (types : List Ty) (env : Env) (consts : List (Option Constant)) where
  abbrev V : Typed → Type 0
  V v = IsValueOf p types v.expr v.ty

  abbrev W : Found → Type 0
  W = IsWellFound p types

  abbrev DF : {A : Type 0} → ℕ → (A → Type 0) → State → A → State → Type 0
  DF a T st = parts.DF p types env consts a T st

  abbrev DK : ℕ → State → Constant → State → Type 0
  DK a st = parts.DK p types env consts a st

  abbrev DT : ℕ → State → Ty → State → Type 0
  DT a st = parts.DT p types env consts a st

  abbrev DB : ℕ → State → Based → State → Type 0
  DB a st = parts.DB p types env consts a st

  abbrev DS : ℕ → Struct → State → Struct → State → Type 0
  DS a done st = Does p types env consts a (λ n t x. AreFields n st.structs done → AreFields n t.structs x) Free Untyped st

  known_here : (n : ℕ) (st : State) → IsKnown n st → (name : List ℕ) → MaybeIs (IsKnownMeaning st.structs) (lookup st.names name)
  known_here n st k name = lookup_is (IsKnownMeaning st.structs) st.names name k.names

  abbrev T : Target → Type 0
  T x = IsPlaceOf p types x.place x.ty × HasIndexes p types x.place x.indexes

  -- ---- forms, given what their parts do

  cast_does : (a b : ℕ) (e : s.Expr) (st : State) (r : Rule (Ty × State)) → Gets r (DT a st) → ((t : State) → Gets (found env consts e t) (DF b W t))
      → Gets (after r (λ to. λ t. after (valued e (found env consts e) t) (λ v. by (cast_to (pos_of e) to v)))) (DF (a + b) W st)
  cast_does a b e st r h f = parts.found_then p types env consts a b (a + b) st r _ refl (parts.type_found_in p types env consts a st r h)
      (λ to t. parts.found_then p types env consts b 0 b t _ _ (omega arith) (parts.value_does p types env consts b e (found env consts e) t (f t))
      (λ v u. parts.found_by p types env consts _ u (λ c k. says_under _ (λ hv. says_under _ (λ (ht : IsType p.structs to). values.cast_ok p types (pos_of e) to v ht.points hv)))))

  gets_refused : {A : Type 0} {P : A → State → Type 0} {r : Refusal} (st : State) → Gets {A = A} (by (refuse r) st) P
  gets_refused st = gets_stopped _

  no_dims : (a : ℕ) (dims : s.Exprs) (b : ℕ) → dims ≡ s.no_exprs → (a + ends_in_all dims) + b ≡ a + b
  no_dims a dims b e = ap (λ d. (a + ends_in_all d) + b) e ∙ (let z : (a + 0) + b ≡ a + b = omega arith in z)

  field_does : (at : Pos) (done : Struct) (name : List ℕ) (v : Ty) (is_const : Bool) (st : State)
      → Gets (by (with_field_named st.structs at done name v is_const) st) (Does p types env consts 0 (λ n t x. AreFields n st.structs done → MayType n st.structs v → AreFields n t.structs x) Free Untyped st)
  field_does at done name v is_const st = parts.plain_by p types env consts _ st (λ n k. says_under _ (λ h. says_under _ (λ m. field_says st.structs at n done name v is_const h m.1)))

  mutual
    pub found_does : (e : s.Expr) → HasPlainGroups e → (st : State) → Gets (found env consts e st) (DF (ends_in e) W st)
    found_does (s.name n at) g st = parts.found_by p types env consts _ st (λ c b. calls.named_ok p types env consts at st c b (lookup st.names n) (calls.meant_here p types env consts st c b n))
    found_does (s.number text at) g st = parts.found_by p types env consts _ st (λ c b. calls.literal_ok p types env consts at (literals.number text) (number_is text))
    found_does (s.char text at) g st = parts.found_by p types env consts _ st (λ c b. calls.literal_ok p types env consts at (literals.character text) (character_is text))
    found_does (s.null at) g st = parts.found_give p types env consts (value_found core.null null_type) st (λ c b t h. h)
    found_does (s.unique text at) g st = parts.as_found_does p types env consts 0 (by (counted at (unique_at env.uniques at))) st (parts.plain_by p types env consts (counted at (unique_at env.uniques at)) st (λ n k. counted_is at (unique_at env.uniques at)))
    found_does (s.unique_count text at) g st = parts.as_found_does p types env consts 0 (by (counted at (count_of env.counts text))) st (parts.plain_by p types env consts (counted at (count_of env.counts text)) st (λ n k. counted_is at (count_of env.counts text)))
    found_does (s.unary o e at) g st = parts.found_then p types env consts (ends_in e) 0 (ends_in e) st _ _ (omega arith) (found_does e g st)
        (λ f t. parts.found_leaf p types env consts t _ (places.prefixed_leaf p types env consts o at (pos_of e) f t))
    found_does (s.postfix o e at) g st = parts.found_then p types env consts (ends_in e) 0 (ends_in e) st _ _ (omega arith) (found_does e g st)
        (λ f t. parts.found_then p types env consts 0 0 0 t _ _ (omega arith)
        (parts.found_by p types env consts (assignable at f) t (λ c b. says_under _ (λ h. operations.assignable_says p types t.structs c.known.structs b.structs c.fields at f h)))
        (λ x u. parts.found_by p types env consts _ u (λ c b. says_under _ (λ hx. says_under _ (λ h. operations.stepped_ok p types u.structs c.known.structs b.structs c.fields at o x (hx h))))))
    found_does (s.binary o a b at) g st = parts.found_then p types env consts (ends_in a) (ends_in b) (ends_in a + ends_in b) st _ _ refl
        (parts.value_does p types env consts (ends_in a) a (found env consts a) st (found_does a g.0 st))
        (λ x t. parts.found_then p types env consts (ends_in b) 0 (ends_in b) t _ _ (omega arith) (parts.value_does p types env consts (ends_in b) b (found env consts b) t (found_does b g.1 t))
        (λ y u. parts.found_kept p types env consts 0 u _ (parts.found_leaf p types env consts u _ (places.binary_leaf p types env consts o at x y u)) (λ f h hy hx. h hx hy)))
    found_does (s.assign o a b at) g st = parts.placed_alone p types env consts (ends_in a + ends_in b) st _
        (parts.placed_then p types env consts ⊤ (λ f. W f) (ends_in a) (ends_in b) (ends_in a + ends_in b) st _ _ refl (found_does a g.0 st)
        (λ f t. parts.placed_then p types env consts (W f) (λ x. T x) 0 (ends_in b) (ends_in b) t _ _ (omega arith)
        (parts.found_by p types env consts (assignable at f) t (λ c k. says_under _ (λ h. operations.assignable_says p types t.structs c.known.structs k.structs c.fields at f h)))
        (λ x u. parts.placed_then p types env consts (T x) (λ y. W y × T x) (ends_in b) 0 (ends_in b) u _ _ (omega arith) (found_does b g.1 u)
        (λ y v. does.does_kept p types env consts (λ w. parts.Placed p types env consts v w × (W y × T x)) (λ w. parts.Placed p types env consts v w × (W y × T x)) 0 v _
        (parts.placed_leaf p types env consts (W y × T x) v _ (stored.stored_leaf p types env consts o at (pos_of b) x y v))
        (λ n w z k l i. tt) (λ w z c l i. tt) (λ z h hy hx hf. h hy (hx hf)) (λ w h. h))
        (λ y wy tx. (wy, tx)))
        (λ x h wf. h wf))
        (λ f wf z. wf))
    found_does (s.choice a b c at) g st = parts.found_then p types env consts (ends_in a) (ends_in b + ends_in c) (ends_in a + (ends_in b + ends_in c)) st _ _ refl
        (parts.value_does p types env consts (ends_in a) a (found env consts a) st (found_does a g.0 st))
        (λ x t. parts.found_then p types env consts (ends_in b) (ends_in c) (ends_in b + ends_in c) t _ _ refl (parts.value_does p types env consts (ends_in b) b (found env consts b) t (found_does b g.1 t))
        (λ y u. parts.found_then p types env consts (ends_in c) 0 (ends_in c) u _ _ (omega arith) (parts.value_does p types env consts (ends_in c) c (found env consts c) u (found_does c g.2 u))
        (λ z v. parts.found_by p types env consts _ v (λ k l. says_under _ (λ hz. says_under _ (λ hy. says_under _ (λ hx. values.chosen_ok p types at x y z hx hy hz)))))))
    found_does (s.comma a b at) g st = parts.found_then p types env consts (ends_in a) (ends_in b) (ends_in a + ends_in b) st _ _ refl
        (parts.value_does p types env consts (ends_in a) a (found env consts a) st (found_does a g.0 st))
        (λ x t. parts.found_then p types env consts (ends_in b) 0 (ends_in b) t _ _ (omega arith) (parts.value_does p types env consts (ends_in b) b (found env consts b) t (found_does b g.1 t))
        (λ y u. parts.found_give p types env consts (comma x y) u (λ c k hy hx. values.comma_ok p types x y hx hy)))
    found_does (s.cast t e at) g st = cast_does (ends_in_type t) (ends_in e) e st (type_of env consts at t st) (type_does at t g.0 st) (λ u. found_does e g.1 u)
    found_does (s.size_of_expr e at) g st = parts.as_found_does p types env consts (ends_in e) (measured at (found env consts e)) st (parts.measured_does p types env consts (ends_in e) at (found env consts e) st (found_does e g (alone st)))
    found_does (s.size_of_type t at) g st = parts.as_found_does p types env consts (ends_in_type t) (size_of at (type_of env consts at t)) st (parts.size_of_does p types env consts (ends_in_type t) at (type_of env consts at t) st (type_does at t g st))
    found_does (s.index a i at) g st = parts.found_then p types env consts (ends_in a) (ends_in i) (ends_in a + ends_in i) st _ _ refl (found_does a g.0 st)
        (λ f t. parts.found_then p types env consts 0 (ends_in i) (ends_in i) t _ _ (omega arith) (parts.found_leaf p types env consts t _ (places.indexed_leaf p types env consts (pos_of a) f t))
        (λ x u. parts.found_then p types env consts (ends_in i) 0 (ends_in i) u _ _ (omega arith) (parts.value_does p types env consts (ends_in i) i (found env consts i) u (found_does i g.1 u))
        (λ v w. parts.found_by p types env consts _ w (λ c b. says_under _ (λ hv. says_under _ (λ hx. says_under _ (λ hf. operations.element_ok p types w.structs c.known.structs b.structs c.fields at x v (hx hf) hv)))))))
    found_does (s.member e n at) g st = parts.found_then p types env consts (ends_in e) 0 (ends_in e) st _ _ (omega arith) (found_does e g st)
        (λ f t. parts.found_by p types env consts _ t (λ c b. says_under _ (λ h. operations.member_ok p types t.structs c.known.structs b.structs c.fields at f n h)))
    found_does (s.arrow e n at) g st = parts.found_then p types env consts (ends_in e) 0 (ends_in e) st _ _ (omega arith) (parts.value_does p types env consts (ends_in e) e (found env consts e) st (found_does e g st))
        (λ v t. parts.found_by p types env consts _ t (λ c b. says_under _ (λ h. operations.member_behind_ok p types t.structs c.known.structs b.structs c.fields at v n h)))
    found_does (s.call_fn f arguments at) g st = parts.found_then p types env consts 0 (ends_in_all arguments) (ends_in_all arguments) st _ _ (omega arith)
        (parts.found_by p types env consts (callee st.names f) st (λ c b. calls.callee_is p types env consts st c b f))
        (λ sig t. rule_then (same_count at (length sig.params) (count arguments)) t _ (count_is at (length sig.params) (count arguments))
        (λ z same. parts.found_then p types env consts (ends_in_all arguments) 0 (ends_in_all arguments) t _ _ (omega arith) (arguments_do sig.params arguments g same t)
        (λ es u. parts.found_give p types env consts (called at sig es) u (λ c b (he : Each (λ (x : Ty). IsType p.structs x) sig.params → AllHave p types es sig.params) (hs : IsBodyOf p sig.body sig.params sig.result). calls.call_ok p types env consts sig.body es at sig.params sig.result hs (he hs.types)))))
    found_does (s.call_item signal owner item param arguments at) g st = rule_then (item_named at signal (item_from 0 env.items owner item)) st _ (item_named_is at signal env.items owner item)
        (λ i there. rule_then (same_count at (length i.1.params) (count arguments)) st _ (count_is at (length i.1.params) (count arguments))
        (λ z same. parts.found_then p types env consts (ends_in_maybe param) (ends_in_all arguments) (ends_in_maybe param + ends_in_all arguments) st _ _ refl (parameter_does at i.1.parameter param g.0 st)
        (λ ps t. parts.found_then p types env consts (ends_in_all arguments) 0 (ends_in_all arguments) t _ _ (omega arith) (arguments_do i.1.params arguments g.1 same t)
        (λ es u. parts.found_then p types env consts 0 0 0 u _ _ (omega arith) (parts.found_leaf p types env consts u _ (stored.reached_leaf p types env consts at i.0 i.1 u there))
        (λ body v. parts.found_give p types env consts (called at (reached body i.1) (join_exprs (value_given i.1.body (slice_index_or consts i.0 None)) (join_exprs ps es))) v
        (λ c b (hb : IsBodyOf p body (stored.taken_by p types env consts i.0 i.1 i.1.body) i.1.result × stored.is_given p types env consts i.0 i.1.body) (he : Each (λ (x : Ty). IsType p.structs x) i.1.params → AllHave p types es i.1.params) (hp : AllHave p types ps (parameter_type i.1.parameter)).
        calls.item_ok p types env consts i.0 i.1 body ps es at i.1.body hb.0 hb.1 hp (he (calls.params_of p types env consts i.0 i.1 i.1.body hb.0.types))))))))
    found_does (s.port_read q at) g st = parts.found_then p types env consts (ends_in q) 0 (ends_in q) st _ _ (omega arith) (parts.constant_found p types env consts (ends_in q) st _ (constant_does (pos_of q) q true g st))
        (λ k t. rule_then (port (pos_of q) k.1) t _ (port_is (pos_of q) k.1) (λ n h. parts.found_give p types env consts (read_from n) t (λ c b z. (refl, h))))
    found_does (s.port_write q e at) g st = parts.found_then p types env consts (ends_in q) (ends_in e) (ends_in q + ends_in e) st _ _ refl (parts.constant_found p types env consts (ends_in q) st _ (constant_does (pos_of q) q true g.0 st))
        (λ k t. rule_then (port (pos_of q) k.1) t _ (port_is (pos_of q) k.1)
        (λ n h. parts.found_then p types env consts (ends_in e) 0 (ends_in e) t _ _ (omega arith) (parts.value_does p types env consts (ends_in e) e (found env consts e) t (found_does e g.1 t))
        (λ v u. parts.found_by p types env consts _ u (λ c b. says_under _ (λ hv. says_under _ (λ z. calls.written_ok p types env consts n h (pos_of e) v hv))))))
    found_does (s.post n at) g st = parts.found_by p types env consts _ st (λ c b. calls.posted_ok p types env consts at st (lookup st.names n) (calls.meant_here p types env consts st c b n))

    pub arguments_do : (ts : List Ty) (es : s.Exprs) → AllHavePlainGroups es → length ts ≡ count es → (st : State)
        → Gets (all_arguments env consts ts es st) (DF (ends_in_all es) (λ (xs : Exprs). Each (λ (t : Ty). IsType p.structs t) ts → AllHave p types xs ts) st)
    arguments_do [] s.no_exprs g same st = parts.found_give p types env consts no_exprs st (λ c b h. tt)
    arguments_do [] (s.more_exprs e es) g same st = absurd cc
    arguments_do (t ∷ ts) s.no_exprs g same st = absurd cc
    arguments_do (t ∷ ts) (s.more_exprs e es) g same st = parts.found_then p types env consts (ends_in e) (ends_in_all es) (ends_in e + ends_in_all es) st _ _ refl
        (parts.argument_does p types env consts (ends_in e) t e (found env consts e) st (found_does e g.0 st))
        (λ x u. parts.found_then p types env consts (ends_in_all es) 0 (ends_in_all es) u _ _ (omega arith) (arguments_do ts es g.1 (omega (arith, same)) u)
        (λ xs v. parts.found_give p types env consts (more_exprs x xs) v
        (λ c b (hs : Each (λ (y : Ty). IsType p.structs y) ts → AllHave p types xs ts) (hx : PointsWell p.structs t → Has p types x t) (all : Each (λ (y : Ty). IsType p.structs y) (t ∷ ts)). (hx all.0.points, hs all.1))))

    pub parameter_does : (at : Pos) (t : Option IntType) (e : s.MaybeExpr) → MaybeHasPlainGroups e → (st : State)
        → Gets (parameter env consts at t e st) (DF (ends_in_maybe e) (λ (xs : Exprs). AllHave p types xs (parameter_type t)) st)
    parameter_does at (Some t) (s.some_expr e) g st = parts.found_then p types env consts (ends_in e) 0 (ends_in e) st _ _ (omega arith)
        (parts.argument_does p types env consts (ends_in e) (int t) e (found env consts e) st (found_does e g st))
        (λ x u. parts.found_give p types env consts (more_exprs x no_exprs) u (λ c b (hx : PointsWell p.structs (int t) → Has p types x (int t)). (hx tt, tt)))
    parameter_does at None s.no_expr g st = parts.found_give p types env consts no_exprs st (λ c b. tt)
    parameter_does at None (s.some_expr e) g st = gets_refused st
    parameter_does at (Some t) s.no_expr g st = gets_refused st

    pub constant_does : (whole : Pos) (e : s.Expr) (evaluated : Bool) → HasPlainGroups e → (st : State) → Gets (constant_in env consts whole e evaluated st) (DK (ends_in e) st)
    constant_does whole (s.name n at) evaluated g st = parts.plain_by p types env consts _ st (λ m k. constant_named_is st.structs whole at (lookup st.names n) (known_here m st k n))
    constant_does whole (s.number text at) evaluated g st = parts.plain_by p types env consts _ st (λ n k. fits_is at (literals.number text) (number_is text))
    constant_does whole (s.char text at) evaluated g st = parts.plain_by p types env consts _ st (λ n k. fits_is at (literals.character text) (character_is text))
    constant_does whole (s.unique text at) evaluated g st = parts.plain_by p types env consts _ st (λ n k. counted_is at (unique_at env.uniques at))
    constant_does whole (s.unique_count text at) evaluated g st = parts.plain_by p types env consts _ st (λ n k. counted_is at (count_of env.counts text))
    constant_does whole (s.unary o e at) evaluated g st = rule_then (on_constants whole o) st _ (says_any (on_constants whole o))
        (λ z h. parts.plain_then p types env consts (ends_in e) 0 (ends_in e) st _ _ (omega arith) (constant_does whole e evaluated g st)
        (λ x t. parts.plain_by p types env consts _ t (λ n k. says_under _ (λ hx. prefixed_is whole o x hx))))
    constant_does whole (s.binary o a b at) evaluated g st = parts.plain_then p types env consts (ends_in a) (ends_in b) (ends_in a + ends_in b) st _ _ refl (constant_does whole a evaluated g.0 st)
        (λ x t. parts.plain_then p types env consts (ends_in b) 0 (ends_in b) t _ _ (omega arith) (constant_does whole b (evaluated && goes_on o x) g.1 t)
        (λ y u. parts.plain_by p types env consts _ u (λ n k. says_under _ (λ hy. says_under _ (λ hx. computed_is whole evaluated o x y hx hy)))))
    constant_does whole (s.choice a b c at) evaluated g st = parts.plain_then p types env consts (ends_in a) (ends_in b + ends_in c) (ends_in a + (ends_in b + ends_in c)) st _ _ refl (constant_does whole a evaluated g.0 st)
        (λ x t. parts.plain_then p types env consts (ends_in b) (ends_in c) (ends_in b + ends_in c) t _ _ refl (constant_does whole b (evaluated && is_true x) g.1 t)
        (λ y u. parts.plain_then p types env consts (ends_in c) 0 (ends_in c) u _ _ (omega arith) (constant_does whole c (evaluated && numbers.is_zero x.1) g.2 u)
        (λ z v. parts.plain_give p types env consts (constants.chosen x y z) v (λ n k hz hy hx. chosen_is x y z))))
    constant_does whole (s.comma a b at) true g st = gets_refused st
    constant_does whole (s.comma a b at) false g st = parts.plain_then p types env consts (ends_in a) (ends_in b) (ends_in a + ends_in b) st _ _ refl (constant_does whole a false g.0 st)
        (λ x t. parts.plain_kept p types env consts (ends_in b) t _ (constant_does whole b false g.1 t) (λ n u y k l h hx. h) (λ u y c l h. tt))
    constant_does whole (s.cast x e at) evaluated g st = parts.plain_then p types env consts (ends_in_type x) (ends_in e) (ends_in_type x + ends_in e) st _ _ refl (ended.plainly p types env consts (ends_in_type x) st _ (type_does at x g.0 st))
        (λ to t. parts.plain_then p types env consts (ends_in e) 0 (ends_in e) t _ _ (omega arith) (constant_does whole e evaluated g.1 t)
        (λ c u. parts.plain_by p types env consts _ u (λ n k. says_under _ (λ hc. says_under _ (λ ht. converted_is (pos_of e) (int_of to) c)))))
    constant_does whole (s.size_of_expr e at) evaluated g st = parts.measured_does p types env consts (ends_in e) at (found env consts e) st (found_does e g (alone st))
    constant_does whole (s.size_of_type t at) evaluated g st = parts.size_of_does p types env consts (ends_in_type t) at (type_of env consts at t) st (type_does at t g st)
    constant_does whole (s.null at) evaluated g st = gets_refused st
    constant_does whole (s.postfix o e at) evaluated g st = gets_refused st
    constant_does whole (s.assign o a b at) evaluated g st = gets_refused st
    constant_does whole (s.index a i at) evaluated g st = gets_refused st
    constant_does whole (s.member e n at) evaluated g st = gets_refused st
    constant_does whole (s.arrow e n at) evaluated g st = gets_refused st
    constant_does whole (s.call_fn f arguments at) evaluated g st = gets_refused st
    constant_does whole (s.call_item signal owner item param arguments at) evaluated g st = gets_refused st
    constant_does whole (s.port_read q at) evaluated g st = gets_refused st
    constant_does whole (s.port_write q e at) evaluated g st = gets_refused st
    constant_does whole (s.post n at) evaluated g st = gets_refused st

    pub type_does : (at : Pos) (x : s.TypeSpec) → TypeHasPlainGroups x → (st : State) → Gets (type_of env consts at x st) (DT (ends_in_type x) st)
    type_does at (s.type_spec base stars dims is_const) g st = parts.type_then p types env consts (ends_in_base base) (ends_in_all dims) (ends_in_base base + ends_in_all dims) st _ _ refl (base_does at base g.0 st)
        (λ b t1. parts.type_then p types env consts 0 (ends_in_all dims) (ends_in_all dims) t1 _ _ (omega arith) (ended.starred_does p types env consts at stars b t1)
        (λ u t2. parts.type_then p types env consts (ends_in_all dims) 0 (ends_in_all dims) t2 _ _ (omega arith) (ended.longer p types env consts (ends_in_all dims) t2 _ (lengths_do dims g.1 t2))
        (λ ns t3. parts.plain_kept p types env consts 0 t3 _ (ended.dimensioned_does p types env consts at u ns t3)
        (λ n t v k l d h stars_of based. d (may_type_later t2.structs t3.structs h.1 n u (stars_of based)))
        (λ t v c l d h stars_of based. d (known_type_later t2.structs t3.structs h.1 u (stars_of based))))))

    pub lengths_do : (es : s.Exprs) → AllHavePlainGroups es → (st : State) → Gets (lengths env consts es st) (Does p types env consts (ends_in_all es) Any Free Untyped st)
    lengths_do s.no_exprs g st = parts.plain_give p types env consts [] st (λ n k. tt)
    lengths_do (s.more_exprs e es) g st = parts.plain_then p types env consts (ends_in e) (ends_in_all es) (ends_in e + ends_in_all es) st _ _ refl (constant_does (pos_of e) e true g.0 st)
        (λ c t. rule_then (array_length (pos_of e) c.1) t _ (says_any _)
        (λ m z. parts.plain_then p types env consts (ends_in_all es) 0 (ends_in_all es) t _ _ (omega arith) (lengths_do es g.1 t) (λ ms u. parts.plain_give p types env consts (m ∷ ms) u (λ n k h hc. tt))))

    pub base_does : (at : Pos) (b : s.Base) → BaseHasPlainGroups b → (st : State) → Gets (base_of env consts at b st) (DB (ends_in_base b) st)
    base_does at s.void g st = parts.type_give p types env consts (plain_base void) st (λ n k. (inl tt, tt)) (λ c. (tt, tt))
    base_does at (s.int t) g st = parts.type_give p types env consts (plain_base (int t)) st (λ n k. may_of_known n st.structs (int t) (int_known st.structs t)) (λ c. int_known st.structs t)
    base_does at (s.named m) g st = parts.type_by p types env consts (type_named at (lookup st.names m)) st
        (λ n k. says_kept _ (type_named_is n st.structs at (lookup st.names m) (known_here n st k m)) (λ b h. may_of_known n st.structs b.ty h))
        (λ c. type_named_is 0 st.structs at (lookup st.names m) (known_here (length st.structs) st c.known m))
    base_does at (s.struct None) g st = gets_refused st
    base_does at (s.struct (Some tag)) g st = parts.type_by p types env consts (struct_tagged at (lookup_tag st.tags tag)) st
        (λ n k. struct_tagged_is n st.structs at (lookup_tag st.tags tag) (lookup_tag_is (NamesStruct n) st.tags tag k.tags))
        (λ c. struct_settled st.structs at (lookup_tag st.tags tag) (lookup_tag_is (NamesStruct (length st.structs)) st.tags tag c.known.tags))
    base_does at (s.struct_of tag groups) g st = ended.struct_does p types env consts at (ends_in_groups groups) tag st (fields env consts at no_fields groups)
        (λ t. parts.plain_kept p types env consts (ends_in_groups groups) t _ (fields_do at no_fields groups g t) (λ n u x k l h. h (none_yet n t.structs)) (λ u x c l h. tt))
    base_does at (s.enum None) g st = gets_refused st
    base_does at (s.enum (Some tag)) g st = parts.type_by p types env consts (enum_tagged at (lookup_tag st.tags tag)) st
        (λ n k. says_kept _ (enum_tagged_is st.structs at (lookup_tag st.tags tag)) (λ b h. may_of_known n st.structs b.ty h)) (λ c. enum_tagged_is st.structs at (lookup_tag st.tags tag))
    base_does at (s.enum_of tag items) g st = parts.type_then p types env consts 0 (ends_in_items items) (ends_in_items items) st _ _ (omega arith) (ended.enum_tag_does p types env consts at tag st)
        (λ z t. parts.type_then p types env consts (ends_in_items items) 0 (ends_in_items items) t _ _ (omega arith) (items_do (pos 0) items g t)
        (λ w u. parts.type_give p types env consts (plain_base (int I16)) u (λ n k h i. may_of_known n u.structs (int I16) (int_known u.structs I16)) (λ c h i. int_known u.structs I16)))

    pub fields_do : (at : Pos) (done : Struct) (gs : s.Groups) → ArePlainGroups gs → (st : State) → Gets (fields env consts at done gs st) (DS (ends_in_groups gs) done st)
    fields_do at done s.no_groups g st = parts.plain_give p types env consts done st (λ n k h. h)
    fields_do at done (s.more_groups (s.type_spec base stars dims is_const) names rest) g st = parts.plain_then p types env consts (ends_in_base base) (ends_in_names names + ends_in_groups rest)
        (ends_in_type (s.type_spec base stars dims is_const) + (ends_in_names names + ends_in_groups rest)) st _ _ (no_dims (ends_in_base base) dims (ends_in_names names + ends_in_groups rest) g.0)
        (ended.plainly p types env consts (ends_in_base base) st _ (base_does at base g.1 st))
        (λ b t. parts.plain_then p types env consts (ends_in_names names) (ends_in_groups rest) (ends_in_names names + ends_in_groups rest) t _ _ refl (names_do at b is_const done names g.2 t)
        (λ more u. parts.plain_kept p types env consts (ends_in_groups rest) u _ (fields_do at more rest g.3 u)
        (λ n v x k l h names_of base_of first. h (names_of base_of.0 (fields_later n st.structs t.structs base_of.1 done first))) (λ v x c l h. tt)))

    pub names_do : (at : Pos) (b : Based) (said : Bool) (done : Struct) (ds : s.Declarators) → NamesHavePlainGroups ds → (st : State)
        → Gets (fields_of env consts at b said done ds st) (Does p types env consts (ends_in_names ds) (λ n t x. MayBase n st.structs b.ty → AreFields n st.structs done → AreFields n t.structs x) Free Untyped st)
    names_do at b said done s.no_declarators g st = parts.plain_give p types env consts done st (λ n k z h. h)
    names_do at b said done (s.more_declarators stars name dims rest) g st = parts.plain_then p types env consts 0 (ends_in_all dims + ends_in_names rest) (ends_in_all dims + ends_in_names rest) st _ _ (omega arith)
        (ended.plainly p types env consts 0 st _ (ended.starred_does p types env consts at stars b st))
        (λ u t1. parts.plain_then p types env consts (ends_in_all dims) (ends_in_names rest) (ends_in_all dims + ends_in_names rest) t1 _ _ refl (ended.plainly p types env consts (ends_in_all dims) t1 _ (lengths_do dims g.0 t1))
        (λ ns t2. parts.plain_then p types env consts 0 (ends_in_names rest) (ends_in_names rest) t2 _ _ (omega arith) (ended.plainly p types env consts 0 t2 _ (ended.dimensioned_does p types env consts at u ns t2))
        (λ v t3. parts.plain_then p types env consts 0 (ends_in_names rest) (ends_in_names rest) t3 _ _ (omega arith)
        (ended.plainly p types env consts 0 t3 _ (field_does at done name v (is_const_at stars said b.is_const) t3))
        (λ more t4. parts.plain_kept p types env consts (ends_in_names rest) t4 _ (names_do at b said more rest g.1 t4)
        (λ n t x k l h field_of dims_of lengths_of stars_of based first. h
        (may_base_later t3.structs t4.structs field_of.1 n b.ty (may_base_later t2.structs t3.structs dims_of.1 n b.ty (may_base_later t1.structs t2.structs lengths_of.1 n b.ty (may_base_later st.structs t1.structs stars_of.1 n b.ty based))))
        (field_of.0 (fields_later n t2.structs t3.structs dims_of.1 done (fields_later n t1.structs t2.structs lengths_of.1 done (fields_later n st.structs t1.structs stars_of.1 done first)))
        (dims_of.0 (may_type_later t1.structs t2.structs lengths_of.1 n u (stars_of.0 based)))))
        (λ t x c l h. tt)))))

    pub items_do : (next : ℤ) (is : s.Items) → ItemsHavePlainGroups is → (st : State) → Gets (enum_items env consts next is st) (Does p types env consts (ends_in_items is) Any Free Untyped st)
    items_do next s.no_items g st = parts.plain_give p types env consts tt st (λ n k. tt)
    items_do next (s.more_items name value at rest) g st = parts.plain_then p types env consts (ends_in_maybe value) (ends_in_items rest) (ends_in_maybe value + ends_in_items rest) st _ _ refl (item_value_does next value g.0 st)
        (λ z t. rule_then (enum_constant at z) t _ (enum_says at z)
        (λ c h. rule_then (new_name at t.first_name t.names name) t _ (says_any _)
        (λ y w. parts.plain_then p types env consts 0 (ends_in_items rest) (ends_in_items rest) t _ _ (omega arith) (ended.name_does p types env consts name c h t)
        (λ x u. parts.plain_kept p types env consts (ends_in_items rest) u _ (items_do (z +ℤ pos 1) rest g.1 u) (λ n v q k l i j m. tt) (λ v q k l i. tt)))))

    pub item_value_does : (next : ℤ) (e : s.MaybeExpr) → MaybeHasPlainGroups e → (st : State) → Gets (item_value env consts next e st) (Does p types env consts (ends_in_maybe e) Any Free Untyped st)
    item_value_does next s.no_expr g st = parts.plain_give p types env consts next st (λ n k. tt)
    item_value_does next (s.some_expr e) g st = parts.plain_then p types env consts (ends_in e) 0 (ends_in e) st _ _ (omega arith) (constant_does (pos_of e) e true g st)
        (λ c t. parts.plain_give p types env consts c.1 t (λ n k h. tt))
