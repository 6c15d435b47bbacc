-- What lists of parts have so far, and what the rest gives.
use Rattle.std.proofs.Common.{◌≡◌, ℕ, ◌+◌, ◌<◌, ◌≤◌, ℤ, pos, ◌+ℤ◌, Bool, true, List, [], ◌∷◌, ◌++◌, length, map, drop, get_or, Option, Ok, Err, ap, sym, ◌∙◌, refl, append_assoc, append-nil}
use Rattle.nm_base.specs.declared.fault.Fault.{Fault}
use Rattle.nm_base.specs.declared.pos.Pos.{Pos}
use Rattle.nesc_core.specs.declared.tree.CoreType as rust_type
use Rattle.nesc_core.specs.declared.tree.CoreExpr as rust_expr
use Rattle.nesc_core.specs.Plain.{Ty, Expr, Exprs, no_exprs, more_exprs}
use Rattle.nesc_core.specs.View.{type_of, expr_of, exprs_of}
use Rattle.nesc_tree.specs.declared.tree.Expr as tree
use Rattle.nesc_tree.specs.declared.tree.Declarator as declarator
use Rattle.nesc_tree.specs.declared.tree.EnumItem as enum_item
use Rattle.nesc_tree.specs.declared.tree.FieldGroup as field_group
use Rattle.nesc_tree.specs.View as from
use Rattle.nesc_tree.specs.View.{Declarator, Group, Item}
use Rattle.nesc_tree.specs.Plain as s
use Rattle.nesc_types.specs.Constant.{pos_of}
use Rattle.nesc_types.specs.Rule.{Rule}
use Rattle.nesc_types.specs.Values.{Constant}
use Rattle.elab_meaning.specs.Answers.{FaultIs}
use Rattle.elab_meaning.specs.Elab.{State, after, by, give, add_name}
use Rattle.elab_meaning.specs.Operators.{Based, array_length, with_field_named, enum_constant, new_name}
use Rattle.elab_meaning.specs.Scope.{Env, Struct, constant}
use Rattle.elab_meaning.specs.Wired.{found, argument, all_arguments, constant_in, lengths, join_exprs, base_of, fields, fields_of, enum_items, item_value, starred, dimensioned, is_const_at}
use Rattle.elab_forms.specs.Parts.{group_of_type, one_group, one_field, one_item, declared}
use Rattle.elab_forms.specs.Trees.{group_of, groups_of, declarator_of, declarators_of, item_of, items_of}
use Rattle.elab_exprs.proofs.Faults.{passes}
use Rattle.elab_forms.proofs.Lists.{next_of}
use Rattle.elab_exprs.proofs.Sizes.{sizes_next, groups_size_next, names_size_next, items_size_next}
use Rattle.elab_exprs.proofs.Steps.{drop-past, after-after, after-same}

-- ---- arguments

join_exprs-more : (xs : Exprs) (x : Expr) (ys : Exprs) → join_exprs xs (more_exprs x ys) ≡ join_exprs (join_exprs xs (more_exprs x no_exprs)) ys
join_exprs-more no_exprs x ys = refl
join_exprs-more (more_exprs e es) x ys = ap (more_exprs e) (join_exprs-more es x ys)

join_exprs-end : (xs : Exprs) → join_exprs xs no_exprs ≡ xs
join_exprs-end no_exprs = refl
join_exprs-end (more_exprs e es) = ap (more_exprs e) (join_exprs-end es)

exprs_of-end : (es : List rust_expr.CoreExpr) (e : rust_expr.CoreExpr) → exprs_of (es ++ (e ∷ [])) ≡ join_exprs (exprs_of es) (more_exprs (expr_of e) no_exprs)
exprs_of-end [] e = refl
exprs_of-end (x ∷ es) e = ap (more_exprs (expr_of x)) (exprs_of-end es e)

abbrev pub joined : Exprs → Exprs → State → Rule (Exprs × State)
joined values xs st = Ok (join_exprs values xs, st)

joined-none : (r : Rule (Exprs × State)) → r ≡ after r (joined no_exprs)
joined-none (Ok p) = refl
joined-none (Err e) = refl

move_one : (values : Exprs) (x : Expr) (r : Rule (Exprs × State)) → after (after r (λ xs. give (more_exprs x xs))) (joined values) ≡ after r (joined (join_exprs values (more_exprs x no_exprs)))
move_one values x (Ok p) = ap (λ ys. Ok (ys, p.1)) (join_exprs-more values x p.0)
move_one values x (Err e) = refl

module _ (env : Env) (given : List (Option Constant)) where
  pub arguments_begin : (ts : List Ty) (args : List tree.Expr) (st : State)
      → all_arguments env given ts (from.exprs_of args) st
      ≡ after (all_arguments env given ts (from.exprs_of (drop 0 args)) st) (joined no_exprs)
  arguments_begin ts args st = joined-none (all_arguments env given ts (from.exprs_of args) st)

module _ (env : Env) (given : List (Option Constant)) (whole : Rule (Exprs × State)) (values : List rust_expr.CoreExpr) (args : List tree.Expr) where
  pub argument_passed : (params rest : List rust_type.CoreType) (t : rust_type.CoreType) (i : ℕ) (d : tree.Expr) (st st1 : State) (x : rust_expr.CoreExpr) (more : List rust_expr.CoreExpr)
      → whole ≡ after (all_arguments env given (map type_of params) (from.exprs_of (drop i args)) st) (joined (exprs_of values))
      → params ≡ t ∷ rest → i < length args → d ≡ get_or args i d
      → argument (type_of t) (from.expr_of d) (found env given (from.expr_of d)) st ≡ Ok (expr_of x, st1)
      → more ≡ values ++ (x ∷ [])
      → whole ≡ after (all_arguments env given (map type_of rest) (from.exprs_of (drop (i + 1) args)) st1) (joined (exprs_of more))
  argument_passed params rest t i d st st1 x more is p h isd e m =
      is
      ∙ ap (λ ps. after (all_arguments env given (map type_of ps) (from.exprs_of (drop i args)) st) (joined (exprs_of values))) p
      ∙ ap (λ es. after (all_arguments env given (map type_of (t ∷ rest)) (from.exprs_of es) st) (joined (exprs_of values))) (next_of args i d h isd)
      ∙ ap (λ r. after (after r (λ y. λ s1. after (all_arguments env given (map type_of rest) (from.exprs_of (drop (i + 1) args)) s1) (λ xs. give (more_exprs y xs)))) (joined (exprs_of values))) e
      ∙ move_one (exprs_of values) (expr_of x) (all_arguments env given (map type_of rest) (from.exprs_of (drop (i + 1) args)) st1)
      ∙ ap (λ ys. after (all_arguments env given (map type_of rest) (from.exprs_of (drop (i + 1) args)) st1) (joined ys)) (sym (exprs_of-end values x))
      ∙ ap (λ ys. after (all_arguments env given (map type_of rest) (from.exprs_of (drop (i + 1) args)) st1) (joined (exprs_of ys))) (sym m)

  pub argument_failed : (params rest : List rust_type.CoreType) (t : rust_type.CoreType) (i : ℕ) (d : tree.Expr) (st : State) (e : Fault)
      → whole ≡ after (all_arguments env given (map type_of params) (from.exprs_of (drop i args)) st) (joined (exprs_of values))
      → params ≡ t ∷ rest → i < length args → d ≡ get_or args i d
      → FaultIs e (argument (type_of t) (from.expr_of d) (found env given (from.expr_of d)) st)
      → FaultIs e whole
  argument_failed params rest t i d st e is p h isd f =
      let same = is
      ∙ ap (λ ps. after (all_arguments env given (map type_of ps) (from.exprs_of (drop i args)) st) (joined (exprs_of values))) p
      ∙ ap (λ es. after (all_arguments env given (map type_of (t ∷ rest)) (from.exprs_of es) st) (joined (exprs_of values))) (next_of args i d h isd) in
      rw same (passes e _ _ (passes e _ _ f))

  pub arguments_end : (params : List rust_type.CoreType) (i : ℕ) (st : State)
      → whole ≡ after (all_arguments env given (map type_of params) (from.exprs_of (drop i args)) st) (joined (exprs_of values))
      → length args ≤ i → whole ≡ Ok (exprs_of values, st)
  arguments_end [] i st is h = is ∙ ap (λ xs. Ok (xs, st)) (join_exprs-end (exprs_of values))
  arguments_end (t ∷ ts) i st is h =
      is ∙ ap (λ es. after (all_arguments env given (map type_of (t ∷ ts)) (from.exprs_of es) st) (joined (exprs_of values))) (drop-past args i h)
      ∙ ap (λ xs. Ok (xs, st)) (join_exprs-end (exprs_of values))

  pub arguments_short : (params : List rust_type.CoreType) (i : ℕ) (st : State)
      → whole ≡ after (all_arguments env given (map type_of params) (from.exprs_of (drop i args)) st) (joined (exprs_of values))
      → params ≡ [] → whole ≡ Ok (exprs_of values, st)
  arguments_short params i st is p =
      is ∙ ap (λ ps. after (all_arguments env given (map type_of ps) (from.exprs_of (drop i args)) st) (joined (exprs_of values))) p
      ∙ ap (λ xs. Ok (xs, st)) (join_exprs-end (exprs_of values))

-- ---- lengths

abbrev pub behind : List ℕ → List ℕ → State → Rule (List ℕ × State)
behind ns more st = Ok (ns ++ more, st)

behind-none : (r : Rule (List ℕ × State)) → r ≡ after r (behind [])
behind-none (Ok p) = refl
behind-none (Err e) = refl

move_length : (ns : List ℕ) (n : ℕ) (r : Rule (List ℕ × State)) → after (after r (λ more. give (n ∷ more))) (behind ns) ≡ after r (behind (ns ++ (n ∷ [])))
move_length ns n (Ok p) = ap (λ ys. Ok (ys, p.1)) (sym (append_assoc ns (n ∷ []) p.0))
move_length ns n (Err e) = refl

module _ (env : Env) (given : List (Option Constant)) where
  abbrev pub one_length : s.Expr → State → Rule (ℕ × State)
  one_length e st = after (constant_in env given (pos_of e) e true st) (λ c. by (array_length (pos_of e) c.1))

  lengths-more : (e : s.Expr) (es : s.Exprs) (st : State)
      → lengths env given (s.more_exprs e es) st ≡ after (one_length e st) (λ n. λ s1. after (lengths env given es s1) (λ ns. give (n ∷ ns)))
  lengths-more e es st = after-after (constant_in env given (pos_of e) e true st) (λ c. by (array_length (pos_of e) c.1)) (λ n. λ s1. after (lengths env given es s1) (λ ns. give (n ∷ ns)))

  pub lengths_begin : (dims : List tree.Expr) (st : State)
      → lengths env given (from.exprs_of dims) st ≡ after (lengths env given (from.exprs_of (drop 0 dims)) st) (behind [])
  lengths_begin dims st = behind-none (lengths env given (from.exprs_of dims) st)

  pub length_passed : (whole : Rule (List ℕ × State)) (ns more : List ℕ) (dims : List tree.Expr) (i : ℕ) (d : tree.Expr) (st st1 : State) (n : ℕ)
      → whole ≡ after (lengths env given (from.exprs_of (drop i dims)) st) (behind ns)
      → i < length dims → d ≡ get_or dims i d → one_length (from.expr_of d) st ≡ Ok (n, st1) → more ≡ ns ++ (n ∷ [])
      → whole ≡ after (lengths env given (from.exprs_of (drop (i + 1) dims)) st1) (behind more)
  length_passed whole ns more dims i d st st1 n is h isd e m =
      is
      ∙ ap (λ es. after (lengths env given (from.exprs_of es) st) (behind ns)) (next_of dims i d h isd)
      ∙ ap (λ r. after r (behind ns)) (lengths-more (from.expr_of d) (from.exprs_of (drop (i + 1) dims)) st)
      ∙ ap (λ r. after (after r (λ n. λ s1. after (lengths env given (from.exprs_of (drop (i + 1) dims)) s1) (λ ns. give (n ∷ ns)))) (behind ns)) e
      ∙ move_length ns n (lengths env given (from.exprs_of (drop (i + 1) dims)) st1)
      ∙ ap (λ ys. after (lengths env given (from.exprs_of (drop (i + 1) dims)) st1) (behind ys)) (sym m)

  pub length_failed : (whole : Rule (List ℕ × State)) (ns : List ℕ) (dims : List tree.Expr) (i : ℕ) (d : tree.Expr) (st : State) (e : Fault)
      → whole ≡ after (lengths env given (from.exprs_of (drop i dims)) st) (behind ns)
      → i < length dims → d ≡ get_or dims i d → FaultIs e (one_length (from.expr_of d) st) → FaultIs e whole
  length_failed whole ns dims i d st e is h isd f =
      let same = is
      ∙ ap (λ es. after (lengths env given (from.exprs_of es) st) (behind ns)) (next_of dims i d h isd)
      ∙ ap (λ r. after r (behind ns)) (lengths-more (from.expr_of d) (from.exprs_of (drop (i + 1) dims)) st) in
      rw same (passes e _ _ (passes e _ _ f))

  pub lengths_end : (whole : Rule (List ℕ × State)) (ns : List ℕ) (dims : List tree.Expr) (i : ℕ) (st : State)
      → whole ≡ after (lengths env given (from.exprs_of (drop i dims)) st) (behind ns)
      → length dims ≤ i → whole ≡ Ok (ns, st)
  lengths_end whole ns dims i st is h =
      is ∙ ap (λ es. after (lengths env given (from.exprs_of es) st) (behind ns)) (drop-past dims i h)
      ∙ ap (λ xs. Ok (xs, st)) (append-nil ns)

  -- ---- groups of fields

  typed_fields-more : (at : Pos) (made : Struct) (t : s.TypeSpec) (names : s.Declarators) (xs : s.Groups) (st : State)
      → fields env given at made (s.more_groups t names xs) st ≡ after (group_of_type env given at made t names st) (λ more. fields env given at more xs)
  typed_fields-more at made (s.type_spec base stars dims is_const) names xs st = after-after (base_of env given at base st) (λ b. fields_of env given at b is_const made names) (λ more. fields env given at more xs)

  fields-more : (at : Pos) (made : Struct) (x : Group) (xs : s.Groups) (st : State)
      → fields env given at made (s.more_groups x.0 x.1 xs) st ≡ after (one_group env given at made x st) (λ more. fields env given at more xs)
  fields-more at made x xs st = typed_fields-more at made x.0 x.1 xs st

  pub group_passed : (at : Pos) (made made1 : Struct) (gs : List field_group.FieldGroup) (i : ℕ) (d : field_group.FieldGroup) (st st1 : State) (whole : Rule (Struct × State))
      → whole ≡ fields env given at made (groups_of (drop i gs)) st → i < length gs → d ≡ get_or gs i d
      → one_group env given at made (group_of d) st ≡ Ok (made1, st1)
      → whole ≡ fields env given at made1 (groups_of (drop (i + 1) gs)) st1
  group_passed at made made1 gs i d st st1 whole is h isd e =
      is
      ∙ ap (λ xs. fields env given at made (groups_of xs) st) (next_of gs i d h isd)
      ∙ fields-more at made (group_of d) (groups_of (drop (i + 1) gs)) st
      ∙ ap (λ r. after r (λ more. fields env given at more (groups_of (drop (i + 1) gs)))) e

  pub group_failed : (at : Pos) (made : Struct) (gs : List field_group.FieldGroup) (i : ℕ) (d : field_group.FieldGroup) (st : State) (e : Fault) (whole : Rule (Struct × State))
      → whole ≡ fields env given at made (groups_of (drop i gs)) st → i < length gs → d ≡ get_or gs i d
      → FaultIs e (one_group env given at made (group_of d) st) → FaultIs e whole
  group_failed at made gs i d st e whole is h isd f =
      let same = is
      ∙ ap (λ xs. fields env given at made (groups_of xs) st) (next_of gs i d h isd)
      ∙ fields-more at made (group_of d) (groups_of (drop (i + 1) gs)) st in
      rw same (passes e _ _ f)

  pub groups_end : (at : Pos) (made : Struct) (gs : List field_group.FieldGroup) (i : ℕ) (st : State) (whole : Rule (Struct × State))
      → whole ≡ fields env given at made (groups_of (drop i gs)) st → length gs ≤ i → whole ≡ Ok (made, st)
  groups_end at made gs i st whole is h = is ∙ ap (λ xs. fields env given at made (groups_of xs) st) (drop-past gs i h)

  -- ---- fields that share a base

  fields_of-more : (at : Pos) (b : Based) (said : Bool) (made : Struct) (x : Declarator) (xs : s.Declarators) (st : State)
      → fields_of env given at b said made (s.more_declarators x.0 x.1 x.2 xs) st ≡ after (one_field env given at b said made x st) (λ more. fields_of env given at b said more xs)
  fields_of-more at b said made x xs st =
      let named : Ty → State → Rule (Struct × State) = λ t. λ s1. by (with_field_named s1.structs at made x.1 t (is_const_at x.0 said b.is_const)) s1 in
      let sized : Ty → List ℕ → State → Rule (Struct × State) = λ p. λ ns. λ s1. after (dimensioned at p ns s1) named in
      let starting : Ty → State → Rule (Struct × State) = λ p. λ s1. after (lengths env given x.2 s1) (sized p) in
      let next : Struct → State → Rule (Struct × State) = λ more. fields_of env given at b said more xs in
      let sized-last : Ty → List ℕ → State → Rule (Struct × State) = λ p. λ ns. λ s1. after (dimensioned at p ns s1) (λ t. λ s2. after (named t s2) next) in
      after-same (starred at x.0 b st) (λ p. λ s1. after (lengths env given x.2 s1) (sized-last p)) (λ p. λ s1. after (starting p s1) next)
      (λ p. λ s1. after-same (lengths env given x.2 s1) (sized-last p) (λ ns. λ s2. after (sized p ns s2) next) (λ ns. λ s2. after-after (dimensioned at p ns s2) named next)
      ∙ after-after (lengths env given x.2 s1) (sized p) next)
      ∙ after-after (starred at x.0 b st) starting next

  pub field_passed : (at : Pos) (b : Based) (said : Bool) (made made1 : Struct) (ds : List declarator.Declarator) (i : ℕ) (d : declarator.Declarator) (st st1 : State) (whole : Rule (Struct × State))
      → whole ≡ fields_of env given at b said made (declarators_of (drop i ds)) st → i < length ds → d ≡ get_or ds i d
      → one_field env given at b said made (declarator_of d) st ≡ Ok (made1, st1)
      → whole ≡ fields_of env given at b said made1 (declarators_of (drop (i + 1) ds)) st1
  field_passed at b said made made1 ds i d st st1 whole is h isd e =
      is
      ∙ ap (λ xs. fields_of env given at b said made (declarators_of xs) st) (next_of ds i d h isd)
      ∙ fields_of-more at b said made (declarator_of d) (declarators_of (drop (i + 1) ds)) st
      ∙ ap (λ r. after r (λ more. fields_of env given at b said more (declarators_of (drop (i + 1) ds)))) e

  pub field_failed : (at : Pos) (b : Based) (said : Bool) (made : Struct) (ds : List declarator.Declarator) (i : ℕ) (d : declarator.Declarator) (st : State) (e : Fault) (whole : Rule (Struct × State))
      → whole ≡ fields_of env given at b said made (declarators_of (drop i ds)) st → i < length ds → d ≡ get_or ds i d
      → FaultIs e (one_field env given at b said made (declarator_of d) st) → FaultIs e whole
  field_failed at b said made ds i d st e whole is h isd f =
      let same = is
      ∙ ap (λ xs. fields_of env given at b said made (declarators_of xs) st) (next_of ds i d h isd)
      ∙ fields_of-more at b said made (declarator_of d) (declarators_of (drop (i + 1) ds)) st in
      rw same (passes e _ _ f)

  pub fields_end : (at : Pos) (b : Based) (said : Bool) (made : Struct) (ds : List declarator.Declarator) (i : ℕ) (st : State) (whole : Rule (Struct × State))
      → whole ≡ fields_of env given at b said made (declarators_of (drop i ds)) st → length ds ≤ i → whole ≡ Ok (made, st)
  fields_end at b said made ds i st whole is h = is ∙ ap (λ xs. fields_of env given at b said made (declarators_of xs) st) (drop-past ds i h)

  -- ---- enum constants

  items-more : (next : ℤ) (x : Item) (xs : s.Items) (st : State)
      → enum_items env given next (s.more_items x.0 x.1 x.2 xs) st ≡ after (one_item env given next x st) (λ z. enum_items env given z xs)
  items-more next x xs st =
      let rest : ℤ → State → Rule (Unit {0} × State) = λ z. enum_items env given z xs in
      let named : ℤ → Constant → State → Rule (Unit {0} × State) = λ z. λ c. λ s1. by (new_name x.2 s1.first_name s1.names x.0) s1 in
      let added : ℤ → Constant → Unit {0} → State → Rule (ℤ × State) = λ z. λ c. λ u. λ s1. after (add_name x.0 (constant c.0 c.1) s1) (λ _. give (z +ℤ pos 1)) in
      let new : ℤ → Constant → State → Rule (ℤ × State) = λ z. λ c. λ s1. after (named z c s1) (added z c) in
      after-same (item_value env given next x.1 st)
      (λ z. λ s1. after (by (enum_constant x.2 z) s1) (λ c. λ s2. after (named z c s2) (λ u. λ s3. after (added z c u s3) rest)))
      (λ z. λ s1. after (declared x.2 x.0 z s1) rest)
      (λ z. λ s1. after-same (by (enum_constant x.2 z) s1)
      (λ c. λ s2. after (named z c s2) (λ u. λ s3. after (added z c u s3) rest))
      (λ c. λ s2. after (new z c s2) rest)
      (λ c. λ s2. after-after (named z c s2) (added z c) rest)
      ∙ after-after (by (enum_constant x.2 z) s1) (new z) rest)
      ∙ after-after (item_value env given next x.1 st) (λ z. declared x.2 x.0 z) rest

  pub item_passed : (next next1 : ℤ) (xs : List enum_item.EnumItem) (i : ℕ) (d : enum_item.EnumItem) (st st1 : State) (whole : Rule (Unit {0} × State))
      → whole ≡ enum_items env given next (items_of (drop i xs)) st → i < length xs → d ≡ get_or xs i d
      → one_item env given next (item_of d) st ≡ Ok (next1, st1)
      → whole ≡ enum_items env given next1 (items_of (drop (i + 1) xs)) st1
  item_passed next next1 xs i d st st1 whole is h isd e =
      is
      ∙ ap (λ ys. enum_items env given next (items_of ys) st) (next_of xs i d h isd)
      ∙ items-more next (item_of d) (items_of (drop (i + 1) xs)) st
      ∙ ap (λ r. after r (λ z. enum_items env given z (items_of (drop (i + 1) xs)))) e

  pub item_failed : (next : ℤ) (xs : List enum_item.EnumItem) (i : ℕ) (d : enum_item.EnumItem) (st : State) (e : Fault) (whole : Rule (Unit {0} × State))
      → whole ≡ enum_items env given next (items_of (drop i xs)) st → i < length xs → d ≡ get_or xs i d
      → FaultIs e (one_item env given next (item_of d) st) → FaultIs e whole
  item_failed next xs i d st e whole is h isd f =
      let same = is
      ∙ ap (λ ys. enum_items env given next (items_of ys) st) (next_of xs i d h isd)
      ∙ items-more next (item_of d) (items_of (drop (i + 1) xs)) st in
      rw same (passes e _ _ f)

  pub items_end : (next : ℤ) (xs : List enum_item.EnumItem) (i : ℕ) (st : State) (whole : Rule (Unit {0} × State))
      → whole ≡ enum_items env given next (items_of (drop i xs)) st → length xs ≤ i → whole ≡ Ok (tt, st)
  items_end next xs i st whole is h = is ∙ ap (λ ys. enum_items env given next (items_of ys) st) (drop-past xs i h)

pub ruleset argument_lists = (arguments_begin, argument_passed, argument_failed, arguments_end, arguments_short, sizes_next)

pub ruleset length_lists = (lengths_begin, length_passed, length_failed, lengths_end, sizes_next)

pub ruleset group_lists = (group_passed, group_failed, groups_end, groups_size_next)

pub ruleset field_lists = (field_passed, field_failed, fields_end, names_size_next)

pub ruleset item_lists = (item_passed, item_failed, items_end, items_size_next)
