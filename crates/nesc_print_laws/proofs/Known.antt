-- What tokens spell is printed so that it is read again: expressions and types.
use Rattle.std.proofs.Common.{◌≡◌, ℕ, zero, suc, Bool, true, false, cond, List, [], ◌∷◌, ◌++◌, map, Option, Some, None, refl, sym, ap, subst, ◌∙◌}
use Rattle.std.proofs.lemmas.List.{map-append}
use Rattle.std.specs.Prelude.{codes, option_map, max}
use Rattle.nm_base.specs.declared.pos.Pos.{Pos}
use Rattle.nm_base.specs.declared.token.Token.{Token}
use Rattle.nesc_tree.specs.declared.sorts.Sort.{Sort}
use Rattle.nesc_tree.specs.declared.sorts.Sort.TheVariants as s
use Rattle.nesc_tree.specs.declared.tree.InOp.{InOp}
use Rattle.nesc_tree.specs.declared.tree.InOp.TheVariants as op
use Rattle.nesc_tree.specs.declared.tree.Expr as tree
use Rattle.nesc_tree.specs.declared.tree.Base as base
use Rattle.nesc_tree.specs.declared.tree.EnumItem.{EnumItem}
use Rattle.nesc_tree.specs.declared.tree.Declarator.{Declarator}
use Rattle.nesc_tree.specs.declared.tree.FieldGroup.{FieldGroup}
use Rattle.nesc_tree.specs.declared.operand.Operand.{Operand}
use Rattle.nesc_tree.specs.declared.operand.Arguments.{Arguments}
use Rattle.nesc_tree.specs.declared.operand.CastType.{CastType}
use Rattle.nesc_tree.specs.declared.operand.Dims.{Dims}
use Rattle.nesc_tree.specs.declared.operand.Declared.{Declared}
use Rattle.nesc_tree.specs.declared.operand.Declarators.{Declarators}
use Rattle.nesc_tree.specs.declared.operand.Fields.{Fields}
use Rattle.nesc_tree.specs.declared.operand.Grouped.{Grouped}
use Rattle.nesc_tree.specs.declared.operand.Item.{Item}
use Rattle.nesc_tree.specs.declared.operand.Items.{Items}
use Rattle.nesc_tree.specs.declared.operand.Qualifiers.{Qualifiers}
use Rattle.nesc_tree.specs.Plain as p
use Rattle.nesc_tree.specs.View.{expr_of, spec_of, base_of, exprs, declarators, groups, items}
use Rattle.nesc_tree.specs.Sorts.{Names}
use Rattle.nesc_tree.specs.Phrase.{Phrase, Of, begins_type}
use Rattle.nesc_tree.specs.Form.{Form, Place, Spells, SpellsIn}
use Rattle.nesc_grammar.specs.Production.{production}
use Rattle.nesc_grammar.specs.Grammar as gr
use Rattle.nesc_grammar.specs.Grammar.{Growth, grown, operation, primary, admits_cast}
use Rattle.nesc_print_words.specs.Trees.{item_of, declarator_of, group_of}
use Rattle.nesc_print_laws.proofs.Yields.{Yields, Quiet, y_token, y_none, y_seq, y_map, y_by, y_maybe, y_many, y_loop, y_when, y_if, y_one, y_name, word_known, type_known}
use Rattle.nesc_print_laws.proofs.Names.{IsName}
use Rattle.nesc_print_laws.proofs.Runs.{Bare}
use Rattle.nesc_print_laws.proofs.Views as view
use Rattle.nesc_print_laws.proofs.Exprs
use Rattle.nesc_print_laws.proofs.Exprs.{IsAssignment, two}
use Rattle.nesc_print_laws.proofs.Calls
use Rattle.nesc_print_laws.proofs.Calls.{All, Maybe}
use Rattle.nesc_print_laws.proofs.Sizes
use Rattle.nesc_print_laws.proofs.Types
use Rattle.nesc_print_laws.proofs.Types.{Basic}
use Rattle.nesc_print_laws.proofs.Fields as f
use Rattle.nesc_print_laws.proofs.Fields.{Shape, Group, Constant, Declares, Groups, Constants, Tagged}

-- ---- the operator of an assignment

either_way : {b c : Option InOp} (x : Bool) → IsAssignment b → IsAssignment c → IsAssignment (cond x b c)
either_way true g h = g
either_way false g h = h

plain_assignment : IsAssignment None
unfolding gr.assignment_of
plain_assignment t h = rw h refl

mul_assignment : IsAssignment (Some op.Mul)
unfolding gr.assignment_of
mul_assignment t h = rw h refl

div_assignment : IsAssignment (Some op.Div)
unfolding gr.assignment_of
div_assignment t h = rw h refl

rem_assignment : IsAssignment (Some op.Rem)
unfolding gr.assignment_of
rem_assignment t h = rw h refl

add_assignment : IsAssignment (Some op.Add)
unfolding gr.assignment_of
add_assignment t h = rw h refl

sub_assignment : IsAssignment (Some op.Sub)
unfolding gr.assignment_of
sub_assignment t h = rw h refl

shl_assignment : IsAssignment (Some op.Shl)
unfolding gr.assignment_of
shl_assignment t h = rw h refl

shr_assignment : IsAssignment (Some op.Shr)
unfolding gr.assignment_of
shr_assignment t h = rw h refl

and_assignment : IsAssignment (Some op.And)
unfolding gr.assignment_of
and_assignment t h = rw h refl

xor_assignment : IsAssignment (Some op.Xor)
unfolding gr.assignment_of
xor_assignment t h = rw h refl

or_assignment : IsAssignment (Some op.Or)
unfolding gr.assignment_of
or_assignment t h = rw h refl

assignment_known : (t : Token) → IsAssignment (gr.assignment_of t)
unfolding gr.assignment_of
assignment_known t = either_way (gr.spelled t (codes "=")) plain_assignment (either_way (gr.spelled t (codes "*=")) mul_assignment (either_way (gr.spelled t (codes "/=")) div_assignment (either_way (gr.spelled t (codes "%=")) rem_assignment
    (either_way (gr.spelled t (codes "+=")) add_assignment (either_way (gr.spelled t (codes "-=")) sub_assignment (either_way (gr.spelled t (codes "<<=")) shl_assignment (either_way (gr.spelled t (codes ">>=")) shr_assignment
    (either_way (gr.spelled t (codes "&=")) and_assignment (either_way (gr.spelled t (codes "^=")) xor_assignment or_assignment)))))))))

-- ---- what is known of trees

pub all_pushed : {X : Type 0} (P : X → Type 0) (xs : List X) (x : X) → All P xs → P x → All P (xs ++ (x ∷ []))
all_pushed P [] x h k = (k, tt)
all_pushed P (y ∷ xs) x h k = (h.0, all_pushed P xs x h.1 k)

module _ (ns : Names) where
  abbrev pub Fine : tree.Expr → Type 0
  Fine e = Bare ns (expr_of e)

  abbrev pub FineAll : List tree.Expr → Type 0
  FineAll l = All (Bare ns) (map expr_of l)

  -- a type without stars and dimensions
  pub record FineType (t : CastType) : Type 0 where
    pub basic : Basic ns (base_of t.ty.base)
    pub stars : t.ty.stars ≡ 0
    pub dims : t.ty.dims ≡ []

  -- a type with stars
  pub record FineCast (t : CastType) : Type 0 where
    pub basic : Basic ns (base_of t.ty.base)
    pub dims : t.ty.dims ≡ []

  pub record FineDeclarator (d : Declarator) : Type 0 where
    pub is_name : IsName d.name
    pub dims : FineAll d.dims

  pub record FineGroups (l : List FieldGroup) : Type 0 where
    pub shapes : List Group
    pub are : map group_of l ≡ map f.group_shape shapes
    pub fine : All (Groups ns) shapes

  -- one at least
  pub record FineItems (l : List EnumItem) : Type 0 where
    pub first : Constant
    pub others : List Constant
    pub are : map item_of l ≡ map f.constant_of (first ∷ others)
    pub fine : All (Constants ns) (first ∷ others)

  unfoldable pub Law : (k : Phrase) → Of k → Place → Type 0
  Law (Phrase.expr m) a q = Quiet ns (λ (a : Operand). Fine a.expr) a q
  Law Phrase.opened a q = Quiet ns (λ (a : Token → Operand). (t : Token) → Fine (a t).expr) a q
  Law Phrase.fields a q = Quiet ns (λ (a : Fields). FineGroups a.groups) a q
  Law Phrase.pointers a q = Quiet ns (λ (n : ℕ). Unit {0}) a q
  Law Phrase.type a q = Quiet ns FineType a q
  Law _ a q = Unit {0}

fine_pushed : (ns : Names) (l : List tree.Expr) (a : tree.Expr) → FineAll ns l → Fine ns a → FineAll ns (l ++ (a ∷ []))
fine_pushed ns l a h k = subst (All (Bare ns)) (sym (map-append expr_of l (a ∷ []))) (all_pushed (Bare ns) (map expr_of l) (expr_of a) h k)

known : {ns : Names} (e : tree.Expr) {x : p.Expr} → expr_of e ≡ x → Bare ns x → Fine ns e
known {ns} e h b = subst (Bare ns) (sym h) b

known_base : {ns : Names} (e : base.Base) {x : p.Base} → base_of e ≡ x → Basic ns x → Basic ns (base_of e)
known_base {ns} e h b = subst (Basic ns) (sym h) b

-- ---- each node

module _ (ns : Names) where
  plain_fine : (b : base.Base) (n : ℕ) (from : Pos) → Basic ns (base_of b) → FineType ns (gr.plain b n from)
  plain_fine b n from h = record { basic = h; stars = refl; dims = refl }

  int_fine : (t : Rattle.nm_base.specs.declared.int_type.IntType.IntType) (n : ℕ) (from : Pos) → FineType ns (gr.plain (base.Int t) n from)
  int_fine t n from = plain_fine (base.Int t) n from (known_base (base.Int t) (view.int_base t) (Types.basic_int t))

  struct_fine : (tag : Option (List ℕ)) (l : Fields) (o : Token) → Tagged tag → FineGroups ns l.groups → FineType ns (gr.struct_type tag (Some l) o)
  struct_fine tag l o h g = plain_fine (base.Struct tag (Some l.groups)) l.height o.pos (known_base (base.Struct tag (Some l.groups)) (view.struct_of_base tag l.groups ∙ ap (λ x. p.struct_of tag (groups x)) g.are) (f.basic_struct_of tag g.shapes h g.fine))

  abbrev SomeFields : Option Fields → Type 0
  SomeFields None = Unit {0}
  SomeFields (Some l) = FineGroups ns l.groups

  some_struct : (n : List ℕ) (l : Option Fields) (o : Token) → IsName n → SomeFields l → FineType ns (gr.struct_type (Some n) l o)
  some_struct n None o h g = plain_fine (base.Struct (Some n) None) 0 o.pos (known_base (base.Struct (Some n) None) (view.struct_base (Some n)) (Types.basic_struct n h))
  some_struct n (Some l) o h g = struct_fine (Some n) l o h g

  enum_fine : (tag : Option (List ℕ)) (l : Items) (o : Token) → Tagged tag → FineItems ns l.items → FineType ns (gr.enum_type tag (Some l) o)
  enum_fine tag l o h g = plain_fine (base.Enum tag (Some l.items)) l.height o.pos (known_base (base.Enum tag (Some l.items)) (view.enum_of_base tag l.items ∙ ap (λ x. p.enum_of tag (items x)) g.are) (f.basic_enum_of tag g.first g.others h g.fine))

  abbrev SomeItems : Option Items → Type 0
  SomeItems None = Unit {0}
  SomeItems (Some l) = FineItems ns l.items

  some_enum : (n : List ℕ) (l : Option Items) (o : Token) → IsName n → SomeItems l → FineType ns (gr.enum_type (Some n) l o)
  some_enum n None o h g = plain_fine (base.Enum (Some n) None) 0 o.pos (known_base (base.Enum (Some n) None) (view.enum_base (Some n)) (Types.basic_enum n h))
  some_enum n (Some l) o h g = enum_fine (Some n) l o h g

  type_of_fine : (u : Qualifiers) (t : CastType) (v : Qualifiers) → FineType ns t → FineType ns (gr.type_of u t v)
  type_of_fine u t v h = record { basic = h.basic; stars = h.stars; dims = h.dims }

  pointer_fine : (t : CastType) (n : ℕ) → FineType ns t → FineCast ns (gr.pointer t n)
  pointer_fine t n h = record { basic = h.basic; dims = h.dims }

  item_fine : (t : Token) (o : Option Operand) → IsName t.text → Maybe ns (option_map expr_of (gr.value_of o)) → (m : Constant) × (item_of (gr.item_of t o).item ≡ f.constant_of m) × Constants ns m
  item_fine t o h g = (record { name = t.text; value = option_map expr_of (gr.value_of o); at = t.pos }, view.item_view (gr.item_of t o).item, record { is_name = h; value = g })

  abbrev FineItem : Item → Type 0
  FineItem m = (c : Constant) × (item_of m.item ≡ f.constant_of c) × Constants ns c

  abbrev SomeItem : Option Item → Type 0
  SomeItem None = Unit {0}
  SomeItem (Some m) = FineItem m

  first_fine : (m : Item) → FineItem m → FineItems ns (gr.first_item m).items
  first_fine m h = record { first = h.0; others = []; are = ap (λ x. x ∷ []) h.1; fine = (h.2, tt) }

  more_fine : (o : Option Item) (l : Items) → SomeItem o → FineItems ns l.items → FineItems ns (gr.more_items o l).items
  more_fine None l h g = g
  more_fine (Some m) l h g = record {
    first = g.first;
    others = g.others ++ (h.0 ∷ []);
    are = map-append item_of l.items (m.item ∷ []) ∙ (two (λ x y. x ++ (y ∷ [])) g.are h.1 ∙ ap (λ xs. f.constant_of g.first ∷ xs) (sym (map-append f.constant_of g.others (h.0 ∷ []))));
    fine = (g.fine.0, all_pushed (Constants ns) g.others h.0 g.fine.1 h.2);
  }

  declared_fine : (t : Token) (l : Dims) (n : ℕ) → IsName t.text → FineAll ns l.exprs → FineDeclarator ns (gr.declared t l n).declarator
  declared_fine t l n h g = record { is_name = h; dims = g }

  -- declarators, one at least
  record FineDeclarators (l : List Declarator) : Type 0 where
    first : Shape
    others : List Shape
    are : map declarator_of l ≡ map f.shape_of (first ∷ others)
    fine : All (Declares ns) (first ∷ others)

  shape : Declarator → Shape
  shape d = record { stars = d.stars; name = d.name; dims = map expr_of d.dims }

  shape_is : (d : Declarator) → declarator_of d ≡ f.shape_of (shape d)
  unfolding shape
  shape_is d = view.declarator_view d

  shape_fine : (d : Declarator) → FineDeclarator ns d → Declares ns (shape d)
  unfolding shape
  shape_fine d h = record { is_name = h.is_name; dims = h.dims }

  first_declarator_fine : (d : Declared) → FineDeclarator ns d.declarator → FineDeclarators (gr.first_declarator d).list
  first_declarator_fine d h = record { first = shape d.declarator; others = []; are = ap (λ x. x ∷ []) (shape_is d.declarator); fine = (shape_fine d.declarator h, tt) }

  more_declarators_fine : (d : Declared) (l : Declarators) → FineDeclarator ns d.declarator → FineDeclarators l.list → FineDeclarators (gr.more_declarators d l).list
  more_declarators_fine d l h g = record {
    first = g.first;
    others = g.others ++ (shape d.declarator ∷ []);
    are = map-append declarator_of l.list (d.declarator ∷ []) ∙ (two (λ x y. x ++ (y ∷ [])) g.are (shape_is d.declarator) ∙ ap (λ xs. f.shape_of g.first ∷ xs) (sym (map-append f.shape_of g.others (shape d.declarator ∷ []))));
    fine = (g.fine.0, all_pushed (Declares ns) g.others (shape d.declarator) g.fine.1 (shape_fine d.declarator h));
  }

  abbrev FineField : FieldGroup → Type 0
  FineField g = (x : Group) × (group_of g ≡ f.group_shape x) × Groups ns x

  field_fine : (t : CastType) (l : Declarators) → FineType ns t → FineDeclarators l.list → FineField (gr.field_group t l).group
  field_fine t l h g = (
    record { base = base_of t.ty.base; is_const = t.ty.is_const; first = g.first; others = g.others },
    view.group_view t.ty l.list ∙ two (λ x y. (x, y)) (view.spec_view t.ty ∙ two (λ n d. p.type_spec (base_of t.ty.base) n (exprs (map expr_of d)) t.ty.is_const) h.stars h.dims) (ap declarators g.are),
    record { base = h.basic; fields = g.fine },
  )

  more_fields_fine : (g : Grouped) (l : Fields) → FineField g.group → FineGroups ns l.groups → FineGroups ns (gr.more_fields g l).groups
  more_fields_fine g l h k = record {
    shapes = k.shapes ++ (h.0 ∷ []);
    are = map-append group_of l.groups (g.group ∷ []) ∙ (two (λ x y. x ++ (y ∷ [])) k.are h.1 ∙ sym (map-append f.group_shape k.shapes (h.0 ∷ [])));
    fine = all_pushed (Groups ns) k.shapes h.0 k.fine h.2;
  }

  -- ---- expressions

  cast_spec : (t : CastType) → FineCast ns t → spec_of t.ty ≡ p.type_spec (base_of t.ty.base) t.ty.stars p.no_exprs t.ty.is_const
  cast_spec t h = view.spec_view t.ty ∙ ap (λ d. p.type_spec (base_of t.ty.base) t.ty.stars (exprs (map expr_of d)) t.ty.is_const) h.dims

  cast_fine : (t : CastType) (a : Operand) (o : Token) → FineCast ns t → Fine ns a.expr → Fine ns (gr.cast_operand t a o).expr
  cast_fine t a o h k = known (tree.Cast t.ty a.expr o.pos) (view.cast_view o.pos t.ty a.expr ∙ ap (λ x. p.cast x (expr_of a.expr) o.pos) (cast_spec t h)) (Types.bare_cast h.basic t.ty.stars t.ty.is_const o.pos k)

  size_type_fine : (t : CastType) (o : Token) → FineCast ns t → Fine ns (gr.size_of_type t o).expr
  size_type_fine t o h = known (tree.SizeOfType t.ty o.pos) (view.size_of_type_view o.pos t.ty ∙ ap (λ x. p.size_of_type x o.pos) (cast_spec t h)) (Types.bare_size_of_type h.basic t.ty.stars t.ty.is_const o.pos)

  size_expr_fine : (a : Operand) (o : Token) → Fine ns a.expr → Fine ns (gr.size_of_expr a o).expr
  size_expr_fine a o h = known (tree.SizeOfExpr a.expr o.pos) (view.size_of_expr_view o.pos a.expr) (Sizes.bare_size_of_expr o.pos h)

  unique_fine : (o t : Token) → Fine ns (gr.unique_expr o t)
  unfolding gr.unique_expr
  unique_fine o t = by (gr.spelled o (codes "unique"))
    where
      by : (b : Bool) → Fine ns (cond b (tree.Unique t.text o.pos) (tree.UniqueCount t.text o.pos))
      by true = known (tree.Unique t.text o.pos) (view.unique_view o.pos t.text) (Exprs.bare_unique o.pos t.text)
      by false = known (tree.UniqueCount t.text o.pos) (view.unique_count_view o.pos t.text) (Exprs.bare_unique_count o.pos t.text)

  call_fine : (o : Option Operand) (l : Arguments) (i n c : Token) → Maybe ns (option_map expr_of (gr.value_of o)) → FineAll ns l.exprs → IsName i.text → IsName n.text → Fine ns (gr.call_operand o l i n c).expr
  call_fine o l i n c h g u v = known (tree.CallItem (gr.is_signal c) n.text i.text (gr.value_of o) l.exprs c.pos) (view.call_item_view c.pos (gr.is_signal c) n.text i.text (gr.value_of o) l.exprs)
      (Calls.bare_call_item c.pos (gr.is_signal c) n.text i.text (option_map expr_of (gr.value_of o)) (map expr_of l.exprs) v u h g)

  -- what an operator makes
  abbrev FineGrowth : Growth → Type 0
  FineGrowth g = (a : tree.Expr) (from : Pos) → Fine ns a → Fine ns (g.node a from)

  binary_fine : (n : ℕ) (o : Token) (b : Operand) → Fine ns b.expr → FineGrowth (gr.growth n b.height (λ a from. tree.Binary (gr.infix_of o) a b.expr from))
  binary_fine n o b h a from k = known (tree.Binary (gr.infix_of o) a b.expr from) (view.binary_view from (gr.infix_of o) a b.expr) (Exprs.bare_binary from k h (gr.infix_of o))

  comma_fine : (b : Operand) → Fine ns b.expr → FineGrowth (gr.growth 0 b.height (λ a from. tree.Comma a b.expr from))
  comma_fine b h a from k = known (tree.Comma a b.expr from) (view.comma_view from a b.expr) (Exprs.bare_comma from k h)

  assign_fine : (o : Token) (b : Operand) → Fine ns b.expr → FineGrowth (gr.growth 1 b.height (λ a from. tree.Assign (gr.assignment_of o) a b.expr from))
  assign_fine o b h a from k = known (tree.Assign (gr.assignment_of o) a b.expr from) (view.assign_view from (gr.assignment_of o) a b.expr) (Exprs.bare_assign from k h (gr.assignment_of o) (assignment_known o))

  choice_fine : (n : ℕ) (b d : Operand) → Fine ns b.expr → Fine ns d.expr → FineGrowth (gr.growth 2 n (λ a from. tree.Cond a b.expr d.expr from))
  choice_fine n b d h g a from k = known (tree.Cond a b.expr d.expr from) (view.choice_view from a b.expr d.expr) (Exprs.bare_choice from k h g)

  index_fine : (b : Operand) → Fine ns b.expr → FineGrowth (gr.growth 15 b.height (λ a from. tree.Index a b.expr from))
  index_fine b h a from k = known (tree.Index a b.expr from) (view.index_view from a b.expr) (Exprs.bare_index from k h)

  call_function_fine : (l : Arguments) → FineAll ns l.exprs → FineGrowth (gr.growth 15 l.height (λ a from. tree.CallFn a l.exprs from))
  call_function_fine l h a from k = known (tree.CallFn a l.exprs from) (view.call_fn_view from a l.exprs) (Calls.bare_call_fn from k (map expr_of l.exprs) h)

  member_fine : (t : Token) → IsName t.text → FineGrowth (gr.growth 15 0 (λ a from. tree.Member a t.text from))
  member_fine t h a from k = known (tree.Member a t.text from) (view.member_view from a t.text) (Exprs.bare_member from k t.text h)

  arrow_fine : (t : Token) → IsName t.text → FineGrowth (gr.growth 15 0 (λ a from. tree.Arrow a t.text from))
  arrow_fine t h a from k = known (tree.Arrow a t.text from) (view.arrow_view from a t.text) (Exprs.bare_arrow from k t.text h)

  step_fine : (o : Token) → FineGrowth (gr.growth 15 0 (λ a from. tree.Postfix (gr.suffix_of o) a from))
  step_fine o a from k = known (tree.Postfix (gr.suffix_of o) a from) (view.postfix_view from (gr.suffix_of o) a) (Exprs.bare_postfix from k (gr.suffix_of o))

-- ---- each form

module _ {spare : ℕ} {ns : Names} (ih : (k : Phrase) (u v : Place) (a : Of k) → SpellsIn production spare k u a v → Law u.names k a v) where
  y_sub : {k : Phrase} {B : Type 0} {f : Of k → B} {P : B → Place → Type 0} → ((a : Of k) (q : Place) → Law ns k a q → P (f a) q) → Yields spare ns (Form.sub k f) P
  unfolding Spells
  y_sub {k = k} {P = P} h = record { gives = λ u v b e t. subst (λ x. P x v) (sym t.2) (h t.0 v (subst (λ n. Law n k t.0 v) e (ih k u v t.0 t.1))) }

  -- an expression as it is
  pub y_whole : {m : ℕ} → Yields spare ns (gr.expr m) (Quiet ns (λ a. Fine ns a.expr))
  unfolding Law
  y_whole {m = m} = y_sub {k = Phrase.expr m} (λ a ms l. l)

  y_some_arguments : Yields spare ns gr.some_arguments (Quiet ns (λ l. FineAll ns l.exprs))
  y_some_arguments = y_loop (y_map y_whole (λ a h. (h, tt))) (λ x. y_map (y_seq {R = λ a. Fine ns a.expr} y_one y_whole (λ t a u h. h)) (λ a h l g. fine_pushed ns l.exprs a.expr g h))

  y_arguments_of : (x : Sort) → Yields spare ns (gr.arguments_of x) (Quiet ns (λ l. FineAll ns l.exprs))
  y_arguments_of s.RParen = y_map y_one (λ t u. tt)
  y_arguments_of _ = y_seq y_some_arguments y_one (λ l t h u. h)

  y_arguments : Yields spare ns gr.arguments (Quiet ns (λ l. FineAll ns l.exprs))
  y_arguments = y_seq y_one (y_by y_arguments_of) (λ t l u h. h)

  -- ---- types

  y_optional : {x : Sort} → Yields spare ns (gr.optional x) (Quiet ns (λ b. Unit {0}))
  y_optional = y_maybe (y_map y_one (λ t u. tt)) tt

  y_width_of : (x : Sort) → Yields spare ns (gr.width_of x) (Quiet ns (λ b. Unit {0}))
  y_width_of s.CharType = y_map y_one (λ t u. tt)
  y_width_of s.Length = y_seq y_one y_optional (λ t b u h. tt)
  y_width_of s.Int = y_map y_one (λ t u. tt)
  y_width_of _ = y_none

  y_qualifiers : Yields spare ns gr.qualifiers (Quiet ns (λ q. Unit {0}))
  y_qualifiers = y_many tt (λ x. y_map y_one (λ t u q h. tt))

  y_fields : Yields spare ns gr.fields (Quiet ns (λ l. FineGroups ns l.groups))
  unfolding Law
  y_fields = y_sub {k = Phrase.fields} (λ a ms l. l)

  y_struct_of : (x : Sort) → Yields spare ns (gr.struct_of x) (Quiet ns (λ f. (o : Token) → FineType ns (f o)))
  y_struct_of s.LBrace = y_map y_fields (λ l h o. struct_fine ns None l o tt h)
  y_struct_of _ = y_seq y_name (y_maybe {P = SomeFields ns} (y_map y_fields (λ l h. h)) tt) (λ t l h g o. some_struct ns t.text l o h g)

  y_item : Yields spare ns gr.item (Quiet ns (FineItem ns))
  y_item = y_seq y_name (y_maybe {P = λ o. Maybe ns (option_map expr_of (gr.value_of o))} (y_map (y_seq {R = λ a. Fine ns a.expr} y_one y_whole (λ t a u h. h)) (λ a h. h)) tt) (λ t o h g. item_fine ns t o h g)

  y_items : Yields spare ns gr.items (Quiet ns (λ l. FineItems ns l.items))
  y_items = y_loop (y_map y_item (λ m h. first_fine ns m h)) (λ x. y_when (gr.is_comma x) (y_map (y_seq {R = SomeItem ns} y_one (y_maybe {P = SomeItem ns} (y_map y_item (λ m h. h)) tt) (λ t o u h. h)) (λ o h l g. more_fine ns o l h g)))

  y_braced_items : Yields spare ns gr.braced_items (Quiet ns (λ l. FineItems ns l.items))
  y_braced_items = y_seq y_one (y_seq {R = λ l. FineItems ns l.items} y_items y_one (λ l t h u. h)) (λ t l u h. h)

  y_enum_of : (x : Sort) → Yields spare ns (gr.enum_of x) (Quiet ns (λ f. (o : Token) → FineType ns (f o)))
  y_enum_of s.LBrace = y_map y_braced_items (λ l h o. enum_fine ns None l o tt h)
  y_enum_of _ = y_seq y_name (y_maybe {P = SomeItems ns} (y_map y_braced_items (λ l h. h)) tt) (λ t l h g o. some_enum ns t.text l o h g)

  y_base_of : (x : Sort) → Yields spare ns (gr.base_of x) (Quiet ns (FineType ns))
  y_base_of s.Void = y_map y_one (λ t u. plain_fine ns base.Void 0 t.pos (known_base base.Void view.void_base Types.basic_void))
  y_base_of s.Signedness = y_seq y_one (y_maybe {P = λ b. Unit {0}} (y_by y_width_of) tt) (λ t n u h. int_fine ns (gr.integer (gr.is_unsigned t) n) 0 t.pos)
  y_base_of s.CharType = y_map y_one (λ t u. int_fine ns _ 0 t.pos)
  y_base_of s.Length = y_seq y_one y_optional (λ t b u h. int_fine ns (gr.integer false (gr.length_of t)) 0 t.pos)
  y_base_of s.Int = y_map y_one (λ t u. int_fine ns _ 0 t.pos)
  y_base_of s.TypeName = y_map (y_token (λ t e. type_known ns t e)) (λ t h. plain_fine ns (base.Named t.text) 0 t.pos (known_base (base.Named t.text) (view.named_base t.text) (Types.basic_named t.text h.0 h.1)))
  y_base_of s.Struct = y_seq y_one (y_by y_struct_of) (λ o f u h. h o)
  y_base_of s.Enum = y_seq y_one (y_by y_enum_of) (λ o f u h. h o)
  y_base_of _ = y_none

  pub y_type_form : Yields spare ns gr.type_form (Quiet ns (FineType ns))
  y_type_form = y_seq {Q = λ f. (u : Qualifiers) → FineType ns (f u)} y_qualifiers (y_seq (y_by y_base_of) y_qualifiers (λ t v h w u. type_of_fine ns u t v h)) (λ u f h k. k u)

  pub y_stars : Yields spare ns gr.stars (Quiet ns (λ n. Unit {0}))
  unfolding Law
  y_stars = y_maybe (y_sub {k = Phrase.pointers} (λ n ms l. l)) tt

  y_cast_type : Yields spare ns gr.cast_type (Quiet ns (FineCast ns))
  y_cast_type = y_seq y_type_form y_stars (λ t n h u. pointer_fine ns t n h)

  pub y_dims : Yields spare ns gr.dims (Quiet ns (λ l. FineAll ns l.exprs))
  y_dims = y_many tt (λ x. y_map (y_seq {R = λ a. Fine ns a.expr} y_one (y_seq {R = λ a. Fine ns a.expr} y_whole y_one (λ a t h u. h)) (λ t a u h. h)) (λ a h l g. fine_pushed ns l.exprs a.expr g h))

  y_declarator : Yields spare ns gr.declarator (Quiet ns (λ d. FineDeclarator ns d.declarator))
  y_declarator = y_seq {Q = λ f. (n : ℕ) → FineDeclarator ns (f n).declarator} y_stars (y_seq y_name y_dims (λ t l h g n. declared_fine ns t l n h g)) (λ n f u h. h n)

  y_declarators : Yields spare ns gr.declarators (Quiet ns (λ l. FineDeclarators ns l.list))
  y_declarators = y_loop (y_map y_declarator (λ d h. first_declarator_fine ns d h)) (λ x. y_map (y_seq {R = λ d. FineDeclarator ns d.declarator} y_one y_declarator (λ t d u h. h)) (λ d h l g. more_declarators_fine ns d l h g))

  y_field : Yields spare ns gr.field (Quiet ns (λ g. FineField ns g.group))
  y_field = y_seq y_type_form (y_seq {R = λ l. FineDeclarators ns l.list} y_declarators y_one (λ l t h u. h)) (λ t l h g. field_fine ns t l h g)

  y_struct_fields : Yields spare ns gr.struct_fields (Quiet ns (λ l. FineGroups ns l.groups))
  y_struct_fields = y_seq y_one (y_seq {R = λ l. FineGroups ns l.groups} (y_map (y_many {P = λ l. FineGroups ns l.groups} (record { shapes = []; are = refl; fine = tt }) (λ x. y_map y_field (λ g h l k. more_fields_fine ns g l h k))) (λ l h. h)) y_one (λ l t h u. h)) (λ t l u h. h)

  -- ---- expressions

  y_cast : Yields spare ns gr.cast (Quiet ns (λ f. (o : Token) → Fine ns (f o).expr))
  y_cast = y_seq y_cast_type (y_seq {R = λ a. Fine ns a.expr} y_one y_whole (λ t a u h. h)) (λ t a h g o. cast_fine ns t a o h g)

  y_parens : Yields spare ns gr.parens (Quiet ns (λ f. (o : Token) → Fine ns (f o).expr))
  y_parens = y_seq y_whole y_one (λ a t h u o. h)

  y_bracketed : (c : Bool) → Yields spare ns (gr.bracketed_expr c) (Quiet ns (λ a. Fine ns a.expr))
  y_bracketed c = y_seq {Q = λ f. (o : Token) → Fine ns (f o).expr} y_one (y_by (λ x. y_if _ y_cast y_parens)) (λ t f u h. h t)

  y_size_opened : Yields spare ns gr.size_opened (Quiet ns (λ f. (z o : Token) → Fine ns (f z o).expr))
  unfolding Law
  y_size_opened = y_sub {k = Phrase.opened} (λ f ms l. (l.0, λ z o. size_expr_fine ns (f z) o (l.1 z)))

  y_sized : (x : Sort) → Yields spare ns (gr.sized x) (Quiet ns (λ f. (o : Token) → Fine ns (f o).expr))
  y_sized s.LParen = y_seq {Q = λ f. (z o : Token) → Fine ns (f z o).expr} y_one (y_by (λ x. y_if (begins_type x) (y_seq y_cast_type y_one (λ t z h u _ o. size_type_fine ns t o h)) y_size_opened)) (λ t f u h. h t)
  y_sized _ = y_map y_whole (λ a h o. size_expr_fine ns a o h)

  y_signed : {x : Sort} {m : ℕ} → Yields spare ns (gr.signed x m) (Quiet ns (λ a. Fine ns a.expr))
  y_signed = y_seq y_one y_whole (λ o a u h. known (tree.Unary (gr.prefix_of o) a.expr o.pos) (view.unary_view o.pos (gr.prefix_of o) a.expr) (Exprs.bare_unary o.pos (gr.prefix_of o) h))

  y_call : Yields spare ns gr.call_item (Quiet ns (λ a. Fine ns a.expr))
  y_call = y_seq {Q = λ f. (c : Token) → Fine ns (f c).expr} y_one (y_seq {Q = λ f. (n c : Token) → IsName n.text → Fine ns (f n c).expr} y_name
      (y_seq {Q = λ f. (i n c : Token) → IsName i.text → IsName n.text → Fine ns (f i n c).expr} (y_seq {R = λ t. IsName t.text} y_one y_name (λ t n u h. h))
      (y_seq (y_maybe {P = λ o. Maybe ns (option_map expr_of (gr.value_of o))} (y_map (y_seq {R = λ a. Fine ns a.expr} y_one (y_seq {R = λ a. Fine ns a.expr} y_whole y_one (λ a t h u. h)) (λ t a u h. h)) (λ a h. h)) tt) y_arguments
      (λ o l h g i n c j k. call_fine ns o l i n c h g j k))
      (λ i f j h n c k. h i n c j k)) (λ n f k h c. h n c k)) (λ c f u h. h c)

  y_port_read : Yields spare ns gr.port_read (Quiet ns (λ a. Fine ns a.expr))
  y_port_read = y_seq y_one (y_seq {R = λ a. Fine ns a.expr} y_one (y_seq {R = λ a. Fine ns a.expr} y_whole y_one (λ a t h u. h)) (λ t a u h. h))
      (λ o a u h. known (tree.PortRead a.expr o.pos) (view.port_read_view o.pos a.expr) (Calls.bare_port_read o.pos h))

  y_port_write : Yields spare ns gr.port_write (Quiet ns (λ a. Fine ns a.expr))
  y_port_write = y_seq {Q = λ f. (o : Token) → Fine ns (f o).expr} y_one (y_seq (y_seq {R = λ a. Fine ns a.expr} y_one (y_seq {R = λ a. Fine ns a.expr} y_whole y_one (λ a t h u. h)) (λ t a u h. h)) (y_seq {R = λ a. Fine ns a.expr} y_whole y_one (λ a t h u. h))
      (λ a b h g o. known (tree.PortWrite a.expr b.expr o.pos) (view.port_write_view o.pos a.expr b.expr) (Calls.bare_port_write o.pos h g))) (λ o f u h. h o)

  y_primary : (c : Bool) (x : Sort) → Yields spare ns (primary c x) (Quiet ns (λ a. Fine ns a.expr))
  y_primary c s.Word = y_map (y_token (λ t e. word_known ns t e)) (λ t h. known (tree.Name t.text t.pos) (view.name_view t.pos t.text) (Exprs.bare_name t.pos t.text h.0 h.1))
  y_primary c s.Number = y_map y_one (λ t u. known (tree.Number t.text t.pos) (view.number_view t.pos t.text) (Exprs.bare_number t.pos t.text))
  y_primary c s.Char = y_map y_one (λ t u. known (tree.Char t.text t.pos) (view.char_view t.pos t.text) (Exprs.bare_char t.pos t.text))
  y_primary c s.Null = y_map y_one (λ t u. known (tree.Null t.pos) (view.null_view t.pos) (Exprs.bare_null t.pos))
  y_primary c s.LParen = y_bracketed c
  y_primary c s.Plus = y_signed
  y_primary c s.Minus = y_signed
  y_primary c s.Star = y_signed
  y_primary c s.Amp = y_signed
  y_primary c s.Complement = y_signed
  y_primary c s.Step = y_signed
  y_primary c s.SizeOf = y_seq {Q = λ f. (o : Token) → Fine ns (f o).expr} y_one (y_by y_sized) (λ o f u h. h o)
  y_primary c s.Unique = y_seq y_one (y_seq {R = λ t. Unit {0}} y_one (y_seq {R = λ t. Unit {0}} y_one y_one (λ t r u h. tt)) (λ t r u h. tt)) (λ o t u h. unique_fine ns o t)
  y_primary c s.PortRead = y_port_read
  y_primary c s.PortWrite = y_port_write
  y_primary c s.Post = y_seq y_one (y_seq {R = λ t. IsName t.text} y_name (y_seq {R = λ t. Unit {0}} y_one y_one (λ t r u h. tt)) (λ t r h u. h)) (λ o t u h. known (tree.Post t.text o.pos) (view.post_view o.pos t.text) (Exprs.bare_post o.pos t.text h))
  y_primary c s.Call = y_call
  y_primary c _ = y_none

  y_binary : {x : Sort} (n : ℕ) → Yields spare ns (gr.binary x n) (Quiet ns (FineGrowth ns))
  y_binary n = y_seq y_one y_whole (λ o b u h. binary_fine ns n o b h)

  y_assign : {x : Sort} → Yields spare ns (gr.assign x) (Quiet ns (FineGrowth ns))
  y_assign = y_seq y_one y_whole (λ o b u h. assign_fine ns o b h)

  y_operation : (x : Sort) → Yields spare ns (operation x) (Quiet ns (FineGrowth ns))
  y_operation s.Comma = y_seq y_one y_whole (λ o b u h. comma_fine ns b h)
  y_operation s.Assign = y_assign
  y_operation s.OpAssign = y_assign
  y_operation s.Question = y_seq (y_seq {R = λ a. Fine ns a.expr} y_one y_whole (λ t a u h. h)) (y_seq {R = λ a. Fine ns a.expr} y_one y_whole (λ t a u h. h)) (λ b d h g. choice_fine ns (max b.height d.height) b d h g)
  y_operation s.OrOr = y_binary _
  y_operation s.AndAnd = y_binary _
  y_operation s.Bar = y_binary _
  y_operation s.Caret = y_binary _
  y_operation s.Amp = y_binary _
  y_operation s.Equality = y_binary _
  y_operation s.Less = y_binary _
  y_operation s.Greater = y_binary _
  y_operation s.OrEqual = y_binary _
  y_operation s.Shift = y_binary _
  y_operation s.Plus = y_binary _
  y_operation s.Minus = y_binary _
  y_operation s.Star = y_binary _
  y_operation s.Divide = y_binary _
  y_operation s.LBracket = y_seq y_one (y_seq {R = FineGrowth ns} y_whole y_one (λ b t h u. index_fine ns b h)) (λ t g u h. h)
  y_operation s.LParen = y_map y_arguments (λ l h. call_function_fine ns l h)
  y_operation s.Dot = y_seq y_one y_name (λ o t u h. member_fine ns t h)
  y_operation s.Arrow = y_seq y_one y_name (λ o t u h. arrow_fine ns t h)
  y_operation s.Step = y_map y_one (λ o u. step_fine ns o)
  y_operation _ = y_none

  y_expression : (c : Bool) (m : ℕ) → Yields spare ns (gr.expression c m) (Quiet ns (λ a. Fine ns a.expr))
  y_expression c m = y_loop {P = λ a. Fine ns a.expr} (y_by (y_primary c)) (λ x. y_map (y_operation x) (λ g h a k. h a.expr a.from k))

  y_opened : Yields spare ns (production Phrase.opened) (Quiet ns (λ f. (t : Token) → Fine ns (f t).expr))
  y_opened = y_loop {P = λ f. (t : Token) → Fine ns (f t).expr} y_parens (λ x. y_map (y_operation x) (λ g h f k t. h (f t).expr (f t).from (k t)))

  y_pointers : Yields spare ns (production Phrase.pointers) (Quiet ns (λ n. Unit {0}))
  y_pointers = y_seq y_one y_stars (λ t n u h. tt)

  step_law : (k : Phrase) → Yields spare ns (production k) (Law ns k)
  unfolding Law
  step_law (Phrase.expr m) = y_expression (admits_cast m) m
  step_law Phrase.opened = y_opened
  step_law Phrase.fields = y_struct_fields
  step_law Phrase.pointers = y_pointers
  step_law Phrase.type = y_type_form
  step_law _ = record { gives = λ u v a e h. tt }

pub law : (d : ℕ) (k : Phrase) (u v : Place) (a : Of k) → SpellsIn production d k u a v → Law u.names k a v
unfolding SpellsIn
law zero k u v a h = absurd h
law (suc d) k u v a h = (step_law (law d) k).gives u v a refl h
