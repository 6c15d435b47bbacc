-- The words of expressions and types are whole.
use Rattle.std.proofs.Common.{◌≡◌, ℕ, zero, suc, Bool, true, false, cond, List, [], ◌∷◌, map, Option, Some, None, refl, sym, ap, subst}
use Rattle.std.specs.Prelude.{codes, option_map}
use Rattle.nm_base.specs.declared.pos.Pos.{Pos}
use Rattle.nm_base.specs.declared.token.Token.{Token}
use Rattle.nm_base.specs.declared.int_type.IntType.{IntType}
use Rattle.nm_base.specs.declared.int_type.IntType.TheVariants as int
use Rattle.nesc_tokens.specs.Spelling.{signs}
use Rattle.nesc_tree.specs.declared.sorts.Sort.{Sort}
use Rattle.nesc_tree.specs.declared.sorts.Sort.TheVariants as s
use Rattle.nesc_tree.specs.declared.tree.PreOp.{PreOp}
use Rattle.nesc_tree.specs.declared.tree.PreOp.TheVariants as pre
use Rattle.nesc_tree.specs.declared.tree.PostOp.{PostOp}
use Rattle.nesc_tree.specs.declared.tree.PostOp.TheVariants as post
use Rattle.nesc_tree.specs.declared.tree.InOp.{InOp}
use Rattle.nesc_tree.specs.declared.tree.InOp.TheVariants as op
use Rattle.nesc_tree.specs.declared.tree.Expr as tree
use Rattle.nesc_tree.specs.declared.tree.Base as base
use Rattle.nesc_tree.specs.declared.tree.TypeSpec.{TypeSpec}
use Rattle.nesc_tree.specs.declared.tree.Declarator.{Declarator}
use Rattle.nesc_tree.specs.declared.tree.EnumItem.{EnumItem}
use Rattle.nesc_tree.specs.declared.tree.FieldGroup.{FieldGroup}
use Rattle.nesc_tree.specs.declared.operand.Operand.{Operand}
use Rattle.nesc_tree.specs.declared.operand.Arguments.{Arguments}
use Rattle.nesc_tree.specs.declared.operand.CastType.{CastType}
use Rattle.nesc_tree.specs.declared.operand.Declarators.{Declarators}
use Rattle.nesc_tree.specs.declared.operand.Fields.{Fields}
use Rattle.nesc_tree.specs.declared.operand.Item.{Item}
use Rattle.nesc_tree.specs.declared.operand.Items.{Items}
use Rattle.nesc_tree.specs.declared.operand.Qualifiers.{Qualifiers}
use Rattle.nesc_tree.specs.Plain as p
use Rattle.nesc_tree.specs.View.{expr_of, spec_of, base_of, exprs, maybe_expr, declarators, groups, items}
use Rattle.nesc_tree.specs.View as v
use Rattle.nesc_tree.specs.Phrase.{Phrase, Of, begins_type}
use Rattle.nesc_tree.specs.Form.{Place, SpellsIn}
use Rattle.nesc_grammar.specs.Production.{production}
use Rattle.nesc_grammar.specs.Grammar as gr
use Rattle.nesc_grammar.specs.Grammar.{Growth, operation, primary, admits_cast}
use Rattle.printed_words.specs.LaidOut.{is_whole}
use Rattle.nesc_print_words.specs.Lexemes.{Words, word, sign, literal}
use Rattle.nesc_print_words.specs.Operators.{infix_level, infix_text, assignment_text, prefix_text, suffix_text, integer_text, is_unsigned_type}
use Rattle.nesc_print_words.specs.Expressions.{level_of, call_word, expr_words, words_at, argument_words, more_argument_words, parameter_words, dim_words, type_words, base_words, group_words, field_words, more_field_words, item_words, more_item_words, value_words, declarator_words, before_name, behind_name, integer_words}
use Rattle.nesc_print_words.specs.Trees.{item_of, declarator_of, group_of}
use Rattle.nesc_print_laws.proofs.Calls.{All}
use Rattle.nesc_print_laws.proofs.Known.{all_pushed}
use Rattle.nesc_print_laws.proofs.Views as view
use Rattle.nesc_print_whole.proofs.Keeps.{Whole, w_nil, w_cons, w_one, w_join, w_same, w_parens, w_brackets, w_braces, comma_whole, semicolon_whole, w_stars, w_flag, w_enclosed, Tokens, Keeps, k_one, k_none, k_all, k_seq, k_behind, k_before, k_map, k_by, k_maybe, k_many, k_loop, k_when, k_if, k_sub, Name, k_number, k_char, k_text, k_word, k_type_name, k_name}

-- ---- signs of operators

infix_whole : (o : InOp) → is_whole (sign (infix_text o)) ≡ true
unfolding signs
infix_whole op.Mul = refl
infix_whole _ = refl

assignment_whole : (o : Option InOp) → is_whole (sign (assignment_text o)) ≡ true
unfolding signs
assignment_whole None = refl
assignment_whole (Some o) = by o
  where
    by : (o : InOp) → is_whole (sign (assignment_text (Some o))) ≡ true
    by op.Mul = refl
    by _ = refl

prefix_whole : (o : PreOp) → is_whole (sign (prefix_text o)) ≡ true
unfolding signs
prefix_whole pre.Inc = refl
prefix_whole _ = refl

suffix_whole : (o : PostOp) → is_whole (sign (suffix_text o)) ≡ true
unfolding signs
suffix_whole post.Inc = refl
suffix_whole post.Dec = refl

question_whole : is_whole (sign (codes "?")) ≡ true
unfolding signs
question_whole = refl

pub colon_whole : is_whole (sign (codes ":")) ≡ true
unfolding signs
colon_whole = refl

pub dot_whole : is_whole (sign (codes ".")) ≡ true
unfolding signs
dot_whole = refl

arrow_whole : is_whole (sign (codes "->")) ≡ true
unfolding signs
arrow_whole = refl

pub gets_whole : is_whole (sign (codes "=")) ≡ true
unfolding signs
gets_whole = refl

call_whole : (b : Bool) → is_whole (word (call_word b)) ≡ true
call_whole true = refl
call_whole false = refl

-- ---- expressions

abbrev W : p.Expr → Type 0
W e = Whole (expr_words e)

abbrev pub E : tree.Expr → Type 0
E a = Whole (expr_words (expr_of a))

pub w_at : (m : ℕ) (a : tree.Expr) → E a → Whole (words_at m (expr_of a))
w_at m a h = w_enclosed m (level_of (expr_of a)) h

as_view : {x : p.Expr} (a : tree.Expr) → expr_of a ≡ x → W x → E a
as_view a e h = subst W (sym e) h

w_more_args : (l : List tree.Expr) → All E l → Whole (more_argument_words (exprs (map expr_of l)))
w_more_args [] h = w_nil
w_more_args (e ∷ l) h = w_cons comma_whole (w_join (w_at 1 e h.0) (w_more_args l h.1))

w_args : (l : List tree.Expr) → All E l → Whole (argument_words (exprs (map expr_of l)))
w_args [] h = w_nil
w_args (e ∷ l) h = w_join (w_at 1 e h.0) (w_more_args l h.1)

abbrev pub MaybeE : Option tree.Expr → Type 0
MaybeE None = Unit {0}
MaybeE (Some e) = E e

w_param : (o : Option tree.Expr) → MaybeE o → Whole (parameter_words (maybe_expr (option_map expr_of o)))
w_param None h = w_nil
w_param (Some e) h = w_brackets (w_at 1 e h)

pub w_dims : (l : List tree.Expr) → All E l → Whole (dim_words (exprs (map expr_of l)))
w_dims [] h = w_nil
w_dims (e ∷ l) h = w_join (w_brackets (w_at 2 e h.0)) (w_dims l h.1)

-- ---- types

abbrev B : base.Base → Type 0
B b = Whole (base_words (base_of b))

as_base : {x : p.Base} (b : base.Base) → base_of b ≡ x → Whole (base_words x) → B b
as_base b e h = subst (λ (z : p.Base). Whole (base_words z)) (sym e) h

-- a type whose words are whole
pub record T (t : TypeSpec) : Type 0 where
  pub base : B t.base
  pub dims : All E t.dims

pub w_type : (t : TypeSpec) → T t → Whole (type_words (spec_of t))
w_type t h = w_same (ap type_words (view.spec_view t)) (w_join (w_flag t.is_const (codes "const") refl) (w_join h.base (w_join (w_stars t.stars) (w_dims t.dims h.dims))))

pub w_before : (t : TypeSpec) → T t → Whole (before_name (spec_of t))
w_before t h = w_same (ap before_name (view.spec_view t)) (w_join (w_flag t.is_const (codes "const") refl) (w_join h.base (w_stars t.stars)))

pub w_behind : (t : TypeSpec) → T t → Whole (behind_name (spec_of t))
w_behind t h = w_same (ap behind_name (view.spec_view t)) (w_dims t.dims h.dims)

w_int : (t : IntType) → Whole (integer_words t)
w_int int.U8 = w_cons refl (w_one refl)
w_int int.U16 = w_cons refl (w_one refl)
w_int int.U32 = w_cons refl (w_one refl)
w_int int.I8 = w_one refl
w_int int.I16 = w_one refl
w_int int.I32 = w_one refl

pub record D (d : Declarator) : Type 0 where
  pub name : Name d.name
  pub dims : All E d.dims

abbrev declarator_at : v.Declarator → Words
declarator_at x = declarator_words x.0 x.1 (dim_words x.2)

w_declarator : (d : Declarator) → D d → Whole (declarator_at (declarator_of d))
w_declarator d h = w_same (ap declarator_at (view.declarator_view d)) (w_join (w_stars d.stars) (w_cons h.name (w_dims d.dims h.dims)))

pub w_named : (d : Declarator) → D d → Whole (declarator_words (declarator_of d).0 (declarator_of d).1 (dim_words (declarator_of d).2))
w_named d h = w_declarator d h

w_more_fields : (l : List Declarator) → All D l → Whole (more_field_words (declarators (map declarator_of l)))
w_more_fields [] h = w_nil
w_more_fields (d ∷ l) h = w_cons comma_whole (w_join (w_declarator d h.0) (w_more_fields l h.1))

w_fields : (l : List Declarator) → All D l → Whole (field_words (declarators (map declarator_of l)))
w_fields [] h = w_nil
w_fields (d ∷ l) h = w_join (w_declarator d h.0) (w_more_fields l h.1)

-- fields of one type
pub record G (g : FieldGroup) : Type 0 where
  pub ty : Whole (type_words (group_of g).0)
  pub fields : Whole (field_words (group_of g).1)

w_groups : (l : List FieldGroup) → All G l → Whole (group_words (groups (map group_of l)))
w_groups [] h = w_nil
w_groups (g ∷ l) h = w_join h.0.ty (w_join h.0.fields (w_cons semicolon_whole (w_groups l h.1)))

record I (m : EnumItem) : Type 0 where
  name : Name m.name
  value : MaybeE m.value

w_value : (o : Option tree.Expr) → MaybeE o → Whole (value_words (maybe_expr (option_map expr_of o)))
w_value None h = w_nil
w_value (Some e) h = w_cons gets_whole (w_at 2 e h)

abbrev item_at : v.Item → Words
item_at x = word x.0 ∷ value_words x.1

w_item : (m : EnumItem) → I m → Whole (item_at (item_of m))
w_item m h = w_same (ap item_at (view.item_view m)) (w_cons h.name (w_value m.value h.value))

w_more_items : (l : List EnumItem) → All I l → Whole (more_item_words (items (map item_of l)))
w_more_items [] h = w_nil
w_more_items (m ∷ l) h = w_cons comma_whole (w_join (w_item m h.0) (w_more_items l h.1))

w_items : (l : List EnumItem) → All I l → Whole (item_words (items (map item_of l)))
w_items [] h = w_nil
w_items (m ∷ l) h = w_join (w_item m h.0) (w_more_items l h.1)

abbrev Tag : Option (List ℕ) → Type 0
Tag None = Unit {0}
Tag (Some n) = Name n

w_tag : (tag : Option (List ℕ)) → Tag tag → Whole (Rattle.nesc_print_words.specs.Expressions.tag_words tag)
w_tag None h = w_nil
w_tag (Some n) h = w_one h

-- a type that was read, without stars and dimensions
abbrev pub C : CastType → Type 0
C t = T t.ty

plain_c : (b : base.Base) (n : ℕ) (from : Pos) → B b → C (gr.plain b n from)
plain_c b n from h = record { base = h; dims = tt }

int_c : (t : IntType) (n : ℕ) (from : Pos) → C (gr.plain (base.Int t) n from)
int_c t n from = plain_c (base.Int t) n from (as_base (base.Int t) (view.int_base t) (w_int t))

struct_c : (tag : Option (List ℕ)) (l : Fields) (o : Token) → Tag tag → All G l.groups → C (gr.struct_type tag (Some l) o)
struct_c tag l o h g = plain_c (base.Struct tag (Some l.groups)) l.height o.pos (as_base (base.Struct tag (Some l.groups)) (view.struct_of_base tag l.groups) (w_cons refl (w_join (w_tag tag h) (w_braces (w_groups l.groups g)))))

abbrev SomeG : Option Fields → Type 0
SomeG None = Unit {0}
SomeG (Some l) = All G l.groups

some_struct : (n : List ℕ) (l : Option Fields) (o : Token) → Name n → SomeG l → C (gr.struct_type (Some n) l o)
some_struct n None o h g = plain_c (base.Struct (Some n) None) 0 o.pos (as_base (base.Struct (Some n) None) (view.struct_base (Some n)) (w_cons refl (w_one h)))
some_struct n (Some l) o h g = struct_c (Some n) l o h g

enum_c : (tag : Option (List ℕ)) (l : Items) (o : Token) → Tag tag → All I l.items → C (gr.enum_type tag (Some l) o)
enum_c tag l o h g = plain_c (base.Enum tag (Some l.items)) l.height o.pos (as_base (base.Enum tag (Some l.items)) (view.enum_of_base tag l.items) (w_cons refl (w_join (w_tag tag h) (w_braces (w_items l.items g)))))

abbrev SomeI : Option Items → Type 0
SomeI None = Unit {0}
SomeI (Some l) = All I l.items

some_enum : (n : List ℕ) (l : Option Items) (o : Token) → Name n → SomeI l → C (gr.enum_type (Some n) l o)
some_enum n None o h g = plain_c (base.Enum (Some n) None) 0 o.pos (as_base (base.Enum (Some n) None) (view.enum_base (Some n)) (w_cons refl (w_one h)))
some_enum n (Some l) o h g = enum_c (Some n) l o h g

abbrev pub Option_e : Option Operand → Type 0
Option_e None = Unit {0}
Option_e (Some a) = E a.expr

abbrev SomeItem : Option Item → Type 0
SomeItem None = Unit {0}
SomeItem (Some m) = I m.item

more_items_i : (o : Option Item) (l : Items) → SomeItem o → All I l.items → All I (gr.more_items o l).items
more_items_i None l h g = g
more_items_i (Some m) l h g = all_pushed I l.items m.item g h

pub value_i : (o : Option Operand) → Option_e o → MaybeE (gr.value_of o)
value_i None h = tt
value_i (Some a) h = h

group_g : (t : CastType) (l : Declarators) → C t → All D l.list → G (gr.field_group t l).group
group_g t l h g = record {
  ty = w_same (ap (λ (z : v.Group). type_words z.0) (view.group_view t.ty l.list)) (w_type t.ty h);
  fields = w_same (ap (λ (z : v.Group). field_words z.1) (view.group_view t.ty l.list)) (w_fields l.list g);
}

-- ---- each node

unique_e : (o t : Token) → is_whole (literal t.text) ≡ true → E (gr.unique_expr o t)
unfolding gr.unique_expr
unique_e o t h = by (gr.spelled o (codes "unique"))
  where
    by : (b : Bool) → E (cond b (tree.Unique t.text o.pos) (tree.UniqueCount t.text o.pos))
    by true = as_view (tree.Unique t.text o.pos) (view.unique_view o.pos t.text) (w_cons refl (w_parens (w_one h)))
    by false = as_view (tree.UniqueCount t.text o.pos) (view.unique_count_view o.pos t.text) (w_cons refl (w_parens (w_one h)))

abbrev Grows : Growth → Type 0
Grows g = (a : tree.Expr) (from : Pos) → E a → E (g.node a from)

call_e : (o : Option Operand) (l : Arguments) (i n c : Token) → Option_e o → All E l.exprs → Name i.text → Name n.text → E (gr.call_operand o l i n c).expr
call_e o l i n c h g u w = as_view (tree.CallItem (gr.is_signal c) n.text i.text (gr.value_of o) l.exprs c.pos) (view.call_item_view c.pos (gr.is_signal c) n.text i.text (gr.value_of o) l.exprs)
    (w_cons (call_whole (gr.is_signal c)) (w_cons w (w_cons dot_whole (w_cons u (w_join (w_param (gr.value_of o) (value_i o h)) (w_parens (w_args l.exprs g)))))))

unfoldable pub ExprLaw : (k : Phrase) → Of k → Type 0
ExprLaw (Phrase.expr m) a = E a.expr
ExprLaw Phrase.opened f = (t : Token) → E (f t).expr
ExprLaw Phrase.fields l = All G l.groups
ExprLaw Phrase.type t = C t
ExprLaw _ a = Unit {0}

cast_e : (t : CastType) (a : Operand) (o : Token) → C t → E a.expr → E (gr.cast_operand t a o).expr
cast_e t a o h k = as_view (tree.Cast t.ty a.expr o.pos) (view.cast_view o.pos t.ty a.expr) (w_join (w_parens (w_type t.ty h)) (w_at 13 a.expr k))

size_e : (a : Operand) (o : Token) → E a.expr → E (gr.size_of_expr a o).expr
size_e a o h = as_view (tree.SizeOfExpr a.expr o.pos) (view.size_of_expr_view o.pos a.expr) (w_cons refl (w_at 14 a.expr h))

size_type_e : (t : CastType) (o : Token) → C t → E (gr.size_of_type t o).expr
size_type_e t o h = as_view (tree.SizeOfType t.ty o.pos) (view.size_of_type_view o.pos t.ty) (w_cons refl (w_parens (w_type t.ty h)))

module _ {spare : ℕ} (ih : (k : Phrase) (u w : Place) (a : Of k) → Tokens u.rest → SpellsIn production spare k u a w → ExprLaw k a) where
  pub k_expr : {m : ℕ} → Keeps spare (gr.expr m) (λ a. E a.expr)
  unfolding ExprLaw
  k_expr {m = m} = k_sub {k = Phrase.expr m} (ExprLaw (Phrase.expr m)) (ih (Phrase.expr m)) (λ a h. h)

  k_arguments_of : (x : Sort) → Keeps spare (gr.arguments_of x) (λ l. All E l.exprs)
  k_arguments_of s.RParen = k_map k_one (λ t u. tt)
  k_arguments_of _ = k_before {P = λ l. All E l.exprs} (k_loop {P = λ l. All E l.exprs} (k_map k_expr (λ a h. (h, tt))) (λ x. k_map (k_behind k_one k_expr) (λ a h l g. all_pushed E l.exprs a.expr g h))) k_one

  k_arguments : Keeps spare gr.arguments (λ l. All E l.exprs)
  k_arguments = k_behind k_one (k_by k_arguments_of)

  -- ---- types

  k_optional : {x : Sort} → Keeps spare (gr.optional x) (λ b. Unit {0})
  k_optional = k_maybe (k_map k_one (λ t u. tt)) tt

  k_width_of : (x : Sort) → Keeps spare (gr.width_of x) (λ b. Unit {0})
  k_width_of s.CharType = k_map k_one (λ t u. tt)
  k_width_of s.Length = k_seq k_one k_optional (λ t b u h. tt)
  k_width_of s.Int = k_map k_one (λ t u. tt)
  k_width_of _ = k_none

  k_qualifiers : Keeps spare gr.qualifiers (λ q. Unit {0})
  k_qualifiers = k_many {P = λ q. Unit {0}} tt (λ x. k_map k_one (λ t u q h. tt))

  k_fields : Keeps spare gr.fields (λ l. All G l.groups)
  unfolding ExprLaw
  k_fields = k_sub {k = Phrase.fields} (ExprLaw Phrase.fields) (ih Phrase.fields) (λ a h. h)

  k_struct_of : (x : Sort) → Keeps spare (gr.struct_of x) (λ f. (o : Token) → C (f o))
  k_struct_of s.LBrace = k_map k_fields (λ l h o. struct_c None l o tt h)
  k_struct_of _ = k_seq k_name (k_maybe {P = SomeG} (k_map k_fields (λ l h. h)) tt) (λ t l h g o. some_struct t.text l o h g)

  k_item : Keeps spare gr.item (λ m. I m.item)
  k_item = k_seq k_name (k_maybe {P = Option_e} (k_map (k_behind k_one k_expr) (λ a h. h)) tt) (λ t o h g. record { name = h; value = value_i o g })

  k_items : Keeps spare gr.items (λ l. All I l.items)
  k_items = k_loop {P = λ l. All I l.items} (k_map k_item (λ m h. (h, tt))) (λ x. k_when (gr.is_comma x) (k_map (k_behind {Q = SomeItem} k_one (k_maybe {P = SomeItem} (k_map k_item (λ m h. h)) tt)) (λ o h l g. more_items_i o l h g)))

  k_braced_items : Keeps spare gr.braced_items (λ l. All I l.items)
  k_braced_items = k_behind k_one (k_before k_items k_one)

  k_enum_of : (x : Sort) → Keeps spare (gr.enum_of x) (λ f. (o : Token) → C (f o))
  k_enum_of s.LBrace = k_map k_braced_items (λ l h o. enum_c None l o tt h)
  k_enum_of _ = k_seq k_name (k_maybe {P = SomeI} (k_map k_braced_items (λ l h. h)) tt) (λ t l h g o. some_enum t.text l o h g)

  k_base_of : (x : Sort) → Keeps spare (gr.base_of x) C
  k_base_of s.Void = k_map k_one (λ t u. plain_c base.Void 0 t.pos (as_base base.Void view.void_base (w_one refl)))
  k_base_of s.Signedness = k_seq k_one (k_maybe {P = λ b. Unit {0}} (k_by k_width_of) tt) (λ t n u h. int_c (gr.integer (gr.is_unsigned t) n) 0 t.pos)
  k_base_of s.CharType = k_map k_one (λ t u. int_c _ 0 t.pos)
  k_base_of s.Length = k_seq k_one k_optional (λ t b u h. int_c (gr.integer false (gr.length_of t)) 0 t.pos)
  k_base_of s.Int = k_map k_one (λ t u. int_c _ 0 t.pos)
  k_base_of s.TypeName = k_map k_type_name (λ t h. plain_c (base.Named t.text) 0 t.pos (as_base (base.Named t.text) (view.named_base t.text) (w_one h)))
  k_base_of s.Struct = k_seq k_one (k_by k_struct_of) (λ o f u h. h o)
  k_base_of s.Enum = k_seq k_one (k_by k_enum_of) (λ o f u h. h o)
  k_base_of _ = k_none

  pub k_type_form : Keeps spare gr.type_form C
  k_type_form = k_seq {Q = λ f. (u : Qualifiers) → C (f u)} k_qualifiers (k_seq (k_by k_base_of) k_qualifiers (λ t q h w u. record { base = h.base; dims = h.dims })) (λ u f h k. k u)

  pub k_stars : Keeps spare gr.stars (λ n. Unit {0})
  unfolding ExprLaw
  k_stars = k_maybe {P = λ n. Unit {0}} (k_sub {k = Phrase.pointers} (ExprLaw Phrase.pointers) (ih Phrase.pointers) (λ n h. tt)) tt

  k_cast_type : Keeps spare gr.cast_type C
  k_cast_type = k_seq k_type_form k_stars (λ t n h u. record { base = h.base; dims = h.dims })

  pub k_dims : Keeps spare gr.dims (λ l. All E l.exprs)
  k_dims = k_many {P = λ l. All E l.exprs} tt (λ x. k_map (k_behind k_one (k_before k_expr k_one)) (λ a h l g. all_pushed E l.exprs a.expr g h))

  k_declarator : Keeps spare gr.declarator (λ d. D d.declarator)
  k_declarator = k_seq {Q = λ f. (n : ℕ) → D (f n).declarator} k_stars (k_seq k_name k_dims (λ t l h g n. record { name = h; dims = g })) (λ n f u h. h n)

  k_declarators : Keeps spare gr.declarators (λ l. All D l.list)
  k_declarators = k_loop {P = λ l. All D l.list} (k_map k_declarator (λ d h. (h, tt))) (λ x. k_map (k_behind k_one k_declarator) (λ d h l g. all_pushed D l.list d.declarator g h))

  k_struct_fields : Keeps spare gr.struct_fields (λ l. All G l.groups)
  k_struct_fields = k_behind k_one (k_before {P = λ l. All G l.groups} (k_map {P = λ l. All G l.groups} (k_many {P = λ l. All G l.groups} tt (λ x. k_map (k_seq {R = λ g. G g.group} k_type_form (k_before k_declarators k_one) (λ t l h g. group_g t l h g)) (λ g h l k. all_pushed G l.groups g.group k h))) (λ l h. h)) k_one)

  -- ---- expressions

  k_parens : Keeps spare gr.parens (λ f. (o : Token) → E (f o).expr)
  k_parens = k_seq k_expr k_one (λ a t h u o. h)

  k_cast : Keeps spare gr.cast (λ f. (o : Token) → E (f o).expr)
  k_cast = k_seq k_cast_type (k_behind k_one k_expr) (λ t a h g o. cast_e t a o h g)

  k_bracketed : (c : Bool) → Keeps spare (gr.bracketed_expr c) (λ a. E a.expr)
  k_bracketed c = k_seq {Q = λ f. (o : Token) → E (f o).expr} k_one (k_by (λ x. k_if _ k_cast k_parens)) (λ t f u h. h t)

  k_size_opened : Keeps spare gr.size_opened (λ f. (z o : Token) → E (f z o).expr)
  unfolding ExprLaw
  k_size_opened = k_sub {k = Phrase.opened} (ExprLaw Phrase.opened) (ih Phrase.opened) (λ f h z o. size_e (f z) o (h z))

  k_sized : (x : Sort) → Keeps spare (gr.sized x) (λ f. (o : Token) → E (f o).expr)
  k_sized s.LParen = k_seq {Q = λ f. (z o : Token) → E (f z o).expr} k_one (k_by (λ x. k_if (begins_type x) (k_seq k_cast_type k_one (λ t z h u _ o. size_type_e t o h)) k_size_opened)) (λ t f u h. h t)
  k_sized _ = k_map k_expr (λ a h o. size_e a o h)

  k_signed : {x : Sort} {m : ℕ} → Keeps spare (gr.signed x m) (λ a. E a.expr)
  k_signed = k_seq k_one k_expr (λ o a u h. as_view (tree.Unary (gr.prefix_of o) a.expr o.pos) (view.unary_view o.pos (gr.prefix_of o) a.expr) (w_cons (prefix_whole (gr.prefix_of o)) (w_at (Rattle.nesc_print_words.specs.Operators.prefix_needs (gr.prefix_of o)) a.expr h)))

  k_call : Keeps spare gr.call_item (λ a. E a.expr)
  k_call = k_seq {Q = λ f. (c : Token) → E (f c).expr} k_one (k_seq {Q = λ f. (n c : Token) → Name n.text → E (f n c).expr} k_name
      (k_seq {Q = λ f. (i n c : Token) → Name i.text → Name n.text → E (f i n c).expr} (k_behind k_one k_name)
      (k_seq (k_maybe {P = Option_e} (k_map (k_behind k_one (k_before k_expr k_one)) (λ a h. h)) tt) k_arguments (λ o l h g i n c j k. call_e o l i n c h g j k))
      (λ i f j h n c k. h i n c j k)) (λ n f k h c. h n c k)) (λ c f u h. h c)

  k_primary : (c : Bool) (x : Sort) → Keeps spare (primary c x) (λ a. E a.expr)
  k_primary c s.Word = k_map k_word (λ t h. as_view (tree.Name t.text t.pos) (view.name_view t.pos t.text) (w_one h))
  k_primary c s.Number = k_map (k_number (λ t h. h)) (λ t h. as_view (tree.Number t.text t.pos) (view.number_view t.pos t.text) (w_one h))
  k_primary c s.Char = k_map (k_char (λ t h. h)) (λ t h. as_view (tree.Char t.text t.pos) (view.char_view t.pos t.text) (w_one h))
  k_primary c s.Null = k_map k_one (λ t u. as_view (tree.Null t.pos) (view.null_view t.pos) (w_one refl))
  k_primary c s.LParen = k_bracketed c
  k_primary c s.Plus = k_signed
  k_primary c s.Minus = k_signed
  k_primary c s.Star = k_signed
  k_primary c s.Amp = k_signed
  k_primary c s.Complement = k_signed
  k_primary c s.Step = k_signed
  k_primary c s.SizeOf = k_seq {Q = λ f. (o : Token) → E (f o).expr} k_one (k_by k_sized) (λ o f u h. h o)
  k_primary c s.Unique = k_seq k_one (k_behind k_one (k_before (k_text (λ t h. h)) k_one)) (λ o t u h. unique_e o t h)
  k_primary c s.PortRead = k_seq k_one (k_behind k_one (k_before k_expr k_one)) (λ o a u h. as_view (tree.PortRead a.expr o.pos) (view.port_read_view o.pos a.expr) (w_cons refl (w_parens (w_at 2 a.expr h))))
  k_primary c s.PortWrite = k_seq {Q = λ f. (o : Token) → E (f o).expr} k_one (k_seq (k_behind k_one (k_before k_expr k_one)) (k_before k_expr k_one)
      (λ a b h g o. as_view (tree.PortWrite a.expr b.expr o.pos) (view.port_write_view o.pos a.expr b.expr) (w_cons refl (w_parens (w_join (w_at 2 a.expr h) (w_cons comma_whole (w_at 1 b.expr g))))))) (λ o f u h. h o)
  k_primary c s.Post = k_seq k_one (k_before k_name (k_behind k_one k_one)) (λ o t u h. as_view (tree.Post t.text o.pos) (view.post_view o.pos t.text) (w_cons refl (w_cons h (w_parens w_nil))))
  k_primary c s.Call = k_call
  k_primary c _ = k_none

  k_binary : {x : Sort} (n : ℕ) → Keeps spare (gr.binary x n) Grows
  k_binary n = k_seq k_one k_expr (λ o b u h a from k. as_view (tree.Binary (gr.infix_of o) a b.expr from) (view.binary_view from (gr.infix_of o) a b.expr) (w_join (w_at (infix_level (gr.infix_of o)) a k) (w_cons (infix_whole (gr.infix_of o)) (w_at (suc (infix_level (gr.infix_of o))) b.expr h))))

  k_assign : {x : Sort} → Keeps spare (gr.assign x) Grows
  k_assign = k_seq k_one k_expr (λ o b u h a from k. as_view (tree.Assign (gr.assignment_of o) a b.expr from) (view.assign_view from (gr.assignment_of o) a b.expr) (w_join (w_at 14 a k) (w_cons (assignment_whole (gr.assignment_of o)) (w_at 1 b.expr h))))

  k_operation : (x : Sort) → Keeps spare (operation x) Grows
  k_operation s.Comma = k_seq k_one k_expr (λ o b u h a from k. as_view (tree.Comma a b.expr from) (view.comma_view from a b.expr) (w_join k (w_cons comma_whole (w_at 1 b.expr h))))
  k_operation s.Assign = k_assign
  k_operation s.OpAssign = k_assign
  k_operation s.Question = k_seq (k_behind k_one k_expr) (k_behind k_one k_expr) (λ b d h g a from k. as_view (tree.Cond a b.expr d.expr from) (view.choice_view from a b.expr d.expr) (w_join (w_at 3 a k) (w_cons question_whole (w_join h (w_cons colon_whole (w_at 2 d.expr g))))))
  k_operation s.OrOr = k_binary _
  k_operation s.AndAnd = k_binary _
  k_operation s.Bar = k_binary _
  k_operation s.Caret = k_binary _
  k_operation s.Amp = k_binary _
  k_operation s.Equality = k_binary _
  k_operation s.Less = k_binary _
  k_operation s.Greater = k_binary _
  k_operation s.OrEqual = k_binary _
  k_operation s.Shift = k_binary _
  k_operation s.Plus = k_binary _
  k_operation s.Minus = k_binary _
  k_operation s.Star = k_binary _
  k_operation s.Divide = k_binary _
  k_operation s.LBracket = k_behind k_one (k_seq {R = Grows} k_expr k_one (λ b t h u a from k. as_view (tree.Index a b.expr from) (view.index_view from a b.expr) (w_join (w_at 15 a k) (w_brackets h))))
  k_operation s.LParen = k_map k_arguments (λ l h a from k. as_view (tree.CallFn a l.exprs from) (view.call_fn_view from a l.exprs) (w_join (w_at 15 a k) (w_parens (w_args l.exprs h))))
  k_operation s.Dot = k_seq k_one k_name (λ o t u h a from k. as_view (tree.Member a t.text from) (view.member_view from a t.text) (w_join (w_at 15 a k) (w_cons dot_whole (w_one h))))
  k_operation s.Arrow = k_seq k_one k_name (λ o t u h a from k. as_view (tree.Arrow a t.text from) (view.arrow_view from a t.text) (w_join (w_at 15 a k) (w_cons arrow_whole (w_one h))))
  k_operation s.Step = k_map k_one (λ o u a from k. as_view (tree.Postfix (gr.suffix_of o) a from) (view.postfix_view from (gr.suffix_of o) a) (w_join (w_at 15 a k) (w_one (suffix_whole (gr.suffix_of o)))))
  k_operation _ = k_none

  step : (k : Phrase) → Keeps spare (production k) (ExprLaw k)
  unfolding ExprLaw
  step (Phrase.expr m) = k_loop {P = λ a. E a.expr} (k_by (k_primary (admits_cast m))) (λ x. k_map (k_operation x) (λ g h a k. h a.expr a.from k))
  step Phrase.opened = k_loop {P = λ f. (t : Token) → E (f t).expr} k_parens (λ x. k_map (k_operation x) (λ g h f k t. h (f t).expr (f t).from (k t)))
  step Phrase.fields = k_struct_fields
  step Phrase.pointers = k_all
  step Phrase.type = k_type_form
  step _ = record { gives = λ u w a z t. tt }

pub expr_law : (d : ℕ) (k : Phrase) (u w : Place) (a : Of k) → Tokens u.rest → SpellsIn production d k u a w → ExprLaw k a
unfolding SpellsIn
expr_law zero k u w a z h = absurd h
expr_law (suc d) k u w a z h = (step (expr_law d) k).gives u w a z h
