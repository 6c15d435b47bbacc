-- The grammar: expressions of C99 6.5 with the calls of the nesC 1.3 Reference, and the types that stand in them.
use Rattle.std.specs.Prelude.{ℕ, suc, max, Bool, true, false, ◌&&◌, ◌||◌, if◌then◌else◌, nat_le, List, [], ◌∷◌, ◌++◌, Option, Some, None, codes, bytes_eq}
use Rattle.nm_base.specs.declared.pos.Pos.{Pos}
use Rattle.nm_base.specs.declared.token.Token.{Token}
use Rattle.nm_base.specs.declared.token.Kind.TheVariants as kind
use Rattle.nm_base.specs.declared.int_type.IntType.{IntType}
use Rattle.nm_base.specs.declared.int_type.IntType.TheVariants as int
use Rattle.nesc_tree.specs.declared.sorts.Sort.{Sort}
use Rattle.nesc_tree.specs.declared.sorts.Sort.TheVariants as s
use Rattle.nesc_tree.specs.declared.tree.PreOp.{PreOp}
use Rattle.nesc_tree.specs.declared.tree.PreOp.TheVariants as pre
use Rattle.nesc_tree.specs.declared.tree.PostOp.{PostOp}
use Rattle.nesc_tree.specs.declared.tree.PostOp.TheVariants as post
use Rattle.nesc_tree.specs.declared.tree.InOp.{InOp}
use Rattle.nesc_tree.specs.declared.tree.InOp.TheVariants as op
use Rattle.nesc_tree.specs.declared.tree.Expr.{Expr}
use Rattle.nesc_tree.specs.declared.tree.Expr.TheVariants as e
use Rattle.nesc_tree.specs.declared.tree.Base.{Base}
use Rattle.nesc_tree.specs.declared.tree.Base.TheVariants as b
use Rattle.nesc_tree.specs.declared.tree.FieldGroup.{roll-FieldGroup}
use Rattle.nesc_tree.specs.declared.operand.Operand.{Operand}
use Rattle.nesc_tree.specs.declared.operand.Arguments.{Arguments}
use Rattle.nesc_tree.specs.declared.operand.CastType.{CastType}
use Rattle.nesc_tree.specs.declared.operand.Qualifiers.{Qualifiers}
use Rattle.nesc_tree.specs.declared.operand.Fields.{Fields}
use Rattle.nesc_tree.specs.declared.operand.Grouped.{Grouped}
use Rattle.nesc_tree.specs.declared.operand.Item.{Item}
use Rattle.nesc_tree.specs.declared.operand.Items.{Items}
use Rattle.nesc_tree.specs.declared.operand.Dims.{Dims}
use Rattle.nesc_tree.specs.declared.operand.Declared.{Declared}
use Rattle.nesc_tree.specs.declared.operand.Declarators.{Declarators}
use Rattle.nesc_tree.specs.declared.operand.Width.{Width}
use Rattle.nesc_tree.specs.declared.operand.Width.TheVariants as w
use Rattle.nesc_tree.specs.Level as level
pub use Rattle.nesc_tree.specs.Phrase.{begins_type, is_operator}
use Rattle.nesc_tree.specs.Phrase.{Phrase}
use Rattle.nesc_tree.specs.Form.{Form}

abbrev pub one : Sort → Form Token
one x = Form.token x (λ t. t)

abbrev pub map : {A B : Type 0} → (A → B) → Form A → Form B
map f g = Form.seq {B = Unit {0}} (λ a _. f a) g (Form.empty tt)

-- the value that the form's value gives for this one
abbrev pub applied : {A B : Type 0} → A → Form (A → B) → Form B
applied a g = map (λ f. f a) g

abbrev pub expr : ℕ → Form Operand
expr least = Form.sub (Phrase.expr least) (λ a. a)

-- the value of the first, then that of the second
abbrev pub behind : {A B : Type 0} → Form A → Form B → Form B
behind g h = Form.seq (λ _ b. b) g h

abbrev pub before : {A B : Type 0} → Form A → Form B → Form A
before g h = Form.seq (λ a _. a) g h

-- the value of the second is made with that of the first
abbrev pub with : {A B : Type 0} → Form A → Form (A → B) → Form B
with g h = Form.seq (λ a f. f a) g h

abbrev pub if_type : {A : Type 0} → Bool → Form A → Form A → Form A
if_type true g h = g
if_type false g h = h

abbrev pub when : {A : Type 0} → Bool → Form A → Form A
when c g = if_type c g Form.none

-- a name, also where it is a type name
abbrev pub name_of : Sort → Form Token
name_of s.TypeName = one s.TypeName
name_of _ = one s.Word

abbrev pub name : Form Token
name = Form.by name_of

-- ---- operators by their spelling

abbrev pub spelled : Token → List ℕ → Bool
spelled t text = bytes_eq t.text text

unfoldable pub infix_of : Token → InOp
infix_of t =
    if spelled t (codes "*") then op.Mul else (
    if spelled t (codes "/") then op.Div else (
    if spelled t (codes "%") then op.Rem else (
    if spelled t (codes "+") then op.Add else (
    if spelled t (codes "-") then op.Sub else (
    if spelled t (codes "<<") then op.Shl else (
    if spelled t (codes ">>") then op.Shr else (
    if spelled t (codes "<") then op.Lt else (
    if spelled t (codes ">") then op.Gt else (
    if spelled t (codes "<=") then op.Le else (
    if spelled t (codes ">=") then op.Ge else (
    if spelled t (codes "==") then op.Eq else (
    if spelled t (codes "!=") then op.Ne else (
    if spelled t (codes "&") then op.And else (
    if spelled t (codes "^") then op.Xor else (
    if spelled t (codes "|") then op.Or else (
    if spelled t (codes "&&") then op.AndAnd else op.OrOr))))))))))))))))

-- the operator of an assignment; none is that of `=`
unfoldable pub assignment_of : Token → Option InOp
assignment_of t =
    if spelled t (codes "=") then None else (
    if spelled t (codes "*=") then Some op.Mul else (
    if spelled t (codes "/=") then Some op.Div else (
    if spelled t (codes "%=") then Some op.Rem else (
    if spelled t (codes "+=") then Some op.Add else (
    if spelled t (codes "-=") then Some op.Sub else (
    if spelled t (codes "<<=") then Some op.Shl else (
    if spelled t (codes ">>=") then Some op.Shr else (
    if spelled t (codes "&=") then Some op.And else (
    if spelled t (codes "^=") then Some op.Xor else Some op.Or)))))))))

unfoldable pub prefix_of : Token → PreOp
prefix_of t =
    if spelled t (codes "++") then pre.Inc else (
    if spelled t (codes "--") then pre.Dec else (
    if spelled t (codes "&") then pre.Addr else (
    if spelled t (codes "*") then pre.Deref else (
    if spelled t (codes "+") then pre.Plus else (
    if spelled t (codes "-") then pre.Neg else (
    if spelled t (codes "~") then pre.Not else pre.IsZero))))))

unfoldable pub suffix_of : Token → PostOp
suffix_of t = if spelled t (codes "++") then post.Inc else post.Dec

-- ---- types between parentheses (C99 6.7.2, 6.7.6)

abbrev pub integer : Bool → Width → IntType
integer true w.Char = int.U8
integer true w.Short = int.U16
integer true w.Long = int.U32
integer false w.Char = int.I8
integer false w.Short = int.I16
integer false w.Long = int.I32

unfoldable pub is_unsigned : Token → Bool
is_unsigned t = spelled t (codes "unsigned")

unfoldable pub is_const : Token → Bool
is_const t = spelled t (codes "const")

unfoldable pub length_of : Token → Width
length_of t = if spelled t (codes "long") then w.Long else w.Short

-- whether the token stands there; it tells nothing else
abbrev pub optional : Sort → Form Bool
optional x = Form.maybe (map (λ _. true) (one x)) false

abbrev pub width_of : Sort → Form Width
width_of s.CharType = map (λ _. w.Char) (one s.CharType)
width_of s.Length = Form.seq (λ t _. length_of t) (one s.Length) (optional s.Int)
width_of s.Int = map (λ _. w.Short) (one s.Int)
width_of _ = Form.none

-- a base with the height of the definition in it and the place of its first token
abbrev pub plain : Base → ℕ → Pos → CastType
plain base height from = record { ty = record { base = base; stars = 0; dims = []; is_const = false }; from = from; height = height }

-- `signed` alone is `signed int`
abbrev pub width : Form Width
width = Form.maybe (Form.by width_of) w.Short

abbrev pub signed_base : Form CastType
signed_base = Form.seq (λ t n. plain (b.Int (integer (is_unsigned t) n)) 0 t.pos) (one s.Signedness) width

abbrev pub char_base : Form CastType
char_base = map (λ t. plain (b.Int (integer false w.Char)) 0 t.pos) (one s.CharType)

abbrev pub length_base : Form CastType
length_base = Form.seq (λ t _. plain (b.Int (integer false (length_of t))) 0 t.pos) (one s.Length) (optional s.Int)

abbrev pub int_base : Form CastType
int_base = map (λ t. plain (b.Int (integer false w.Short)) 0 t.pos) (one s.Int)

abbrev pub fields : Form Fields
fields = Form.sub Phrase.fields (λ f. f)

abbrev pub struct_type : Option (List ℕ) → Option Fields → Token → CastType
struct_type tag None o = plain (b.Struct tag None) 0 o.pos
struct_type tag (Some f) o = plain (b.Struct tag (Some f.groups)) f.height o.pos

abbrev pub some_fields : Form (Option Fields)
some_fields = Form.maybe (map Some fields) None

abbrev pub tagged_struct : Form (Token → CastType)
tagged_struct = Form.seq (λ t f o. struct_type (Some t.text) f o) name some_fields

abbrev pub untagged_struct : Form (Token → CastType)
untagged_struct = map (λ f o. struct_type None (Some f) o) fields

-- behind `struct`
abbrev pub struct_of : Sort → Form (Token → CastType)
struct_of s.LBrace = untagged_struct
struct_of _ = tagged_struct

abbrev pub value_of : Option Operand → Option Expr
value_of None = None
value_of (Some a) = Some a.expr

abbrev pub height_of : Option Operand → ℕ
height_of None = 0
height_of (Some a) = a.height

abbrev pub item_of : Token → Option Operand → Item
item_of t v = record { item = record { name = t.text; value = value_of v; pos = t.pos }; height = height_of v }

abbrev pub item_value : Form (Option Operand)
item_value = Form.maybe (map Some (behind (one s.Assign) (expr level.conditional))) None

abbrev pub item : Form Item
item = Form.seq item_of name item_value

abbrev pub first_item : Item → Items
first_item m = record { items = m.item ∷ []; height = m.height; ended = false }

abbrev pub more_items : Option Item → Items → Items
more_items None l = record { items = l.items; height = l.height; ended = true }
more_items (Some m) l = record { items = l.items ++ (m.item ∷ []); height = max l.height m.height; ended = false }

abbrev pub is_comma : Sort → Bool
is_comma s.Comma = true
is_comma _ = false

abbrev pub not_ended : Items → Sort → Bool
not_ended l x = if l.ended then false else true

abbrev pub some_item : Form (Option Item)
some_item = Form.maybe (map Some item) None

abbrev pub another_item : Form (Items → Items)
another_item = map more_items (behind (one s.Comma) some_item)

abbrev pub items : Form Items
items = Form.loop is_comma not_ended (λ _. 0) (map first_item item) (λ x. when (is_comma x) another_item)

abbrev pub braced_items : Form Items
braced_items = behind (one s.LBrace) (before items (one s.RBrace))

abbrev pub enum_type : Option (List ℕ) → Option Items → Token → CastType
enum_type tag None o = plain (b.Enum tag None) 0 o.pos
enum_type tag (Some l) o = plain (b.Enum tag (Some l.items)) l.height o.pos

abbrev pub some_items : Form (Option Items)
some_items = Form.maybe (map Some braced_items) None

abbrev pub tagged_enum : Form (Token → CastType)
tagged_enum = Form.seq (λ t l o. enum_type (Some t.text) l o) name some_items

abbrev pub untagged_enum : Form (Token → CastType)
untagged_enum = map (λ l o. enum_type None (Some l) o) braced_items

-- behind `enum`
abbrev pub enum_of : Sort → Form (Token → CastType)
enum_of s.LBrace = untagged_enum
enum_of _ = tagged_enum

abbrev pub void_base : Form CastType
void_base = map (λ t. plain b.Void 0 t.pos) (one s.Void)

abbrev pub named_base : Form CastType
named_base = map (λ t. plain (b.Named t.text) 0 t.pos) (one s.TypeName)

abbrev pub struct_base : Form CastType
struct_base = with (one s.Struct) (Form.by struct_of)

abbrev pub enum_base : Form CastType
enum_base = with (one s.Enum) (Form.by enum_of)

-- a type by its first token
abbrev pub base_of : Sort → Form CastType
base_of s.Void = void_base
base_of s.Signedness = signed_base
base_of s.CharType = char_base
base_of s.Length = length_base
base_of s.Int = int_base
base_of s.TypeName = named_base
base_of s.Struct = struct_base
base_of s.Enum = enum_base
base_of _ = Form.none

abbrev pub is_qualifier : Sort → Bool
is_qualifier s.Qualifier = true
is_qualifier _ = false

abbrev pub first_of : {A : Type 0} → Option A → A → A
first_of None b = b
first_of (Some a) b = a

abbrev pub more_qualifiers : Token → Qualifiers → Qualifiers
more_qualifiers t q = record { has_const = q.has_const || is_const t; from = Some (first_of q.from t.pos) }

abbrev pub no_qualifiers : Qualifiers
no_qualifiers = record { has_const = false; from = None }

abbrev pub another_qualifier : Form (Qualifiers → Qualifiers)
another_qualifier = map more_qualifiers (one s.Qualifier)

abbrev pub qualifiers : Form Qualifiers
qualifiers = Form.many is_qualifier no_qualifiers (λ _. another_qualifier)

abbrev pub type_of : Qualifiers → CastType → Qualifiers → CastType
type_of first t second = record { ty = record { base = t.ty.base; stars = t.ty.stars; dims = t.ty.dims; is_const = first.has_const || second.has_const }; from = first_of first.from t.from; height = t.height }

abbrev pub base : Form CastType
base = Form.by base_of

abbrev pub qualified : Form (Qualifiers → CastType)
qualified = Form.seq (λ t second first. type_of first t second) base qualifiers

abbrev pub type_form : Form CastType
type_form = with qualifiers qualified

-- stars of a declarator nest in one another, beside the type before them
abbrev pub stars : Form ℕ
stars = Form.maybe (Form.sub Phrase.pointers (λ n. n)) 0

abbrev pub pointer : CastType → ℕ → CastType
pointer t n = record { ty = record { base = t.ty.base; stars = n; dims = t.ty.dims; is_const = t.ty.is_const }; from = t.from; height = max t.height n }

-- a type and its stars
abbrev pub cast_type : Form CastType
cast_type = Form.seq pointer type_form stars

-- ---- fields (C99 6.7.2.1)

abbrev pub more_dims : Operand → Dims → Dims
more_dims a l = record { exprs = l.exprs ++ (a.expr ∷ []); height = max l.height a.height }

abbrev pub no_dims : Dims
no_dims = record { exprs = []; height = 0 }

abbrev pub is_bracket : Sort → Bool
is_bracket s.LBracket = true
is_bracket _ = false

abbrev pub another_dim : Form (Dims → Dims)
another_dim = map more_dims (behind (one s.LBracket) (before (expr level.conditional) (one s.RBracket)))

abbrev pub dims : Form Dims
dims = Form.many is_bracket no_dims (λ _. another_dim)

abbrev pub declared : Token → Dims → ℕ → Declared
declared t l n = record { declarator = record { stars = n; name = t.text; dims = l.exprs }; height = max n l.height }

abbrev pub named_dims : Form (ℕ → Declared)
named_dims = Form.seq declared name dims

abbrev pub declarator : Form Declared
declarator = with stars named_dims

abbrev pub first_declarator : Declared → Declarators
first_declarator d = record { list = d.declarator ∷ []; height = d.height }

abbrev pub more_declarators : Declared → Declarators → Declarators
more_declarators d l = record { list = l.list ++ (d.declarator ∷ []); height = max l.height d.height }

abbrev pub another_declarator : Form (Declarators → Declarators)
another_declarator = map more_declarators (behind (one s.Comma) declarator)

abbrev pub declarators : Form Declarators
declarators = Form.loop is_comma (λ _ _. true) (λ _. 0) (map first_declarator declarator) (λ _. another_declarator)

-- the type stands once, however many fields it has
abbrev pub field_group : CastType → Declarators → Grouped
field_group t l = record { group = roll-FieldGroup (record { ty = t.ty; fields = l.list }); height = max t.height l.height }

abbrev pub field : Form Grouped
field = Form.seq field_group type_form (before declarators (one s.Semi))

abbrev pub more_fields : Grouped → Fields → Fields
more_fields f l = record { groups = l.groups ++ (f.group ∷ []); height = max l.height f.height }

abbrev pub no_fields : Fields
no_fields = record { groups = []; height = 0 }

abbrev pub definition : Fields → Fields
definition l = record { groups = l.groups; height = suc l.height }

abbrev pub another_field : Form (Fields → Fields)
another_field = map more_fields field

abbrev pub all_fields : Form Fields
all_fields = Form.many begins_type no_fields (λ _. another_field)

abbrev pub struct_fields : Form Fields
struct_fields = behind (one s.LBrace) (before (map definition all_fields) (one s.RBrace))

-- ---- expressions

abbrev pub operand : Expr → Pos → ℕ → ℕ → Operand
operand a from level height = record { expr = a; from = from; level = level; height = height }

abbrev pub leaf_operand : Expr → Token → Operand
leaf_operand a t = operand a t.pos level.postfix 1

abbrev pub unary_operand : Token → Operand → Operand
unary_operand o a = operand (e.Unary (prefix_of o) a.expr o.pos) o.pos level.unary (suc a.height)

abbrev pub cast_operand : CastType → Operand → Token → Operand
cast_operand t a o = operand (e.Cast t.ty a.expr o.pos) o.pos level.cast (suc (max t.height a.height))

-- parentheses are a level and no node
abbrev pub paren_operand : Operand → Token → Operand
paren_operand a o = operand a.expr o.pos level.postfix (suc a.height)

abbrev pub size_of_type : CastType → Token → Operand
size_of_type t o = operand (e.SizeOfType t.ty o.pos) o.pos level.unary (suc t.height)

abbrev pub size_of_expr : Operand → Token → Operand
size_of_expr a o = operand (e.SizeOfExpr a.expr o.pos) o.pos level.unary (suc a.height)

unfoldable pub unique_expr : Token → Token → Expr
unique_expr o t = if spelled o (codes "unique") then e.Unique t.text o.pos else e.UniqueCount t.text o.pos

unfoldable pub is_signal : Token → Bool
is_signal t = spelled t (codes "signal")

-- what makes a longer expression of the one before it: its level, the greatest height of its other parts, and the node
pub record Growth : Type 0 where
  pub level : ℕ
  pub height : ℕ
  pub node : Expr → Pos → Expr

abbrev pub grown : Growth → Operand → Operand
grown g a = operand (g.node a.expr a.from) a.from g.level (suc (max a.height g.height))

abbrev pub growth : ℕ → ℕ → (Expr → Pos → Expr) → Growth
growth level height node = record { level = level; height = height; node = node }

-- ---- arguments

abbrev pub single : Operand → Arguments
single a = record { exprs = a.expr ∷ []; height = a.height }

abbrev pub pushed : Operand → Arguments → Arguments
pushed a l = record { exprs = l.exprs ++ (a.expr ∷ []); height = max l.height a.height }

abbrev pub no_arguments : Arguments
no_arguments = record { exprs = []; height = 0 }

abbrev pub some_arguments : Form Arguments
some_arguments = Form.loop is_comma (λ _ _. true) (λ _. 0) (map single (expr level.assignment)) (λ _. map pushed (behind (one s.Comma) (expr level.assignment)))

abbrev pub arguments_of : Sort → Form Arguments
arguments_of s.RParen = map (λ _. no_arguments) (one s.RParen)
arguments_of _ = before some_arguments (one s.RParen)

abbrev pub arguments : Form Arguments
arguments = behind (one s.LParen) (Form.by arguments_of)

-- ---- primaries

abbrev pub name_leaf : Form Operand
name_leaf = map (λ t. leaf_operand (e.Name t.text t.pos) t) (one s.Word)

abbrev pub number_leaf : Form Operand
number_leaf = map (λ t. leaf_operand (e.Number t.text t.pos) t) (one s.Number)

abbrev pub char_leaf : Form Operand
char_leaf = map (λ t. leaf_operand (e.Char t.text t.pos) t) (one s.Char)

abbrev pub null_leaf : Form Operand
null_leaf = map (λ t. leaf_operand (e.Null t.pos) t) (one s.Null)

abbrev pub unique : Form Operand
unique = Form.seq (λ o t. leaf_operand (unique_expr o t) o) (one s.Unique) (behind (one s.LParen) (before (one s.Text) (one s.RParen)))

abbrev pub post_call : Form Operand
post_call = Form.seq (λ o t. leaf_operand (e.Post t.text o.pos) o) (one s.Post) (before name (behind (one s.LParen) (one s.RParen)))

abbrev pub port_read : Form Operand
port_read = Form.seq (λ o a. operand (e.PortRead a.expr o.pos) o.pos level.postfix (suc a.height)) (one s.PortRead) (behind (one s.LParen) (before (expr level.conditional) (one s.RParen)))

abbrev pub port_and_value : Form (Token → Operand)
port_and_value =
    Form.seq (λ a v o. operand (e.PortWrite a.expr v.expr o.pos) o.pos level.postfix (suc (max a.height v.height))) (behind (one s.LParen) (before (expr level.conditional) (one s.Comma)))
    (before (expr level.assignment) (one s.RParen))

abbrev pub port_write : Form Operand
port_write = with (one s.PortWrite) port_and_value

abbrev pub call_operand : Option Operand → Arguments → Token → Token → Token → Operand
call_operand p l i n o = operand (e.CallItem (is_signal o) n.text i.text (value_of p) l.exprs o.pos) o.pos level.postfix (suc (max (height_of p) l.height))

abbrev pub param : Form (Option Operand)
param = Form.maybe (map Some (behind (one s.LBracket) (before (expr level.assignment) (one s.RBracket)))) None

abbrev pub call_arguments : Form (Token → Token → Token → Operand)
call_arguments = Form.seq call_operand param arguments

abbrev pub item_call : Form (Token → Token → Operand)
item_call = with (behind (one s.Dot) name) call_arguments

abbrev pub element_call : Form (Token → Operand)
element_call = with name item_call

abbrev pub call_item : Form Operand
call_item = with (one s.Call) element_call

abbrev pub signed : Sort → ℕ → Form Operand
signed x least = Form.seq unary_operand (one x) (expr least)

-- behind `(`
abbrev pub cast : Form (Token → Operand)
cast = Form.seq cast_operand cast_type (behind (one s.RParen) (expr level.cast))

abbrev pub parens : Form (Token → Operand)
parens = Form.seq (λ a _. paren_operand a) (expr level.comma) (one s.RParen)

-- where no cast may stand, no type is behind `(`
abbrev pub bracketed : Bool → Sort → Form (Token → Operand)
bracketed may_cast x = if_type (begins_type x && may_cast) cast parens

abbrev pub bracketed_expr : Bool → Form Operand
bracketed_expr may_cast = with (one s.LParen) (Form.by (bracketed may_cast))

-- behind `sizeof (`
abbrev pub size_type : Form (Token → Token → Operand)
size_type = Form.seq (λ t _ _. size_of_type t) cast_type (one s.RParen)

abbrev pub size_opened : Form (Token → Token → Operand)
size_opened = Form.sub Phrase.opened (λ f p. size_of_expr (f p))

abbrev pub size_bracketed : Sort → Form (Token → Token → Operand)
size_bracketed x = if_type (begins_type x) size_type size_opened

abbrev pub sized : Sort → Form (Token → Operand)
sized s.LParen = with (one s.LParen) (Form.by size_bracketed)
sized _ = map size_of_expr (expr level.unary)

abbrev pub size_of : Form Operand
size_of = with (one s.SizeOf) (Form.by sized)

-- what an expression begins with, by its first token, where a cast may stand or may not
abbrev pub primary : Bool → Sort → Form Operand
primary may_cast s.Word = name_leaf
primary may_cast s.Number = number_leaf
primary may_cast s.Char = char_leaf
primary may_cast s.Null = null_leaf
primary may_cast s.LParen = bracketed_expr may_cast
primary may_cast s.Plus = signed s.Plus level.cast
primary may_cast s.Minus = signed s.Minus level.cast
primary may_cast s.Star = signed s.Star level.cast
primary may_cast s.Amp = signed s.Amp level.cast
primary may_cast s.Complement = signed s.Complement level.cast
primary may_cast s.Step = signed s.Step level.unary
primary may_cast s.SizeOf = size_of
primary may_cast s.Unique = unique
primary may_cast s.PortRead = port_read
primary may_cast s.PortWrite = port_write
primary may_cast s.Post = post_call
primary may_cast s.Call = call_item
primary may_cast _ = Form.none

-- ---- what goes on an expression

-- the level of the expression that the token makes of what stands before it
abbrev pub binds : Sort → ℕ
binds s.Comma = level.comma
binds s.Assign = level.assignment
binds s.OpAssign = level.assignment
binds s.Question = level.conditional
binds s.OrOr = level.logical_or
binds s.AndAnd = level.logical_and
binds s.Bar = level.bit_or
binds s.Caret = level.bit_xor
binds s.Amp = level.bit_and
binds s.Equality = level.equality
binds s.Less = level.relational
binds s.Greater = level.relational
binds s.OrEqual = level.relational
binds s.Shift = level.shift
binds s.Plus = level.additive
binds s.Minus = level.additive
binds s.Star = level.multiplicative
binds s.Divide = level.multiplicative
binds _ = level.postfix

-- the least level of the expression that the token goes on; operators of one level group from the left
abbrev pub needs : Sort → ℕ
needs s.Assign = level.unary
needs s.OpAssign = level.unary
needs s.Question = level.logical_or
needs x = binds x

abbrev pub binary : Sort → ℕ → Form Growth
binary x n = Form.seq (λ o b. growth n b.height (λ a from. e.Binary (infix_of o) a b.expr from)) (one x) (expr (suc n))

abbrev pub comma : Form Growth
comma = Form.seq (λ _ b. growth level.comma b.height (λ a from. e.Comma a b.expr from)) (one s.Comma) (expr level.assignment)

abbrev pub assign : Sort → Form Growth
assign x = Form.seq (λ o b. growth level.assignment b.height (λ a from. e.Assign (assignment_of o) a b.expr from)) (one x) (expr level.assignment)

abbrev pub choose : Form Growth
choose =
    Form.seq (λ b d. growth level.conditional (max b.height d.height) (λ a from. e.Cond a b.expr d.expr from)) (behind (one s.Question) (expr level.comma))
    (behind (one s.Colon) (expr level.conditional))

abbrev pub index : Form Growth
index = behind (one s.LBracket) (Form.seq (λ b _. growth level.postfix b.height (λ a from. e.Index a b.expr from)) (expr level.comma) (one s.RBracket))

abbrev pub call_function : Form Growth
call_function = map (λ l. growth level.postfix l.height (λ a from. e.CallFn a l.exprs from)) arguments

abbrev pub member : Form Growth
member = Form.seq (λ _ t. growth level.postfix 0 (λ a from. e.Member a t.text from)) (one s.Dot) name

abbrev pub arrow : Form Growth
arrow = Form.seq (λ _ t. growth level.postfix 0 (λ a from. e.Arrow a t.text from)) (one s.Arrow) name

abbrev pub step : Form Growth
step = map (λ o. growth level.postfix 0 (λ a from. e.Postfix (suffix_of o) a from)) (one s.Step)

abbrev pub operation : Sort → Form Growth
operation s.Comma = comma
operation s.Assign = assign s.Assign
operation s.OpAssign = assign s.OpAssign
operation s.Question = choose
operation s.OrOr = binary s.OrOr level.logical_or
operation s.AndAnd = binary s.AndAnd level.logical_and
operation s.Bar = binary s.Bar level.bit_or
operation s.Caret = binary s.Caret level.bit_xor
operation s.Amp = binary s.Amp level.bit_and
operation s.Equality = binary s.Equality level.equality
operation s.Less = binary s.Less level.relational
operation s.Greater = binary s.Greater level.relational
operation s.OrEqual = binary s.OrEqual level.relational
operation s.Shift = binary s.Shift level.shift
operation s.Plus = binary s.Plus level.additive
operation s.Minus = binary s.Minus level.additive
operation s.Star = binary s.Star level.multiplicative
operation s.Divide = binary s.Divide level.multiplicative
operation s.LBracket = index
operation s.LParen = call_function
operation s.Dot = member
operation s.Arrow = arrow
operation s.Step = step
operation _ = Form.none

abbrev pub may : ℕ → Sort → Bool
may least o = is_operator o && nat_le least (binds o)

abbrev pub fits : Operand → Sort → Bool
fits left o = nat_le (needs o) left.level

-- level and height of what is opened do not depend on where it starts
abbrev pub somewhere : Token
somewhere = record { kind = kind.Sign; text = codes "("; pos = record { file = 0; line = 1; col = 1 }; first = false }

abbrev pub expression : Bool → ℕ → Form Operand
expression may_cast least = Form.loop (may least) fits (λ a. a.height) (Form.by (primary may_cast)) (λ x. map grown (operation x))

-- a unary expression, as the operand of `++`, begins with no cast (C99 6.5.3)
abbrev pub admits_cast : ℕ → Bool
admits_cast least = nat_le least level.cast
