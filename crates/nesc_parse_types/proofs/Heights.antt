-- What is read with at most so many levels has no more of them.
use Rattle.std.proofs.Common.{◌≡◌, ℕ, zero, suc, max, ◌≤◌, Bool, true, false, ◌&&◌, List, [], ◌∷◌, ◌++◌, Option, Some, None, Ok, Err, IfOk, refl, arith}
use Rattle.nm_base.specs.declared.token.Token.{Token}
use Rattle.nesc_tree.specs.declared.sorts.Sort.{Sort}
use Rattle.nesc_tree.specs.declared.sorts.Sort.TheVariants as s
use Rattle.nesc_tree.specs.declared.operand.Operand.{Operand}
use Rattle.nesc_tree.specs.declared.operand.Arguments.{Arguments}
use Rattle.nesc_tree.specs.declared.operand.CastType.{CastType}
use Rattle.nesc_tree.specs.declared.operand.Qualifiers.{Qualifiers}
use Rattle.nesc_tree.specs.declared.operand.Fields.{Fields}
use Rattle.nesc_tree.specs.declared.operand.Declarators.{Declarators}
use Rattle.nesc_tree.specs.declared.operand.Dims.{Dims}
use Rattle.nesc_tree.specs.declared.operand.Item.{Item}
use Rattle.nesc_tree.specs.declared.operand.Items.{Items}
use Rattle.nesc_tree.specs.Level as level
use Rattle.nesc_tree.specs.Sorts.{Names}
use Rattle.nesc_tree.specs.Phrase.{Phrase, Of, begins_type}
use Rattle.nesc_tree.specs.Form.{Form, Place}
use Rattle.nesc_tree.specs.Reading.{Reader, Answer, phrase, ◌>>=◌}
use Rattle.nesc_grammar.specs.Grammar as grammar
use Rattle.nesc_grammar.specs.Grammar.{Growth, expr, somewhere}
use Rattle.nesc_grammar.specs.Production.{production}
use Rattle.nesc_parse_types.specs.Gives.{Found, Gives, form_in, place}
use Rattle.nesc_parse_types.proofs.Kept.{Given, Kept}
use Rattle.nesc_parse_types.proofs.Kept as k

-- a value of the phrase has at most so many levels; those of an opened expression do not depend on where it starts
abbrev pub Fits : ℕ → (p : Phrase) → Of p → Type 0
Fits d (Phrase.expr least) a = a.height ≤ d
Fits d Phrase.opened f = (o : Token) → ((f o).height ≤ d) × ((f o).height ≡ (f somewhere).height)
Fits d Phrase.fields f = f.height ≤ d
Fits d Phrase.pointers n = n ≤ d
Fits d Phrase.type t = t.height ≤ d
Fits d _ a = Unit {0}

abbrev pub Any : {A : Type 0} → A → Type 0
Any a = Unit {0}

module _ (d : ℕ) (nested : (p : Phrase) → Reader (Of p)) (N : (p : Phrase) (q : Place) → Given (Fits d p) (nested p q)) where
  abbrev pub Keeps : {A : Type 0} → (A → Type 0) → Form A → Type 0
  Keeps P g = Kept d nested P g

  mapped : {A B : Type 0} (P : A → Type 0) (Q : B → Type 0) (f : A → B) (g : Form A) → Keeps P g → ((a : A) → P a → Q (f a)) → Keeps Q (grammar.map f g)
  mapped P Q f g h w = k.seq d nested P Any Q (λ a _. f a) g (Form.empty tt) h (k.any d nested (Form.empty tt)) (λ a b u v. w a u)

  behind : {A B : Type 0} (P : B → Type 0) (g : Form A) (h : Form B) → Keeps P h → Keeps P (grammar.behind g h)
  behind P g h v = k.seq d nested Any P P (λ _ b. b) g h (k.any d nested g) v (λ a b u w. w)

  before : {A B : Type 0} (P : A → Type 0) (g : Form A) (h : Form B) → Keeps P g → Keeps P (grammar.before g h)
  before P g h v = k.seq d nested P Any P (λ a _. a) g h v (k.any d nested h) (λ a b u w. u)

  abbrev pub Low : Operand → Type 0
  Low a = a.height ≤ d

  nested_expr : (least : ℕ) → Keeps Low (expr least)
  nested_expr least = k.sub d nested (Fits d) N Low (Phrase.expr least) (λ a. a) (λ a h. h)

  -- ---- types

  abbrev pub Flat : CastType → Type 0
  Flat t = t.height ≤ d

  flat : {A : Type 0} (g : Form A) (f : A → CastType) → ((a : A) → (f a).height ≡ 0) → Keeps Flat (grammar.map f g)
  flat g f h = mapped Any Flat f g (k.any d nested g) (λ a u. let z = h a in omega arith)

  fields : Keeps (λ f. f.height ≤ d) grammar.fields
  fields = k.sub d nested (Fits d) N (λ f. f.height ≤ d) Phrase.fields (λ f. f) (λ a h. h)

  abbrev pub If : {A : Type 0} → (A → Type 0) → Option A → Type 0
  If P None = Unit {0}
  If P (Some a) = P a

  some : {A : Type 0} (P : A → Type 0) (g : Form A) → Keeps P g → Keeps (If P) (Form.maybe (grammar.map Some g) None)
  some P g h = k.maybe d nested (If P) (grammar.map Some g) None (mapped P (If P) Some g h (λ a u. u)) tt

  -- wherever it starts
  abbrev pub Anywhere : (Token → CastType) → Type 0
  Anywhere f = (o : Token) → Flat (f o)

  pub struct_type : (tag : Option (List ℕ)) (f : Option Fields) (o : Token) → If (λ x. x.height ≤ d) f → Flat (grammar.struct_type tag f o)
  struct_type tag None o h = omega arith
  struct_type tag (Some f) o h = h

  pub tagged_struct : Keeps Anywhere grammar.tagged_struct
  tagged_struct = k.seq d nested Any (If (λ f. f.height ≤ d)) Anywhere _ grammar.name _ (k.any d nested grammar.name) (some _ grammar.fields fields) (λ t f u h o. struct_type _ f o h)

  pub struct_of : (x : Sort) → Keeps Anywhere (grammar.struct_of x)
  struct_of s.LBrace = mapped (λ f. f.height ≤ d) Anywhere _ grammar.fields fields (λ f h o. h)
  struct_of _ = tagged_struct

  abbrev pub Short : Items → Type 0
  Short l = l.height ≤ d

  pub item : Keeps (λ m. m.height ≤ d) grammar.item
  item = k.seq d nested Any (If Low) (λ m. m.height ≤ d) _ grammar.name grammar.item_value (k.any d nested grammar.name) (some Low _ (behind Low _ _ (nested_expr level.conditional))) (λ t v u h. valued t v h)
    where
      valued : (t : Token) (v : Option Operand) → If Low v → (grammar.item_of t v).height ≤ d
      valued t None h = omega arith
      valued t (Some v) h = h

  pub items : Keeps Short grammar.items
  items =
      k.loop d nested Short grammar.is_comma grammar.not_ended (λ _. 0) (grammar.map grammar.first_item grammar.item) _ (mapped (λ m. m.height ≤ d) Short grammar.first_item grammar.item item (λ m h. h))
      (λ x. turn (grammar.is_comma x))
    where
      more : (m : Option Item) → If (λ m. m.height ≤ d) m → (l : Items) → 0 ≤ d → Short l → Short (grammar.more_items m l)
      more None h l z w = w
      more (Some m) h l z w = omega arith

      turn : (b : Bool) → Keeps (λ f. (a : Items) → 0 ≤ d → Short a → Short (f a)) (grammar.when b grammar.another_item)
      turn true = mapped (If (λ m. m.height ≤ d)) (λ f. (a : Items) → 0 ≤ d → Short a → Short (f a)) grammar.more_items _ (behind (If (λ m. m.height ≤ d)) _ _ (some (λ m. m.height ≤ d) grammar.item item)) more
      turn false = k.none d nested _

  pub braced_items : Keeps Short grammar.braced_items
  braced_items = behind Short _ _ (before Short _ _ items)

  pub enum_type : (tag : Option (List ℕ)) (l : Option Items) (o : Token) → If (λ x. x.height ≤ d) l → Flat (grammar.enum_type tag l o)
  enum_type tag None o h = omega arith
  enum_type tag (Some l) o h = h

  pub tagged_enum : Keeps Anywhere grammar.tagged_enum
  tagged_enum = k.seq d nested Any (If (λ l. l.height ≤ d)) Anywhere _ grammar.name _ (k.any d nested grammar.name) (some (λ l. l.height ≤ d) grammar.braced_items braced_items) (λ t l u h o. enum_type _ l o h)

  pub enum_of : (x : Sort) → Keeps Anywhere (grammar.enum_of x)
  enum_of s.LBrace = mapped (λ l. l.height ≤ d) Anywhere _ grammar.braced_items braced_items (λ l h o. h)
  enum_of _ = tagged_enum

  pub base_of : (x : Sort) → Keeps Flat (grammar.base_of x)
  base_of s.Void = flat _ _ (λ a. refl)
  base_of s.Signedness = k.seq d nested Any Any Flat _ _ _ (k.any d nested _) (k.any d nested _) (λ t n u v. omega arith)
  base_of s.CharType = flat _ _ (λ a. refl)
  base_of s.Length = k.seq d nested Any Any Flat _ _ _ (k.any d nested _) (k.any d nested _) (λ t n u v. omega arith)
  base_of s.Int = flat _ _ (λ a. refl)
  base_of s.TypeName = flat _ _ (λ a. refl)
  base_of s.Struct = k.seq d nested Any Anywhere Flat _ _ _ (k.any d nested _) (k.by d nested Anywhere grammar.struct_of struct_of) (λ o f u h. h o)
  base_of s.Enum = k.seq d nested Any Anywhere Flat _ _ _ (k.any d nested _) (k.by d nested Anywhere grammar.enum_of enum_of) (λ o f u h. h o)
  base_of _ = k.none d nested Flat

  pub type_form : Keeps Flat grammar.type_form
  type_form =
      k.seq d nested Any (λ f. (q : Qualifiers) → Flat (f q)) Flat _ grammar.qualifiers grammar.qualified (k.any d nested grammar.qualifiers)
      (k.seq d nested Flat Any (λ f. (q : Qualifiers) → Flat (f q)) _ (Form.by grammar.base_of) grammar.qualifiers (k.by d nested Flat grammar.base_of base_of) (k.any d nested grammar.qualifiers) (λ t c h u b. h))
      (λ b f u h. h b)

  pub stars : Keeps (λ n. n ≤ d) grammar.stars
  stars = k.maybe d nested (λ n. n ≤ d) _ 0 (k.sub d nested (Fits d) N (λ n. n ≤ d) Phrase.pointers (λ n. n) (λ a h. h)) (omega arith)

  pub cast_type : Keeps Flat grammar.cast_type
  cast_type = k.seq d nested Flat (λ n. n ≤ d) Flat _ grammar.type_form grammar.stars type_form stars (λ t n u v. omega arith)

  -- ---- fields

  abbrev pub Small : Dims → Type 0
  Small l = l.height ≤ d

  pub dims : Keeps Small grammar.dims
  dims =
      k.many d nested Small grammar.is_bracket grammar.no_dims _ (omega arith)
      (λ x. mapped Low (λ f. (l : Dims) → 0 ≤ d → Small l → Small (f l)) grammar.more_dims _ (behind Low _ _ (before Low _ _ (nested_expr level.conditional))) (λ a h l z w. omega arith))

  pub declarator : Keeps (λ a. a.height ≤ d) grammar.declarator
  declarator =
      k.seq d nested (λ n. n ≤ d) (λ f. (n : ℕ) → n ≤ d → (f n).height ≤ d) (λ a. a.height ≤ d) _ grammar.stars grammar.named_dims stars
      (k.seq d nested Any Small (λ f. (n : ℕ) → n ≤ d → (f n).height ≤ d) grammar.declared grammar.name grammar.dims (k.any d nested grammar.name) dims (λ t l u h n w. omega arith))
      (λ n f h w. w n h)

  pub declarators : Keeps (λ l. l.height ≤ d) grammar.declarators
  declarators =
      k.loop d nested (λ l. l.height ≤ d) grammar.is_comma (λ _ _. true) (λ _. 0) _ _ (mapped (λ a. a.height ≤ d) (λ l. l.height ≤ d) grammar.first_declarator grammar.declarator declarator (λ a h. h))
      (λ x. mapped (λ a. a.height ≤ d) (λ f. (l : Declarators) → 0 ≤ d → l.height ≤ d → (f l).height ≤ d) grammar.more_declarators _ (behind (λ a. a.height ≤ d) _ _ declarator) (λ a h l z w. omega arith))

  pub field : Keeps (λ f. f.height ≤ d) grammar.field
  field =
      k.seq d nested Flat (λ l. l.height ≤ d) (λ f. f.height ≤ d) grammar.field_group grammar.type_form _ type_form (before (λ l. l.height ≤ d) _ _ declarators) (λ t l h w. omega arith)

  pub all_fields : Keeps (λ f. f.height ≤ d) grammar.all_fields
  all_fields =
      k.many d nested (λ f. f.height ≤ d) begins_type grammar.no_fields _ (omega arith)
      (λ x. mapped (λ f. f.height ≤ d) (λ g. (l : Fields) → 0 ≤ d → l.height ≤ d → (g l).height ≤ d) grammar.more_fields grammar.field field (λ f h l z w. omega arith))

  pub struct_fields : Keeps (λ f. f.height ≤ suc d) grammar.struct_fields
  struct_fields =
      behind (λ f. f.height ≤ suc d) _ _
      (before (λ f. f.height ≤ suc d) _ _ (mapped (λ f. f.height ≤ d) (λ f. f.height ≤ suc d) grammar.definition grammar.all_fields all_fields (λ l h. omega arith)))

  -- ---- expressions

  abbrev Next : Operand → Type 0
  Next a = a.height ≤ suc d

  abbrev pub Light : Arguments → Type 0
  Light l = l.height ≤ d

  pub some_arguments : Keeps Light grammar.some_arguments
  some_arguments =
      k.loop d nested Light grammar.is_comma (λ _ _. true) (λ _. 0) _ _
      (mapped Low Light grammar.single (expr level.assignment) (nested_expr level.assignment) (λ a h. h))
      (λ x. mapped Low (λ f. (l : Arguments) → 0 ≤ d → Light l → Light (f l)) grammar.pushed _ (behind Low _ _ (nested_expr level.assignment)) (λ a h l z w. omega arith))

  pub arguments_of : (x : Sort) → Keeps Light (grammar.arguments_of x)
  arguments_of s.RParen = mapped Any Light _ _ (k.any d nested _) (λ t u. omega arith)
  arguments_of _ = before Light _ _ some_arguments

  pub arguments : Keeps Light grammar.arguments
  arguments = behind Light _ _ (k.by d nested Light grammar.arguments_of arguments_of)

  leaf : {A : Type 0} (g : Form A) (f : A → Operand) → ((a : A) → (f a).height ≡ 1) → Keeps Next (grammar.map f g)
  leaf g f h = mapped Any Next f g (k.any d nested g) (λ a u. let z = h a in omega arith)

  pub param : Keeps (If Low) grammar.param
  param = some Low _ (behind Low _ _ (before Low _ _ (nested_expr level.assignment)))

  called : (p : Option Operand) (l : Arguments) → If Low p → Light l → (i n o : Token) → Next (grammar.call_operand p l i n o)
  called None l h w i n o = omega arith
  called (Some a) l h w i n o = omega arith

  call_item : Keeps Next grammar.call_item
  call_item =
      k.seq d nested Any (λ f. (o : Token) → Next (f o)) Next _ _ grammar.element_call (k.any d nested _)
      (k.seq d nested Any (λ f. (n o : Token) → Next (f n o)) (λ f. (o : Token) → Next (f o)) _ grammar.name grammar.item_call (k.any d nested grammar.name)
      (k.seq d nested Any (λ f. (i n o : Token) → Next (f i n o)) (λ f. (n o : Token) → Next (f n o)) _ _ grammar.call_arguments (k.any d nested _)
      (k.seq d nested (If Low) Light (λ f. (i n o : Token) → Next (f i n o)) grammar.call_operand grammar.param grammar.arguments param arguments (λ p l h w. called p l h w))
      (λ i f u h. h i))
      (λ n f u h. h n))
      (λ o f u h. h o)

  signed : (x : Sort) (least : ℕ) → Keeps Next (grammar.signed x least)
  signed x least = k.seq d nested Any Low Next _ _ (expr least) (k.any d nested _) (nested_expr least) (λ o a u h. omega arith)

  abbrev From : (Token → Operand) → Type 0
  From f = (o : Token) → Next (f o)

  cast : Keeps From grammar.cast
  cast = k.seq d nested Flat Low From grammar.cast_operand grammar.cast_type _ cast_type (behind Low _ _ (nested_expr level.cast)) (λ t a h w o. omega arith)

  parens : Keeps (Fits (suc d) Phrase.opened) grammar.parens
  parens = k.seq d nested Low Any _ _ (expr level.comma) _ (nested_expr level.comma) (k.any d nested _) (λ a c h u o. (omega arith, refl))

  bracketed : (b : Bool) → Keeps From (grammar.if_type b grammar.cast grammar.parens)
  bracketed true = cast
  bracketed false = k.weaker d nested (Fits (suc d) Phrase.opened) From grammar.parens (λ f h o. (h o).0) parens

  size_bracketed : (b : Bool) → Keeps (λ f. (p o : Token) → Next (f p o)) (grammar.if_type b grammar.size_type grammar.size_opened)
  size_bracketed true = k.seq d nested Flat Any _ _ grammar.cast_type _ cast_type (k.any d nested _) (λ t c h u p o. omega arith)
  size_bracketed false = k.sub d nested (Fits d) N _ Phrase.opened _ (λ f h p o. let z = (h p).0 in omega arith)

  sized : (x : Sort) → Keeps From (grammar.sized x)
  sized s.LParen =
      k.seq d nested Any (λ f. (p o : Token) → Next (f p o)) From _ _ (Form.by grammar.size_bracketed) (k.any d nested _)
      (k.by d nested (λ f. (p o : Token) → Next (f p o)) grammar.size_bracketed (λ x. size_bracketed (begins_type x))) (λ p f u h. h p)
  sized _ = mapped Low From grammar.size_of_expr (expr level.unary) (nested_expr level.unary) (λ a h o. omega arith)

  primary : (may_cast : Bool) (x : Sort) → Keeps Next (grammar.primary may_cast x)
  primary may_cast s.Word = leaf _ _ (λ a. refl)
  primary may_cast s.Number = leaf _ _ (λ a. refl)
  primary may_cast s.Char = leaf _ _ (λ a. refl)
  primary may_cast s.Null = leaf _ _ (λ a. refl)
  primary may_cast s.LParen =
      k.seq d nested Any From Next _ _ (Form.by (grammar.bracketed may_cast)) (k.any d nested _) (k.by d nested From (grammar.bracketed may_cast) (λ x. bracketed (begins_type x && may_cast))) (λ o f u h. h o)
  primary may_cast s.Plus = signed s.Plus level.cast
  primary may_cast s.Minus = signed s.Minus level.cast
  primary may_cast s.Star = signed s.Star level.cast
  primary may_cast s.Amp = signed s.Amp level.cast
  primary may_cast s.Complement = signed s.Complement level.cast
  primary may_cast s.Step = signed s.Step level.unary
  primary may_cast s.SizeOf = k.seq d nested Any From Next _ _ (Form.by grammar.sized) (k.any d nested _) (k.by d nested From grammar.sized sized) (λ o f u h. h o)
  primary may_cast s.Unique = k.seq d nested Any Any Next _ _ _ (k.any d nested _) (k.any d nested _) (λ o t u v. omega arith)
  primary may_cast s.PortRead = k.seq d nested Any Low Next _ _ _ (k.any d nested _) (behind Low _ _ (before Low _ _ (nested_expr level.conditional))) (λ o a u h. omega arith)
  primary may_cast s.PortWrite =
      k.seq d nested Any From Next _ _ grammar.port_and_value (k.any d nested _)
      (k.seq d nested Low Low From _ _ _ (behind Low _ _ (before Low _ _ (nested_expr level.conditional))) (before Low _ _ (nested_expr level.assignment)) (λ a v h w o. omega arith))
      (λ o f u h. h o)
  primary may_cast s.Post = k.seq d nested Any Any Next _ _ _ (k.any d nested _) (k.any d nested _) (λ o t u v. omega arith)
  primary may_cast s.Call = call_item
  primary may_cast _ = k.none d nested Next

  abbrev Grows : Growth → Type 0
  Grows g = g.height ≤ d

  binary : (x : Sort) (n : ℕ) → Keeps Grows (grammar.binary x n)
  binary x n = k.seq d nested Any Low Grows _ _ (expr (suc n)) (k.any d nested _) (nested_expr (suc n)) (λ o b u h. h)

  assign : (x : Sort) → Keeps Grows (grammar.assign x)
  assign x = k.seq d nested Any Low Grows _ _ (expr level.assignment) (k.any d nested _) (nested_expr level.assignment) (λ o b u h. h)

  plain : {A B : Type 0} (f : A → B → Growth) (g : Form A) (h : Form B) → ((a : A) (b : B) → (f a b).height ≡ 0) → Keeps Grows (Form.seq f g h)
  plain f g h w = k.seq d nested Any Any Grows f g h (k.any d nested g) (k.any d nested h) (λ a b u v. let z = w a b in omega arith)

  operation : (x : Sort) → Keeps Grows (grammar.operation x)
  operation s.Comma = k.seq d nested Any Low Grows _ _ (expr level.assignment) (k.any d nested _) (nested_expr level.assignment) (λ o b u h. h)
  operation s.Assign = assign s.Assign
  operation s.OpAssign = assign s.OpAssign
  operation s.Question =
      k.seq d nested Low Low Grows _ _ _ (behind Low _ _ (nested_expr level.comma)) (behind Low _ _ (nested_expr level.conditional)) (λ b c h w. omega arith)
  operation s.OrOr = binary s.OrOr level.logical_or
  operation s.AndAnd = binary s.AndAnd level.logical_and
  operation s.Bar = binary s.Bar level.bit_or
  operation s.Caret = binary s.Caret level.bit_xor
  operation s.Amp = binary s.Amp level.bit_and
  operation s.Equality = binary s.Equality level.equality
  operation s.Less = binary s.Less level.relational
  operation s.Greater = binary s.Greater level.relational
  operation s.OrEqual = binary s.OrEqual level.relational
  operation s.Shift = binary s.Shift level.shift
  operation s.Plus = binary s.Plus level.additive
  operation s.Minus = binary s.Minus level.additive
  operation s.Star = binary s.Star level.multiplicative
  operation s.Divide = binary s.Divide level.multiplicative
  operation s.LBracket = behind Grows _ _ (k.seq d nested Low Any Grows _ (expr level.comma) _ (nested_expr level.comma) (k.any d nested _) (λ b c h u. h))
  operation s.LParen = mapped Light Grows _ grammar.arguments arguments (λ l h. h)
  operation s.Dot = plain _ _ _ (λ a b. refl)
  operation s.Arrow = plain _ _ _ (λ a b. refl)
  operation s.Step = plain _ _ _ (λ a b. refl)
  operation _ = k.none d nested Grows

  production_fits : (p : Phrase) → Keeps (Fits (suc d) p) (production p)
  production_fits (Phrase.expr least) =
      k.loop d nested Next (grammar.may least) grammar.fits (λ a. a.height) (Form.by (grammar.primary (grammar.admits_cast least))) _ (k.by d nested Next (grammar.primary (grammar.admits_cast least)) (primary (grammar.admits_cast least)))
      (λ x. mapped Grows (λ f. (a : Operand) → a.height ≤ d → Next a → Next (f a)) grammar.grown (grammar.operation x) (operation x) (λ g h a w u. omega arith))
  production_fits Phrase.opened =
      k.loop d nested (Fits (suc d) Phrase.opened) _ _ _ grammar.parens _ parens
      (λ x. mapped Grows (λ g. (f : Token → Operand) → (f somewhere).height ≤ d → Fits (suc d) Phrase.opened f → Fits (suc d) Phrase.opened (g f)) _ (grammar.operation x) (operation x)
      (λ g h f w u o. let e = (u o).1 in let t : suc (max (f o).height g.height) ≤ suc d = omega arith in (t, (rw e refl))))
  production_fits Phrase.fields = struct_fields
  production_fits Phrase.pointers = k.seq d nested Any (λ n. n ≤ d) (λ n. n ≤ suc d) _ _ grammar.stars (k.any d nested _) stars (λ t n u h. omega arith)
  production_fits Phrase.type = k.weaker d nested Flat (Fits (suc d) Phrase.type) grammar.type_form (λ t h. omega arith) type_form
  production_fits p = k.any d nested (production p)

pub phrase_fits : (d : ℕ) (k : Phrase) (p : Place) → Given (Fits d k) (phrase production d k p)
unfolding phrase
phrase_fits zero k p = tt
phrase_fits (suc d) k p = production_fits d (phrase production d) (phrase_fits d) k p

-- so of what was found
pub found : {X : Type 0} (P : X → Type 0) (names : Names) (r : Found X) (y : Answer X) → Gives names r y → Given P y → IfOk r (λ x. P x.0)
found P names (Ok x) y g h = let z : Given P (Ok (x.0, place names x.1.now)) = rw g at h in z
found P names (Err e) y g h = tt

pub opened_fits : (d : ℕ) (o : Token) (p : Place) (x : Answer (Token → Operand)) → Given (Fits d Phrase.opened) x → Given (λ a. a.height ≤ d) (x >>= λ y. Ok (y.0 o, y.1))
opened_fits d o p (Ok x) h = (h o).0
opened_fits d o p (Err e) h = tt

-- so of what a function found by a form
pub found_in : {X : Type 0} (P : X → Type 0) (d : ℕ) (g : Form X) (names : Names) (ts : List Token) (r : Found X) → Kept d (phrase production d) P g → Gives names r (form_in d g names ts) → IfOk r (λ x. P x.0)
found_in P d g names ts r h e = found P names r (form_in d g names ts) e (h (place names ts))

pub cast_type_fits : (d : ℕ) (names : Names) (ts : List Token) (r : Found CastType) → Gives names r (form_in d grammar.cast_type names ts) → IfOk r (λ x. x.0.height ≤ d)
cast_type_fits d names ts r e = found_in (λ t. t.height ≤ d) d grammar.cast_type names ts r (cast_type d (phrase production d) (phrase_fits d)) e

pub arguments_fit : (d : ℕ) (names : Names) (ts : List Token) (r : Found Arguments) → Gives names r (form_in d grammar.arguments names ts) → IfOk r (λ x. x.0.height ≤ d)
arguments_fit d names ts r e = found_in (λ t. t.height ≤ d) d grammar.arguments names ts r (arguments d (phrase production d) (phrase_fits d)) e

pub type_form_fits : (d : ℕ) (names : Names) (ts : List Token) (r : Found CastType) → Gives names r (form_in d grammar.type_form names ts) → IfOk r (λ x. x.0.height ≤ d)
type_form_fits d names ts r e = found_in (λ t. t.height ≤ d) d grammar.type_form names ts r (type_form d (phrase production d) (phrase_fits d)) e

pub all_fields_fit : (d : ℕ) (names : Names) (ts : List Token) (r : Found Fields) → Gives names r (form_in d grammar.all_fields names ts) → IfOk r (λ x. x.0.height ≤ d)
all_fields_fit d names ts r e = found_in (λ t. t.height ≤ d) d grammar.all_fields names ts r (all_fields d (phrase production d) (phrase_fits d)) e
