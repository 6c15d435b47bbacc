-- The words of expressions, with the parentheses that their levels need (C99 6.5; calls of the nesC 1.3 Reference), and of types (C99 6.7).
use Rattle.std.specs.Prelude.{ℕ, suc, Bool, true, false, if◌then◌else◌, List, [], ◌∷◌, ◌++◌, codes, Option, Some, None}
use Rattle.nm_base.specs.declared.int_type.IntType.{IntType}
use Rattle.nesc_tree.specs.Level as level
use Rattle.nesc_tree.specs.Plain as p
use Rattle.nesc_print_words.specs.Lexemes.{Words, word, sign, number, character, literal, comma, semicolon, in_parentheses, in_brackets, in_braces, enclosed, flagged, stars}
use Rattle.nesc_print_words.specs.Operators.{infix_text, infix_level, assignment_text, prefix_text, prefix_needs, suffix_text, is_unsigned_type, integer_text}

-- the level of an expression that stands without parentheses
abbrev pub level_of : p.Expr → ℕ
level_of (p.name n at) = level.postfix
level_of (p.number n at) = level.postfix
level_of (p.char n at) = level.postfix
level_of (p.null at) = level.postfix
level_of (p.unique n at) = level.postfix
level_of (p.unique_count n at) = level.postfix
level_of (p.unary o e at) = level.unary
level_of (p.postfix o e at) = level.postfix
level_of (p.binary o a b at) = infix_level o
level_of (p.assign o a b at) = level.assignment
level_of (p.choice a b c at) = level.conditional
level_of (p.comma a b at) = level.comma
level_of (p.cast t e at) = level.cast
level_of (p.size_of_expr e at) = level.unary
level_of (p.size_of_type t at) = level.unary
level_of (p.index a i at) = level.postfix
level_of (p.member e n at) = level.postfix
level_of (p.arrow e n at) = level.postfix
level_of (p.call_fn f arguments at) = level.postfix
level_of (p.call_item signal element item param arguments at) = level.postfix
level_of (p.port_read port at) = level.postfix
level_of (p.port_write port e at) = level.postfix
level_of (p.post n at) = level.postfix

-- the words of an expression where one of at least that level stands
abbrev pub within : ℕ → p.Expr → Words → Words
within least e ws = enclosed least (level_of e) ws

abbrev pub call_word : (signal : Bool) → List ℕ
call_word true = codes "signal"
call_word false = codes "call"

abbrev pub integer_words : IntType → Words
integer_words t = if is_unsigned_type t then word (codes "unsigned") ∷ word (integer_text t) ∷ [] else word (integer_text t) ∷ []

abbrev pub tag_words : Option (List ℕ) → Words
tag_words None = []
tag_words (Some n) = word n ∷ []

-- a name between the stars and the dimensions that are declared with it
abbrev pub declarator_words : ℕ → List ℕ → Words → Words
declarator_words n name dims = stars n ++ (word name ∷ dims)

abbrev mutual
  -- an expression without parentheses of its own
  pub expr_words : p.Expr → Words
  expr_words (p.name n at) = word n ∷ []
  expr_words (p.number n at) = number n ∷ []
  expr_words (p.char n at) = character n ∷ []
  expr_words (p.null at) = word (codes "NULL") ∷ []
  expr_words (p.unique n at) = word (codes "unique") ∷ in_parentheses (literal n ∷ [])
  expr_words (p.unique_count n at) = word (codes "uniqueCount") ∷ in_parentheses (literal n ∷ [])
  expr_words (p.unary o e at) = sign (prefix_text o) ∷ within (prefix_needs o) e (expr_words e)
  expr_words (p.postfix o e at) = within level.postfix e (expr_words e) ++ sign (suffix_text o) ∷ []
  expr_words (p.binary o a b at) = within (infix_level o) a (expr_words a) ++ sign (infix_text o) ∷ within (suc (infix_level o)) b (expr_words b)
  expr_words (p.assign o a b at) = within level.unary a (expr_words a) ++ sign (assignment_text o) ∷ within level.assignment b (expr_words b)
  expr_words (p.choice a b c at) = within level.logical_or a (expr_words a) ++ sign (codes "?") ∷ (expr_words b ++ sign (codes ":") ∷ within level.conditional c (expr_words c))
  expr_words (p.comma a b at) = expr_words a ++ comma ∷ within level.assignment b (expr_words b)
  expr_words (p.cast t e at) = in_parentheses (type_words t) ++ within level.cast e (expr_words e)
  expr_words (p.size_of_expr e at) = word (codes "sizeof") ∷ within level.unary e (expr_words e)
  expr_words (p.size_of_type t at) = word (codes "sizeof") ∷ in_parentheses (type_words t)
  expr_words (p.index a i at) = within level.postfix a (expr_words a) ++ in_brackets (expr_words i)
  expr_words (p.member e n at) = within level.postfix e (expr_words e) ++ sign (codes ".") ∷ word n ∷ []
  expr_words (p.arrow e n at) = within level.postfix e (expr_words e) ++ sign (codes "->") ∷ word n ∷ []
  expr_words (p.call_fn f arguments at) = within level.postfix f (expr_words f) ++ in_parentheses (argument_words arguments)
  expr_words (p.call_item signal element item param arguments at) =
      word (call_word signal) ∷ word element ∷ sign (codes ".") ∷ word item ∷ (parameter_words param ++ in_parentheses (argument_words arguments))
  expr_words (p.port_read port at) = word (codes "port_read") ∷ in_parentheses (within level.conditional port (expr_words port))
  expr_words (p.port_write port e at) =
      word (codes "port_write") ∷ in_parentheses (within level.conditional port (expr_words port) ++ comma ∷ within level.assignment e (expr_words e))
  expr_words (p.post n at) = word (codes "post") ∷ word n ∷ in_parentheses []

  -- with commas between them
  pub argument_words : p.Exprs → Words
  argument_words p.no_exprs = []
  argument_words (p.more_exprs e es) = within level.assignment e (expr_words e) ++ more_argument_words es

  -- with a comma before each
  pub more_argument_words : p.Exprs → Words
  more_argument_words p.no_exprs = []
  more_argument_words (p.more_exprs e es) = comma ∷ (within level.assignment e (expr_words e) ++ more_argument_words es)

  -- the parameter of a call in its bracket
  pub parameter_words : p.MaybeExpr → Words
  parameter_words p.no_expr = []
  parameter_words (p.some_expr e) = in_brackets (within level.assignment e (expr_words e))

  -- the dimensions of an array
  pub dim_words : p.Exprs → Words
  dim_words p.no_exprs = []
  dim_words (p.more_exprs e es) = in_brackets (within level.conditional e (expr_words e)) ++ dim_words es

  -- a type with the stars and dimensions of an abstract declarator
  pub type_words : p.TypeSpec → Words
  type_words (p.type_spec base n dims is_const) = flagged is_const (codes "const") ++ (base_words base ++ (stars n ++ dim_words dims))

  pub base_words : p.Base → Words
  base_words p.void = word (codes "void") ∷ []
  base_words (p.int t) = integer_words t
  base_words (p.named n) = word n ∷ []
  base_words (p.struct tag) = word (codes "struct") ∷ tag_words tag
  base_words (p.struct_of tag groups) = word (codes "struct") ∷ (tag_words tag ++ in_braces (group_words groups))
  base_words (p.enum tag) = word (codes "enum") ∷ tag_words tag
  base_words (p.enum_of tag items) = word (codes "enum") ∷ (tag_words tag ++ in_braces (item_words items))

  pub group_words : p.Groups → Words
  group_words p.no_groups = []
  group_words (p.more_groups t fields rest) = type_words t ++ (field_words fields ++ semicolon ∷ group_words rest)

  -- fields that share a type, with commas between them
  pub field_words : p.Declarators → Words
  field_words p.no_declarators = []
  field_words (p.more_declarators n name dims rest) = declarator_words n name (dim_words dims) ++ more_field_words rest

  pub more_field_words : p.Declarators → Words
  more_field_words p.no_declarators = []
  more_field_words (p.more_declarators n name dims rest) = comma ∷ (declarator_words n name (dim_words dims) ++ more_field_words rest)

  -- the constants of an enum, with commas between them
  pub item_words : p.Items → Words
  item_words p.no_items = []
  item_words (p.more_items name value at rest) = word name ∷ (value_words value ++ more_item_words rest)

  pub more_item_words : p.Items → Words
  more_item_words p.no_items = []
  more_item_words (p.more_items name value at rest) = comma ∷ word name ∷ (value_words value ++ more_item_words rest)

  pub value_words : p.MaybeExpr → Words
  value_words p.no_expr = []
  value_words (p.some_expr e) = sign (codes "=") ∷ within level.conditional e (expr_words e)

-- an expression where one of at least that level stands
abbrev pub words_at : ℕ → p.Expr → Words
words_at least e = within least e (expr_words e)

-- the type before a declared name, with its stars, and the dimensions behind that name
abbrev pub before_name : p.TypeSpec → Words
before_name (p.type_spec base n dims is_const) = flagged is_const (codes "const") ++ (base_words base ++ stars n)

abbrev pub behind_name : p.TypeSpec → Words
behind_name (p.type_spec base n dims is_const) = dim_words dims
