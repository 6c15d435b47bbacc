-- What nests in itself.
use Rattle.std.specs.Prelude.{ℕ, Bool, true, false, ◌||◌, List}
use Rattle.nm_base.specs.declared.token.Token.{Token}
use Rattle.nesc_tree.specs.declared.sorts.Sort.{Sort}
use Rattle.nesc_tree.specs.declared.sorts.Sort.TheVariants as s
use Rattle.nesc_tree.specs.declared.operand.Operand.{Operand}
use Rattle.nesc_tree.specs.declared.operand.CastType.{CastType}
use Rattle.nesc_tree.specs.declared.operand.Fields.{Fields}
use Rattle.nesc_tree.specs.declared.declarations.Attr.{Attr}
use Rattle.nesc_tree.specs.declared.declarations.Decl.{Decl}
use Rattle.nesc_tree.specs.declared.declarations.Init.{Init}
use Rattle.nesc_tree.specs.declared.declarations.Stmt.{Stmt}
use Rattle.nesc_tree.specs.declared.components.ConfLine.{ConfLine}
use Rattle.nesc_tree.specs.declared.components.Elem.{Elem}
use Rattle.nesc_tree.specs.declared.components.GenericParam.{GenericParam}
use Rattle.nesc_tree.specs.declared.components.Sig.{Sig}
use Rattle.nesc_tree.specs.declared.components.Unit as unit
use Rattle.nesc_tree.specs.declared.contexts.Jumps.{Jumps}
use Rattle.nesc_tree.specs.declared.contexts.Jumps.TheVariants as jumps
use Rattle.nesc_tree.specs.declared.contexts.Site.{Site}
use Rattle.nesc_tree.specs.declared.contexts.Site.TheVariants as site

pub data Phrase : Type 0 where
  -- an expression of at least this level
  expr : ℕ → Phrase
  -- a postfix expression behind the `(` that it begins with
  opened : Phrase
  -- the fields of a struct definition, with their braces
  fields : Phrase
  -- one star or more
  pointers : Phrase
  -- a type without stars; it is no level itself
  type : Phrase
  -- initialisers between braces
  braces : Phrase
  -- a declaration in a block
  local : Phrase
  -- a statement without a label
  stmt : Jumps → Phrase
  -- a statement with labels of a `switch`
  label : Jumps → Phrase
  -- the block that is the body of a `switch`
  cases : Jumps → Phrase
  -- a declaration outside of blocks; it is no level itself
  decl : Site → Phrase
  -- such declarations, and the token that ends them
  decls : Site → Phrase
  -- parts of components and interfaces, which are no levels themselves
  attribute : Phrase
  generics : Phrase
  spec : Phrase
  line : Phrase
  item : Phrase
  -- what a file holds
  interface : Phrase
  component : Phrase

-- an opened expression starts at its `(`
abbrev pub Of : Phrase → Type 0
Of (Phrase.expr least) = Operand
Of Phrase.opened = Token → Operand
Of Phrase.fields = Fields
Of Phrase.pointers = ℕ
Of Phrase.type = CastType
Of Phrase.braces = Init
Of Phrase.local = Stmt
Of (Phrase.stmt jumps) = Stmt
Of (Phrase.label jumps) = Stmt
Of (Phrase.cases jumps) = Stmt
Of (Phrase.decl site) = Decl
Of (Phrase.decls site) = List Decl
Of Phrase.attribute = Attr
Of Phrase.generics = List GenericParam
Of Phrase.spec = List Elem
Of Phrase.line = List ConfLine
Of Phrase.item = Sig
Of Phrase.interface = unit.Unit
Of Phrase.component = unit.Unit

-- whether some text has one level; an opened expression, initialisers and a statement with a label have at least two
abbrev pub fits_one_level : Phrase → Bool
fits_one_level (Phrase.expr least) = true
fits_one_level Phrase.opened = false
fits_one_level Phrase.fields = true
fits_one_level Phrase.pointers = true
fits_one_level Phrase.type = true
fits_one_level Phrase.braces = false
fits_one_level (Phrase.label jumps) = false
fits_one_level _ = true

-- whether an expression begins with a token of this sort
abbrev pub begins_expr : Sort → Bool
begins_expr s.Word = true
begins_expr s.Number = true
begins_expr s.Char = true
begins_expr s.LParen = true
begins_expr s.Plus = true
begins_expr s.Minus = true
begins_expr s.Star = true
begins_expr s.Amp = true
begins_expr s.Complement = true
begins_expr s.Step = true
begins_expr s.SizeOf = true
begins_expr s.Null = true
begins_expr s.Unique = true
begins_expr s.PortRead = true
begins_expr s.PortWrite = true
begins_expr s.Post = true
begins_expr s.Call = true
begins_expr _ = false

-- whether a type begins with a token of this sort
abbrev pub begins_type : Sort → Bool
begins_type s.Qualifier = true
begins_type s.Void = true
begins_type s.Signedness = true
begins_type s.CharType = true
begins_type s.Length = true
begins_type s.Int = true
begins_type s.TypeName = true
begins_type s.Struct = true
begins_type s.Enum = true
begins_type _ = false

-- whether a declaration in a block begins with a token of this sort
abbrev pub begins_local : Sort → Bool
begins_local s.Typedef = true
begins_local x = begins_type x

abbrev pub may_break : Jumps → Bool
may_break jumps.Neither = false
may_break jumps.Break = true
may_break jumps.BreakAndContinue = true

abbrev pub may_continue : Jumps → Bool
may_continue jumps.Neither = false
may_continue jumps.Break = false
may_continue jumps.BreakAndContinue = true

-- whether a statement without a label begins with a token of this sort
abbrev pub begins_stmt : Jumps → Sort → Bool
begins_stmt j s.LBrace = true
begins_stmt j s.Semi = true
begins_stmt j s.Atomic = true
begins_stmt j s.If = true
begins_stmt j s.While = true
begins_stmt j s.Do = true
begins_stmt j s.For = true
begins_stmt j s.Switch = true
begins_stmt j s.Return = true
begins_stmt j s.Break = may_break j
begins_stmt j s.Continue = may_continue j
begins_stmt j x = begins_expr x

abbrev pub begins_label : Sort → Bool
begins_label s.Case = true
begins_label s.Default = true
begins_label _ = false

abbrev pub has_variables : Site → Bool
has_variables site.Header = false
has_variables site.Module = true

-- whether a declaration outside of blocks begins with a token of this sort
abbrev pub begins_decl : Site → Sort → Bool
begins_decl m s.Typedef = true
begins_decl m s.Norace = has_variables m
begins_decl m s.Static = true
begins_decl m s.Async = true
begins_decl m s.Default = true
begins_decl m s.Inline = true
begins_decl m s.Task = true
begins_decl m s.Item = true
begins_decl m x = begins_type x

-- tokens that end the declarations of a header or a module
abbrev pub ends_decls : Sort → Bool
ends_decls s.RBrace = true
ends_decls s.Module = true
ends_decls s.Configuration = true
ends_decls s.Generic = true
ends_decls s.Interface = true
ends_decls _ = false

abbrev pub begins_line : Sort → Bool
begins_line s.Components = true
begins_line s.Word = true
begins_line x = begins_local x

abbrev pub begins_item : Sort → Bool
begins_item s.Async = true
begins_item s.Item = true
begins_item _ = false

abbrev pub begins_component : Sort → Bool
begins_component s.Generic = true
begins_component s.Module = true
begins_component s.Configuration = true
begins_component _ = false

-- whether a text of the phrase begins with a token of this sort
abbrev pub begins : Phrase → Sort → Bool
begins (Phrase.expr least) x = begins_expr x
begins Phrase.opened x = begins_expr x
begins Phrase.fields s.LBrace = true
begins Phrase.fields _ = false
begins Phrase.pointers s.Star = true
begins Phrase.pointers _ = false
begins Phrase.type x = begins_type x
begins Phrase.braces s.LBrace = true
begins Phrase.braces _ = false
begins Phrase.local x = begins_local x
begins (Phrase.stmt j) x = begins_stmt j x
begins (Phrase.label j) x = begins_label x
begins (Phrase.cases j) s.LBrace = true
begins (Phrase.cases j) _ = false
begins (Phrase.decl m) x = begins_decl m x
begins (Phrase.decls m) x = begins_decl m x || ends_decls x
begins Phrase.attribute s.At = true
begins Phrase.attribute _ = false
begins Phrase.generics s.LParen = true
begins Phrase.generics _ = false
begins Phrase.spec s.Specify = true
begins Phrase.spec _ = false
begins Phrase.line x = begins_line x
begins Phrase.item x = begins_item x
begins Phrase.interface s.Interface = true
begins Phrase.interface x = begins_decl site.Header x
begins Phrase.component x = begins_decl site.Header x || begins_component x

-- operators and postfixes; a comma only in an expression of the lowest level
abbrev pub is_operator : Sort → Bool
is_operator s.Assign = true
is_operator s.OpAssign = true
is_operator s.Question = true
is_operator s.OrOr = true
is_operator s.AndAnd = true
is_operator s.Bar = true
is_operator s.Caret = true
is_operator s.Amp = true
is_operator s.Equality = true
is_operator s.Less = true
is_operator s.Greater = true
is_operator s.OrEqual = true
is_operator s.Shift = true
is_operator s.Plus = true
is_operator s.Minus = true
is_operator s.Star = true
is_operator s.Divide = true
is_operator s.LBracket = true
is_operator s.LParen = true
is_operator s.Dot = true
is_operator s.Arrow = true
is_operator s.Step = true
is_operator s.Comma = true
is_operator _ = false
