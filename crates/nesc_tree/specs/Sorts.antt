-- What a token is to the grammar, given the type names in force; keywords and signs of C99 6.4.1, 6.4.6 and the nesC 1.3 Reference.
use Rattle.std.specs.Prelude.{ℕ, nat_eq, Bool, true, false, if◌then◌else◌, List, [], ◌∷◌, codes, bytes_eq}
use Rattle.nm_base.specs.declared.token.Token.{Token}
use Rattle.nm_base.specs.declared.token.Kind.{Kind}
use Rattle.nm_base.specs.declared.token.Kind.TheVariants as k
use Rattle.nesc_tree.specs.declared.sorts.Sort.{Sort}
use Rattle.nesc_tree.specs.declared.sorts.Sort.TheVariants as s

-- the names that are declared, with whether each is a type name, in the order of their first declarations
abbrev pub Names : Type 0
Names = List (List ℕ × Bool)

abbrev pub is_type : Names → List ℕ → Bool
is_type [] text = false
is_type (n ∷ names) text = if bytes_eq text n.0 then n.1 else is_type names text

-- a declaration of the name: a type name, or what hides one
abbrev pub declared : List ℕ → Bool → Names → Names
declared text flag [] = (text, flag) ∷ []
declared text flag (n ∷ names) = if bytes_eq text n.0 then (n.0, flag) ∷ names else n ∷ declared text flag names

-- signs; `...` and `#` stand in no form
abbrev pub signs : List (List ℕ × Sort)
signs =
    (codes "(", s.LParen) ∷
    (codes ")", s.RParen) ∷
    (codes "[", s.LBracket) ∷
    (codes "]", s.RBracket) ∷
    (codes "{", s.LBrace) ∷
    (codes "}", s.RBrace) ∷
    (codes ";", s.Semi) ∷
    (codes ",", s.Comma) ∷
    (codes ".", s.Dot) ∷
    (codes "->", s.Arrow) ∷
    (codes "<-", s.BackArrow) ∷
    (codes "@", s.At) ∷
    (codes "?", s.Question) ∷
    (codes ":", s.Colon) ∷
    (codes "=", s.Assign) ∷
    (codes "+=", s.OpAssign) ∷
    (codes "-=", s.OpAssign) ∷
    (codes "*=", s.OpAssign) ∷
    (codes "/=", s.OpAssign) ∷
    (codes "%=", s.OpAssign) ∷
    (codes "&=", s.OpAssign) ∷
    (codes "|=", s.OpAssign) ∷
    (codes "^=", s.OpAssign) ∷
    (codes "<<=", s.OpAssign) ∷
    (codes ">>=", s.OpAssign) ∷
    (codes "||", s.OrOr) ∷
    (codes "&&", s.AndAnd) ∷
    (codes "|", s.Bar) ∷
    (codes "^", s.Caret) ∷
    (codes "&", s.Amp) ∷
    (codes "==", s.Equality) ∷
    (codes "!=", s.Equality) ∷
    (codes "<", s.Less) ∷
    (codes ">", s.Greater) ∷
    (codes "<=", s.OrEqual) ∷
    (codes ">=", s.OrEqual) ∷
    (codes "<<", s.Shift) ∷
    (codes ">>", s.Shift) ∷
    (codes "+", s.Plus) ∷
    (codes "-", s.Minus) ∷
    (codes "*", s.Star) ∷
    (codes "/", s.Divide) ∷
    (codes "%", s.Divide) ∷
    (codes "~", s.Complement) ∷
    (codes "!", s.Complement) ∷
    (codes "++", s.Step) ∷
    (codes "--", s.Step) ∷
    []

-- keywords; the last ones stand in no form
abbrev pub keywords : List (List ℕ × Sort)
keywords =
    (codes "const", s.Qualifier) ∷
    (codes "volatile", s.Qualifier) ∷
    (codes "void", s.Void) ∷
    (codes "signed", s.Signedness) ∷
    (codes "unsigned", s.Signedness) ∷
    (codes "char", s.CharType) ∷
    (codes "short", s.Length) ∷
    (codes "long", s.Length) ∷
    (codes "int", s.Int) ∷
    (codes "struct", s.Struct) ∷
    (codes "enum", s.Enum) ∷
    (codes "typedef", s.Typedef) ∷
    (codes "sizeof", s.SizeOf) ∷
    (codes "NULL", s.Null) ∷
    (codes "unique", s.Unique) ∷
    (codes "uniqueCount", s.Unique) ∷
    (codes "port_read", s.PortRead) ∷
    (codes "port_write", s.PortWrite) ∷
    (codes "post", s.Post) ∷
    (codes "call", s.Call) ∷
    (codes "signal", s.Call) ∷
    (codes "atomic", s.Atomic) ∷
    (codes "if", s.If) ∷
    (codes "else", s.Else) ∷
    (codes "while", s.While) ∷
    (codes "do", s.Do) ∷
    (codes "for", s.For) ∷
    (codes "switch", s.Switch) ∷
    (codes "case", s.Case) ∷
    (codes "default", s.Default) ∷
    (codes "break", s.Break) ∷
    (codes "continue", s.Continue) ∷
    (codes "return", s.Return) ∷
    (codes "norace", s.Norace) ∷
    (codes "static", s.Static) ∷
    (codes "inline", s.Inline) ∷
    (codes "async", s.Async) ∷
    (codes "task", s.Task) ∷
    (codes "command", s.Item) ∷
    (codes "event", s.Item) ∷
    (codes "interface", s.Interface) ∷
    (codes "generic", s.Generic) ∷
    (codes "module", s.Module) ∷
    (codes "configuration", s.Configuration) ∷
    (codes "implementation", s.Implementation) ∷
    (codes "components", s.Components) ∷
    (codes "provides", s.Specify) ∷
    (codes "uses", s.Specify) ∷
    (codes "as", s.As) ∷
    (codes "new", s.New) ∷
    (codes "goto", s.Other) ∷
    (codes "float", s.Other) ∷
    (codes "double", s.Other) ∷
    (codes "union", s.Other) ∷
    (codes "nx_union", s.Other) ∷
    (codes "extern", s.Other) ∷
    (codes "includes", s.Other) ∷
    (codes "asm", s.Other) ∷
    (codes "__asm__", s.Other) ∷
    (codes "__attribute__", s.Other) ∷
    (codes "nx_struct", s.Other) ∷
    []

abbrev pub found_in : List (List ℕ × Sort) → List ℕ → Sort → Sort
found_in [] text other = other
found_in (row ∷ rows) text other = if bytes_eq text row.0 then row.1 else found_in rows text other

unfoldable pub sign : List ℕ → Sort
sign text = found_in signs text s.Other

unfoldable pub keyword : List ℕ → Sort
keyword text = found_in keywords text s.Word

abbrev pub class_of : Kind → List ℕ → Sort
class_of k.Word text = keyword text
class_of k.Number text = s.Number
class_of k.Char text = s.Char
class_of k.Text text = s.Text
class_of k.Sign text = sign text

-- what the token is where no type name is in force
abbrev pub class : Token → Sort
class t = class_of t.kind t.text

abbrev pub named : Sort → Bool → Sort
named s.Word true = s.TypeName
named x _ = x

unfoldable pub sort : Names → Token → Sort
sort names t = named (class t) (is_type names t.text)

abbrev pub ahead : Names → List Token → Sort
ahead names [] = s.End
ahead names (t ∷ ts) = sort names t

-- ---- sorts are told apart by their numbers

abbrev pub code : Sort → ℕ
code s.End = 0
code s.Word = 1
code s.TypeName = 2
code s.Number = 3
code s.Char = 4
code s.Text = 5
code s.LParen = 6
code s.RParen = 7
code s.LBracket = 8
code s.RBracket = 9
code s.LBrace = 10
code s.RBrace = 11
code s.Semi = 12
code s.Comma = 13
code s.Dot = 14
code s.Arrow = 15
code s.BackArrow = 16
code s.At = 17
code s.Question = 18
code s.Colon = 19
code s.Assign = 20
code s.OpAssign = 21
code s.OrOr = 22
code s.AndAnd = 23
code s.Bar = 24
code s.Caret = 25
code s.Amp = 26
code s.Equality = 27
code s.Less = 28
code s.Greater = 29
code s.OrEqual = 30
code s.Shift = 31
code s.Plus = 32
code s.Minus = 33
code s.Star = 34
code s.Divide = 35
code s.Complement = 36
code s.Step = 37
code s.Qualifier = 38
code s.Void = 39
code s.Signedness = 40
code s.CharType = 41
code s.Length = 42
code s.Int = 43
code s.Struct = 44
code s.Enum = 45
code s.Typedef = 46
code s.SizeOf = 47
code s.Null = 48
code s.Unique = 49
code s.PortRead = 50
code s.PortWrite = 51
code s.Post = 52
code s.Call = 53
code s.Atomic = 54
code s.If = 55
code s.Else = 56
code s.While = 57
code s.Do = 58
code s.For = 59
code s.Switch = 60
code s.Case = 61
code s.Default = 62
code s.Break = 63
code s.Continue = 64
code s.Return = 65
code s.Norace = 66
code s.Static = 67
code s.Inline = 68
code s.Async = 69
code s.Task = 70
code s.Item = 71
code s.Interface = 72
code s.Generic = 73
code s.Module = 74
code s.Configuration = 75
code s.Implementation = 76
code s.Components = 77
code s.Specify = 78
code s.As = 79
code s.New = 80
code s.Other = 81

abbrev pub same_sort : Sort → Sort → Bool
same_sort a b = nat_eq (code a) (code b)

abbrev pub sorts : List Sort
sorts = s.End ∷ s.Word ∷ s.TypeName ∷ s.Number ∷ s.Char ∷ s.Text ∷ s.LParen ∷ s.RParen ∷ s.LBracket ∷ s.RBracket ∷ s.LBrace ∷ s.RBrace ∷ s.Semi ∷ s.Comma ∷ s.Dot ∷ s.Arrow ∷ s.BackArrow ∷ s.At ∷ s.Question ∷ s.Colon ∷ s.Assign ∷ s.OpAssign ∷ s.OrOr ∷ s.AndAnd ∷ s.Bar ∷ s.Caret ∷ s.Amp ∷ s.Equality ∷ s.Less ∷ s.Greater ∷ s.OrEqual ∷ s.Shift ∷ s.Plus ∷ s.Minus ∷ s.Star ∷ s.Divide ∷ s.Complement ∷ s.Step ∷ s.Qualifier ∷ s.Void ∷ s.Signedness ∷ s.CharType ∷ s.Length ∷ s.Int ∷ s.Struct ∷ s.Enum ∷ s.Typedef ∷ s.SizeOf ∷ s.Null ∷ s.Unique ∷ s.PortRead ∷ s.PortWrite ∷ s.Post ∷ s.Call ∷ s.Atomic ∷ s.If ∷ s.Else ∷ s.While ∷ s.Do ∷ s.For ∷ s.Switch ∷ s.Case ∷ s.Default ∷ s.Break ∷ s.Continue ∷ s.Return ∷ s.Norace ∷ s.Static ∷ s.Inline ∷ s.Async ∷ s.Task ∷ s.Item ∷ s.Interface ∷ s.Generic ∷ s.Module ∷ s.Configuration ∷ s.Implementation ∷ s.Components ∷ s.Specify ∷ s.As ∷ s.New ∷ s.Other ∷ []
