-- What keywords and signs are to the grammar, whatever names are in force.
use Rattle.std.proofs.Common.{◌≡◌, Bool, true, false, refl, Option, Some, None}
use Rattle.std.specs.Prelude.{codes}
use Rattle.nesc_tree.specs.declared.sorts.Sort.{Sort}
use Rattle.nesc_tree.specs.declared.sorts.Sort.TheVariants as s
use Rattle.nesc_tree.specs.declared.tree.PreOp.{PreOp}
use Rattle.nesc_tree.specs.declared.tree.PreOp.TheVariants as pre
use Rattle.nesc_tree.specs.declared.tree.PostOp.{PostOp}
use Rattle.nesc_tree.specs.declared.tree.PostOp.TheVariants as post
use Rattle.nesc_tree.specs.declared.tree.InOp.{InOp}
use Rattle.nesc_tree.specs.declared.tree.InOp.TheVariants as op
use Rattle.nesc_tree.specs.Sorts.{Names}
use Rattle.nesc_tree.specs.Sorts as sorts
use Rattle.nesc_print_words.specs.Lexemes.{word, sign}
use Rattle.nesc_print_words.specs.Operators.{infix_text, assignment_text, prefix_text, suffix_text}
use Rattle.nesc_print_words.specs.Expressions.{call_word}
use Rattle.nesc_print_laws.proofs.Texts.{Sorted, keyword, signed}

module _ {ns : Names} where
  pub opening_sorted : Sorted ns (sign (codes "(")) s.LParen
  unfolding sorts.sign
  opening_sorted = signed (codes "(") s.LParen refl refl

  pub closing_sorted : Sorted ns (sign (codes ")")) s.RParen
  unfolding sorts.sign
  closing_sorted = signed (codes ")") s.RParen refl refl

  pub left_bracket_sorted : Sorted ns (sign (codes "[")) s.LBracket
  unfolding sorts.sign
  left_bracket_sorted = signed (codes "[") s.LBracket refl refl

  pub right_bracket_sorted : Sorted ns (sign (codes "]")) s.RBracket
  unfolding sorts.sign
  right_bracket_sorted = signed (codes "]") s.RBracket refl refl

  pub left_brace_sorted : Sorted ns (sign (codes "{")) s.LBrace
  unfolding sorts.sign
  left_brace_sorted = signed (codes "{") s.LBrace refl refl

  pub right_brace_sorted : Sorted ns (sign (codes "}")) s.RBrace
  unfolding sorts.sign
  right_brace_sorted = signed (codes "}") s.RBrace refl refl

  pub semicolon_sorted : Sorted ns (sign (codes ";")) s.Semi
  unfolding sorts.sign
  semicolon_sorted = signed (codes ";") s.Semi refl refl

  pub comma_sorted : Sorted ns (sign (codes ",")) s.Comma
  unfolding sorts.sign
  comma_sorted = signed (codes ",") s.Comma refl refl

  pub dot_sorted : Sorted ns (sign (codes ".")) s.Dot
  unfolding sorts.sign
  dot_sorted = signed (codes ".") s.Dot refl refl

  pub arrow_sorted : Sorted ns (sign (codes "->")) s.Arrow
  unfolding sorts.sign
  arrow_sorted = signed (codes "->") s.Arrow refl refl

  pub at_sign_sorted : Sorted ns (sign (codes "@")) s.At
  unfolding sorts.sign
  at_sign_sorted = signed (codes "@") s.At refl refl

  pub question_sorted : Sorted ns (sign (codes "?")) s.Question
  unfolding sorts.sign
  question_sorted = signed (codes "?") s.Question refl refl

  pub colon_sorted : Sorted ns (sign (codes ":")) s.Colon
  unfolding sorts.sign
  colon_sorted = signed (codes ":") s.Colon refl refl

  pub gets_sorted : Sorted ns (sign (codes "=")) s.Assign
  unfolding sorts.sign
  gets_sorted = signed (codes "=") s.Assign refl refl

  pub star_sorted : Sorted ns (sign (codes "*")) s.Star
  unfolding sorts.sign
  star_sorted = signed (codes "*") s.Star refl refl

  pub less_sorted : Sorted ns (sign (codes "<")) s.Less
  unfolding sorts.sign
  less_sorted = signed (codes "<") s.Less refl refl

  pub greater_sorted : Sorted ns (sign (codes ">")) s.Greater
  unfolding sorts.sign
  greater_sorted = signed (codes ">") s.Greater refl refl

  pub const_sorted : Sorted ns (word (codes "const")) s.Qualifier
  unfolding sorts.keyword
  const_sorted = keyword (codes "const") s.Qualifier refl refl

  pub void_sorted : Sorted ns (word (codes "void")) s.Void
  unfolding sorts.keyword
  void_sorted = keyword (codes "void") s.Void refl refl

  pub unsigned_sorted : Sorted ns (word (codes "unsigned")) s.Signedness
  unfolding sorts.keyword
  unsigned_sorted = keyword (codes "unsigned") s.Signedness refl refl

  pub char_sorted : Sorted ns (word (codes "char")) s.CharType
  unfolding sorts.keyword
  char_sorted = keyword (codes "char") s.CharType refl refl

  pub long_sorted : Sorted ns (word (codes "long")) s.Length
  unfolding sorts.keyword
  long_sorted = keyword (codes "long") s.Length refl refl

  pub int_sorted : Sorted ns (word (codes "int")) s.Int
  unfolding sorts.keyword
  int_sorted = keyword (codes "int") s.Int refl refl

  pub struct_sorted : Sorted ns (word (codes "struct")) s.Struct
  unfolding sorts.keyword
  struct_sorted = keyword (codes "struct") s.Struct refl refl

  pub enum_sorted : Sorted ns (word (codes "enum")) s.Enum
  unfolding sorts.keyword
  enum_sorted = keyword (codes "enum") s.Enum refl refl

  pub typedef_sorted : Sorted ns (word (codes "typedef")) s.Typedef
  unfolding sorts.keyword
  typedef_sorted = keyword (codes "typedef") s.Typedef refl refl

  pub sizeof_sorted : Sorted ns (word (codes "sizeof")) s.SizeOf
  unfolding sorts.keyword
  sizeof_sorted = keyword (codes "sizeof") s.SizeOf refl refl

  pub null_sorted : Sorted ns (word (codes "NULL")) s.Null
  unfolding sorts.keyword
  null_sorted = keyword (codes "NULL") s.Null refl refl

  pub unique_sorted : Sorted ns (word (codes "unique")) s.Unique
  unfolding sorts.keyword
  unique_sorted = keyword (codes "unique") s.Unique refl refl

  pub unique_count_sorted : Sorted ns (word (codes "uniqueCount")) s.Unique
  unfolding sorts.keyword
  unique_count_sorted = keyword (codes "uniqueCount") s.Unique refl refl

  pub port_read_sorted : Sorted ns (word (codes "port_read")) s.PortRead
  unfolding sorts.keyword
  port_read_sorted = keyword (codes "port_read") s.PortRead refl refl

  pub port_write_sorted : Sorted ns (word (codes "port_write")) s.PortWrite
  unfolding sorts.keyword
  port_write_sorted = keyword (codes "port_write") s.PortWrite refl refl

  pub post_sorted : Sorted ns (word (codes "post")) s.Post
  unfolding sorts.keyword
  post_sorted = keyword (codes "post") s.Post refl refl

-- operators

abbrev pub infix_sort : InOp → Sort
infix_sort op.Mul = s.Star
infix_sort op.Div = s.Divide
infix_sort op.Rem = s.Divide
infix_sort op.Add = s.Plus
infix_sort op.Sub = s.Minus
infix_sort op.Shl = s.Shift
infix_sort op.Shr = s.Shift
infix_sort op.Lt = s.Less
infix_sort op.Gt = s.Greater
infix_sort op.Le = s.OrEqual
infix_sort op.Ge = s.OrEqual
infix_sort op.Eq = s.Equality
infix_sort op.Ne = s.Equality
infix_sort op.And = s.Amp
infix_sort op.Xor = s.Caret
infix_sort op.Or = s.Bar
infix_sort op.AndAnd = s.AndAnd
infix_sort op.OrOr = s.OrOr

pub infix_sorted : {ns : Names} (o : InOp) → Sorted ns (sign (infix_text o)) (infix_sort o)
unfolding sorts.sign
infix_sorted op.Mul = signed (infix_text op.Mul) s.Star refl refl
infix_sorted op.Div = signed (infix_text op.Div) s.Divide refl refl
infix_sorted op.Rem = signed (infix_text op.Rem) s.Divide refl refl
infix_sorted op.Add = signed (infix_text op.Add) s.Plus refl refl
infix_sorted op.Sub = signed (infix_text op.Sub) s.Minus refl refl
infix_sorted op.Shl = signed (infix_text op.Shl) s.Shift refl refl
infix_sorted op.Shr = signed (infix_text op.Shr) s.Shift refl refl
infix_sorted op.Lt = signed (infix_text op.Lt) s.Less refl refl
infix_sorted op.Gt = signed (infix_text op.Gt) s.Greater refl refl
infix_sorted op.Le = signed (infix_text op.Le) s.OrEqual refl refl
infix_sorted op.Ge = signed (infix_text op.Ge) s.OrEqual refl refl
infix_sorted op.Eq = signed (infix_text op.Eq) s.Equality refl refl
infix_sorted op.Ne = signed (infix_text op.Ne) s.Equality refl refl
infix_sorted op.And = signed (infix_text op.And) s.Amp refl refl
infix_sorted op.Xor = signed (infix_text op.Xor) s.Caret refl refl
infix_sorted op.Or = signed (infix_text op.Or) s.Bar refl refl
infix_sorted op.AndAnd = signed (infix_text op.AndAnd) s.AndAnd refl refl
infix_sorted op.OrOr = signed (infix_text op.OrOr) s.OrOr refl refl

abbrev pub assignment_sort : Option InOp → Sort
assignment_sort None = s.Assign
assignment_sort (Some o) = s.OpAssign

compound_sign : (o : InOp) → sorts.sign (assignment_text (Some o)) ≡ s.OpAssign
unfolding sorts.sign
compound_sign op.Mul = refl
compound_sign _ = refl

pub assignment_sorted : {ns : Names} (o : Option InOp) → Sorted ns (sign (assignment_text o)) (assignment_sort o)
unfolding sorts.sign
assignment_sorted None = signed (assignment_text None) s.Assign refl refl
assignment_sorted (Some o) = signed (assignment_text (Some o)) s.OpAssign (compound_sign o) refl

abbrev pub prefix_sort : PreOp → Sort
prefix_sort pre.Inc = s.Step
prefix_sort pre.Dec = s.Step
prefix_sort pre.Addr = s.Amp
prefix_sort pre.Deref = s.Star
prefix_sort pre.Plus = s.Plus
prefix_sort pre.Neg = s.Minus
prefix_sort pre.Not = s.Complement
prefix_sort pre.IsZero = s.Complement

pub prefix_sorted : {ns : Names} (o : PreOp) → Sorted ns (sign (prefix_text o)) (prefix_sort o)
unfolding sorts.sign
prefix_sorted pre.Inc = signed (prefix_text pre.Inc) s.Step refl refl
prefix_sorted pre.Dec = signed (prefix_text pre.Dec) s.Step refl refl
prefix_sorted pre.Addr = signed (prefix_text pre.Addr) s.Amp refl refl
prefix_sorted pre.Deref = signed (prefix_text pre.Deref) s.Star refl refl
prefix_sorted pre.Plus = signed (prefix_text pre.Plus) s.Plus refl refl
prefix_sorted pre.Neg = signed (prefix_text pre.Neg) s.Minus refl refl
prefix_sorted pre.Not = signed (prefix_text pre.Not) s.Complement refl refl
prefix_sorted pre.IsZero = signed (prefix_text pre.IsZero) s.Complement refl refl

pub suffix_sorted : {ns : Names} (o : PostOp) → Sorted ns (sign (suffix_text o)) s.Step
unfolding sorts.sign
suffix_sorted post.Inc = signed (suffix_text post.Inc) s.Step refl refl
suffix_sorted post.Dec = signed (suffix_text post.Dec) s.Step refl refl

pub call_sorted : {ns : Names} (b : Bool) → Sorted ns (word (call_word b)) s.Call
unfolding sorts.keyword
call_sorted true = keyword (call_word true) s.Call refl refl
call_sorted false = keyword (call_word false) s.Call refl refl
