-- Worked rows of the grammar, by C99 6.5 and the nesC 1.3 Reference: texts of expressions with their trees, or with what is left where reading stops.
use Rattle.std.specs.Prelude.{◌≡◌, ℕ, Bool, true, false, List, [], ◌∷◌, length, Option, Some, None, Ok, Err, codes}
use Rattle.nm_base.specs.declared.pos.Pos.{Pos}
use Rattle.nm_base.specs.declared.token.Token.{Token}
use Rattle.nm_base.specs.declared.token.Kind.TheVariants as k
use Rattle.nm_base.specs.declared.int_type.IntType.TheVariants as int
use Rattle.nesc_tree.specs.declared.tree.Expr.{Expr}
use Rattle.nesc_tree.specs.declared.tree.Expr.TheVariants as e
use Rattle.nesc_tree.specs.declared.tree.Base.{Base}
use Rattle.nesc_tree.specs.declared.tree.Base.TheVariants as b
use Rattle.nesc_tree.specs.declared.tree.EnumItem.{EnumItem}
use Rattle.nesc_tree.specs.declared.tree.Declarator.{Declarator}
use Rattle.nesc_tree.specs.declared.tree.FieldGroup.{roll-FieldGroup}
use Rattle.nesc_tree.specs.declared.tree.TypeSpec.{TypeSpec}
use Rattle.nesc_tree.specs.declared.tree.InOp.TheVariants as op
use Rattle.nesc_tree.specs.declared.tree.PreOp.TheVariants as pre
use Rattle.nesc_tree.specs.declared.tree.PostOp.TheVariants as post
use Rattle.nesc_tree.specs.declared.operand.Operand.{Operand}
use Rattle.nesc_tree.specs.Sorts.{Names}
use Rattle.nesc_tree.specs.Phrase.{Phrase}
use Rattle.nesc_tree.specs.Reading.{Syntax, Deep, Answer}
use Rattle.nesc_grammar.specs.Laws.{answer}

abbrev pub start : Pos
start = record { file = 0; line = 1; col = 1 }

abbrev pub word : List ℕ → Token
word text = record { kind = k.Word; text = text; pos = start; first = false }

abbrev pub sign : List ℕ → Token
sign text = record { kind = k.Sign; text = text; pos = start; first = false }

abbrev pub a : Token
a = word (codes "a")

abbrev pub t : Token
t = word (codes "t")

abbrev pub opening : Token
opening = sign (codes "(")

abbrev pub closing : Token
closing = sign (codes ")")

abbrev pub minus : Token
minus = sign (codes "-")

abbrev pub star : Token
star = sign (codes "*")

abbrev pub step : Token
step = sign (codes "++")

abbrev pub gets : Token
gets = sign (codes "=")

abbrev pub name : Expr
name = e.Name (codes "a") start

-- t is a type name
abbrev pub names : Names
names = (codes "t", true) ∷ []

abbrev pub spec : Base → ℕ → TypeSpec
spec base stars = record { base = base; stars = stars; dims = []; is_const = false }

-- a declarator, and a constant of an enum
abbrev pub declarator : List ℕ → ℕ → List Expr → Declarator
declarator text stars dims = record { stars = stars; name = text; dims = dims }

abbrev pub item : List ℕ → Option Expr → EnumItem
item text value = record { name = text; value = value; pos = start }

-- the tree, and how many tokens are behind it
abbrev pub tree_of : Answer Operand → Option (Expr × ℕ)
tree_of (Ok x) = Some (x.0.expr, length x.1.rest)
tree_of (Err f) = None

-- whether there were too few levels, and how many tokens are left from there on
abbrev pub stop_of : Answer Operand → Option (Bool × ℕ)
stop_of (Ok x) = None
stop_of (Err (Syntax ts)) = Some (false, length ts)
stop_of (Err (Deep ts)) = Some (true, length ts)

abbrev pub read_in : ℕ → List Token → Answer Operand
read_in levels ts = answer levels (Phrase.expr 0) names ts

abbrev pub Reads : List Token → Expr → Type 0
Reads ts tree = tree_of (read_in 9 ts) ≡ Some (tree, 0)

pub record WorkedRows : Type 0 where
  -- a - a * a, and a - a - a
  pub product_binds : Reads (a ∷ minus ∷ a ∷ star ∷ a ∷ []) (e.Binary op.Sub name (e.Binary op.Mul name name start) start)
  pub sums_group_left : Reads (a ∷ minus ∷ a ∷ minus ∷ a ∷ []) (e.Binary op.Sub (e.Binary op.Sub name name start) name start)
  -- a = a = a, and a ? a : a ? a : a
  pub assignments_group_right : Reads (a ∷ gets ∷ a ∷ gets ∷ a ∷ []) (e.Assign None name (e.Assign None name name start) start)
  pub choices_group_right : Reads (a ∷ sign (codes "?") ∷ a ∷ sign (codes ":") ∷ a ∷ sign (codes "?") ∷ a ∷ sign (codes ":") ∷ a ∷ []) (e.Cond name name (e.Cond name name name start) start)
  -- a , a += a
  pub comma_binds_least : Reads (a ∷ sign (codes ",") ∷ a ∷ sign (codes "+=") ∷ a ∷ []) (e.Comma name (e.Assign (Some op.Add) name name start) start)
  -- - a ++
  pub postfix_binds : Reads (minus ∷ a ∷ sign (codes "++") ∷ []) (e.Unary pre.Neg (e.Postfix post.Inc name start) start)
  -- (t) - a is a cast, (a) - a is none
  pub cast : Reads (opening ∷ t ∷ closing ∷ minus ∷ a ∷ []) (e.Cast (spec (b.Named (codes "t")) 0) (e.Unary pre.Neg name start) start)
  pub no_cast : Reads (opening ∷ a ∷ closing ∷ minus ∷ a ∷ []) (e.Binary op.Sub name name start)
  pub cast_to_pointer : Reads (opening ∷ word (codes "unsigned") ∷ word (codes "long") ∷ star ∷ closing ∷ a ∷ []) (e.Cast (spec (b.Int int.U32) 1) name start)
  -- ++ (a), ++ - a, ++ * a; behind ++ no cast begins: in ++ (t) a the type is refused, also behind sizeof
  pub step_of_parens : Reads (step ∷ opening ∷ a ∷ closing ∷ []) (e.Unary pre.Inc name start)
  pub step_of_sum : Reads (step ∷ opening ∷ a ∷ closing ∷ minus ∷ a ∷ []) (e.Binary op.Sub (e.Unary pre.Inc name start) name start)
  pub step_of_sign : Reads (step ∷ minus ∷ a ∷ []) (e.Unary pre.Inc (e.Unary pre.Neg name start) start)
  pub step_of_pointer : Reads (step ∷ star ∷ a ∷ []) (e.Unary pre.Inc (e.Unary pre.Deref name start) start)
  pub step_of_size : Reads (step ∷ word (codes "sizeof") ∷ opening ∷ t ∷ closing ∷ []) (e.Unary pre.Inc (e.SizeOfType (spec (b.Named (codes "t")) 0) start) start)
  pub step_of_cast : stop_of (read_in 9 (step ∷ opening ∷ t ∷ closing ∷ a ∷ [])) ≡ Some (false, 3)
  pub step_of_keyword_cast : stop_of (read_in 9 (step ∷ opening ∷ word (codes "int") ∷ closing ∷ a ∷ [])) ≡ Some (false, 3)
  pub size_of_step_of_cast : stop_of (read_in 9 (word (codes "sizeof") ∷ step ∷ opening ∷ t ∷ closing ∷ a ∷ [])) ≡ Some (false, 3)
  -- ++ - (t) a: the operand of a sign may begin with one
  pub cast_behind_sign : Reads (step ∷ minus ∷ opening ∷ t ∷ closing ∷ a ∷ []) (e.Unary pre.Inc (e.Unary pre.Neg (e.Cast (spec (b.Named (codes "t")) 0) name start) start) start)
  -- sizeof (struct { t *a, t[a]; }), sizeof (const enum a { a = a, t, })
  pub size_of_struct : Reads (word (codes "sizeof") ∷ opening ∷ word (codes "struct") ∷ sign (codes "{") ∷ t ∷ star ∷ a ∷ sign (codes ",") ∷ t ∷ sign (codes "[") ∷ a ∷ sign (codes "]") ∷ sign (codes ";") ∷ sign (codes "}") ∷ closing ∷ [])
      (e.SizeOfType (spec (b.Struct None (Some (roll-FieldGroup (record { ty = spec (b.Named (codes "t")) 0; fields = declarator (codes "a") 1 [] ∷ declarator (codes "t") 0 (name ∷ []) ∷ [] }) ∷ []))) 0) start)
  pub size_of_enum : Reads (word (codes "sizeof") ∷ opening ∷ word (codes "const") ∷ word (codes "enum") ∷ a ∷ sign (codes "{") ∷ a ∷ gets ∷ a ∷ sign (codes ",") ∷ t ∷ sign (codes ",") ∷ sign (codes "}") ∷ closing ∷ [])
      (e.SizeOfType (record { base = b.Enum (Some (codes "a")) (Some (item (codes "a") (Some name) ∷ item (codes "t") None ∷ [])); stars = 0; dims = []; is_const = true }) start)
  -- sizeof (t), sizeof (a) [ a ], sizeof a
  pub size_of_type : Reads (word (codes "sizeof") ∷ opening ∷ t ∷ closing ∷ []) (e.SizeOfType (spec (b.Named (codes "t")) 0) start)
  pub size_of_element : Reads (word (codes "sizeof") ∷ opening ∷ a ∷ closing ∷ sign (codes "[") ∷ a ∷ sign (codes "]") ∷ []) (e.SizeOfExpr (e.Index name name start) start)
  pub size_of_expression : Reads (word (codes "sizeof") ∷ a ∷ []) (e.SizeOfExpr name start)
  -- call a.a[a](a, a), a->a(), post a()
  pub item_call : Reads (word (codes "call") ∷ a ∷ sign (codes ".") ∷ a ∷ sign (codes "[") ∷ a ∷ sign (codes "]") ∷ opening ∷ a ∷ sign (codes ",") ∷ a ∷ closing ∷ [])
      (e.CallItem false (codes "a") (codes "a") (Some name) (name ∷ name ∷ []) start)
  pub member_call : Reads (a ∷ sign (codes "->") ∷ a ∷ opening ∷ closing ∷ []) (e.CallFn (e.Arrow name (codes "a") start) [] start)
  pub post : Reads (word (codes "post") ∷ a ∷ opening ∷ closing ∷ []) (e.Post (codes "a") start)
  -- a <- a ends before the sign; (t) a = a ends before the assignment
  pub link_is_no_comparison : tree_of (read_in 9 (a ∷ sign (codes "<-") ∷ a ∷ [])) ≡ Some (name, 2)
  pub cast_is_not_assigned : tree_of (read_in 9 (opening ∷ t ∷ closing ∷ a ∷ gets ∷ a ∷ [])) ≡ Some (e.Cast (spec (b.Named (codes "t")) 0) name start, 2)
  -- a - ; ends too early, a - - is refused at the end
  pub torn : stop_of (read_in 9 (a ∷ minus ∷ sign (codes ";") ∷ [])) ≡ Some (false, 1)
  pub ended : stop_of (read_in 9 (a ∷ minus ∷ minus ∷ [])) ≡ Some (false, 0)
  -- ((a)) has three levels
  pub three_levels : tree_of (read_in 3 (opening ∷ opening ∷ a ∷ closing ∷ closing ∷ [])) ≡ Some (name, 0)
  pub two_are_too_few : stop_of (read_in 2 (opening ∷ opening ∷ a ∷ closing ∷ closing ∷ [])) ≡ Some (true, 4)
  -- sizeof (t *) has two
  pub star_is_a_level : stop_of (read_in 1 (word (codes "sizeof") ∷ opening ∷ t ∷ star ∷ closing ∷ [])) ≡ Some (true, 2)
