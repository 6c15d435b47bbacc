-- Worked rows of printed trees, by hand from C99 6.5 to 6.8 and the nesC 1.3 Reference: a space stands between two words.
use Rattle.std.specs.Prelude.{◌≡◌, ℕ, true, false, List, [], ◌∷◌, ◌++◌, codes, Some, None}
use Rattle.nm_base.specs.declared.pos.Pos.{Pos}
use Rattle.nm_base.specs.declared.int_type.IntType.TheVariants as int
use Rattle.nm_base.specs.declared.token.Kind.TheVariants as k
use Rattle.nesc_tree.specs.declared.tree.Expr as tree
use Rattle.nesc_tree.specs.declared.tree.TypeSpec as type
use Rattle.nesc_tree.specs.declared.tree.InOp.TheVariants as op
use Rattle.nesc_tree.specs.declared.tree.PreOp.TheVariants as pre
use Rattle.nesc_tree.specs.declared.tree.PostOp.TheVariants as post
use Rattle.nesc_tree.specs.declared.declarations.AttrArg.TheVariants as arg
use Rattle.nesc_tree.specs.declared.declarations.Decl.TheOpen as D
use Rattle.nesc_tree.specs.declared.declarations.ForStart.TheVariants as start
use Rattle.nesc_tree.specs.declared.declarations.FuncHead.{FuncHead}
use Rattle.nesc_tree.specs.declared.declarations.FuncKind.TheVariants as kind
use Rattle.nesc_tree.specs.declared.components.ConfLine.TheVariants as line
use Rattle.nesc_tree.specs.declared.components.Part.TheVariants as part
use Rattle.nesc_tree.specs.Plain as p
use Rattle.nesc_tree.specs.View.{expr_of, spec_of}
use Rattle.nesc_print_words.specs.Lexemes.{Words, word, sign, number, semicolon}
use Rattle.nesc_print_words.specs.Expressions.{expr_words, type_words}
use Rattle.nesc_print_words.specs.Declarations.{attr_words, head_words, params_words, typedef_words}
use Rattle.nesc_print_words.specs.Statements.{stmt_layer, decl_layer}
use Rattle.nesc_print_words.specs.Components.{elem_words, generic_words, line_words, part_words, sig_words, unit_words}

-- a space behind each word
abbrev pub spelled : Words → List ℕ
spelled [] = []
spelled (w ∷ ws) = w.text ++ (codes " " ++ spelled ws)

abbrev pub Prints : p.Expr → List ℕ → Type 0
Prints e text = spelled (expr_words e) ≡ text

abbrev pub TypePrints : p.TypeSpec → List ℕ → Type 0
TypePrints t text = spelled (type_words t) ≡ text

abbrev pub at : Pos
at = record { file = 0; line = 1; col = 1 }

abbrev pub a : p.Expr
a = p.name (codes "a") at

abbrev pub b : p.Expr
b = p.name (codes "b") at

abbrev pub c : p.Expr
c = p.name (codes "c") at

abbrev pub less : p.Expr → p.Expr → p.Expr
less x y = p.binary op.Sub x y at

abbrev pub times : p.Expr → p.Expr → p.Expr
times x y = p.binary op.Mul x y at

abbrev pub gets : p.Expr → p.Expr → p.Expr
gets x y = p.assign None x y at

abbrev pub minus : p.Expr → p.Expr
minus x = p.unary pre.Neg x at

abbrev pub plain : p.Base → p.TypeSpec
plain base = p.type_spec base 0 p.no_exprs false

abbrev pub t : p.TypeSpec
t = plain (p.named (codes "t"))

abbrev pub cast : p.Expr → p.Expr
cast x = p.cast t x at

abbrev pub both : p.Exprs
both = p.more_exprs a (p.more_exprs (p.comma b c at) p.no_exprs)

pub record ExpressionRows : Type 0 where
  -- left and right operands of one level
  pub groups_left : Prints (less (less a b) c) (codes "a - b - c ")
  pub right_sum : Prints (less a (less b c)) (codes "a - ( b - c ) ")
  pub product_in_sum : Prints (less a (times b c)) (codes "a - b * c ")
  pub sum_in_product : Prints (times (less a b) c) (codes "( a - b ) * c ")
  pub shift_in_sum : Prints (less a (p.binary op.Shl b c at)) (codes "a - ( b << c ) ")
  pub equality : Prints (p.binary op.Eq (p.binary op.Lt a b at) (p.binary op.Ne b c at) at) (codes "a < b == ( b != c ) ")
  pub bits : Prints (p.binary op.Or (p.binary op.Xor a b at) (p.binary op.And b c at) at) (codes "a ^ b | b & c ")
  pub bits_in_test : Prints (p.binary op.Eq (p.binary op.And a b at) c at) (codes "( a & b ) == c ")
  pub logical : Prints (p.binary op.AndAnd (p.binary op.OrOr a b at) c at) (codes "( a || b ) && c ")
  -- assignments, choices and commas
  pub assignments : Prints (gets a (gets b c)) (codes "a = b = c ")
  pub left_assignment : Prints (gets (gets a b) c) (codes "( a = b ) = c ")
  pub assigned_pointer : Prints (p.assign (Some op.Shr) (p.unary pre.Deref a at) b at) (codes "* a >>= b ")
  pub assigned_cast : Prints (gets (cast a) b) (codes "( ( t ) a ) = b ")
  pub choices : Prints (p.choice a b (p.choice a b c at) at) (codes "a ? b : a ? b : c ")
  pub choice_of_choice : Prints (p.choice (p.choice a b c at) b c at) (codes "( a ? b : c ) ? b : c ")
  pub comma_in_choice : Prints (p.choice a (p.comma b c at) (gets b c) at) (codes "a ? b , c : ( b = c ) ")
  pub commas : Prints (p.comma (p.comma a b at) (p.comma b c at) at) (codes "a , b , ( b , c ) ")
  pub choice_in_assignment : Prints (gets a (p.choice a b c at)) (codes "a = a ? b : c ")
  -- signs before an operand, and casts
  pub signs : Prints (minus (minus a)) (codes "- - a ")
  pub sign_of_sum : Prints (minus (less a b)) (codes "- ( a - b ) ")
  pub sum_of_sign : Prints (less (minus a) b) (codes "- a - b ")
  pub sign_of_cast : Prints (minus (cast a)) (codes "- ( t ) a ")
  pub step_of_sign : Prints (p.unary pre.Inc (minus a) at) (codes "++ - a ")
  pub step_of_cast : Prints (p.unary pre.Inc (cast a) at) (codes "++ ( ( t ) a ) ")
  pub cast_of_cast : Prints (cast (cast (minus a))) (codes "( t ) ( t ) - a ")
  pub cast_of_sum : Prints (cast (less a b)) (codes "( t ) ( a - b ) ")
  pub product_of_cast : Prints (times (cast a) b) (codes "( t ) a * b ")
  -- what stands behind an operand
  pub step_behind : Prints (p.unary pre.Deref (p.postfix post.Inc a at) at) (codes "* a ++ ")
  pub step_behind_sign : Prints (p.postfix post.Dec (p.unary pre.Deref a at) at) (codes "( * a ) -- ")
  pub element : Prints (p.index (p.index a (p.comma a b at) at) c at) (codes "a [ a , b ] [ c ] ")
  pub element_of_cast : Prints (p.index (cast a) b at) (codes "( ( t ) a ) [ b ] ")
  pub members : Prints (p.arrow (p.member a (codes "x") at) (codes "y") at) (codes "a . x -> y ")
  pub member_of_pointer : Prints (p.member (p.unary pre.Deref a at) (codes "x") at) (codes "( * a ) . x ")
  pub call : Prints (p.call_fn a both at) (codes "a ( a , ( b , c ) ) ")
  pub call_of_none : Prints (p.call_fn a p.no_exprs at) (codes "a ( ) ")
  -- sizes, and forms with a word
  pub size : Prints (p.size_of_expr (p.size_of_expr a at) at) (codes "sizeof sizeof a ")
  pub size_of_element : Prints (p.size_of_expr (p.index (less a b) c at) at) (codes "sizeof ( a - b ) [ c ] ")
  pub size_of_cast : Prints (p.size_of_expr (cast a) at) (codes "sizeof ( ( t ) a ) ")
  pub size_of_type : Prints (less (p.size_of_type (p.type_spec (p.int int.U8) 1 p.no_exprs false) at) a) (codes "sizeof ( unsigned char * ) - a ")
  pub item_call : Prints (p.call_item false (codes "Timer") (codes "start") (p.some_expr (gets a b)) both at) (codes "call Timer . start [ a = b ] ( a , ( b , c ) ) ")
  pub item_signal : Prints (p.call_item true (codes "Boot") (codes "booted") p.no_expr p.no_exprs at) (codes "signal Boot . booted ( ) ")
  pub ports : Prints (p.port_write (p.number (codes "0x120") at) (p.port_read (gets a b) at) at) (codes "port_write ( 0x120 , port_read ( ( a = b ) ) ) ")
  pub unique : Prints (p.index a (p.unique (codes "\"T\"") at) at) (codes "a [ unique ( \"T\" ) ] ")
  pub unique_count : Prints (p.unique_count (codes "\"T\"") at) (codes "uniqueCount ( \"T\" ) ")
  pub post : Prints (gets a (p.post (codes "run") at)) (codes "a = post run ( ) ")
  pub nothing : Prints (p.binary op.Ne a (p.null at) at) (codes "a != NULL ")
  -- the kinds of words
  pub kinds : expr_words (less (p.number (codes "1u") at) (p.char (codes "'a'") at)) ≡ number (codes "1u") ∷ sign (codes "-") ∷ record { kind = k.Char; text = codes "'a'" } ∷ []

pub record TypeRows : Type 0 where
  pub integers : TypePrints (plain (p.int int.I8)) (codes "char ")
  pub unsigned : TypePrints (p.type_spec (p.int int.U16) 2 p.no_exprs true) (codes "const unsigned int * * ")
  pub long : TypePrints (plain (p.int int.U32)) (codes "unsigned long ")
  pub nothing : TypePrints (p.type_spec p.void 1 p.no_exprs false) (codes "void * ")
  pub tagged : TypePrints (plain (p.struct (Some (codes "s")))) (codes "struct s ")
  pub fields : TypePrints (plain (p.struct_of (Some (codes "s"))
      (p.more_groups t (p.more_declarators 0 (codes "x") p.no_exprs (p.more_declarators 1 (codes "y") (p.more_exprs a p.no_exprs) p.no_declarators))
      (p.more_groups (plain (p.struct_of None p.no_groups)) (p.more_declarators 0 (codes "z") p.no_exprs p.no_declarators) p.no_groups))))
      (codes "struct s { t x , * y [ a ] ; struct { } z ; } ")
  pub constants : TypePrints (plain (p.enum_of None (p.more_items (codes "A") p.no_expr at (p.more_items (codes "B") (p.some_expr (gets a b)) at p.no_items)))) (codes "enum { A , B = ( a = b ) } ")
  pub enum : TypePrints (plain (p.enum (Some (codes "e")))) (codes "enum e ")

abbrev pub IsName : tree.Expr → Type 0
IsName e = expr_of e ≡ a

abbrev pub IsT : type.TypeSpec → Type 0
IsT s = spec_of s ≡ t

abbrev pub semi : Words
semi = semicolon ∷ []

abbrev pub head : type.TypeSpec → FuncHead
head s = record { kind = kind.Plain; name = codes "f"; item = None; bracket = None; is_async = false; is_default = false; result = s; params = []; attrs = []; pos = at }

module _ (e : tree.Expr) (s : type.TypeSpec) where
  pub record StatementRows : Type 0 where
    pub choice : spelled (stmt_layer (D.If e semi None at)) ≡ codes "if ( a ) ; "
    pub choice_of_two : spelled (stmt_layer (D.If e (stmt_layer (D.Break at)) (Some semi) at)) ≡ codes "if ( a ) break ; else ; "
    pub loop : spelled (stmt_layer (D.While e (stmt_layer (D.Continue at)) at)) ≡ codes "while ( a ) continue ; "
    pub loop_with_test_behind : spelled (stmt_layer (D.DoWhile semi e at)) ≡ codes "do ; while ( a ) ; "
    pub endless : spelled (stmt_layer (D.For start.Nothing None None semi at)) ≡ codes "for ( ; ; ) ; "
    pub counted : spelled (stmt_layer (D.For (start.Eval e) (Some e) (Some e) (stmt_layer (D.Block [] at)) at)) ≡ codes "for ( a ; a ; a ) { } "
    pub own_variable : spelled (stmt_layer (D.For (start.Vars (record { ty = s; norace = false; vars = [] })) (Some e) None semi at)) ≡ codes "for ( t ; a ; ) ; "
    pub cases : spelled (stmt_layer (D.Switch e (stmt_layer (D.Block (stmt_layer (D.Case e (stmt_layer (D.Default semi at)) at) ∷ stmt_layer (D.Return (Some e) at) ∷ []) at)) at)) ≡ codes "switch ( a ) { case a : default : ; return a ; } "
    pub atomic : spelled (stmt_layer (D.Atomic (stmt_layer (D.Block (stmt_layer (D.Eval e at) ∷ stmt_layer (D.Return None at) ∷ []) at)) at)) ≡ codes "atomic { a ; return ; } "
    pub type : spelled (decl_layer (D.TypeOnly s at)) ≡ codes "t ; "
    pub norace : spelled (decl_layer (D.Vars (record { ty = s; norace = true; vars = [] }))) ≡ codes "norace t ; "

  pub record DeclarationRows : Type 0 where
    pub typedef : spelled (typedef_words (codes "u") s (record { name = codes "combine"; args = arg.Text (codes "\"f\"") ∷ [] } ∷ [])) ≡ codes "typedef t u @ combine ( \"f\" ) ; "
    pub attribute : spelled (attr_words (record { name = codes "vector"; args = arg.Value e ∷ arg.Value e ∷ [] })) ≡ codes "@ vector ( a , a ) "
    pub parameters : spelled (params_words (record { ty = s; name = Some (codes "x") } ∷ record { ty = s; name = None } ∷ [])) ≡ codes "( t x , t ) "
    pub prototype : spelled (decl_layer (D.Func (head s) None)) ≡ codes "t f ( ) ; "
    pub body : spelled (decl_layer (D.Func (head s) (Some (stmt_layer (D.Block [] at))))) ≡ codes "t f ( ) { } "
    pub task : spelled (head_words (record (head s) { kind = kind.Task })) ≡ codes "task t f ( ) "
    -- a bracket wants a word before the type, where none is there
    pub bracket : spelled (head_words (record (head s) { bracket = Some (record { ty = s; name = Some (codes "x") }) })) ≡ codes "inline t f [ t x ] ( ) "
    pub item : spelled (head_words (record (head s) { kind = kind.Event; item = Some (codes "done"); bracket = Some (record { ty = s; name = Some (codes "x") }); is_async = true; is_default = true })) ≡ codes "default async event t f . done [ t x ] ( ) "

  pub record ComponentRows : Type 0 where
    pub command : spelled (sig_words (record { name = codes "get"; is_event = false; is_async = true; result = s; params = []; pos = at })) ≡ codes "async command t get ( ) ; "
    pub interface : spelled (part_words (part.Interface (record { name = codes "Get"; params = codes "u" ∷ codes "v" ∷ []; items = []; attrs = [] }))) ≡ codes "interface Get < u , v > { } "
    pub plain_interface : spelled (part_words (part.Interface (record { name = codes "Boot"; params = []; items = record { name = codes "booted"; is_event = true; is_async = false; result = s; params = []; pos = at } ∷ []; attrs = [] }))) ≡ codes "interface Boot { event t booted ( ) ; } "
    pub element : spelled (elem_words (record { provides = true; iface = codes "Boot"; args = []; name = codes "Boot"; param = None; pos = at })) ≡ codes "provides interface Boot ; "
    pub named_element : spelled (elem_words (record { provides = false; iface = codes "Get"; args = s ∷ s ∷ []; name = codes "G"; param = Some s; pos = at })) ≡ codes "uses interface Get < t , t > as G [ t id ] ; "
    pub generic : spelled (generic_words (Some (record { name = codes "u"; ty = None } ∷ record { name = codes "n"; ty = Some s } ∷ []))) ≡ codes "( typedef u , t n ) "
    pub component : spelled (line_words (line.Component (codes "MainC") None (codes "MainC") at)) ≡ codes "components MainC ; "
    pub new_component : spelled (line_words (line.Component (codes "TimerC") (Some []) (codes "T") at)) ≡ codes "components new TimerC ( ) as T ; "
    pub link : spelled (line_words (line.Link (record { first = codes "A"; second = Some (codes "x"); param = Some e }) (record { first = codes "B"; second = None; param = None }) at)) ≡ codes "A . x [ a ] -> B ; "
    pub equate : spelled (line_words (line.Equate (record { first = codes "x"; second = None; param = None }) (record { first = codes "B"; second = Some (codes "y"); param = None }) at)) ≡ codes "x = B . y ; "
    pub generic_module : spelled (unit_words (record { decls = []; part = part.Module (record { head = record { name = codes "M"; generic = Some []; elems = []; attrs = [] }; decls = [] }) })) ≡ codes "generic module M ( ) { } implementation { } "
    pub configuration : spelled (unit_words (record { decls = []; part = part.Config (record { head = record { name = codes "C"; generic = None; elems = []; attrs = record { name = codes "x"; args = [] } ∷ [] }; lines = [] }) })) ≡ codes "configuration C @ x ( ) { } implementation { } "

-- `e` is the name a, and `s` the type t
abbrev pub WorkedRows : Type 0
WorkedRows = ExpressionRows × TypeRows × ((e : tree.Expr) (s : type.TypeSpec) → IsName e → IsT s → StatementRows e s × DeclarationRows e s × ComponentRows e s)
