-- Worked rows of declarations, statements and components, by C99 6.7 and 6.8 and the nesC 1.3 Reference: texts with their trees, with the place of the token that is refused, and with the levels that they need.
use Rattle.std.specs.Prelude.{◌≡◌, ℕ, zero, suc, ◌-◌, nat_le, nat_eq, Bool, true, false, ◌&&◌, ◌||◌, if◌then◌else◌, List, [], ◌∷◌, ◌++◌, length, Option, Some, None, Ok, Err, codes}
use Rattle.nm_base.specs.declared.token.Token.{Token}
use Rattle.nm_base.specs.declared.token.Kind.{Kind}
use Rattle.nm_base.specs.declared.token.Kind.TheVariants as k
use Rattle.nm_base.specs.declared.int_type.IntType.TheVariants as int
use Rattle.nesc_tree.specs.declared.contexts.Jumps.TheVariants as jumps
use Rattle.nesc_tree.specs.declared.contexts.Site.TheVariants as site
use Rattle.nesc_tree.specs.declared.tree.Base.{Base}
use Rattle.nesc_tree.specs.declared.tree.Base.TheVariants as b
use Rattle.nesc_tree.specs.declared.tree.Expr.{Expr}
use Rattle.nesc_tree.specs.declared.tree.Expr.TheVariants as e
use Rattle.nesc_tree.specs.declared.tree.InOp.TheVariants as op
use Rattle.nesc_tree.specs.declared.tree.PostOp.TheVariants as post
use Rattle.nesc_tree.specs.declared.tree.Param.{Param}
use Rattle.nesc_tree.specs.declared.tree.TypeSpec.{TypeSpec}
use Rattle.nesc_tree.specs.declared.declarations.AttrArg.TheVariants as arg
use Rattle.nesc_tree.specs.declared.declarations.Decl.{Decl}
use Rattle.nesc_tree.specs.declared.declarations.Decl.TheVariants as d
use Rattle.nesc_tree.specs.declared.declarations.ForStart.TheVariants as start
use Rattle.nesc_tree.specs.declared.declarations.FuncHead.{FuncHead}
use Rattle.nesc_tree.specs.declared.declarations.FuncKind.TheVariants as kind
use Rattle.nesc_tree.specs.declared.declarations.Init.{Init}
use Rattle.nesc_tree.specs.declared.declarations.Init.TheVariants as i
use Rattle.nesc_tree.specs.declared.declarations.Stmt.{Stmt}
use Rattle.nesc_tree.specs.declared.declarations.Stmt.TheVariants as st
use Rattle.nesc_tree.specs.declared.declarations.Variable.{Variable}
use Rattle.nesc_tree.specs.declared.components.ConfLine.TheVariants as line
use Rattle.nesc_tree.specs.declared.components.GenericArg.TheVariants as garg
use Rattle.nesc_tree.specs.declared.components.Part.TheVariants as part
use Rattle.nesc_tree.specs.Sorts.{Names}
use Rattle.nesc_tree.specs.Phrase.{Phrase, Of}
use Rattle.nesc_tree.specs.Reading.{Syntax, Deep, Answer}
use Rattle.nesc_grammar.specs.Laws.{answer}
use Rattle.nesc_grammar.specs.Rows as rows

-- ---- the tokens of a text with one space between them, all at one place

abbrev pub kind_by : ℕ → Kind
kind_by c = if nat_eq c 34 then k.Text else (if nat_le 48 c && nat_le c 57 then k.Number else (if (nat_le 65 c && nat_le c 90) || (nat_le 97 c && nat_le c 122) || nat_eq c 95 then k.Word else k.Sign))

abbrev pub token_of : List ℕ → List Token
token_of [] = []
token_of (c ∷ cs) = record { kind = kind_by c; text = c ∷ cs; pos = rows.start; first = false } ∷ []

abbrev pub split : List ℕ → List ℕ → List Token
split word [] = token_of word
split word (c ∷ cs) = if nat_eq c 32 then token_of word ++ split [] cs else split (word ++ (c ∷ [])) cs

abbrev pub tokens : List ℕ → List Token
tokens text = split [] text

-- t is a type name
abbrev pub names : Names
names = (codes "t", true) ∷ []

-- the tree, the names behind it, and how many tokens are left
abbrev pub Found : Phrase → Type 0
Found k = Option (Of k × Names × ℕ)

abbrev pub found : {A : Type 0} → Answer A → Option (A × Names × ℕ)
found (Ok x) = Some (x.0, x.1.names, length x.1.rest)
found (Err f) = None

abbrev pub Reads : (k : Phrase) → List ℕ → Of k → Names → Type 0
Reads k text tree after = found (answer 12 k names (tokens text)) ≡ Some (tree, after, 0)

-- ---- trees of names, types and expressions

abbrev pub name : List ℕ → Expr
name text = e.Name text rows.start

abbrev pub a : Expr
a = name (codes "a")

abbrev pub t : Expr
t = name (codes "t")

abbrev pub number : List ℕ → Expr
number text = e.Number text rows.start

abbrev pub spec : Base → ℕ → List Expr → TypeSpec
spec base stars dims = record { base = base; stars = stars; dims = dims; is_const = false }

abbrev pub int_type : TypeSpec
int_type = spec (b.Int int.I16) 0 []

abbrev pub t_type : TypeSpec
t_type = spec (b.Named (codes "t")) 0 []

abbrev pub variable : List ℕ → ℕ → List Expr → Option Init → Variable
variable text stars dims init = record { declarator = record { stars = stars; name = text; dims = dims }; init = init; pos = rows.start }

abbrev pub vars : Bool → TypeSpec → List Variable → Decl
vars norace ty vs = d.Vars (record { ty = ty; norace = norace; vars = vs })

abbrev pub local : TypeSpec → List Variable → Stmt
local ty vs = st.Local (vars false ty vs) rows.start

abbrev pub eval : Expr → Stmt
eval x = st.Eval x rows.start

abbrev pub empty : Stmt
empty = st.Empty rows.start

abbrev pub block : List Stmt → Stmt
block xs = st.Block xs rows.start

abbrev pub assign : Expr → Expr → Expr
assign x y = e.Assign None x y rows.start

abbrev pub size_of : TypeSpec → Expr
size_of x = e.SizeOfType x rows.start

abbrev pub stmt : Phrase
stmt = Phrase.stmt jumps.Neither

abbrev pub decl : Phrase
decl = Phrase.decl site.Module

abbrev pub plain_head : List ℕ → TypeSpec → List Param → FuncHead
plain_head text ty ps = record { kind = kind.Plain; name = text; item = None; bracket = None; is_async = false; is_default = false; result = ty; params = ps; attrs = []; pos = rows.start }

abbrev pub t_hidden : Names
t_hidden = (codes "t", false) ∷ []

-- texts with their trees
pub record DeclarationTrees : Type 0 where
  -- an else belongs to the nearest if
  pub nearest_if : Reads stmt (codes "if ( a ) if ( a ) ; else ;") (st.If a (st.If a empty (Some empty) rows.start) None rows.start) names
  pub outer_if : Reads stmt (codes "if ( a ) { if ( a ) ; } else ;") (st.If a (block (st.If a empty None rows.start ∷ [])) (Some empty) rows.start) names
  pub loops : Reads stmt (codes "while ( a ) do continue ; while ( a ) ;") (st.While a (st.DoWhile (st.Continue rows.start) a rows.start) rows.start) names
  -- a local hides a type name, and gives it back at the end of its block
  pub hidden_in_block : Reads stmt (codes "{ { int t ; t = a ; } t a ; }") (block (block (local int_type (variable (codes "t") 0 [] None ∷ []) ∷ eval (assign t a) ∷ []) ∷ local t_type (variable (codes "a") 0 [] None ∷ []) ∷ [])) names
  -- so does the variable of a for
  pub hidden_in_for : Reads stmt (codes "{ for ( int t = 0 ; t < a ; t ++ ) t = a ; t a ; }")
      (block (st.For (start.Vars (record { ty = int_type; norace = false; vars = variable (codes "t") 0 [] (Some (i.One (number (codes "0")))) ∷ [] })) (Some (e.Binary op.Lt t a rows.start)) (Some (e.Postfix post.Inc t rows.start)) (eval (assign t a)) rows.start ∷ local t_type (variable (codes "a") 0 [] None ∷ []) ∷ [])) names
  -- from behind its declarator on: the dimension means the type, the initialiser the variable
  pub hidden_from_declarator : Reads stmt (codes "{ int t [ sizeof ( t ) ] = { t , } , u = sizeof ( t ) ; }")
      (block (local int_type (variable (codes "t") 0 (size_of t_type ∷ []) (Some (i.Many (i.One t ∷ []))) ∷ variable (codes "u") 0 [] (Some (i.One (e.SizeOfExpr t rows.start))) ∷ []) ∷ [])) names
  -- a typedef in a block is a type name up to its end
  pub typedef_in_block : Reads stmt (codes "{ typedef t * u [ 2 ] ; u a ; { int t ; u * t ; } }")
      (block (st.Local (d.Typedef (codes "u") (spec (b.Named (codes "t")) 1 (number (codes "2") ∷ [])) [] rows.start) rows.start ∷ local (spec (b.Named (codes "u")) 0 []) (variable (codes "a") 0 [] None ∷ []) ∷ block (local int_type (variable (codes "t") 0 [] None ∷ []) ∷ local (spec (b.Named (codes "u")) 0 []) (variable (codes "t") 1 [] None ∷ []) ∷ []) ∷ [])) names
  pub product_of_hidden : Reads stmt (codes "{ int t ; t * a ; }") (block (local int_type (variable (codes "t") 0 [] None ∷ []) ∷ eval (e.Binary op.Mul t a rows.start) ∷ [])) names
  -- labels at the top level of a switch, one behind the other
  pub cases : Reads stmt (codes "switch ( a ) { a ; case 1 : default : break ; case a + 1 : { } }")
      (st.Switch a (block (eval a ∷ st.Case (number (codes "1")) (st.Default (st.Break rows.start) rows.start) rows.start ∷ st.Case (e.Binary op.Add a (number (codes "1")) rows.start) (block []) rows.start ∷ [])) rows.start) names
  pub continue_in_switch : Reads stmt (codes "for ( ; ; ) switch ( a ) { case a : continue ; }") (st.For start.Nothing None None (st.Switch a (block (st.Case a (st.Continue rows.start) rows.start ∷ [])) rows.start) rows.start) names
  pub atomic_return : Reads stmt (codes "atomic return a , a ;") (st.Atomic (st.Return (Some (e.Comma a a rows.start)) rows.start) rows.start) names
  -- variables of a module; a name hides a type name from the end of its declaration on
  pub variables : Reads decl (codes "norace static t * a , t [ 2 ] = { { a } , 1 } ;") (vars true t_type (variable (codes "a") 1 [] None ∷ variable (codes "t") 0 (number (codes "2") ∷ []) (Some (i.Many (i.Many (i.One a ∷ []) ∷ i.One (number (codes "1")) ∷ []))) ∷ [])) t_hidden
  pub static_variable : Reads decl (codes "static t a @ c ( 1 ) = sizeof ( t ) ;") (vars false t_type (variable (codes "a") 0 [] (Some (i.One (size_of t_type))) ∷ [])) names
  pub type_only : Reads decl (codes "const t volatile ;") (d.TypeOnly (record { base = b.Named (codes "t"); stars = 0; dims = []; is_const = true }) rows.start) names
  pub typedef : Reads decl (codes "typedef int u @ combine ( \"f\" , a ) ;") (d.Typedef (codes "u") int_type (record { name = codes "combine"; args = arg.Text (codes "\"f\"") ∷ arg.Value a ∷ [] } ∷ []) rows.start) ((codes "t", true) ∷ (codes "u", true) ∷ [])
  -- a parameter hides a type name in the body, and void alone is no parameter
  pub function : Reads decl (codes "t f ( t t , int * [ 2 ] ) { t = a ; }")
      (d.Func (plain_head (codes "f") t_type (record { ty = t_type; name = Some (codes "t") } ∷ record { ty = spec (b.Int int.I16) 1 (number (codes "2") ∷ []); name = None } ∷ [])) (Some (block (eval (assign t a) ∷ [])))) names
  pub prototype : Reads decl (codes "inline void * t ( void ) ;") (d.Func (plain_head (codes "t") (spec b.Void 1 []) []) None) t_hidden
  pub void_pointer : Reads decl (codes "void f ( void * ) ;") (d.Func (plain_head (codes "f") (spec b.Void 0 []) (record { ty = spec b.Void 1 []; name = None } ∷ [])) None) names
  pub item : Reads decl (codes "default async command t t . x [ t i ] ( ) @ c ( ) { }")
      (d.Func (record { kind = kind.Command; name = codes "t"; item = Some (codes "x"); bracket = Some (record { ty = t_type; name = Some (codes "i") }); is_async = true; is_default = true; result = t_type; params = []; attrs = record { name = codes "c"; args = [] } ∷ []; pos = rows.start }) (Some (block []))) names
  pub task : Reads decl (codes "task void x ( ) ;") (d.Func (record { kind = kind.Task; name = codes "x"; item = None; bracket = None; is_async = false; is_default = false; result = spec b.Void 0 []; params = []; attrs = []; pos = rows.start }) None) names
  -- behind `[` a type begins the parameter of a function's bracket, all else a dimension
  pub bracket : Reads decl (codes "int f [ t i ] ( ) ;") (d.Func (record { kind = kind.Plain; name = codes "f"; item = None; bracket = Some (record { ty = t_type; name = Some (codes "i") }); is_async = false; is_default = false; result = int_type; params = []; attrs = []; pos = rows.start }) None) names
  pub dimension : Reads decl (codes "int f [ a ] [ 2 ] ;") (vars false int_type (variable (codes "f") 0 (a ∷ number (codes "2") ∷ []) None ∷ [])) names
  -- declarations up to a token that ends them
  pub up_to_brace : Reads (Phrase.decls site.Module) (codes "typedef int u ; u a ; }") (d.Typedef (codes "u") int_type [] rows.start ∷ vars false (spec (b.Named (codes "u")) 0 []) (variable (codes "a") 0 [] None ∷ []) ∷ []) ((codes "t", true) ∷ (codes "u", true) ∷ [])
  -- a generic interface: its type parameter is a type name up to its end
  pub interface_unit : Reads Phrase.interface (codes "interface I < u > @ c ( ) { async event u x ( t * p ) ; command void y ( ) ; }")
      (record { decls = []; part = part.Interface (record { name = codes "I"; params = codes "u" ∷ []; items = record { name = codes "x"; is_event = true; is_async = true; result = spec (b.Named (codes "u")) 0 []; params = record { ty = spec (b.Named (codes "t")) 1 []; name = Some (codes "p") } ∷ []; pos = rows.start } ∷ record { name = codes "y"; is_event = false; is_async = false; result = spec b.Void 0 []; params = []; pos = rows.start } ∷ []; attrs = record { name = codes "c"; args = [] } ∷ [] }) }) names
  -- what headers declare stays in force, what the component declares does not
  pub module_unit : Reads Phrase.component (codes "typedef int v ; generic module M ( typedef u , int n ) { provides interface I < u , v > as J [ t i ] ; uses { interface K ; } } implementation { u a ; typedef int w ; }")
      (record {
        decls = d.Typedef (codes "v") int_type [] rows.start ∷ [];
        part = part.Module (record {
          head = record {
            name = codes "M";
            generic = Some (record { name = codes "u"; ty = None } ∷ record { name = codes "n"; ty = Some int_type } ∷ []);
            elems = record { provides = true; iface = codes "I"; args = spec (b.Named (codes "u")) 0 [] ∷ spec (b.Named (codes "v")) 0 [] ∷ []; name = codes "J"; param = Some t_type; pos = rows.start } ∷ record { provides = false; iface = codes "K"; args = []; name = codes "K"; param = None; pos = rows.start } ∷ [];
            attrs = [];
          };
          decls = vars false (spec (b.Named (codes "u")) 0 []) (variable (codes "a") 0 [] None ∷ []) ∷ d.Typedef (codes "w") int_type [] rows.start ∷ [];
        });
      }) ((codes "t", true) ∷ (codes "v", true) ∷ [])
  pub configuration_unit : Reads Phrase.component (codes "configuration C { } implementation { components A , new B ( t , 1 ) as D ; A . x -> D ; t <- A [ 2 ] ; x = t . y ; t const ; }")
      (record {
        decls = [];
        part = part.Config (record {
          head = record { name = codes "C"; generic = None; elems = []; attrs = [] };
          lines =
              line.Component (codes "A") None (codes "A") rows.start ∷
              line.Component (codes "B") (Some (garg.Ty t_type ∷ garg.Value (number (codes "1")) ∷ [])) (codes "D") rows.start ∷
              line.Link (record { first = codes "A"; second = Some (codes "x"); param = None }) (record { first = codes "D"; second = None; param = None }) rows.start ∷
              line.Link (record { first = codes "A"; second = None; param = Some (number (codes "2")) }) (record { first = codes "t"; second = None; param = None }) rows.start ∷
              line.Equate (record { first = codes "x"; second = None; param = None }) (record { first = codes "t"; second = Some (codes "y"); param = None }) rows.start ∷
              line.Decl (d.TypeOnly (record { base = b.Named (codes "t"); stars = 0; dims = []; is_const = true }) rows.start) ∷
              [];
        });
      }) names

-- ---- texts that are refused, with the number of tokens before the one where no text goes on

abbrev pub Row : Type 0
Row = Phrase × List ℕ × ℕ

abbrev pub stop_of : {A : Type 0} → ℕ → Answer A → Option (Bool × ℕ)
stop_of n (Ok x) = None
stop_of n (Err (Syntax ts)) = Some (false, n - length ts)
stop_of n (Err (Deep ts)) = Some (true, n - length ts)

-- whether there were too few levels, and how many tokens were read
abbrev pub stopped : ℕ → (k : Phrase) → List Token → Option (Bool × ℕ)
stopped levels k ts = stop_of (length ts) (answer levels k names ts)

abbrev pub is_refused : Option (Bool × ℕ) → ℕ → Bool
is_refused (Some (false, n)) m = nat_eq n m
is_refused _ m = false

-- the rows that say otherwise
abbrev pub misses : List Row → List (Row × Option (Bool × ℕ))
misses [] = []
misses (r ∷ rs) = if is_refused (stopped 9 r.0 (tokens r.1)) r.2 then misses rs else (r, stopped 9 r.0 (tokens r.1)) ∷ misses rs

abbrev pub header : Phrase
header = Phrase.decl site.Header

abbrev pub statements_refused : List Row
statements_refused =
    -- jumps and labels out of place
    (stmt, codes "break ;", 0) ∷
    (stmt, codes "continue ;", 0) ∷
    (stmt, codes "if ( a ) break ;", 4) ∷
    (stmt, codes "switch ( a ) continue ;", 4) ∷
    (stmt, codes "switch ( a ) { while ( a ) { } continue ; }", 11) ∷
    (stmt, codes "case 1 : ;", 0) ∷
    (stmt, codes "switch ( a ) case 1 : ;", 4) ∷
    (stmt, codes "switch ( a ) { { case 1 : ; } }", 6) ∷
    (stmt, codes "switch ( a ) { if ( a ) case 1 : ; }", 9) ∷
    (stmt, codes "switch ( a ) { case 1 : int b ; }", 8) ∷
    (stmt, codes "switch ( a ) { case 1 ; }", 7) ∷
    (stmt, codes "switch ( a ) { case 1 , 2 : ; }", 7) ∷
    (stmt, codes "switch ( a ) { default 1 : ; }", 6) ∷
    (stmt, codes "while ( a ) { default : ; }", 5) ∷
    (stmt, codes "switch ( ) ;", 2) ∷
    (stmt, codes "goto a ;", 0) ∷
    -- parts that are missing
    (stmt, codes "else ;", 0) ∷
    (stmt, codes "if ( a ) else ;", 4) ∷
    (stmt, codes "if ( a ) ; else", 6) ∷
    (stmt, codes "if a", 1) ∷
    (stmt, codes "while ( ) ;", 2) ∷
    (stmt, codes "do ; while ( a )", 6) ∷
    (stmt, codes "do ;", 2) ∷
    (stmt, codes "for ( a ; a ) ;", 5) ∷
    (stmt, codes "for ( int b , ; ; ) ;", 5) ∷
    (stmt, codes "for ( typedef int b ; ; ) ;", 2) ∷
    (stmt, codes "for ( ; ; a", 5) ∷
    (stmt, codes "return a", 2) ∷
    (stmt, codes "a", 1) ∷
    (stmt, codes "a b ;", 1) ∷
    (stmt, codes "atomic }", 1) ∷
    (stmt, codes "{ a ;", 3) ∷
    -- declarations where none may stand
    (stmt, codes "int b ;", 0) ∷
    (stmt, codes "t = a ;", 0) ∷
    (stmt, codes "if ( a ) int b ;", 4) ∷
    (stmt, codes "{ static int b ; }", 1) ∷
    (stmt, codes "{ norace int b ; }", 1) ∷
    (stmt, codes "{ int f ( ) ; }", 3) ∷
    (stmt, codes "{ int ; int = 1 ; }", 4) ∷
    (stmt, codes "{ int b [ ] ; }", 4) ∷
    (stmt, codes "{ int b = { } ; }", 5) ∷
    (stmt, codes "{ int b = { 1 , , } ; }", 7) ∷
    (stmt, codes "{ int b = 1 , 2 ; }", 6) ∷
    (stmt, codes "{ typedef int ; }", 3) ∷
    (stmt, codes "{ typedef int b = 1 ; }", 4) ∷
    (stmt, codes "{ struct a { int b } c ; }", 6) ∷
    (stmt, codes "{ enum { } c ; }", 3) ∷
    -- names that are no type names there
    (stmt, codes "{ int t ; t b ; }", 5) ∷
    (stmt, codes "{ { typedef int u ; } u b ; }", 8) ∷
    (stmt, codes "for ( int t ; ; ) { t b ; }", 9) ∷
    (stmt, codes "{ for ( int b ; ; ) ; else ; }", 9) ∷
    []

abbrev pub declarations_refused : List Row
declarations_refused =
    (decl, codes "norace int f ( ) ;", 3) ∷
    (decl, codes "norace async int b ;", 1) ∷
    (decl, codes "async int b ;", 3) ∷
    (decl, codes "default norace int b ;", 1) ∷
    (decl, codes "static async int b ;", 4) ∷
    (decl, codes "static int ;", 2) ∷
    (decl, codes "int I . x ;", 4) ∷
    (decl, codes "int f [ t i ] ;", 6) ∷
    (decl, codes "int f [ 2 ] ( ) ;", 5) ∷
    (decl, codes "command int b = 1 ;", 3) ∷
    (decl, codes "task command void f ( ) ;", 1) ∷
    (decl, codes "void f ( int , ) ;", 5) ∷
    (decl, codes "void f ( int a [ 1 ] [ 2 ] ) ;", 8) ∷
    (decl, codes "int f ( t t , t b ) ;", 6) ∷
    (decl, codes "void f ( ) int", 4) ∷
    (decl, codes "int * ;", 2) ∷
    (decl, codes "typedef static int b ;", 1) ∷
    (decl, codes "int b @ c ;", 4) ∷
    (decl, codes "int b = 1 @ c ( ) ;", 4) ∷
    (decl, codes "f ( ) ;", 0) ∷
    -- no variables in a header
    (header, codes "int b ;", 2) ∷
    (header, codes "int b = 1 ;", 2) ∷
    (header, codes "int b , c ;", 2) ∷
    (header, codes "int b [ 2 ] ;", 2) ∷
    (header, codes "static int b ;", 3) ∷
    (header, codes "norace int b ;", 0) ∷
    (Phrase.decls site.Header, codes "typedef int u ; u b ; }", 6) ∷
    (Phrase.decls site.Module, codes "int b ; )", 3) ∷
    (Phrase.decls site.Module, codes "int b", 2) ∷
    []

abbrev pub components_refused : List Row
components_refused =
    (Phrase.component, codes "interface I { }", 0) ∷
    (Phrase.component, codes "module { }", 1) ∷
    (Phrase.component, codes "module M ( int ) { }", 4) ∷
    (Phrase.component, codes "module M { provides K ; }", 4) ∷
    (Phrase.component, codes "module M { uses interface K as ; }", 7) ∷
    (Phrase.component, codes "module M { } }", 4) ∷
    (Phrase.component, codes "module M { } implementation { A -> B ; }", 6) ∷
    (Phrase.component, codes "configuration M { } implementation { A . -> B ; }", 8) ∷
    (Phrase.component, codes "configuration M { } implementation { A = ; }", 8) ∷
    (Phrase.component, codes "configuration M { } implementation { t * b ; }", 7) ∷
    (Phrase.component, codes "configuration M { } implementation { components ; }", 7) ∷
    (Phrase.interface, codes "interface I { int b ; }", 3) ∷
    (Phrase.interface, codes "interface I < > { }", 3) ∷
    (Phrase.interface, codes "int f ( ) { } module M", 6) ∷
    []

-- ---- 200 levels, and one more

abbrev pub times : ℕ → List Token → List Token → List Token
times zero ts rest = rest
times (suc n) ts rest = ts ++ times n ts rest

-- the opening tokens so often, then the inner ones, then the closing ones so often
abbrev pub Nest : Type 0
Nest = Phrase × List ℕ × List ℕ × List ℕ × List ℕ × List ℕ

abbrev pub nested : Nest → ℕ → List Token
nested r n = tokens r.1 ++ times n (tokens r.2) (tokens r.3 ++ times n (tokens r.4) (tokens r.5))

abbrev pub is_too_deep : Option (Bool × ℕ) → ℕ → Bool
is_too_deep (Some (true, n)) m = nat_eq n m
is_too_deep _ m = false

abbrev pub is_read : Option (Bool × ℕ) → Bool
is_read None = true
is_read (Some x) = false

-- with so many levels so many turns are read; one turn more is too deep at this token
abbrev pub Depth : Type 0
Depth = Nest × ℕ × ℕ × ℕ

-- reading with so many turns, and with one more
abbrev pub at_depth : Depth → Option (Bool × ℕ)
at_depth r = stopped r.1 (r.0).0 (nested r.0 r.2)

abbrev pub below_depth : Depth → Option (Bool × ℕ)
below_depth r = stopped r.1 (r.0).0 (nested r.0 (suc r.2))

abbrev pub wrong_depths : List Depth → List (Depth × Option (Bool × ℕ) × Option (Bool × ℕ))
wrong_depths [] = []
wrong_depths (r ∷ rs) = if is_read (at_depth r) && is_too_deep (below_depth r) r.3 then wrong_depths rs else (r, at_depth r, below_depth r) ∷ wrong_depths rs

abbrev pub depths : List Depth
depths =
    ((stmt, [], codes "{", [], codes "}", []), 200, 200, 200) ∷
    ((stmt, [], codes "if ( a )", codes ";", [], []), 200, 199, 796) ∷
    ((stmt, [], codes "(", codes "a", codes ")", codes ";"), 200, 198, 198) ∷
    ((stmt, [], codes "-", codes "a", [], codes ";"), 200, 198, 198) ∷
    ((stmt, codes "switch ( a ) {", codes "case 1 :", codes ";", [], codes "}"), 200, 197, 596) ∷
    ((Phrase.local, codes "int", codes "*", codes "a ;", [], []), 200, 199, 200) ∷
    ((Phrase.local, codes "int a =", codes "{", codes "1", codes "}", codes ";"), 200, 198, 201) ∷
    ((Phrase.local, [], codes "struct {", codes "int a ;", codes "} a ;", []), 200, 199, 399) ∷
    -- what stands outside of blocks is no level
    ((decl, codes "void f ( )", codes "{", [], codes "}", []), 201, 200, 204) ∷
    ((decl, codes "int a =", codes "{", codes "1", codes "}", codes ";"), 201, 199, 202) ∷
    ((Phrase.decls site.Header, codes "int f ( int", codes "*", codes ") ; }", [], []), 202, 200, 204) ∷
    ((Phrase.component, codes "module M { } implementation { int a @ c (", codes "(", codes "a", codes ")", codes ") ; }"), 202, 199, 210) ∷
    []

pub record DeclarationRows : Type 0 where
  pub statements : misses statements_refused ≡ []
  pub declarations : misses declarations_refused ≡ []
  pub components : misses components_refused ≡ []
  pub levels : wrong_depths depths ≡ []
