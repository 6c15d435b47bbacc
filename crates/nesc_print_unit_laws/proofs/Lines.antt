-- The lines of a configuration are printed, and read again as the same up to places.
use Rattle.std.proofs.Common.{◌≡◌, ℕ, Bool, true, false, List, [], ◌∷◌, ◌++◌, map, Option, Some, None, refl, sym, ap, subst, ◌∙◌, append_assoc, append-nil}
use Rattle.std.specs.Prelude.{codes, option_map}
use Rattle.nm_base.specs.declared.pos.Pos.{Pos}
use Rattle.nm_base.specs.declared.token.Token.{Token}
use Rattle.nesc_tree.specs.declared.sorts.Sort.{Sort}
use Rattle.nesc_tree.specs.declared.sorts.Sort.TheVariants as s
use Rattle.nesc_tree.specs.declared.tree.Base.TheVariants as b
use Rattle.nesc_tree.specs.declared.tree.Expr as tree
use Rattle.nesc_tree.specs.declared.tree.TypeSpec.{TypeSpec}
use Rattle.nesc_tree.specs.declared.operand.CastType.{CastType}
use Rattle.nesc_tree.specs.declared.operand.Operand.{Operand}
use Rattle.nesc_tree.specs.declared.operand.Qualifiers.{Qualifiers}
use Rattle.nesc_tree.specs.declared.declarations.Attr.{Attr}
use Rattle.nesc_tree.specs.declared.declarations.Decl as decl
use Rattle.nesc_tree.specs.declared.components.ConfLine.{ConfLine}
use Rattle.nesc_tree.specs.declared.components.ConfLine.TheVariants as line
use Rattle.nesc_tree.specs.declared.components.GenericArg.{GenericArg}
use Rattle.nesc_tree.specs.declared.components.GenericArg.TheVariants as garg
use Rattle.nesc_tree.specs.declared.components.WireEnd.{WireEnd}
use Rattle.nesc_tree.specs.View.{expr_of, spec_of, base_of}
use Rattle.nesc_tree.specs.Sorts.{Names, same_sort, named, is_type, ahead, sort}
use Rattle.nesc_tree.specs.Sorts as sorts
use Rattle.nesc_tree.specs.Phrase.{Phrase, begins_type, begins_expr, begins_line}
use Rattle.nesc_tree.specs.Form.{Form, Place, next, starts, Chain, Spells, SpellsIn}
use Rattle.nesc_grammar.specs.Production.{production}
use Rattle.nesc_grammar.specs.Grammar as gr
use Rattle.nesc_grammar.specs.Grammar.{may}
use Rattle.nesc_grammar.specs.Declarations as inner
use Rattle.nesc_grammar.specs.Components as gc
use Rattle.nesc_print_words.specs.Lexemes.{Words, word, sign, semicolon, in_parentheses, listed, behind_commas}
use Rattle.nesc_print_words.specs.Expressions.{type_words}
use Rattle.nesc_print_words.specs.Declarations.{item_words}
use Rattle.nesc_print_words.specs.Components.{alias_words, generic_arg_words, component_name_words, end_bracket_words, end_words, line_words}
use Rattle.nesc_print_laws.specs.Shapes as shape
use Rattle.nesc_print_laws.specs.Shapes.{expr_shape, decl_shape}
use Rattle.nesc_print_laws.proofs.Texts.{at, Has, Prints, Leads, Any, Sorted, lead, lead_on, lead_any, lead_before, has_token, has_seq, has_map, has_behind, has_before, has_by, has_by_some, has_some, has_nothing, has_words, has_less}
use Rattle.nesc_print_laws.proofs.Signs
use Rattle.nesc_print_laws.proofs.Names.{text_is, IsName, word_sorted, has_name}
use Rattle.nesc_print_laws.proofs.Follows.{no_type}
use Rattle.nesc_print_laws.proofs.Runs.{Bare, operand, operand_leads}
use Rattle.nesc_print_laws.proofs.Lists.{Each, Row, Last}
use Rattle.nesc_print_laws.proofs.Exprs.{two}
use Rattle.nesc_print_laws.proofs.Calls.{All}
use Rattle.nesc_print_laws.proofs.Types.{Ends, type_leads, name_leads}
use Rattle.nesc_print_laws.proofs.Fields.{Matched, plain_words}
use Rattle.nesc_print_laws.proofs.Changed.{has_inner_list, Pushes, matched_map, row_pushed}
use Rattle.nesc_print_laws.proofs.StmtViews as view
use Rattle.nesc_print_laws.proofs.Stmts.{MaybeBare, SameMaybe, part as phrase}
use Rattle.nesc_print_laws.proofs.Variables.{Plain, plain_type, plain_leads, plain_spec, TypeNamed}
use Rattle.nesc_print_decl_laws.proofs.Params.{MaybeName, ParamEnd, end_of_type, end_of_expr, comma_ends, paren_ends}
use Rattle.nesc_print_decl_laws.proofs.Functions.{has_item}
use Rattle.nesc_print_decl_laws.proofs.Outside.{has_typedef_decl, typedef_ahead}
use Rattle.nesc_print_unit_laws.specs.UnitShapes as units
use Rattle.nesc_print_unit_laws.specs.UnitShapes.{type_shape, generic_arg_shape, end_shape, line_shape}
use Rattle.nesc_print_unit_laws.proofs.Keywords.{components_sorted, new_sorted}
use Rattle.nesc_print_unit_laws.proofs.Heads.{aliased, either_is, no_as, semi_no_as, comma_no_as, has_alias}

abbrev pub SameLine : ConfLine → ConfLine → Type 0
SameLine x y = line_shape y ≡ line_shape x

-- printed as a line of a configuration
pub record Lined (ns ms : Names) (x : ConfLine) : Type 0 where
  pub prints : Prints ns ms (production Phrase.line) (line_words x) Any (Matched SameLine (x ∷ []))
  pub leads : Leads ns ms (line_words x) Any (λ y. begins_line y ≡ true)

-- ---- arguments of generic components

abbrev pub FineArg : Names → GenericArg → Type 0
FineArg ns (garg.Ty t) = Plain ns t
FineArg ns (garg.Value e) = Bare ns (expr_of e)

abbrev SameArg : GenericArg → GenericArg → Type 0
SameArg x y = generic_arg_shape y ≡ generic_arg_shape x

type_arg_at : (y : Sort) → begins_type y ≡ true → (spare : ℕ) (u v : Place) (x : GenericArg) → Spells spare (SpellsIn production spare) (gr.map (λ (t : CastType). garg.Ty t.ty) gr.type_form) u x v → Spells spare (SpellsIn production spare) (gc.generic_argument_of y) u x v
type_arg_at y c spare u v x h = rw c h

value_arg_at : (y : Sort) → begins_expr y ≡ true → (spare : ℕ) (u v : Place) (x : GenericArg) → Spells spare (SpellsIn production spare) (gr.map (λ (a : Operand). garg.Value a.expr) (gr.expr 2)) u x v → Spells spare (SpellsIn production spare) (gc.generic_argument_of y) u x v
value_arg_at y c spare u v x h = rw (no_type y c, c) h

plain_ahead : {ns : Names} {F : Sort → Type 0} (t : TypeSpec) → Plain ns t → ((y : Sort) → F y → Ends y) → Leads ns ns (type_words (spec_of t)) F (λ y. begins_type y ≡ true)
plain_ahead {ns = ns} {F = F} t k f = subst (λ ws. Leads ns ns ws F (λ y. begins_type y ≡ true)) (append-nil _ ∙ (plain_words (base_of t.base) t.is_const ∙ ap type_words (sym (plain_spec ns t k)))) (type_leads k.basic t.is_const (lead_on f))

has_arg : {ns : Names} (x : GenericArg) → FineArg ns x → Prints ns ns (Form.by gc.generic_argument_of) (generic_arg_words x) ParamEnd (SameArg x)
has_arg (garg.Ty t) k = has_by_some (λ y. begins_type y ≡ true) (plain_ahead t k end_of_type) type_arg_at (has_less end_of_type (λ a h. h) (has_map (plain_type t k) (λ u h. ap units.GenericArg.ty h)))
has_arg {ns = ns} (garg.Value e) k = has_by_some (λ y. begins_expr y ≡ true) (record { leads = λ ts us r f. (operand_leads k 2).leads ts us r (end_of_expr (ahead ns us) f) }) value_arg_at (has_less end_of_expr (λ a h. h) (has_map (operand k 2 (λ a h. h)) (λ a h. ap units.GenericArg.value h)))

abbrev ListedArgs : Form (List GenericArg)
ListedArgs = inner.listed (Form.by gc.generic_argument_of)

type_starts : (y : Sort) → begins_type y ≡ true → starts ListedArgs y ≡ true
type_starts s.Qualifier h = refl
type_starts s.Void h = refl
type_starts s.Signedness h = refl
type_starts s.CharType h = refl
type_starts s.Length h = refl
type_starts s.Int h = refl
type_starts s.TypeName h = refl
type_starts s.Struct h = refl
type_starts s.Enum h = refl
type_starts _ h = absurd cc

expr_starts : (y : Sort) → begins_expr y ≡ true → starts ListedArgs y ≡ true
expr_starts s.Word c = refl
expr_starts s.Number c = refl
expr_starts s.Char c = refl
expr_starts s.LParen c = refl
expr_starts s.Plus c = refl
expr_starts s.Minus c = refl
expr_starts s.Star c = refl
expr_starts s.Amp c = refl
expr_starts s.Complement c = refl
expr_starts s.Step c = refl
expr_starts s.SizeOf c = refl
expr_starts s.Null c = refl
expr_starts s.Unique c = refl
expr_starts s.PortRead c = refl
expr_starts s.PortWrite c = refl
expr_starts s.Post c = refl
expr_starts s.Call c = refl
expr_starts _ c = absurd cc

arg_lead : {ns : Names} (x : GenericArg) → FineArg ns x → Leads ns ns (generic_arg_words x) ParamEnd (λ y. starts ListedArgs y ≡ true)
arg_lead (garg.Ty t) k = record { leads = λ ts us r f. type_starts _ ((plain_ahead t k end_of_type).leads ts us r f) }
arg_lead {ns = ns} (garg.Value e) k = record { leads = λ ts us r f. expr_starts _ ((operand_leads k 2).leads ts us r (end_of_expr (ahead ns us) f)) }

each_arg : {ns : Names} (l : List GenericArg) → All (FineArg ns) l → Each (Form.by gc.generic_argument_of) generic_arg_words ParamEnd SameArg l ns ns
each_arg [] k = Each.none
each_arg (x ∷ l) k = Each.more (has_arg x k.0) (each_arg l k.1)

commas_lead : {ns : Names} (l : List GenericArg) → Leads ns ns (behind_commas (map generic_arg_words l)) (Last ParamEnd) ParamEnd
commas_lead [] = lead_on (λ y h. h.0)
commas_lead (x ∷ l) = lead s.Comma Signs.comma_sorted comma_ends

no_args : (y : Sort) → y ≡ s.RParen → starts ListedArgs y ≡ false
no_args y e = rw e refl

has_listed_args : {ns : Names} (l : List GenericArg) → All (FineArg ns) l → Prints ns ns (Form.maybe ListedArgs []) (listed (map generic_arg_words l)) (λ y. y ≡ s.RParen) (Matched SameArg l)
has_listed_args [] k = has_less no_args (λ l h. h) (has_nothing {P = Matched SameArg []} tt)
has_listed_args (x ∷ l) k = has_less (λ y e. subst (Last ParamEnd) (sym e) (paren_ends, refl)) (λ l h. h) (has_some (lead_before (arg_lead x k.0) (commas_lead l)) (has_inner_list (Form.by gc.generic_argument_of) generic_arg_words ParamEnd SameArg comma_ends x l (each_arg (x ∷ l) k)))

has_generic_arguments : {ns : Names} (l : List GenericArg) → All (FineArg ns) l → Prints ns ns gc.generic_arguments (in_parentheses (listed (map generic_arg_words l))) Any (Matched SameArg l)
has_generic_arguments l k = has_behind (has_token Signs.opening_sorted (λ t w. w)) lead_any (has_before (has_listed_args l k) (lead s.RParen Signs.closing_sorted refl) (has_token Signs.closing_sorted (λ t w. w)))

-- ---- components

abbrev pub MaybeArgs : Names → Option (List GenericArg) → Type 0
MaybeArgs ns None = Unit {0}
MaybeArgs ns (Some l) = All (FineArg ns) l

abbrev NoAs : Sort → Type 0
NoAs y = no_as y ≡ true

old_at : (y : Sort) → same_sort y s.New ≡ false → (spare : ℕ) (u v : Place) (x : ConfLine) → Spells spare (SpellsIn production spare) gc.old_component u x v → Spells spare (SpellsIn production spare) (gc.component_of y) u x v
old_at s.New h spare u v x t = absurd cc
old_at _ h spare u v x t = t

name_no_new : (b : Bool) → same_sort (named s.Word b) s.New ≡ false
name_no_new true = refl
name_no_new false = refl

module _ (name : List ℕ) (args : Option (List GenericArg)) (alias : List ℕ) (pos : Pos) where
  abbrev Component : ConfLine
  Component = line.Component name args alias pos

  three : {a b : List ℕ} {c d : Option (List units.GenericArg)} {i j : List ℕ} → a ≡ b → c ≡ d → i ≡ j → units.ConfLine.component a c i ≡ units.ConfLine.component b d j
  three f g h = rw (f, g, h) refl

  component_same : (l : Option (List GenericArg)) (u : Option Token) (t : Token) → t.text ≡ name → option_map (map generic_arg_shape) l ≡ option_map (map generic_arg_shape) args → aliased name u ≡ alias → SameLine Component (gc.component_line l u t)
  component_same l u t w e a = three w e (either_is t u ∙ (ap (λ n. aliased n u) w ∙ a))

component_words : List ℕ → Option (List GenericArg) → List ℕ → Words
component_words name args alias = component_name_words name args ++ alias_words name alias

has_component : {ns : Names} (name : List ℕ) (args : Option (List GenericArg)) (alias : List ℕ) (pos : Pos) → IsName name → MaybeArgs ns args → IsName alias → Prints ns ns (Form.by gc.component_of) (component_words name args alias) NoAs (SameLine (line.Component name args alias pos))
unfolding component_words
has_component {ns = ns} name None alias pos k g a = has_by_some (λ y. same_sort y s.New ≡ false) (name_leads name k name_no_new) old_at
    (has_seq {Q = λ f. (t : Token) → t.text ≡ name → SameLine (line.Component name None alias pos) (f t)} (has_name ns name k) lead_any (has_map (has_alias name alias a) (λ u h t w. component_same name None alias pos None u t w refl h)) (λ t f w h. h t w))
has_component {ns = ns} name (Some l) alias pos k g a = has_by s.New (lead s.New new_sorted refl)
    (has_seq {Q = λ f. (t : Token) → t.text ≡ name → SameLine (line.Component name (Some l) alias pos) (f t)} (has_behind (has_token new_sorted (λ t w. w)) lead_any (has_name ns name k)) lead_any
    (has_seq (has_generic_arguments l g) lead_any (has_alias name alias a) (λ m u h e t w. component_same name (Some l) alias pos (Some m) u t w (ap (λ z. Some z) (matched_map generic_arg_shape l m h)) e)) (λ t f w h. h t w))

pub lined_component : {ns : Names} (name : List ℕ) (args : Option (List GenericArg)) (alias : List ℕ) (pos : Pos) → IsName name → MaybeArgs ns args → IsName alias → Lined ns ns (line.Component name args alias pos)
unfolding component_words
lined_component {ns = ns} name args alias pos k g a = record {
  prints = has_by s.Components (lead s.Components components_sorted refl) (has_behind (has_token components_sorted (λ t w. w)) lead_any (has_words words (has_before
      (has_less {F = Last NoAs} (λ y h. h) (λ l h. h) (has_inner_list {X = ConfLine} (Form.by gc.component_of) (λ _. component_words name args alias) NoAs SameLine comma_no_as (line.Component name args alias pos) [] (Each.more (has_component name args alias pos k g a) Each.none)))
      (lead s.Semi Signs.semicolon_sorted (semi_no_as, refl)) (has_token Signs.semicolon_sorted (λ t w. w)))));
  leads = lead s.Components components_sorted refl;
}
  where
    words : (component_words name args alias ++ []) ++ (semicolon ∷ []) ≡ component_name_words name args ++ (alias_words name alias ++ (semicolon ∷ []))
    words = ap (λ ws. ws ++ (semicolon ∷ [])) (append-nil (component_name_words name args ++ alias_words name alias)) ∙ append_assoc (component_name_words name args) (alias_words name alias) (semicolon ∷ [])

-- ---- wires

pub record Ended (ns : Names) (x : WireEnd) : Type 0 where
  pub is_name : IsName x.first
  pub second : MaybeName x.second
  pub param : MaybeBare ns x.param

abbrev SameEnd : WireEnd → WireEnd → Type 0
SameEnd x y = end_shape y ≡ end_shape x

no_part : Sort → Bool
no_part s.Dot = false
no_part s.LBracket = false
no_part _ = true

abbrev NoPart : Sort → Type 0
NoPart y = no_part y ≡ true

no_item : (y : Sort) → NoPart y → starts (gr.map (λ (t : Token). Some t) inner.item_name) y ≡ false
unfolding no_part
no_item s.Dot h = absurd cc
no_item _ h = refl

no_param : (y : Sort) → NoPart y → starts (gr.map (λ (a : Operand). Some a) (inner.between s.LBracket s.RBracket (gr.expr 2))) y ≡ false
unfolding no_part
no_param s.LBracket h = absurd cc
no_param _ h = refl

semi_no_part : NoPart s.Semi
unfolding no_part
semi_no_part = refl

param_lead : {ns : Names} (o : Option tree.Expr) → Leads ns ns (end_bracket_words o) NoPart (λ y. starts (gr.map (λ (t : Token). Some t) inner.item_name) y ≡ false)
param_lead None = lead_on no_item
param_lead (Some e) = lead s.LBracket Signs.left_bracket_sorted refl

has_end_param : {ns : Names} (o : Option tree.Expr) → MaybeBare ns o → Prints ns ns (inner.some (inner.between s.LBracket s.RBracket (gr.expr 2))) (end_bracket_words o) NoPart (SameMaybe o)
has_end_param None k = has_less no_param (λ a h. h) (has_nothing refl)
has_end_param (Some e) k = has_less (λ y h. tt) (λ a h. h) (has_some (lead s.LBracket Signs.left_bracket_sorted refl) (has_map (has_behind (has_token Signs.left_bracket_sorted (λ t w. w)) lead_any
    (has_before (operand k 2 (λ a h. h)) (lead s.RBracket Signs.right_bracket_sorted refl) (has_token Signs.right_bracket_sorted (λ t w. w)))) (λ a h. ap (λ z. Some z) h)))

has_end_rest : {ns : Names} (x : WireEnd) → Ended ns x → Prints ns ns gc.end_rest (item_words x.second ++ end_bracket_words x.param) NoPart (λ f. (t : Token) → t.text ≡ x.first → SameEnd x (f t))
has_end_rest x k = has_seq (has_item x.second k.second) (param_lead x.param) (has_end_param x.param k.param) (λ u a h g t w. three w h g)
  where
    three : {a b : List ℕ} {c d : Option (List ℕ)} {i j : Option Rattle.nesc_tree.specs.Plain.Expr} → a ≡ b → c ≡ d → i ≡ j → ◌≡◌ {A = units.WireEnd} (record { first = a; second = c; param = i }) (record { first = b; second = d; param = j })
    three f g h = rw (f, g, h) refl

has_end : {ns : Names} (x : WireEnd) → Ended ns x → Prints ns ns gc.end (end_words x) NoPart (SameEnd x)
has_end {ns = ns} x k = has_seq {Q = λ f. (t : Token) → t.text ≡ x.first → SameEnd x (f t)} (has_name ns x.first k.is_name) lead_any (has_end_rest x k) (λ t f w h. h t w)

-- from the joint on, it makes such a line of what stands before it
abbrev Joins : WireEnd → units.ConfLine → (WireEnd → Pos → ConfLine) → Type 0
Joins x l g = (y : WireEnd) (pos : Pos) → SameEnd x y → line_shape (g y pos) ≡ l

has_closed_end : {ns : Names} (x : WireEnd) → Ended ns x → Prints ns ns (gr.before gc.end (gr.one s.Semi)) (end_words x ++ (semicolon ∷ [])) Any (SameEnd x)
has_closed_end x k = has_before (has_end x k) (lead s.Semi Signs.semicolon_sorted semi_no_part) (has_token Signs.semicolon_sorted (λ t w. w))

has_link : {ns : Names} (x y : WireEnd) → Ended ns y → Prints ns ns (Form.by gc.joint_of) (sign (codes "->") ∷ (end_words y ++ (semicolon ∷ []))) Any (Joins x (units.ConfLine.link (end_shape x) (end_shape y)))
has_link x y k = has_by s.Arrow (lead s.Arrow Signs.arrow_sorted refl) (has_seq (has_token Signs.arrow_sorted (λ t w. w)) lead_any (has_closed_end y k) (λ t z w h a pos g. two units.ConfLine.link g h))

has_equate : {ns : Names} (x y : WireEnd) → Ended ns y → Prints ns ns (Form.by gc.joint_of) (sign (codes "=") ∷ (end_words y ++ (semicolon ∷ []))) Any (Joins x (units.ConfLine.equate (end_shape x) (end_shape y)))
has_equate x y k = has_by s.Assign (lead s.Assign Signs.gets_sorted refl) (has_seq (has_token Signs.gets_sorted (λ t w. w)) lead_any (has_closed_end y k) (λ t z w h a pos g. two units.ConfLine.equate g h))

-- what goes on a name in a wire
is_wire : Sort → Bool
is_wire s.Dot = true
is_wire s.LBracket = true
is_wire s.Arrow = true
is_wire s.Assign = true
is_wire _ = false

wire_at : (y : Sort) → is_wire y ≡ true → (spare : ℕ) (u v : Place) (f : Token → List ConfLine) → Spells spare (SpellsIn production spare) gc.wire_rest u f v → Spells spare (SpellsIn production spare) (gc.behind_type_name y) u f v
unfolding is_wire
wire_at s.Dot c spare u v f h = h
wire_at s.LBracket c spare u v f h = h
wire_at s.Arrow c spare u v f h = h
wire_at s.Assign c spare u v f h = h
wire_at _ c spare u v f h = absurd cc

name_line : (b : Bool) → begins_line (named s.Word b) ≡ true
name_line true = refl
name_line false = refl

module _ {ns : Names} (x : WireEnd) (k : Ended ns x) (w : Rattle.printed_words.specs.LaidOut.Lexeme) (ws : Words) (z : Sort) (so : Sorted ns w z) (is : is_wire z ≡ true) (np : NoPart z) (l : ConfLine)
    (u : Prints ns ns (Form.by gc.joint_of) (w ∷ ws) Any (Joins x (line_shape l))) where
  rest_words : Words
  rest_words = (item_words x.second ++ end_bracket_words x.param) ++ (w ∷ ws)

  wire_lead : Leads ns ns rest_words Any (λ y. is_wire y ≡ true)
  unfolding rest_words is_wire
  wire_lead = by x.second x.param
    where
      by : (i : Option (List ℕ)) (o : Option tree.Expr) → Leads ns ns ((item_words i ++ end_bracket_words o) ++ (w ∷ ws)) Any (λ y. is_wire y ≡ true)
      by (Some n) o = lead s.Dot Signs.dot_sorted refl
      by None (Some e) = lead s.LBracket Signs.left_bracket_sorted refl
      by None None = lead z so is

  abbrev Makes : (Token → List ConfLine) → Type 0
  Makes f = (t : Token) → t.text ≡ x.first → Matched SameLine (l ∷ []) (f t)

  has_wire_rest : Prints ns ns gc.wire_rest rest_words Any Makes
  unfolding rest_words
  has_wire_rest = has_seq (has_end_rest x k) (lead z so np) u (λ f g h j t e. (j (f t) t.pos (h t e), tt))

  has_wire : Prints ns ns (production Phrase.line) (word x.first ∷ rest_words) Any (Matched SameLine (l ∷ []))
  has_wire = by (is_type ns x.first) refl
    where
      by : (b : Bool) → is_type ns x.first ≡ b → Prints ns ns (production Phrase.line) (word x.first ∷ rest_words) Any (Matched SameLine (l ∷ []))
      by true i = has_by s.TypeName (lead s.TypeName (word_sorted ns x.first true k.is_name i) refl) (has_seq {Q = Makes} (has_token (word_sorted ns x.first true k.is_name i) (λ t w. text_is t w)) lead_any
          (has_by_some (λ y. is_wire y ≡ true) wire_lead wire_at has_wire_rest) (λ t f e h. h t e))
      by false i = has_by s.Word (lead s.Word (word_sorted ns x.first false k.is_name i) refl) (has_seq {Q = Makes} (has_token (word_sorted ns x.first false k.is_name i) (λ t w. text_is t w)) lead_any has_wire_rest (λ t f e h. h t e))

  lined_wire : line_words l ≡ word x.first ∷ rest_words → Lined ns ns l
  lined_wire e = record { prints = has_words (sym e) has_wire; leads = subst (λ vs. Leads ns ns vs Any (λ y. begins_line y ≡ true)) (sym e) (name_leads x.first k.is_name name_line) }

arrow_wire : is_wire s.Arrow ≡ true
unfolding is_wire
arrow_wire = refl

gets_wire : is_wire s.Assign ≡ true
unfolding is_wire
gets_wire = refl

arrow_no_part : NoPart s.Arrow
unfolding no_part
arrow_no_part = refl

gets_no_part : NoPart s.Assign
unfolding no_part
gets_no_part = refl

pub lined_link : {ns : Names} (x y : WireEnd) (pos : Pos) → Ended ns x → Ended ns y → Lined ns ns (line.Link x y pos)
unfolding rest_words
lined_link x y pos k j = lined_wire x k (sign (codes "->")) (end_words y ++ (semicolon ∷ [])) s.Arrow Signs.arrow_sorted arrow_wire arrow_no_part (line.Link x y pos) (has_link x y j) refl

pub lined_equate : {ns : Names} (x y : WireEnd) (pos : Pos) → Ended ns x → Ended ns y → Lined ns ns (line.Equate x y pos)
unfolding rest_words
lined_equate x y pos k j = lined_wire x k (sign (codes "=")) (end_words y ++ (semicolon ∷ [])) s.Assign Signs.gets_sorted gets_wire gets_no_part (line.Equate x y pos) (has_equate x y j) refl

-- ---- declarations

pub lined_typedef : {ns : Names} (name : List ℕ) (t : TypeSpec) (l : List Attr) (pos : Pos) → TypeNamed ns name t l → Lined ns (sorts.declared name true ns) (line.Decl (decl.Typedef name t l pos))
lined_typedef name t l pos k = record {
  prints = has_by s.Typedef (typedef_ahead name t l pos refl) (has_map (has_typedef_decl name t l pos k) (λ d h. (ap units.ConfLine.decl h, tt)));
  leads = typedef_ahead name t l pos refl;
}

-- a type and a semicolon, whatever it begins with
alone : Form (List ConfLine)
alone = Form.seq (λ t _. gc.type_line t) gr.type_form (gr.one s.Semi)

ended : {A : Type 0} {spare : ℕ} {go : A → Sort → Bool} {weight : A → ℕ} {body : Sort → Place → (A → A) → Place → Type 0} {c : A} {r : Place} {a : A} {u : Place} → Chain spare go weight body c r a u → go a (next u) ≡ false → (c ≡ a) × (r ≡ u)
ended (Chain.done h) e = (refl, refl)
ended (Chain.turn g w t c) e = (let z : true ≡ false = sym g ∙ e in absurd cc)

qualifier_is : (y : Sort) → gr.is_qualifier y ≡ true → y ≡ s.Qualifier
qualifier_is s.Qualifier h = refl
qualifier_is _ h = absurd cc

-- behind a type name a qualifier or the semicolon is ahead
behind_name : (spare : ℕ) {body : Sort → Place → (Qualifiers → Qualifiers) → Place → Type 0} {c : Qualifiers} {r : Place} {a : Qualifiers} {u : Place} (v : Place) (f : Token → List ConfLine) → Chain spare (λ _ y. gr.is_qualifier y) (λ _. 0) body c r a u → next r ≡ s.Semi
    → Spells spare (SpellsIn production spare) gc.named_type u f v → Spells spare (SpellsIn production spare) (gc.behind_type_name (next u)) u f v
behind_name spare {u = u} v f (Chain.done h) e t = subst (λ y. Spells spare (SpellsIn production spare) (gc.behind_type_name y) u f v) (sym e) t
behind_name spare {u = u} v f (Chain.turn g w b c) e t = subst (λ y. Spells spare (SpellsIn production spare) (gc.behind_type_name y) u f v) (sym (qualifier_is (next u) g)) t

abbrev typed_as : Token → Qualifiers → List ConfLine
typed_as t q = gc.type_line (gr.type_of gr.no_qualifiers (gr.plain (b.Named t.text) 0 t.pos) q)

semi_next : (spare : ℕ) (r v : Place) (t : Token) → Spells spare (SpellsIn production spare) (gr.one s.Semi) r t v → next r ≡ s.Semi
unfolding Spells
semi_next spare r v t h = ap next h.1 ∙ h.2

named_alone : (spare : ℕ) (u v : Place) (x : List ConfLine) → next u ≡ s.TypeName → Spells spare (SpellsIn production spare) alone u x v → Spells spare (SpellsIn production spare) (gr.with (gr.one s.TypeName) (Form.by gc.behind_type_name)) u x v
unfolding Spells alone
named_alone spare u v x e h = at_name h.3.2 h.3.4 (ended h.3.3 (ap gr.is_qualifier e)) h.3.5
  where
    at_name : (w : Place) → Spells spare (SpellsIn production spare) gr.qualified w h.3.1 h.2 → (h.3.0 ≡ gr.no_qualifiers) × (w ≡ u) → h.0 ≡ h.3.1 h.3.0 → Spells spare (SpellsIn production spare) (gr.with (gr.one s.TypeName) (Form.by gc.behind_type_name)) u x v
    at_name w k i j = at_base (subst (λ z. Spells spare (SpellsIn production spare) gr.qualified z h.3.1 h.2) i.1 k) (j ∙ ap h.3.1 i.0)
      where
        at_base : Spells spare (SpellsIn production spare) gr.qualified u h.3.1 h.2 → h.0 ≡ h.3.1 gr.no_qualifiers → Spells spare (SpellsIn production spare) (gr.with (gr.one s.TypeName) (Form.by gc.behind_type_name)) u x v
        at_base k j = named k j (subst (λ y. Spells spare (SpellsIn production spare) (gr.base_of y) u k.0 k.2) e k.3)
          where
            named : (k : Spells spare (SpellsIn production spare) gr.qualified u h.3.1 h.2) → h.0 ≡ h.3.1 gr.no_qualifiers → Spells spare (SpellsIn production spare) gr.named_base u k.0 k.2 → Spells spare (SpellsIn production spare) (gr.with (gr.one s.TypeName) (Form.by gc.behind_type_name)) u x v
            named k j n = (
              n.0,
              λ t. typed_as t k.1,
              k.2,
              subst (λ z. Spells spare (SpellsIn production spare) (gr.one s.TypeName) u n.0 z) (sym n.4.1) n.3,
              behind_name spare v (λ t. typed_as t k.1) k.4 (semi_next spare h.2 v h.1 h.4) (k.1, h.1, h.2, k.4, h.4, refl),
              h.5 ∙ ap gc.type_line (j ∙ (ap (λ (f : Qualifiers → CastType). f gr.no_qualifiers) k.5 ∙ ap (λ c. gr.type_of gr.no_qualifiers c k.1) n.5)),
            )

line_at : (y : Sort) → begins_type y ≡ true → same_sort y s.TypeName ≡ false → (spare : ℕ) (u v : Place) (x : List ConfLine) → Spells spare (SpellsIn production spare) alone u x v → Spells spare (SpellsIn production spare) (gc.line_of y) u x v
unfolding alone
line_at s.Qualifier c d spare u v x h = h
line_at s.Void c d spare u v x h = h
line_at s.Signedness c d spare u v x h = h
line_at s.CharType c d spare u v x h = h
line_at s.Length c d spare u v x h = h
line_at s.Int c d spare u v x h = h
line_at s.TypeName c d spare u v x h = absurd cc
line_at s.Struct c d spare u v x h = h
line_at s.Enum c d spare u v x h = h
line_at _ c d spare u v x h = absurd cc

alone_line : (spare : ℕ) (u v : Place) (x : List ConfLine) (y : Sort) → next u ≡ y → begins_type y ≡ true → Spells spare (SpellsIn production spare) alone u x v → Spells spare (SpellsIn production spare) (gc.line_of y) u x v
alone_line spare u v x s.TypeName e c h = named_alone spare u v x e h
alone_line spare u v x s.Qualifier e c h = line_at s.Qualifier c refl spare u v x h
alone_line spare u v x s.Void e c h = line_at s.Void c refl spare u v x h
alone_line spare u v x s.Signedness e c h = line_at s.Signedness c refl spare u v x h
alone_line spare u v x s.CharType e c h = line_at s.CharType c refl spare u v x h
alone_line spare u v x s.Length e c h = line_at s.Length c refl spare u v x h
alone_line spare u v x s.Int e c h = line_at s.Int c refl spare u v x h
alone_line spare u v x s.Struct e c h = line_at s.Struct c refl spare u v x h
alone_line spare u v x s.Enum e c h = line_at s.Enum c refl spare u v x h
alone_line spare u v x _ e c h = absurd cc

-- as another form, where such a token is ahead
has_as : {A : Type 0} {f g : Form A} {ns ms : Names} {ws : Words} {F : Sort → Type 0} {P : A → Type 0} (C : Sort → Type 0) → Leads ns ms ws F C
    → ((spare : ℕ) (u v : Place) (a : A) → C (next u) → Spells spare (SpellsIn production spare) f u a v → Spells spare (SpellsIn production spare) g u a v) → Prints ns ms f ws F P → Prints ns ms g ws F P
has_as {A = A} {f = f} {g = g} {ns = ns} {ms = ms} {P = P} C j k u = record { run = λ ts us r c. by ts us (j.leads ts us r c) (u.run ts us r c) }
  where
    by : (ts us : List Token) → C (ahead ns ts) → Has f (at ns ts) (at ms us) P → Has g (at ns ts) (at ms us) P
    by ts us c a = record { value = a.value; ok = a.ok; least = a.least; spells = λ spare l. k spare (at ns ts) (at ms us) a.value c (a.spells spare l) }

type_line_begins : (y : Sort) → begins_type y ≡ true → begins_line y ≡ true
type_line_begins s.Components h = absurd cc
type_line_begins s.Word h = absurd cc
type_line_begins s.Typedef h = absurd cc
type_line_begins _ h = h

pub lined_type : {ns : Names} (t : TypeSpec) (pos : Pos) → Plain ns t → Lined ns ns (line.Decl (decl.TypeOnly t pos))
unfolding Spells alone
lined_type {ns = ns} t pos k = record {
  prints = has_words (sym (view.words_of_type_only pos t)) (has_as {f = alone} (λ y. begins_type y ≡ true) begun (λ spare u v x c h. alone_line spare u v x (next u) refl c h)
      (has_seq (plain_type t k) (lead s.Semi Signs.semicolon_sorted refl) (has_token Signs.semicolon_sorted (λ t w. w)) (λ u x h w. (ap units.ConfLine.decl (view.type_only_shape u.from u.ty ∙ (ap shape.Decl.type_only h ∙ sym (view.type_only_shape pos t))), tt))));
  leads = subst (λ ws. Leads ns ns ws Any (λ y. begins_line y ≡ true)) (sym (view.words_of_type_only pos t)) (record { leads = λ ts us r f. type_line_begins _ (begun.leads ts us r f) });
}
  where
    begun : Leads ns ns (type_words (spec_of t) ++ (semicolon ∷ [])) Any (λ y. begins_type y ≡ true)
    begun = plain_leads t (semicolon ∷ []) k (lead s.Semi Signs.semicolon_sorted refl)

-- ---- one behind the other

abbrev pub line_body : Sort → Form (List ConfLine → List ConfLine)
line_body x = gr.when (begins_line x) (gr.map (λ ls l. l ++ ls) (Form.sub Phrase.line (λ x. x)))

abbrev pub Lines : List ConfLine → Names → Names → Type 0
Lines = Row line_body line_words Any (Pushes SameLine) begins_line

body_at : (y : Sort) → begins_line y ≡ true → (spare : ℕ) (u v : Place) (f : List ConfLine → List ConfLine) → Spells spare (SpellsIn production spare) (gr.map (λ ls l. l ++ ls) (Form.sub Phrase.line (λ x. x))) u f v → Spells spare (SpellsIn production spare) (line_body y) u f v
body_at y c spare u v f h = rw c h

one_line : (x : ConfLine) (ls : List ConfLine) → Matched SameLine (x ∷ []) ls → Pushes SameLine x (λ l. l ++ ls)
one_line x [] h l = absurd h
one_line x (a ∷ []) h l = (a, h.0, refl)
one_line x (a ∷ b ∷ ls) h l = absurd h.1

pub line_pushed : {ns ms ls : Names} (xs : List ConfLine) (x : ConfLine) → Lines xs ns ms → Lined ms ls x → Lines (xs ++ (x ∷ [])) ns ls
line_pushed xs x r k = row_pushed xs x r (has_by_some (λ y. begins_line y ≡ true) k.leads body_at (has_map (phrase {k = Phrase.line} k.prints) (λ l h. one_line x l h))) k.leads
