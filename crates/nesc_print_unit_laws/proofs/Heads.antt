-- Specifications and heads of components are printed, and read again as the same up to places.
use Rattle.std.proofs.Common.{◌≡◌, ℕ, Bool, true, false, cond, List, [], ◌∷◌, ◌++◌, map, Option, Some, None, refl, sym, ap, subst, ◌∙◌, append_assoc, append-nil}
use Rattle.std.proofs.lemmas.Slice.Eq.{bytes_eq-Decides}
use Rattle.std.specs.Prelude.{codes, option_map, bytes_eq, is_some}
use Rattle.nm_base.specs.declared.token.Token.{Token}
use Rattle.nesc_tree.specs.declared.sorts.Sort.{Sort}
use Rattle.nesc_tree.specs.declared.sorts.Sort.TheVariants as s
use Rattle.nesc_tree.specs.declared.tree.TypeSpec.{TypeSpec}
use Rattle.nesc_tree.specs.declared.operand.CastType.{CastType}
use Rattle.nesc_tree.specs.declared.declarations.Attr.{Attr}
use Rattle.nesc_tree.specs.declared.components.Elem.{Elem}
use Rattle.nesc_tree.specs.declared.components.GenericParam.{GenericParam}
use Rattle.nesc_tree.specs.declared.components.Head.{Head}
use Rattle.nesc_tree.specs.Plain as p
use Rattle.nesc_tree.specs.Sorts.{Names}
use Rattle.nesc_tree.specs.Phrase.{Phrase}
use Rattle.nesc_tree.specs.Form.{Form, starts}
use Rattle.nesc_grammar.specs.Production.{production}
use Rattle.nesc_grammar.specs.Grammar as gr
use Rattle.nesc_grammar.specs.Declarations as inner
use Rattle.nesc_grammar.specs.Components as gc
use Rattle.nesc_print_words.specs.Lexemes.{Words, word, sign, semicolon, in_braces, joined}
use Rattle.nesc_print_words.specs.Declarations.{attrs_words}
use Rattle.nesc_print_words.specs.Components.{generic_words, type_argument_words, type_arguments_words, alias_words, element_bracket_words, specify_word, elem_end_words, elem_words, head_end_words}
use Rattle.nesc_print_laws.specs.Shapes as shape
use Rattle.nesc_print_laws.specs.Shapes.{attr_shape}
use Rattle.nesc_print_laws.proofs.Texts.{Prints, Leads, Any, lead, lead_on, lead_any, has_token, has_seq, has_map, has_behind, has_before, has_by, has_some, has_nothing, has_words, has_less}
use Rattle.nesc_print_laws.proofs.Signs
use Rattle.nesc_print_laws.proofs.Names.{text_is, IsName, has_name}
use Rattle.nesc_print_laws.proofs.Lists.{Each, Row, Behind}
use Rattle.nesc_print_laws.proofs.Exprs.{two}
use Rattle.nesc_print_laws.proofs.Calls.{All}
use Rattle.nesc_print_laws.proofs.Types.{Ends, name_leads}
use Rattle.nesc_print_laws.proofs.Fields.{Matched}
use Rattle.nesc_print_laws.proofs.Changed.{has_inner_list, has_repeated, Pushes, matched_map}
use Rattle.nesc_print_laws.proofs.Inits.{Attribute, has_attributes}
use Rattle.nesc_print_laws.proofs.Stmts.{part as phrase}
use Rattle.nesc_print_laws.proofs.Variables.{Plain, plain_type}
use Rattle.nesc_print_decl_laws.proofs.Heads.{name_ends}
use Rattle.nesc_print_unit_laws.specs.UnitShapes as units
use Rattle.nesc_print_unit_laws.specs.UnitShapes.{type_shape, generic_param_shape, elem_shape, component_shape}
use Rattle.nesc_print_unit_laws.specs.UnitsAgain.{specifications}
use Rattle.nesc_print_unit_laws.proofs.Keywords.{interface_sorted, as_sorted, specify_sorted, id_is_name}
use Rattle.nesc_print_unit_laws.proofs.Interfaces.{has_phrase_attributes}
use Rattle.nesc_print_unit_laws.proofs.Generics.{MaybePlain, AllGeneric, has_generics}

-- ---- a name of its own

abbrev pub aliased : List ℕ → Option Token → List ℕ
aliased n None = n
aliased n (Some t) = t.text

pub either_is : (t : Token) (u : Option Token) → (gc.either_name t u).text ≡ aliased t.text u
either_is t None = refl
either_is t (Some u) = refl

pub no_as : Sort → Bool
no_as s.As = false
no_as _ = true

pub no_alias : (y : Sort) → no_as y ≡ true → starts (gr.map (λ (t : Token). Some t) (gr.behind (gr.one s.As) gr.name)) y ≡ false
unfolding no_as
no_alias s.As h = absurd cc
no_alias _ h = refl

pub semi_no_as : no_as s.Semi ≡ true
unfolding no_as
semi_no_as = refl

pub comma_no_as : no_as s.Comma ≡ true
unfolding no_as
comma_no_as = refl

bracket_no_as : no_as s.LBracket ≡ true
unfolding no_as
bracket_no_as = refl

pub has_alias : {ns : Names} (n a : List ℕ) → IsName a → Prints ns ns gc.alias (alias_words n a) (λ y. no_as y ≡ true) (λ u. aliased n u ≡ a)
has_alias {ns = ns} n a k = by (bytes_eq a n) refl
  where
    by : (b : Bool) → bytes_eq a n ≡ b → Prints ns ns gc.alias (cond b [] (word (codes "as") ∷ word a ∷ [])) (λ y. no_as y ≡ true) (λ u. aliased n u ≡ a)
    by true e = has_less no_alias (λ u h. h) (has_nothing (sym ((bytes_eq-Decides a n).0 e)))
    by false e = has_less (λ y h. tt) (λ u h. h) (has_some (lead s.As as_sorted refl) (has_map (has_behind (has_token as_sorted (λ t w. w)) lead_any (has_name ns a k)) (λ t h. h)))

-- ---- the types that an interface is given

abbrev SameArgument : TypeSpec → CastType → Type 0
SameArgument t u = type_shape u.ty ≡ type_shape t

types_are : (l : List TypeSpec) (ts : List CastType) → Matched SameArgument l ts → map type_shape (map (λ (t : CastType). t.ty) ts) ≡ map type_shape l
types_are [] [] h = refl
types_are [] (t ∷ ts) h = absurd h
types_are (x ∷ l) [] h = absurd h
types_are (x ∷ l) (t ∷ ts) h = two (λ m ms. m ∷ ms) h.0 (types_are l ts h.1)

each_type : {ns : Names} (l : List TypeSpec) → All (Plain ns) l → Each gr.type_form type_argument_words Ends SameArgument l ns ns
each_type [] k = Each.none
each_type (t ∷ l) k = Each.more (plain_type t k.0) (each_type l k.1)

no_less : Sort → Bool
no_less s.Less = false
no_less _ = true

no_arguments : (y : Sort) → no_less y ≡ true → starts (inner.between s.Less s.Greater (inner.listed gr.type_form)) y ≡ false
unfolding no_less
no_arguments s.Less h = absurd cc
no_arguments _ h = refl

has_type_arguments : {ns : Names} (l : List TypeSpec) → All (Plain ns) l → Prints ns ns gc.type_arguments (type_arguments_words l) (λ y. no_less y ≡ true) (Matched SameArgument l)
has_type_arguments [] k = has_less no_arguments (λ l h. h) (has_nothing {P = Matched SameArgument []} tt)
has_type_arguments (t ∷ l) k = has_less (λ y h. tt) (λ l h. h) (has_some (lead s.Less Signs.less_sorted refl) (has_behind (has_token Signs.less_sorted (λ t w. w)) lead_any
    (has_before (has_inner_list gr.type_form type_argument_words Ends SameArgument refl t l (each_type (t ∷ l) k)) (lead s.Greater Signs.greater_sorted (refl, refl)) (has_token Signs.greater_sorted (λ t w. w)))))

-- ---- the parameter in a bracket

abbrev SameMaybeType : Option TypeSpec → Option CastType → Type 0
SameMaybeType o u = option_map type_shape (gc.type_in u) ≡ option_map type_shape o

no_bracket : (y : Sort) → y ≡ s.Semi → starts (gr.map (λ (t : CastType). Some t) (inner.between s.LBracket s.RBracket (gr.before gr.type_form gr.name))) y ≡ false
no_bracket y e = rw e refl

has_element_bracket : {ns : Names} (o : Option TypeSpec) → MaybePlain ns o → Prints ns ns gc.element_bracket (element_bracket_words o) (λ y. y ≡ s.Semi) (SameMaybeType o)
has_element_bracket None k = has_less no_bracket (λ u h. h) (has_nothing refl)
has_element_bracket {ns = ns} (Some t) k = has_less (λ y e. tt) (λ u h. h) (has_some (lead s.LBracket Signs.left_bracket_sorted refl) (has_map (has_behind (has_token Signs.left_bracket_sorted (λ t w. w)) lead_any
    (has_before (has_before (plain_type t k) (name_leads (codes "id") id_is_name name_ends) (has_name ns (codes "id") id_is_name)) lead_any (has_token Signs.right_bracket_sorted (λ t w. w)))) (λ u h. ap (λ z. Some z) h)))

-- ---- elements

pub record Element (ns : Names) (x : Elem) : Type 0 where
  pub is_iface : IsName x.iface
  pub is_name : IsName x.name
  pub args : All (Plain ns) x.args
  pub param : MaybePlain ns x.param

abbrev pub SameElem : Elem → Elem → Type 0
SameElem x y = elem_shape y ≡ elem_shape x

provides_back : (b : Bool) (t : Token) → t.text ≡ specify_word b → gc.provides t ≡ b
unfolding gc.provides
provides_back true t h = rw h refl
provides_back false t h = rw h refl

closing : (a b c d : Words) → (a ++ (b ++ (c ++ []))) ++ d ≡ a ++ (b ++ (c ++ d))
closing a b c d = append_assoc a (b ++ (c ++ [])) d ∙ ap (λ ws. a ++ ws) (append_assoc b (c ++ []) d ∙ ap (λ ws. b ++ (ws ++ d)) (append-nil c))

no_at : (y : Sort) → y ≡ s.Semi → inner.is_at y ≡ false
no_at y e = rw e refl

module _ {ns : Names} (x : Elem) (k : Element ns x) where
  abbrev Makes : (Bool → Elem) → Type 0
  Makes f = (b : Bool) → b ≡ x.provides → SameElem x (f b)

  bracket_lead : Leads ns ns (element_bracket_words x.param ++ []) (λ y. y ≡ s.Semi) (λ y. no_as y ≡ true)
  bracket_lead = by x.param
    where
      by : (o : Option TypeSpec) → Leads ns ns (element_bracket_words o ++ []) (λ y. y ≡ s.Semi) (λ y. no_as y ≡ true)
      by None = lead_on (λ y e. subst (λ z. no_as z ≡ true) (sym e) semi_no_as)
      by (Some t) = lead s.LBracket Signs.left_bracket_sorted bracket_no_as

  alias_lead : Leads ns ns (alias_words x.iface x.name ++ (element_bracket_words x.param ++ [])) (λ y. y ≡ s.Semi) (λ y. no_less y ≡ true)
  unfolding no_less
  alias_lead = by (bytes_eq x.name x.iface) x.param
    where
      by : (b : Bool) (o : Option TypeSpec) → Leads ns ns (cond b [] (word (codes "as") ∷ word x.name ∷ []) ++ (element_bracket_words o ++ [])) (λ y. y ≡ s.Semi) (λ y. no_less y ≡ true)
      by false o = lead s.As as_sorted refl
      by true None = lead_on (λ y e. subst (λ z. no_less z ≡ true) (sym e) refl)
      by true (Some t) = lead s.LBracket Signs.left_bracket_sorted refl

  has_element : Prints ns ns gc.element (word (codes "interface") ∷ word x.iface ∷ (type_arguments_words x.args ++ (alias_words x.iface x.name ++ (element_bracket_words x.param ++ [])))) (λ y. y ≡ s.Semi) Makes
  has_element = has_seq {Q = λ f. (t : Token) → t.text ≡ x.iface → Makes (f t)} (has_behind (has_token interface_sorted (λ t w. w)) lead_any (has_name ns x.iface k.is_iface)) lead_any
      (has_seq {Q = λ f. (ts : List CastType) (t : Token) → Matched SameArgument x.args ts → t.text ≡ x.iface → Makes (f ts t)} (has_type_arguments x.args k.args) alias_lead
      (has_seq (has_alias x.iface x.name k.is_name) bracket_lead (has_before (has_element_bracket x.param k.param) (lead_on (λ y e. e)) (has_less no_at (λ l h. h) (has_attributes [] tt)))
      (λ u o a h ts t m w b z. five z w (types_are x.args ts m) (either_is t u ∙ (ap (λ n. aliased n u) w ∙ a)) h))
      (λ ts f m h t w. h ts t m w)) (λ t f w h. h t w)
    where
      five : {a b : Bool} {c d : List ℕ} {i j : List p.TypeSpec} {m n : List ℕ} {q r : Option p.TypeSpec} → a ≡ b → c ≡ d → i ≡ j → m ≡ n → q ≡ r
          → ◌≡◌ {A = units.Elem} (record { provides = a; iface = c; args = i; name = m; param = q }) (record { provides = b; iface = d; args = j; name = n; param = r })
      five f g h i j = rw (f, g, h, i, j) refl

  has_closed : Prints ns ns gc.closed_element (word (codes "interface") ∷ word x.iface ∷ elem_end_words x) Any Makes
  has_closed = has_words (ap (λ ws. word (codes "interface") ∷ word x.iface ∷ ws) (closing (type_arguments_words x.args) (alias_words x.iface x.name) (element_bracket_words x.param) (semicolon ∷ [])))
      (has_before has_element (lead s.Semi Signs.semicolon_sorted refl) (has_token Signs.semicolon_sorted (λ t w. w)))

  has_specification : Prints ns ns (production Phrase.spec) (elem_words x) Any (Matched SameElem (x ∷ []))
  has_specification = has_seq {Q = λ fs. (t : Token) → gc.provides t ≡ x.provides → Matched SameElem (x ∷ []) (map (λ f. f (gc.provides t)) fs)} (has_token (specify_sorted x.provides) (λ t w. provides_back x.provides t (text_is t w))) lead_any
      (has_by s.Interface (lead s.Interface interface_sorted refl) (has_map has_closed (λ f h t z. (h (gc.provides t) z, tt)))) (λ t fs z h. h t z)

abbrev spec_body : Sort → Form (List Elem → List Elem)
spec_body x = gr.when (gc.is_specify x) (gr.map (λ es l. l ++ es) (Form.sub Phrase.spec (λ x. x)))

one_pushed : {X : Type 0} (S : X → X → Type 0) (x : X) (es : List X) → Matched S (x ∷ []) es → Pushes S x (λ l. l ++ es)
one_pushed S x [] h l = absurd h
one_pushed S x (a ∷ []) h l = (a, h.0, refl)
one_pushed S x (a ∷ b ∷ es) h l = absurd h.1

each_element : {ns : Names} (l : List Elem) → All (Element ns) l → Row spec_body elem_words Any (Pushes SameElem) gc.is_specify l ns ns
each_element [] k = Row.none
each_element (x ∷ l) k = Row.more (has_by s.Specify (lead s.Specify (specify_sorted x.provides) refl) (has_map (phrase {k = Phrase.spec} (has_specification x k.0)) (λ es h. one_pushed SameElem x es h))) (lead s.Specify (specify_sorted x.provides) refl) (each_element l k.1)

pub has_specifications : {ns : Names} (l : List Elem) → All (Element ns) l → Prints ns ns specifications (joined (map elem_words l)) (Behind Any gc.is_specify) (Matched SameElem l)
has_specifications l k = has_repeated gc.is_specify spec_body elem_words Any SameElem (λ y h. tt) l (each_element l k)

has_elements : {ns : Names} (l : List Elem) → All (Element ns) l → Prints ns ns gc.elements (in_braces (joined (map elem_words l))) Any (Matched SameElem l)
has_elements l k = has_behind (has_token Signs.left_brace_sorted (λ t w. w)) lead_any (has_before (has_specifications l k) (lead s.RBrace Signs.right_brace_sorted (tt, refl)) (has_token Signs.right_brace_sorted (λ t w. w)))

-- ---- heads

pub data Generics : Option (List GenericParam) → Names → Names → Type 0 where
  none : {ns : Names} → Generics None ns ns
  some : {xs : List GenericParam} {ns ms : Names} → AllGeneric xs ns ms → Generics (Some xs) ns ms

pub record Headed (ns ms : Names) (x : Head) : Type 0 where
  pub is_name : IsName x.name
  pub generic : Generics x.generic ns ms
  pub elems : All (Element ms) x.elems
  pub attrs : All (Attribute ms) x.attrs

abbrev SameGenerics : Option (List GenericParam) → Option (List GenericParam) → Type 0
SameGenerics x y = option_map (map generic_param_shape) y ≡ option_map (map generic_param_shape) x

no_paren : Sort → Bool
no_paren s.LParen = false
no_paren _ = true

no_generics : (y : Sort) → no_paren y ≡ true → starts (gr.map (λ (xs : List GenericParam). Some xs) (Form.sub Phrase.generics (λ x. x))) y ≡ false
unfolding no_paren
no_generics s.LParen h = absurd cc
no_generics _ h = refl

has_some_generics : (o : Option (List GenericParam)) {ns ms : Names} → Generics o ns ms → Prints ns ms (inner.some (Form.sub Phrase.generics (λ x. x))) (generic_words o) (λ y. no_paren y ≡ true) (SameGenerics o)
has_some_generics None Generics.none = has_less no_generics (λ a h. h) (has_nothing refl)
has_some_generics (Some xs) (Generics.some a) = has_less (λ y h. tt) (λ a h. h) (has_some (lead s.LParen Signs.opening_sorted refl) (has_map (phrase {k = Phrase.generics} (has_generics xs a)) (λ ys h. ap (λ z. Some z) (matched_map generic_param_shape xs ys h))))

-- `generic` stands where there are parameters, or none between parentheses
generic_same : (o u : Option (List GenericParam)) → SameGenerics o u → SameGenerics o (gc.generic_of (is_some o) u)
generic_same None None h = h
generic_same None (Some ys) h = absurd cc
generic_same (Some xs) None h = absurd cc
generic_same (Some xs) (Some ys) h = h

module _ {ns ms : Names} (x : Head) (k : Headed ns ms x) where
  attrs_lead : (l : List Attr) (ws : Words) → Leads ms ms (attrs_words l ++ (sign (codes "{") ∷ ws)) Any (λ y. no_paren y ≡ true)
  unfolding no_paren
  attrs_lead [] ws = lead s.LBrace Signs.left_brace_sorted refl
  attrs_lead (a ∷ l) ws = lead s.At Signs.at_sign_sorted refl

  pub has_head : Prints ns ms gc.head (word x.name ∷ head_end_words x) Any (λ f. component_shape (f (is_some x.generic)) ≡ component_shape x)
  has_head = has_seq {Q = λ f. (t : Token) → t.text ≡ x.name → component_shape (f t (is_some x.generic)) ≡ component_shape x} (has_name ns x.name k.is_name) lead_any
      (has_seq {Q = λ f. (t : Token) (o : Option (List GenericParam)) → t.text ≡ x.name → SameGenerics x.generic o → component_shape (f t o) ≡ component_shape x} (has_some_generics x.generic k.generic) (attrs_lead x.attrs (joined (map elem_words x.elems) ++ (sign (codes "}") ∷ [])))
      (has_seq (has_phrase_attributes x.attrs k.attrs) (lead s.LBrace Signs.left_brace_sorted refl) (has_elements x.elems k.elems) (λ l es g h t o w e. four w e (matched_map elem_shape x.elems es h) (matched_map attr_shape x.attrs l g)))
      (λ o f e h t w. h t (gc.generic_of (is_some x.generic) o) w (generic_same x.generic o e))) (λ t f w h. h t w)
    where
      four : {a b : List ℕ} {c d : Option (List units.GenericParam)} {m n : List units.Elem} {i j : List shape.Attr} → a ≡ b → c ≡ d → m ≡ n → i ≡ j
          → ◌≡◌ {A = units.Head} (record { name = a; generic = c; elems = m; attrs = i }) (record { name = b; generic = d; elems = n; attrs = j })
      four f g h i = rw (f, g, h, i) refl
