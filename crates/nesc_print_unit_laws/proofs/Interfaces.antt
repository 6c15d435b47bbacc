-- Interfaces, their commands and events are printed, and read again as the same up to places.
use Rattle.std.proofs.Common.{◌≡◌, ℕ, Bool, true, false, List, [], ◌∷◌, ◌++◌, map, refl, sym, ap, subst, ◌∙◌, append_assoc}
use Rattle.std.specs.Prelude.{codes}
use Rattle.nm_base.specs.declared.token.Token.{Token}
use Rattle.nesc_tree.specs.declared.sorts.Sort.{Sort}
use Rattle.nesc_tree.specs.declared.sorts.Sort.TheVariants as s
use Rattle.nesc_tree.specs.declared.operand.CastType.{CastType}
use Rattle.nesc_tree.specs.declared.declarations.Attr.{Attr}
use Rattle.nesc_tree.specs.declared.components.Interface.{Interface}
use Rattle.nesc_tree.specs.declared.components.Part.{Part}
use Rattle.nesc_tree.specs.declared.components.Part.TheVariants as part
use Rattle.nesc_tree.specs.declared.components.Sig.{Sig}
use Rattle.nesc_tree.specs.Plain as p
use Rattle.nesc_tree.specs.View.{expr_of, spec_of, base_of}
use Rattle.nesc_tree.specs.Sorts.{Names}
use Rattle.nesc_tree.specs.Sorts as sorts
use Rattle.nesc_tree.specs.Phrase.{Phrase, begins_item}
use Rattle.nesc_tree.specs.Form.{Form, starts}
use Rattle.nesc_grammar.specs.Production.{production}
use Rattle.nesc_grammar.specs.Grammar as gr
use Rattle.nesc_grammar.specs.Declarations as inner
use Rattle.nesc_grammar.specs.Components as gc
use Rattle.nesc_print_words.specs.Lexemes.{Words, word, sign, semicolon, flagged, stars, in_braces, joined}
use Rattle.nesc_print_words.specs.Expressions.{base_words, before_name}
use Rattle.nesc_print_words.specs.Declarations.{attr_words, attrs_words, params_words}
use Rattle.nesc_print_words.specs.Components.{type_parameter_words, type_parameters_words, sig_word, sig_words, interface_words}
use Rattle.nesc_print_laws.specs.Placeless.{placeless}
use Rattle.nesc_print_laws.specs.Shapes as shape
use Rattle.nesc_print_laws.specs.Shapes.{param_shape, attr_shape}
use Rattle.nesc_print_laws.proofs.Texts.{Prints, Leads, Any, lead, lead_on, lead_any, has_token, has_seq, has_map, has_behind, has_before, has_by, has_some, has_nothing, has_words, has_less}
use Rattle.nesc_print_laws.proofs.Signs
use Rattle.nesc_print_laws.proofs.Names.{text_is, IsName, has_name}
use Rattle.nesc_print_laws.proofs.Lists.{Each, Row}
use Rattle.nesc_print_laws.proofs.Exprs.{two}
use Rattle.nesc_print_laws.proofs.Calls.{All, SameAll}
use Rattle.nesc_print_laws.proofs.Types.{Basic, IsType, has_type, has_stars, name_leads}
use Rattle.nesc_print_laws.proofs.Fields.{Matched, declarator_leads}
use Rattle.nesc_print_laws.proofs.Changed.{has_declare, has_scope, has_inner_list, has_repeated, Pushes, matched_map}
use Rattle.nesc_print_laws.proofs.Inits.{SameAttr, Attribute, has_attribute, has_attributes}
use Rattle.nesc_print_laws.proofs.Stmts.{part as phrase}
use Rattle.nesc_print_laws.proofs.Variables.{spread, before_is}
use Rattle.nesc_print_decl_laws.proofs.Keywords.{async_sorted}
use Rattle.nesc_print_decl_laws.proofs.Params.{declared_same, AllParams, Kept, SameParam, has_parameters, any_carries}
use Rattle.nesc_print_decl_laws.proofs.Heads.{name_ends, name_no_star}
use Rattle.nesc_print_unit_laws.specs.UnitShapes as units
use Rattle.nesc_print_unit_laws.specs.UnitShapes.{sig_shape, interface_shape, part_shape}
use Rattle.nesc_print_unit_laws.proofs.Keywords.{interface_sorted, item_sorted}

-- ---- attributes, which are phrases of their own here

abbrev attribute_body : Sort → Form (List Attr → List Attr)
attribute_body x = gr.when (inner.is_at x) (gr.map inner.added (Form.sub Phrase.attribute (λ x. x)))

each_attribute : {ns : Names} (l : List Attr) → All (Attribute ns) l → Row attribute_body attr_words Any (Pushes SameAttr) inner.is_at l ns ns
each_attribute [] k = Row.none
each_attribute (x ∷ l) k = Row.more (has_by s.At (lead s.At Signs.at_sign_sorted refl) (has_map (phrase {k = Phrase.attribute} (has_attribute x k.0)) (λ a h l. (a, h, refl)))) (lead s.At Signs.at_sign_sorted refl) (each_attribute l k.1)

pub has_phrase_attributes : {ns : Names} (l : List Attr) → All (Attribute ns) l → Prints ns ns gc.attributes (attrs_words l) (λ y. inner.is_at y ≡ false) (Matched SameAttr l)
has_phrase_attributes l k = has_less (λ y h. (tt, h)) (λ a h. h) (has_repeated inner.is_at attribute_body attr_words Any SameAttr (λ y h. tt) l (each_attribute l k))

-- ---- commands and events

pub record Signature (ns : Names) (x : Sig) : Type 0 where
  pub inside : Names
  pub result : Basic ns (base_of x.result.base)
  pub no_dims : x.result.dims ≡ []
  pub is_name : IsName x.name
  pub params : AllParams x.params ns inside
  pub kept : Kept x.params

abbrev pub SameSig : Sig → Sig → Type 0
SameSig x y = sig_shape y ≡ sig_shape x

event_back : (b : Bool) (t : Token) → t.text ≡ sig_word b → inner.is_event t ≡ b
unfolding inner.is_event
event_back true t h = rw h refl
event_back false t h = rw h refl

no_async : (y : Sort) → y ≡ s.Item → starts (gr.map (λ _. true) (gr.one s.Async)) y ≡ false
no_async y e = rw e refl

has_async : {ns : Names} (b : Bool) → Prints ns ns (gr.optional s.Async) (flagged b (codes "async")) (λ y. y ≡ s.Item) (λ a. a ≡ b)
has_async true = has_less (λ y e. tt) (λ a h. h) (has_some (lead s.Async async_sorted refl) (has_map (has_token async_sorted (λ t w. w)) (λ t w. refl)))
has_async false = has_less no_async (λ a h. h) (has_nothing refl)

tail_words : Sig → Words
tail_words x = params_words x.params ++ (semicolon ∷ [])

typed_words : Sig → Words
typed_words x = (flagged x.result.is_const (codes "const") ++ base_words (base_of x.result.base)) ++ (stars x.result.stars ++ (word x.name ∷ tail_words x))

sig_is : (x : Sig) → flagged x.is_async (codes "async") ++ (word (sig_word x.is_event) ∷ typed_words x) ≡ sig_words x
unfolding tail_words typed_words
sig_is x = ap (λ ws. flagged x.is_async (codes "async") ++ (word (sig_word x.is_event) ∷ ws)) (spread (flagged x.result.is_const (codes "const")) (base_words (base_of x.result.base)) (stars x.result.stars) (word x.name ∷ tail_words x) ∙ ap (λ ws. ws ++ (word x.name ∷ tail_words x)) (sym (before_is x.result)))
    ∙ (ap (λ ws. flagged x.is_async (codes "async") ++ (word (sig_word x.is_event) ∷ ws)) (sym (append_assoc (before_name (spec_of x.result)) (word x.name ∷ []) (tail_words x)))
    ∙ sym (append_assoc (flagged x.is_async (codes "async")) (word (sig_word x.is_event) ∷ (before_name (spec_of x.result) ++ (word x.name ∷ []))) (tail_words x)))

module _ {ns : Names} (x : Sig) (k : Signature ns x) where
  has_item_end : Prints ns ns gc.item_end (tail_words x) Any (Matched SameParam x.params)
  unfolding tail_words
  has_item_end = has_before (has_scope (has_parameters x.params k.params k.kept) any_carries) lead_any (has_before (has_less (λ y h. h) (λ l h. h) (has_attributes [] tt)) (lead s.Semi Signs.semicolon_sorted refl) (has_token Signs.semicolon_sorted (λ t w. w)))

  dims_same : SameAll (map expr_of x.result.dims) []
  dims_same = ap (λ l. map placeless (map expr_of l)) (sym k.no_dims)

  -- behind the word that begins it
  abbrev Typed : (Token → Bool → Sig) → Type 0
  Typed f = (t : Token) (b : Bool) → inner.is_event t ≡ x.is_event → b ≡ x.is_async → SameSig x (f t b)

  has_typed_item : Prints ns ns (gr.with gr.type_form gc.typed_item) (typed_words x) Any Typed
  unfolding typed_words
  has_typed_item = has_seq {Q = λ f. (u : CastType) → IsType x.result.is_const (base_of x.result.base) u → Typed (f u)} (has_type k.result x.result.is_const) (declarator_leads (tail_words x) x.result.stars x.name k.is_name refl name_ends)
      (has_seq {Q = λ f. (n : ℕ) (u : CastType) → n ≡ x.result.stars → IsType x.result.is_const (base_of x.result.base) u → Typed (f n u)} (has_stars x.result.stars) (name_leads x.name k.is_name name_no_star)
      (has_seq (has_name ns x.name k.is_name) lead_any has_item_end (λ t ps w h n u e i o b v z. five w v z (declared_same x.result u n [] i e dims_same) (matched_map param_shape x.params ps h)))
      (λ n f e h u i. h n u e i)) (λ u f i h. h u i)
    where
      five : {a b : List ℕ} {c d e f : Bool} {t u : p.TypeSpec} {m n : List shape.Param} → a ≡ b → c ≡ d → e ≡ f → t ≡ u → m ≡ n
          → ◌≡◌ {A = units.Sig} (record { name = a; is_event = c; is_async = e; result = t; params = m }) (record { name = b; is_event = d; is_async = f; result = u; params = n })
      five f g h i j = rw (f, g, h, i, j) refl

  pub has_sig : Prints ns ns (production Phrase.item) (sig_words x) Any (SameSig x)
  has_sig = has_words (sig_is x) (has_seq {Q = λ f. (b : Bool) → b ≡ x.is_async → SameSig x (f b)} (has_async x.is_async) (lead s.Item (item_sorted x.is_event) refl)
      (has_seq {Q = Typed} {R = λ f. (b : Bool) → b ≡ x.is_async → SameSig x (f b)} (has_token (item_sorted x.is_event) (λ t w. event_back x.is_event t (text_is t w))) lead_any has_typed_item (λ t f e h b z. h t b e z)) (λ b f e h. h b e))

  pub sig_leads : Leads ns ns (sig_words x) Any (λ y. begins_item y ≡ true)
  sig_leads = subst (λ ws. Leads ns ns ws Any (λ y. begins_item y ≡ true)) (sig_is x) (by x.is_async)
    where
      by : (b : Bool) → Leads ns ns (flagged b (codes "async") ++ (word (sig_word x.is_event) ∷ typed_words x)) Any (λ y. begins_item y ≡ true)
      by true = lead s.Async async_sorted refl
      by false = lead s.Item (item_sorted x.is_event) refl

-- ---- the names of types that an interface takes

pub data AllTypeNames : List (List ℕ) → Names → Names → Type 0 where
  none : {ns : Names} → AllTypeNames [] ns ns
  more : {n : List ℕ} {l : List (List ℕ)} {ns ms : Names} → IsName n → AllTypeNames l (sorts.declared n true ns) ms → AllTypeNames (n ∷ l) ns ms

pub type_name_pushed : (l : List (List ℕ)) (n : List ℕ) {ns ms : Names} → AllTypeNames l ns ms → IsName n → AllTypeNames (l ++ (n ∷ [])) ns (sorts.declared n true ms)
type_name_pushed [] n AllTypeNames.none k = AllTypeNames.more k AllTypeNames.none
type_name_pushed (m ∷ l) n (AllTypeNames.more d a) k = AllTypeNames.more d (type_name_pushed l n a k)

abbrev pub Spelt : List ℕ → Token → Type 0
Spelt n t = t.text ≡ n

pub has_type_parameter : {ns : Names} (n : List ℕ) → IsName n → Prints ns (sorts.declared n true ns) gc.type_parameter (word n ∷ []) Any (Spelt n)
has_type_parameter {ns = ns} n k = has_declare (has_name ns n k) (λ t h. ap (λ m. sorts.declared m true ns) h) any_carries

each_type_name : (l : List (List ℕ)) {ns ms : Names} → AllTypeNames l ns ms → Each gc.type_parameter type_parameter_words Any Spelt l ns ms
each_type_name [] AllTypeNames.none = Each.none
each_type_name (n ∷ l) (AllTypeNames.more d a) = Each.more (has_type_parameter n d) (each_type_name l a)

texts_are : (l : List (List ℕ)) (ts : List Token) → Matched Spelt l ts → map (λ (t : Token). t.text) ts ≡ l
texts_are [] [] h = refl
texts_are [] (t ∷ ts) h = absurd h
texts_are (n ∷ l) [] h = absurd h
texts_are (n ∷ l) (t ∷ ts) h = two (λ m ms. m ∷ ms) h.0 (texts_are l ts h.1)

not_less : Sort → Bool
not_less s.Less = false
not_less _ = true

no_parameters : (y : Sort) → not_less y ≡ true → starts (inner.between s.Less s.Greater (inner.listed gc.type_parameter)) y ≡ false
unfolding not_less
no_parameters s.Less h = absurd cc
no_parameters _ h = refl

has_type_parameters : (l : List (List ℕ)) {ns ms : Names} → AllTypeNames l ns ms → Prints ns ms gc.type_parameters (type_parameters_words l) (λ y. not_less y ≡ true) (Matched Spelt l)
has_type_parameters [] AllTypeNames.none = has_less no_parameters (λ l h. h) (has_nothing {P = Matched Spelt []} tt)
has_type_parameters (n ∷ l) a = has_less (λ y h. tt) (λ l h. h) (has_some (lead s.Less Signs.less_sorted refl) (has_behind (has_token Signs.less_sorted (λ t w. w)) lead_any
    (has_before (has_inner_list gc.type_parameter type_parameter_words Any Spelt tt n l (each_type_name (n ∷ l) a)) (lead s.Greater Signs.greater_sorted (tt, refl)) (has_token Signs.greater_sorted (λ t w. w)))))

-- ---- interfaces

pub record Interfaced (ns : Names) (x : Interface) : Type 0 where
  pub inside : Names
  pub is_name : IsName x.name
  pub params : AllTypeNames x.params ns inside
  pub attrs : All (Attribute inside) x.attrs
  pub items : All (Signature inside) x.items

abbrev pub SamePart : Part → Part → Type 0
SamePart x y = part_shape y ≡ part_shape x

abbrev item_body : Sort → Form (List Sig → List Sig)
item_body x = gr.when (begins_item x) (gr.map inner.added (Form.sub Phrase.item (λ x. x)))

item_at : {ns : Names} (x : Sig) → Signature ns x → Prints ns ns (Form.by item_body) (sig_words x) Any (Pushes SameSig x)
item_at x k = Rattle.nesc_print_laws.proofs.Texts.has_by_some (λ y. begins_item y ≡ true) (sig_leads x k) (λ y c spare u v f h. rw c h) (has_map (phrase {k = Phrase.item} (has_sig x k)) (λ a h l. (a, h, refl)))

each_item : {ns : Names} (l : List Sig) → All (Signature ns) l → Row item_body sig_words Any (Pushes SameSig) begins_item l ns ns
each_item [] k = Row.none
each_item (x ∷ l) k = Row.more (item_at x k.0) (sig_leads x k.0) (each_item l k.1)

has_items : {ns : Names} (l : List Sig) → All (Signature ns) l → Prints ns ns gc.items (in_braces (joined (map sig_words l))) Any (Matched SameSig l)
has_items l k = has_behind (has_token Signs.left_brace_sorted (λ t w. w)) lead_any (has_before (has_repeated begins_item item_body sig_words Any SameSig (λ y h. tt) l (each_item l k)) (lead s.RBrace Signs.right_brace_sorted (tt, refl)) (has_token Signs.right_brace_sorted (λ t w. w)))

module _ {ns : Names} (x : Interface) (k : Interfaced ns x) where
  attrs_lead : (l : List Attr) (ws : Words) → Leads k.inside k.inside (attrs_words l ++ (sign (codes "{") ∷ ws)) Any (λ y. not_less y ≡ true)
  unfolding not_less
  attrs_lead [] ws = lead s.LBrace Signs.left_brace_sorted refl
  attrs_lead (a ∷ l) ws = lead s.At Signs.at_sign_sorted refl

  pub has_interface : Prints ns k.inside gc.interface_form (interface_words x) Any (SamePart (part.Interface x))
  has_interface = has_seq {Q = λ f. (t : Token) → t.text ≡ x.name → SamePart (part.Interface x) (f t)} (has_behind (has_token interface_sorted (λ t w. w)) lead_any (has_name ns x.name k.is_name)) lead_any
      (has_seq {Q = λ f. (ts : List Token) (t : Token) → Matched Spelt x.params ts → t.text ≡ x.name → SamePart (part.Interface x) (f ts t)} (has_type_parameters x.params k.params) (attrs_lead x.attrs (joined (map sig_words x.items) ++ (sign (codes "}") ∷ [])))
      (has_seq (has_phrase_attributes x.attrs k.attrs) (lead s.LBrace Signs.left_brace_sorted refl) (has_items x.items k.items) (λ l is g h ts t e w. ap units.Part.interface (four w (texts_are x.params ts e) (matched_map sig_shape x.items is h) (matched_map attr_shape x.attrs l g))))
      (λ ts f e h t w. h ts t e w)) (λ t f w h. h t w)
    where
      four : {a b : List ℕ} {c d : List (List ℕ)} {m n : List units.Sig} {i j : List shape.Attr} → a ≡ b → c ≡ d → m ≡ n → i ≡ j
          → ◌≡◌ {A = units.Interface} (record { name = a; type_params = c; items = m; attrs = i }) (record { name = b; type_params = d; items = n; attrs = j })
      four f g h i = rw (f, g, h, i) refl
