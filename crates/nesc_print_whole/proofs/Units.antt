-- The words of interfaces, components and files are whole.
use Rattle.std.proofs.Common.{◌≡◌, ℕ, zero, suc, Bool, true, false, cond, List, [], ◌∷◌, ◌++◌, map, Option, Some, None, refl, sym, subst}
use Rattle.std.specs.Prelude.{codes, bytes_eq, is_some}
use Rattle.nm_base.specs.declared.pos.Pos.{Pos}
use Rattle.nm_base.specs.declared.token.Token.{Token}
use Rattle.nesc_tokens.specs.Spelling.{signs}
use Rattle.nesc_tree.specs.declared.sorts.Sort.{Sort}
use Rattle.nesc_tree.specs.declared.sorts.Sort.TheVariants as s
use Rattle.nesc_tree.specs.declared.contexts.Site.TheVariants as site
use Rattle.nesc_tree.specs.declared.tree.TypeSpec.{TypeSpec}
use Rattle.nesc_tree.specs.declared.tree.Base.TheVariants as b
use Rattle.nesc_tree.specs.declared.tree.Expr as tree
use Rattle.nesc_tree.specs.declared.operand.CastType.{CastType}
use Rattle.nesc_tree.specs.declared.operand.Operand.{Operand}
use Rattle.nesc_tree.specs.declared.declarations.Attr.{Attr}
use Rattle.nesc_tree.specs.declared.components.ConfLine.{ConfLine}
use Rattle.nesc_tree.specs.declared.components.Elem.{Elem}
use Rattle.nesc_tree.specs.declared.components.GenericArg.{GenericArg}
use Rattle.nesc_tree.specs.declared.components.GenericParam.{GenericParam}
use Rattle.nesc_tree.specs.declared.components.Head.{Head}
use Rattle.nesc_tree.specs.declared.components.Part.{Part}
use Rattle.nesc_tree.specs.declared.components.Sig.{Sig}
use Rattle.nesc_tree.specs.declared.components.Unit as unit
use Rattle.nesc_tree.specs.declared.components.WireEnd.{WireEnd}
use Rattle.nesc_tree.specs.Phrase.{Phrase, begins_type, begins_expr, begins_line, begins_item}
use Rattle.nesc_tree.specs.Form.{Form, Place, SpellsIn}
use Rattle.nesc_grammar.specs.Production.{production}
use Rattle.nesc_grammar.specs.Grammar as gr
use Rattle.nesc_grammar.specs.Declarations as inner
use Rattle.nesc_grammar.specs.Components as gc
use Rattle.printed_words.specs.LaidOut.{is_whole}
use Rattle.nesc_print_words.specs.Lexemes.{Words, word, sign}
use Rattle.nesc_print_words.specs.Components.{in_angles, type_parameter_words, type_parameters_words, sig_word, sig_words, generic_param_words, generic_words, type_argument_words, type_arguments_words, alias_words, element_bracket_words, specify_word, elem_words, head_end_words, component_head_words, generic_arg_words, component_name_words, end_bracket_words, end_words, wire_words, line_words, part_words, unit_words}
use Rattle.nesc_print_laws.proofs.Calls.{All}
use Rattle.nesc_print_laws.proofs.Known.{all_pushed}
use Rattle.nesc_print_laws.proofs.Views as view
use Rattle.nesc_print_whole.specs.WholeWords.{PrintedWordsAreWhole}
use Rattle.nesc_print_whole.proofs.Keeps.{Whole, w_nil, w_cons, w_one, w_join, w_parens, w_brackets, w_braces, w_semi, w_flag, w_joined, w_listed, all_whole, Tokens, tokens_of, Keeps, k_one, k_none, k_all, k_seq, k_behind, k_before, k_map, k_by, k_maybe, k_many, k_loop, k_declare, k_scope, k_when, k_if, k_sub, Name, k_word, k_type_name, k_name}
use Rattle.nesc_print_whole.proofs.Exprs.{E, w_at, MaybeE, T, w_type, w_before, C, gets_whole, Option_e, value_i, expr_law, k_expr, k_type_form, k_stars}
use Rattle.nesc_print_whole.proofs.Stmts.{Attr_w, w_attrs, only_d, StmtLaw, stmt_law}
use Rattle.nesc_print_whole.proofs.Decls.{MaybeName, Par, w_params, w_item, k_parameters, k_typedef_decl, k_decls, w_decls}

-- ---- signs

w_angles : {ws : Words} → Whole ws → Whole (in_angles ws)
unfolding signs
w_angles h = w_cons refl (w_join h (w_one refl))

arrow_whole : is_whole (sign (codes "->")) ≡ true
unfolding signs
arrow_whole = refl

-- ---- interfaces

record Signed (x : Sig) : Type 0 where
  result : T x.result
  name : Name x.name
  params : All Par x.params

item_whole : (c : Bool) → is_whole (word (sig_word c)) ≡ true
item_whole true = refl
item_whole false = refl

w_sig : (x : Sig) → Signed x → Whole (sig_words x)
w_sig x h = w_join (w_join (w_flag x.is_async (codes "async") refl) (w_cons (item_whole x.is_event) (w_join (w_before x.result h.result) (w_one h.name)))) (w_semi (w_params x.params h.params))

abbrev Sig_w : Sig → Type 0
Sig_w x = Whole (sig_words x)

abbrev Part_w : Part → Type 0
Part_w x = Whole (part_words x)

names_w : (ts : List Token) → All (λ (t : Token). Name t.text) ts → All (λ n. Whole (type_parameter_words n)) (map (λ (t : Token). t.text) ts)
names_w [] h = tt
names_w (t ∷ ts) h = (w_one h.0, names_w ts h.1)

w_type_parameters : (l : List (List ℕ)) → All (λ n. Whole (type_parameter_words n)) l → Whole (type_parameters_words l)
w_type_parameters [] h = w_nil
w_type_parameters (n ∷ l) h = w_angles (w_listed type_parameter_words (n ∷ l) h)

interface_w : (x : Token) (ts : List Token) (l : List Attr) (is : List Sig) → Name x.text → All (λ (t : Token). Name t.text) ts → All Attr_w l → All Sig_w is → Part_w (gc.interface_of x ts l is)
interface_w x ts l is h g a k = w_cons refl (w_cons h (w_join (w_type_parameters (map (λ (t : Token). t.text) ts) (names_w ts g)) (w_join (w_attrs l a) (w_braces (w_joined sig_words is k)))))

-- ---- heads

abbrev Generic_w : GenericParam → Type 0
Generic_w x = Whole (generic_param_words x)

abbrev Generics_w : Option (List GenericParam) → Type 0
Generics_w None = Unit {0}
Generics_w (Some xs) = All Generic_w xs

w_generics : (o : Option (List GenericParam)) → Generics_w o → Whole (generic_words o)
w_generics None h = w_nil
w_generics (Some xs) h = w_parens (w_listed generic_param_words xs h)

generic_of_w : (g : Bool) (o : Option (List GenericParam)) → Generics_w o → Generics_w (gc.generic_of g o)
generic_of_w true None h = tt
generic_of_w false None h = tt
generic_of_w true (Some xs) h = h
generic_of_w false (Some xs) h = h

w_alias : (n a : List ℕ) → Name a → Whole (alias_words n a)
w_alias n a h = by (bytes_eq a n)
  where
    by : (c : Bool) → Whole (cond c [] (word (codes "as") ∷ word a ∷ []))
    by true = w_nil
    by false = w_cons refl (w_one h)

abbrev Alias : Option Token → Type 0
Alias None = Unit {0}
Alias (Some t) = Name t.text

either_w : (t : Token) (u : Option Token) → Name t.text → Alias u → Name (gc.either_name t u).text
either_w t None h g = h
either_w t (Some u) h g = g

types_w : (ts : List CastType) → All C ts → All (λ t. Whole (type_argument_words t)) (map (λ (t : CastType). t.ty) ts)
types_w [] h = tt
types_w (t ∷ ts) h = (w_type t.ty h.0, types_w ts h.1)

w_type_arguments : (l : List TypeSpec) → All (λ t. Whole (type_argument_words t)) l → Whole (type_arguments_words l)
w_type_arguments [] h = w_nil
w_type_arguments (t ∷ l) h = w_angles (w_listed type_argument_words (t ∷ l) h)

abbrev MaybeC : Option CastType → Type 0
MaybeC None = Unit {0}
MaybeC (Some t) = C t

w_element_bracket : (o : Option CastType) → MaybeC o → Whole (element_bracket_words (gc.type_in o))
w_element_bracket None h = w_nil
w_element_bracket (Some t) h = w_brackets (w_join (w_type t.ty h) (w_one refl))

abbrev Elem_w : Elem → Type 0
Elem_w x = Whole (elem_words x)

specify_whole : (c : Bool) → is_whole (word (specify_word c)) ≡ true
specify_whole true = refl
specify_whole false = refl

element_w : (u : Option Token) (p : Option CastType) (ts : List CastType) (t : Token) (c : Bool) → Alias u → MaybeC p → All C ts → Name t.text → Elem_w (gc.element_of u p ts t c)
element_w u p ts t c a m h k = w_cons (specify_whole c) (w_cons refl (w_cons k (w_join (w_type_arguments (map (λ (t : CastType). t.ty) ts) (types_w ts h)) (w_join (w_alias t.text (gc.either_name t u).text (either_w t u k a)) (w_semi (w_element_bracket p m))))))

abbrev Makes : (Bool → Elem) → Type 0
Makes f = (c : Bool) → Elem_w (f c)

applied : (c : Bool) (fs : List (Bool → Elem)) → All Makes fs → All Elem_w (map (λ (f : Bool → Elem). f c) fs)
applied c [] h = tt
applied c (f ∷ fs) h = (h.0 c, applied c fs h.1)

all_joined : {X : Type 0} (P : X → Type 0) (xs ys : List X) → All P xs → All P ys → All P (xs ++ ys)
all_joined P [] ys h g = g
all_joined P (x ∷ xs) ys h g = (h.0, all_joined P xs ys h.1 g)

record Head_w (h : Head) : Type 0 where
  name : Name h.name
  end : Whole (head_end_words h)

w_component_head : (keyword : List ℕ) (h : Head) → is_whole (word keyword) ≡ true → Head_w h → Whole (component_head_words keyword h)
w_component_head keyword h e k = w_join (w_flag (is_some h.generic) (codes "generic") refl) (w_cons e (w_cons k.name k.end))

-- ---- lines

abbrev Line_w : ConfLine → Type 0
Line_w x = Whole (line_words x)

abbrev GenericArg_w : GenericArg → Type 0
GenericArg_w x = Whole (generic_arg_words x)

abbrev MaybeArgs : Option (List GenericArg) → Type 0
MaybeArgs None = Unit {0}
MaybeArgs (Some l) = All GenericArg_w l

w_component_name : (n : List ℕ) (o : Option (List GenericArg)) → Name n → MaybeArgs o → Whole (component_name_words n o)
w_component_name n None h g = w_one h
w_component_name n (Some l) h g = w_cons refl (w_cons h (w_parens (w_listed generic_arg_words l g)))

component_w : (l : Option (List GenericArg)) (u : Option Token) (t : Token) → MaybeArgs l → Alias u → Name t.text → Line_w (gc.component_line l u t)
component_w l u t g a h = w_cons refl (w_join (w_component_name t.text l h g) (w_semi (w_alias t.text (gc.either_name t u).text (either_w t u h a))))

w_end_bracket : (o : Option tree.Expr) → MaybeE o → Whole (end_bracket_words o)
w_end_bracket None h = w_nil
w_end_bracket (Some e) h = w_brackets (w_at 2 e h)

abbrev End_w : WireEnd → Type 0
End_w x = Whole (end_words x)

end_w : (u : Option Token) (a : Option Operand) (t : Token) → MaybeName (inner.text_of u) → Option_e a → Name t.text → End_w (gc.end_of u a t)
end_w u a t h g k = w_cons k (w_join (w_item (inner.text_of u) h) (w_end_bracket (gr.value_of a) (value_i a g)))

w_wire : (joint : List ℕ) (x y : WireEnd) → is_whole (sign joint) ≡ true → End_w x → End_w y → Whole (wire_words joint x y)
w_wire joint x y e h g = w_join h (w_cons e (w_semi g))

joined_w : (z : Sort) (x y : WireEnd) (pos : Pos) → End_w x → End_w y → Line_w (gc.joined z x y pos)
joined_w s.Arrow x y pos h g = w_wire (codes "->") x y arrow_whole h g
joined_w s.BackArrow x y pos h g = w_wire (codes "->") y x arrow_whole g h
joined_w _ x y pos h g = w_wire (codes "=") x y gets_whole h g

abbrev Lines : (Token → List ConfLine) → Type 0
Lines f = (t : Token) → Name t.text → All Line_w (f t)

named_t : (t : Token) → Name t.text → T (gr.plain (b.Named t.text) 0 t.pos).ty
named_t t h = record { base = subst (λ z. Whole (Rattle.nesc_print_words.specs.Expressions.base_words z)) (sym (view.named_base t.text)) (w_one h); dims = tt }

module _ {spare : ℕ} where
  k_type : Keeps spare gr.type_form C
  k_type = k_type_form (expr_law spare)

  k_value : {m : ℕ} → Keeps spare (gr.expr m) (λ a. E a.expr)
  k_value = k_expr (expr_law spare)

  k_phrase_attributes : Keeps spare gc.attributes (λ l. All Attr_w l)
  unfolding StmtLaw
  k_phrase_attributes = k_many {P = λ l. All Attr_w l} tt (λ x. k_when (inner.is_at x) (k_map (k_sub {k = Phrase.attribute} {P = Attr_w} (StmtLaw Phrase.attribute) (stmt_law spare Phrase.attribute) (λ a h. h)) (λ a h l g. all_pushed Attr_w l a g h)))

  k_sig : Keeps spare (production Phrase.item) Sig_w
  k_sig = k_seq {P = λ c. Unit {0}} {Q = λ f. (c : Bool) → Sig_w (f c)} k_all (k_seq {Q = λ f. (t : Token) (c : Bool) → Sig_w (f t c)} {R = λ f. (c : Bool) → Sig_w (f c)} k_one
      (k_seq {Q = λ f. (u : CastType) (t : Token) (c : Bool) → C u → Sig_w (f u t c)} {R = λ f. (t : Token) (c : Bool) → Sig_w (f t c)} k_type
      (k_seq {Q = λ f. (n : ℕ) (u : CastType) (t : Token) (c : Bool) → C u → Sig_w (f n u t c)} {R = λ f. (u : CastType) (t : Token) (c : Bool) → C u → Sig_w (f u t c)} (k_stars (expr_law spare))
      (k_seq k_name (k_before {P = λ ps. All Par ps} {Q = λ l. Unit {0}} (k_scope k_parameters) k_all) (λ x ps h g n u t c k. w_sig (gc.item_of x ps n u t c) (record { result = record { base = k.base; dims = tt }; name = h; params = g })))
      (λ n f z h u t c k. h n u t c k)) (λ u f h k t c. k u t c h)) (λ t f z h c. h t c)) (λ c f z h. h c)

sig_law : (d : ℕ) (u w : Place) (a : Sig) → Tokens u.rest → SpellsIn production d Phrase.item u a w → Sig_w a
unfolding SpellsIn
sig_law zero u w a z h = absurd h
sig_law (suc d) u w a z h = k_sig.gives u w a z h

module _ {spare : ℕ} where
  k_items : Keeps spare gc.items (λ l. All Sig_w l)
  k_items = k_behind k_one (k_before {P = λ l. All Sig_w l} (k_many {P = λ l. All Sig_w l} tt (λ x. k_when (begins_item x) (k_map (k_sub {k = Phrase.item} {P = Sig_w} Sig_w (sig_law spare) (λ a h. h)) (λ a h l g. all_pushed Sig_w l a g h)))) k_one)

  k_type_parameters : Keeps spare gc.type_parameters (λ ts. All (λ (t : Token). Name t.text) ts)
  k_type_parameters = k_maybe {P = λ ts. All (λ (t : Token). Name t.text) ts} (k_behind k_one (k_before {P = λ ts. All (λ (t : Token). Name t.text) ts} (k_loop {P = λ ts. All (λ (t : Token). Name t.text) ts} (k_map (k_declare k_name) (λ t h. (h, tt)))
      (λ x. k_when (gr.is_comma x) (k_map (k_behind k_one (k_declare k_name)) (λ t h l g. all_pushed (λ (t : Token). Name t.text) l t g h)))) k_one)) tt

  k_interface : Keeps spare gc.interface_form Part_w
  k_interface = k_seq {Q = λ f. (x : Token) → Name x.text → Part_w (f x)} (k_behind k_one k_name) (k_seq {Q = λ f. (ts : List Token) (x : Token) → All (λ (t : Token). Name t.text) ts → Name x.text → Part_w (f ts x)} k_type_parameters
      (k_seq k_phrase_attributes k_items (λ l is a k ts x g h. interface_w x ts l is h g a k)) (λ ts f g k x h. k ts x g h)) (λ x f h k. k x h)

  k_interface_part : (x : Sort) → Keeps spare (gc.interface_part x) Part_w
  k_interface_part s.Interface = k_interface
  k_interface_part _ = k_none

  -- ---- heads

  k_generic_of : (x : Sort) → Keeps spare (gc.generic_parameter_of x) Generic_w
  k_generic_of s.Typedef = k_seq (k_behind k_one (k_declare k_name)) k_all_attrs (λ t l h u. w_cons refl (w_one h))
    where
      k_all_attrs : Keeps spare inner.attributes (λ l. Unit {0})
      k_all_attrs = k_all
  k_generic_of x = k_when {g = Form.seq (λ t n. record { name = n.text; ty = Some t.ty }) gr.type_form (Form.declare (λ n. inner.hidden n.text) gr.name)} (begins_type x) (k_seq k_type (k_declare k_name) (λ t n h g. w_join (w_type t.ty h) (w_one g)))

  k_generics : Keeps spare (production Phrase.generics) (λ xs. All Generic_w xs)
  k_generics = k_behind k_one (k_before {P = λ xs. All Generic_w xs} (k_maybe {P = λ xs. All Generic_w xs} (k_loop {P = λ xs. All Generic_w xs} (k_map (k_by k_generic_of) (λ x h. (h, tt))) (λ x. k_when (gr.is_comma x) (k_map (k_behind k_one (k_by k_generic_of)) (λ a h l g. all_pushed Generic_w l a g h)))) tt) k_one)

  k_alias : Keeps spare gc.alias Alias
  k_alias = k_maybe {P = Alias} (k_map (k_behind k_one k_name) (λ t h. h)) tt

  k_element : Keeps spare gc.element Makes
  k_element = k_seq {Q = λ f. (t : Token) → Name t.text → Makes (f t)} (k_behind k_one k_name) (k_seq {Q = λ f. (ts : List CastType) (t : Token) → All C ts → Name t.text → Makes (f ts t)}
      (k_maybe {P = λ ts. All C ts} (k_behind k_one (k_before {P = λ ts. All C ts} (k_loop {P = λ ts. All C ts} (k_map k_type (λ t h. (h, tt))) (λ x. k_when (gr.is_comma x) (k_map (k_behind k_one k_type) (λ t h l g. all_pushed C l t g h)))) k_one)) tt)
      (k_seq k_alias (k_before {P = MaybeC} {Q = λ l. Unit {0}} (k_maybe {P = MaybeC} (k_map (k_behind k_one (k_before (k_before k_type k_name) k_one)) (λ t h. h)) tt) k_all) (λ u o a m ts t g h c. element_w u o ts t c a m g h))
      (λ ts f g k t h. k ts t g h)) (λ t f h k. k t h)

  k_closed_element : Keeps spare gc.closed_element Makes
  k_closed_element = k_before k_element k_one

  k_elements_of : (x : Sort) → Keeps spare (gc.elements_of x) (λ fs. All Makes fs)
  k_elements_of s.LBrace = k_behind k_one (k_before {P = λ fs. All Makes fs} (k_many {P = λ fs. All Makes fs} tt (λ x. k_when (gc.is_interface x) (k_map k_closed_element (λ f h l g. all_pushed Makes l f g h)))) k_one)
  k_elements_of s.Interface = k_map k_closed_element (λ f h. (h, tt))
  k_elements_of _ = k_none

  k_specification : Keeps spare (production Phrase.spec) (λ es. All Elem_w es)
  k_specification = k_seq k_one (k_by k_elements_of) (λ t fs u h. applied (gc.provides t) fs h)

generics_law : (d : ℕ) (u w : Place) (a : List GenericParam) → Tokens u.rest → SpellsIn production d Phrase.generics u a w → All Generic_w a
unfolding SpellsIn
generics_law zero u w a z h = absurd h
generics_law (suc d) u w a z h = k_generics.gives u w a z h

spec_law : (d : ℕ) (u w : Place) (a : List Elem) → Tokens u.rest → SpellsIn production d Phrase.spec u a w → All Elem_w a
unfolding SpellsIn
spec_law zero u w a z h = absurd h
spec_law (suc d) u w a z h = k_specification.gives u w a z h

module _ {spare : ℕ} where
  k_elements : Keeps spare gc.elements (λ es. All Elem_w es)
  k_elements = k_behind k_one (k_before {P = λ es. All Elem_w es} (k_many {P = λ es. All Elem_w es} tt (λ x. k_when (gc.is_specify x) (k_map (k_sub {k = Phrase.spec} {P = λ es. All Elem_w es} (λ es. All Elem_w es) (spec_law spare) (λ a h. h)) (λ es h l g. all_joined Elem_w l es g h)))) k_one)

  k_head : Keeps spare gc.head (λ f. (g : Bool) → Head_w (f g))
  k_head = k_seq {Q = λ f. (t : Token) → Name t.text → (g : Bool) → Head_w (f t g)} k_name
      (k_seq {P = Generics_w} {Q = λ f. (t : Token) (o : Option (List GenericParam)) → Name t.text → Generics_w o → Head_w (f t o)} (k_maybe {P = Generics_w} (k_map (k_sub {k = Phrase.generics} {P = λ xs. All Generic_w xs} (λ xs. All Generic_w xs) (generics_law spare) (λ a h. h)) (λ xs h. h)) tt)
      (k_seq k_phrase_attributes k_elements (λ l es a k t o h g. record { name = h; end = w_join (w_generics o g) (w_join (w_attrs l a) (w_braces (w_joined elem_words es k))) }))
      (λ o f g k t h c. k t (gc.generic_of c o) h (generic_of_w c o g))) (λ t f h k. k t h)

  -- ---- lines

  k_argument_of : (x : Sort) → Keeps spare (gc.generic_argument_of x) GenericArg_w
  k_argument_of x = k_if (begins_type x) (k_map k_type (λ t h. w_type t.ty h)) (k_when (begins_expr x) (k_map k_value (λ a h. w_at 2 a.expr h)))

  k_arguments : Keeps spare gc.generic_arguments (λ l. All GenericArg_w l)
  k_arguments = k_behind k_one (k_before {P = λ l. All GenericArg_w l} (k_maybe {P = λ l. All GenericArg_w l} (k_loop {P = λ l. All GenericArg_w l} (k_map (k_by k_argument_of) (λ a h. (h, tt))) (λ x. k_when (gr.is_comma x) (k_map (k_behind k_one (k_by k_argument_of)) (λ a h l g. all_pushed GenericArg_w l a g h)))) tt) k_one)

  k_component_of : (x : Sort) → Keeps spare (gc.component_of x) Line_w
  k_component_of s.New = k_seq {Q = λ f. (t : Token) → Name t.text → Line_w (f t)} (k_behind k_one k_name) (k_seq k_arguments k_alias (λ l u g a t h. component_w (Some l) u t g a h)) (λ t f h k. k t h)
  k_component_of _ = k_seq {Q = λ f. (t : Token) → Name t.text → Line_w (f t)} k_name (k_map k_alias (λ u a t h. component_w None u t tt a h)) (λ t f h k. k t h)

  k_components : Keeps spare gc.components_line (λ l. All Line_w l)
  k_components = k_behind k_one (k_before {P = λ l. All Line_w l} (k_loop {P = λ l. All Line_w l} (k_map (k_by k_component_of) (λ x h. (h, tt))) (λ x. k_when (gr.is_comma x) (k_map (k_behind k_one (k_by k_component_of)) (λ a h l g. all_pushed Line_w l a g h)))) k_one)

  k_end_rest : Keeps spare gc.end_rest (λ f. (t : Token) → Name t.text → End_w (f t))
  k_end_rest = k_seq {P = λ u. MaybeName (inner.text_of u)} {Q = Option_e} (k_maybe {P = λ u. MaybeName (inner.text_of u)} (k_map (k_behind k_one k_name) (λ t h. h)) tt) (k_maybe {P = Option_e} (k_map (k_behind k_one (k_before k_value k_one)) (λ a h. h)) tt) (λ u a h g t k. end_w u a t h g k)

  k_joint_of : (z : Sort) → Keeps spare (gc.joint_of z) (λ g. (x : WireEnd) (pos : Pos) → End_w x → Line_w (g x pos))
  k_joint_of z = k_when (gc.is_joint z) (k_seq k_one (k_before {P = End_w} (k_seq {Q = λ f. (t : Token) → Name t.text → End_w (f t)} k_name k_end_rest (λ t f h k. k t h)) k_one) (λ o y u h x pos k. joined_w z x y pos k h))

  k_wire_rest : Keeps spare gc.wire_rest Lines
  k_wire_rest = k_seq k_end_rest (k_by k_joint_of) (λ f g h k t n. (k (f t) t.pos (h t n), tt))

  k_named_type : Keeps spare gc.named_type Lines
  k_named_type = k_seq {P = λ q. Unit {0}} {Q = λ o. Unit {0}} k_all k_all (λ q o u v t h. (only_d _ _ (record { base = (named_t t h).base; dims = (named_t t h).dims }), tt))

  k_behind_name : (x : Sort) → Keeps spare (gc.behind_type_name x) Lines
  k_behind_name s.Semi = k_named_type
  k_behind_name s.Qualifier = k_named_type
  k_behind_name s.Dot = k_wire_rest
  k_behind_name s.LBracket = k_wire_rest
  k_behind_name s.Arrow = k_wire_rest
  k_behind_name s.BackArrow = k_wire_rest
  k_behind_name s.Assign = k_wire_rest
  k_behind_name _ = k_none

  k_line_of : (x : Sort) → Keeps spare (gc.line_of x) (λ l. All Line_w l)
  k_line_of s.Components = k_components
  k_line_of s.Word = k_seq k_word k_wire_rest (λ t f h k. k t h)
  k_line_of s.TypeName = k_seq k_type_name (k_by k_behind_name) (λ t f h k. k t h)
  k_line_of s.Typedef = k_map k_typedef_decl (λ d h. (h, tt))
  k_line_of x = k_when {g = Form.seq (λ t _. gc.type_line t) gr.type_form (gr.one s.Semi)} (begins_type x) (k_seq k_type k_one (λ t o h u. (only_d t.ty t.from h, tt)))

line_law : (d : ℕ) (u w : Place) (a : List ConfLine) → Tokens u.rest → SpellsIn production d Phrase.line u a w → All Line_w a
unfolding SpellsIn
line_law zero u w a z h = absurd h
line_law (suc d) u w a z h = (k_by k_line_of).gives u w a z h

-- ---- components and files

abbrev Unit_w : unit.Unit → Type 0
Unit_w u = Whole (unit_words u)

module _ {spare : ℕ} where
  k_lines : Keeps spare gc.lines (λ l. All Line_w l)
  k_lines = k_behind k_one (k_before {P = λ l. All Line_w l} (k_many {P = λ l. All Line_w l} tt (λ x. k_when (begins_line x) (k_map (k_sub {k = Phrase.line} {P = λ l. All Line_w l} (λ l. All Line_w l) (line_law spare) (λ a h. h)) (λ ls h l g. all_joined Line_w l ls g h)))) k_one)

  k_module : Keeps spare gc.module_of (λ f. (g : Bool) → Part_w (f g))
  k_module = k_behind k_one (k_seq k_head (k_behind k_one (k_behind k_one (k_before (k_decls site.Module) k_one))) (λ f ds h k g. w_join (w_component_head (codes "module") (f g) refl (h g)) (w_cons refl (w_braces (w_decls ds k)))))

  k_configuration : Keeps spare gc.configuration_of (λ f. (g : Bool) → Part_w (f g))
  k_configuration = k_behind k_one (k_seq k_head (k_behind k_one k_lines) (λ f ls h k g. w_join (w_component_head (codes "configuration") (f g) refl (h g)) (w_cons refl (w_braces (w_joined line_words ls k)))))

  k_component_by : (x : Sort) → Keeps spare (gc.component_by x) (λ f. (g : Bool) → Part_w (f g))
  k_component_by s.Module = k_module
  k_component_by s.Configuration = k_configuration
  k_component_by _ = k_none

  k_component_part : (x : Sort) → Keeps spare (gc.component_part x) Part_w
  k_component_part s.Generic = k_map (k_behind k_one (k_by k_component_by)) (λ f h. h true)
  k_component_part x = k_map {g = gc.component_by x} (k_component_by x) (λ f h. h false)

  k_unit : {f : Sort → Form Part} → ((x : Sort) → Keeps spare (f x) Part_w) → Keeps spare (Form.seq gc.unit_of (inner.decls_before site.Header) (Form.scope (Form.by f))) Unit_w
  k_unit m = k_seq (k_decls site.Header) (k_scope (k_by m)) (λ ds x h k. w_join (w_decls ds h) k)

interface_law : (d : ℕ) (u w : Place) (a : unit.Unit) → Tokens u.rest → SpellsIn production d Phrase.interface u a w → Unit_w a
unfolding SpellsIn
interface_law zero u w a z h = absurd h
interface_law (suc d) u w a z h = (k_unit k_interface_part).gives u w a z h

component_law : (d : ℕ) (u w : Place) (a : unit.Unit) → Tokens u.rest → SpellsIn production d Phrase.component u a w → Unit_w a
unfolding SpellsIn
component_law zero u w a z h = absurd h
component_law (suc d) u w a z h = (k_unit k_component_part).gives u w a z h

pub words : PrintedWordsAreWhole
words = record {
  interfaces = λ levels p q u h z. all_whole _ (interface_law levels p q u (tokens_of p.rest z) h);
  components = λ levels p q u h z. all_whole _ (component_law levels p q u (tokens_of p.rest z) h);
  lists = λ levels m p q xs h z. all_whole _ (w_decls xs ((k_decls m).gives p q xs (tokens_of p.rest z) h));
}
