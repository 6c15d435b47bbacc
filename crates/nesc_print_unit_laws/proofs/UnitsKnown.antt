-- What tokens spell is printed so that it is read again: interfaces, components and files.
use Rattle.std.proofs.Common.{◌≡◌, ℕ, zero, suc, Bool, true, false, List, [], ◌∷◌, ◌++◌, map, Option, Some, None, refl, sym, ap, subst, ◌∙◌}
use Rattle.nm_base.specs.declared.pos.Pos.{Pos}
use Rattle.nm_base.specs.declared.token.Token.{Token}
use Rattle.nesc_tree.specs.declared.sorts.Sort.{Sort}
use Rattle.nesc_tree.specs.declared.sorts.Sort.TheVariants as s
use Rattle.nesc_tree.specs.declared.contexts.Site.TheVariants as site
use Rattle.nesc_tree.specs.declared.tree.Base.TheVariants as b
use Rattle.nesc_tree.specs.declared.operand.CastType.{CastType}
use Rattle.nesc_tree.specs.declared.operand.Qualifiers.{Qualifiers}
use Rattle.nesc_tree.specs.declared.declarations.Attr.{Attr}
use Rattle.nesc_tree.specs.declared.declarations.Decl as decl
use Rattle.nesc_tree.specs.declared.declarations.Decl.{Decl}
use Rattle.nesc_tree.specs.declared.declarations.Variable.{Variable}
use Rattle.nesc_tree.specs.declared.components.ConfLine.{ConfLine}
use Rattle.nesc_tree.specs.declared.components.ConfLine.TheVariants as line
use Rattle.nesc_tree.specs.declared.components.Elem.{Elem}
use Rattle.nesc_tree.specs.declared.components.GenericArg.{GenericArg}
use Rattle.nesc_tree.specs.declared.components.GenericParam.{GenericParam}
use Rattle.nesc_tree.specs.declared.components.Head.{Head}
use Rattle.nesc_tree.specs.declared.components.Part.{Part}
use Rattle.nesc_tree.specs.declared.components.Sig.{Sig}
use Rattle.nesc_tree.specs.declared.components.Unit as unit
use Rattle.nesc_tree.specs.declared.components.WireEnd.{WireEnd}
use Rattle.nesc_tree.specs.Sorts.{Names}
use Rattle.nesc_tree.specs.Sorts as sorts
use Rattle.nesc_tree.specs.Phrase.{Phrase, Of, begins_type, begins_expr, begins_line, begins_item}
use Rattle.nesc_tree.specs.Form.{Form, Place, Spells, SpellsIn}
use Rattle.nesc_grammar.specs.Production.{production}
use Rattle.nesc_grammar.specs.Grammar as gr
use Rattle.nesc_grammar.specs.Declarations as inner
use Rattle.nesc_grammar.specs.Components as gc
use Rattle.nesc_print_laws.proofs.Names.{IsName}
use Rattle.nesc_print_laws.proofs.Lists.{Row}
use Rattle.nesc_print_laws.proofs.Calls.{All}
use Rattle.nesc_print_laws.proofs.Yields.{Yields, Quiet, y_token, y_none, y_seq, y_map, y_by, y_maybe, y_many, y_loop, y_when, y_if, y_one, y_name, type_known}
use Rattle.nesc_print_laws.proofs.Known.{Fine, FineType, all_pushed, law, y_whole, y_type_form, y_stars}
use Rattle.nesc_print_laws.proofs.Changed.{y_then, y_map_to, y_declare, y_scope, y_many_to, y_loop_to}
use Rattle.nesc_print_laws.proofs.Inits.{Attribute}
use Rattle.nesc_print_laws.proofs.Types.{Basic, basic_named}
use Rattle.nesc_print_laws.proofs.Views as view
use Rattle.nesc_print_laws.proofs.Stmts.{MaybeBare}
use Rattle.nesc_print_laws.proofs.Variables as vars
use Rattle.nesc_print_laws.proofs.Variables.{Plain}
use Rattle.nesc_print_laws.proofs.StmtsKnown.{StmtLaw, y_after, y_behind, y_before, y_maybe_to, plain_of, y_attributes, y_plain_variable, stmt_law}
use Rattle.nesc_print_decl_laws.proofs.Params.{MaybeName}
use Rattle.nesc_print_decl_laws.proofs.Decls.{Decls}
use Rattle.nesc_print_decl_laws.proofs.DeclsKnown.{FineParams, y_parameters, y_decls}
use Rattle.nesc_print_unit_laws.proofs.Interfaces.{Signature, AllTypeNames, type_name_pushed}
use Rattle.nesc_print_unit_laws.proofs.Generics.{MaybePlain, after_generic, FineGeneric, AllGeneric, generic_pushed}
use Rattle.nesc_print_unit_laws.proofs.Heads.{aliased, either_is, Element, Generics, Headed}
use Rattle.nesc_print_unit_laws.proofs.Lines.{Lined, FineArg, MaybeArgs, Ended, Lines, line_pushed, lined_component, lined_link, lined_equate, lined_typedef, lined_type}
use Rattle.nesc_print_unit_laws.proofs.Units.{Parted, parted_interface, parted_module, parted_config}

abbrev ResultFine : Names → (Token → Bool → Sig) → Type 0
ResultFine ms f = (t : Token) (c : Bool) → Signature ms (f t c)

-- ---- phrases that are parts

-- by what is known of a phrase
part_by : {spare : ℕ} {ns : Names} {k : Phrase} {B : Type 0} {f : Of k → B} {P : B → Place → Type 0} (L : Names → Of k → Place → Type 0)
    → ((u v : Place) (a : Of k) → SpellsIn production spare k u a v → L u.names a v) → ((a : Of k) (q : Place) → L ns a q → P (f a) q) → Yields spare ns (Form.sub k f) P
unfolding Spells
part_by {P = P} L ih h = record { gives = λ u v c e t. subst (λ x. P x v) (sym t.2) (h t.0 v (subst (λ n. L n t.0 v) e (ih u v t.0 t.1))) }

abbrev AttributeLaw : Names → Attr → Place → Type 0
AttributeLaw ns a q = Quiet ns (Attribute ns) a q

attribute_law : (d : ℕ) (u v : Place) (a : Attr) → SpellsIn production d Phrase.attribute u a v → AttributeLaw u.names a v
unfolding StmtLaw
attribute_law d u v a h = stmt_law d Phrase.attribute u v a h

module _ {spare : ℕ} {ns : Names} where
  y_type : Yields spare ns gr.type_form (Quiet ns (FineType ns))
  y_type = y_type_form (law spare)

  y_expr : {m : ℕ} → Yields spare ns (gr.expr m) (Quiet ns (λ a. Fine ns a.expr))
  y_expr = y_whole (law spare)

  -- those of a declaration, which are no phrases of their own
  y_dropped : Yields spare ns inner.attributes (Quiet ns (λ l. All (Attribute ns) l))
  y_dropped = y_attributes spare (stmt_law spare)

  y_phrase_attributes : Yields spare ns gc.attributes (Quiet ns (λ l. All (Attribute ns) l))
  y_phrase_attributes = y_many {P = λ l. All (Attribute ns) l} tt (λ x. y_when (inner.is_at x) (y_map (part_by {k = Phrase.attribute} {P = Quiet ns (Attribute ns)} AttributeLaw (attribute_law spare) (λ a q h. h)) (λ a h l g. all_pushed (Attribute ns) l a g h)))

  -- ---- interfaces

  y_item_end : Yields spare ns gc.item_end (λ ps q. (q.names ≡ ns) × ((ms : Names) × FineParams ns ps ms))
  y_item_end = y_then {P = λ ps q. (q.names ≡ ns) × ((ms : Names) × FineParams ns ps ms)} {Q = λ ps q u r. (r.names ≡ q.names) × Unit {0}} (y_scope {P = λ ps q. FineParams ns ps q.names} y_parameters (λ ps q h. (refl, (q.names, h))))
      (λ ps q h. y_seq {R = λ u. Unit {0}} y_attributes_at y_one (λ l t h u. tt)) (λ ps q u r h g. (g.0 ∙ h.0, h.1))
    where
      y_attributes_at : {ms : Names} → Yields spare ms inner.attributes (Quiet ms (λ l. All (Attribute ms) l))
      y_attributes_at = y_attributes spare (stmt_law spare)

  y_typed_item : Yields spare ns (gr.with gr.type_form gc.typed_item) (Quiet ns (ResultFine ns))
  y_typed_item = y_after {Q = λ f q. (q.names ≡ ns) × ((t : CastType) → FineType ns t → ResultFine ns (f t))} y_type
      (y_after {Q = λ f q. (q.names ≡ ns) × ((n : ℕ) (t : CastType) → FineType ns t → ResultFine ns (f n t))} (y_stars (law spare))
      (y_after y_name y_item_end (λ x ps q i h. (h.0, λ n t k o c. record { inside = h.1.0; result = k.basic; no_dims = refl; is_name = i; params = h.1.1.0; kept = h.1.1.1 }))) (λ n f q u h. (h.0, λ t k. h.1 n t k))) (λ t f q k h. (h.0, h.1 t k))

  y_sig : Yields spare ns (production Phrase.item) (Quiet ns (Signature ns))
  y_sig = y_seq {P = λ c. Unit {0}} {Q = λ f. (c : Bool) → Signature ns (f c)} (y_maybe (y_map y_one (λ t u. tt)) tt) (y_seq {Q = ResultFine ns} y_one y_typed_item (λ t f u h c. h t c)) (λ c f u h. h c)

pub item_law : (d : ℕ) (u v : Place) (a : Sig) → SpellsIn production d Phrase.item u a v → Quiet u.names (Signature u.names) a v
unfolding SpellsIn
item_law zero u v a h = absurd h
item_law (suc d) u v a h = y_sig.gives u v a refl h

y_type_parameter : {spare : ℕ} {ns : Names} → Yields spare ns gc.type_parameter (λ t q. (q.names ≡ sorts.declared t.text true ns) × IsName t.text)
y_type_parameter = y_declare y_name (λ t q h. (ap (sorts.declared t.text true) h.0, h.1))

abbrev texts_of : List Token → List (List ℕ)
texts_of ts = map (λ (t : Token). t.text) ts

texts_pushed : (ts : List Token) (t : Token) → texts_of (ts ++ (t ∷ [])) ≡ texts_of ts ++ (t.text ∷ [])
texts_pushed ts t = Rattle.std.proofs.lemmas.List.map-append (λ (t : Token). t.text) ts (t ∷ [])

y_type_parameters : {spare : ℕ} {ns : Names} → Yields spare ns gc.type_parameters (λ ts q. AllTypeNames (texts_of ts) ns q.names)
y_type_parameters {ns = ns} = y_maybe_to {P = λ ts q. AllTypeNames (texts_of ts) ns q.names} (y_behind (y_before (λ ts ms. AllTypeNames (texts_of ts) ns ms)
    (y_loop_to (λ ts ms. AllTypeNames (texts_of ts) ns ms) (y_map_to y_type_parameter (λ t q h. subst (AllTypeNames (t.text ∷ []) ns) (sym h.0) (AllTypeNames.more h.1 AllTypeNames.none)))
    (λ x ms. y_when (gr.is_comma x) (y_map_to (y_behind y_type_parameter) (λ t q h ts g. subst (λ l. AllTypeNames l ns q.names) (sym (texts_pushed ts t)) (subst (AllTypeNames (texts_of ts ++ (t.text ∷ [])) ns) (sym h.0) (type_name_pushed (texts_of ts) t.text g h.1))))))))
    (λ q e. subst (AllTypeNames [] ns) (sym e) AllTypeNames.none)

y_items : {spare : ℕ} {ns : Names} → Yields spare ns gc.items (Quiet ns (λ l. All (Signature ns) l))
y_items {spare = spare} {ns = ns} = y_seq {R = λ l. All (Signature ns) l} y_one (y_seq {R = λ l. All (Signature ns) l} (y_many {P = λ l. All (Signature ns) l} tt (λ x. y_when (begins_item x)
    (y_map (part_by {k = Phrase.item} {P = Quiet ns (Signature ns)} (λ n a q. Quiet n (Signature n) a q) (item_law spare) (λ a q h. h)) (λ a h l g. all_pushed (Signature ns) l a g h)))) y_one (λ l t h u. h)) (λ t l u h. h)

-- a part of a file, of whichever names are behind it
abbrev PartFine : Names → (Sort → Form Part) → Part → Place → Type 0
PartFine ns f x q = Parted ns f x

y_interface : {spare : ℕ} {ns : Names} → Yields spare ns gc.interface_form (PartFine ns gc.interface_part)
y_interface {ns = ns} = y_after {P = λ t. IsName t.text} {Q = λ f q. (t : Token) → IsName t.text → Parted ns gc.interface_part (f t)} (y_seq {R = λ t. IsName t.text} y_one y_name (λ t n u h. h))
    (y_then {P = λ ts q. AllTypeNames (texts_of ts) ns q.names} {Q = λ ts q f r. (t : Token) → IsName t.text → Parted ns gc.interface_part (f ts t)} y_type_parameters
    (λ ts q h. y_after {P = λ l. All (Attribute q.names) l} {Q = Quiet q.names (λ l. All (Signature q.names) l)} y_phrase_attributes y_items (λ l is r a k t i. parted_interface _ (record { inside = q.names; is_name = i; params = h; attrs = a; items = k.1 })))
    (λ ts q f r h g. g)) (λ t f q i h. h t i)

y_interface_part : {spare : ℕ} {ns : Names} (x : Sort) → Yields spare ns (gc.interface_part x) (PartFine ns gc.interface_part)
y_interface_part s.Interface = y_interface
y_interface_part _ = y_none

-- ---- parameters of generic components

abbrev GenericFine : Names → GenericParam → Place → Type 0
GenericFine ns x q = (q.names ≡ after_generic ns x.ty x.name) × FineGeneric ns x

y_generic_of : {spare : ℕ} {ns : Names} (x : Sort) → Yields spare ns (gc.generic_parameter_of x) (GenericFine ns)
y_generic_of {spare = spare} {ns = ns} s.Typedef = y_then {P = λ t q. (q.names ≡ sorts.declared t.text true ns) × IsName t.text} {Q = λ t q l r. (r.names ≡ q.names) × All (Attribute q.names) l} (y_behind y_type_parameter) (λ t q h. y_attributes spare (stmt_law spare))
    (λ t q l r h g. (g.0 ∙ h.0, record { is_name = h.1; ty = tt }))
y_generic_of {ns = ns} x = y_when {g = Form.seq (λ t n. record { name = n.text; ty = Some t.ty }) gr.type_form (Form.declare (λ n. inner.hidden n.text) gr.name)} (begins_type x)
    (y_after {Q = λ t q. (q.names ≡ inner.hidden t.text ns) × IsName t.text} y_type (y_declare y_name (λ t q h. (ap (inner.hidden t.text) h.0, h.1))) (λ u t q k h. (h.0, record { is_name = h.1; ty = plain_of ns u k })))

y_generics : {spare : ℕ} {ns : Names} → Yields spare ns (production Phrase.generics) (λ xs q. AllGeneric xs ns q.names)
y_generics {ns = ns} = y_behind (y_before (λ xs ms. AllGeneric xs ns ms) (y_maybe_to {P = λ xs q. AllGeneric xs ns q.names}
    (y_loop_to (λ xs ms. AllGeneric xs ns ms) (y_map_to (y_by y_generic_of) (λ x q h. subst (AllGeneric (x ∷ []) ns) (sym h.0) (AllGeneric.more h.1 AllGeneric.none)))
    (λ x ms. y_when (gr.is_comma x) (y_map_to (y_behind (y_by y_generic_of)) (λ a q h xs g. subst (AllGeneric (xs ++ (a ∷ [])) ns) (sym h.0) (generic_pushed xs a g h.1)))))
    (λ q e. subst (AllGeneric [] ns) (sym e) AllGeneric.none)))

pub generics_law : (d : ℕ) (u v : Place) (a : List GenericParam) → SpellsIn production d Phrase.generics u a v → AllGeneric a u.names v.names
unfolding SpellsIn
generics_law zero u v a h = absurd h
generics_law (suc d) u v a h = y_generics.gives u v a refl h

-- ---- specifications

-- a name of its own, or that of what it stands behind
abbrev AliasFine : Option Token → Type 0
AliasFine None = Unit {0}
AliasFine (Some t) = IsName t.text

alias_named : (n : List ℕ) (u : Option Token) → IsName n → AliasFine u → IsName (aliased n u)
alias_named n None k h = k
alias_named n (Some t) k h = h

either_named : (t : Token) (u : Option Token) → IsName t.text → AliasFine u → IsName (gc.either_name t u).text
either_named t u k h = subst IsName (sym (either_is t u)) (alias_named t.text u k h)

abbrev BracketFine : Names → Option CastType → Type 0
BracketFine ns None = Unit {0}
BracketFine ns (Some t) = FineType ns t

bracket_plain : (ns : Names) (o : Option CastType) → BracketFine ns o → MaybePlain ns (gc.type_in o)
bracket_plain ns None h = tt
bracket_plain ns (Some t) h = plain_of ns t h

plains : (ns : Names) (ts : List CastType) → All (FineType ns) ts → All (Plain ns) (map (λ (t : CastType). t.ty) ts)
plains ns [] h = tt
plains ns (t ∷ ts) h = (plain_of ns t h.0, plains ns ts h.1)

abbrev ElemFine : Names → (Bool → Elem) → Type 0
ElemFine ns f = (c : Bool) → Element ns (f c)

applied : (ns : Names) (c : Bool) (fs : List (Bool → Elem)) → All (ElemFine ns) fs → All (Element ns) (map (λ (f : Bool → Elem). f c) fs)
applied ns c [] h = tt
applied ns c (f ∷ fs) h = (h.0 c, applied ns c fs h.1)

all_joined : {X : Type 0} (P : X → Type 0) (xs ys : List X) → All P xs → All P ys → All P (xs ++ ys)
all_joined P [] ys h g = g
all_joined P (x ∷ xs) ys h g = (h.0, all_joined P xs ys h.1 g)

module _ {spare : ℕ} {ns : Names} where
  y_alias : Yields spare ns gc.alias (Quiet ns AliasFine)
  y_alias = y_maybe {P = AliasFine} (y_map (y_seq {R = λ t. IsName t.text} y_one y_name (λ t n u h. h)) (λ t h. h)) tt

  y_type_arguments : Yields spare ns gc.type_arguments (Quiet ns (λ ts. All (FineType ns) ts))
  y_type_arguments = y_maybe {P = λ ts. All (FineType ns) ts} (y_seq {R = λ ts. All (FineType ns) ts} y_one (y_seq {R = λ ts. All (FineType ns) ts} (y_loop {P = λ ts. All (FineType ns) ts} (y_map y_type (λ t h. (h, tt)))
      (λ x. y_when (gr.is_comma x) (y_map (y_seq {R = FineType ns} y_one y_type (λ c t u h. h)) (λ t h ts g. all_pushed (FineType ns) ts t g h)))) y_one (λ l t h u. h)) (λ t l u h. h)) tt

  y_element_bracket : Yields spare ns gc.element_bracket (Quiet ns (BracketFine ns))
  y_element_bracket = y_maybe {P = BracketFine ns} (y_map (y_seq {R = FineType ns} y_one (y_seq {R = FineType ns} (y_seq {R = FineType ns} y_type y_name (λ t n h u. h)) y_one (λ t c h u. h)) (λ c t u h. h)) (λ t h. h)) tt

  y_element : Yields spare ns gc.element (Quiet ns (ElemFine ns))
  y_element = y_seq {Q = λ f. (t : Token) → IsName t.text → ElemFine ns (f t)} (y_seq {R = λ t. IsName t.text} y_one y_name (λ t n u h. h))
      (y_seq {Q = λ f. (ts : List CastType) (t : Token) → All (FineType ns) ts → IsName t.text → ElemFine ns (f ts t)} y_type_arguments
      (y_seq y_alias (y_seq {R = BracketFine ns} y_element_bracket y_dropped (λ o l h u. h)) (λ u o a h ts t g k c. record { is_iface = k; is_name = either_named t u k a; args = plains ns ts g; param = bracket_plain ns o h }))
      (λ ts f g h t k. h ts t g k)) (λ t f k h. h t k)

  y_closed_element : Yields spare ns gc.closed_element (Quiet ns (ElemFine ns))
  y_closed_element = y_seq y_element y_one (λ f t h u. h)

  y_elements_of : (x : Sort) → Yields spare ns (gc.elements_of x) (Quiet ns (λ fs. All (ElemFine ns) fs))
  y_elements_of s.LBrace = y_seq {R = λ fs. All (ElemFine ns) fs} y_one (y_seq {R = λ fs. All (ElemFine ns) fs} (y_many {P = λ fs. All (ElemFine ns) fs} tt (λ x. y_when (gc.is_interface x) (y_map y_closed_element (λ f h fs g. all_pushed (ElemFine ns) fs f g h)))) y_one (λ l t h u. h)) (λ t l u h. h)
  y_elements_of s.Interface = y_map y_closed_element (λ f h. (h, tt))
  y_elements_of _ = y_none

  y_specification : Yields spare ns (production Phrase.spec) (Quiet ns (λ es. All (Element ns) es))
  y_specification = y_seq y_one (y_by y_elements_of) (λ t fs u h. applied ns (gc.provides t) fs h)

pub spec_law : (d : ℕ) (u v : Place) (a : List Elem) → SpellsIn production d Phrase.spec u a v → Quiet u.names (λ es. All (Element u.names) es) a v
unfolding SpellsIn
spec_law zero u v a h = absurd h
spec_law (suc d) u v a h = y_specification.gives u v a refl h

y_elements : {spare : ℕ} {ns : Names} → Yields spare ns gc.elements (Quiet ns (λ es. All (Element ns) es))
y_elements {spare = spare} {ns = ns} = y_seq {R = λ es. All (Element ns) es} y_one (y_seq {R = λ es. All (Element ns) es} (y_many {P = λ es. All (Element ns) es} tt (λ x. y_when (gc.is_specify x)
    (y_map (part_by {k = Phrase.spec} {P = Quiet ns (λ es. All (Element ns) es)} (λ n a q. Quiet n (λ es. All (Element n) es) a q) (spec_law spare) (λ a q h. h)) (λ es h l g. all_joined (Element ns) l es g h)))) y_one (λ l t h u. h)) (λ t l u h. h)

-- ---- heads

-- with `generic` or without, where parameters make it generic
generic_fine : (g : Bool) (o : Option (List GenericParam)) {ns ms : Names} → Generics o ns ms → Generics (gc.generic_of g o) ns ms
generic_fine true None Generics.none = Generics.some AllGeneric.none
generic_fine false None Generics.none = Generics.none
generic_fine true (Some xs) k = k
generic_fine false (Some xs) k = k

abbrev HeadFine : Names → (Bool → Head) → Names → Type 0
HeadFine ns f ms = (g : Bool) → Headed ns ms (f g)

y_some_generics : {spare : ℕ} {ns : Names} → Yields spare ns (inner.some (Form.sub Phrase.generics (λ x. x))) (λ o q. Generics o ns q.names)
y_some_generics {spare = spare} {ns = ns} = y_maybe_to {P = λ o q. Generics o ns q.names} (y_map_to (part_by {k = Phrase.generics} {P = λ xs q. AllGeneric xs ns q.names} (λ n a q. AllGeneric a n q.names) (generics_law spare) (λ a q h. h)) (λ xs q h. Generics.some h))
    (λ q e. subst (Generics None ns) (sym e) Generics.none)

y_head : {spare : ℕ} {ns : Names} → Yields spare ns gc.head (λ f q. HeadFine ns f q.names)
y_head {ns = ns} = y_after {P = λ t. IsName t.text} {Q = λ f q. (t : Token) → IsName t.text → HeadFine ns (f t) q.names} y_name
    (y_then {P = λ o q. Generics o ns q.names} {Q = λ o q f r. (r.names ≡ q.names) × ((t : Token) (z : Option (List GenericParam)) → IsName t.text → Generics z ns q.names → Headed ns q.names (f t z))} y_some_generics
    (λ o q h. y_seq {R = λ f. (t : Token) (z : Option (List GenericParam)) → IsName t.text → Generics z ns q.names → Headed ns q.names (f t z)} y_phrase_attributes y_elements (λ l es a e t z i k. record { is_name = i; generic = k; elems = e; attrs = a }))
    (λ o q f r h k t i g. subst (λ n. Headed ns n (f t (gc.generic_of g o))) (sym k.0) (k.1 t (gc.generic_of g o) i (generic_fine g o h)))) (λ t f q i h. h t i)

-- ---- lines of configurations

abbrev LinesFine : Names → List ConfLine → Place → Type 0
LinesFine ns l q = Lines l ns q.names

one_lined : {ns ms : Names} (x : ConfLine) → Lined ns ms x → Lines (x ∷ []) ns ms
one_lined x k = line_pushed [] x Row.none k

lines_joined : (xs ys : List ConfLine) {ns ms ls : Names} → Lines xs ns ms → Lines ys ms ls → Lines (xs ++ ys) ns ls
lines_joined [] ys Row.none r = r
lines_joined (x ∷ xs) ys (Row.more u j e) r = Row.more u j (lines_joined xs ys e r)

component_fine : (ns : Names) (l : Option (List GenericArg)) (u : Option Token) (t : Token) → MaybeArgs ns l → AliasFine u → IsName t.text → Lined ns ns (gc.component_line l u t)
component_fine ns l u t g a k = lined_component t.text l (gc.either_name t u).text t.pos k g (either_named t u k a)

joined_fine : (ns : Names) (z : Sort) (x y : WireEnd) (pos : Pos) → Ended ns x → Ended ns y → Lined ns ns (gc.joined z x y pos)
joined_fine ns s.Arrow x y pos h g = lined_link x y pos h g
joined_fine ns s.BackArrow x y pos h g = lined_link y x pos g h
joined_fine ns _ x y pos h g = lined_equate x y pos h g

named_plain : (ns : Names) (t : Token) (q : Qualifiers) → IsName t.text → Rattle.nesc_tree.specs.Sorts.is_type ns t.text ≡ true → Plain ns (gr.type_of gr.no_qualifiers (gr.plain (b.Named t.text) 0 t.pos) q).ty
named_plain ns t q k i = record { basic = subst (Basic ns) (sym (view.named_base t.text)) (basic_named t.text k i); stars = refl; dims = refl }

abbrev NamedFine : Names → (Token → List ConfLine) → Type 0
NamedFine ns f = (t : Token) → IsName t.text → Rattle.nesc_tree.specs.Sorts.is_type ns t.text ≡ true → Lines (f t) ns ns

to_lines : {ns : Names} {l : List ConfLine} (q : Place) → q.names ≡ ns → Lines l ns ns → Lines l ns q.names
to_lines {ns = ns} {l = l} q e r = subst (Lines l ns) (sym e) r

module _ {spare : ℕ} {ns : Names} where
  y_argument_of : (x : Sort) → Yields spare ns (gc.generic_argument_of x) (Quiet ns (FineArg ns))
  y_argument_of x = y_if (begins_type x) (y_map y_type (λ t h. plain_of ns t h)) (y_when (begins_expr x) (y_map y_expr (λ a h. h)))

  y_arguments : Yields spare ns gc.generic_arguments (Quiet ns (λ l. All (FineArg ns) l))
  y_arguments = y_seq {R = λ l. All (FineArg ns) l} y_one (y_seq {R = λ l. All (FineArg ns) l} (y_maybe {P = λ l. All (FineArg ns) l} (y_loop {P = λ l. All (FineArg ns) l} (y_map (y_by y_argument_of) (λ a h. (h, tt)))
      (λ x. y_when (gr.is_comma x) (y_map (y_seq {R = FineArg ns} y_one (y_by y_argument_of) (λ t a u h. h)) (λ a h l g. all_pushed (FineArg ns) l a g h)))) tt) y_one (λ l t h u. h)) (λ t l u h. h)

  y_component_of : (x : Sort) → Yields spare ns (gc.component_of x) (Quiet ns (Lined ns ns))
  y_component_of s.New = y_seq {Q = λ f. (t : Token) → IsName t.text → Lined ns ns (f t)} (y_seq {R = λ t. IsName t.text} y_one y_name (λ t n u h. h)) (y_seq y_arguments y_alias (λ l u g a t k. component_fine ns (Some l) u t g a k)) (λ t f k h. h t k)
  y_component_of _ = y_seq {Q = λ f. (t : Token) → IsName t.text → Lined ns ns (f t)} y_name (y_map y_alias (λ u a t k. component_fine ns None u t tt a k)) (λ t f k h. h t k)

  y_end_rest : Yields spare ns gc.end_rest (Quiet ns (λ f. (t : Token) → IsName t.text → Ended ns (f t)))
  y_end_rest = y_seq {P = λ u. MaybeName (inner.text_of u)} {Q = λ a. MaybeBare ns (gr.value_of a)} (y_maybe {P = λ u. MaybeName (inner.text_of u)} (y_map (y_seq {R = λ t. IsName t.text} y_one y_name (λ t n u h. h)) (λ t h. h)) tt)
      (y_maybe {P = λ a. MaybeBare ns (gr.value_of a)} (y_map (y_seq {R = λ a. Fine ns a.expr} y_one (y_seq {R = λ a. Fine ns a.expr} y_expr y_one (λ a t h u. h)) (λ t a u h. h)) (λ a h. h)) tt)
      (λ u a h g t k. record { is_name = k; second = h; param = g })

  y_end : Yields spare ns gc.end (Quiet ns (Ended ns))
  y_end = y_seq {Q = λ f. (t : Token) → IsName t.text → Ended ns (f t)} y_name y_end_rest (λ t f k h. h t k)

  y_joint_of : (z : Sort) → Yields spare ns (gc.joint_of z) (Quiet ns (λ g. (x : WireEnd) (pos : Pos) → Ended ns x → Lined ns ns (g x pos)))
  y_joint_of z = y_when (gc.is_joint z) (y_seq y_one (y_seq {R = Ended ns} y_end y_one (λ e t h u. h)) (λ t y u h x pos k. joined_fine ns z x y pos k h))

  y_wire_rest : Yields spare ns gc.wire_rest (Quiet ns (λ f. (t : Token) → IsName t.text → Lines (f t) ns ns))
  y_wire_rest = y_seq y_end_rest (y_by y_joint_of) (λ f g h j t k. one_lined (g (f t) t.pos) (j (f t) t.pos (h t k)))

  y_qualifiers : Yields spare ns gr.qualifiers (Quiet ns (λ q. Unit {0}))
  y_qualifiers = y_many {P = λ q. Unit {0}} tt (λ x. y_map y_one (λ t u q h. tt))

  y_named_type : Yields spare ns gc.named_type (Quiet ns (NamedFine ns))
  y_named_type = y_seq y_qualifiers y_one (λ q o u w t k i. one_lined _ (lined_type _ _ (named_plain ns t q k i)))

  y_named_wire : Yields spare ns gc.wire_rest (Quiet ns (NamedFine ns))
  y_named_wire = y_seq y_end_rest (y_by y_joint_of) (λ f g h j t k i. one_lined (g (f t) t.pos) (j (f t) t.pos (h t k)))

  y_behind_name : (x : Sort) → Yields spare ns (gc.behind_type_name x) (Quiet ns (NamedFine ns))
  y_behind_name s.Semi = y_named_type
  y_behind_name s.Qualifier = y_named_type
  y_behind_name s.Dot = y_named_wire
  y_behind_name s.LBracket = y_named_wire
  y_behind_name s.Arrow = y_named_wire
  y_behind_name s.BackArrow = y_named_wire
  y_behind_name s.Assign = y_named_wire
  y_behind_name _ = y_none

y_components : {spare : ℕ} {ns : Names} → Yields spare ns gc.components_line (LinesFine ns)
y_components {ns = ns} = y_behind (y_before (λ l ms. Lines l ns ms) (y_loop_to (λ l ms. Lines l ns ms) (y_map_to (y_by y_component_of) (λ x q h. subst (Lines (x ∷ []) ns) (sym h.0) (one_lined x h.1)))
    (λ x ms. y_when (gr.is_comma x) (y_map_to (y_behind (y_by y_component_of)) (λ a q h l r. subst (Lines (l ++ (a ∷ [])) ns) (sym h.0) (line_pushed l a r h.1))))))

y_typedef_line : {spare : ℕ} {ns : Names} → Yields spare ns inner.typedef_decl (λ d q. Lined ns q.names (line.Decl d))
y_typedef_line {spare = spare} {ns = ns} = y_after {Q = λ f q. (o : Token) → Lined ns q.names (line.Decl (f o))} y_one (y_map_to {P = λ d q. Lined ns q.names (line.Decl d)} (y_after {Q = λ f q. (t : CastType) → FineType ns t → Lined ns q.names (line.Decl (f t))} y_type
    (y_then {P = λ v q. (q.names ≡ sorts.declared v.declarator.name true ns) × vars.Declarator ns v.declarator.stars v.declarator.name v.declarator.dims} {Q = λ v q. Quiet q.names (λ l. All (Attribute q.names) l)}
    (y_declare (y_plain_variable spare (stmt_law spare)) (λ v q h. (ap (sorts.declared v.declarator.name true) h.0, h.1))) (λ v q h. y_seq {R = λ l. All (Attribute q.names) l} (y_attributes spare (stmt_law spare)) y_one (λ l t h u. h))
    (λ v q l r h g t k. subst (λ n. Lined ns n (line.Decl (inner.type_name v l t))) (sym (g.0 ∙ h.0)) (lined_typedef v.declarator.name (inner.declared_type t v.declarator.stars v.declarator.dims) l v.pos (named v l t q h.0 h.1 g.1 k))))
    (λ t f q h k. k t h)) (λ d q h o. h)) (λ o f q u h. h o)
  where
    named : (v : Variable) (l : List Attr) (t : CastType) (q : Place) → q.names ≡ sorts.declared v.declarator.name true ns → vars.Declarator ns v.declarator.stars v.declarator.name v.declarator.dims → All (Attribute q.names) l → FineType ns t
        → vars.TypeNamed ns v.declarator.name (inner.declared_type t v.declarator.stars v.declarator.dims) l
    named v l t q e d a h = record { basic = h.basic; declarator = d; attrs = subst (λ n. All (Attribute n) l) e a }

y_type_line : {spare : ℕ} {ns : Names} → Yields spare ns (Form.seq (λ t _. gc.type_line t) gr.type_form (gr.one s.Semi)) (LinesFine ns)
y_type_line {ns = ns} = y_after y_type y_one (λ t o q k u. to_lines q u.0 (one_lined (line.Decl (decl.TypeOnly t.ty t.from)) (lined_type t.ty t.from (plain_of ns t k))))

y_line_of : {spare : ℕ} {ns : Names} (x : Sort) → Yields spare ns (gc.line_of x) (LinesFine ns)
y_line_of s.Components = y_components
y_line_of {ns = ns} s.Word = y_after {P = λ t. IsName t.text} (y_token (λ t e. (Rattle.nesc_print_laws.proofs.Yields.word_known ns t e).0)) y_wire_rest (λ t f q k h. to_lines q h.0 (h.1 t k))
y_line_of {ns = ns} s.TypeName = y_after {P = λ t. IsName t.text × (Rattle.nesc_tree.specs.Sorts.is_type ns t.text ≡ true)} (y_token (λ t e. type_known ns t e)) (y_by y_behind_name) (λ t f q k h. to_lines q h.0 (h.1 t k.0 k.1))
y_line_of s.Typedef = y_map_to y_typedef_line (λ d q h. one_lined (line.Decl d) h)
y_line_of x = y_when {g = Form.seq (λ t _. gc.type_line t) gr.type_form (gr.one s.Semi)} (begins_type x) y_type_line

pub line_law : (d : ℕ) (u v : Place) (a : List ConfLine) → SpellsIn production d Phrase.line u a v → Lines a u.names v.names
unfolding SpellsIn
line_law zero u v a h = absurd h
line_law (suc d) u v a h = (y_by y_line_of).gives u v a refl h

y_lines : {spare : ℕ} {ns : Names} → Yields spare ns gc.lines (LinesFine ns)
y_lines {spare = spare} {ns = ns} = y_behind (y_before (λ l ms. Lines l ns ms) (y_many_to (λ l ms. Lines l ns ms) Row.none (λ x ms. y_when (begins_line x)
    (y_map_to (part_by {k = Phrase.line} {P = λ l q. Lines l ms q.names} (λ n a q. Lines a n q.names) (line_law spare) (λ a q h. h)) (λ ls q h l r. lines_joined l ls r h)))))

-- ---- components

abbrev ComponentFine : Names → (Bool → Part) → Place → Type 0
ComponentFine ns f q = (g : Bool) → Parted ns gc.component_part (f g)

y_module : {spare : ℕ} {ns : Names} → Yields spare ns gc.module_of (ComponentFine ns)
y_module {ns = ns} = y_behind (y_then {P = λ f q. HeadFine ns f q.names} {Q = λ f q ds r. Decls site.Module ds q.names r.names} y_head
    (λ f q h. y_behind (y_behind (y_before (λ ds ms. Decls site.Module ds q.names ms) (y_decls site.Module)))) (λ f q ds r h k g. parted_module _ (record { inside = q.names; behind = r.names; head = h g; decls = k })))

y_configuration : {spare : ℕ} {ns : Names} → Yields spare ns gc.configuration_of (ComponentFine ns)
y_configuration {ns = ns} = y_behind (y_then {P = λ f q. HeadFine ns f q.names} {Q = λ f q ls r. Lines ls q.names r.names} y_head
    (λ f q h. y_behind y_lines) (λ f q ls r h k g. parted_config _ (record { inside = q.names; behind = r.names; head = h g; lines = k })))

y_component_by : {spare : ℕ} {ns : Names} (x : Sort) → Yields spare ns (gc.component_by x) (ComponentFine ns)
y_component_by s.Module = y_module
y_component_by s.Configuration = y_configuration
y_component_by _ = y_none

y_component_part : {spare : ℕ} {ns : Names} (x : Sort) → Yields spare ns (gc.component_part x) (PartFine ns gc.component_part)
y_component_part {ns = ns} s.Generic = y_map_to {P = ComponentFine ns} (y_behind (y_by y_component_by)) (λ f q h. h true)
y_component_part {ns = ns} x = y_map_to {g = gc.component_by x} {P = ComponentFine ns} (y_component_by x) (λ f q h. h false)

-- ---- files

-- declarations and a part, whose names end with it
pub record UnitFine (ns ms : Names) (f : Sort → Form Part) (u : unit.Unit) : Type 0 where
  pub decls : Decls site.Header u.decls ns ms
  pub part : Parted ms f u.part

y_unit : {spare : ℕ} {ns : Names} {f : Sort → Form Part} → ((ms : Names) (x : Sort) → Yields spare ms (f x) (PartFine ms f)) → Yields spare ns (Form.seq gc.unit_of (inner.decls_before site.Header) (Form.scope (Form.by f))) (λ u q. UnitFine ns q.names f u)
y_unit {ns = ns} {f = f} k = y_then {P = λ ds q. Decls site.Header ds ns q.names} {Q = λ ds q x r. (r.names ≡ q.names) × Parted q.names f x} (y_decls site.Header)
    (λ ds q h. y_scope {P = λ x r. Parted q.names f x} (y_by (k q.names)) (λ x r h. (refl, h)))
    (λ ds q x r h g. subst (λ n. UnitFine ns n f (gc.unit_of ds x)) (sym g.0) (record { decls = h; part = g.1 }))

pub interface_law : (d : ℕ) (u v : Place) (a : unit.Unit) → SpellsIn production d Phrase.interface u a v → UnitFine u.names v.names gc.interface_part a
unfolding SpellsIn
interface_law zero u v a h = absurd h
interface_law (suc d) u v a h = (y_unit (λ ms x. y_interface_part x)).gives u v a refl h

pub component_law : (d : ℕ) (u v : Place) (a : unit.Unit) → SpellsIn production d Phrase.component u a v → UnitFine u.names v.names gc.component_part a
unfolding SpellsIn
component_law zero u v a h = absurd h
component_law (suc d) u v a h = (y_unit (λ ms x. y_component_part x)).gives u v a refl h
