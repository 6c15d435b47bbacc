-- Parameters of generic components are printed, and read again as the same up to places.
use Rattle.std.proofs.Common.{◌≡◌, ℕ, true, false, List, [], ◌∷◌, ◌++◌, map, Option, Some, None, refl, sym, ap, subst}
use Rattle.std.specs.Prelude.{option_map}
use Rattle.nesc_tree.specs.declared.sorts.Sort.{Sort}
use Rattle.nesc_tree.specs.declared.sorts.Sort.TheVariants as s
use Rattle.nesc_tree.specs.declared.tree.TypeSpec.{TypeSpec}
use Rattle.nesc_tree.specs.declared.components.GenericParam.{GenericParam}
use Rattle.nesc_tree.specs.Sorts.{Names}
use Rattle.nesc_tree.specs.Sorts as sorts
use Rattle.nesc_tree.specs.Phrase.{Phrase, begins_type, begins_local}
use Rattle.nesc_tree.specs.Form.{Form, Place, Spells, SpellsIn, starts}
use Rattle.nesc_grammar.specs.Production.{production}
use Rattle.nesc_grammar.specs.Grammar as gr
use Rattle.nesc_grammar.specs.Declarations as inner
use Rattle.nesc_grammar.specs.Components as gc
use Rattle.nesc_print_words.specs.Lexemes.{word, in_parentheses, listed, behind_commas}
use Rattle.nesc_print_words.specs.Components.{some_type_words, generic_param_words}
use Rattle.nesc_print_laws.proofs.Texts.{Prints, Leads, Any, lead, lead_on, lead_any, lead_before, has_token, has_seq, has_behind, has_before, has_by, has_by_some, has_some, has_nothing, has_less}
use Rattle.nesc_print_laws.proofs.Signs
use Rattle.nesc_print_laws.proofs.Names.{IsName, has_name}
use Rattle.nesc_print_laws.proofs.Lists.{Each, Last}
use Rattle.nesc_print_laws.proofs.Exprs.{two}
use Rattle.nesc_print_laws.proofs.Types.{name_leads}
use Rattle.nesc_print_laws.proofs.Fields.{Matched}
use Rattle.nesc_print_laws.proofs.Changed.{has_declare, has_inner_list}
use Rattle.nesc_print_laws.proofs.Inits.{has_attributes}
use Rattle.nesc_print_laws.proofs.Variables.{Plain, plain_type, plain_leads}
use Rattle.nesc_print_decl_laws.proofs.Params.{any_carries}
use Rattle.nesc_print_decl_laws.proofs.Heads.{name_ends}
use Rattle.nesc_print_unit_laws.specs.UnitShapes.{type_shape, generic_param_shape}
use Rattle.nesc_print_unit_laws.proofs.Interfaces.{has_type_parameter}

abbrev pub MaybePlain : Names → Option TypeSpec → Type 0
MaybePlain ns None = Unit {0}
MaybePlain ns (Some t) = Plain ns t

-- a type parameter is a type name from there on, another one hides one
abbrev pub after_generic : Names → Option TypeSpec → List ℕ → Names
after_generic ns None n = sorts.declared n true ns
after_generic ns (Some t) n = inner.hidden n ns

pub record FineGeneric (ns : Names) (x : GenericParam) : Type 0 where
  pub is_name : IsName x.name
  pub ty : MaybePlain ns x.ty

pub data AllGeneric : List GenericParam → Names → Names → Type 0 where
  none : {ns : Names} → AllGeneric [] ns ns
  more : {x : GenericParam} {xs : List GenericParam} {ns ms : Names} → FineGeneric ns x → AllGeneric xs (after_generic ns x.ty x.name) ms → AllGeneric (x ∷ xs) ns ms

pub generic_pushed : (xs : List GenericParam) (x : GenericParam) {ns ms : Names} → AllGeneric xs ns ms → FineGeneric ms x → AllGeneric (xs ++ (x ∷ [])) ns (after_generic ms x.ty x.name)
generic_pushed [] x AllGeneric.none k = AllGeneric.more k AllGeneric.none
generic_pushed (y ∷ xs) x (AllGeneric.more d a) k = AllGeneric.more d (generic_pushed xs x a k)

abbrev pub SameGeneric : GenericParam → GenericParam → Type 0
SameGeneric x y = generic_param_shape y ≡ generic_param_shape x

-- behind a parameter
abbrev NoAt : Sort → Type 0
NoAt y = inner.is_at y ≡ false

typed_form : Form GenericParam
typed_form = Form.seq (λ t n. record { name = n.text; ty = Some t.ty }) gr.type_form (Form.declare (λ n. inner.hidden n.text) gr.name)

type_at : (y : Sort) → begins_type y ≡ true → (spare : ℕ) (u v : Place) (x : GenericParam) → Spells spare (SpellsIn production spare) typed_form u x v → Spells spare (SpellsIn production spare) (gc.generic_parameter_of y) u x v
unfolding typed_form
type_at s.Qualifier c spare u v x h = h
type_at s.Void c spare u v x h = h
type_at s.Signedness c spare u v x h = h
type_at s.CharType c spare u v x h = h
type_at s.Length c spare u v x h = h
type_at s.Int c spare u v x h = h
type_at s.TypeName c spare u v x h = h
type_at s.Struct c spare u v x h = h
type_at s.Enum c spare u v x h = h
type_at _ c spare u v x h = absurd cc

abbrev SameParts : Option TypeSpec → List ℕ → GenericParam → Type 0
SameParts ty n y = (option_map type_shape y.ty ≡ option_map type_shape ty) × (y.name ≡ n)

has_parts : {ns : Names} (ty : Option TypeSpec) (n : List ℕ) → IsName n → MaybePlain ns ty → Prints ns (after_generic ns ty n) (Form.by gc.generic_parameter_of) (some_type_words ty n) NoAt (SameParts ty n)
unfolding typed_form
has_parts None n k q = has_by s.Typedef (lead s.Typedef Signs.typedef_sorted refl) (has_seq (has_behind (has_token Signs.typedef_sorted (λ t w. w)) lead_any (has_type_parameter n k)) (lead_on (λ y h. tt)) (has_attributes [] tt) (λ t l h g. (refl, h)))
has_parts {ns = ns} (Some t) n k q = has_less (λ y h. tt) (λ a h. h) (has_by_some (λ y. begins_type y ≡ true) (plain_leads t (word n ∷ []) q (name_leads n k name_ends)) type_at
    (has_seq (plain_type t q) (name_leads n k name_ends) (has_declare (has_name ns n k) (λ u h. ap (λ m. inner.hidden m ns) h) any_carries) (λ u m h w. (ap (λ z. Some z) h, w))))

has_generic : {ns : Names} (x : GenericParam) → FineGeneric ns x → Prints ns (after_generic ns x.ty x.name) (Form.by gc.generic_parameter_of) (generic_param_words x) NoAt (SameGeneric x)
has_generic x k = has_less (λ y h. h) (λ a h. two (λ t n. record { name = n; ty = t }) h.0 h.1) (has_parts x.ty x.name k.is_name k.ty)

local_type : (y : Sort) → begins_type y ≡ true → begins_local y ≡ true
local_type s.Typedef h = refl
local_type _ h = h

parts_lead : {ns : Names} (ty : Option TypeSpec) (n : List ℕ) → IsName n → MaybePlain ns ty → Leads ns (after_generic ns ty n) (some_type_words ty n) NoAt (λ y. begins_local y ≡ true)
parts_lead None n k q = lead s.Typedef Signs.typedef_sorted refl
parts_lead {ns = ns} (Some t) n k q = (let j = plain_leads {ms = inner.hidden n ns} t (word n ∷ []) q (name_leads n k name_ends) in record { leads = λ ts us r f. local_type _ (j.leads ts us r tt) })

each_generic : (xs : List GenericParam) {ns ms : Names} → AllGeneric xs ns ms → Each (Form.by gc.generic_parameter_of) generic_param_words NoAt SameGeneric xs ns ms
each_generic [] AllGeneric.none = Each.none
each_generic (x ∷ xs) (AllGeneric.more d a) = Each.more (has_generic x d) (each_generic xs a)

abbrev ListedParams : Form (List GenericParam)
ListedParams = inner.listed (Form.by gc.generic_parameter_of)

generic_starts : (y : Sort) → begins_local y ≡ true → starts ListedParams y ≡ true
generic_starts s.Typedef h = refl
generic_starts s.Qualifier h = refl
generic_starts s.Void h = refl
generic_starts s.Signedness h = refl
generic_starts s.CharType h = refl
generic_starts s.Length h = refl
generic_starts s.Int h = refl
generic_starts s.TypeName h = refl
generic_starts s.Struct h = refl
generic_starts s.Enum h = refl
generic_starts _ h = absurd cc

commas_lead : (xs : List GenericParam) {ns ms : Names} → AllGeneric xs ns ms → Leads ns ms (behind_commas (map generic_param_words xs)) (Last NoAt) NoAt
commas_lead [] AllGeneric.none = lead_on (λ y h. h.0)
commas_lead (x ∷ xs) (AllGeneric.more d a) = lead s.Comma Signs.comma_sorted refl

begun : (x : GenericParam) (xs : List GenericParam) {ns ms : Names} → AllGeneric (x ∷ xs) ns ms → Leads ns ms (listed (map generic_param_words (x ∷ xs))) (Last NoAt) (λ y. starts ListedParams y ≡ true)
begun x xs (AllGeneric.more d a) = (let j = lead_before (parts_lead x.ty x.name d.is_name d.ty) (commas_lead xs a) in record { leads = λ ts us r f. generic_starts _ (j.leads ts us r f) })

no_params : (y : Sort) → y ≡ s.RParen → starts ListedParams y ≡ false
no_params y e = rw e refl

has_listed_generics : (xs : List GenericParam) {ns ms : Names} → AllGeneric xs ns ms → Prints ns ms (Form.maybe ListedParams []) (listed (map generic_param_words xs)) (λ y. y ≡ s.RParen) (Matched SameGeneric xs)
has_listed_generics [] AllGeneric.none = has_less no_params (λ l h. h) (has_nothing {P = Matched SameGeneric []} tt)
has_listed_generics (x ∷ xs) a = has_less (λ y e. subst (Last NoAt) (sym e) (refl, refl)) (λ l h. h) (has_some (begun x xs a) (has_inner_list (Form.by gc.generic_parameter_of) generic_param_words NoAt SameGeneric refl x xs (each_generic (x ∷ xs) a)))

pub has_generics : (xs : List GenericParam) {ns ms : Names} → AllGeneric xs ns ms → Prints ns ms (production Phrase.generics) (in_parentheses (listed (map generic_param_words xs))) Any (Matched SameGeneric xs)
has_generics xs a = has_behind (has_token Signs.opening_sorted (λ t w. w)) lead_any (has_before (has_listed_generics xs a) (lead s.RParen Signs.closing_sorted refl) (has_token Signs.closing_sorted (λ t w. w)))
