-- Types are printed, and read again as the same up to places.
use Rattle.std.proofs.Common.{◌≡◌, ℕ, zero, suc, Bool, true, false, ◌||◌, List, [], ◌∷◌, ◌++◌, map, Some, None, refl, sym, ap, subst, ◌∙◌, append_assoc, append-nil}
use Rattle.std.specs.Prelude.{codes}
use Rattle.nm_base.specs.declared.pos.Pos.{Pos}
use Rattle.nm_base.specs.declared.token.Token.{Token}
use Rattle.nm_base.specs.declared.int_type.IntType.{IntType}
use Rattle.nm_base.specs.declared.int_type.IntType.TheVariants as int
use Rattle.nesc_tree.specs.declared.sorts.Sort.{Sort}
use Rattle.nesc_tree.specs.declared.sorts.Sort.TheVariants as s
use Rattle.nesc_tree.specs.declared.tree.Expr as tree
use Rattle.nesc_tree.specs.declared.tree.Base as base
use Rattle.nesc_tree.specs.declared.operand.Operand.{Operand}
use Rattle.nesc_tree.specs.declared.operand.CastType.{CastType}
use Rattle.nesc_tree.specs.declared.operand.Qualifiers.{Qualifiers}
use Rattle.nesc_tree.specs.declared.operand.Dims.{Dims}
use Rattle.nesc_tree.specs.declared.operand.Width.{Width}
use Rattle.nesc_tree.specs.declared.operand.Width.TheVariants as w
use Rattle.nesc_tree.specs.Plain as p
use Rattle.nesc_tree.specs.View.{expr_of, spec_of, base_of, exprs}
use Rattle.nesc_tree.specs.Sorts.{Names, is_type, named, same_sort}
use Rattle.nesc_tree.specs.Phrase.{Phrase, begins, begins_type}
use Rattle.nesc_tree.specs.Choices.{stay_type}
use Rattle.nesc_tree.specs.Form.{Form, Place, next, Spells, SpellsIn, starts}
use Rattle.nesc_grammar.specs.Production.{production}
use Rattle.nesc_grammar.specs.Grammar as gr
use Rattle.nesc_grammar.specs.Grammar.{primary, may, admits_cast}
use Rattle.nesc_print_words.specs.Lexemes.{Words, word, sign, flagged, stars, in_brackets, joined}
use Rattle.nesc_print_words.specs.Expressions.{expr_words, words_at, type_words, base_words, dim_words}
use Rattle.nesc_print_laws.specs.Placeless.{nowhere, placeless, placeless_exprs, placeless_type, placeless_base}
use Rattle.nesc_print_laws.proofs.Texts.{at, Has, Prints, Leads, Any, lead, lead_on, lead_any, lead_before, leads_of, has_token, has_seq, has_map, has_behind, has_before, has_by, has_by_some, has_some, has_nothing, has_phrase, has_words, has_less}
use Rattle.nesc_print_laws.proofs.Signs
use Rattle.nesc_print_laws.proofs.Names.{text_is, IsName, word_sorted, has_name}
use Rattle.nesc_print_laws.proofs.Runs.{Bare, Is, first_run, leaf, operand}
use Rattle.nesc_print_laws.proofs.Lists.{Row, has_row}
use Rattle.nesc_print_laws.proofs.Views as view
use Rattle.nesc_print_laws.proofs.Exprs.{two}
use Rattle.nesc_print_laws.proofs.Calls.{All, SameAll, same_pushed}

-- behind a type
abbrev pub Ends : Sort → Type 0
Ends y = stay_type y ≡ false

no_int : (y : Sort) → Ends y → starts (gr.map (λ _. true) (gr.one s.Int)) y ≡ false
no_int s.Int h = absurd cc
no_int _ h = refl

no_width : (y : Sort) → Ends y → starts (Form.by gr.width_of) y ≡ false
no_width s.CharType h = absurd cc
no_width s.Length h = absurd cc
no_width s.Int h = absurd cc
no_width _ h = refl

no_fields : (y : Sort) → Ends y → starts (gr.map (λ (f : Rattle.nesc_tree.specs.declared.operand.Fields.Fields). Some f) gr.fields) y ≡ false
no_fields s.LBrace h = absurd cc
no_fields _ h = refl

no_items : (y : Sort) → Ends y → starts (gr.map (λ (l : Rattle.nesc_tree.specs.declared.operand.Items.Items). Some l) gr.braced_items) y ≡ false
no_items s.LBrace h = absurd cc
no_items _ h = refl

pub no_qualifier : (y : Sort) → Ends y → gr.is_qualifier y ≡ false
no_qualifier s.Qualifier h = absurd cc
no_qualifier _ h = refl

-- the same base, with nothing around it
pub record IsBase (b : p.Base) (c : CastType) : Type 0 where
  pub same : placeless_base (base_of c.ty.base) ≡ placeless_base b
  pub stars : c.ty.stars ≡ 0
  pub dims : c.ty.dims ≡ []
  pub is_const : c.ty.is_const ≡ false

-- its words are read as it before what goes on no type
pub record Basic (ns : Names) (b : p.Base) : Type 0 where
  pub prints : Prints ns ns (Form.by gr.base_of) (base_words b) Ends (IsBase b)

pub plain_is : (b : p.Base) (x : base.Base) (n : ℕ) (from : Pos) → placeless_base (base_of x) ≡ placeless_base b → IsBase b (gr.plain x n from)
plain_is b x n from h = record { same = h; stars = refl; dims = refl; is_const = refl }

pub basic_void : {ns : Names} → Basic ns p.void
basic_void = record { prints = has_by s.Void (lead s.Void Signs.void_sorted refl) (has_less (λ y h. tt) (λ a h. h) (has_map (has_token Signs.void_sorted (λ t w. w)) (λ t w. plain_is p.void base.Void 0 t.pos (ap placeless_base view.void_base)))) }

is_unsigned_back : (t : Token) → t.text ≡ codes "unsigned" → gr.is_unsigned t ≡ true
unfolding gr.is_unsigned
is_unsigned_back t h = rw h refl

long_back : (t : Token) → t.text ≡ codes "long" → gr.length_of t ≡ w.Long
unfolding gr.length_of
long_back t h = rw h refl

int_is : (t x : IntType) (n : ℕ) (from : Pos) → x ≡ t → IsBase (p.int t) (gr.plain (base.Int x) n from)
int_is t x n from h = plain_is (p.int t) (base.Int x) n from (ap placeless_base (view.int_base x) ∙ ap (λ y. p.int y) h)

optional_int : {ns : Names} → Prints ns ns (gr.optional s.Int) [] Ends (λ b. Unit {0})
optional_int = has_less no_int (λ a h. h) (has_nothing tt)

-- behind `unsigned`
signed_form : {ns : Names} (t : IntType) (n : Width) {ws : Words} → gr.integer true n ≡ t → Leads ns ns ws Ends (λ y. starts (Form.by gr.width_of) y ≡ true) → Prints ns ns (Form.by gr.width_of) ws Ends (λ m. m ≡ n)
    → Prints ns ns (Form.by gr.base_of) (word (codes "unsigned") ∷ ws) Ends (IsBase (p.int t))
signed_form t n e j u = has_by s.Signedness (lead s.Signedness Signs.unsigned_sorted refl) (has_seq (has_token Signs.unsigned_sorted (λ t w. is_unsigned_back t (text_is t w))) lead_any (has_some j u)
    (λ o m h g. int_is t (gr.integer (gr.is_unsigned o) m) 0 o.pos (two gr.integer h g ∙ e)))

pub basic_int : {ns : Names} (t : IntType) → Basic ns (p.int t)
basic_int int.I8 = record { prints = has_by s.CharType (lead s.CharType Signs.char_sorted refl) (has_less (λ y h. tt) (λ a h. h) (has_map (has_token Signs.char_sorted (λ t w. w)) (λ t w. int_is int.I8 int.I8 0 t.pos refl))) }
basic_int int.I16 = record { prints = has_by s.Int (lead s.Int Signs.int_sorted refl) (has_less (λ y h. tt) (λ a h. h) (has_map (has_token Signs.int_sorted (λ t w. w)) (λ t w. int_is int.I16 int.I16 0 t.pos refl))) }
basic_int int.I32 = record {
  prints = has_by s.Length (lead s.Length Signs.long_sorted refl) (has_seq (has_token Signs.long_sorted (λ t w. long_back t (text_is t w))) lead_any optional_int
      (λ o m h g. int_is int.I32 (gr.integer false (gr.length_of o)) 0 o.pos (ap (gr.integer false) h)));
}
basic_int int.U8 = record { prints = signed_form int.U8 w.Char refl (lead s.CharType Signs.char_sorted refl) (has_by s.CharType (lead s.CharType Signs.char_sorted refl) (has_less (λ y h. tt) (λ a h. h) (has_map (has_token Signs.char_sorted (λ t w. w)) (λ t w. refl)))) }
basic_int int.U16 = record { prints = signed_form int.U16 w.Short refl (lead s.Int Signs.int_sorted refl) (has_by s.Int (lead s.Int Signs.int_sorted refl) (has_less (λ y h. tt) (λ a h. h) (has_map (has_token Signs.int_sorted (λ t w. w)) (λ t w. refl)))) }
basic_int int.U32 = record { prints = signed_form int.U32 w.Long refl (lead s.Length Signs.long_sorted refl) (has_by s.Length (lead s.Length Signs.long_sorted refl) (has_seq (has_token Signs.long_sorted (λ t w. long_back t (text_is t w))) lead_any optional_int (λ o m h g. h))) }

pub basic_named : {ns : Names} (n : List ℕ) → IsName n → is_type ns n ≡ true → Basic ns (p.named n)
basic_named {ns = ns} n k i = record {
  prints = has_by s.TypeName (lead s.TypeName (word_sorted ns n true k i) refl) (has_less (λ y h. tt) (λ a h. h) (has_map (has_token (word_sorted ns n true k i) (λ t w. text_is t w))
      (λ t w. plain_is (p.named n) (base.Named t.text) 0 t.pos (ap placeless_base (view.named_base t.text) ∙ ap (λ m. p.named m) w))));
}

-- what is ahead of a name
pub name_leads : {ns ms : Names} {F G : Sort → Type 0} {ws : Words} (n : List ℕ) → IsName n → ((b : Bool) → G (named s.Word b)) → Leads ns ms (word n ∷ ws) F G
name_leads {ns = ns} n k g = lead (named s.Word (is_type ns n)) (word_sorted ns n (is_type ns n) k refl) (g (is_type ns n))

pub no_brace : (b : Bool) → same_sort (named s.Word b) s.LBrace ≡ false
no_brace true = refl
no_brace false = refl

pub struct_at : (y : Sort) → same_sort y s.LBrace ≡ false → (spare : ℕ) (u v : Place) (f : Token → CastType) → Spells spare (SpellsIn production spare) gr.tagged_struct u f v → Spells spare (SpellsIn production spare) (gr.struct_of y) u f v
struct_at s.LBrace h spare u v f t = absurd cc
struct_at _ h spare u v f t = t

pub enum_at : (y : Sort) → same_sort y s.LBrace ≡ false → (spare : ℕ) (u v : Place) (f : Token → CastType) → Spells spare (SpellsIn production spare) gr.tagged_enum u f v → Spells spare (SpellsIn production spare) (gr.enum_of y) u f v
enum_at s.LBrace h spare u v f t = absurd cc
enum_at _ h spare u v f t = t

pub basic_struct : {ns : Names} (n : List ℕ) → IsName n → Basic ns (p.struct (Some n))
basic_struct {ns = ns} n k = record {
  prints = has_by s.Struct (lead s.Struct Signs.struct_sorted refl) (has_seq {Q = λ f. (o : Token) → IsBase (p.struct (Some n)) (f o)} (has_token Signs.struct_sorted (λ t w. w)) lead_any
      (has_by_some (λ y. same_sort y s.LBrace ≡ false) (name_leads n k no_brace) struct_at (has_seq (has_name ns n k) lead_any (has_less no_fields (λ a h. h) (has_nothing {P = λ f. f ≡ None} refl))
      (λ t f h g o. subst (λ f. IsBase (p.struct (Some n)) (gr.struct_type (Some t.text) f o)) (sym g) (plain_is (p.struct (Some n)) (base.Struct (Some t.text) None) 0 o.pos (ap placeless_base (view.struct_base (Some t.text)) ∙ ap (λ m. p.struct (Some m)) h)))))
      (λ o f w h. h o));
}

pub basic_enum : {ns : Names} (n : List ℕ) → IsName n → Basic ns (p.enum (Some n))
basic_enum {ns = ns} n k = record {
  prints = has_by s.Enum (lead s.Enum Signs.enum_sorted refl) (has_seq {Q = λ f. (o : Token) → IsBase (p.enum (Some n)) (f o)} (has_token Signs.enum_sorted (λ t w. w)) lead_any
      (has_by_some (λ y. same_sort y s.LBrace ≡ false) (name_leads n k no_brace) enum_at (has_seq (has_name ns n k) lead_any (has_less no_items (λ a h. h) (has_nothing {P = λ f. f ≡ None} refl))
      (λ t f h g o. subst (λ f. IsBase (p.enum (Some n)) (gr.enum_type (Some t.text) f o)) (sym g) (plain_is (p.enum (Some n)) (base.Enum (Some t.text) None) 0 o.pos (ap placeless_base (view.enum_base (Some t.text)) ∙ ap (λ m. p.enum (Some m)) h)))))
      (λ o f w h. h o));
}

-- ---- qualifiers, stars, dimensions

abbrev not_empty : List (Unit {0}) → Bool
not_empty [] = false
not_empty (x ∷ xs) = true

pushed_not_empty : (xs : List (Unit {0})) (x : Unit {0}) → not_empty (xs ++ (x ∷ [])) ≡ true
pushed_not_empty [] x = refl
pushed_not_empty (y ∷ xs) x = refl

const_back : (t : Token) → t.text ≡ codes "const" → gr.is_const t ≡ true
unfolding gr.is_const
const_back t h = rw h refl

or_true : (a b : Bool) → b ≡ true → (a || b) ≡ true
or_true true b h = refl
or_true false b h = h

flag : Bool → List (Unit {0})
flag true = tt ∷ []
flag false = []

has_qualifiers : {ns : Names} (c : Bool) → Prints ns ns gr.qualifiers (flagged c (codes "const")) (λ y. gr.is_qualifier y ≡ false) (λ q. q.has_const ≡ c)
has_qualifiers {ns = ns} c = by c
  where
    R : List (Unit {0}) → Qualifiers → Type 0
    R xs q = q.has_const ≡ not_empty xs

    P : Unit {0} → (Qualifiers → Qualifiers) → Type 0
    P x f = (q : Qualifiers) → (f q).has_const ≡ true

    one : Prints ns ns (Form.by (λ _. gr.another_qualifier)) (word (codes "const") ∷ []) Any (P tt)
    one = has_by s.Qualifier (lead s.Qualifier Signs.const_sorted refl) (has_map (has_token Signs.const_sorted (λ t w. const_back t (text_is t w))) (λ t h q. or_true q.has_const (gr.is_const t) h))

    all : (xs : List (Unit {0})) → Row (λ _. gr.another_qualifier) (λ _. word (codes "const") ∷ []) Any P gr.is_qualifier xs ns ns → Prints ns ns gr.qualifiers (joined (map (λ _. word (codes "const") ∷ []) xs)) (λ y. Any y × (gr.is_qualifier y ≡ false)) (R xs)
    all xs r = has_row (λ _. gr.another_qualifier) (λ _. word (codes "const") ∷ []) Any P gr.is_qualifier R (λ y h. tt) (λ xs x f q g h. h q ∙ sym (pushed_not_empty xs x)) xs gr.no_qualifiers refl r

    by : (c : Bool) → Prints ns ns gr.qualifiers (flagged c (codes "const")) (λ y. gr.is_qualifier y ≡ false) (λ q. q.has_const ≡ c)
    by true = has_less (λ y h. (tt, h)) (λ q h. h) (all (tt ∷ []) (Row.more one (lead s.Qualifier Signs.const_sorted refl) Row.none))
    by false = has_less (λ y h. (tt, h)) (λ q h. h) (all [] Row.none)

base_begins : (x : Sort) (spare : ℕ) (u v : Place) (c : CastType) → Spells spare (SpellsIn production spare) (gr.base_of x) u c v → (gr.is_qualifier x ≡ false) × (begins_type x ≡ true)
unfolding Spells
base_begins s.Void spare u v c h = (refl, refl)
base_begins s.Signedness spare u v c h = (refl, refl)
base_begins s.CharType spare u v c h = (refl, refl)
base_begins s.Length spare u v c h = (refl, refl)
base_begins s.Int spare u v c h = (refl, refl)
base_begins s.TypeName spare u v c h = (refl, refl)
base_begins s.Struct spare u v c h = (refl, refl)
base_begins s.Enum spare u v c h = (refl, refl)
base_begins _ spare u v c h = absurd h

by_begins : (spare : ℕ) (u v : Place) (c : CastType) → Spells spare (SpellsIn production spare) (Form.by gr.base_of) u c v → (gr.is_qualifier (next u) ≡ false) × (begins_type (next u) ≡ true)
unfolding Spells
by_begins spare u v c h = base_begins (next u) spare u v c h

-- the base, and whether it is constant
pub record IsType (c : Bool) (b : p.Base) (t : CastType) : Type 0 where
  pub same : placeless_base (base_of t.ty.base) ≡ placeless_base b
  pub stars : t.ty.stars ≡ 0
  pub dims : t.ty.dims ≡ []
  pub is_const : t.ty.is_const ≡ c

or_false : (a b c : Bool) → a ≡ c → b ≡ false → (a || b) ≡ c
or_false true b c h g = h
or_false false b c h g = g ∙ h

module _ {ns : Names} {b : p.Base} (k : Basic ns b) where
  pub base_leads : {ms : Names} {vs : Words} {F : Sort → Type 0} → Leads ns ms vs F Ends → Leads ns ms (base_words b ++ vs) F (λ y. (gr.is_qualifier y ≡ false) × (begins_type y ≡ true))
  base_leads j = lead_before (leads_of k.prints by_begins) j

  pub has_type : (c : Bool) → Prints ns ns gr.type_form (flagged c (codes "const") ++ base_words b) Ends (IsType c b)
  has_type c = has_seq {Q = λ f. (q : Qualifiers) → q.has_const ≡ c → IsType c b (f q)} (has_qualifiers c) before (has_words (append-nil (base_words b)) (has_seq k.prints (lead_on (λ y h. h)) (has_less no_qualifier (λ q h. h) (has_qualifiers false))
      (λ t q h g. λ p e. record { same = h.same; stars = h.stars; dims = h.dims; is_const = or_false p.has_const q.has_const c e g }))) (λ q f e h. h q e)
    where
      before : Leads ns ns (base_words b) Ends (λ y. gr.is_qualifier y ≡ false)
      before = record { leads = λ ts us r f. ((leads_of {C = λ y. (gr.is_qualifier y ≡ false) × (begins_type y ≡ true)} k.prints by_begins).leads ts us r f).0 }

  -- a type begins there
  pub type_leads : (c : Bool) {ms : Names} {vs : Words} {F : Sort → Type 0} → Leads ns ms vs F Ends → Leads ns ms ((flagged c (codes "const") ++ base_words b) ++ vs) F (λ y. begins_type y ≡ true)
  type_leads true j = lead s.Qualifier Signs.const_sorted refl
  type_leads false j = record { leads = λ ts us r f. ((base_leads j).leads ts us r f).1 }

no_star : (y : Sort) → begins Phrase.pointers y ≡ false → starts (Form.sub Phrase.pointers (λ n. n)) y ≡ false
no_star y h = h

pub has_stars : {ns : Names} (n : ℕ) → Prints ns ns gr.stars (stars n) (λ y. begins Phrase.pointers y ≡ false) (λ m. m ≡ n)
has_stars zero = has_less no_star (λ m h. h) (has_nothing refl)
has_stars (suc n) = has_some (lead s.Star Signs.star_sorted refl) (has_phrase {k = Phrase.pointers} (has_seq (has_token Signs.star_sorted (λ t w. w)) lead_any (has_stars n) (λ t m w h. ap suc h)) (λ m h. h))

pub stars_end : {ns ms : Names} {F : Sort → Type 0} {vs : Words} (n : ℕ) → Leads ns ms vs F Ends → Leads ns ms (stars n ++ vs) F Ends
stars_end zero j = j
stars_end (suc n) j = lead s.Star Signs.star_sorted refl

-- ---- dimensions

each_dim : {ns : Names} (es : List p.Expr) → All (Bare ns) es → Row (λ _. gr.another_dim) (λ e. in_brackets (words_at 2 e)) Any (λ e f. (d : Dims) → (a : tree.Expr) × (placeless (expr_of a) ≡ placeless e) × ((f d).exprs ≡ d.exprs ++ (a ∷ []))) gr.is_bracket es ns ns
each_dim [] b = Row.none
each_dim (e ∷ es) b = Row.more (has_by s.LBracket (lead s.LBracket Signs.left_bracket_sorted refl) (has_map (has_behind (has_token Signs.left_bracket_sorted (λ t w. w)) lead_any (has_before (operand b.0 2 (λ a h. h)) (lead s.RBracket Signs.right_bracket_sorted refl) (has_token Signs.right_bracket_sorted (λ t w. w))))
    (λ a h d. (a.expr, h, refl)))) (lead s.LBracket Signs.left_bracket_sorted refl) (each_dim es b.1)

pub dim_row : (es : List p.Expr) → joined (map (λ e. in_brackets (words_at 2 e)) es) ≡ dim_words (exprs es)
dim_row [] = refl
dim_row (e ∷ es) = ap (λ ws. in_brackets (words_at 2 e) ++ ws) (dim_row es)

pub has_dims : {ns : Names} (es : List p.Expr) → All (Bare ns) es → Prints ns ns gr.dims (dim_words (exprs es)) (λ y. gr.is_bracket y ≡ false) (λ d. SameAll es d.exprs)
has_dims es b = has_words (dim_row es) (has_less (λ y h. (tt, h)) (λ d h. h) (has_row (λ _. gr.another_dim) (λ e. in_brackets (words_at 2 e)) Any (λ e f. (d : Dims) → (a : tree.Expr) × (placeless (expr_of a) ≡ placeless e) × ((f d).exprs ≡ d.exprs ++ (a ∷ []))) gr.is_bracket (λ xs d. SameAll xs d.exprs) (λ y h. tt)
    (λ xs x f d g h. (let z = h d in subst (λ l. SameAll (xs ++ (x ∷ [])) l) (sym z.2) (same_pushed xs x d.exprs z.0 g z.1))) es gr.no_dims refl (each_dim es b)))

-- ---- casts, and sizes of types

pub is_paren_end : (y : Sort) → y ≡ s.RParen → Ends y
is_paren_end y e = rw e refl

-- the same type and stars
abbrev pub SameType : p.TypeSpec → CastType → Type 0
SameType t c = placeless_type (spec_of c.ty) ≡ placeless_type t

type_same : (b : p.Base) (c : Bool) (n : ℕ) (t : CastType) (m : ℕ) → IsType c b t → m ≡ n → SameType (p.type_spec b n p.no_exprs c) (gr.pointer t m)
type_same b c n t m h e = ap placeless_type (view.spec_view (gr.pointer t m).ty) ∙ four h.same e (ap (λ l. placeless_exprs (exprs (map expr_of l))) h.dims) h.is_const
  where
    four : {x : p.Base} {k : ℕ} {ds : p.Exprs} {d : Bool} → x ≡ placeless_base b → k ≡ n → ds ≡ p.no_exprs → d ≡ c → p.type_spec x k ds d ≡ p.type_spec (placeless_base b) n p.no_exprs c
    four f g h i = rw (f, g, h, i) refl

abbrev pub Closing : Sort → Type 0
Closing y = y ≡ s.RParen

module _ {ns : Names} {b : p.Base} (k : Basic ns b) (n : ℕ) (c : Bool) where
  abbrev Spec : p.TypeSpec
  Spec = p.type_spec b n p.no_exprs c

  spec_words : (flagged c (codes "const") ++ base_words b) ++ stars n ≡ type_words Spec
  spec_words = append_assoc (flagged c (codes "const")) (base_words b) (stars n) ∙ ap (λ ws. flagged c (codes "const") ++ (base_words b ++ ws)) (sym (append-nil (stars n)))

  star_leads : Leads ns ns (stars n) Closing Ends
  star_leads = subst (λ ws. Leads ns ns ws Closing Ends) (append-nil (stars n)) (stars_end n (lead_on is_paren_end))

  pub has_cast_type : Prints ns ns gr.cast_type (type_words Spec) Closing (SameType Spec)
  has_cast_type = has_words spec_words (has_seq (has_type k c) star_leads (has_less (λ y e. rw e refl) (λ m h. h) (has_stars n)) (λ t m h e. type_same b c n t m h e))

  pub cast_type_leads : {ms : Names} {vs : Words} {F : Sort → Type 0} → Leads ns ms vs F Closing → Leads ns ms (type_words Spec ++ vs) F (λ y. begins_type y ≡ true)
  cast_type_leads {ms = ms} {vs = vs} {F = F} j = subst (λ ws. Leads ns ms ws F (λ y. begins_type y ≡ true)) (sym (append_assoc (flagged c (codes "const") ++ base_words b) (stars n) vs) ∙ ap (λ ws. ws ++ vs) spec_words)
      (type_leads k c (stars_end n (record { leads = λ ts us r f. is_paren_end _ (j.leads ts us r f) })))

  typed_cast : (y : Sort) → begins_type y ≡ true → (spare : ℕ) (u v : Place) (f : Token → Operand) → Spells spare (SpellsIn production spare) gr.cast u f v → Spells spare (SpellsIn production spare) (gr.bracketed true y) u f v
  typed_cast y h spare u v f t = rw h t

  typed_size : (y : Sort) → begins_type y ≡ true → (spare : ℕ) (u v : Place) (f : Token → Token → Operand) → Spells spare (SpellsIn production spare) gr.size_type u f v → Spells spare (SpellsIn production spare) (gr.size_bracketed y) u f v
  typed_size y h spare u v f t = rw h t

  pub bare_cast : (at' : Pos) {e : p.Expr} → Bare ns e → Bare ns (p.cast Spec e at')
  bare_cast at' {e = e} x = record { runs = λ least l ts us r c. first_run {least = least} (subst (λ (m : Bool). Has (Form.by (primary m)) (at ns ts) (at ns us) (Is Cast)) (sym l) (form.run ts us r c)) }
    where
      Cast : p.Expr
      Cast = p.cast Spec e at'

      words : type_words Spec ++ (sign (codes ")") ∷ words_at 13 e) ≡ (type_words Spec ++ (sign (codes ")") ∷ [])) ++ words_at 13 e
      words = sym (append_assoc (type_words Spec) (sign (codes ")") ∷ []) (words_at 13 e))

      inner : Prints ns ns (Form.by (gr.bracketed true)) (type_words Spec ++ (sign (codes ")") ∷ words_at 13 e)) (λ y. may 13 y ≡ false) (λ f. (o : Token) → Is Cast (f o))
      inner = has_by_some (λ y. begins_type y ≡ true) (cast_type_leads (lead s.RParen Signs.closing_sorted refl)) typed_cast (has_seq has_cast_type (lead s.RParen Signs.closing_sorted refl) (has_behind (has_token Signs.closing_sorted (λ t w. w)) lead_any (operand x 13 (λ a h. h)))
          (λ t a h g o. record { same = ap placeless (view.cast_view o.pos t.ty a.expr) ∙ two (λ u v. p.cast u v nowhere) h g; level = refl }))

      form : Prints ns ns (Form.by (primary true)) (expr_words Cast) (λ y. may 13 y ≡ false) (Is Cast)
      form = has_by s.LParen (lead s.LParen Signs.opening_sorted refl) (has_seq (has_token Signs.opening_sorted (λ t w. w)) lead_any (has_words words inner) (λ t f w h. h t))

  pub bare_size_of_type : (at' : Pos) → Bare ns (p.size_of_type Spec at')
  bare_size_of_type at' = leaf {F = Any} (λ y h. tt) (λ m. has_by s.SizeOf (lead s.SizeOf Signs.sizeof_sorted refl) (has_seq {Q = λ f. (o : Token) → Is (p.size_of_type Spec at') (f o)} (has_token Signs.sizeof_sorted (λ t w. w)) lead_any
      (has_by s.LParen (lead s.LParen Signs.opening_sorted refl) (has_seq {Q = λ f. (z o : Token) → Is (p.size_of_type Spec at') (f z o)} (has_token Signs.opening_sorted (λ t w. w)) lead_any
      (has_by_some (λ y. begins_type y ≡ true) (cast_type_leads (lead s.RParen Signs.closing_sorted refl)) typed_size (has_seq has_cast_type (lead s.RParen Signs.closing_sorted refl) (has_token Signs.closing_sorted (λ t w. w))
      (λ t z h w _ o. record { same = ap placeless (view.size_of_type_view o.pos t.ty) ∙ ap (λ u. p.size_of_type u nowhere) h; level = refl })))
      (λ t f w h. h t))) (λ o f w h. h o)))
