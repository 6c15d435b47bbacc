-- Parameters of functions are printed, and read again as the same up to places.
use Rattle.std.proofs.Common.{◌≡◌, ℕ, zero, suc, Bool, true, false, cond, List, [], ◌∷◌, ◌++◌, map, Option, Some, None, refl, sym, ap, subst, ◌∙◌, append_assoc, append-nil}
use Rattle.std.specs.Prelude.{codes, option_map}
use Rattle.nesc_tree.specs.declared.sorts.Sort.{Sort}
use Rattle.nesc_tree.specs.declared.sorts.Sort.TheVariants as s
use Rattle.nesc_tree.specs.declared.tree.Expr as tree
use Rattle.nesc_tree.specs.declared.tree.Param.{Param}
use Rattle.nesc_tree.specs.declared.tree.TypeSpec.{TypeSpec}
use Rattle.nesc_tree.specs.declared.operand.CastType.{CastType}
use Rattle.nesc_tree.specs.Plain as p
use Rattle.nesc_tree.specs.View.{expr_of, spec_of, base_of, exprs}
use Rattle.nesc_tree.specs.Sorts.{Names, is_type, named}
use Rattle.nesc_tree.specs.Phrase.{Phrase, begins, begins_type}
use Rattle.nesc_tree.specs.Form.{Form, starts}
use Rattle.nesc_grammar.specs.Grammar as gr
use Rattle.nesc_grammar.specs.Declarations as inner
use Rattle.nesc_print_words.specs.Lexemes.{Words, word, sign, flagged, stars, in_brackets, listed, behind_commas}
use Rattle.nesc_print_words.specs.Expressions.{words_at, type_words, base_words, before_name, behind_name, dim_words}
use Rattle.nesc_print_words.specs.Declarations.{name_words, param_words, params_words, bracket_words}
use Rattle.nesc_print_laws.specs.Placeless.{placeless, placeless_exprs, placeless_type, placeless_base}
use Rattle.nesc_print_laws.specs.Shapes as shape
use Rattle.nesc_print_laws.specs.Shapes.{param_shape}
use Rattle.nesc_print_laws.proofs.Texts.{Prints, Leads, Any, Sorted, lead, lead_on, lead_any, lead_before, has_token, has_seq, has_map, has_behind, has_before, has_by, has_some, has_nothing, has_words, has_less}
use Rattle.nesc_print_laws.proofs.Signs
use Rattle.nesc_print_laws.proofs.Names.{text_is, IsName, word_sorted, has_name}
use Rattle.nesc_print_laws.proofs.Runs.{Bare, operand}
use Rattle.nesc_print_laws.proofs.Lists.{Each, Last}
use Rattle.nesc_print_laws.proofs.Views as view
use Rattle.nesc_print_laws.proofs.Exprs.{two}
use Rattle.nesc_print_laws.proofs.Calls.{SameAll, exprs_same}
use Rattle.nesc_print_laws.proofs.Types.{Ends, Basic, IsType, has_type, has_stars, type_leads, name_leads, stars_end}
use Rattle.nesc_print_laws.proofs.Fields.{Matched}
use Rattle.nesc_print_laws.proofs.Changed.{Carries, carries_test, has_declare, has_inner_list}
use Rattle.nesc_print_laws.proofs.Variables.{Plain, plain_spec, plain_type, spread, before_is, behind_is}

-- ---- names

abbrev pub MaybeName : Option (List ℕ) → Type 0
MaybeName None = Unit {0}
MaybeName (Some n) = IsName n

-- the names in force behind what has this name, or none
abbrev pub after_name : Names → Option (List ℕ) → Names
after_name ns None = ns
after_name ns (Some n) = inner.hidden n ns

pub any_carries : {ms ls : Names} {F : Sort → Type 0} → Carries ms ls F Any
any_carries = record { carries = λ us c. tt }

-- ---- types of what is declared

pub declared_same : (t : TypeSpec) (u : CastType) (n : ℕ) (l : List tree.Expr) → IsType t.is_const (base_of t.base) u → n ≡ t.stars → SameAll (map expr_of t.dims) l
    → placeless_type (spec_of (inner.declared_type u n l)) ≡ placeless_type (spec_of t)
declared_same t u n l h e g = ap placeless_type (view.spec_view (inner.declared_type u n l)) ∙ (four h.same e (exprs_same (map expr_of t.dims) l g) h.is_const ∙ sym (ap placeless_type (view.spec_view t)))
  where
    four : {x y : p.Base} {n m : ℕ} {d e : p.Exprs} {a b : Bool} → x ≡ y → n ≡ m → d ≡ e → a ≡ b → p.type_spec x n d a ≡ p.type_spec y m e b
    four f g h i = rw (f, g, h, i) refl

-- ---- a dimension at most

abbrev pub MaybeDim : Names → List tree.Expr → Type 0
MaybeDim ns [] = Unit {0}
MaybeDim ns (e ∷ []) = Bare ns (expr_of e)
MaybeDim ns (e ∷ f ∷ l) = ⊥

has_dimension : {ns : Names} (e : tree.Expr) → Bare ns (expr_of e) → Prints ns ns inner.dimension (in_brackets (words_at 2 (expr_of e))) Any (λ a. placeless (expr_of a) ≡ placeless (expr_of e))
has_dimension e b = has_map (has_behind (has_token Signs.left_bracket_sorted (λ t w. w)) lead_any (has_before (operand b 2 (λ a h. h)) (lead s.RBracket Signs.right_bracket_sorted refl) (has_token Signs.right_bracket_sorted (λ t w. w)))) (λ a h. h)

-- behind a parameter
pub param_end : Sort → Bool
param_end s.Comma = true
param_end s.RParen = true
param_end _ = false

abbrev pub ParamEnd : Sort → Type 0
ParamEnd y = param_end y ≡ true

no_dimension : (y : Sort) → ParamEnd y → starts (gr.map (λ (x : tree.Expr). Some x) inner.dimension) y ≡ false
unfolding param_end
no_dimension s.Comma h = refl
no_dimension s.RParen h = refl
no_dimension _ h = absurd cc

no_parameter : (y : Sort) → ParamEnd y → starts (Form.by inner.parameter_of) y ≡ false
unfolding param_end
no_parameter s.Comma h = refl
no_parameter s.RParen h = refl
no_parameter _ h = absurd cc

pub end_of_type : (y : Sort) → ParamEnd y → Ends y
unfolding param_end
end_of_type s.Comma h = refl
end_of_type s.RParen h = refl
end_of_type _ h = absurd cc

pub end_of_expr : (y : Sort) → ParamEnd y → gr.may 2 y ≡ false
unfolding param_end
end_of_expr s.Comma h = refl
end_of_expr s.RParen h = refl
end_of_expr _ h = absurd cc

end_no_star : (y : Sort) → ParamEnd y → begins Phrase.pointers y ≡ false
unfolding param_end
end_no_star s.Comma h = refl
end_no_star s.RParen h = refl
end_no_star _ h = absurd cc

pub comma_ends : ParamEnd s.Comma
unfolding param_end
comma_ends = refl

pub paren_ends : ParamEnd s.RParen
unfolding param_end
paren_ends = refl

end_names : param_end s.Word ≡ param_end s.TypeName
unfolding param_end
end_names = refl

abbrev SameDim : List tree.Expr → Option tree.Expr → Type 0
SameDim l o = SameAll (map expr_of l) (inner.listed_dimension o)

dims_words : List tree.Expr → Words
dims_words l = dim_words (exprs (map expr_of l))

has_some_dim : {ns : Names} (l : List tree.Expr) → MaybeDim ns l → Prints ns ns (inner.some inner.dimension) (dims_words l) ParamEnd (SameDim l)
unfolding dims_words
has_some_dim [] k = has_less no_dimension (λ a h. h) (has_nothing refl)
has_some_dim (e ∷ []) k = has_less (λ y h. tt) (λ a h. h) (has_words (sym (append-nil (in_brackets (words_at 2 (expr_of e))))) (has_some (lead s.LBracket Signs.left_bracket_sorted refl) (has_map (has_dimension e k) (λ a h. ap (λ x. x ∷ []) h))))
has_some_dim (e ∷ f ∷ l) k = absurd k

-- ---- parameters

-- behind the type and its stars
abbrev SameEnd : Param → inner.Parameter → Type 0
SameEnd x y = (inner.text_of y.0 ≡ x.name) × SameAll (map expr_of x.ty.dims) y.1

pub record Parameter (ns : Names) (x : Param) : Type 0 where
  pub basic : Basic ns (base_of x.ty.base)
  pub dim : MaybeDim ns x.ty.dims
  pub name : MaybeName x.name

abbrev pub SameParam : Param → Param → Type 0
SameParam x y = param_shape y ≡ param_shape x

named_at : {ns : Names} (y : Sort) (n : List ℕ) (l : List tree.Expr) → Sorted ns (word n) y → MaybeDim ns l
    → Prints ns (inner.hidden n ns) (inner.named_parameter (gr.one y)) (word n ∷ dims_words l) ParamEnd (λ a. (inner.text_of a.0 ≡ Some n) × SameAll (map expr_of l) a.1)
named_at {ns = ns} y n l k d = has_declare (has_seq {Q = SameDim l} {R = λ a. (inner.text_of a.0 ≡ Some n) × SameAll (map expr_of l) a.1} (has_token k (λ t w. text_is t w)) lead_any (has_some_dim l d) (λ t o h g. (ap (λ m. Some m) h, g))) (λ a h. hides a h.0) (carries_test param_end true end_names)
  where
    hides : (a : inner.Parameter) → inner.text_of a.0 ≡ Some n → inner.is_named a ns ≡ inner.hidden n ns
    hides (None, l) h = absurd cc
    hides (Some t, l) h = ap (λ (o : Option (List ℕ)). after_name ns o) h

has_end : {ns : Names} (name : Option (List ℕ)) (l : List tree.Expr) → MaybeName name → MaybeDim ns l
    → Prints ns (after_name ns name) (Form.maybe (Form.by inner.parameter_of) (None, [])) (name_words name ++ dims_words l) ParamEnd (λ a. (inner.text_of a.0 ≡ name) × SameAll (map expr_of l) a.1)
unfolding dims_words
has_end None [] k d = has_less no_parameter (λ a h. h) (has_nothing (refl, refl))
has_end None (e ∷ []) k d = has_less (λ y h. tt) (λ a h. h) (has_words (sym (append-nil (in_brackets (words_at 2 (expr_of e))))) (has_some (lead s.LBracket Signs.left_bracket_sorted refl) (has_by s.LBracket (lead s.LBracket Signs.left_bracket_sorted refl) (has_map (has_dimension e d) (λ a h. (refl, ap (λ x. x ∷ []) h))))))
has_end None (e ∷ f ∷ l) k d = absurd d
has_end {ns = ns} (Some n) l k d = by (is_type ns n) refl
  where
    by : (b : Bool) → is_type ns n ≡ b → Prints ns (inner.hidden n ns) (Form.maybe (Form.by inner.parameter_of) (None, [])) (word n ∷ dims_words l) ParamEnd (λ a. (inner.text_of a.0 ≡ Some n) × SameAll (map expr_of l) a.1)
    by true i = has_some (lead s.TypeName (word_sorted ns n true k i) refl) (has_by s.TypeName (lead s.TypeName (word_sorted ns n true k i) refl) (named_at s.TypeName n l (word_sorted ns n true k i) d))
    by false i = has_some (lead s.Word (word_sorted ns n false k i) refl) (has_by s.Word (lead s.Word (word_sorted ns n false k i) refl) (named_at s.Word n l (word_sorted ns n false k i) d))

-- what is ahead of a parameter's name or dimension, or behind it
end_leads : {ns : Names} {G : Sort → Type 0} (name : Option (List ℕ)) (l : List tree.Expr) → MaybeName name → G s.LBracket → ((b : Bool) → G (named s.Word b)) → ((y : Sort) → ParamEnd y → G y)
    → Leads ns (after_name ns name) (name_words name ++ dims_words l) ParamEnd G
unfolding dims_words
end_leads None [] k g h i = lead_on i
end_leads None (e ∷ l) k g h i = lead s.LBracket Signs.left_bracket_sorted g
end_leads (Some n) l k g h i = name_leads n k h

name_ends : (b : Bool) → Ends (named s.Word b)
name_ends true = refl
name_ends false = refl

name_no_star : (b : Bool) → begins Phrase.pointers (named s.Word b) ≡ false
name_no_star true = refl
name_no_star false = refl

param_is : (x : Param) → (flagged x.ty.is_const (codes "const") ++ base_words (base_of x.ty.base)) ++ (stars x.ty.stars ++ (name_words x.name ++ dims_words x.ty.dims)) ≡ param_words x
unfolding dims_words
param_is x = spread (flagged x.ty.is_const (codes "const")) (base_words (base_of x.ty.base)) (stars x.ty.stars) (name_words x.name ++ dims_words x.ty.dims) ∙ two (λ a b. a ++ (name_words x.name ++ b)) (sym (before_is x.ty)) (sym (behind_is x.ty))

stars_lead : {ns : Names} (x : Param) → MaybeName x.name → Leads ns (after_name ns x.name) (stars x.ty.stars ++ (name_words x.name ++ dims_words x.ty.dims)) ParamEnd Ends
stars_lead x k = stars_end x.ty.stars (end_leads x.name x.ty.dims k refl name_ends end_of_type)

pub has_param : {ns : Names} (x : Param) → Parameter ns x → Prints ns (after_name ns x.name) inner.param (param_words x) ParamEnd (SameParam x)
has_param {ns = ns} x k = has_words (param_is x) (has_seq {Q = λ f. (u : CastType) → IsType x.ty.is_const (base_of x.ty.base) u → SameParam x (f u)} (has_type k.basic x.ty.is_const) (stars_lead x k.name)
    (has_seq (has_stars x.ty.stars) (end_leads x.name x.ty.dims k.name refl name_no_star end_no_star) (has_end x.name x.ty.dims k.name k.dim)
    (λ n a e h u i. two (λ t m. record { ty = t; name = m }) (declared_same x.ty u n a.1 i e h.1) h.0)) (λ u f i h. h u i))

pub param_leads : {ns : Names} (x : Param) → Parameter ns x → Leads ns (after_name ns x.name) (param_words x) ParamEnd (λ y. begins_type y ≡ true)
param_leads {ns = ns} x k = subst (λ ws. Leads ns (after_name ns x.name) ws ParamEnd (λ y. begins_type y ≡ true)) (param_is x) (type_leads k.basic x.ty.is_const (stars_lead x k.name))

-- parameters one behind the other
pub data AllParams : List Param → Names → Names → Type 0 where
  none : {ns : Names} → AllParams [] ns ns
  more : {x : Param} {xs : List Param} {ns ms : Names} → Parameter ns x → AllParams xs (after_name ns x.name) ms → AllParams (x ∷ xs) ns ms

pub params_pushed : (xs : List Param) (x : Param) {ns ms : Names} → AllParams xs ns ms → Parameter ms x → AllParams (xs ++ (x ∷ [])) ns (after_name ms x.name)
params_pushed [] x AllParams.none k = AllParams.more k AllParams.none
params_pushed (y ∷ xs) x (AllParams.more d a) k = AllParams.more d (params_pushed xs x a k)

each_param : (xs : List Param) {ns ms : Names} → AllParams xs ns ms → Each inner.param param_words ParamEnd SameParam xs ns ms
each_param [] AllParams.none = Each.none
each_param (x ∷ xs) (AllParams.more d a) = Each.more (has_param x d) (each_param xs a)

-- ---- `void` alone

nothing_in : ℕ → p.Exprs → Bool → Option (List ℕ) → p.Base → Bool
nothing_in zero p.no_exprs false None p.void = true
nothing_in n ds c o b = false

-- a parameter of this type and name is `void` alone
nothing_of : p.TypeSpec → Option (List ℕ) → Bool
nothing_of (p.type_spec b n ds c) o = nothing_in n ds c o b

void_is : (x : Param) → inner.is_void x ≡ nothing_of (placeless_type (spec_of x.ty)) x.name
unfolding nothing_of nothing_in
void_is x = by x.ty.stars x.ty.dims x.ty.is_const x.name (base_of x.ty.base) ∙ ap (λ t. nothing_of (placeless_type t) x.name) (sym (view.spec_view x.ty))
  where
    by : (n : ℕ) (l : List tree.Expr) (c : Bool) (o : Option (List ℕ)) (b : p.Base) → inner.is_nothing n l c o b ≡ nothing_in n (placeless_exprs (exprs (map expr_of l))) c o (placeless_base b)
    by (suc n) l c o b = refl
    by zero (e ∷ l) c o b = refl
    by zero [] true o b = refl
    by zero [] false (Some m) b = refl
    by zero [] false None p.void = refl
    by zero [] false None _ = refl

void_same : (x y : Param) → SameParam x y → inner.is_void y ≡ inner.is_void x
void_same x y h = void_is y ∙ (ap (λ (z : shape.Param). nothing_of z.ty z.name) h ∙ sym (void_is x))

-- `void` alone is not among them
abbrev pub Kept : List Param → Type 0
Kept xs = inner.without_void xs ≡ xs

kept_same : (xs l : List Param) → Kept xs → Matched SameParam xs l → Matched SameParam xs (inner.without_void l)
kept_same [] [] k h = tt
kept_same [] (a ∷ l) k h = absurd h
kept_same (x ∷ xs) [] k h = absurd h
kept_same (x ∷ []) (a ∷ []) k h = by (inner.is_void a) refl
  where
    by : (b : Bool) → inner.is_void a ≡ b → Matched SameParam (x ∷ []) (cond b [] (a ∷ []))
    by false e = h
    by true e = (let z : cond true [] (x ∷ []) ≡ x ∷ [] = subst (λ (b : Bool). cond b [] (x ∷ []) ≡ x ∷ []) (sym (void_same x a h.0) ∙ e) k in absurd cc)
kept_same (x ∷ []) (a ∷ b ∷ l) k h = absurd h.1
kept_same (x ∷ y ∷ xs) (a ∷ []) k h = absurd h.1
kept_same (x ∷ y ∷ xs) (a ∷ b ∷ l) k h = h

type_starts : (y : Sort) → begins_type y ≡ true → starts (inner.listed inner.param) y ≡ true
type_starts s.Qualifier h = refl
type_starts s.Void h = refl
type_starts s.Signedness h = refl
type_starts s.CharType h = refl
type_starts s.Length h = refl
type_starts s.Int h = refl
type_starts s.TypeName h = refl
type_starts s.Struct h = refl
type_starts s.Enum h = refl
type_starts _ h = absurd cc

no_params : (y : Sort) → y ≡ s.RParen → starts (inner.listed inner.param) y ≡ false
no_params y e = rw e refl

commas_lead : (xs : List Param) {ns ms : Names} → AllParams xs ns ms → Leads ns ms (behind_commas (map param_words xs)) (Last ParamEnd) ParamEnd
commas_lead [] AllParams.none = lead_on (λ y h. h.0)
commas_lead (x ∷ xs) (AllParams.more d a) = lead s.Comma Signs.comma_sorted comma_ends

begun : (x : Param) (xs : List Param) {ns ms : Names} → AllParams (x ∷ xs) ns ms → Leads ns ms (listed (map param_words (x ∷ xs))) (Last ParamEnd) (λ y. starts (inner.listed inner.param) y ≡ true)
begun x xs (AllParams.more d a) = (let j = lead_before (param_leads x d) (commas_lead xs a) in record { leads = λ ts us r f. type_starts _ (j.leads ts us r f) })

has_listed_params : (xs : List Param) {ns ms : Names} → AllParams xs ns ms → Prints ns ms (Form.maybe (inner.listed inner.param) []) (listed (map param_words xs)) (λ y. y ≡ s.RParen) (Matched SameParam xs)
has_listed_params [] AllParams.none = has_less no_params (λ l h. h) (has_nothing {P = Matched SameParam []} tt)
has_listed_params (x ∷ xs) a = has_less (λ y e. subst (Last ParamEnd) (sym e) (paren_ends, refl)) (λ l h. h) (has_some (begun x xs a) (has_inner_list inner.param param_words ParamEnd SameParam comma_ends x xs (each_param (x ∷ xs) a)))

pub has_parameters : (xs : List Param) {ns ms : Names} → AllParams xs ns ms → Kept xs → Prints ns ms inner.parameters (params_words xs) Any (Matched SameParam xs)
has_parameters xs a k = has_map (has_behind (has_token Signs.opening_sorted (λ t w. w)) lead_any (has_before (has_listed_params xs a) (lead s.RParen Signs.closing_sorted refl) (has_token Signs.closing_sorted (λ t w. w)))) (λ l h. kept_same xs l k h)

-- ---- the parameter in the bracket of a function

pub record Bracketed (ns : Names) (x : Param) : Type 0 where
  pub plain : Plain ns x.ty
  pub name : List ℕ
  pub named : x.name ≡ Some name
  pub is_name : IsName name

-- the names in force behind a bracket
abbrev pub after_bracket : Names → Option Param → Names
after_bracket ns None = ns
after_bracket ns (Some x) = after_name ns x.name

abbrev pub MaybeBracket : Names → Option Param → Type 0
MaybeBracket ns None = Unit {0}
MaybeBracket ns (Some x) = Bracketed ns x

bracket_is : (ns : Names) (x : Param) → (k : Bracketed ns x) → type_words (spec_of x.ty) ++ (word k.name ∷ []) ≡ param_words x
bracket_is ns x k = ap (λ t. type_words t ++ (word k.name ∷ [])) (plain_spec ns x.ty k.plain) ∙ (both ∙ ap (λ o. before_name (spec_of x.ty) ++ (name_words o ++ behind_name (spec_of x.ty))) (sym k.named))
  where
    both : type_words (p.type_spec (base_of x.ty.base) 0 p.no_exprs x.ty.is_const) ++ (word k.name ∷ []) ≡ before_name (spec_of x.ty) ++ (name_words (Some k.name) ++ behind_name (spec_of x.ty))
    both = ap (λ t. before_name t ++ (word k.name ∷ behind_name t)) (sym (plain_spec ns x.ty k.plain))

has_bracket_rest : {ns : Names} (x : Param) → Bracketed ns x → Prints ns (after_name ns x.name) inner.bracket_rest (param_words x ++ (sign (codes "]") ∷ [])) Any (SameParam x)
has_bracket_rest {ns = ns} x k = has_words words (has_seq (plain_type x.ty k.plain) (name_leads k.name k.is_name name_ends)
    (has_before (has_declare (has_name ns k.name k.is_name) (λ t h. ap (λ m. inner.hidden m ns) h ∙ ap (λ o. after_name ns o) (sym k.named)) any_carries) lead_any (has_token Signs.right_bracket_sorted (λ t w. w)))
    (λ u t h w. two (λ z m. record { ty = z; name = m }) h (ap (λ m. Some m) w ∙ sym k.named)))
  where
    words : type_words (spec_of x.ty) ++ (word k.name ∷ sign (codes "]") ∷ []) ≡ param_words x ++ (sign (codes "]") ∷ [])
    words = sym (append_assoc (type_words (spec_of x.ty)) (word k.name ∷ []) (sign (codes "]") ∷ [])) ∙ ap (λ ws. ws ++ (sign (codes "]") ∷ [])) (bracket_is ns x k)

abbrev pub SameMaybeParam : Option Param → Option Param → Type 0
SameMaybeParam x y = option_map param_shape y ≡ option_map param_shape x

no_bracket : (y : Sort) → y ≡ s.LParen → starts (gr.map (λ (x : Param). Some x) (gr.behind (gr.one s.LBracket) inner.bracket_rest)) y ≡ false
no_bracket y e = rw e refl

pub has_bracket : {ns : Names} (o : Option Param) → MaybeBracket ns o → Prints ns (after_bracket ns o) inner.bracket (bracket_words o) (λ y. y ≡ s.LParen) (SameMaybeParam o)
has_bracket None k = has_less no_bracket (λ a h. h) (has_nothing refl)
has_bracket (Some x) k = has_less (λ y e. tt) (λ a h. h) (has_some (lead s.LBracket Signs.left_bracket_sorted refl) (has_map (has_behind (has_token Signs.left_bracket_sorted (λ t w. w)) lead_any (has_bracket_rest x k)) (λ a h. ap (λ z. Some z) h)))
