-- Variables and type names that are declared in a block are printed, and read again as the same up to places.
use Rattle.std.proofs.Common.{◌≡◌, ℕ, zero, suc, Bool, true, false, List, [], ◌∷◌, ◌++◌, map, Option, Some, None, refl, sym, ap, subst, ◌∙◌, append_assoc, append-nil, rules}
use Rattle.std.specs.Prelude.{codes, option_map}
use Rattle.nm_base.specs.declared.pos.Pos.{Pos}
use Rattle.nm_base.specs.declared.token.Token.{Token}
use Rattle.nesc_tree.specs.declared.sorts.Sort.{Sort}
use Rattle.nesc_tree.specs.declared.sorts.Sort.TheVariants as s
use Rattle.nesc_tree.specs.declared.tree.Expr as tree
use Rattle.nesc_tree.specs.declared.tree.TypeSpec.{TypeSpec}
use Rattle.nesc_tree.specs.declared.operand.CastType.{CastType}
use Rattle.nesc_tree.specs.declared.declarations.Init.{Init}
use Rattle.nesc_tree.specs.declared.declarations.Attr.{Attr}
use Rattle.nesc_tree.specs.declared.declarations.Variable.{Variable}
use Rattle.nesc_tree.specs.declared.declarations.VarGroup.{VarGroup}
use Rattle.nesc_tree.specs.declared.declarations.Decl as decl
use Rattle.nesc_tree.specs.declared.declarations.Decl.{Decl}
use Rattle.nesc_tree.specs.Plain as p
use Rattle.nesc_tree.specs.View.{expr_of, exprs_of, spec_of, base_of, exprs}
use Rattle.nesc_tree.specs.Sorts.{Names, named}
use Rattle.nesc_tree.specs.Sorts as sorts
use Rattle.nesc_tree.specs.Phrase.{Phrase, begins}
use Rattle.nesc_tree.specs.Form.{Form, Place, starts}
use Rattle.nesc_grammar.specs.Grammar as gr
use Rattle.nesc_grammar.specs.Grammar.{may}
use Rattle.nesc_grammar.specs.Declarations as inner
use Rattle.nesc_print_words.specs.Lexemes.{Words, word, sign, semicolon, flagged, stars, listed, or_nothing, behind_commas}
use Rattle.nesc_print_words.specs.Expressions.{type_words, base_words, dim_words, declarator_words, before_name, behind_name}
use Rattle.nesc_print_words.specs.Declarations.{init_words, initialised, named_words, variable_words, vars_words, typedef_words, type_only_words, attrs_words}
use Rattle.nesc_print_words.specs.Trees.{declarator_of}
use Rattle.nesc_print_laws.specs.Placeless.{placeless_exprs, placeless_type}
use Rattle.nesc_print_laws.specs.Shapes as shape
use Rattle.nesc_print_laws.specs.Shapes.{init_shape, variable_shape, group_shape, attr_shape, decl_shape}
use Rattle.nesc_print_laws.proofs.Texts.{Prints, Leads, Any, lead, lead_on, lead_any, lead_before, has_token, has_seq, has_map, has_behind, has_before, has_by, has_by_some, has_some, has_nothing, has_words, has_less}
use Rattle.nesc_print_laws.proofs.Signs
use Rattle.nesc_print_laws.proofs.Names.{text_is, IsName, has_name}
use Rattle.nesc_print_laws.proofs.Runs.{Bare}
use Rattle.nesc_print_laws.proofs.Lists.{Each, Last}
use Rattle.nesc_print_laws.proofs.Views as view
use Rattle.nesc_print_laws.proofs.StmtViews as sview
use Rattle.nesc_print_laws.proofs.Exprs.{two}
use Rattle.nesc_print_laws.proofs.Calls.{All, SameAll, exprs_same}
use Rattle.nesc_print_laws.proofs.Types.{Ends, Basic, IsType, has_type, has_stars, has_dims, name_leads}
use Rattle.nesc_print_laws.proofs.Fields.{Matched, declarator_leads, plain_words, spec_same}
use Rattle.nesc_print_laws.proofs.Known.{FineType}
use Rattle.nesc_print_laws.proofs.Changed.{Carries, carries_test, has_declare, has_inner_list, matched_map}
use Rattle.nesc_print_laws.proofs.Inits.{SameInit, Initial, SameAttr, Attribute, has_attributes}

-- ---- declarators

pub record Declarator (ns : Names) (n : ℕ) (text : List ℕ) (l : List tree.Expr) : Type 0 where
  pub is_name : IsName text
  pub dims : All (Bare ns) (map expr_of l)

-- with its stars and dimensions, and without an initialiser
pub record SameVariable (n : ℕ) (text : List ℕ) (l : List tree.Expr) (v : Variable) : Type 0 where
  pub stars : v.declarator.stars ≡ n
  pub name : v.declarator.name ≡ text
  pub dims : SameAll (map expr_of l) v.declarator.dims

not_star : (b : Bool) → begins Phrase.pointers (named s.Word b) ≡ false
not_star true = refl
not_star false = refl

pub has_plain_variable : {ns : Names} (n : ℕ) (name : List ℕ) (dims : List tree.Expr) → Declarator ns n name dims
    → Prints ns ns inner.plain_variable (declarator_words n name (dim_words (exprs (map expr_of dims)))) (λ y. gr.is_bracket y ≡ false) (SameVariable n name dims)
has_plain_variable {ns = ns} n name dims k = has_seq {Q = λ f. (m : ℕ) → m ≡ n → SameVariable n name dims (f m)} (has_stars n) (name_leads name k.is_name not_star) (has_seq (has_name ns name k.is_name) lead_any (has_dims (map expr_of dims) k.dims)
    (λ t l h g m e. record { stars = e; name = h; dims = g })) (λ m f e h. h m e)

-- ---- variables

-- behind a variable
pub var_end : Sort → Bool
var_end s.Comma = true
var_end s.Semi = true
var_end _ = false

abbrev pub VarEnd : Sort → Type 0
VarEnd y = var_end y ≡ true

end_init : (y : Sort) → VarEnd y → may 1 y ≡ false
unfolding var_end
end_init s.Comma h = refl
end_init s.Semi h = refl
end_init _ h = absurd cc

pub end_plain : (y : Sort) → VarEnd y → (inner.is_at y ≡ false) × (gr.is_bracket y ≡ false) × (starts (gr.map (λ (x : Init). Some x) (gr.behind (gr.one s.Assign) inner.init)) y ≡ false)
unfolding var_end
end_plain s.Comma h = (refl, refl, refl)
end_plain s.Semi h = (refl, refl, refl)
end_plain _ h = absurd cc

pub comma_ends : VarEnd s.Comma
unfolding var_end
comma_ends = refl

pub semi_ends : VarEnd s.Semi
unfolding var_end
semi_ends = refl

-- no dimension goes on, and no attribute
test_plain : Sort → Bool
test_plain s.At = true
test_plain s.LBracket = true
test_plain _ = false

no_bracket : (y : Sort) → test_plain y ≡ false → gr.is_bracket y ≡ false
unfolding test_plain
no_bracket s.LBracket h = absurd cc
no_bracket s.At h = absurd cc
no_bracket _ h = refl

no_at : (y : Sort) → test_plain y ≡ false → inner.is_at y ≡ false
unfolding test_plain
no_at s.LBracket h = absurd cc
no_at s.At h = absurd cc
no_at _ h = refl

end_test : (y : Sort) → VarEnd y → test_plain y ≡ false
unfolding var_end test_plain
end_test s.Comma h = refl
end_test s.Semi h = refl
end_test _ h = absurd cc

test_names : test_plain s.Word ≡ test_plain s.TypeName
unfolding test_plain
test_names = refl

gets_plain : test_plain s.Assign ≡ false
unfolding test_plain
gets_plain = refl

at_plain : (y : Sort) → y ≡ s.Assign → test_plain y ≡ false
at_plain y e = ap test_plain e ∙ gets_plain

carried : {ms ls : Names} → Carries ms ls (λ y. test_plain y ≡ false) (λ y. gr.is_bracket y ≡ false)
carried {ms = ms} {ls = ls} = record { carries = λ us c. no_bracket _ ((carries_test test_plain false test_names {ms = ms} {ls = ls}).carries us c) }

-- an initialiser, under the names that are in force there
abbrev pub MaybeInitial : Names → Option Init → Type 0
MaybeInitial ns None = Unit {0}
MaybeInitial ns (Some x) = Initial ns x

-- under the first names; its name is in force from behind its declarator on
pub record Declared (ns : Names) (v : Variable) : Type 0 where
  pub declarator : Declarator ns v.declarator.stars v.declarator.name v.declarator.dims
  pub init : MaybeInitial (inner.hidden v.declarator.name ns) v.init

pub no_initial : (ns : Names) → MaybeInitial ns None
no_initial ns = tt

pub an_initial : (ns : Names) (x : Init) → Initial ns x → MaybeInitial ns (Some x)
an_initial ns x h = h

pub named_is : (v : Variable) → named_words v.declarator ≡ declarator_words v.declarator.stars v.declarator.name (dim_words (exprs (map expr_of v.declarator.dims)))
named_is v = ap (λ (z : Rattle.nesc_tree.specs.View.Declarator). declarator_words z.0 z.1 (dim_words z.2)) (view.declarator_view v.declarator)

pub SameMaybeInit : Option Init → Option Init → Type 0
SameMaybeInit x y = option_map init_shape y ≡ option_map init_shape x

pub has_some_init : {ns : Names} (x : Option Init) → MaybeInitial ns x → Prints ns ns inner.some_init (or_nothing (option_map initialised x)) VarEnd (SameMaybeInit x)
unfolding SameMaybeInit
has_some_init None k = has_less (λ y h. (end_plain y h).2) (λ a h. h) (has_nothing refl)
has_some_init (Some x) k = has_some (lead s.Assign Signs.gets_sorted refl) (has_map (has_behind (has_token Signs.gets_sorted (λ t w. w)) lead_any (has_less end_init (λ a h. h) k.prints)) (λ a h. ap Some h))

init_lead : {ns : Names} (x : Option Init) → Leads ns ns (or_nothing (option_map initialised x)) VarEnd (λ y. test_plain y ≡ false)
init_lead None = lead_on end_test
init_lead (Some x) = lead s.Assign Signs.gets_sorted gets_plain

abbrev pub Shaped : Variable → Variable → Type 0
Shaped v u = variable_shape u ≡ variable_shape v

pub variable_same : (v u : Variable) (x : Option Init) → SameVariable v.declarator.stars v.declarator.name v.declarator.dims u → SameMaybeInit v.init x → Shaped v (inner.with_init u x)
unfolding SameMaybeInit
variable_same v u x h g = four h.stars h.name (exprs_same (map expr_of v.declarator.dims) u.declarator.dims h.dims) g
  where
    four : {n m : ℕ} {a b : List ℕ} {d e : p.Exprs} {i j : Option shape.Init} → n ≡ m → a ≡ b → d ≡ e → i ≡ j → ◌≡◌ {A = shape.Variable} (record { stars = n; name = a; dims = d; init = i }) (record { stars = m; name = b; dims = e; init = j })
    four f g h i = rw (f, g, h, i) refl

pub has_variable : {ns : Names} (v : Variable) → Declared ns v → Prints ns (inner.hidden v.declarator.name ns) inner.variable (variable_words v) VarEnd (Shaped v)
has_variable {ns = ns} v k = has_words words (has_seq {P = SameVariable v.declarator.stars v.declarator.name v.declarator.dims}
    (has_before (has_declare (has_plain_variable v.declarator.stars v.declarator.name v.declarator.dims k.declarator) (λ a h. ap (λ n. inner.hidden n ns) h.name) carried) attributes_lead (has_less no_at (λ a h. h) (has_attributes [] tt))) before (has_some_init v.init k.init)
    (λ u x h g. variable_same v u x h g))
  where
    ls : Names
    ls = inner.hidden v.declarator.name ns

    attributes_lead : Leads (inner.hidden v.declarator.name ns) (inner.hidden v.declarator.name ns) [] (λ y. test_plain y ≡ false) (λ y. test_plain y ≡ false)
    attributes_lead = lead_on (λ y h. h)

    before : Leads (inner.hidden v.declarator.name ns) (inner.hidden v.declarator.name ns) (or_nothing (option_map initialised v.init)) VarEnd (λ y. test_plain y ≡ false)
    before = init_lead v.init

    words : (declarator_words v.declarator.stars v.declarator.name (dim_words (exprs (map expr_of v.declarator.dims))) ++ []) ++ or_nothing (option_map initialised v.init) ≡ variable_words v
    words = ap (λ ws. ws ++ or_nothing (option_map initialised v.init)) (append-nil (declarator_words v.declarator.stars v.declarator.name (dim_words (exprs (map expr_of v.declarator.dims)))) ∙ sym (named_is v))

-- variables one behind the other
pub data AllDeclared : List Variable → Names → Names → Type 0 where
  none : {ns : Names} → AllDeclared [] ns ns
  more : {v : Variable} {vs : List Variable} {ns ms : Names} → Declared ns v → AllDeclared vs (inner.hidden v.declarator.name ns) ms → AllDeclared (v ∷ vs) ns ms

pub declared_pushed : (vs : List Variable) (v : Variable) {ns ms : Names} → AllDeclared vs ns ms → Declared ms v → AllDeclared (vs ++ (v ∷ [])) ns (inner.hidden v.declarator.name ms)
declared_pushed [] v AllDeclared.none k = AllDeclared.more k AllDeclared.none
declared_pushed (u ∷ vs) v (AllDeclared.more d a) k = AllDeclared.more d (declared_pushed vs v a k)

pub each_variable : (vs : List Variable) {ns ms : Names} → AllDeclared vs ns ms → Each inner.variable variable_words VarEnd Shaped vs ns ms
each_variable [] AllDeclared.none = Each.none
each_variable (v ∷ vs) (AllDeclared.more d a) = Each.more (has_variable v d) (each_variable vs a)

pub has_variables : (v : Variable) (vs : List Variable) {ns ms : Names} → AllDeclared (v ∷ vs) ns ms → Prints ns ms inner.variables (listed (map variable_words (v ∷ vs))) (λ y. y ≡ s.Semi) (Matched Shaped (v ∷ vs))
has_variables v vs a = has_less (λ y e. last y e) (λ l h. h) (has_inner_list inner.variable variable_words VarEnd Shaped comma_ends v vs (each_variable (v ∷ vs) a))
  where
    last : (y : Sort) → y ≡ s.Semi → Last VarEnd y
    last y e = subst (Last VarEnd) (sym e) (semi_ends, refl)

-- ---- declarations in a block

abbrev pub SameDecl : Decl → Decl → Type 0
SameDecl x y = decl_shape y ≡ decl_shape x

-- a type before a declared name
pub spread : (a b c d : Words) → (a ++ b) ++ (c ++ d) ≡ (a ++ (b ++ c)) ++ d
spread a b c d = append_assoc a b (c ++ d) ∙ (ap (λ ws. a ++ ws) (sym (append_assoc b c d)) ∙ sym (append_assoc a (b ++ c) d))

pub record TypeNamed (ns : Names) (name : List ℕ) (t : TypeSpec) (l : List Attr) : Type 0 where
  pub basic : Basic ns (base_of t.base)
  pub declarator : Declarator ns t.stars name t.dims
  pub attrs : All (Attribute (sorts.declared name true ns)) l

pub before_is : (t : TypeSpec) → before_name (spec_of t) ≡ flagged t.is_const (codes "const") ++ (base_words (base_of t.base) ++ stars t.stars)
before_is t = ap before_name (view.spec_view t)

pub behind_is : (t : TypeSpec) → behind_name (spec_of t) ≡ dim_words (exprs (map expr_of t.dims))
behind_is t = ap behind_name (view.spec_view t)

not_bracket : {ns ms : Names} (l : List Attr) → Leads ns ms (attrs_words l ++ (semicolon ∷ [])) Any (λ y. gr.is_bracket y ≡ false)
not_bracket [] = lead s.Semi Signs.semicolon_sorted refl
not_bracket (x ∷ l) = lead s.At Signs.at_sign_sorted refl

declared_same : (t : TypeSpec) (name : List ℕ) (u : CastType) (v : Variable) → IsType t.is_const (base_of t.base) u → SameVariable t.stars name t.dims v
    → placeless_type (spec_of (inner.declared_type u v.declarator.stars v.declarator.dims)) ≡ placeless_type (spec_of t)
declared_same t name u v h g = ap placeless_type (view.spec_view (inner.declared_type u v.declarator.stars v.declarator.dims)) ∙ (four h.same g.stars (exprs_same (map expr_of t.dims) v.declarator.dims g.dims) h.is_const ∙ sym (ap placeless_type (view.spec_view t)))
  where
    four : {x y : p.Base} {n m : ℕ} {d e : p.Exprs} {a b : Bool} → x ≡ y → n ≡ m → d ≡ e → a ≡ b → p.type_spec x n d a ≡ p.type_spec y m e b
    four f g h i = rw (f, g, h, i) refl

name_ends : (b : Bool) → Ends (named s.Word b)
name_ends true = refl
name_ends false = refl

module _ (name : List ℕ) (t : TypeSpec) (l : List Attr) (at : Pos) where
  abbrev It : Decl
  It = decl.Typedef name t l at

  pub has_typedef : {ns : Names} → TypeNamed ns name t l → Prints ns (sorts.declared name true ns) inner.typedef ((flagged t.is_const (codes "const") ++ base_words (base_of t.base)) ++ (declarator_words t.stars name (dim_words (exprs (map expr_of t.dims))) ++ (attrs_words l ++ (semicolon ∷ [])))) Any (λ f. (o : Token) → SameDecl It (f o))
  has_typedef {ns = ns} k = has_map (has_seq {Q = λ f. (u : CastType) → IsType t.is_const (base_of t.base) u → SameDecl It (f u)} (has_type k.basic t.is_const) leads
      (has_seq (has_declare (has_plain_variable t.stars name t.dims k.declarator) (λ v h. ap (λ n. sorts.declared n true ns) h.name) (carries_test gr.is_bracket false refl)) (not_bracket l)
      (has_before (has_attributes l k.attrs) (lead s.Semi Signs.semicolon_sorted refl) (has_token Signs.semicolon_sorted (λ t w. w)))
      (λ v xs h g u e. same v xs u h g e)) (λ u f e h. h u e)) (λ d h o. h)
    where
      leads : Leads ns (sorts.declared name true ns) (declarator_words t.stars name (dim_words (exprs (map expr_of t.dims))) ++ (attrs_words l ++ (semicolon ∷ []))) Any Ends
      leads = subst (λ ws. Leads ns (sorts.declared name true ns) ws Any Ends) (sym (append_assoc (stars t.stars) (word name ∷ dim_words (exprs (map expr_of t.dims))) (attrs_words l ++ (semicolon ∷ []))))
          (declarator_leads (dim_words (exprs (map expr_of t.dims)) ++ (attrs_words l ++ (semicolon ∷ []))) t.stars name k.declarator.is_name refl name_ends)

      same : (v : Variable) (xs : List Attr) (u : CastType) → SameVariable t.stars name t.dims v → Matched SameAttr l xs → IsType t.is_const (base_of t.base) u → SameDecl It (inner.type_name v xs u)
      same v xs u h g e = sview.typedef_shape v.pos v.declarator.name (inner.declared_type u v.declarator.stars v.declarator.dims) xs ∙ (three h.name (declared_same t name u v e h) (matched_map attr_shape l xs g) ∙ sym (sview.typedef_shape at name t l))
        where
          three : {a b : List ℕ} {x y : p.TypeSpec} {i j : List shape.Attr} → a ≡ b → x ≡ y → i ≡ j → shape.Decl.type_name a x i ≡ shape.Decl.type_name b y j
          three f g h = rw (f, g, h) refl

  pub typedef_is : word (codes "typedef") ∷ ((flagged t.is_const (codes "const") ++ base_words (base_of t.base)) ++ (declarator_words t.stars name (dim_words (exprs (map expr_of t.dims))) ++ (attrs_words l ++ (semicolon ∷ [])))) ≡ typedef_words name t l
  typedef_is = ap (λ ws. word (codes "typedef") ∷ ws) (ap (λ ws. (flagged t.is_const (codes "const") ++ base_words (base_of t.base)) ++ ws) (append_assoc (stars t.stars) (word name ∷ dim_words (exprs (map expr_of t.dims))) (attrs_words l ++ (semicolon ∷ [])))
      ∙ (spread (flagged t.is_const (codes "const")) (base_words (base_of t.base)) (stars t.stars) (word name ∷ (dim_words (exprs (map expr_of t.dims)) ++ (attrs_words l ++ (semicolon ∷ []))))
      ∙ two (λ a b. a ++ (word name ∷ (b ++ (attrs_words l ++ (semicolon ∷ []))))) (sym (before_is t)) (sym (behind_is t))))

-- a type without stars and dimensions
pub record Plain (ns : Names) (t : TypeSpec) : Type 0 where
  pub basic : Basic ns (base_of t.base)
  pub stars : t.stars ≡ 0
  pub dims : t.dims ≡ []

pub plain_spec : (ns : Names) (t : TypeSpec) → Plain ns t → spec_of t ≡ p.type_spec (base_of t.base) 0 p.no_exprs t.is_const
plain_spec ns t h = view.spec_view t ∙ two (λ n d. p.type_spec (base_of t.base) n (exprs (map expr_of d)) t.is_const) h.stars h.dims

pub plain_type : {ns : Names} (t : TypeSpec) → Plain ns t → Prints ns ns gr.type_form (type_words (spec_of t)) Ends (λ u. placeless_type (spec_of u.ty) ≡ placeless_type (spec_of t))
plain_type {ns = ns} t h = has_words (plain_words (base_of t.base) t.is_const ∙ ap type_words (sym (plain_spec ns t h))) (has_less (λ y e. e) (λ u i. spec_same (base_of t.base) t.is_const u i ∙ ap placeless_type (sym (plain_spec ns t h))) (has_type h.basic t.is_const))

no_qualified : {ns ms : Names} {F : Sort → Type 0} {ws : Words} → Leads ns ms ws F Ends → Leads ns ms ws F Ends
no_qualified j = j

-- a type is ahead
pub plain_leads : {ns ms : Names} (t : TypeSpec) (vs : Words) → Plain ns t → Leads ns ms vs Any Ends → Leads ns ms (type_words (spec_of t) ++ vs) Any (λ y. Rattle.nesc_tree.specs.Phrase.begins_type y ≡ true)
plain_leads {ns = ns} {ms = ms} t vs k j = subst (λ ws. Leads ns ms (ws ++ vs) Any (λ y. Rattle.nesc_tree.specs.Phrase.begins_type y ≡ true)) (plain_words (base_of t.base) t.is_const ∙ ap type_words (sym (plain_spec ns t k))) (Rattle.nesc_print_laws.proofs.Types.type_leads k.basic t.is_const j)

first_is : {ns ms : Names} (v : Variable) (vs : List Variable) → AllDeclared (v ∷ vs) ns ms → Declarator ns v.declarator.stars v.declarator.name v.declarator.dims
first_is v vs (AllDeclared.more d a) = d.declarator

pub spelled_out : (v : Variable) (ws : Words) → variable_words v ++ ws ≡ stars v.declarator.stars ++ (word v.declarator.name ∷ ((dim_words (exprs (map expr_of v.declarator.dims)) ++ or_nothing (option_map initialised v.init)) ++ ws))
spelled_out v ws =
    let a : Words = stars v.declarator.stars in
    let b : Words = dim_words (exprs (map expr_of v.declarator.dims)) in
    let c : Words = or_nothing (option_map initialised v.init) in
    ap (λ z. (z ++ c) ++ ws) (named_is v) ∙ (ap (λ z. z ++ ws) (append_assoc a (word v.declarator.name ∷ b) c) ∙ append_assoc a (word v.declarator.name ∷ (b ++ c)) ws)

-- stars or a name are ahead of variables
pub variables_lead : {ns ms : Names} (v : Variable) (vs : List Variable) → AllDeclared (v ∷ vs) ns ms → (ws : Words) {F G : Sort → Type 0} → G s.Star → ((b : Bool) → G (named s.Word b)) → Leads ns ms (listed (map variable_words (v ∷ vs)) ++ ws) F G
variables_lead {ns = ns} {ms = ms} v vs a ws {F = F} {G = G} g h = subst (λ z. Leads ns ms z F G) (sym (append_assoc (variable_words v) (behind_commas (map variable_words vs)) ws ∙ spelled_out v (behind_commas (map variable_words vs) ++ ws)))
    (declarator_leads ((dim_words (exprs (map expr_of v.declarator.dims)) ++ or_nothing (option_map initialised v.init)) ++ (behind_commas (map variable_words vs) ++ ws)) v.declarator.stars v.declarator.name (first_is v vs a).is_name g h)

pub variables_lead_on : {ns ms : Names} (v : Variable) (vs : List Variable) → AllDeclared (v ∷ vs) ns ms → {F G : Sort → Type 0} → G s.Star → ((b : Bool) → G (named s.Word b)) → Leads ns ms (listed (map variable_words (v ∷ vs))) F G
variables_lead_on {ns = ns} {ms = ms} v vs a {F = F} {G = G} g h = subst (λ z. Leads ns ms z F G) (append-nil (listed (map variable_words (v ∷ vs)))) (variables_lead v vs a [] g h)
