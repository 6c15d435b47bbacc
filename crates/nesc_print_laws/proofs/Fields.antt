-- Definitions of structs and enums are printed, and read again as the same up to places.
use Rattle.std.proofs.Common.{◌≡◌, ℕ, zero, suc, Bool, true, false, List, [], ◌∷◌, ◌++◌, map, Option, Some, None, refl, sym, ap, subst, ◌∙◌, append_assoc, append-nil}
use Rattle.std.specs.Prelude.{codes}
use Rattle.nm_base.specs.declared.pos.Pos.{Pos}
use Rattle.nm_base.specs.declared.token.Token.{Token}
use Rattle.nesc_tree.specs.declared.sorts.Sort.{Sort}
use Rattle.nesc_tree.specs.declared.sorts.Sort.TheVariants as s
use Rattle.nesc_tree.specs.declared.tree.Base as base
use Rattle.nesc_tree.specs.declared.tree.EnumItem.{EnumItem}
use Rattle.nesc_tree.specs.declared.tree.Declarator.{Declarator}
use Rattle.nesc_tree.specs.declared.tree.FieldGroup.{FieldGroup}
use Rattle.nesc_tree.specs.declared.operand.CastType.{CastType}
use Rattle.nesc_tree.specs.declared.operand.Declarators.{Declarators}
use Rattle.nesc_tree.specs.declared.operand.Fields.{Fields}
use Rattle.nesc_tree.specs.declared.operand.Item.{Item}
use Rattle.nesc_tree.specs.declared.operand.Items.{Items}
use Rattle.nesc_tree.specs.declared.operand.Operand.{Operand}
use Rattle.nesc_tree.specs.Plain as p
use Rattle.nesc_tree.specs.View.{expr_of, spec_of, base_of, exprs, maybe_expr, declarators, groups, items}
use Rattle.nesc_tree.specs.View as v
use Rattle.nesc_tree.specs.Sorts.{Names, named}
use Rattle.nesc_tree.specs.Phrase.{Phrase, begins, begins_type}
use Rattle.nesc_tree.specs.Form.{starts}
use Rattle.nesc_grammar.specs.Grammar as gr
use Rattle.nesc_grammar.specs.Grammar.{may}
use Rattle.nesc_print_words.specs.Lexemes.{Words, word, comma, semicolon, flagged, stars, in_braces, behind_commas, joined}
use Rattle.nesc_print_words.specs.Expressions.{type_words, base_words, dim_words, declarator_words, field_words, more_field_words, group_words, item_words, more_item_words, value_words}
use Rattle.nesc_print_words.specs.Trees.{item_of, declarator_of, group_of}
use Rattle.nesc_print_laws.specs.Placeless.{nowhere, placeless_exprs, placeless_maybe, placeless_type, placeless_base, placeless_groups, placeless_declarators, placeless_items}
use Rattle.nesc_print_laws.proofs.Texts.{Prints, Leads, Any, lead, lead_any, has_token, has_seq, has_map, has_behind, has_before, has_by, has_by_some, has_some, has_nothing, has_phrase, has_words, has_less}
use Rattle.nesc_print_laws.proofs.Signs
use Rattle.nesc_print_laws.proofs.Names.{IsName, has_name}
use Rattle.nesc_print_laws.proofs.Runs.{Bare, operand}
use Rattle.nesc_print_laws.proofs.Lists.{Each, has_listed, Row, has_row, Last}
use Rattle.nesc_print_laws.proofs.Views as view
use Rattle.nesc_print_laws.proofs.Exprs.{two}
use Rattle.nesc_print_laws.proofs.Calls.{All, SameAll, exprs_same, Maybe, SameMaybe}
use Rattle.nesc_print_laws.proofs.Types.{Ends, Basic, IsBase, IsType, has_type, has_stars, has_dims, name_leads, type_leads, plain_is, struct_at, enum_at, no_brace}

-- ---- two lists, one beside the other

abbrev pub Matched : {X A : Type 0} → (X → A → Type 0) → List X → List A → Type 0
Matched R [] [] = Unit {0}
Matched R [] (a ∷ l) = ⊥
Matched R (x ∷ xs) [] = ⊥
Matched R (x ∷ xs) (a ∷ l) = R x a × Matched R xs l

pub matched_pushed : {X A : Type 0} (R : X → A → Type 0) (xs : List X) (x : X) (l : List A) (a : A) → Matched R xs l → R x a → Matched R (xs ++ (x ∷ [])) (l ++ (a ∷ []))
matched_pushed R [] x [] a h r = (r, tt)
matched_pushed R [] x (b ∷ l) a h r = absurd h
matched_pushed R (y ∷ xs) x [] a h r = absurd h
matched_pushed R (y ∷ xs) x (b ∷ l) a h r = (h.0, matched_pushed R xs x l a h.1 r)

-- ---- declarators

pub record Shape : Type 0 where
  pub stars : ℕ
  pub name : List ℕ
  pub dims : List p.Expr

abbrev pub shape_of : Shape → v.Declarator
shape_of x = (x.stars, x.name, exprs x.dims)

pub record Declares (ns : Names) (x : Shape) : Type 0 where
  pub is_name : IsName x.name
  pub dims : All (Bare ns) x.dims

pub record SameDeclarator (x : Shape) (d : Declarator) : Type 0 where
  pub stars : d.stars ≡ x.stars
  pub name : d.name ≡ x.name
  pub dims : SameAll x.dims d.dims

abbrev pub shape_words : Shape → Words
shape_words x = declarator_words x.stars x.name (dim_words (exprs x.dims))

not_star : (b : Bool) → begins Phrase.pointers (named s.Word b) ≡ false
not_star true = refl
not_star false = refl

pub declarator_leads : {ns ms : Names} {F G : Sort → Type 0} (ws : Words) (n : ℕ) (name : List ℕ) → IsName name → G s.Star → ((b : Bool) → G (named s.Word b)) → Leads ns ms (stars n ++ (word name ∷ ws)) F G
declarator_leads ws zero name k g h = name_leads name k h
declarator_leads ws (suc n) name k g h = lead s.Star Signs.star_sorted g

no_bracket : (y : Sort) → Any y → Any y
no_bracket y h = h

pub has_declarator : {ns : Names} (x : Shape) → Declares ns x → Prints ns ns gr.declarator (shape_words x) (λ y. gr.is_bracket y ≡ false) (λ d. SameDeclarator x d.declarator)
has_declarator {ns = ns} x k = has_seq {Q = λ f. (n : ℕ) → n ≡ x.stars → SameDeclarator x (f n).declarator} (has_stars x.stars) (name_leads x.name k.is_name not_star) (has_seq (has_name ns x.name k.is_name) lead_any (has_dims x.dims k.dims)
    (λ t l h g n e. record { stars = e; name = h; dims = g })) (λ n f e h. h n e)

each_declarator : {ns : Names} (xs : List Shape) → All (Declares ns) xs → Each gr.declarator shape_words (λ y. gr.is_bracket y ≡ false) (λ x d. SameDeclarator x d.declarator) xs ns ns
each_declarator [] k = Each.none
each_declarator (x ∷ xs) k = Each.more (has_declarator x k.0) (each_declarator xs k.1)

more_fields_listed : (xs : List Shape) → behind_commas (map shape_words xs) ≡ more_field_words (declarators (map shape_of xs))
more_fields_listed [] = refl
more_fields_listed (x ∷ xs) = ap (λ ws. comma ∷ (shape_words x ++ ws)) (more_fields_listed xs)

pub has_declarators : {ns : Names} (x : Shape) (xs : List Shape) → All (Declares ns) (x ∷ xs) → Prints ns ns gr.declarators (field_words (declarators (map shape_of (x ∷ xs)))) (λ y. y ≡ s.Semi) (λ l. Matched SameDeclarator (x ∷ xs) l.list)
has_declarators x xs k = has_words (ap (λ ws. shape_words x ++ ws) (more_fields_listed xs)) (has_less {F = Last (λ y. gr.is_bracket y ≡ false)} (λ y e. rw e (refl, refl)) (λ l h. h)
    (has_listed gr.declarator shape_words (λ y. gr.is_bracket y ≡ false) (λ x d. SameDeclarator x d.declarator) (λ _ _. true) gr.more_declarators (λ _. gr.another_declarator) (λ xs l. Matched SameDeclarator xs l.list)
    refl (λ xs x d l h g. matched_pushed SameDeclarator xs x l.list d.declarator h g) (λ xs l h. refl) (λ spare u v f h. h) x xs (has_map (has_declarator x k.0) (λ d h. (h, tt))) (each_declarator xs k.1)))

pub declarators_same : (xs : List Shape) (l : List Declarator) → Matched SameDeclarator xs l → placeless_declarators (declarators (map declarator_of l)) ≡ placeless_declarators (declarators (map shape_of xs))
declarators_same [] [] h = refl
declarators_same [] (d ∷ l) h = absurd h
declarators_same (x ∷ xs) [] h = absurd h
declarators_same (x ∷ xs) (d ∷ l) h = ap (λ (z : v.Declarator). p.more_declarators z.0 z.1 (placeless_exprs z.2) (placeless_declarators (declarators (map declarator_of l)))) (view.declarator_view d)
    ∙ four h.0.stars h.0.name (exprs_same x.dims d.dims h.0.dims) (declarators_same xs l h.1)
  where
    four : {n : ℕ} {m : List ℕ} {es : p.Exprs} {ds : p.Declarators} → n ≡ x.stars → m ≡ x.name → es ≡ placeless_exprs (exprs x.dims) → ds ≡ placeless_declarators (declarators (map shape_of xs))
        → p.more_declarators n m es ds ≡ p.more_declarators x.stars x.name (placeless_exprs (exprs x.dims)) (placeless_declarators (declarators (map shape_of xs)))
    four f g h i = rw (f, g, h, i) refl

-- ---- fields

pub record Group : Type 0 where
  pub base : p.Base
  pub is_const : Bool
  pub first : Shape
  pub others : List Shape

abbrev pub ty_of : Group → p.TypeSpec
ty_of x = p.type_spec x.base 0 p.no_exprs x.is_const

abbrev pub group_shape : Group → v.Group
group_shape x = (ty_of x, declarators (map shape_of (x.first ∷ x.others)))

pub record Groups (ns : Names) (x : Group) : Type 0 where
  pub base : Basic ns x.base
  pub fields : All (Declares ns) (x.first ∷ x.others)

abbrev pub SameGroup : Group → FieldGroup → Type 0
SameGroup x g = (placeless_type (group_of g).0 ≡ placeless_type (ty_of x)) × (placeless_declarators (group_of g).1 ≡ placeless_declarators (declarators (map shape_of (x.first ∷ x.others))))

pub plain_words : (b : p.Base) (c : Bool) → flagged c (codes "const") ++ base_words b ≡ type_words (p.type_spec b 0 p.no_exprs c)
plain_words b c = ap (λ ws. flagged c (codes "const") ++ ws) (sym (append-nil (base_words b)))

pub spec_same : (b : p.Base) (c : Bool) (t : CastType) → IsType c b t → placeless_type (spec_of t.ty) ≡ placeless_type (p.type_spec b 0 p.no_exprs c)
spec_same b c t h = ap placeless_type (view.spec_view t.ty) ∙ four h.same h.stars (ap (λ l. placeless_exprs (exprs (map expr_of l))) h.dims) h.is_const
  where
    four : {x : p.Base} {k : ℕ} {ds : p.Exprs} {d : Bool} → x ≡ placeless_base b → k ≡ 0 → ds ≡ p.no_exprs → d ≡ c → p.type_spec x k ds d ≡ p.type_spec (placeless_base b) 0 p.no_exprs c
    four f g h i = rw (f, g, h, i) refl

ends_word : (b : Bool) → Ends (named s.Word b)
ends_word true = refl
ends_word false = refl

one_group : Group → Words
one_group x = type_words (ty_of x) ++ (field_words (declarators (map shape_of (x.first ∷ x.others))) ++ (semicolon ∷ []))

has_field : {ns : Names} (x : Group) → Groups ns x → Prints ns ns gr.field (one_group x) Any (λ g. SameGroup x g.group)
unfolding one_group
has_field {ns = ns} x k = has_seq (has_words (plain_words x.base x.is_const) (has_type k.base x.is_const)) leads (has_before (has_declarators x.first x.others k.fields) (lead s.Semi Signs.semicolon_sorted refl) (has_token Signs.semicolon_sorted (λ t w. w)))
    (λ t l h g. same t l h g)
  where
    leads : Leads ns ns (field_words (declarators (map shape_of (x.first ∷ x.others))) ++ (semicolon ∷ [])) Any Ends
    leads = subst (λ ws. Leads ns ns ws Any Ends) (sym (assoc x.first.stars)) (declarator_leads ((tail ++ rest) ++ (semicolon ∷ [])) x.first.stars x.first.name k.fields.0.is_name refl ends_word)
      where
        tail : Words
        tail = dim_words (exprs x.first.dims)

        rest : Words
        rest = more_field_words (declarators (map shape_of x.others))

        assoc : (n : ℕ) → ((stars n ++ (word x.first.name ∷ tail)) ++ rest) ++ (semicolon ∷ []) ≡ stars n ++ (word x.first.name ∷ ((tail ++ rest) ++ (semicolon ∷ [])))
        assoc n = ap (λ ws. ws ++ (semicolon ∷ [])) (append_assoc (stars n) (word x.first.name ∷ tail) rest) ∙ append_assoc (stars n) (word x.first.name ∷ (tail ++ rest)) (semicolon ∷ [])

    same : (t : CastType) (l : Declarators) → IsType x.is_const x.base t → Matched SameDeclarator (x.first ∷ x.others) l.list → SameGroup x (gr.field_group t l).group
    same t l h g = (ap (λ (z : v.Group). placeless_type z.0) (view.group_view t.ty l.list) ∙ spec_same x.base x.is_const t h, ap (λ (z : v.Group). placeless_declarators z.1) (view.group_view t.ty l.list) ∙ declarators_same (x.first ∷ x.others) l.list g)

begins_fields : {ns : Names} (x : Group) → Groups ns x → Leads ns ns (one_group x) Any (λ y. begins_type y ≡ true)
unfolding one_group
begins_fields {ns = ns} x k = subst (λ ws. Leads ns ns ws Any (λ y. begins_type y ≡ true)) (ap (λ ws. ws ++ (field_words (declarators (map shape_of (x.first ∷ x.others))) ++ (semicolon ∷ []))) (plain_words x.base x.is_const)) (type_leads k.base x.is_const leads)
  where
    leads : Leads ns ns (field_words (declarators (map shape_of (x.first ∷ x.others))) ++ (semicolon ∷ [])) Any Ends
    leads = subst (λ ws. Leads ns ns ws Any Ends) (sym (assoc x.first.stars)) (declarator_leads ((tail ++ rest) ++ (semicolon ∷ [])) x.first.stars x.first.name k.fields.0.is_name refl ends_word)
      where
        tail : Words
        tail = dim_words (exprs x.first.dims)

        rest : Words
        rest = more_field_words (declarators (map shape_of x.others))

        assoc : (n : ℕ) → ((stars n ++ (word x.first.name ∷ tail)) ++ rest) ++ (semicolon ∷ []) ≡ stars n ++ (word x.first.name ∷ ((tail ++ rest) ++ (semicolon ∷ [])))
        assoc n = ap (λ ws. ws ++ (semicolon ∷ [])) (append_assoc (stars n) (word x.first.name ∷ tail) rest) ∙ append_assoc (stars n) (word x.first.name ∷ (tail ++ rest)) (semicolon ∷ [])

abbrev Adds : Group → (Fields → Fields) → Type 0
Adds x f = (l : Fields) → (g : FieldGroup) × SameGroup x g × ((f l).groups ≡ l.groups ++ (g ∷ []))

each_group : {ns : Names} (xs : List Group) → All (Groups ns) xs → Row (λ _. gr.another_field) one_group Any Adds begins_type xs ns ns
each_group [] k = Row.none
each_group (x ∷ xs) k = Row.more (has_by_some (λ y. Unit {0}) lead_any (λ y c spare u v f t. t) (has_map (has_field x k.0) (λ g h l. (g.group, h, refl)))) (begins_fields x k.0) (each_group xs k.1)

groups_joined : (xs : List Group) → joined (map one_group xs) ≡ group_words (groups (map group_shape xs))
unfolding one_group
groups_joined [] = refl
groups_joined (x ∷ xs) =
    let f : Words = field_words (declarators (map shape_of (x.first ∷ x.others))) in
    append_assoc (type_words (ty_of x)) (f ++ (semicolon ∷ [])) (joined (map one_group xs)) ∙ ap (λ ws. type_words (ty_of x) ++ ws) (append_assoc f (semicolon ∷ []) (joined (map one_group xs)) ∙ ap (λ ws. f ++ (semicolon ∷ ws)) (groups_joined xs))

pub has_fields : {ns : Names} (xs : List Group) → All (Groups ns) xs → Prints ns ns gr.fields (in_braces (group_words (groups (map group_shape xs)))) Any (λ f. Matched SameGroup xs f.groups)
has_fields xs k = has_phrase {k = Phrase.fields} {P = λ f. Matched SameGroup xs f.groups} (has_behind (has_token Signs.left_brace_sorted (λ t w. w)) lead_any (has_before (has_map (has_words (groups_joined xs) (has_row (λ _. gr.another_field) one_group Any Adds begins_type (λ xs l. Matched SameGroup xs l.groups) (λ y h. tt)
    (λ xs x f l h g. (let z = g l in subst (Matched SameGroup (xs ++ (x ∷ []))) (sym z.2) (matched_pushed SameGroup xs x l.groups z.0 h z.1))) xs gr.no_fields tt (each_group xs k))) (λ l h. h))
    (lead s.RBrace Signs.right_brace_sorted (tt, refl)) (has_token Signs.right_brace_sorted (λ t w. w)))) (λ f h. h)

pub groups_same : (xs : List Group) (l : List FieldGroup) → Matched SameGroup xs l → placeless_groups (groups (map group_of l)) ≡ placeless_groups (groups (map group_shape xs))
groups_same [] [] h = refl
groups_same [] (g ∷ l) h = absurd h
groups_same (x ∷ xs) [] h = absurd h
groups_same (x ∷ xs) (g ∷ l) h = three h.0.0 h.0.1 (groups_same xs l h.1)
  where
    three : {t u : p.TypeSpec} {d e : p.Declarators} {m n : p.Groups} → t ≡ u → d ≡ e → m ≡ n → p.more_groups t d m ≡ p.more_groups u e n
    three f g h = rw (f, g, h) refl

abbrev pub Tagged : Option (List ℕ) → Type 0
Tagged None = Unit {0}
Tagged (Some n) = IsName n

pub basic_struct_of : {ns : Names} (tag : Option (List ℕ)) (xs : List Group) → Tagged tag → All (Groups ns) xs → Basic ns (p.struct_of tag (groups (map group_shape xs)))
basic_struct_of {ns = ns} None xs n k = record {
  prints = has_by s.Struct (lead s.Struct Signs.struct_sorted refl) (has_less (λ y h. tt) (λ c h. h) (has_seq {Q = λ f. (o : Token) → IsBase It (f o)} (has_token Signs.struct_sorted (λ t w. w)) lead_any
      (has_by s.LBrace (lead s.LBrace Signs.left_brace_sorted refl) (has_map (has_fields xs k) (λ f h o. plain_is It (base.Struct None (Some f.groups)) f.height o.pos (ap placeless_base (view.struct_of_base None f.groups) ∙ ap (λ g. p.struct_of None g) (groups_same xs f.groups h)))))
      (λ o f w h. h o)));
}
  where
    It : p.Base
    It = p.struct_of None (groups (map group_shape xs))
basic_struct_of {ns = ns} (Some n) xs i k = record {
  prints = has_by s.Struct (lead s.Struct Signs.struct_sorted refl) (has_less (λ y h. tt) (λ c h. h) (has_seq {Q = λ f. (o : Token) → IsBase It (f o)} (has_token Signs.struct_sorted (λ t w. w)) lead_any
      (has_by_some (λ y. Rattle.nesc_tree.specs.Sorts.same_sort y s.LBrace ≡ false) (name_leads n i no_brace) struct_at (has_seq {Q = λ f. (g : Fields) × (f ≡ Some g) × Matched SameGroup xs g.groups} (has_name ns n i) lead_any
      (has_some (lead s.LBrace Signs.left_brace_sorted refl) (has_map (has_fields xs k) (λ f h. (f, refl, h))))
      (λ t f h g o. subst (λ f. IsBase It (gr.struct_type (Some t.text) f o)) (sym g.1) (plain_is It (base.Struct (Some t.text) (Some g.0.groups)) g.0.height o.pos (ap placeless_base (view.struct_of_base (Some t.text) g.0.groups) ∙ two (λ m g. p.struct_of (Some m) g) h (groups_same xs g.0.groups g.2))))))
      (λ o f w h. h o)));
}
  where
    It : p.Base
    It = p.struct_of (Some n) (groups (map group_shape xs))

-- ---- constants of enums

pub record Constant : Type 0 where
  pub name : List ℕ
  pub value : Option p.Expr
  pub at : Pos

abbrev pub constant_of : Constant → v.Item
constant_of x = (x.name, maybe_expr x.value, x.at)

pub record Constants (ns : Names) (x : Constant) : Type 0 where
  pub is_name : IsName x.name
  pub value : Maybe ns x.value

pub record SameItem (x : Constant) (m : EnumItem) : Type 0 where
  pub name : m.name ≡ x.name
  pub value : SameMaybe x.value m.value

abbrev constant_words : Constant → Words
constant_words x = word x.name ∷ value_words (maybe_expr x.value)

abbrev After : Sort → Type 0
After y = (starts (gr.map (λ (a : Operand). Some a) (gr.behind (gr.one s.Assign) (gr.expr 2))) y ≡ false) × (may 2 y ≡ false)

has_value : {ns : Names} (o : Option p.Expr) → Maybe ns o → Prints ns ns gr.item_value (value_words (maybe_expr o)) After (λ a. SameMaybe o (gr.value_of a))
has_value None k = has_less (λ y h. h.0) (λ a h. h) (has_nothing refl)
has_value (Some e) k = has_less (λ y h. h.1) (λ a h. h) (has_some (lead s.Assign Signs.gets_sorted refl) (has_map (has_behind (has_token Signs.gets_sorted (λ t w. w)) lead_any (operand k 2 (λ a h. h))) (λ a h. ap p.some_expr h)))

has_item : {ns : Names} (x : Constant) → Constants ns x → Prints ns ns gr.item (constant_words x) After (λ m. SameItem x m.item)
has_item {ns = ns} x k = has_seq (has_name ns x.name k.is_name) lead_any (has_value x.value k.value) (λ t o h g. record { name = h; value = g })

abbrev Some_item : Constant → Option Item → Type 0
Some_item x o = (m : Item) × (o ≡ Some m) × SameItem x m.item

starts_name : (b : Bool) → starts (gr.map (λ (m : Item). Some m) gr.item) (named s.Word b) ≡ true
starts_name true = refl
starts_name false = refl

has_some_item : {ns : Names} (x : Constant) → Constants ns x → Prints ns ns gr.some_item (constant_words x) After (Some_item x)
has_some_item x k = has_some (name_leads x.name k.is_name starts_name) (has_map (has_item x k) (λ m h. (m, refl, h)))

each_item : {ns : Names} (xs : List Constant) → All (Constants ns) xs → Each gr.some_item constant_words After Some_item xs ns ns
each_item [] k = Each.none
each_item (x ∷ xs) k = Each.more (has_some_item x k.0) (each_item xs k.1)

more_items_listed : (xs : List Constant) → behind_commas (map constant_words xs) ≡ more_item_words (items (map constant_of xs))
more_items_listed [] = refl
more_items_listed (x ∷ xs) = ap (λ ws. comma ∷ word x.name ∷ (value_words (maybe_expr x.value) ++ ws)) (more_items_listed xs)

abbrev SameItems : List Constant → Items → Type 0
SameItems xs l = (l.ended ≡ false) × Matched SameItem xs l.items

next_item : (xs : List Constant) (x : Constant) (o : Option Item) (l : Items) → SameItems xs l → Some_item x o → SameItems (xs ++ (x ∷ [])) (gr.more_items o l)
next_item xs x o l h g = subst (λ o. SameItems (xs ++ (x ∷ [])) (gr.more_items o l)) (sym g.1) (refl, matched_pushed SameItem xs x l.items g.0.item h.1 g.2)

open_items : (l : Items) → l.ended ≡ false → gr.not_ended l s.Comma ≡ true
open_items l h = rw h refl

pub has_items : {ns : Names} (x : Constant) (xs : List Constant) → All (Constants ns) (x ∷ xs) → Prints ns ns gr.braced_items (in_braces (item_words (items (map constant_of (x ∷ xs))))) Any (λ l. Matched SameItem (x ∷ xs) l.items)
has_items {ns = ns} x xs k = has_behind (has_token Signs.left_brace_sorted (λ t w. w)) lead_any (has_before parts (lead s.RBrace Signs.right_brace_sorted ((refl, refl), refl)) (has_token Signs.right_brace_sorted (λ t w. w)))
  where
    parts : Prints ns ns gr.items (item_words (items (map constant_of (x ∷ xs)))) (Last After) (λ l. Matched SameItem (x ∷ xs) l.items)
    parts = has_words (ap (λ ws. constant_words x ++ ws) (more_items_listed xs)) (has_less (λ y h. h) (λ l h. h.1) (has_listed gr.some_item constant_words After Some_item gr.not_ended gr.more_items (λ x. gr.when (gr.is_comma x) gr.another_item) SameItems
        (refl, refl) next_item (λ xs l h. open_items l h.0) (λ spare u v f h. h) x xs (has_map (has_item x k.0) (λ m h. (refl, (h, tt)))) (each_item xs k.1)))

pub items_same : (xs : List Constant) (l : List EnumItem) → Matched SameItem xs l → placeless_items (items (map item_of l)) ≡ placeless_items (items (map constant_of xs))
items_same [] [] h = refl
items_same [] (m ∷ l) h = absurd h
items_same (x ∷ xs) [] h = absurd h
items_same (x ∷ xs) (m ∷ l) h = ap (λ (z : v.Item). p.more_items z.0 (placeless_maybe z.1) nowhere (placeless_items (items (map item_of l)))) (view.item_view m) ∙ three h.0.name h.0.value (items_same xs l h.1)
  where
    three : {a b : List ℕ} {d e : p.MaybeExpr} {m n : p.Items} → a ≡ b → d ≡ e → m ≡ n → p.more_items a d nowhere m ≡ p.more_items b e nowhere n
    three f g h = rw (f, g, h) refl

pub basic_enum_of : {ns : Names} (tag : Option (List ℕ)) (x : Constant) (xs : List Constant) → Tagged tag → All (Constants ns) (x ∷ xs) → Basic ns (p.enum_of tag (items (map constant_of (x ∷ xs))))
basic_enum_of {ns = ns} None x xs n k = record {
  prints = has_by s.Enum (lead s.Enum Signs.enum_sorted refl) (has_less (λ y h. tt) (λ c h. h) (has_seq {Q = λ f. (o : Token) → IsBase It (f o)} (has_token Signs.enum_sorted (λ t w. w)) lead_any
      (has_by s.LBrace (lead s.LBrace Signs.left_brace_sorted refl) (has_map (has_items x xs k) (λ f h o. plain_is It (base.Enum None (Some f.items)) f.height o.pos (ap placeless_base (view.enum_of_base None f.items) ∙ ap (λ g. p.enum_of None g) (items_same (x ∷ xs) f.items h)))))
      (λ o f w h. h o)));
}
  where
    It : p.Base
    It = p.enum_of None (items (map constant_of (x ∷ xs)))
basic_enum_of {ns = ns} (Some n) x xs i k = record {
  prints = has_by s.Enum (lead s.Enum Signs.enum_sorted refl) (has_less (λ y h. tt) (λ c h. h) (has_seq {Q = λ f. (o : Token) → IsBase It (f o)} (has_token Signs.enum_sorted (λ t w. w)) lead_any
      (has_by_some (λ y. Rattle.nesc_tree.specs.Sorts.same_sort y s.LBrace ≡ false) (name_leads n i no_brace) enum_at (has_seq {Q = λ f. (g : Items) × (f ≡ Some g) × Matched SameItem (x ∷ xs) g.items} (has_name ns n i) lead_any
      (has_some (lead s.LBrace Signs.left_brace_sorted refl) (has_map (has_items x xs k) (λ f h. (f, refl, h))))
      (λ t f h g o. subst (λ f. IsBase It (gr.enum_type (Some t.text) f o)) (sym g.1) (plain_is It (base.Enum (Some t.text) (Some g.0.items)) g.0.height o.pos (ap placeless_base (view.enum_of_base (Some t.text) g.0.items) ∙ two (λ m g. p.enum_of (Some m) g) h (items_same (x ∷ xs) g.0.items g.2))))))
      (λ o f w h. h o)));
}
  where
    It : p.Base
    It = p.enum_of (Some n) (items (map constant_of (x ∷ xs)))
