-- Initialisers and attributes are printed, and read again as the same up to places.
use Rattle.std.proofs.Common.{◌≡◌, ℕ, zero, suc, Bool, true, false, List, [], ◌∷◌, ◌++◌, map, Option, Some, None, refl, sym, ap, subst, ◌∙◌, append_assoc, rules}
use Rattle.std.specs.Prelude.{codes, option_map}
use Rattle.nm_base.specs.declared.token.Token.{Token}
use Rattle.nesc_tree.specs.declared.sorts.Sort.{Sort}
use Rattle.nesc_tree.specs.declared.sorts.Sort.TheVariants as s
use Rattle.nesc_tree.specs.declared.tree.Expr as tree
use Rattle.nesc_tree.specs.declared.operand.Operand.{Operand}
use Rattle.nesc_tree.specs.declared.operand.Inits.{Inits}
use Rattle.nesc_tree.specs.declared.declarations.Init as init
use Rattle.nesc_tree.specs.declared.declarations.Init.{Init}
use Rattle.nesc_tree.specs.declared.declarations.Attr.{Attr}
use Rattle.nesc_tree.specs.declared.declarations.AttrArg.TheVariants as arg
use Rattle.nesc_tree.specs.declared.declarations.AttrArg.{AttrArg}
use Rattle.nesc_tree.specs.View.{expr_of}
use Rattle.nesc_tree.specs.Sorts.{Names, same_sort}
use Rattle.nesc_tree.specs.Phrase.{Phrase, Of, begins_expr}
use Rattle.nesc_tree.specs.Form.{Form, Place, Spells, SpellsIn, starts}
use Rattle.nesc_grammar.specs.Production.{production}
use Rattle.nesc_grammar.specs.Grammar as gr
use Rattle.nesc_grammar.specs.Grammar.{may}
use Rattle.nesc_grammar.specs.Declarations as inner
use Rattle.nesc_print_words.specs.Lexemes.{Words, word, sign, comma, literal, in_parentheses, in_braces, listed, behind_commas, joined}
use Rattle.nesc_print_words.specs.Expressions.{words_at}
use Rattle.nesc_print_words.specs.Declarations.{init_words, attr_arg_words, attr_words, attrs_words}
use Rattle.nesc_print_laws.specs.Placeless.{placeless}
use Rattle.nesc_print_laws.specs.Shapes as shape
use Rattle.nesc_print_laws.specs.Shapes.{init_shape, inits, arg_shape, attr_shape, expr_shape}
use Rattle.nesc_print_laws.proofs.Texts.{Prints, Leads, Any, lead, lead_any, lead_before, has_token, has_seq, has_map, has_behind, has_before, has_by, has_by_some, has_some, has_nothing, has_phrase, has_words, has_less}
use Rattle.nesc_print_laws.proofs.Signs
use Rattle.nesc_print_laws.proofs.Names.{text_is, IsName, text_sorted, has_name}
use Rattle.nesc_print_laws.proofs.Runs.{Bare, Same, operand, operand_leads}
use Rattle.nesc_print_laws.proofs.Lists.{Each, has_listed, Last, Row}
use Rattle.nesc_print_laws.proofs.Exprs.{two}
use Rattle.nesc_print_laws.proofs.Calls.{All}
use Rattle.nesc_print_laws.proofs.Fields.{Matched, matched_pushed}
use Rattle.nesc_print_laws.proofs.Changed.{has_inner_list, has_repeated, Pushes, matched_map}

-- ---- initialisers

abbrev pub SameInit : Init → Init → Type 0
SameInit x y = init_shape y ≡ init_shape x

pub record Initial (ns : Names) (x : Init) : Type 0 where
  pub prints : Prints ns ns inner.init (init_words x) (λ y. may 1 y ≡ false) (SameInit x)
  pub leads : Leads ns ns (init_words x) (λ y. may 1 y ≡ false) (λ y. starts inner.init y ≡ true)

one_words : (e : tree.Expr) → init_words (init.One e) ≡ words_at 1 (expr_of e)
one_words e = search (rules, init.the_lemmas)

one_shape : (e : tree.Expr) → init_shape (init.One e) ≡ shape.Init.one (expr_shape e)
one_shape e = search (rules, init.the_lemmas)

many_words : (l : List Init) → init_words (init.Many l) ≡ in_braces (listed (map init_words l))
many_words l = search (rules, init.the_lemmas)

many_shape : (l : List Init) → init_shape (init.Many l) ≡ shape.Init.many (inits (map init_shape l))
many_shape l = search (rules, init.the_lemmas)

init_at : (y : Sort) → begins_expr y ≡ true → (spare : ℕ) (u v : Place) (x : Init) → Spells spare (SpellsIn production spare) (gr.map (λ (a : Operand). init.One a.expr) (gr.expr 1)) u x v → Spells spare (SpellsIn production spare) (inner.init_of y) u x v
init_at s.LBrace c spare u v x h = absurd cc
init_at _ c spare u v x h = h

expr_starts : (y : Sort) → begins_expr y ≡ true → starts inner.init y ≡ true
expr_starts s.Word c = refl
expr_starts s.Number c = refl
expr_starts s.Char c = refl
expr_starts s.LParen c = refl
expr_starts s.Plus c = refl
expr_starts s.Minus c = refl
expr_starts s.Star c = refl
expr_starts s.Amp c = refl
expr_starts s.Complement c = refl
expr_starts s.Step c = refl
expr_starts s.SizeOf c = refl
expr_starts s.Null c = refl
expr_starts s.Unique c = refl
expr_starts s.PortRead c = refl
expr_starts s.PortWrite c = refl
expr_starts s.Post c = refl
expr_starts s.Call c = refl
expr_starts _ c = absurd cc

leads_on : {ns ms : Names} {ws : Words} {F G H : Sort → Type 0} → ((y : Sort) → G y → H y) → Leads ns ms ws F G → Leads ns ms ws F H
leads_on k j = record { leads = λ ts us r f. k _ (j.leads ts us r f) }

pub initial_one : {ns : Names} (e : tree.Expr) → Bare ns (expr_of e) → Initial ns (init.One e)
initial_one {ns = ns} e b = record {
  prints = has_words (sym (one_words e)) (has_by_some (λ y. begins_expr y ≡ true) (operand_leads b 1) init_at (has_map (operand b 1 (λ a h. h)) (λ a h. one_shape a.expr ∙ (ap shape.Init.one h ∙ sym (one_shape e)))));
  leads = subst (λ ws. Leads ns ns ws (λ y. may 1 y ≡ false) (λ y. starts inner.init y ≡ true)) (sym (one_words e)) (leads_on expr_starts (operand_leads b 1));
}

abbrev Some_init : Init → Option Init → Type 0
Some_init x o = (y : Init) × (o ≡ Some y) × SameInit x y

some_starts : (y : Sort) → starts inner.init y ≡ true → starts (gr.map (λ (x : Init). Some x) inner.init) y ≡ true
some_starts y h = rw h refl

each_init : {ns : Names} (l : List Init) → All (Initial ns) l → Each (inner.some inner.init) init_words (λ y. may 1 y ≡ false) Some_init l ns ns
each_init [] k = Each.none
each_init (x ∷ l) k = Each.more (has_some (leads_on some_starts k.0.leads) (has_map k.0.prints (λ y h. (y, refl, h)))) (each_init l k.1)

abbrev SameInits : List Init → Inits → Type 0
SameInits xs l = (l.ended ≡ false) × Matched SameInit xs l.list

next_init : (xs : List Init) (x : Init) (o : Option Init) (l : Inits) → SameInits xs l → Some_init x o → SameInits (xs ++ (x ∷ [])) (inner.more_inits o l)
next_init xs x o l h g = subst (λ o. SameInits (xs ++ (x ∷ [])) (inner.more_inits o l)) (sym g.1) (refl, matched_pushed SameInit xs x l.list g.0 h.1 g.2)

open_inits : (l : Inits) → l.ended ≡ false → inner.is_open l s.Comma ≡ true
open_inits l h = rw h refl

-- between braces
pub has_braces : {ns : Names} (x : Init) (xs : List Init) → All (Initial ns) (x ∷ xs) → Prints ns ns (production Phrase.braces) (init_words (init.Many (x ∷ xs))) Any (SameInit (init.Many (x ∷ xs)))
has_braces {ns = ns} x xs k = has_words (sym (many_words (x ∷ xs))) (has_by s.LBrace (lead s.LBrace Signs.left_brace_sorted refl) (has_map (has_behind (has_token Signs.left_brace_sorted (λ t w. w)) lead_any
    (has_before parts (lead s.RBrace Signs.right_brace_sorted (refl, refl)) (has_token Signs.right_brace_sorted (λ t w. w))))
    (λ l h. many_shape l.list ∙ (ap (λ ys. shape.Init.many (inits ys)) (matched_map init_shape (x ∷ xs) l.list h) ∙ sym (many_shape (x ∷ xs))))))
  where
    parts : Prints ns ns inner.inits (listed (map init_words (x ∷ xs))) (Last (λ y. may 1 y ≡ false)) (λ l. Matched SameInit (x ∷ xs) l.list)
    parts = has_less (λ y h. h) (λ l h. h.1) (has_listed (inner.some inner.init) init_words (λ y. may 1 y ≡ false) Some_init inner.is_open inner.more_inits (λ x. gr.when (gr.is_comma x) inner.another_init) SameInits
        refl next_init (λ xs l h. open_inits l h.0) (λ spare u v f h. h) x xs (has_map k.0.prints (λ y h. (refl, (h, tt)))) (each_init xs k.1))

pub initial_many : {ns : Names} (x : Init) → Prints ns ns (production Phrase.braces) (init_words x) Any (SameInit x) → Leads ns ns (init_words x) Any (λ y. y ≡ s.LBrace) → Initial ns x
initial_many {ns = ns} x u j = record { prints = has_less (λ y h. tt) (λ a h. h) (has_by s.LBrace j (has_phrase {k = Phrase.braces} u (λ a h. h))); leads = record { leads = λ ts us r f. by _ (j.leads ts us r tt) } }
  where
    by : (y : Sort) → y ≡ s.LBrace → starts inner.init y ≡ true
    by y e = rw e refl

pub braces_lead : {ns : Names} (l : List Init) → Leads ns ns (init_words (init.Many l)) Any (λ y. y ≡ s.LBrace)
braces_lead {ns = ns} l = subst (λ ws. Leads ns ns ws Any (λ y. y ≡ s.LBrace)) (sym (many_words l)) (lead s.LBrace Signs.left_brace_sorted refl)

-- ---- attributes

abbrev pub SameArg : AttrArg → AttrArg → Type 0
SameArg x y = arg_shape y ≡ arg_shape x

abbrev Listed_args : Form (List AttrArg)
Listed_args = inner.listed (Form.by inner.attribute_argument_of)

pub record Argument (ns : Names) (x : AttrArg) : Type 0 where
  pub prints : Prints ns ns (Form.by inner.attribute_argument_of) (attr_arg_words x) (λ y. may 2 y ≡ false) (SameArg x)
  pub leads : Leads ns ns (attr_arg_words x) (λ y. may 2 y ≡ false) (λ y. starts Listed_args y ≡ true)

value_at : (y : Sort) → begins_expr y ≡ true → (spare : ℕ) (u v : Place) (x : AttrArg) → Spells spare (SpellsIn production spare) (gr.map (λ (a : Operand). arg.Value a.expr) (gr.expr 2)) u x v → Spells spare (SpellsIn production spare) (inner.attribute_argument_of y) u x v
value_at s.Text c spare u v x h = absurd cc
value_at _ c spare u v x h = h

arg_starts : (y : Sort) → begins_expr y ≡ true → starts Listed_args y ≡ true
arg_starts s.Word c = refl
arg_starts s.Number c = refl
arg_starts s.Char c = refl
arg_starts s.LParen c = refl
arg_starts s.Plus c = refl
arg_starts s.Minus c = refl
arg_starts s.Star c = refl
arg_starts s.Amp c = refl
arg_starts s.Complement c = refl
arg_starts s.Step c = refl
arg_starts s.SizeOf c = refl
arg_starts s.Null c = refl
arg_starts s.Unique c = refl
arg_starts s.PortRead c = refl
arg_starts s.PortWrite c = refl
arg_starts s.Post c = refl
arg_starts s.Call c = refl
arg_starts _ c = absurd cc

pub argument_text : {ns : Names} (text : List ℕ) → Argument ns (arg.Text text)
argument_text text = record {
  prints = has_by s.Text (lead s.Text (text_sorted text) refl) (has_less (λ y h. tt) (λ a h. h) (has_map (has_token (text_sorted text) (λ t w. text_is t w)) (λ t w. ap shape.AttrArg.text w)));
  leads = lead s.Text (text_sorted text) refl;
}

pub argument_value : {ns : Names} (e : tree.Expr) → Bare ns (expr_of e) → Argument ns (arg.Value e)
argument_value e b = record {
  prints = has_by_some (λ y. begins_expr y ≡ true) (operand_leads b 2) value_at (has_map (operand b 2 (λ a h. h)) (λ a h. ap shape.AttrArg.value h));
  leads = leads_on arg_starts (operand_leads b 2);
}

each_arg : {ns : Names} (l : List AttrArg) → All (Argument ns) l → Each (Form.by inner.attribute_argument_of) attr_arg_words (λ y. may 2 y ≡ false) SameArg l ns ns
each_arg [] k = Each.none
each_arg (x ∷ l) k = Each.more k.0.prints (each_arg l k.1)

has_args : {ns : Names} (l : List AttrArg) → All (Argument ns) l → Prints ns ns inner.attribute_arguments (in_parentheses (listed (map attr_arg_words l))) Any (Matched SameArg l)
has_args [] k = has_behind (has_token Signs.opening_sorted (λ t w. w)) lead_any (has_before (has_nothing {P = Matched SameArg []} tt) (lead s.RParen Signs.closing_sorted refl) (has_token Signs.closing_sorted (λ t w. w)))
has_args {ns = ns} (x ∷ xs) k = has_behind (has_token Signs.opening_sorted (λ t w. w)) lead_any (has_before (has_some begun (has_inner_list (Form.by inner.attribute_argument_of) attr_arg_words (λ y. may 2 y ≡ false) SameArg refl x xs (each_arg (x ∷ xs) k)))
    (lead s.RParen Signs.closing_sorted (refl, refl)) (has_token Signs.closing_sorted (λ t w. w)))
  where
    behind : (xs : List AttrArg) → Leads ns ns (behind_commas (map attr_arg_words xs)) (Last (λ y. may 2 y ≡ false)) (λ y. may 2 y ≡ false)
    behind [] = Rattle.nesc_print_laws.proofs.Texts.lead_on (λ y h. h.0)
    behind (x ∷ xs) = lead s.Comma Signs.comma_sorted refl

    begun : Leads ns ns (listed (map attr_arg_words (x ∷ xs))) (Last (λ y. may 2 y ≡ false)) (λ y. starts Listed_args y ≡ true)
    begun = lead_before k.0.leads (behind xs)

abbrev pub SameAttr : Attr → Attr → Type 0
SameAttr x y = attr_shape y ≡ attr_shape x

pub record Attribute (ns : Names) (x : Attr) : Type 0 where
  pub is_name : IsName x.name
  pub args : All (Argument ns) x.args

pub has_attribute : {ns : Names} (x : Attr) → Attribute ns x → Prints ns ns inner.attribute (attr_words x) Any (SameAttr x)
has_attribute {ns = ns} x k = has_seq (has_behind (has_token Signs.at_sign_sorted (λ t w. w)) lead_any (has_name ns x.name k.is_name)) lead_any (has_args x.args k.args)
    (λ t l h g. two (λ n l. record { name = n; args = l }) h (matched_map arg_shape x.args l g))

each_attribute : {ns : Names} (l : List Attr) → All (Attribute ns) l → Row (λ x. gr.when (inner.is_at x) (gr.map inner.added inner.attribute)) attr_words Any (Pushes SameAttr) inner.is_at l ns ns
each_attribute [] k = Row.none
each_attribute (x ∷ l) k = Row.more (has_by s.At (lead s.At Signs.at_sign_sorted refl) (has_map (has_attribute x k.0) (λ a h l. (a, h, refl)))) (lead s.At Signs.at_sign_sorted refl) (each_attribute l k.1)

pub has_attributes : {ns : Names} (l : List Attr) → All (Attribute ns) l → Prints ns ns inner.attributes (attrs_words l) (λ y. inner.is_at y ≡ false) (Matched SameAttr l)
has_attributes l k = has_less (λ y h. (tt, h)) (λ a h. h) (has_repeated inner.is_at (λ x. gr.when (inner.is_at x) (gr.map inner.added inner.attribute)) attr_words Any SameAttr (λ y h. tt) l (each_attribute l k))
