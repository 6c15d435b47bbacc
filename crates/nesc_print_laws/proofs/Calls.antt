-- Calls, ports, casts and sizes are printed, and read again as the same up to places.
use Rattle.std.proofs.Common.{◌≡◌, ℕ, Bool, true, false, List, [], ◌∷◌, ◌++◌, map, Option, Some, None, refl, sym, ap, subst, ◌∙◌, append_assoc}
use Rattle.std.proofs.lemmas.List.{map-append}
use Rattle.std.specs.Prelude.{codes, option_map}
use Rattle.nm_base.specs.declared.pos.Pos.{Pos}
use Rattle.nm_base.specs.declared.token.Token.{Token}
use Rattle.nesc_tree.specs.declared.sorts.Sort.{Sort}
use Rattle.nesc_tree.specs.declared.sorts.Sort.TheVariants as s
use Rattle.nesc_tree.specs.declared.tree.Expr as tree
use Rattle.nesc_tree.specs.declared.operand.Arguments.{Arguments}
use Rattle.nesc_tree.specs.Plain as p
use Rattle.nesc_tree.specs.View.{expr_of, exprs, maybe_expr}
use Rattle.nesc_tree.specs.Sorts.{Names}
use Rattle.nesc_tree.specs.Phrase.{begins_expr}
use Rattle.nesc_tree.specs.Form.{Place, Spells, SpellsIn}
use Rattle.nesc_grammar.specs.Production.{production}
use Rattle.nesc_grammar.specs.Grammar as gr
use Rattle.nesc_grammar.specs.Grammar.{primary, may}
use Rattle.nesc_print_words.specs.Lexemes.{Words, sign, comma, in_parentheses, listed, behind_commas}
use Rattle.nesc_print_words.specs.Expressions.{words_at, argument_words, more_argument_words, parameter_words, call_word}
use Rattle.nesc_print_laws.specs.Placeless.{nowhere, placeless, placeless_exprs, placeless_maybe}
use Rattle.nesc_print_laws.proofs.Texts.{Prints, Leads, Any, lead, lead_any, lead_before, has_token, has_seq, has_map, has_behind, has_before, has_by, has_by_some, has_some, has_nothing, has_words, has_less}
use Rattle.nesc_print_laws.proofs.Signs
use Rattle.nesc_print_laws.proofs.Signs.{call_sorted}
use Rattle.nesc_print_laws.proofs.Names.{text_is, IsName, has_name}
use Rattle.nesc_print_laws.proofs.Runs.{Bare, Is, Same, leaf, grows, operand, operand_leads}
use Rattle.nesc_print_laws.proofs.Lists.{Each, has_listed}
use Rattle.nesc_print_laws.proofs.Views as view
use Rattle.nesc_print_laws.proofs.Exprs.{two}

-- ---- arguments

abbrev pub All : {X : Type 0} → (X → Type 0) → List X → Type 0
All P [] = Unit {0}
All P (x ∷ xs) = P x × All P xs

abbrev pub SameAll : List p.Expr → List tree.Expr → Type 0
SameAll es l = map placeless (map expr_of l) ≡ map placeless es

placeless_each : (es : List p.Expr) → placeless_exprs (exprs es) ≡ exprs (map placeless es)
placeless_each [] = refl
placeless_each (e ∷ es) = ap (λ x. p.more_exprs (placeless e) x) (placeless_each es)

pub exprs_same : (es : List p.Expr) (l : List tree.Expr) → SameAll es l → placeless_exprs (exprs (map expr_of l)) ≡ placeless_exprs (exprs es)
exprs_same es l h = placeless_each (map expr_of l) ∙ (ap exprs h ∙ sym (placeless_each es))

pub same_pushed : (es : List p.Expr) (e : p.Expr) (l : List tree.Expr) (a : tree.Expr) → SameAll es l → placeless (expr_of a) ≡ placeless e → SameAll (es ++ (e ∷ [])) (l ++ (a ∷ []))
same_pushed es e l a g h = ap (map placeless) (map-append expr_of l (a ∷ [])) ∙ (map-append placeless (map expr_of l) (expr_of a ∷ []) ∙ (two (λ x y. x ++ (y ∷ [])) g h ∙ sym (map-append placeless es (e ∷ []))))

pub more_arguments : (es : List p.Expr) → more_argument_words (exprs es) ≡ behind_commas (map (words_at 1) es)
more_arguments [] = refl
more_arguments (e ∷ es) = ap (λ ws. comma ∷ (words_at 1 e ++ ws)) (more_arguments es)

each_argument : {ns : Names} (es : List p.Expr) → All (Bare ns) es → Each (gr.expr 1) (words_at 1) (λ y. may 1 y ≡ false) Same es ns ns
each_argument [] b = Each.none
each_argument (e ∷ es) b = Each.more (operand b.0 1 (λ a h. h)) (each_argument es b.1)

arguments_behind : (y : Sort) → begins_expr y ≡ true → (spare : ℕ) (p q : Place) (a : Arguments) → Spells spare (SpellsIn production spare) (gr.before gr.some_arguments (gr.one s.RParen)) p a q
    → Spells spare (SpellsIn production spare) (gr.arguments_of y) p a q
arguments_behind s.RParen c spare p q a h = absurd cc
arguments_behind _ c spare p q a h = h

pub has_arguments : {ns : Names} (es : List p.Expr) → All (Bare ns) es → Prints ns ns gr.arguments (in_parentheses (argument_words (exprs es))) Any (λ l. SameAll es l.exprs)
has_arguments [] b = has_behind (has_token Signs.opening_sorted (λ t w. w)) lead_any (has_by s.RParen (lead s.RParen Signs.closing_sorted refl) (has_map (has_token Signs.closing_sorted (λ t w. w)) (λ t w. refl)))
has_arguments {ns = ns} (e ∷ es) b = has_behind (has_token Signs.opening_sorted (λ t w. w)) lead_any (has_by_some (λ y. begins_expr y ≡ true) begun arguments_behind (has_before parts (lead s.RParen Signs.closing_sorted (refl, refl)) (has_token Signs.closing_sorted (λ t w. w))))
  where
    ws : argument_words (exprs (e ∷ es)) ≡ listed (map (words_at 1) (e ∷ es))
    ws = ap (λ x. words_at 1 e ++ x) (more_arguments es)

    parts : Prints ns ns gr.some_arguments (argument_words (exprs (e ∷ es))) (λ y. (may 1 y ≡ false) × (gr.is_comma y ≡ false)) (λ l. SameAll (e ∷ es) l.exprs)
    parts = has_words (sym ws) (has_listed (gr.expr 1) (words_at 1) (λ y. may 1 y ≡ false) Same (λ _ _. true) gr.pushed (λ _. gr.map gr.pushed (gr.behind (gr.one s.Comma) (gr.expr 1))) (λ xs l. SameAll xs l.exprs)
        refl (λ xs x a l g h. same_pushed xs x l.exprs a.expr g h) (λ xs l h. refl) (λ spare p q f h. h) e es (has_map (operand b.0 1 (λ a h. h)) (λ a h. ap (λ y. y ∷ []) h)) (each_argument es b.1))

    begun : Leads ns ns (argument_words (exprs (e ∷ es)) ++ (sign (codes ")") ∷ [])) Any (λ y. begins_expr y ≡ true)
    begun = subst (λ x. Leads ns ns x Any (λ y. begins_expr y ≡ true)) (sym (append_assoc (words_at 1 e) (more_argument_words (exprs es)) (sign (codes ")") ∷ []))) (lead_before (operand_leads b.0 1) (behind es))
      where
        behind : (es : List p.Expr) → Leads ns ns (more_argument_words (exprs es) ++ (sign (codes ")") ∷ [])) Any (λ y. may 1 y ≡ false)
        behind [] = lead s.RParen Signs.closing_sorted refl
        behind (e ∷ es) = lead s.Comma Signs.comma_sorted refl

pub bare_call_fn : {ns : Names} (at : Pos) {a : p.Expr} → Bare ns a → (es : List p.Expr) → All (Bare ns) es → Bare ns (p.call_fn a (exprs es) at)
bare_call_fn at {a = a} x es b = grows a (p.call_fn a (exprs es) at) {F = Any} s.LParen 15 x refl (λ z h. tt) refl refl refl refl refl (lead s.LParen Signs.opening_sorted refl)
    (has_map (has_arguments es b) (λ l h. record { level = refl; node = λ c from g. ap placeless (view.call_fn_view from c l.exprs) ∙ two (λ u v. p.call_fn u v nowhere) g (exprs_same es l.exprs h) }))

signal_back : (b : Bool) (t : Token) → t.text ≡ call_word b → gr.is_signal t ≡ b
unfolding gr.is_signal
signal_back true t h = rw h refl
signal_back false t h = rw h refl

abbrev pub Maybe : Names → Option p.Expr → Type 0
Maybe ns None = Unit {0}
Maybe ns (Some e) = Bare ns e

abbrev pub SameMaybe : Option p.Expr → Option tree.Expr → Type 0
SameMaybe e a = placeless_maybe (maybe_expr (option_map expr_of a)) ≡ placeless_maybe (maybe_expr e)

has_param : {ns : Names} (o : Option p.Expr) → Maybe ns o → Prints ns ns gr.param (parameter_words (maybe_expr o)) (λ x. x ≡ s.LParen) (λ a. SameMaybe o (gr.value_of a))
has_param None b = has_less (λ x e. rw e refl) (λ a h. h) (has_nothing refl)
has_param (Some e) b = has_less (λ x e. tt) (λ a h. h) (has_some (lead s.LBracket Signs.left_bracket_sorted refl) (has_map (has_behind (has_token Signs.left_bracket_sorted (λ t w. w)) lead_any
    (has_before (operand b 1 (λ a h. h)) (lead s.RBracket Signs.right_bracket_sorted refl) (has_token Signs.right_bracket_sorted (λ t w. w)))) (λ a h. ap p.some_expr h)))

param_leads : {ns : Names} (o : Option p.Expr) (ws : Words) → Leads ns ns (parameter_words (maybe_expr o) ++ (sign (codes "(") ∷ ws)) Any Any
param_leads o ws = lead_any

module _ (at : Pos) (c : Bool) (n i : List ℕ) (o : Option p.Expr) (es : List p.Expr) where
  abbrev Item : p.Expr
  Item = p.call_item c n i (maybe_expr o) (exprs es) at

  five : {b : Bool} {m j : List ℕ} {u : p.MaybeExpr} {v : p.Exprs} → b ≡ c → m ≡ n → j ≡ i → u ≡ placeless_maybe (maybe_expr o) → v ≡ placeless_exprs (exprs es) → p.call_item b m j u v nowhere ≡ placeless Item
  five wo we wi u v = rw (wo, we, wi, u, v) refl

  pub bare_call_item : {ns : Names} → IsName n → IsName i → Maybe ns o → All (Bare ns) es → Bare ns Item
  bare_call_item {ns = ns} g k b x = leaf {F = Any} (λ z h. tt) (λ d. has_by s.Call (lead s.Call (call_sorted c) refl) (has_seq {Q = λ f. (on : Token) → gr.is_signal on ≡ c → Is Item (f on)} (has_token (call_sorted c) (λ t w. signal_back c t (text_is t w))) lead_any
      (has_seq {Q = λ f. (en on : Token) → en.text ≡ n → gr.is_signal on ≡ c → Is Item (f en on)} (has_name ns n g) lead_any
      (has_seq {Q = λ f. (it en on : Token) → it.text ≡ i → en.text ≡ n → gr.is_signal on ≡ c → Is Item (f it en on)} (has_behind (has_token Signs.dot_sorted (λ t w. w)) lead_any (has_name ns i k)) lead_any
      (has_seq (has_param o b) (lead s.LParen Signs.opening_sorted refl) (has_arguments es x)
      (λ po l u v. λ it en on wi we wo. record { same = ap placeless (view.call_item_view on.pos (gr.is_signal on) en.text it.text (gr.value_of po) l.exprs) ∙ five wo we wi u (exprs_same es l.exprs v); level = refl }))
      (λ it f wi h. λ en on we wo. h it en on wi we wo)) (λ en f we h. λ on wo. h en on we wo)) (λ on f wo h. h on wo)))

-- ---- ports

module _ {ns : Names} (at : Pos) {a : p.Expr} (x : Bare ns a) where
  pub bare_port_read : Bare ns (p.port_read a at)
  bare_port_read = leaf {F = Any} (λ z h. tt) (λ d. has_by s.PortRead (lead s.PortRead Signs.port_read_sorted refl) (has_seq (has_token Signs.port_read_sorted (λ t w. w)) lead_any
      (has_behind (has_token Signs.opening_sorted (λ t w. w)) lead_any (has_before (operand x 2 (λ a h. h)) (lead s.RParen Signs.closing_sorted refl) (has_token Signs.closing_sorted (λ t w. w))))
      (λ o v w h. record { same = ap placeless (view.port_read_view o.pos v.expr) ∙ ap (λ u. p.port_read u nowhere) h; level = refl })))

  pub bare_port_write : {b : p.Expr} → Bare ns b → Bare ns (p.port_write a b at)
  bare_port_write {b = b} y = leaf {F = Any} (λ z h. tt) (λ d. has_by s.PortWrite (lead s.PortWrite Signs.port_write_sorted refl) (has_seq {Q = λ f. (o : Token) → Is (p.port_write a b at) (f o)} (has_token Signs.port_write_sorted (λ t w. w)) lead_any
      (has_words words (has_seq {R = λ f. (o : Token) → Is (p.port_write a b at) (f o)} (has_behind (has_token Signs.opening_sorted (λ t w. w)) lead_any (has_before (operand x 2 (λ a h. h)) (lead s.Comma Signs.comma_sorted refl) (has_token Signs.comma_sorted (λ t w. w))))
      lead_any (has_before (operand y 1 (λ a h. h)) (lead s.RParen Signs.closing_sorted refl) (has_token Signs.closing_sorted (λ t w. w)))
      (λ v z h g. λ o. record { same = ap placeless (view.port_write_view o.pos v.expr z.expr) ∙ two (λ u v. p.port_write u v nowhere) h g; level = refl })))
      (λ o f w h. h o)))
    where
      words : (sign (codes "(") ∷ (words_at 2 a ++ (comma ∷ []))) ++ (words_at 1 b ++ (sign (codes ")") ∷ [])) ≡ in_parentheses (words_at 2 a ++ (comma ∷ words_at 1 b))
      words = ap (λ ws. sign (codes "(") ∷ ws) (append_assoc (words_at 2 a) (comma ∷ []) (words_at 1 b ++ (sign (codes ")") ∷ [])) ∙ sym (append_assoc (words_at 2 a) (comma ∷ words_at 1 b) (sign (codes ")") ∷ [])))
