-- The words of initialisers, attributes, declarations in blocks and statements are whole.
use Rattle.std.proofs.Common.{◌≡◌, ℕ, zero, suc, Bool, true, false, List, [], ◌∷◌, map, Option, Some, None, refl, rules}
use Rattle.std.specs.Prelude.{codes, option_map}
use Rattle.nm_base.specs.declared.pos.Pos.{Pos}
use Rattle.nm_base.specs.declared.token.Token.{Token}
use Rattle.nesc_tokens.specs.Spelling.{signs}
use Rattle.nesc_tree.specs.declared.sorts.Sort.{Sort}
use Rattle.nesc_tree.specs.declared.sorts.Sort.TheVariants as s
use Rattle.nesc_tree.specs.declared.contexts.Jumps.{Jumps}
use Rattle.nesc_tree.specs.declared.contexts.Jumps.TheVariants as jumps
use Rattle.nesc_tree.specs.declared.tree.Expr as tree
use Rattle.nesc_tree.specs.declared.tree.TypeSpec.{TypeSpec}
use Rattle.nesc_tree.specs.declared.operand.CastType.{CastType}
use Rattle.nesc_tree.specs.declared.operand.Operand.{Operand}
use Rattle.nesc_tree.specs.declared.operand.Inits.{Inits}
use Rattle.nesc_tree.specs.declared.declarations.Attr.{Attr}
use Rattle.nesc_tree.specs.declared.declarations.AttrArg.{AttrArg}
use Rattle.nesc_tree.specs.declared.declarations.Init as init
use Rattle.nesc_tree.specs.declared.declarations.Init.{Init}
use Rattle.nesc_tree.specs.declared.declarations.Variable.{Variable}
use Rattle.nesc_tree.specs.declared.declarations.VarGroup.{VarGroup}
use Rattle.nesc_tree.specs.declared.declarations.ForStart.{ForStart}
use Rattle.nesc_tree.specs.declared.declarations.ForStart.TheVariants as start
use Rattle.nesc_tree.specs.declared.declarations.Decl as decl
use Rattle.nesc_tree.specs.declared.declarations.Decl.{Decl}
use Rattle.nesc_tree.specs.declared.declarations.Stmt as st
use Rattle.nesc_tree.specs.declared.declarations.Stmt.{Stmt}
use Rattle.nesc_tree.specs.View.{expr_of}
use Rattle.nesc_tree.specs.Phrase.{Phrase, Of, begins_type, begins_expr, begins_local, begins_label, may_break, may_continue}
use Rattle.nesc_tree.specs.Form.{Form, Place, SpellsIn}
use Rattle.nesc_grammar.specs.Production.{production}
use Rattle.nesc_grammar.specs.Grammar as gr
use Rattle.nesc_grammar.specs.Declarations as inner
use Rattle.nesc_grammar.specs.Statements as gs
use Rattle.printed_words.specs.LaidOut.{is_whole}
use Rattle.nesc_print_words.specs.Lexemes.{sign, or_nothing, in_braces, listed}
use Rattle.nesc_print_words.specs.Expressions.{words_at}
use Rattle.nesc_print_words.specs.Declarations.{init_words, initialised, attr_arg_words, attr_words, attrs_words, variable_words, vars_words}
use Rattle.nesc_print_words.specs.Statements.{stmt_words, decl_words, start_words, maybe_words, condition_words, else_words}
use Rattle.nesc_print_laws.proofs.Calls.{All}
use Rattle.nesc_print_laws.proofs.Known.{all_pushed}
use Rattle.nesc_print_laws.proofs.StmtViews as view
use Rattle.nesc_print_whole.proofs.Keeps.{Whole, w_nil, w_cons, w_one, w_join, w_same, w_parens, w_braces, semicolon_whole, w_semi, w_flag, w_joined, w_listed, Tokens, Keeps, k_one, k_none, k_all, k_seq, k_behind, k_before, k_map, k_by, k_maybe, k_many, k_loop, k_declare, k_scope, k_when, k_if, k_sub, Name, k_text, k_name}
use Rattle.nesc_print_whole.proofs.Exprs.{E, w_at, MaybeE, T, w_type, w_before, w_behind, D, w_named, C, gets_whole, colon_whole, Option_e, value_i, expr_law, k_expr, k_type_form, k_stars, k_dims}

-- ---- initialisers and attributes

abbrev pub Init_w : Init → Type 0
Init_w x = Whole (init_words x)

one_init : (e : tree.Expr) → E e → Init_w (init.One e)
one_init e h = w_same (one e) (w_at 1 e h)
  where
    one : (e : tree.Expr) → init_words (init.One e) ≡ words_at 1 (expr_of e)
    one e = search (rules, init.the_lemmas)

many_inits : (l : List Init) → All Init_w l → Init_w (init.Many l)
many_inits l h = w_same (many l) (w_braces (w_listed init_words l h))
  where
    many : (l : List Init) → init_words (init.Many l) ≡ in_braces (listed (map init_words l))
    many l = search (rules, init.the_lemmas)

abbrev pub SomeInit : Option Init → Type 0
SomeInit None = Unit {0}
SomeInit (Some x) = Init_w x

more_inits_w : (o : Option Init) (l : Inits) → SomeInit o → All Init_w l.list → All Init_w (inner.more_inits o l).list
more_inits_w None l h g = g
more_inits_w (Some x) l h g = all_pushed Init_w l.list x g h

at_whole : is_whole (sign (codes "@")) ≡ true
unfolding signs
at_whole = refl

abbrev Arg_w : AttrArg → Type 0
Arg_w x = Whole (attr_arg_words x)

abbrev pub Attr_w : Attr → Type 0
Attr_w x = Whole (attr_words x)

pub w_attrs : (l : List Attr) → All Attr_w l → Whole (attrs_words l)
w_attrs l h = w_joined attr_words l h

-- ---- variables and declarations in blocks

pub record V (v : Variable) : Type 0 where
  pub declarator : D v.declarator
  pub init : SomeInit v.init

pub w_variable : (v : Variable) → V v → Whole (variable_words v)
w_variable v h = w_join (w_named v.declarator h.declarator) (by v.init h.init)
  where
    by : (o : Option Init) → SomeInit o → Whole (or_nothing (option_map initialised o))
    by None h = w_nil
    by (Some x) h = w_cons gets_whole h

variables_w : (vs : List Variable) → All V vs → All (λ v. Whole (variable_words v)) vs
variables_w [] h = tt
variables_w (v ∷ vs) h = (w_variable v h.0, variables_w vs h.1)

pub w_vars : (g : VarGroup) → T g.ty → All V g.vars → Whole (vars_words g)
w_vars g t h = w_join (w_flag g.norace (codes "norace") refl) (w_join (w_type g.ty t) (w_semi (w_listed variable_words g.vars (variables_w g.vars h))))

abbrev pub Decl_w : Decl → Type 0
Decl_w d = Whole (decl_words d)

pub vars_d : (g : VarGroup) → T g.ty → All V g.vars → Decl_w (decl.Vars g)
vars_d g t h = w_same (view.words_of_group g) (w_vars g t h)

pub only_d : (t : TypeSpec) (at : Pos) → T t → Decl_w (decl.TypeOnly t at)
only_d t at h = w_same (view.words_of_type_only at t) (w_semi (w_type t h))

pub typedef_d : (n : List ℕ) (t : TypeSpec) (l : List Attr) (at : Pos) → Name n → T t → All Attr_w l → Decl_w (decl.Typedef n t l at)
typedef_d n t l at k h a = w_same (view.words_of_typedef at n t l) (w_cons refl (w_join (w_before t h) (w_cons k (w_join (w_behind t h) (w_semi (w_attrs l a))))))

abbrev pub Stmt_w : Stmt → Type 0
Stmt_w x = Whole (stmt_words x)

local_s : (d : Decl) (at : Pos) → Decl_w d → Stmt_w (st.Local d at)
local_s d at h = w_same (view.words_of_local at d) h

-- a type that stands beside its declarators
pub declared_t : (t : CastType) (v : Variable) → C t → D v.declarator → T (inner.declared_type t v.declarator.stars v.declarator.dims)
declared_t t v h g = record { base = h.base; dims = g.dims }

group_d : (t : CastType) (vs : List Variable) → C t → All V vs → Decl_w (inner.type_or_group t vs)
group_d t [] h g = only_d t.ty t.from h
group_d t (v ∷ vs) h g = vars_d (inner.group false t (v ∷ vs)) h g

-- ---- statements

w_condition : (e : tree.Expr) → E e → Whole (condition_words e)
w_condition e h = w_parens h

w_maybe : (o : Option tree.Expr) → MaybeE o → Whole (maybe_words o)
w_maybe None h = w_nil
w_maybe (Some e) h = h

abbrev SomeStmt : Option Stmt → Type 0
SomeStmt None = Unit {0}
SomeStmt (Some x) = Stmt_w x

w_else : (z : Option Stmt) → SomeStmt z → Whole (else_words (option_map stmt_words z))
w_else None h = w_nil
w_else (Some x) h = w_cons refl h

if_s : (e : tree.Expr) (x : Stmt) (z : Option Stmt) (at : Pos) → E e → Stmt_w x → SomeStmt z → Stmt_w (st.If e x z at)
if_s e x z at h g k = w_same (view.words_of_if at e x z) (w_cons refl (w_join (w_condition e h) (w_join g (w_else z k))))

block_s : (l : List Stmt) (at : Pos) → All Stmt_w l → Stmt_w (st.Block l at)
block_s l at h = w_same (view.words_of_block at l) (w_braces (w_joined stmt_words l h))

unfoldable pub StmtLaw : (k : Phrase) → Of k → Type 0
StmtLaw Phrase.braces a = Init_w a
StmtLaw Phrase.local a = Stmt_w a
StmtLaw (Phrase.stmt j) a = Stmt_w a
StmtLaw (Phrase.label j) a = Stmt_w a
StmtLaw (Phrase.cases j) a = Stmt_w a
StmtLaw Phrase.attribute a = Attr_w a
StmtLaw _ a = Unit {0}

module _ (spare : ℕ) (ih : (k : Phrase) (u w : Place) (a : Of k) → Tokens u.rest → SpellsIn production spare k u a w → StmtLaw k a) where
  k_value : {m : ℕ} → Keeps spare (gr.expr m) (λ a. E a.expr)
  k_value = k_expr (expr_law spare)

  k_init_of : (x : Sort) → Keeps spare (inner.init_of x) Init_w
  unfolding StmtLaw
  k_init_of s.LBrace = k_sub {k = Phrase.braces} (StmtLaw Phrase.braces) (ih Phrase.braces) (λ a h. h)
  k_init_of _ = k_map k_value (λ a h. one_init a.expr h)

  k_init : Keeps spare inner.init Init_w
  k_init = k_by k_init_of

  k_inits : Keeps spare inner.inits (λ l. All Init_w l.list)
  k_inits = k_loop {P = λ l. All Init_w l.list} (k_map k_init (λ v h. (h, tt))) (λ x. k_when (gr.is_comma x) (k_map (k_behind {Q = SomeInit} k_one (k_maybe {P = SomeInit} (k_map k_init (λ v h. h)) tt)) (λ o h l g. more_inits_w o l h g)))

  k_braces_of : (x : Sort) → Keeps spare (inner.braces_of x) Init_w
  k_braces_of s.LBrace = k_map (k_behind k_one (k_before k_inits k_one)) (λ l h. many_inits l.list h)
  k_braces_of _ = k_none

  k_argument_of : (x : Sort) → Keeps spare (inner.attribute_argument_of x) Arg_w
  k_argument_of s.Text = k_map (k_text (λ t h. h)) (λ t h. w_one h)
  k_argument_of _ = k_map k_value (λ a h. w_at 2 a.expr h)

  pub k_attribute : Keeps spare inner.attribute Attr_w
  k_attribute = k_seq (k_behind k_one k_name) (k_behind k_one (k_before {P = λ l. All Arg_w l} (k_maybe {P = λ l. All Arg_w l} (k_loop {P = λ l. All Arg_w l} (k_map (k_by k_argument_of) (λ a h. (h, tt)))
      (λ x. k_when (gr.is_comma x) (k_map (k_behind k_one (k_by k_argument_of)) (λ a h l g. all_pushed Arg_w l a g h)))) tt) k_one)) (λ t l h g. w_cons at_whole (w_cons h (w_parens (w_listed attr_arg_words l g))))

  pub k_attributes : Keeps spare inner.attributes (λ l. All Attr_w l)
  k_attributes = k_many {P = λ l. All Attr_w l} tt (λ x. k_when (inner.is_at x) (k_map k_attribute (λ a h l g. all_pushed Attr_w l a g h)))

  -- ---- variables

  pub k_plain_variable : Keeps spare inner.plain_variable (λ v. D v.declarator)
  k_plain_variable = k_seq {Q = λ f. (n : ℕ) → D (f n).declarator} (k_stars (expr_law spare)) (k_seq k_name (k_dims (expr_law spare)) (λ t l h g n. record { name = h; dims = g })) (λ n f u h. h n)

  pub k_some_init : Keeps spare inner.some_init SomeInit
  k_some_init = k_maybe {P = SomeInit} (k_map (k_behind k_one k_init) (λ x h. h)) tt

  pub k_variable : Keeps spare inner.variable V
  k_variable = k_seq {P = λ v. D v.declarator} (k_before (k_declare k_plain_variable) k_attributes) k_some_init (λ v x h g. record { declarator = h; init = g })

  pub k_variables : Keeps spare inner.variables (λ vs. All V vs)
  k_variables = k_loop {P = λ vs. All V vs} (k_map k_variable (λ v h. (h, tt))) (λ x. k_when (gr.is_comma x) (k_map (k_behind k_one k_variable) (λ v h l g. all_pushed V l v g h)))

  pub k_type : Keeps spare gr.type_form C
  k_type = k_type_form (expr_law spare)

  pub k_typedef : Keeps spare inner.typedef (λ f. (o : Token) → Decl_w (f o))
  k_typedef = k_map {P = Decl_w} (k_seq {Q = λ f. (t : CastType) → C t → Decl_w (f t)} k_type (k_seq (k_declare k_plain_variable) (k_before k_attributes k_one) (λ v l h g t c. typedef_d v.declarator.name (inner.declared_type t v.declarator.stars v.declarator.dims) l v.pos h.name (declared_t t v c h) g)) (λ t f h k. k t h)) (λ d h o. h)

  k_local_of : (x : Sort) → Keeps spare (gs.local_of x) Stmt_w
  k_local_of s.Typedef = k_seq k_one k_typedef (λ o f u h. local_s (f o) o.pos (h o))
  k_local_of x = k_when {g = gs.local_variables} (begins_type x) (k_seq k_type (k_before {P = λ vs. All V vs} (k_maybe {P = λ vs. All V vs} k_variables tt) k_one) (λ t vs h g. local_s (inner.type_or_group t vs) t.from (group_d t vs h g)))

  -- ---- statements

  k_stmt : (j : Jumps) → Keeps spare (gs.stmt j) Stmt_w
  unfolding StmtLaw
  k_stmt j = k_sub {k = Phrase.stmt j} (StmtLaw (Phrase.stmt j)) (ih (Phrase.stmt j)) (λ a h. h)

  k_local : Keeps spare (Form.sub Phrase.local (λ x. x)) Stmt_w
  unfolding StmtLaw
  k_local = k_sub {k = Phrase.local} (StmtLaw Phrase.local) (ih Phrase.local) (λ a h. h)

  k_label : (j : Jumps) → Keeps spare (Form.sub (Phrase.label j) (λ x. x)) Stmt_w
  unfolding StmtLaw
  k_label j = k_sub {k = Phrase.label j} (StmtLaw (Phrase.label j)) (ih (Phrase.label j)) (λ a h. h)

  k_cases : (j : Jumps) → Keeps spare (Form.sub (Phrase.cases j) (λ x. x)) Stmt_w
  unfolding StmtLaw
  k_cases j = k_sub {k = Phrase.cases j} (StmtLaw (Phrase.cases j)) (ih (Phrase.cases j)) (λ a h. h)

  k_condition : Keeps spare gs.condition (λ a. E a.expr)
  k_condition = k_behind k_one (k_before k_value k_one)

  k_some_expr : Keeps spare gs.some_expr Option_e
  k_some_expr = k_maybe {P = Option_e} (k_map k_value (λ a h. h)) tt

  k_item_of : (j : Jumps) (x : Sort) → Keeps spare (gs.item_of j x) Stmt_w
  k_item_of j x = k_if (begins_local x) k_local (k_stmt j)

  k_case_of : (j : Jumps) (x : Sort) → Keeps spare (gs.case_of j x) Stmt_w
  k_case_of j x = k_if (begins_label x) (k_label j) (k_item_of j x)

  k_braced : {go : Sort → Bool} {item : Sort → Form Stmt} → ((x : Sort) → Keeps spare (item x) Stmt_w) → Keeps spare (gs.braced go item) Stmt_w
  k_braced m = k_scope (k_seq k_one (k_before {P = λ l. All Stmt_w l} (k_many {P = λ l. All Stmt_w l} tt (λ x. k_map (m x) (λ a h l g. all_pushed Stmt_w l a g h))) k_one) (λ o l u h. block_s l o.pos h))

  k_labelled : (j : Jumps) (x : Sort) → Keeps spare (gs.labelled_of j x) Stmt_w
  k_labelled j x = k_if (begins_label x) (k_label j) (k_stmt j)

  k_label_of : (j : Jumps) (x : Sort) → Keeps spare (gs.label_of j x) Stmt_w
  k_label_of j s.Case = k_seq {Q = λ f. (o : Token) → Stmt_w (f o)} k_one (k_seq (k_before k_value k_one) (k_by (k_labelled j)) (λ a x h g o. w_same (view.words_of_case o.pos a.expr x) (w_cons refl (w_join (w_at 2 a.expr h) (w_cons colon_whole g))))) (λ o f u h. h o)
  k_label_of j s.Default = k_seq (k_before k_one k_one) (k_by (k_labelled j)) (λ o x u h. w_same (view.words_of_default o.pos x) (w_cons refl (w_cons colon_whole h)))
  k_label_of j _ = k_none

  k_cases_of : (j : Jumps) (x : Sort) → Keeps spare (gs.cases_of j x) Stmt_w
  k_cases_of j s.LBrace = k_braced (k_case_of j)
  k_cases_of j _ = k_none

  k_start_of : (x : Sort) → Keeps spare (gs.for_start_of x) (λ c. Whole (start_words c))
  k_start_of s.Semi = k_map k_one (λ t u. w_one semicolon_whole)
  k_start_of x = k_if {g = gs.for_variables} {h = gr.when (begins_expr x) (gr.map (λ (a : Operand). start.Eval a.expr) (gr.before (gr.expr 0) (gr.one s.Semi)))} (begins_type x) (k_seq k_type (k_before k_variables k_one) (λ t vs h g. w_vars (inner.group false t vs) h g))
      (k_when {g = gr.map (λ (a : Operand). start.Eval a.expr) (gr.before (gr.expr 0) (gr.one s.Semi))} (begins_expr x) (k_map (k_before k_value k_one) (λ a h. w_semi h)))

  for_s : (c : ForStart) (t d : Option Operand) (x : Stmt) (at : Pos) → Whole (start_words c) → Option_e t → Option_e d → Stmt_w x → Stmt_w (st.For c (gr.value_of t) (gr.value_of d) x at)
  for_s c t d x at h g k m = w_same (view.words_of_for at c (gr.value_of t) (gr.value_of d) x) (w_cons refl (w_join (w_parens (w_join h (w_join (w_maybe (gr.value_of t) (value_i t g)) (w_cons semicolon_whole (w_maybe (gr.value_of d) (value_i d k)))))) m))

  k_for : Keeps spare gs.for_stmt Stmt_w
  k_for = k_scope (k_seq {Q = λ f. (o : Token) → Stmt_w (f o)} k_one (k_behind k_one (k_seq {Q = λ f. (c : ForStart) (o : Token) → Whole (start_words c) → Stmt_w (f c o)} {R = λ f. (o : Token) → Stmt_w (f o)} (k_by k_start_of)
      (k_seq {Q = λ f. (t : Option Operand) (c : ForStart) (o : Token) → Option_e t → Whole (start_words c) → Stmt_w (f t c o)} (k_before k_some_expr k_one)
      (k_seq (k_before k_some_expr k_one) (k_stmt jumps.BreakAndContinue) (λ d x h g t c o i n. for_s c t d x o.pos n i h g)) (λ t f h g c o n. g t c o h n)) (λ c f h g o. g c o h))) (λ o f u h. h o))

  k_switch_body : (j : Jumps) (x : Sort) → Keeps spare (gs.switch_body_of j x) Stmt_w
  k_switch_body j s.LBrace = k_cases (gs.in_switch j)
  k_switch_body j _ = k_stmt (gs.in_switch j)

  k_statement : (j : Jumps) (x : Sort) → Keeps spare (gs.statement j x) Stmt_w
  k_statement j s.LBrace = k_braced (k_item_of j)
  k_statement j s.Semi = k_map k_one (λ o u. w_same (view.words_of_empty o.pos) (w_one semicolon_whole))
  k_statement j s.Atomic = k_seq k_one (k_stmt j) (λ o x u h. w_same (view.words_of_atomic o.pos x) (w_cons refl h))
  k_statement j s.If = k_seq {Q = λ f. (o : Token) → Stmt_w (f o)} k_one (k_seq {Q = λ f. (a : Operand) (o : Token) → E a.expr → Stmt_w (f a o)} k_condition
      (k_seq (k_stmt j) (k_maybe {P = SomeStmt} (k_map (k_behind k_one (k_stmt j)) (λ x h. h)) tt) (λ x z h g a o k. if_s a.expr x z o.pos k h g)) (λ a f h g o. g a o h)) (λ o f u h. h o)
  k_statement j s.While = k_seq {Q = λ f. (o : Token) → Stmt_w (f o)} k_one (k_seq k_condition (k_stmt jumps.BreakAndContinue) (λ a x h g o. w_same (view.words_of_while o.pos a.expr x) (w_cons refl (w_join (w_condition a.expr h) g)))) (λ o f u h. h o)
  k_statement j s.Do = k_seq {Q = λ f. (o : Token) → Stmt_w (f o)} k_one (k_seq (k_stmt jumps.BreakAndContinue) (k_behind k_one (k_before k_condition k_one)) (λ x a h g o. w_same (view.words_of_do o.pos x a.expr) (w_cons refl (w_join h (w_cons refl (w_semi (w_condition a.expr g))))))) (λ o f u h. h o)
  k_statement j s.For = k_for
  k_statement j s.Switch = k_seq {Q = λ f. (o : Token) → Stmt_w (f o)} k_one (k_seq k_condition (k_by (k_switch_body j)) (λ a x h g o. w_same (view.words_of_switch o.pos a.expr x) (w_cons refl (w_join (w_condition a.expr h) g)))) (λ o f u h. h o)
  k_statement j s.Break = k_when (may_break j) (k_seq k_one k_one (λ o t u h. w_same (view.words_of_break o.pos) (w_cons refl (w_one semicolon_whole))))
  k_statement j s.Continue = k_when (may_continue j) (k_seq k_one k_one (λ o t u h. w_same (view.words_of_continue o.pos) (w_cons refl (w_one semicolon_whole))))
  k_statement j s.Return = k_seq k_one (k_before k_some_expr k_one) (λ o a u h. w_same (view.words_of_return o.pos (gr.value_of a)) (w_cons refl (w_semi (w_maybe (gr.value_of a) (value_i a h)))))
  k_statement j x = k_when {g = gs.eval} (begins_expr x) (k_seq k_value k_one (λ a t h u. w_same (view.words_of_eval a.from a.expr) (w_semi h)))

  step : (k : Phrase) → Keeps spare (production k) (StmtLaw k)
  unfolding StmtLaw
  step Phrase.braces = k_by k_braces_of
  step Phrase.local = k_by k_local_of
  step (Phrase.stmt j) = k_by (k_statement j)
  step (Phrase.label j) = k_by (k_label_of j)
  step (Phrase.cases j) = k_by (k_cases_of j)
  step Phrase.attribute = k_attribute
  step (Phrase.expr m) = k_all
  step Phrase.opened = k_all
  step Phrase.fields = k_all
  step _ = k_all

pub stmt_law : (d : ℕ) (k : Phrase) (u w : Place) (a : Of k) → Tokens u.rest → SpellsIn production d k u a w → StmtLaw k a
unfolding SpellsIn
stmt_law zero k u w a z h = absurd h
stmt_law (suc d) k u w a z h = (step d (stmt_law d) k).gives u w a z h
