-- The words of declarations outside of blocks are whole.
use Rattle.std.proofs.Common.{ℕ, zero, suc, Bool, true, false, cond, List, [], ◌∷◌, Option, Some, None, refl}
use Rattle.std.specs.Prelude.{codes, option_map}
use Rattle.nm_base.specs.declared.token.Token.{Token}
use Rattle.nesc_tree.specs.declared.sorts.Sort.{Sort}
use Rattle.nesc_tree.specs.declared.sorts.Sort.TheVariants as s
use Rattle.nesc_tree.specs.declared.contexts.Site.{Site}
use Rattle.nesc_tree.specs.declared.contexts.Site.TheVariants as site
use Rattle.nesc_tree.specs.declared.contexts.Jumps.TheVariants as jumps
use Rattle.nesc_tree.specs.declared.tree.Expr as tree
use Rattle.nesc_tree.specs.declared.tree.Param.{Param}
use Rattle.nesc_tree.specs.declared.operand.CastType.{CastType}
use Rattle.nesc_tree.specs.declared.declarations.Attr.{Attr}
use Rattle.nesc_tree.specs.declared.declarations.Decl as decl
use Rattle.nesc_tree.specs.declared.declarations.Decl.{Decl}
use Rattle.nesc_tree.specs.declared.declarations.FuncHead.{FuncHead}
use Rattle.nesc_tree.specs.declared.declarations.FuncKind.{FuncKind}
use Rattle.nesc_tree.specs.declared.declarations.FuncKind.TheVariants as kind
use Rattle.nesc_tree.specs.declared.declarations.Stmt.{Stmt}
use Rattle.nesc_tree.specs.declared.declarations.Variable.{Variable}
use Rattle.nesc_tree.specs.Phrase.{Phrase, begins_type, begins_expr, begins_decl, has_variables}
use Rattle.nesc_tree.specs.Form.{Form, Place, SpellsIn}
use Rattle.nesc_grammar.specs.Production.{production}
use Rattle.nesc_grammar.specs.Grammar as gr
use Rattle.nesc_grammar.specs.Declarations as inner
use Rattle.nesc_print_words.specs.Declarations.{name_words, param_words, params_words, bracket_words, item_words, kind_words, wants_word, function_words, head_words}
use Rattle.nesc_print_words.specs.Statements.{stmt_words, decl_words, body_words, decls_words}
use Rattle.nesc_print_laws.proofs.Calls.{All}
use Rattle.nesc_print_laws.proofs.Known.{all_pushed}
use Rattle.nesc_print_decl_laws.proofs.DeclViews as view
use Rattle.nesc_print_whole.proofs.Keeps.{Whole, w_nil, w_cons, w_one, w_join, w_same, w_parens, w_brackets, semicolon_whole, w_flag, w_joined, w_listed, Tokens, Keeps, k_one, k_none, k_seq, k_behind, k_before, k_map, k_by, k_maybe, k_many, k_loop, k_declare, k_scope, k_when, k_if, k_sub, Name, k_word, k_type_name, k_name}
use Rattle.nesc_print_whole.proofs.Exprs.{E, T, w_before, w_behind, C, dot_whole, expr_law, k_expr, k_stars, k_dims}
use Rattle.nesc_print_whole.proofs.Stmts.{Attr_w, w_attrs, V, Decl_w, vars_d, only_d, Stmt_w, StmtLaw, stmt_law, k_attributes, k_some_init, k_variable, k_variables, k_type, k_typedef}

-- ---- parameters

abbrev pub MaybeName : Option (List ℕ) → Type 0
MaybeName None = Unit {0}
MaybeName (Some n) = Name n

w_name : (o : Option (List ℕ)) → MaybeName o → Whole (name_words o)
w_name None h = w_nil
w_name (Some n) h = w_one h

pub record Par (x : Param) : Type 0 where
  pub ty : T x.ty
  pub name : MaybeName x.name

w_par : (x : Param) → Par x → Whole (param_words x)
w_par x h = w_join (w_before x.ty h.ty) (w_join (w_name x.name h.name) (w_behind x.ty h.ty))

pars_w : (xs : List Param) → All Par xs → All (λ x. Whole (param_words x)) xs
pars_w [] h = tt
pars_w (x ∷ xs) h = (w_par x h.0, pars_w xs h.1)

pub w_params : (xs : List Param) → All Par xs → Whole (params_words xs)
w_params xs h = w_parens (w_listed param_words xs (pars_w xs h))

record End (a : inner.Parameter) : Type 0 where
  name : MaybeName (inner.text_of a.0)
  dims : All E a.1

without : (xs : List Param) → All Par xs → All Par (inner.without_void xs)
without [] h = h
without (x ∷ []) h = by (inner.is_void x)
  where
    by : (b : Bool) → All Par (cond b [] (x ∷ []))
    by true = tt
    by false = h
without (x ∷ y ∷ xs) h = h

abbrev MaybePar : Option Param → Type 0
MaybePar None = Unit {0}
MaybePar (Some x) = Par x

w_bracket : (o : Option Param) → MaybePar o → Whole (bracket_words o)
w_bracket None h = w_nil
w_bracket (Some x) h = w_brackets (w_par x h)

pub w_item : (o : Option (List ℕ)) → MaybeName o → Whole (item_words o)
w_item None h = w_nil
w_item (Some n) h = w_cons dot_whole (w_one h)

-- ---- functions

record Head (h : FuncHead) : Type 0 where
  result : T h.result
  name : Name h.name
  item : MaybeName h.item
  bracket : MaybePar h.bracket
  params : All Par h.params
  attrs : All Attr_w h.attrs

w_kind : (k : FuncKind) → Whole (kind_words k)
w_kind kind.Plain = w_nil
w_kind kind.Task = w_one refl
w_kind kind.Command = w_one refl
w_kind kind.Event = w_one refl

w_function_words : (h : FuncHead) → Whole (function_words h)
w_function_words h = w_join (w_flag (wants_word h) (codes "inline") refl) (w_join (w_flag h.is_default (codes "default") refl) (w_join (w_flag h.is_async (codes "async") refl) (w_kind h.kind)))

w_head : (h : FuncHead) → Head h → Whole (head_words h)
w_head h k = w_join (w_function_words h) (w_join (w_before h.result k.result) (w_cons k.name (w_join (w_item h.item k.item) (w_join (w_bracket h.bracket k.bracket) (w_join (w_params h.params k.params) (w_attrs h.attrs k.attrs))))))

abbrev MaybeStmt : Option Stmt → Type 0
MaybeStmt None = Unit {0}
MaybeStmt (Some x) = Stmt_w x

w_body : (b : Option Stmt) → MaybeStmt b → Whole (body_words (option_map stmt_words b))
w_body None h = w_one semicolon_whole
w_body (Some x) h = h

func_d : (h : FuncHead) (b : Option Stmt) → Head h → MaybeStmt b → Decl_w (decl.Func h b)
func_d h b k m = w_same (view.words_of_function h b) (w_join (w_head h k) (w_body b m))

-- a type and a name, of which a declaration is made
record St (x : inner.Start) : Type 0 where
  ty : C x.ty
  name : Name x.name.text

abbrev Made : inner.Behind → Type 0
Made f = (w : inner.Words) (x : inner.Start) → St x → Decl_w (f w x).decl

abbrev Rest : (Option Token → inner.Behind) → Type 0
Rest f = (item : Option Token) (w : inner.Words) (x : inner.Start) → St x → MaybeName (inner.text_of item) → Decl_w (f item w x).decl

abbrev Call : inner.Called → Type 0
Call f = (item : Option Token) (b : Option Param) (w : inner.Words) (x : inner.Start) → St x → MaybeName (inner.text_of item) → MaybePar b → Decl_w (f item b w x).decl

called_d : (ps : List Param) (l : List Attr) (b : Option Stmt) → All Par ps → All Attr_w l → MaybeStmt b → Call (inner.called ps l b)
called_d ps l b h a m item o w x k i z = func_d (inner.head_of item o ps l w x) b (record { result = record { base = k.ty.base; dims = tt }; name = k.name; item = i; bracket = z; params = h; attrs = a }) m

group_w : (c : Bool) (t : CastType) (vs : List Variable) → C t → All V vs → Decl_w (inner.grouped c t vs).decl
group_w c t vs h g = vars_d (inner.group c t vs) h g

module _ {spare : ℕ} where
  k_value : {m : ℕ} → Keeps spare (gr.expr m) (λ a. E a.expr)
  k_value = k_expr (expr_law spare)

  k_typed : Keeps spare gr.type_form C
  k_typed = k_type spare (stmt_law spare)

  k_starred : Keeps spare gr.stars (λ n. Unit {0})
  k_starred = k_stars (expr_law spare)

  pub k_attrs : Keeps spare inner.attributes (λ l. All Attr_w l)
  k_attrs = k_attributes spare (stmt_law spare)

  k_dimension : Keeps spare inner.dimension E
  k_dimension = k_map (k_behind k_one (k_before k_value k_one)) (λ a h. h)

  k_named_parameter : {g : Form Token} → Keeps spare g (λ t. Name t.text) → Keeps spare (inner.named_parameter g) End
  k_named_parameter m = k_declare (k_seq m (k_maybe {P = λ o. All E (inner.listed_dimension o)} (k_map k_dimension (λ e h. (h, tt))) tt) (λ t l h g. record { name = h; dims = g }))

  k_parameter_of : (x : Sort) → Keeps spare (inner.parameter_of x) End
  k_parameter_of s.Word = k_named_parameter k_word
  k_parameter_of s.TypeName = k_named_parameter k_type_name
  k_parameter_of s.LBracket = k_map k_dimension (λ e h. record { name = tt; dims = (h, tt) })
  k_parameter_of _ = k_none

  k_param : Keeps spare inner.param Par
  k_param = k_seq {Q = λ f. (t : CastType) → C t → Par (f t)} k_typed (k_seq k_starred (k_maybe {P = End} (k_by k_parameter_of) (record { name = tt; dims = tt })) (λ n a u h t k. record { ty = record { base = k.base; dims = h.dims }; name = h.name })) (λ t f h k. k t h)

  pub k_parameters : Keeps spare inner.parameters (λ xs. All Par xs)
  k_parameters = k_map (k_behind k_one (k_before {P = λ xs. All Par xs} (k_maybe {P = λ xs. All Par xs} (k_loop {P = λ xs. All Par xs} (k_map k_param (λ x h. (h, tt))) (λ x. k_when (gr.is_comma x) (k_map (k_behind k_one k_param) (λ a h l g. all_pushed Par l a g h)))) tt) k_one)) (λ xs h. without xs h)

  k_bracket_rest : Keeps spare inner.bracket_rest Par
  k_bracket_rest = k_seq k_typed (k_before (k_declare k_name) k_one) (λ t n h g. record { ty = h; name = g })

  k_body_of : (x : Sort) → Keeps spare (inner.body_of x) MaybeStmt
  unfolding StmtLaw
  k_body_of s.LBrace = k_map (k_sub {k = Phrase.stmt jumps.Neither} {P = Stmt_w} (StmtLaw (Phrase.stmt jumps.Neither)) (stmt_law spare (Phrase.stmt jumps.Neither)) (λ a h. h)) (λ x h. h)
  k_body_of s.Semi = k_map k_one (λ t u. tt)
  k_body_of _ = k_none

  k_call : Keeps spare inner.call_form Call
  k_call = k_seq {Q = λ f. (ps : List Param) → All Par ps → Call (f ps)} k_parameters (k_seq k_attrs (k_by k_body_of) (λ l b a m ps h. called_d ps l b h a m)) (λ ps f h k. k ps h)

  k_rest : Keeps spare inner.function_rest Rest
  k_rest = k_scope (k_seq {P = MaybePar} (k_maybe {P = MaybePar} (k_map (k_behind k_one k_bracket_rest) (λ x h. h)) tt) k_call (λ o f h k item w x z i. k item o w x z i h))

  k_end : Keeps spare inner.function_end Made
  k_end = k_seq {P = λ o. MaybeName (inner.text_of o)} (k_maybe {P = λ o. MaybeName (inner.text_of o)} (k_map (k_behind k_one k_name) (λ t h. h)) tt) k_rest (λ item f i k w x z. k item w x z i)

  k_plain_rest : Keeps spare (gr.map (λ f. f None) inner.function_rest) Made
  k_plain_rest = k_map k_rest (λ f k w x z. k None w x z tt)

  k_bracketed_function : Keeps spare inner.bracketed_function Made
  k_bracketed_function = k_scope (k_seq k_bracket_rest k_call (λ o f h k w x z. k None (Some o) w x z tt h))

  -- ---- variables

  k_first_variable : Keeps spare inner.first_variable (λ f. (l : List tree.Expr) (w : inner.Words) (x : inner.Start) → St x → All E l → Decl_w (f l w x).decl)
  k_first_variable = k_behind k_attrs (k_seq (k_some_init spare (stmt_law spare)) (k_before {P = λ vs. All V vs} (k_many {P = λ vs. All V vs} tt (λ x. k_when (gr.is_comma x) (k_map (k_behind k_one (k_variable spare (stmt_law spare))) (λ v h l g. all_pushed V l v g h)))) k_one)
      (λ o vs h g l w x z d. group_w false x.ty (inner.with_init (inner.variable_at x l) o ∷ vs) z.ty (record { declarator = record { name = z.name; dims = d }; init = h }, g)))

  k_first_plain : Keeps spare (gr.map (λ f. f []) inner.first_variable) Made
  k_first_plain = k_map k_first_variable (λ f k w x z. k [] w x z tt)

  k_dimensioned : Keeps spare inner.dimensioned Made
  k_dimensioned = k_seq {P = λ l. All E l.exprs} (k_seq {R = λ l. All E l.exprs} (k_before k_value k_one) (k_dims (expr_law spare)) (λ a l h g. (h, g))) k_first_variable (λ l f d k w x z. k l.exprs w x z d)

  k_bracketed_of : (x : Sort) → Keeps spare (inner.bracketed_of x) Made
  k_bracketed_of x = k_if (begins_type x) k_bracketed_function (k_when (begins_expr x) k_dimensioned)

  k_ending : (m : Site) (x : Sort) → Keeps spare (inner.ending m x) Made
  k_ending site.Header s.LParen = k_plain_rest
  k_ending site.Header s.Dot = k_end
  k_ending site.Header _ = k_none
  k_ending site.Module s.LParen = k_plain_rest
  k_ending site.Module s.Dot = k_end
  k_ending site.Module s.LBracket = k_behind k_one (k_by k_bracketed_of)
  k_ending site.Module s.At = k_first_plain
  k_ending site.Module s.Assign = k_first_plain
  k_ending site.Module s.Comma = k_first_plain
  k_ending site.Module s.Semi = k_first_plain
  k_ending site.Module _ = k_none

  -- ---- from the type on

  k_named : {g : Form inner.Behind} → Keeps spare g Made → Keeps spare (inner.named g) (λ f. (t : CastType) (w : inner.Words) → C t → Decl_w (f t w).decl)
  k_named m = k_seq {Q = λ f. (n : ℕ) (t : CastType) (w : inner.Words) → C t → Decl_w (f n t w).decl} k_starred (k_seq k_name m (λ x f h k n t w c. k w (record { ty = t; stars = n; name = x }) (record { ty = c; name = h }))) (λ n f u k t w c. k n t w c)

  k_function : Keeps spare inner.function (λ d. Decl_w d.decl)
  k_function = k_seq {P = λ w. Unit {0}} {Q = λ f. (w : inner.Words) → Decl_w (f w).decl} k_all_words (k_seq {Q = λ f. (t : CastType) (w : inner.Words) → C t → Decl_w (f t w).decl} k_typed (k_named k_end) (λ t f h k w. k t w h)) (λ w f u k. k w)
    where
      k_all_words : Keeps spare inner.function_words (λ w. Unit {0})
      k_all_words = Rattle.nesc_print_whole.proofs.Keeps.k_all

  k_named_in : (m : Site) → Keeps spare (inner.named_in m) (λ f. (t : CastType) → C t → Decl_w (f t).decl)
  k_named_in m = k_map (k_named (k_by (k_ending m))) (λ f k t c. k t inner.no_words c)

  k_typed_of : (m : Site) (x : Sort) → Keeps spare (inner.typed_of m x) (λ f. (t : CastType) → C t → Decl_w (f t).decl)
  k_typed_of m s.Semi = k_map k_one (λ o u t c. only_d t.ty t.from c)
  k_typed_of m s.Star = k_named_in m
  k_typed_of m s.Word = k_named_in m
  k_typed_of m s.TypeName = k_named_in m
  k_typed_of m _ = k_none

  k_with_type : {g : Form (CastType → inner.Declaring)} → Keeps spare g (λ f. (t : CastType) → C t → Decl_w (f t).decl) → Keeps spare (gr.with gr.type_form g) (λ d. Decl_w d.decl)
  k_with_type m = k_seq {Q = λ f. (t : CastType) → C t → Decl_w (f t).decl} k_typed m (λ t f h k. k t h)

  k_norace : Keeps spare inner.norace_variables (λ d. Decl_w d.decl)
  k_norace = k_behind k_one (k_behind k_stored (k_seq k_typed (k_before (k_variables spare (stmt_law spare)) k_one) (λ t vs h g. group_w true t vs h g)))
    where
      k_stored : Keeps spare inner.storages (λ l. Unit {0})
      k_stored = Rattle.nesc_print_whole.proofs.Keeps.k_all

  k_static_of : (x : Sort) → Keeps spare (inner.static_of x) (λ d. Decl_w d.decl)
  k_static_of s.Norace = k_norace
  k_static_of s.Async = k_function
  k_static_of s.Default = k_function
  k_static_of s.Inline = k_function
  k_static_of s.Task = k_function
  k_static_of s.Item = k_function
  k_static_of x = k_when {g = gr.with gr.type_form (inner.named_in site.Module)} (begins_type x) (k_with_type (k_named_in site.Module))

  k_static : (m : Site) → Keeps spare (inner.static_decl m) (λ d. Decl_w d.decl)
  k_static site.Header = k_function
  k_static site.Module = k_behind k_one (k_behind k_stated (k_by k_static_of))
    where
      k_stated : Keeps spare inner.statics (λ l. Unit {0})
      k_stated = Rattle.nesc_print_whole.proofs.Keeps.k_all

  k_declaring : (m : Site) (x : Sort) → Keeps spare (inner.declaring m x) (λ d. Decl_w d.decl)
  k_declaring m s.Norace = k_when (has_variables m) k_norace
  k_declaring m s.Static = k_static m
  k_declaring m s.Async = k_function
  k_declaring m s.Default = k_function
  k_declaring m s.Inline = k_function
  k_declaring m s.Task = k_function
  k_declaring m s.Item = k_function
  k_declaring m x = k_when {g = gr.with gr.type_form (Form.by (inner.typed_of m))} (begins_type x) (k_with_type (k_by (k_typed_of m)))

  k_hiding : {g : Form inner.Declaring} → Keeps spare g (λ d. Decl_w d.decl) → Keeps spare (inner.hiding g) Decl_w
  k_hiding m = k_map (k_declare m) (λ d h. h)

  pub k_typedef_decl : Keeps spare inner.typedef_decl Decl_w
  k_typedef_decl = k_seq {Q = λ f. (o : Token) → Decl_w (f o)} k_one (k_typedef spare (stmt_law spare)) (λ o f u h. h o)

  k_decl_of : (m : Site) (x : Sort) → Keeps spare (inner.decl_of m x) Decl_w
  k_decl_of m s.Typedef = k_typedef_decl
  k_decl_of m x = k_hiding {g = inner.declaring m x} (k_declaring m x)

decl_law : (d : ℕ) (m : Site) (u w : Place) (a : Decl) → Tokens u.rest → SpellsIn production d (Phrase.decl m) u a w → Decl_w a
unfolding SpellsIn
decl_law zero m u w a z h = absurd h
decl_law (suc d) m u w a z h = (k_by (k_decl_of m)).gives u w a z h

pub k_decls : {spare : ℕ} (m : Site) → Keeps spare (inner.decls_before m) (λ l. All Decl_w l)
k_decls {spare = spare} m = k_many {P = λ l. All Decl_w l} tt (λ x. k_when (begins_decl m x) (k_map (k_sub {k = Phrase.decl m} {P = Decl_w} Decl_w (decl_law spare m) (λ a h. h)) (λ a h l g. all_pushed Decl_w l a g h)))

pub w_decls : (l : List Decl) → All Decl_w l → Whole (decls_words l)
w_decls l h = w_joined decl_words l h
