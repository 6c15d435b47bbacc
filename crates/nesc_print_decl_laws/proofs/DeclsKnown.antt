-- What tokens spell is printed so that it is read again: declarations outside of blocks.
use Rattle.std.proofs.Common.{◌≡◌, ℕ, zero, suc, Bool, true, false, cond, List, [], ◌∷◌, ◌++◌, Option, Some, None, refl, sym, ap, subst, ◌∙◌}
use Rattle.std.specs.Prelude.{codes}
use Rattle.nm_base.specs.declared.pos.Pos.{Pos}
use Rattle.nm_base.specs.declared.token.Token.{Token}
use Rattle.nm_base.specs.declared.token.Kind.TheVariants as lexeme_kind
use Rattle.nesc_tree.specs.declared.sorts.Sort.{Sort}
use Rattle.nesc_tree.specs.declared.sorts.Sort.TheVariants as s
use Rattle.nesc_tree.specs.declared.contexts.Site.{Site}
use Rattle.nesc_tree.specs.declared.contexts.Site.TheVariants as site
use Rattle.nesc_tree.specs.declared.contexts.Jumps.TheVariants as jumps
use Rattle.nesc_tree.specs.declared.tree.Expr as tree
use Rattle.nesc_tree.specs.declared.tree.Param.{Param}
use Rattle.nesc_tree.specs.declared.operand.CastType.{CastType}
use Rattle.nesc_tree.specs.declared.declarations.Attr.{Attr}
use Rattle.nesc_tree.specs.declared.declarations.Decl as decl
use Rattle.nesc_tree.specs.declared.declarations.Decl.{Decl}
use Rattle.nesc_tree.specs.declared.declarations.Stmt as st
use Rattle.nesc_tree.specs.declared.declarations.Stmt.{Stmt}
use Rattle.nesc_tree.specs.declared.declarations.Variable.{Variable}
use Rattle.nesc_tree.specs.View.{expr_of, base_of}
use Rattle.nesc_tree.specs.Plain as p
use Rattle.nesc_tree.specs.Sorts.{Names, sort, ahead}
use Rattle.nesc_tree.specs.Sorts as sorts
use Rattle.nesc_tree.specs.Phrase.{Phrase, begins_type, begins_expr, begins_decl, has_variables}
use Rattle.nesc_tree.specs.Form.{Form, Place, next, Spells, SpellsIn}
use Rattle.nesc_grammar.specs.Production.{production}
use Rattle.nesc_grammar.specs.Grammar as gr
use Rattle.nesc_grammar.specs.Declarations as inner
use Rattle.nesc_grammar.specs.Statements as gs
use Rattle.nesc_print_laws.proofs.Texts.{lead}
use Rattle.nesc_print_laws.proofs.Signs
use Rattle.nesc_print_laws.proofs.Names.{IsName}
use Rattle.nesc_print_laws.proofs.Runs.{Bare}
use Rattle.nesc_print_laws.proofs.Lists.{Row}
use Rattle.nesc_print_laws.proofs.Calls.{All}
use Rattle.nesc_print_laws.proofs.Yields.{Yields, Quiet, y_token, y_none, y_seq, y_map, y_by, y_maybe, y_many, y_when, y_if, y_one, y_name, word_known, type_known}
use Rattle.nesc_print_laws.proofs.Known.{Fine, FineAll, FineType, law, y_whole, y_type_form, y_stars, y_dims}
use Rattle.nesc_print_laws.proofs.Changed.{y_then, y_map_to, y_declare, y_scope, y_many_to, y_loop_to}
use Rattle.nesc_print_laws.proofs.Inits.{Initial, Attribute}
use Rattle.nesc_print_laws.proofs.Variables as vars
use Rattle.nesc_print_laws.proofs.Variables.{MaybeInitial, AllDeclared, declared_pushed}
use Rattle.nesc_print_laws.proofs.StmtViews as view
use Rattle.nesc_print_laws.proofs.Stmts.{else_sorted, lead_words}
use Rattle.nesc_print_laws.proofs.Blocks.{Items, stated_block}
use Rattle.nesc_print_laws.proofs.StmtsKnown.{y_after, y_behind, y_before, y_maybe_to, Several, plain_of, no_cons, y_init, y_attributes, y_plain_variable, y_variable, y_variables, y_item, stmt_law}
use Rattle.nesc_print_decl_laws.proofs.Params.{MaybeName, after_name, MaybeDim, Parameter, AllParams, params_pushed, Kept, Bracketed, after_bracket, MaybeBracket}
use Rattle.nesc_print_decl_laws.proofs.Heads.{Decled}
use Rattle.nesc_print_decl_laws.proofs.Functions.{Body, MaybeBody, own_is, decled_func}
use Rattle.nesc_print_decl_laws.proofs.Outside.{decled_vars, decled_norace, decled_type, decled_typedef}
use Rattle.nesc_print_decl_laws.proofs.Decls.{Decls, decl_pushed}

-- ---- parameters

-- behind the stars of a parameter
record EndFine (ns : Names) (a : inner.Parameter) : Type 0 where
  name : MaybeName (inner.text_of a.0)
  dim : MaybeDim ns a.1

abbrev FineEnd : Names → inner.Parameter → Place → Type 0
FineEnd ns a q = (q.names ≡ after_name ns (inner.text_of a.0)) × EndFine ns a

abbrev FineParam : Names → Param → Place → Type 0
FineParam ns x q = (q.names ≡ after_name ns x.name) × Parameter ns x

abbrev FineBracket : Names → Option Param → Place → Type 0
FineBracket ns o q = (q.names ≡ after_bracket ns o) × MaybeBracket ns o

abbrev pub FineParams : Names → List Param → Names → Type 0
FineParams ns xs ms = AllParams xs ns ms × Kept xs

named_is : (a : inner.Parameter) (ns : Names) → inner.is_named a ns ≡ after_name ns (inner.text_of a.0)
named_is (None, l) ns = refl
named_is (Some t, l) ns = refl

-- `void` alone has no name
void_unnamed : (x : Param) → inner.is_void x ≡ true → x.name ≡ None
void_unnamed x h = by x.ty.stars x.ty.dims x.ty.is_const x.name (base_of x.ty.base) h
  where
    by : (n : ℕ) (l : List tree.Expr) (c : Bool) (o : Option (List ℕ)) (b : p.Base) → inner.is_nothing n l c o b ≡ true → o ≡ None
    by (suc n) l c o b h = absurd cc
    by zero (e ∷ l) c o b h = absurd cc
    by zero [] true o b h = absurd cc
    by zero [] false (Some m) b h = absurd cc
    by zero [] false None b h = refl

without : (xs : List Param) {ns ms : Names} → AllParams xs ns ms → FineParams ns (inner.without_void xs) ms
without [] a = (a, refl)
without (x ∷ []) {ns = ns} (AllParams.more d AllParams.none) = by (inner.is_void x) refl
  where
    by : (b : Bool) → inner.is_void x ≡ b → FineParams ns (cond b [] (x ∷ [])) (after_name ns x.name)
    by true e = (subst (AllParams [] ns) (ap (λ (o : Option (List ℕ)). after_name ns o) (sym (void_unnamed x e))) AllParams.none, refl)
    by false e = (AllParams.more d AllParams.none, ap (λ (c : Bool). cond c [] (x ∷ [])) e)
without (x ∷ y ∷ xs) a = (a, refl)

module _ {spare : ℕ} {ns : Names} where
  y_expr : {m : ℕ} → Yields spare ns (gr.expr m) (Quiet ns (λ a. Fine ns a.expr))
  y_expr = y_whole (law spare)

  y_type : Yields spare ns gr.type_form (Quiet ns (FineType ns))
  y_type = y_type_form (law spare)

  y_dimension : Yields spare ns inner.dimension (Quiet ns (λ e. Bare ns (expr_of e)))
  y_dimension = y_map (y_seq {R = λ a. Fine ns a.expr} y_one (y_seq {R = λ a. Fine ns a.expr} y_expr y_one (λ a t h u. h)) (λ t a u h. h)) (λ a h. h)

  y_named_parameter : {x : Sort} → ((t : Token) → sort ns t ≡ x → IsName t.text) → Yields spare ns (inner.named_parameter (gr.one x)) (FineEnd ns)
  y_named_parameter k = y_declare {P = Quiet ns (EndFine ns)} (y_seq (y_token k) (y_maybe {P = λ o. MaybeDim ns (inner.listed_dimension o)} (y_map y_dimension (λ e h. h)) tt) (λ t l h g. record { name = h; dim = g }))
      (λ a q h. (named_is a q.names ∙ ap (λ n. after_name n (inner.text_of a.0)) h.0, h.1))

  y_parameter_of : (x : Sort) → Yields spare ns (inner.parameter_of x) (FineEnd ns)
  y_parameter_of s.Word = y_named_parameter (λ t e. (word_known ns t e).0)
  y_parameter_of s.TypeName = y_named_parameter (λ t e. (type_known ns t e).0)
  y_parameter_of s.LBracket = y_map_to y_dimension (λ e q h. (h.0, record { name = tt; dim = h.1 }))
  y_parameter_of _ = y_none

  y_param : Yields spare ns inner.param (FineParam ns)
  y_param = y_after {Q = λ f q. (t : CastType) → FineType ns t → FineParam ns (f t) q} y_type
      (y_after (y_stars (law spare)) (y_maybe_to {P = FineEnd ns} (y_by y_parameter_of) (λ q e. (e, record { name = tt; dim = tt }))) (λ n a q u h t k. (h.0, record { basic = k.basic; dim = h.1.dim; name = h.1.name }))) (λ t f q h k. k t h)

  y_bracket_rest : Yields spare ns inner.bracket_rest (λ x q. (q.names ≡ after_name ns x.name) × Bracketed ns x)
  y_bracket_rest = y_after y_type (y_before (λ (t : Token) ms. (ms ≡ inner.hidden t.text ns) × IsName t.text) (y_declare y_name (λ t q h. (ap (inner.hidden t.text) h.0, h.1))))
      (λ u t q h g. (g.0, record { plain = plain_of ns u h; name = t.text; named = refl; is_name = g.1 }))

  y_bracket : Yields spare ns inner.bracket (FineBracket ns)
  y_bracket = y_maybe_to {P = FineBracket ns} (y_map_to (y_behind y_bracket_rest) (λ x q h. h)) (λ q e. (e, tt))

y_listed_params : {spare : ℕ} {ns : Names} → Yields spare ns (inner.listed inner.param) (λ xs q. AllParams xs ns q.names)
y_listed_params {ns = ns} = y_loop_to (λ xs ms. AllParams xs ns ms) (y_map_to y_param (λ x q h. subst (AllParams (x ∷ []) ns) (sym h.0) (AllParams.more h.1 AllParams.none)))
    (λ x ms. y_when (gr.is_comma x) (y_map_to (y_behind y_param) (λ a q h xs g. subst (AllParams (xs ++ (a ∷ [])) ns) (sym h.0) (params_pushed xs a g h.1))))

pub y_parameters : {spare : ℕ} {ns : Names} → Yields spare ns inner.parameters (λ xs q. FineParams ns xs q.names)
y_parameters {ns = ns} = y_map_to (y_behind (y_before (λ xs ms. AllParams xs ns ms) (y_maybe_to y_listed_params (λ q e. subst (AllParams [] ns) (sym e) AllParams.none)))) (λ xs q h. without xs h)

-- ---- bodies

-- a place where an `else` follows
else_place : Names → Place
else_place ns = record { names = ns; rest = record { kind = lexeme_kind.Word; text = codes "else"; pos = record { file = 0; line = 0; col = 0 }; first = false } ∷ [] }

else_next : (ns : Names) → next (else_place ns) ≡ s.Else
unfolding else_place
else_next ns = (else_sorted {ns = ns}).is (record { kind = lexeme_kind.Word; text = codes "else"; pos = record { file = 0; line = 0; col = 0 }; first = false }) refl

block_body : {ns ms : Names} (l : List Stmt) (at : Pos) → Items jumps.Neither l ns ms → Body ns (st.Block l at)
block_body {ns = ns} l at r = record { prints = (stated_block {q = else_place ns} jumps.Neither l at r).closed (else_next ns); leads = lead_words (view.words_of_block at l) (lead s.LBrace Signs.left_brace_sorted refl) }

y_block : {spare : ℕ} {ns : Names} → Yields spare ns (gs.block jumps.Neither) (Quiet ns (Body ns))
y_block {spare = spare} {ns = ns} = y_scope {P = λ x q. Body ns x} (y_after y_one (y_before (λ l ms. Items jumps.Neither l ns ms) (y_many_to (λ l ms. Items jumps.Neither l ns ms) Row.none (λ x ms. y_map_to (y_item spare (stmt_law spare) ns jumps.Neither x) (λ a q h l r. h l r))))
    (λ o l q u h. block_body l o.pos h)) (λ x q h. (refl, h))

whole_block : (d : ℕ) (ns : Names) (u v : Place) (x : Stmt) → u.names ≡ ns → next u ≡ s.LBrace → SpellsIn production d (Phrase.stmt jumps.Neither) u x v → Quiet ns (Body ns) x v
unfolding Spells SpellsIn
whole_block zero ns u v x e n h = absurd h
whole_block (suc d) ns u v x e n h = y_block.gives u v x e (subst (λ (y : Sort). Spells d (SpellsIn production d) (gs.statement jumps.Neither y) u x v) n h)

y_body : {spare : ℕ} {ns : Names} → Yields spare ns (Form.by inner.body_of) (Quiet ns (MaybeBody ns))
unfolding Spells
y_body {spare = spare} {ns = ns} = record { gives = λ u v b e t. by u v b e (next u) refl t }
  where
    plain : Yields spare ns (inner.body_of s.Semi) (Quiet ns (MaybeBody ns))
    plain = y_map_to y_one (λ t q u. (u.0, tt))

    by : (u v : Place) (b : Option Stmt) → u.names ≡ ns → (y : Sort) → next u ≡ y → Spells spare (SpellsIn production spare) (inner.body_of y) u b v → Quiet ns (MaybeBody ns) b v
    by u v b e s.LBrace n t = (let k = whole_block spare ns u t.2 t.3.0 e n t.3.1 in (ap (λ (w : Place). w.names) t.4.1 ∙ k.0, subst (MaybeBody ns) (sym t.5) (subst (Body ns) (sym t.3.2) k.1)))
    by u v b e s.Semi n t = plain.gives u v b e t
    by u v b e _ n t = absurd t

-- ---- functions

record FineStart (ns : Names) (x : inner.Start) : Type 0 where
  ty : FineType ns x.ty
  is_name : IsName x.name.text

-- the declaration is printed under the names before it, and hides what it does
abbrev Ready : Site → Names → Names → inner.Declaring → Type 0
Ready m ns ms d = Decled m ns (inner.all_hidden d.hides ms) d.decl

-- what stands behind a name makes such a declaration
abbrev FineBehind : Site → Names → inner.Behind → Place → Type 0
FineBehind m ns f q = (w : inner.Words) (x : inner.Start) → FineStart ns x → Ready m ns q.names (f w x)

abbrev Callable : Site → Names → Names → inner.Called → Type 0
Callable m ns ms f = (item : Option Token) (b : Option Param) (w : inner.Words) (x : inner.Start) → FineStart ns x → MaybeName (inner.text_of item) → ms ≡ after_bracket ns b → MaybeBracket ns b → Ready m ns ns (f item b w x)

called_ready : (m : Site) (ns ms ls : Names) (ps : List Param) (l : List Attr) (b : Option Stmt) → FineParams ms ps ls → All (Attribute ls) l → MaybeBody ls b → Callable m ns ms (inner.called ps l b)
called_ready m ns ms ls ps l b h a k item o w x s i e z = subst (λ hs. Decled m ns (inner.all_hidden hs ns) (decl.Func (inner.head_of item o ps l w x) b)) (sym (own_is item x.name)) (decled_func (inner.head_of item o ps l w x) b (record {
  inside = ls;
  result = s.ty.basic;
  no_dims = refl;
  is_name = s.is_name;
  item = i;
  bracket = z;
  params = subst (λ n. AllParams ps n ls) e h.0;
  kept = h.1;
  attrs = a;
  body = k;
}) m)

norace_ready : (ns ms : Names) (t : CastType) (vs : List Variable) → FineType ns t → Several ns vs ms → Ready site.Module ns ms (inner.grouped true t vs)
norace_ready ns ms t [] k a = no_cons Variable a.1
norace_ready ns ms t (v ∷ vs) k a = decled_norace t.ty v vs (plain_of ns t k) a.0

module _ {spare : ℕ} where
  y_call : {ms : Names} (ns : Names) (m : Site) → Yields spare ms inner.call_form (λ f q. Callable m ns ms f)
  y_call {ms = ms} ns m = y_then {P = λ ps q. FineParams ms ps q.names} {Q = λ ps q f r. Callable m ns ms (f ps)} y_parameters
      (λ ps q h. y_after {P = λ l. All (Attribute q.names) l} {Q = Quiet q.names (MaybeBody q.names)} (y_attributes spare (stmt_law spare)) y_body (λ l b r a k. called_ready m ns ms q.names ps l b h a k.1)) (λ ps q f r h g. g)

  module _ {ns : Names} where
    y_rest : (m : Site) → Yields spare ns inner.function_rest (λ f q. (q.names ≡ ns) × ((item : Option Token) (w : inner.Words) (x : inner.Start) → FineStart ns x → MaybeName (inner.text_of item) → Ready m ns ns (f item w x)))
    y_rest m = y_scope {P = λ f q. (item : Option Token) (w : inner.Words) (x : inner.Start) → FineStart ns x → MaybeName (inner.text_of item) → Ready m ns ns (f item w x)}
        (y_then {P = FineBracket ns} {Q = λ o q f r. Callable m ns q.names f} y_bracket (λ o q h. y_call ns m) (λ o q f r h g item w x s i. g item o w x s i h.0 h.1)) (λ f q h. (refl, h))

    y_end : (m : Site) → Yields spare ns inner.function_end (FineBehind m ns)
    y_end m = y_after {P = λ o. MaybeName (inner.text_of o)} (y_maybe {P = λ o. MaybeName (inner.text_of o)} (y_map (y_seq {R = λ t. IsName t.text} y_one y_name (λ t n u h. h)) (λ t h. h)) tt) (y_rest m)
        (λ item f q i g w x s. subst (λ n. Ready m ns n (f item w x)) (sym g.0) (g.1 item w x s i))

    y_plain_rest : (m : Site) → Yields spare ns (gr.map (λ f. f None) inner.function_rest) (FineBehind m ns)
    y_plain_rest m = y_map_to (y_rest m) (λ f q g w x s. subst (λ n. Ready m ns n (f None w x)) (sym g.0) (g.1 None w x s tt))

    y_bracketed_function : (m : Site) → Yields spare ns inner.bracketed_function (FineBehind m ns)
    y_bracketed_function m = y_scope {P = λ f q. (w : inner.Words) (x : inner.Start) → FineStart ns x → Ready m ns ns (f w x)}
        (y_then {P = λ x q. (q.names ≡ after_name ns x.name) × Bracketed ns x} {Q = λ o q f r. Callable m ns q.names f} y_bracket_rest (λ o q h. y_call ns m) (λ o q f r h g w x s. g None (Some o) w x s tt h.0 h.1)) (λ f q h. h)

    -- ---- variables

    y_others : Yields spare ns (gr.before inner.more_variables (gr.one s.Semi)) (λ vs q. AllDeclared vs ns q.names)
    y_others = y_before (λ vs ms. AllDeclared vs ns ms) (y_many_to (λ vs ms. AllDeclared vs ns ms) AllDeclared.none
        (λ x ms. y_when (gr.is_comma x) (y_map_to (y_behind (y_variable spare (stmt_law spare))) (λ v q h vs g. subst (AllDeclared (vs ++ (v ∷ [])) ns) (sym h.0) (declared_pushed vs v g h.1)))))

  y_first_variable : {ns : Names} → Yields spare ns inner.first_variable (λ f q. (l : List tree.Expr) (w : inner.Words) (x : inner.Start) → FineStart ns x → FineAll ns l → Ready site.Module ns q.names (f l w x))
  y_first_variable {ns = ns} = y_after {P = λ l. All (Attribute ns) l} (y_attributes spare (stmt_law spare))
      (y_then {P = Quiet ns (MaybeInitial ns)} {Q = λ o q vs r. AllDeclared vs q.names r.names} (y_maybe {P = MaybeInitial ns} (y_map (y_seq {R = Initial ns} y_one (y_init spare (stmt_law spare)) (λ t x u h. h)) (λ x h. h)) tt) (λ o q h. y_others)
      (λ o q vs r h a l w x s d. decled_vars x.ty.ty (inner.with_init (inner.variable_at x l) o) vs (record { ty = plain_of ns x.ty s.ty; first = record { is_name = s.is_name; dims = d }; init = h.1; others = subst (λ n. AllDeclared vs n r.names) h.0 a }))) (λ l f q u h. h)

  module _ {ns : Names} where
    y_dimensioned : Yields spare ns inner.dimensioned (FineBehind site.Module ns)
    y_dimensioned = y_after {P = λ l. FineAll ns l.exprs} (y_seq {R = λ l. FineAll ns l.exprs} (y_seq {R = λ a. Fine ns a.expr} y_expr y_one (λ a t h u. h)) (y_dims (law spare)) (λ a l h g. (h, g))) y_first_variable (λ l f q d h w x s. h l.exprs w x s d)

    y_bracketed_of : (x : Sort) → Yields spare ns (inner.bracketed_of x) (FineBehind site.Module ns)
    y_bracketed_of x = y_if (begins_type x) (y_bracketed_function site.Module) (y_when (begins_expr x) y_dimensioned)

    y_first_plain : Yields spare ns (gr.map (λ f. f []) inner.first_variable) (FineBehind site.Module ns)
    y_first_plain = y_map_to y_first_variable (λ f q h w x s. h [] w x s tt)

    y_ending : (m : Site) (x : Sort) → Yields spare ns (inner.ending m x) (FineBehind m ns)
    y_ending site.Header s.LParen = y_plain_rest site.Header
    y_ending site.Header s.Dot = y_end site.Header
    y_ending site.Header _ = y_none
    y_ending site.Module s.LParen = y_plain_rest site.Module
    y_ending site.Module s.Dot = y_end site.Module
    y_ending site.Module s.LBracket = y_behind (y_by y_bracketed_of)
    y_ending site.Module s.At = y_first_plain
    y_ending site.Module s.Assign = y_first_plain
    y_ending site.Module s.Comma = y_first_plain
    y_ending site.Module s.Semi = y_first_plain
    y_ending site.Module _ = y_none

    -- ---- from the type on

    y_named : {g : Form inner.Behind} (m : Site) → Yields spare ns g (FineBehind m ns) → Yields spare ns (inner.named g) (λ f q. (t : CastType) (w : inner.Words) → FineType ns t → Ready m ns q.names (f t w))
    y_named m u = y_after {Q = λ f q. (n : ℕ) (t : CastType) (w : inner.Words) → FineType ns t → Ready m ns q.names (f n t w)} (y_stars (law spare))
        (y_after y_name u (λ x f q i h n t w k. h w (record { ty = t; stars = n; name = x }) (record { ty = k; is_name = i }))) (λ n f q u h t w k. h n t w k)

    y_kind_of : (x : Sort) → Yields spare ns (inner.kind_of x) (Quiet ns (λ k. Unit {0}))
    y_kind_of s.Task = y_map y_one (λ t u. tt)
    y_kind_of s.Item = y_map y_one (λ t u. tt)
    y_kind_of _ = y_none

    y_function_words : Yields spare ns inner.function_words (Quiet ns (λ w. Unit {0}))
    y_function_words = y_seq {P = λ w. Unit {0}} {Q = λ k. Unit {0}} (y_many tt (λ x. y_when (inner.is_modifier x) (y_map y_one (λ t u w h. tt)))) (y_maybe (y_by y_kind_of) tt) (λ w k u h. tt)

    y_function : (m : Site) → Yields spare ns inner.function (λ d q. Ready m ns q.names d)
    y_function m = y_after {Q = λ f q. (w : inner.Words) → Ready m ns q.names (f w)} y_function_words
        (y_after {Q = λ f q. (t : CastType) (w : inner.Words) → FineType ns t → Ready m ns q.names (f t w)} y_type (y_named m (y_end m)) (λ t f q k h w. h t w k)) (λ w f q u h. h w)

    y_named_in : (m : Site) → Yields spare ns (inner.named_in m) (λ f q. (t : CastType) → FineType ns t → Ready m ns q.names (f t))
    y_named_in m = y_map_to (y_named m (y_by (y_ending m))) (λ f q h t k. h t inner.no_words k)

    y_typed_of : (m : Site) (x : Sort) → Yields spare ns (inner.typed_of m x) (λ f q. (t : CastType) → FineType ns t → Ready m ns q.names (f t))
    y_typed_of m s.Semi = y_map_to y_one (λ o q u t k. subst (λ n. Decled m ns n (decl.TypeOnly t.ty t.from)) (sym u.0) (decled_type m t.ty t.from (plain_of ns t k)))
    y_typed_of m s.Star = y_named_in m
    y_typed_of m s.Word = y_named_in m
    y_typed_of m s.TypeName = y_named_in m
    y_typed_of m _ = y_none

    y_typed : (m : Site) → Yields spare ns (gr.with gr.type_form (Form.by (inner.typed_of m))) (λ d q. Ready m ns q.names d)
    y_typed m = y_after {Q = λ f q. (t : CastType) → FineType ns t → Ready m ns q.names (f t)} y_type (y_by (y_typed_of m)) (λ t f q k h. h t k)

    y_norace : Yields spare ns inner.norace_variables (λ d q. Ready site.Module ns q.names d)
    y_norace = y_behind (y_after {P = λ l. Unit {0}} (y_many tt (λ x. y_when (inner.is_storage x) (y_map y_one (λ t u l h. tt))))
        (y_after y_type (y_before (λ vs ms. Several ns vs ms) (y_variables spare (stmt_law spare))) (λ t vs q k a. norace_ready ns q.names t vs k a)) (λ l d q u h. h))

    y_static_of : (x : Sort) → Yields spare ns (inner.static_of x) (λ d q. Ready site.Module ns q.names d)
    y_static_of s.Norace = y_norace
    y_static_of s.Async = y_function site.Module
    y_static_of s.Default = y_function site.Module
    y_static_of s.Inline = y_function site.Module
    y_static_of s.Task = y_function site.Module
    y_static_of s.Item = y_function site.Module
    y_static_of x = y_when {g = gr.with gr.type_form (inner.named_in site.Module)} (begins_type x) (y_after {Q = λ f q. (t : CastType) → FineType ns t → Ready site.Module ns q.names (f t)} y_type (y_named_in site.Module) (λ t f q k h. h t k))

    y_static : (m : Site) → Yields spare ns (inner.static_decl m) (λ d q. Ready m ns q.names d)
    y_static site.Header = y_function site.Header
    y_static site.Module = y_behind (y_after {P = λ l. Unit {0}} (y_many tt (λ x. y_when (inner.is_static x) (y_map y_one (λ t u l h. tt)))) (y_by y_static_of) (λ l d q u h. h))

    y_norace_in : (m : Site) → Yields spare ns (gr.when (has_variables m) inner.norace_variables) (λ d q. Ready m ns q.names d)
    y_norace_in site.Header = y_none
    y_norace_in site.Module = y_norace

    y_declaring : (m : Site) (x : Sort) → Yields spare ns (inner.declaring m x) (λ d q. Ready m ns q.names d)
    y_declaring m s.Norace = y_norace_in m
    y_declaring m s.Static = y_static m
    y_declaring m s.Async = y_function m
    y_declaring m s.Default = y_function m
    y_declaring m s.Inline = y_function m
    y_declaring m s.Task = y_function m
    y_declaring m s.Item = y_function m
    y_declaring m x = y_when {g = gr.with gr.type_form (Form.by (inner.typed_of m))} (begins_type x) (y_typed m)

    y_hiding : {g : Form inner.Declaring} (m : Site) → Yields spare ns g (λ d q. Ready m ns q.names d) → Yields spare ns (inner.hiding g) (λ a q. Decled m ns q.names a)
    y_hiding m u = y_map_to {P = λ d q. Decled m ns q.names d.decl} (y_declare u (λ d q h. h)) (λ d q h. h)

  y_typedef : {ns : Names} (m : Site) → Yields spare ns inner.typedef_decl (λ a q. Decled m ns q.names a)
  y_typedef {ns = ns} m = y_after {Q = λ f q. (o : Token) → Decled m ns q.names (f o)} y_one (y_map_to {P = λ d q. Decled m ns q.names d} (y_after {Q = λ f q. (t : CastType) → FineType ns t → Decled m ns q.names (f t)} y_type
      (y_then {P = λ v q. (q.names ≡ sorts.declared v.declarator.name true ns) × vars.Declarator ns v.declarator.stars v.declarator.name v.declarator.dims} {Q = λ v q. Quiet q.names (λ l. All (Attribute q.names) l)}
      (y_declare (y_plain_variable spare (stmt_law spare)) (λ v q h. (ap (sorts.declared v.declarator.name true) h.0, h.1))) (λ v q h. y_seq {R = λ l. All (Attribute q.names) l} (y_attributes spare (stmt_law spare)) y_one (λ l t h u. h))
      (λ v q l r h g t k. subst (λ n. Decled m ns n (inner.type_name v l t)) (sym (g.0 ∙ h.0)) (decled_typedef m v.declarator.name (inner.declared_type t v.declarator.stars v.declarator.dims) l v.pos (named v l t q h.0 h.1 g.1 k))))
      (λ t f q h k. k t h)) (λ d q h o. h)) (λ o f q u h. h o)
    where
      named : (v : Variable) (l : List Attr) (t : CastType) (q : Place) → q.names ≡ sorts.declared v.declarator.name true ns → vars.Declarator ns v.declarator.stars v.declarator.name v.declarator.dims → All (Attribute q.names) l → FineType ns t
          → vars.TypeNamed ns v.declarator.name (inner.declared_type t v.declarator.stars v.declarator.dims) l
      named v l t q e d a h = record { basic = h.basic; declarator = d; attrs = subst (λ n. All (Attribute n) l) e a }

  y_decl_of : {ns : Names} (m : Site) (x : Sort) → Yields spare ns (inner.decl_of m x) (λ a q. Decled m ns q.names a)
  y_decl_of m s.Typedef = y_typedef m
  y_decl_of m x = y_hiding {g = inner.declaring m x} m (y_declaring m x)

pub decl_law : (d : ℕ) (m : Site) (u v : Place) (x : Decl) → SpellsIn production d (Phrase.decl m) u x v → Decled m u.names v.names x
unfolding SpellsIn
decl_law zero m u v x h = absurd h
decl_law (suc d) m u v x h = (y_by (y_decl_of m)).gives u v x refl h

-- ---- one behind the other

y_decl : {spare : ℕ} {ns : Names} (m : Site) → Yields spare ns (inner.decl m) (λ a q. Decled m ns q.names a)
unfolding Spells
y_decl {spare = spare} {ns = ns} m = record { gives = λ u v b e t. subst (λ x. Decled m ns v.names x) (sym t.2) (subst (λ n. Decled m n v.names t.0) e (decl_law spare m u v t.0 t.1)) }

pub y_decls : {spare : ℕ} {ns : Names} (m : Site) → Yields spare ns (inner.decls_before m) (λ xs q. Decls m xs ns q.names)
y_decls {ns = ns} m = y_many_to (λ xs ms. Decls m xs ns ms) Row.none (λ x ms. y_when (begins_decl m x) (y_map_to (y_decl m) (λ a q h xs r. decl_pushed m xs a r h)))
