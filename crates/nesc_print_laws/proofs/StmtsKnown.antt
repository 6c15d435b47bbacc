-- What tokens spell is printed so that it is read again: initialisers, attributes, declarations in blocks and statements.
use Rattle.std.proofs.Common.{◌≡◌, ℕ, zero, suc, Bool, true, false, List, [], ◌∷◌, ◌++◌, map, Option, Some, None, refl, sym, ap, subst, ◌∙◌}
use Rattle.nm_base.specs.declared.token.Token.{Token}
use Rattle.nesc_tree.proofs.Same.{same_is}
use Rattle.nesc_tree.specs.declared.sorts.Sort.{Sort}
use Rattle.nesc_tree.specs.declared.sorts.Sort.TheVariants as s
use Rattle.nesc_tree.specs.declared.contexts.Jumps.{Jumps}
use Rattle.nesc_tree.specs.declared.contexts.Jumps.TheVariants as jumps
use Rattle.nesc_tree.specs.declared.tree.Expr as tree
use Rattle.nesc_tree.specs.declared.operand.CastType.{CastType}
use Rattle.nesc_tree.specs.declared.operand.Operand.{Operand}
use Rattle.nesc_tree.specs.declared.operand.Inits.{Inits}
use Rattle.nesc_tree.specs.declared.operand.Dims.{Dims}
use Rattle.nesc_tree.specs.declared.declarations.Attr.{Attr}
use Rattle.nesc_tree.specs.declared.declarations.AttrArg.TheVariants as arg
use Rattle.nesc_tree.specs.declared.declarations.AttrArg.{AttrArg}
use Rattle.nesc_tree.specs.declared.declarations.Init as init
use Rattle.nesc_tree.specs.declared.declarations.Init.{Init}
use Rattle.nesc_tree.specs.declared.declarations.Variable.{Variable}
use Rattle.nesc_tree.specs.declared.declarations.ForStart.TheVariants as start
use Rattle.nesc_tree.specs.declared.declarations.ForStart.{ForStart}
use Rattle.nesc_tree.specs.declared.declarations.Decl as decl
use Rattle.nesc_tree.specs.declared.declarations.Decl.{Decl}
use Rattle.nesc_tree.specs.declared.declarations.Stmt as st
use Rattle.nesc_tree.specs.declared.declarations.Stmt.{Stmt}
use Rattle.nesc_tree.specs.Choices.{is_else}
use Rattle.nesc_tree.specs.View.{expr_of, base_of}
use Rattle.nesc_tree.specs.Sorts.{Names, ahead, same_sort}
use Rattle.nesc_tree.specs.Sorts as sorts
use Rattle.nesc_tree.specs.Phrase.{Phrase, Of, begins_type, begins_expr, begins_local, begins_label, may_break, may_continue}
use Rattle.nesc_tree.specs.Form.{Form, Place, next, starts, chosen, Spells, SpellsIn}
use Rattle.nesc_grammar.specs.Production.{production}
use Rattle.nesc_grammar.specs.Grammar as gr
use Rattle.nesc_grammar.specs.Declarations as inner
use Rattle.nesc_grammar.specs.Statements as gs
use Rattle.nesc_print_words.specs.Declarations.{init_words}
use Rattle.nesc_print_words.specs.Statements.{stmt_words, start_words}
use Rattle.nesc_print_laws.specs.Shapes.{start_shape, stmt_shape}
use Rattle.nesc_print_laws.proofs.Texts.{Prints, Leads, Any}
use Rattle.nesc_print_laws.proofs.Names.{IsName}
use Rattle.nesc_print_laws.proofs.Runs.{Bare}
use Rattle.nesc_print_laws.proofs.Lists.{Row}
use Rattle.nesc_print_laws.proofs.Calls.{All}
use Rattle.nesc_print_laws.proofs.Yields.{Yields, Quiet, y_token, y_none, y_seq, y_map, y_by, y_maybe, y_many, y_loop, y_when, y_if, y_one, y_name}
use Rattle.nesc_print_laws.proofs.Known.{Fine, FineAll, FineType, all_pushed, law, y_whole, y_type_form, y_stars, y_dims}
use Rattle.nesc_print_laws.proofs.Changed.{renamed, row_pushed, y_then, y_map_to, y_declare, y_scope, y_many_to, y_loop_to}
use Rattle.nesc_print_laws.proofs.Inits.{SameInit, Initial, initial_one, initial_many, has_braces, braces_lead, Argument, argument_text, argument_value, Attribute}
use Rattle.nesc_print_laws.proofs.Variables as vars
use Rattle.nesc_print_laws.proofs.Variables.{Plain, TypeNamed, AllDeclared, Declared, declared_pushed, MaybeInitial, no_initial, an_initial}
use Rattle.nesc_print_laws.proofs.StmtViews as view
use Rattle.nesc_print_laws.proofs.Stmts
use Rattle.nesc_print_laws.proofs.Stmts.{Stated, MaybeBare, is_block}
use Rattle.nesc_print_laws.proofs.Blocks as b
use Rattle.nesc_print_laws.proofs.Blocks.{Local, Labelled, Target, Switched, Items, Cases}

-- ---- what is known of each phrase

module _ (ns : Names) where
  pub record Braced (x : Init) : Type 0 where
    pub prints : Prints ns ns (production Phrase.braces) (init_words x) Any (SameInit x)
    pub leads : Leads ns ns (init_words x) Any (λ y. y ≡ s.LBrace)

  unfoldable pub StmtLaw : (k : Phrase) → Of k → Place → Type 0
  StmtLaw Phrase.braces a q = Quiet ns Braced a q
  StmtLaw Phrase.local a q = Local ns q.names a
  StmtLaw (Phrase.stmt j) a q = (q.names ≡ ns) × Stated ns j a q
  StmtLaw (Phrase.label j) a q = Quiet ns (Labelled ns j) a q
  StmtLaw (Phrase.cases j) a q = Quiet ns (Switched ns j) a q
  StmtLaw Phrase.attribute a q = Quiet ns (Attribute ns) a q
  StmtLaw _ a q = Unit {0}

-- ---- more of what is known of texts

module _ {spare : ℕ} {ns : Names} where
  -- of the value nothing is said
  pub y_any : {A : Type 0} {g : Form A} → Yields spare ns g (λ a q. Unit {0})
  y_any = record { gives = λ p q a e t. tt }

  -- behind what keeps the names
  pub y_after : {A B C : Type 0} {f : A → B → C} {g : Form A} {h : Form B} {P : A → Type 0} {Q : B → Place → Type 0} {R : C → Place → Type 0}
      → Yields spare ns g (Quiet ns P) → Yields spare ns h Q → ((a : A) (b : B) (q : Place) → P a → Q b q → R (f a b) q) → Yields spare ns (Form.seq f g h) R
  y_after {h = h} {Q = Q} u v k = y_then {Q = λ a q. Q} u (λ a q w. subst (λ n. Yields spare n h Q) (sym w.0) v) (λ a q b r w z. k a b r w.1 z)

  pub y_behind : {B : Type 0} {x : Sort} {h : Form B} {Q : B → Place → Type 0} → Yields spare ns h Q → Yields spare ns (gr.behind (gr.one x) h) Q
  y_behind v = y_after y_one v (λ t b q u w. w)

  -- a sign behind it keeps the names
  pub y_before : {A : Type 0} {x : Sort} {g : Form A} (P : A → Names → Type 0) → Yields spare ns g (λ a q. P a q.names) → Yields spare ns (gr.before g (gr.one x)) (λ a q. P a q.names)
  y_before P u = y_then {Q = λ a q t r. (r.names ≡ q.names) × Unit {0}} u (λ a q w. y_one) (λ a q t r w z. subst (P a) (sym z.0) w)

pick : {A : Type 0} (P : A → Place → Type 0) {X : Type 0} (b c : A) (p q : Place) (x : Bool) → (X → P c q) → (q ≡ p → P b q) → chosen x X ((c ≡ b) × (q ≡ p)) → P c q
pick P b c p q true k h t = k t
pick P b c p q false k h t = subst (λ z. P z q) (sym t.0) (h t.1)

module _ {spare : ℕ} {ns : Names} where
  pub y_maybe_to : {A : Type 0} {g : Form A} {b : A} {P : A → Place → Type 0} → Yields spare ns g P → ((q : Place) → q.names ≡ ns → P b q) → Yields spare ns (Form.maybe g b) P
  unfolding Spells
  y_maybe_to {g = g} {b = b} {P = P} u h = record { gives = λ p q a e t. pick P b a p q (starts g (next p)) (λ w. u.gives p q a e w) (λ z. h q (ap (λ (w : Place). w.names) z ∙ e)) t }

  pub y_weaker : {A : Type 0} {g : Form A} {P R : A → Place → Type 0} → Yields spare ns g P → ((a : A) (q : Place) → P a q → R a q) → Yields spare ns g R
  y_weaker u k = record { gives = λ p q a e t. k a q (u.gives p q a e t) }

  pub y_where : {A : Type 0} {g : Form A} {P : A → Place → Type 0} (b : Bool) → (b ≡ true → Yields spare ns g P) → Yields spare ns (gr.when b g) P
  y_where true u = u refl
  y_where false u = y_none

-- ---- else

else_ahead : (j : Jumps) (y : Sort) → starts (gr.map (λ (x : Stmt). Some x) (gr.behind (gr.one s.Else) (gs.stmt j))) y ≡ true → y ≡ s.Else
else_ahead j s.Else h = refl
else_ahead j _ h = absurd cc

else_not_ahead : (j : Jumps) (y : Sort) → starts (gr.map (λ (x : Stmt). Some x) (gr.behind (gr.one s.Else) (gs.stmt j))) y ≡ false → is_else y ≡ false
else_not_ahead j s.Else h = absurd cc
else_not_ahead j _ h = refl

else_renamed : (ns ms : Names) (us : List Token) → ahead ns us ≡ s.Else → ahead ms us ≡ s.Else
else_renamed ns ms us e = sym (same_is s.Else (ahead ms us) (sym (renamed (λ y. same_sort s.Else y) refl ns ms us) ∙ ap (λ y. same_sort s.Else y) e))

-- ---- which statements are blocks

module _ {spare : ℕ} {ns : Names} where
  y_eval_block : Yields spare ns gs.eval (λ x q. is_block (stmt_shape x) ≡ false)
  y_eval_block = y_then {P = λ o q. Unit {0}} {Q = λ o q f r. Unit {0}} y_any (λ o q u. y_any) (λ a q t r u v. ap is_block (view.eval_shape a.from a.expr))

  y_is_block : (j : Jumps) (y : Sort) → Yields spare ns (gs.statement j y) (λ x q. is_block (stmt_shape x) ≡ same_sort y s.LBrace)
  y_is_block j s.LBrace = y_scope {P = λ x q. is_block (stmt_shape x) ≡ true} (y_then {P = λ o q. Unit {0}} {Q = λ o q l r. Unit {0}} y_any (λ o q u. y_any) (λ o q l r u v. ap is_block (view.block_shape o.pos l))) (λ x q h. h)
  y_is_block j s.Semi = y_map_to {P = λ o q. Unit {0}} y_any (λ o q u. ap is_block (view.empty_shape o.pos))
  y_is_block j s.Atomic = y_then {P = λ o q. Unit {0}} {Q = λ o q l r. Unit {0}} y_any (λ o q u. y_any) (λ o q x r u v. ap is_block (view.atomic_shape o.pos x))
  y_is_block j s.If = y_then {P = λ o q. Unit {0}} {Q = λ o q f r. (t : Token) → is_block (stmt_shape (f t)) ≡ false} y_any (λ o q u. y_then {P = λ o q. Unit {0}} {Q = λ o q f r. (a : Operand) (t : Token) → is_block (stmt_shape (f a t)) ≡ false} y_any
      (λ o q u. y_then {P = λ o q. Unit {0}} {Q = λ o q f r. Unit {0}} y_any (λ o q u. y_any) (λ x q z r u v a t. ap is_block (view.if_shape t.pos a.expr x z))) (λ a q f r u h t. h a t)) (λ o q f r u h. h o)
  y_is_block j s.While = y_then {P = λ o q. Unit {0}} {Q = λ o q f r. (t : Token) → is_block (stmt_shape (f t)) ≡ false} y_any (λ o q u. y_then {P = λ o q. Unit {0}} {Q = λ o q f r. Unit {0}} y_any (λ o q u. y_any) (λ a q x r u v t. ap is_block (view.while_shape t.pos a.expr x))) (λ o q f r u h. h o)
  y_is_block j s.Do = y_then {P = λ o q. Unit {0}} {Q = λ o q f r. (t : Token) → is_block (stmt_shape (f t)) ≡ false} y_any (λ o q u. y_then {P = λ o q. Unit {0}} {Q = λ o q f r. Unit {0}} y_any (λ o q u. y_any) (λ x q a r u v t. ap is_block (view.do_shape t.pos x a.expr))) (λ o q f r u h. h o)
  y_is_block j s.For = y_scope {P = λ x q. is_block (stmt_shape x) ≡ false} (y_then {P = λ o q. Unit {0}} {Q = λ o q f r. (t : Token) → is_block (stmt_shape (f t)) ≡ false} y_any (λ o q u. y_then {P = λ o q. Unit {0}} {Q = λ o q f r. (t : Token) → is_block (stmt_shape (f t)) ≡ false} y_any
      (λ o q u. y_then {P = λ o q. Unit {0}} {Q = λ o q f r. (c : ForStart) (t : Token) → is_block (stmt_shape (f c t)) ≡ false} y_any (λ o q u. y_then {P = λ o q. Unit {0}} {Q = λ o q f r. (a : Option Operand) (c : ForStart) (t : Token) → is_block (stmt_shape (f a c t)) ≡ false} y_any
      (λ o q u. y_then {P = λ o q. Unit {0}} {Q = λ o q f r. Unit {0}} y_any (λ o q u. y_any) (λ d q x r u v a c t. ap is_block (view.for_shape t.pos c (gr.value_of a) (gr.value_of d) x))) (λ a q f r u h c t. h a c t)) (λ c q f r u h t. h c t)) (λ o q f r u h. h)) (λ o q f r u h. h o)) (λ x q h. h)
  y_is_block j s.Switch = y_then {P = λ o q. Unit {0}} {Q = λ o q f r. (t : Token) → is_block (stmt_shape (f t)) ≡ false} y_any (λ o q u. y_then {P = λ o q. Unit {0}} {Q = λ o q f r. Unit {0}} y_any (λ o q u. y_any) (λ a q x r u v t. ap is_block (view.switch_shape t.pos a.expr x))) (λ o q f r u h. h o)
  y_is_block j s.Break = y_when (may_break j) (y_then {P = λ o q. Unit {0}} {Q = λ o q f r. Unit {0}} y_any (λ o q u. y_any) (λ o q x r u v. ap is_block (view.break_shape o.pos)))
  y_is_block j s.Continue = y_when (may_continue j) (y_then {P = λ o q. Unit {0}} {Q = λ o q f r. Unit {0}} y_any (λ o q u. y_any) (λ o q x r u v. ap is_block (view.continue_shape o.pos)))
  y_is_block j s.Return = y_then {P = λ o q. Unit {0}} {Q = λ o q f r. Unit {0}} y_any (λ o q u. y_any) (λ o q a r u v. ap is_block (view.return_shape o.pos (gr.value_of a)))
  y_is_block j x = y_when {g = gs.eval} {P = λ x q. is_block (stmt_shape x) ≡ false} (begins_expr x) y_eval_block

block_known : (d : ℕ) (j : Jumps) (p q : Place) (x : Stmt) → SpellsIn production d (Phrase.stmt j) p x q → is_block (stmt_shape x) ≡ same_sort (next p) s.LBrace
unfolding Spells SpellsIn
block_known zero j p q x h = absurd h
block_known (suc d) j p q x h = (y_is_block j (next p)).gives p q x refl h

-- the body of a `switch`
data SwitchBody (ns : Names) (j : Jumps) (x : Stmt) (q : Place) : Type 0 where
  cases : Switched ns j x → SwitchBody ns j x q
  other : Stated ns j x q → is_block (stmt_shape x) ≡ false → SwitchBody ns j x q

-- ---- initialisers and attributes

abbrev Inited : Names → Inits → Type 0
Inited ns l = All (Initial ns) l.list × (x : Init) × (xs : List Init) × (l.list ≡ x ∷ xs)

first_inited : (ns : Names) (v : Init) → Initial ns v → All (Initial ns) (v ∷ []) × (x : Init) × (xs : List Init) × ((v ∷ []) ≡ x ∷ xs)
first_inited ns v h = ((h, tt), v, [], refl)

abbrev pub SomeInited : Names → Option Init → Type 0
SomeInited ns None = Unit {0}
SomeInited ns (Some v) = Initial ns v

more_inited : (ns : Names) (o : Option Init) (l : Inits) → SomeInited ns o → Inited ns l → Inited ns (inner.more_inits o l)
more_inited ns None l h g = g
more_inited ns (Some v) l h g = (all_pushed (Initial ns) l.list v g.0 h, g.1, g.2 ++ (v ∷ []), ap (λ xs. xs ++ (v ∷ [])) g.3)

braced : (ns : Names) (l : Inits) → Inited ns l → Braced ns (init.Many l.list)
braced ns l h = record { prints = subst (λ xs. Prints ns ns (production Phrase.braces) (init_words (init.Many xs)) Any (SameInit (init.Many xs))) (sym h.3) (has_braces h.1 h.2 (subst (All (Initial ns)) h.3 h.0)); leads = braces_lead l.list }

pub maybe_initial : (ns : Names) (o : Option Init) → SomeInited ns o → MaybeInitial ns o
maybe_initial ns None h = no_initial ns
maybe_initial ns (Some v) h = an_initial ns v h

pub is_cons : {A : Type 0} → List A → Bool
is_cons [] = false
is_cons (x ∷ xs) = true

pub pushed_cons : {A : Type 0} (xs : List A) (x : A) → is_cons (xs ++ (x ∷ [])) ≡ true
unfolding is_cons
pushed_cons [] x = refl
pushed_cons (y ∷ xs) x = refl

pub one_cons : {A : Type 0} (x : A) → is_cons (x ∷ []) ≡ true
unfolding is_cons
one_cons x = refl

pub no_cons : (A : Type 0) {X : Type 0} → is_cons {A = A} [] ≡ true → X
unfolding is_cons
no_cons A h = absurd cc

abbrev pub DeclaredVariable : Names → Variable → Place → Type 0
DeclaredVariable ns v q = (q.names ≡ inner.hidden v.declarator.name ns) × Declared ns v

-- variables from the first names on, one at least
abbrev pub Several : Names → List Variable → Names → Type 0
Several ns vs ms = AllDeclared vs ns ms × (is_cons vs ≡ true)

pub plain_of : (ns : Names) (t : CastType) → FineType ns t → Plain ns t.ty
plain_of ns t h = record { basic = h.basic; stars = h.stars; dims = h.dims }

group_local : (ns ms : Names) (t : CastType) (vs : List Variable) → Plain ns t.ty → AllDeclared vs ns ms → Local ns ms (gs.local_group t vs)
group_local ns ms t [] k AllDeclared.none = b.local_type t.ty t.from t.from k
group_local ns ms t (v ∷ vs) k a = b.local_group t.ty v vs k a t.from

abbrev StatedAt : Names → Jumps → Stmt → Place → Type 0
StatedAt ns j x q = (q.names ≡ ns) × Stated ns j x q

abbrev StartOk : Names → Names → ForStart → Type 0
StartOk ns ms c = Prints ns ms (Form.by gs.for_start_of) (start_words c) Any (λ d. start_shape d ≡ start_shape c)

start_group : (ns ms : Names) (t : CastType) (vs : List Variable) → Plain ns t.ty → Several ns vs ms → StartOk ns ms (start.Vars (inner.group false t vs))
start_group ns ms t [] k a = no_cons Variable a.1
start_group ns ms t (v ∷ vs) k a = b.start_variables t.ty v vs k a.0

-- the place behind, with the names of before
abbrev outer : Names → Place → Place
outer ns q = record { names = ns; rest = q.rest }

switched : (ns : Names) (j : Jumps) (a : Operand) (x : Stmt) (o : Token) (q : Place) → Fine ns a.expr → SwitchBody ns (gs.in_switch j) x q → Stated ns j (st.Switch a.expr x o.pos) q
switched ns j a x o q h (SwitchBody.cases k) = b.stated_switch j o.pos a.expr x h k
switched ns j a x o q h (SwitchBody.other k n) = b.stated_switch_of j o.pos a.expr x h k n

to_case : {ns ms : Names} (j : Jumps) {ws : Rattle.nesc_print_words.specs.Lexemes.Words} → Leads ns ms ws Stmts.Open (λ y. gs.begins_item j y ≡ true) → Leads ns ms ws Stmts.Open (λ y. b.case_go j y ≡ true)
to_case j k = record { leads = λ ts us r f. b.or_right _ _ (k.leads ts us r f) }

label_leads : {ns : Names} (j : Jumps) (a : Stmt) → Labelled ns j a → Leads ns ns (stmt_words a) Stmts.Open (λ y. b.case_go j y ≡ true)
label_leads j a k = record { leads = λ ts us r f. b.or_left _ _ (k.leads.leads ts us r f) }

module _ (spare : ℕ) (ih : (k : Phrase) (u v : Place) (a : Of k) → SpellsIn production spare k u a v → StmtLaw u.names k a v) where
  y_sub : {ns : Names} {k : Phrase} {B : Type 0} {f : Of k → B} {P : B → Place → Type 0} → ((a : Of k) (q : Place) → StmtLaw ns k a q → P (f a) q) → Yields spare ns (Form.sub k f) P
  unfolding Spells
  y_sub {k = k} {P = P} h = record { gives = λ u v b e t. subst (λ x. P x v) (sym t.2) (h t.0 v (subst (λ n. StmtLaw n k t.0 v) e (ih k u v t.0 t.1))) }

  module _ {ns : Names} where
    pub y_expr : {m : ℕ} → Yields spare ns (gr.expr m) (Quiet ns (λ a. Fine ns a.expr))
    y_expr = y_whole (law spare)

    y_init_of : (x : Sort) → Yields spare ns (inner.init_of x) (Quiet ns (Initial ns))
    unfolding StmtLaw
    y_init_of s.LBrace = y_sub {k = Phrase.braces} (λ x q l. (l.0, initial_many x l.1.prints l.1.leads))
    y_init_of _ = y_map y_expr (λ a h. initial_one a.expr h)

    pub y_init : Yields spare ns inner.init (Quiet ns (Initial ns))
    y_init = y_by y_init_of

    pub y_some_init : Yields spare ns (inner.some inner.init) (Quiet ns (SomeInited ns))
    y_some_init = y_maybe {P = SomeInited ns} (y_map y_init (λ v h. h)) tt

    y_inits : Yields spare ns inner.inits (Quiet ns (Inited ns))
    y_inits = y_loop {P = Inited ns} (y_map y_init (λ v h. first_inited ns v h)) (λ x. y_when (gr.is_comma x) (y_map (y_seq {R = SomeInited ns} y_one y_some_init (λ t o u h. h)) (λ o h l g. more_inited ns o l h g)))

    y_braces_of : (x : Sort) → Yields spare ns (inner.braces_of x) (Quiet ns (Braced ns))
    y_braces_of s.LBrace = y_map (y_seq {R = Inited ns} y_one (y_seq {R = Inited ns} y_inits y_one (λ l t h u. h)) (λ t l u h. h)) (λ l h. braced ns l h)
    y_braces_of _ = y_none

    y_argument_of : (x : Sort) → Yields spare ns (inner.attribute_argument_of x) (Quiet ns (Argument ns))
    y_argument_of s.Text = y_map y_one (λ t u. argument_text t.text)
    y_argument_of _ = y_map y_expr (λ a h. argument_value a.expr h)

    pub y_attribute : Yields spare ns inner.attribute (Quiet ns (Attribute ns))
    y_attribute = y_seq (y_seq {R = λ t. IsName t.text} y_one y_name (λ t n u h. h)) (y_seq {R = λ l. All (Argument ns) l} y_one (y_seq {R = λ l. All (Argument ns) l} (y_maybe {P = λ l. All (Argument ns) l}
        (y_loop {P = λ l. All (Argument ns) l} (y_map (y_by y_argument_of) (λ a h. (h, tt))) (λ x. y_when (gr.is_comma x) (y_map (y_seq {R = Argument ns} y_one (y_by y_argument_of) (λ t a u h. h)) (λ a h l g. all_pushed (Argument ns) l a g h)))) tt) y_one (λ l t h u. h)) (λ t l u h. h))
        (λ t l h g. record { is_name = h; args = g })

    pub y_attributes : Yields spare ns inner.attributes (Quiet ns (λ l. All (Attribute ns) l))
    y_attributes = y_many tt (λ x. y_when (inner.is_at x) (y_map y_attribute (λ a h l g. all_pushed (Attribute ns) l a g h)))

    -- ---- variables

    pub y_plain_variable : Yields spare ns inner.plain_variable (Quiet ns (λ v. vars.Declarator ns v.declarator.stars v.declarator.name v.declarator.dims))
    y_plain_variable = y_seq {Q = λ f. (n : ℕ) → vars.Declarator ns (f n).declarator.stars (f n).declarator.name (f n).declarator.dims} (y_stars (law spare)) (y_seq y_name (y_dims (law spare)) (λ t l h g n. record { is_name = h; dims = g })) (λ n f u h. h n)

  pub y_variable : {ns : Names} → Yields spare ns inner.variable (DeclaredVariable ns)
  y_variable {ns = ns} = y_then {P = λ v q. (q.names ≡ inner.hidden v.declarator.name ns) × vars.Declarator ns v.declarator.stars v.declarator.name v.declarator.dims} {Q = λ v q. Quiet q.names (SomeInited q.names)}
      (y_then {P = λ v q. (q.names ≡ inner.hidden v.declarator.name ns) × vars.Declarator ns v.declarator.stars v.declarator.name v.declarator.dims} {Q = λ v q. Quiet q.names (λ l. All (Attribute q.names) l)}
      (y_declare y_plain_variable (λ v q h. (ap (inner.hidden v.declarator.name) h.0, h.1))) (λ v q h. y_attributes) (λ v q l r h g. (g.0 ∙ h.0, h.1)))
      (λ v q h. y_maybe {P = SomeInited q.names} (y_map (y_seq {R = Initial q.names} y_one y_init (λ t x u h. h)) (λ x h. h)) tt)
      (λ v q x r h g. (g.0 ∙ h.0, record { declarator = h.1; init = subst (λ n. MaybeInitial n x) h.0 (maybe_initial q.names x g.1) }))

  pub y_variables : {ns : Names} → Yields spare ns inner.variables (λ vs q. Several ns vs q.names)
  y_variables {ns = ns} = y_loop_to (Several ns) (y_map_to y_variable (λ v q h. (subst (AllDeclared (v ∷ []) ns) (sym h.0) (AllDeclared.more h.1 AllDeclared.none), one_cons v)))
      (λ x ms. y_when (gr.is_comma x) (y_map_to (y_behind y_variable) (λ v q h vs g. (subst (AllDeclared (vs ++ (v ∷ [])) ns) (sym h.0) (declared_pushed vs v g.0 h.1), pushed_cons vs v))))

  module _ {ns : Names} where
    pub y_type : Yields spare ns gr.type_form (Quiet ns (FineType ns))
    y_type = y_type_form (law spare)

  -- behind `typedef`
  y_typedef : {ns : Names} → Yields spare ns inner.typedef (λ f q. (o : Token) (from : Token) → Local ns q.names (st.Local (f o) from.pos))
  y_typedef {ns = ns} = y_map_to {P = λ f q. (from : Token) → Local ns q.names (st.Local f from.pos)} (y_after {Q = λ f q. (t : CastType) → FineType ns t → (from : Token) → Local ns q.names (st.Local (f t) from.pos)} y_type
      (y_then {P = λ v q. (q.names ≡ sorts.declared v.declarator.name true ns) × vars.Declarator ns v.declarator.stars v.declarator.name v.declarator.dims} {Q = λ v q. Quiet q.names (λ l. All (Attribute q.names) l)}
      (y_declare y_plain_variable (λ v q h. (ap (sorts.declared v.declarator.name true) h.0, h.1))) (λ v q h. y_seq {R = λ l. All (Attribute q.names) l} y_attributes y_one (λ l t h u. h))
      (λ v q l r h g t k from. subst (λ n. Local ns n (st.Local (inner.type_name v l t) from.pos)) (sym (g.0 ∙ h.0)) (b.local_typedef v.declarator.name (inner.declared_type t v.declarator.stars v.declarator.dims) l v.pos from.pos (named v l t q h.0 h.1 g.1 k))))
      (λ t f q h k from. k t h from)) (λ f q h o from. h from)
    where
      named : (v : Variable) (l : List Attr) (t : CastType) (q : Place) → q.names ≡ sorts.declared v.declarator.name true ns → vars.Declarator ns v.declarator.stars v.declarator.name v.declarator.dims → All (Attribute q.names) l → FineType ns t
          → TypeNamed ns v.declarator.name (inner.declared_type t v.declarator.stars v.declarator.dims) l
      named v l t q e d a h = record { basic = h.basic; declarator = d; attrs = subst (λ n. All (Attribute n) l) e a }

  y_maybe_variables : {ns : Names} → Yields spare ns (Form.maybe inner.variables []) (λ vs q. AllDeclared vs ns q.names)
  y_maybe_variables {ns = ns} = y_maybe_to (y_weaker y_variables (λ vs q h. h.0)) (λ q e. subst (AllDeclared [] ns) (sym e) AllDeclared.none)

  y_local_of : {ns : Names} (x : Sort) → Yields spare ns (gs.local_of x) (λ a q. Local ns q.names a)
  y_local_of s.Typedef = y_after y_one y_typedef (λ o f q u h. h o o)
  y_local_of {ns = ns} x = y_when {g = gs.local_variables} (begins_type x) (y_after y_type (y_before (λ vs ms. AllDeclared vs ns ms) y_maybe_variables) (λ t vs q h g. group_local ns q.names t vs (plain_of ns t h) g))

  -- ---- statements

  y_stmt : {ns : Names} (j : Jumps) → Yields spare ns (gs.stmt j) (StatedAt ns j)
  unfolding StmtLaw
  y_stmt j = y_sub {k = Phrase.stmt j} (λ x q l. l)

  module _ {ns : Names} where
    y_condition : Yields spare ns gs.condition (Quiet ns (λ a. Fine ns a.expr))
    y_condition = y_seq y_one (y_seq {R = λ a. Fine ns a.expr} y_expr y_one (λ a t h u. h)) (λ t a u h. h)

    y_some_expr : Yields spare ns gs.some_expr (Quiet ns (λ o. MaybeBare ns (gr.value_of o)))
    y_some_expr = y_maybe {P = λ o. MaybeBare ns (gr.value_of o)} (y_map y_expr (λ a h. h)) tt

    y_some_before : {x : Sort} → Yields spare ns (gr.before gs.some_expr (gr.one x)) (Quiet ns (λ o. MaybeBare ns (gr.value_of o)))
    y_some_before = y_seq {R = λ o. MaybeBare ns (gr.value_of o)} y_some_expr y_one (λ o t h u. h)

    y_else : (j : Jumps) → Yields spare ns (gr.map (λ (x : Stmt). Some x) (gr.behind (gr.one s.Else) (gs.stmt j))) (λ z q. (y : Stmt) × (z ≡ Some y) × (q.names ≡ ns) × Stated ns j y q)
    y_else j = y_map_to (y_behind (y_stmt j)) (λ y q h. (y, refl, h.0, h.1))

  chosen_else : (ns : Names) (j : Jumps) (q r : Place) (x : Stmt) (z : Option Stmt) → StatedAt ns j x q → (c : Bool) → starts (gr.map (λ (x : Stmt). Some x) (gr.behind (gr.one s.Else) (gs.stmt j))) (next q) ≡ c
      → chosen c (Spells spare (SpellsIn production spare) (gr.map (λ (x : Stmt). Some x) (gr.behind (gr.one s.Else) (gs.stmt j))) q z r) ((z ≡ None) × (r ≡ q)) → (a : Operand) (o : Token) → Fine ns a.expr → StatedAt ns j (st.If a.expr x z o.pos) r
  chosen_else ns j q r x z k true e t a o h = by ((y_else j).gives q r z k.0 t)
    where
      by : (y : Stmt) × (z ≡ Some y) × (r.names ≡ ns) × Stated ns j y r → StatedAt ns j (st.If a.expr x z o.pos) r
      by w = (w.2, subst (λ z. Stated ns j (st.If a.expr x z o.pos) r) (sym w.1) (Stmts.stated_if_else o.pos a.expr x w.0 h k.1 (else_ahead j (next q) e) w.3))
  chosen_else ns j q r x z k false e t a o h = (ap (λ (w : Place). w.names) t.1 ∙ k.0, subst (λ z. Stated ns j (st.If a.expr x z o.pos) r) (sym t.0) (subst (Stated ns j (st.If a.expr x None o.pos)) (sym t.1) (Stmts.stated_if o.pos a.expr x h k.1 (else_not_ahead j (next q) e))))

  y_choice : {ns : Names} (j : Jumps) → Yields spare ns (gs.choice j) (λ f q. (a : Operand) (o : Token) → Fine ns a.expr → StatedAt ns j (f a o) q)
  unfolding Spells
  y_choice {ns = ns} j = record { gives = λ p r f e t. (λ a o h. subst (λ g. StatedAt ns j (g a o) r) (sym t.5) (chosen_else ns j t.2 r t.0 t.1 ((y_stmt j).gives p t.2 t.0 e t.3) (starts (gr.map (λ (x : Stmt). Some x) (gr.behind (gr.one s.Else) (gs.stmt j))) (next t.2)) refl t.4 a o h)) }

  -- ---- for

  y_start_of : {ns : Names} (x : Sort) → Yields spare ns (gs.for_start_of x) (λ c q. StartOk ns q.names c)
  y_start_of {ns = ns} s.Semi = y_map_to y_one (λ t q u. subst (λ n. StartOk ns n start.Nothing) (sym u.0) b.start_nothing)
  y_start_of {ns = ns} x = y_if {g = gs.for_variables} {h = gr.when (begins_expr x) (gr.map (λ (a : Operand). start.Eval a.expr) (gr.before (gr.expr 0) (gr.one s.Semi)))} (begins_type x) (y_after y_type (y_before (λ vs ms. Several ns vs ms) y_variables) (λ t vs q h g. start_group ns q.names t vs (plain_of ns t h) g))
      (y_when {g = gr.map (λ (a : Operand). start.Eval a.expr) (gr.before (gr.expr 0) (gr.one s.Semi))} (begins_expr x) (y_map_to (y_seq {R = λ a. Fine ns a.expr} y_expr y_one (λ a t h u. h)) (λ a q h. subst (λ n. StartOk ns n (start.Eval a.expr)) (sym h.0) (b.start_eval a.expr h.1))))

  y_for_end : {ms : Names} (ns : Names) (j : Jumps) → Yields spare ms gs.for_end (λ f q. (a : Option Operand) (c : ForStart) (o : Token) → MaybeBare ms (gr.value_of a) → StartOk ns ms c → Stated ns j (f a c o) (outer ns q))
  y_for_end {ms = ms} ns j = y_after y_some_before (y_stmt jumps.BreakAndContinue) (λ u x q h k a c o g w. b.stated_for j o.pos c (gr.value_of a) (gr.value_of u) x {ns = ns} {ms = ms} {q = outer ns q} {r = q} (else_renamed ns q.names q.rest) w g h k.1)

  y_for_rest : {ms : Names} (ns : Names) (j : Jumps) → Yields spare ms gs.for_rest (λ f q. (c : ForStart) (o : Token) → StartOk ns ms c → Stated ns j (f c o) (outer ns q))
  y_for_rest {ms = ms} ns j = y_after {Q = λ f q. (a : Option Operand) (c : ForStart) (o : Token) → MaybeBare ms (gr.value_of a) → StartOk ns ms c → Stated ns j (f a c o) (outer ns q)} y_some_before (y_for_end ns j) (λ a f q h k c o w. k a c o h w)

  y_for : {ns : Names} (j : Jumps) → Yields spare ns gs.for_stmt (StatedAt ns j)
  y_for {ns = ns} j = y_scope {P = λ x q. Stated ns j x (outer ns q)} (y_after {Q = λ f q. (o : Token) → Stated ns j (f o) (outer ns q)} y_one (y_behind (y_then {P = λ c q. StartOk ns q.names c} {Q = λ c q f r. (d : ForStart) (o : Token) → StartOk ns q.names d → Stated ns j (f d o) (outer ns r)} (y_by y_start_of) (λ c q h. y_for_rest ns j)
      (λ c q f r h k o. k c o h))) (λ o f q u h. h o)) (λ x q h. (refl, h))

  -- ---- switch

  y_switch_body : {ns : Names} (j : Jumps) → Yields spare ns (Form.by (gs.switch_body_of j)) (λ x q. (q.names ≡ ns) × SwitchBody ns (gs.in_switch j) x q)
  unfolding Spells StmtLaw
  y_switch_body {ns = ns} j = record { gives = λ p q x e t. by p q x e (next p) refl t }
    where
      other : (p q : Place) (x : Stmt) → p.names ≡ ns → same_sort (next p) s.LBrace ≡ false → Spells spare (SpellsIn production spare) (gs.stmt (gs.in_switch j)) p x q → (q.names ≡ ns) × SwitchBody ns (gs.in_switch j) x q
      other p q x e n t = (let k = (y_stmt (gs.in_switch j)).gives p q x e t in (k.0, SwitchBody.other k.1 (ap (λ (z : Stmt). is_block (stmt_shape z)) t.2 ∙ (block_known spare (gs.in_switch j) p q t.0 t.1 ∙ n))))

      by : (p q : Place) (x : Stmt) → p.names ≡ ns → (y : Sort) → next p ≡ y → Spells spare (SpellsIn production spare) (gs.switch_body_of j y) p x q → (q.names ≡ ns) × SwitchBody ns (gs.in_switch j) x q
      by p q x e s.LBrace n t = (let k = (y_sub {ns = ns} {k = Phrase.cases (gs.in_switch j)} {f = λ x. x} {P = Quiet ns (Switched ns (gs.in_switch j))} (λ a q l. l)).gives p q x e t in (k.0, SwitchBody.cases k.1))
      by p q x e _ n t = other p q x e (ap (λ (y : Sort). same_sort y s.LBrace) n) t

  -- ---- blocks

  pub y_item : {ms : Names} (ns : Names) (j : Jumps) (x : Sort) → Yields spare ms (gs.item_of j x) (λ a q. (l : List Stmt) → Items j l ns ms → Items j (l ++ (a ∷ [])) ns q.names)
  unfolding StmtLaw
  y_item ns j x = y_if (begins_local x) (y_sub {k = Phrase.local} (λ a q k l r. row_pushed l a r (b.item_local j a k) (b.local_leads j a k)))
      (y_sub {k = Phrase.stmt j} (λ a q k l r. subst (λ n. Items j (l ++ (a ∷ [])) ns n) (sym k.0) (row_pushed l a r (b.item_stmt j a k.1) (b.stmt_leads j a k.1))))

  y_block : {ns : Names} (j : Jumps) → Yields spare ns (gs.block j) (StatedAt ns j)
  y_block {ns = ns} j = y_scope {P = λ x q. Stated ns j x (outer ns q)} (y_after y_one (y_before (λ l ms. Items j l ns ms) (y_many_to (λ l ms. Items j l ns ms) Row.none (λ x ms. y_map_to (y_item ns j x) (λ a q h l r. h l r))))
      (λ o l q u h. b.stated_block j l o.pos h)) (λ x q h. (refl, h))

  y_case_item : {ms : Names} (ns : Names) (j : Jumps) (x : Sort) → Yields spare ms (gs.case_of j x) (λ a q. (l : List Stmt) → Cases j l ns ms → Cases j (l ++ (a ∷ [])) ns q.names)
  unfolding StmtLaw
  y_case_item ns j x = y_if (begins_label x) (y_sub {k = Phrase.label j} (λ a q k l r. subst (λ n. Cases j (l ++ (a ∷ [])) ns n) (sym k.0) (row_pushed l a r (b.case_label j a k.1) (label_leads j a k.1))))
      (y_if (begins_local x) (y_sub {k = Phrase.local} (λ a q k l r. row_pushed l a r (b.case_local j a k) (to_case j (b.local_leads j a k))))
      (y_sub {k = Phrase.stmt j} (λ a q k l r. subst (λ n. Cases j (l ++ (a ∷ [])) ns n) (sym k.0) (row_pushed l a r (b.case_stmt j a k.1) (to_case j (b.stmt_leads j a k.1))))))

  y_cases_of : {ns : Names} (j : Jumps) (x : Sort) → Yields spare ns (gs.cases_of j x) (Quiet ns (Switched ns j))
  y_cases_of {ns = ns} j s.LBrace = y_scope {P = λ x q. Switched ns j x} (y_after y_one (y_before (λ l ms. Cases j l ns ms) (y_many_to (λ l ms. Cases j l ns ms) Row.none (λ x ms. y_map_to (y_case_item ns j x) (λ a q h l r. h l r))))
      (λ o l q u h. b.switched_block j l o.pos h)) (λ x q h. (refl, h))
  y_cases_of j _ = y_none

  y_target : {ns : Names} (j : Jumps) (x : Sort) → Yields spare ns (gs.labelled_of j x) (Quiet ns (Target ns j))
  unfolding StmtLaw
  y_target j x = y_if (begins_label x) (y_sub {k = Phrase.label j} (λ a q l. (l.0, b.target_label j a l.1))) (y_sub {k = Phrase.stmt j} (λ a q l. (l.0, b.target_stmt j a l.1)))

  y_label_of : {ns : Names} (j : Jumps) (x : Sort) → Yields spare ns (gs.label_of j x) (Quiet ns (Labelled ns j))
  y_label_of {ns = ns} j s.Case = y_after {Q = λ f q. (o : Token) → Quiet ns (Labelled ns j) (f o) q} y_one (y_after (y_seq {R = λ a. Fine ns a.expr} y_expr y_one (λ a t h u. h)) (y_by (y_target j)) (λ a x q h k o. (k.0, b.labelled_case j x a.expr o.pos h k.1))) (λ o f q u h. h o)
  y_label_of {ns = ns} j s.Default = y_after (y_seq {R = λ t. Unit {0}} y_one y_one (λ o t u h. tt)) (y_by (y_target j)) (λ o x q u k. (k.0, b.labelled_default j x o.pos k.1))
  y_label_of j _ = y_none

  y_statement : {ns : Names} (j : Jumps) (x : Sort) → Yields spare ns (gs.statement j x) (StatedAt ns j)
  y_statement j s.LBrace = y_block j
  y_statement j s.Semi = y_map_to y_one (λ o q u. (u.0, Stmts.stated_empty o.pos))
  y_statement j s.Atomic = y_after y_one (y_stmt j) (λ o x q u h. (h.0, Stmts.stated_atomic o.pos x h.1))
  y_statement {ns = ns} j s.If = y_after {Q = λ f q. (o : Token) → StatedAt ns j (f o) q} y_one (y_after {Q = λ f q. (a : Operand) (o : Token) → Fine ns a.expr → StatedAt ns j (f a o) q} y_condition (y_choice j) (λ a f q h k o. k a o h)) (λ o f q u h. h o)
  y_statement {ns = ns} j s.While = y_after {Q = λ f q. (o : Token) → StatedAt ns j (f o) q} y_one (y_after y_condition (y_stmt jumps.BreakAndContinue) (λ a x q h k o. (k.0, Stmts.stated_while o.pos a.expr x h k.1))) (λ o f q u h. h o)
  y_statement {ns = ns} j s.Do = y_after {Q = λ f q. (o : Token) → StatedAt ns j (f o) q} y_one (y_then {P = StatedAt ns jumps.BreakAndContinue} {Q = λ x q a r. (r.names ≡ q.names) × Fine q.names a.expr} (y_stmt jumps.BreakAndContinue)
      (λ x q h. y_seq {R = λ a. Fine q.names a.expr} y_one (y_seq {R = λ a. Fine q.names a.expr} y_condition y_one (λ a t h u. h)) (λ t a u h. h)) (λ x q a r h k o. (k.0 ∙ h.0, Stmts.stated_do o.pos x a.expr h.1 (subst (λ n. Fine n a.expr) h.0 k.1)))) (λ o f q u h. h o)
  y_statement j s.For = y_for j
  y_statement {ns = ns} j s.Switch = y_after {Q = λ f q. (o : Token) → StatedAt ns j (f o) q} y_one (y_after y_condition (y_switch_body j) (λ a x q h k o. (k.0, switched ns j a x o q h k.1))) (λ o f q u h. h o)
  y_statement j s.Break = y_where (may_break j) (λ e. y_after y_one y_one (λ o t q u h. (h.0, Stmts.stated_break o.pos e)))
  y_statement j s.Continue = y_where (may_continue j) (λ e. y_after y_one y_one (λ o t q u h. (h.0, Stmts.stated_continue o.pos e)))
  y_statement j s.Return = y_after y_one y_some_before (λ t o q u h. (h.0, Stmts.stated_return t.pos (gr.value_of o) h.1))
  y_statement j x = y_when {g = gs.eval} (begins_expr x) (y_after y_expr y_one (λ a t q h u. (u.0, Stmts.stated_eval a.from a.expr h)))

  step_law : {ns : Names} (k : Phrase) → Yields spare ns (production k) (StmtLaw ns k)
  unfolding StmtLaw
  step_law Phrase.braces = y_by y_braces_of
  step_law Phrase.local = y_by y_local_of
  step_law (Phrase.stmt j) = y_by (y_statement j)
  step_law (Phrase.label j) = y_by (y_label_of j)
  step_law (Phrase.cases j) = y_by (y_cases_of j)
  step_law Phrase.attribute = y_attribute
  step_law (Phrase.expr m) = y_any
  step_law Phrase.opened = y_any
  step_law Phrase.fields = y_any
  step_law _ = y_any

pub stmt_law : (d : ℕ) (k : Phrase) (u v : Place) (a : Of k) → SpellsIn production d k u a v → StmtLaw u.names k a v
unfolding SpellsIn
stmt_law zero k u v a h = absurd h
stmt_law (suc d) k u v a h = (step_law d (stmt_law d) k).gives u v a refl h
