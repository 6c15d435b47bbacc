-- Declarations in blocks, blocks, labels, and statements with them are printed, and read again as the same up to places.
use Rattle.std.proofs.Common.{◌≡◌, ℕ, zero, suc, Bool, true, false, ◌||◌, List, [], ◌∷◌, ◌++◌, map, Option, Some, None, refl, sym, ap, subst, ◌∙◌, append_assoc, append-nil}
use Rattle.std.specs.Prelude.{codes, option_map}
use Rattle.nm_base.specs.declared.pos.Pos.{Pos}
use Rattle.nm_base.specs.declared.token.Token.{Token}
use Rattle.nesc_tree.specs.declared.sorts.Sort.{Sort}
use Rattle.nesc_tree.specs.declared.sorts.Sort.TheVariants as s
use Rattle.nesc_tree.specs.declared.contexts.Jumps.{Jumps}
use Rattle.nesc_tree.specs.declared.contexts.Jumps.TheVariants as jumps
use Rattle.nesc_tree.specs.declared.tree.Expr as tree
use Rattle.nesc_tree.specs.declared.tree.TypeSpec.{TypeSpec}
use Rattle.nesc_tree.specs.declared.operand.CastType.{CastType}
use Rattle.nesc_tree.specs.declared.operand.Operand.{Operand}
use Rattle.nesc_tree.specs.declared.declarations.Attr.{Attr}
use Rattle.nesc_tree.specs.declared.declarations.Variable.{Variable}
use Rattle.nesc_tree.specs.declared.declarations.VarGroup.{VarGroup}
use Rattle.nesc_tree.specs.declared.declarations.ForStart.TheVariants as start
use Rattle.nesc_tree.specs.declared.declarations.ForStart.{ForStart}
use Rattle.nesc_tree.specs.declared.declarations.Decl as decl
use Rattle.nesc_tree.specs.declared.declarations.Decl.{Decl}
use Rattle.nesc_tree.specs.declared.declarations.Stmt as st
use Rattle.nesc_tree.specs.declared.declarations.Stmt.{Stmt}
use Rattle.nesc_tree.specs.Choices.{is_else}
use Rattle.nesc_tree.specs.View.{expr_of, spec_of, base_of, exprs}
use Rattle.nesc_tree.specs.Plain as p
use Rattle.nesc_tree.specs.Sorts.{Names, same_sort, named}
use Rattle.nesc_tree.specs.Sorts as sorts
use Rattle.nesc_tree.specs.Phrase.{Phrase, Of, begins_expr, begins_type, begins_local, begins_stmt, begins_label}
use Rattle.nesc_tree.specs.Form.{Form, Place, next, Spells, SpellsIn, starts}
use Rattle.nesc_grammar.specs.Production.{production}
use Rattle.nesc_grammar.specs.Grammar as gr
use Rattle.nesc_grammar.specs.Grammar.{may}
use Rattle.nesc_grammar.specs.Declarations as inner
use Rattle.nesc_grammar.specs.Statements as gs
use Rattle.nesc_print_words.specs.Lexemes.{Words, word, sign, semicolon, stars, flagged, in_parentheses, in_braces, joined, listed, or_nothing, behind_commas}
use Rattle.nesc_print_words.specs.Expressions.{words_at, type_words, base_words, dim_words, declarator_words}
use Rattle.nesc_print_words.specs.Declarations.{attrs_words, initialised, named_words, variable_words, vars_words, type_only_words}
use Rattle.nesc_print_words.specs.Statements.{stmt_words, decl_words, whole, condition_words, maybe_words, start_words}
use Rattle.nesc_print_laws.specs.Placeless.{placeless_type}
use Rattle.nesc_print_laws.specs.Shapes as shape
use Rattle.nesc_print_laws.specs.Shapes.{stmt_shape, decl_shape, expr_shape, start_shape, group_shape, variable_shape, stmts}
use Rattle.nesc_print_laws.proofs.Texts.{Read, Prints, Leads, Any, lead, lead_on, lead_any, lead_before, has_token, has_seq, has_map, has_behind, has_before, has_by, has_by_some, has_some, has_nothing, has_phrase, has_words, has_less}
use Rattle.nesc_print_laws.proofs.Signs
use Rattle.nesc_print_laws.proofs.Runs as runs
use Rattle.nesc_print_laws.proofs.Runs.{Bare, operand, operand_leads}
use Rattle.nesc_print_laws.proofs.Lists.{Row}
use Rattle.nesc_print_laws.proofs.Exprs.{two}
use Rattle.nesc_print_laws.proofs.Types.{Ends}
use Rattle.nesc_print_laws.proofs.Fields.{Matched, declarator_leads}
use Rattle.nesc_print_laws.proofs.Changed.{Carries, carries_test, has_scope, has_repeated, Pushes, matched_map, has_by_map, has_by_other}
use Rattle.nesc_print_laws.proofs.StmtViews as view
use Rattle.nesc_print_laws.proofs.Variables as vars
use Rattle.nesc_print_laws.proofs.Variables.{Plain, plain_type, TypeNamed, has_typedef, typedef_is, AllDeclared, has_variables, Shaped}
use Rattle.nesc_print_laws.proofs.Stmts
use Rattle.nesc_print_laws.proofs.Stmts.{SameStmt, Open, Begins, Stated, stated, as_words, lead_words, part, has_condition, MaybeBare, SameMaybe, has_some_expr, is_block, begins_with, for_sorted, switch_sorted, case_sorted, default_sorted}

-- ---- declarations in a block

pub record Local (ns ms : Names) (x : Stmt) : Type 0 where
  pub prints : Prints ns ms (production Phrase.local) (stmt_words x) Any (SameStmt x)
  pub leads : Leads ns ms (stmt_words x) Any (λ y. begins_local y ≡ true)

local_is : (d e : Decl) (at from : Pos) → decl_shape e ≡ decl_shape d → SameStmt (st.Local d at) (st.Local e from)
local_is d e at from h = view.local_shape from e ∙ (ap shape.Stmt.local h ∙ sym (view.local_shape at d))

pub local_typedef : {ns : Names} (name : List ℕ) (t : TypeSpec) (l : List Attr) (at from : Pos) → TypeNamed ns name t l → Local ns (sorts.declared name true ns) (st.Local (decl.Typedef name t l at) from)
local_typedef name t l at from k = record {
  prints = as_words words (has_by s.Typedef (lead s.Typedef Signs.typedef_sorted refl) (has_seq (has_token Signs.typedef_sorted (λ t w. w)) lead_any (has_typedef name t l at k) (λ o f w h. local_is (decl.Typedef name t l at) (f o) from o.pos (h o))));
  leads = lead_words words (lead s.Typedef Signs.typedef_sorted refl);
}
  where
    words : stmt_words (st.Local (decl.Typedef name t l at) from) ≡ word (codes "typedef") ∷ ((flagged t.is_const (codes "const") ++ base_words (base_of t.base)) ++ (declarator_words t.stars name (dim_words (exprs (map expr_of t.dims))) ++ (attrs_words l ++ (semicolon ∷ []))))
    words = view.words_of_local from (decl.Typedef name t l at) ∙ (view.words_of_typedef at name t l ∙ sym (typedef_is name t l at))

type_begins : (y : Sort) → begins_type y ≡ true → begins_local y ≡ true
type_begins s.Typedef h = refl
type_begins _ h = h

local_at : (y : Sort) → begins_type y ≡ true → (spare : ℕ) (u v : Place) (x : Stmt) → Spells spare (SpellsIn production spare) gs.local_variables u x v → Spells spare (SpellsIn production spare) (gs.local_of y) u x v
local_at s.Qualifier c spare u v x h = h
local_at s.Void c spare u v x h = h
local_at s.Signedness c spare u v x h = h
local_at s.CharType c spare u v x h = h
local_at s.Length c spare u v x h = h
local_at s.Int c spare u v x h = h
local_at s.TypeName c spare u v x h = h
local_at s.Struct c spare u v x h = h
local_at s.Enum c spare u v x h = h
local_at _ c spare u v x h = absurd cc

-- a type is ahead
typed_leads : {ns ms : Names} (t : TypeSpec) (vs : Words) → Plain ns t → Leads ns ms vs Any Ends → Leads ns ms (type_words (spec_of t) ++ vs) Any (λ y. begins_type y ≡ true)
typed_leads {ns = ns} {ms = ms} t vs k j = vars.plain_leads t vs k j

only_same : (t : TypeSpec) (u : CastType) (at : Pos) (l : List Variable) → placeless_type (spec_of u.ty) ≡ placeless_type (spec_of t) → l ≡ [] → decl_shape (inner.type_or_group u l) ≡ decl_shape (decl.TypeOnly t at)
only_same t u at l h e = ap (λ l. decl_shape (inner.type_or_group u l)) e ∙ (view.type_only_shape u.from u.ty ∙ (ap shape.Decl.type_only h ∙ sym (view.type_only_shape at t)))

pub local_type : {ns : Names} (t : TypeSpec) (at from : Pos) → Plain ns t → Local ns ns (st.Local (decl.TypeOnly t at) from)
local_type {ns = ns} t at from k = record {
  prints = as_words words (has_by_some (λ y. begins_type y ≡ true) (typed_leads {ms = ns} t (semicolon ∷ []) k (lead s.Semi Signs.semicolon_sorted refl)) local_at
      (has_seq (plain_type t k) (lead s.Semi Signs.semicolon_sorted refl) (has_before (has_less {F = λ y. starts inner.variables y ≡ false} (λ y e. e) (λ l h. h) (has_nothing {P = λ l. l ≡ []} refl)) (lead s.Semi Signs.semicolon_sorted refl) (has_token Signs.semicolon_sorted (λ t w. w)))
      (λ u l h e. local_is (decl.TypeOnly t at) (inner.type_or_group u l) from u.from (only_same t u at l h e))));
  leads = lead_words words (record { leads = λ ts us r f. type_begins _ ((typed_leads {ms = ns} t (semicolon ∷ []) k (lead s.Semi Signs.semicolon_sorted refl)).leads ts us r f) });
}
  where
    words : stmt_words (st.Local (decl.TypeOnly t at) from) ≡ type_words (spec_of t) ++ (semicolon ∷ [])
    words = view.words_of_local from (decl.TypeOnly t at) ∙ view.words_of_type_only at t

starts_variables : (b : Bool) → starts inner.variables (named s.Word b) ≡ true
starts_variables true = refl
starts_variables false = refl

-- variables of a type, no `norace` among them
abbrev pub group_of : TypeSpec → List Variable → VarGroup
group_of t vs = record { ty = t; norace = false; vars = vs }

group_same : (t : TypeSpec) (vs : List Variable) (u : CastType) (l : List Variable) → placeless_type (spec_of u.ty) ≡ placeless_type (spec_of t) → Matched Shaped vs l → group_shape (inner.group false u l) ≡ group_shape (group_of t vs)
group_same t vs u l h g = two (λ x y. record { ty = x; norace = false; variables = y }) h (matched_map variable_shape vs l g)

vars_same : (t : TypeSpec) (v : Variable) (vs : List Variable) (u : CastType) (l : List Variable) → placeless_type (spec_of u.ty) ≡ placeless_type (spec_of t) → Matched Shaped (v ∷ vs) l → decl_shape (inner.type_or_group u l) ≡ decl_shape (decl.Vars (group_of t (v ∷ vs)))
vars_same t v vs u [] h g = absurd g
vars_same t v vs u (a ∷ l) h g = view.vars_shape (inner.group false u (a ∷ l)) ∙ (ap shape.Decl.variables (group_same t (v ∷ vs) u (a ∷ l) h g) ∙ sym (view.vars_shape (group_of t (v ∷ vs))))

-- variables and the sign behind them
module _ {ns ms : Names} (t : TypeSpec) (v : Variable) (vs : List Variable) (k : Plain ns t) (a : AllDeclared (v ∷ vs) ns ms) where
  tail_words : Words
  tail_words = listed (map variable_words (v ∷ vs)) ++ (semicolon ∷ [])

  variables_lead : {G : Sort → Type 0} → G s.Star → ((b : Bool) → G (named s.Word b)) → Leads ns ms tail_words Any G
  unfolding tail_words
  variables_lead g h = vars.variables_lead v vs a (semicolon ∷ []) g h

  ends_word : (b : Bool) → Ends (named s.Word b)
  ends_word true = refl
  ends_word false = refl

  has_tail : Prints ns ms (gr.before inner.variables (gr.one s.Semi)) tail_words Any (Matched Shaped (v ∷ vs))
  unfolding tail_words
  has_tail = has_before (has_variables v vs a) (lead s.Semi Signs.semicolon_sorted refl) (has_token Signs.semicolon_sorted (λ t w. w))

  has_maybe_tail : Prints ns ms (gr.before (Form.maybe inner.variables []) (gr.one s.Semi)) tail_words Any (Matched Shaped (v ∷ vs))
  unfolding tail_words
  has_maybe_tail = has_before (has_some (vars.variables_lead_on v vs a refl starts_variables) (has_variables v vs a)) (lead s.Semi Signs.semicolon_sorted refl) (has_token Signs.semicolon_sorted (λ t w. w))

  group_words : decl_words (decl.Vars (group_of t (v ∷ vs))) ≡ type_words (spec_of t) ++ tail_words
  unfolding tail_words
  group_words = view.words_of_group (group_of t (v ∷ vs))

  pub local_group : (from : Pos) → Local ns ms (st.Local (decl.Vars (group_of t (v ∷ vs))) from)
  local_group from = record {
    prints = as_words words (has_by_some (λ y. begins_type y ≡ true) (typed_leads t tail_words k (variables_lead refl ends_word)) local_at
        (has_seq (plain_type t k) (variables_lead refl ends_word) has_maybe_tail (λ u l h g. local_is (decl.Vars (group_of t (v ∷ vs))) (inner.type_or_group u l) from u.from (vars_same t v vs u l h g))));
    leads = lead_words words (record { leads = λ ts us r f. type_begins _ ((typed_leads t tail_words k (variables_lead refl ends_word)).leads ts us r f) });
  }
    where
      words : stmt_words (st.Local (decl.Vars (group_of t (v ∷ vs))) from) ≡ type_words (spec_of t) ++ tail_words
      words = view.words_of_local from (decl.Vars (group_of t (v ∷ vs))) ∙ group_words

  -- before the first `;` of a `for`
  pub start_variables : Prints ns ms (Form.by gs.for_start_of) (start_words (start.Vars (group_of t (v ∷ vs)))) Any (λ b. start_shape b ≡ start_shape (start.Vars (group_of t (v ∷ vs))))
  unfolding tail_words
  start_variables = has_by_some (λ y. begins_type y ≡ true) (typed_leads t tail_words k (variables_lead refl ends_word)) for_type_at
      (has_seq (plain_type t k) (variables_lead refl ends_word) has_tail (λ u l h g. ap shape.Start.variables (group_same t (v ∷ vs) u l h g)))
    where
      for_type_at : (y : Sort) → begins_type y ≡ true → (spare : ℕ) (u w : Place) (x : ForStart) → Spells spare (SpellsIn production spare) gs.for_variables u x w → Spells spare (SpellsIn production spare) (gs.for_start_of y) u x w
      for_type_at s.Qualifier c spare u w x h = h
      for_type_at s.Void c spare u w x h = h
      for_type_at s.Signedness c spare u w x h = h
      for_type_at s.CharType c spare u w x h = h
      for_type_at s.Length c spare u w x h = h
      for_type_at s.Int c spare u w x h = h
      for_type_at s.TypeName c spare u w x h = h
      for_type_at s.Struct c spare u w x h = h
      for_type_at s.Enum c spare u w x h = h
      for_type_at _ c spare u w x h = absurd cc

pub start_nothing : {ns : Names} → Prints ns ns (Form.by gs.for_start_of) (start_words start.Nothing) Any (λ b. start_shape b ≡ start_shape start.Nothing)
start_nothing = has_by s.Semi (lead s.Semi Signs.semicolon_sorted refl) (has_map (has_token Signs.semicolon_sorted (λ t w. w)) (λ t w. refl))

pub start_eval : {ns : Names} (e : tree.Expr) → Bare ns (expr_of e) → Prints ns ns (Form.by gs.for_start_of) (start_words (start.Eval e)) Any (λ b. start_shape b ≡ start_shape (start.Eval e))
start_eval e b = has_by_some (λ y. begins_expr y ≡ true) (lead_before (runs.whole_leads b) (lead s.Semi Signs.semicolon_sorted refl)) for_expr_at
    (has_map (has_before (runs.whole b (λ a h. h)) (lead s.Semi Signs.semicolon_sorted refl) (has_token Signs.semicolon_sorted (λ t w. w))) (λ a h. ap shape.Start.eval h))
  where
    for_expr_at : (y : Sort) → begins_expr y ≡ true → (spare : ℕ) (u w : Place) (x : ForStart) → Spells spare (SpellsIn production spare) (gr.map (λ (a : Operand). start.Eval a.expr) (gr.before (gr.expr 0) (gr.one s.Semi))) u x w
        → Spells spare (SpellsIn production spare) (gs.for_start_of y) u x w
    for_expr_at s.Word c spare u w x h = h
    for_expr_at s.Number c spare u w x h = h
    for_expr_at s.Char c spare u w x h = h
    for_expr_at s.LParen c spare u w x h = h
    for_expr_at s.Plus c spare u w x h = h
    for_expr_at s.Minus c spare u w x h = h
    for_expr_at s.Star c spare u w x h = h
    for_expr_at s.Amp c spare u w x h = h
    for_expr_at s.Complement c spare u w x h = h
    for_expr_at s.Step c spare u w x h = h
    for_expr_at s.SizeOf c spare u w x h = h
    for_expr_at s.Null c spare u w x h = h
    for_expr_at s.Unique c spare u w x h = h
    for_expr_at s.PortRead c spare u w x h = h
    for_expr_at s.PortWrite c spare u w x h = h
    for_expr_at s.Post c spare u w x h = h
    for_expr_at s.Call c spare u w x h = h
    for_expr_at _ c spare u w x h = absurd cc

-- ---- blocks

stmt_not_local : (j : Jumps) (y : Sort) → begins_stmt j y ≡ true → begins_local y ≡ false
stmt_not_local j s.Typedef h = absurd cc
stmt_not_local j s.Qualifier h = absurd cc
stmt_not_local j s.Void h = absurd cc
stmt_not_local j s.Signedness h = absurd cc
stmt_not_local j s.CharType h = absurd cc
stmt_not_local j s.Length h = absurd cc
stmt_not_local j s.Int h = absurd cc
stmt_not_local j s.TypeName h = absurd cc
stmt_not_local j s.Struct h = absurd cc
stmt_not_local j s.Enum h = absurd cc
stmt_not_local j _ h = refl

pub or_left : (a b : Bool) → a ≡ true → (a || b) ≡ true
or_left a b h = rw h refl

pub or_right : (a b : Bool) → b ≡ true → (a || b) ≡ true
or_right true b h = refl
or_right false b h = h

abbrev pub item_body : Jumps → Sort → Form (List Stmt → List Stmt)
item_body j x = gr.map inner.added (gs.item_of j x)

abbrev pub Items : Jumps → List Stmt → Names → Names → Type 0
Items j = Row (item_body j) stmt_words Open (Pushes SameStmt) (gs.begins_item j)

item_go : (j : Jumps) (y : Sort) → gs.begins_item j y ≡ true → Open y
item_go j s.Else h = absurd cc
item_go j _ h = refl

module _ {ns ms : Names} (j : Jumps) (x : Stmt) where
  local_prints : Local ns ms x → Prints ns ms (Form.by (gs.item_of j)) (stmt_words x) Open (SameStmt x)
  local_prints k = has_less (λ y h. tt) (λ a h. h) (has_by_some (λ y. begins_local y ≡ true) k.leads (λ y h spare u v z t. at_local y h spare u v z t) (part {k = Phrase.local} k.prints))
    where
      at_local : (y : Sort) → begins_local y ≡ true → (spare : ℕ) (u v : Place) (z : Stmt) → Spells spare (SpellsIn production spare) (Form.sub Phrase.local (λ x. x)) u z v → Spells spare (SpellsIn production spare) (gs.item_of j y) u z v
      at_local y h spare u v z t = rw h t

  pub local_leads : Local ns ms x → Leads ns ms (stmt_words x) Open (λ y. gs.begins_item j y ≡ true)
  local_leads k = record { leads = λ ts us r f. or_left _ _ (k.leads.leads ts us r tt) }

pushes : {ns ms : Names} {f : Sort → Form Stmt} (x : Stmt) → Prints ns ms (Form.by f) (stmt_words x) Open (SameStmt x) → Prints ns ms (Form.by (λ y. gr.map inner.added (f y))) (stmt_words x) Open (Pushes SameStmt x)
pushes x u = has_by_map u inner.added (λ a h l. (a, h, refl))

module _ {ns : Names} (j : Jumps) (x : Stmt) where
  stmt_prints : {q : Place} → Stated ns j x q → Prints ns ns (Form.by (gs.item_of j)) (stmt_words x) Open (SameStmt x)
  stmt_prints k = has_by_some (λ y. begins_stmt j y ≡ true) (record { leads = λ ts us r f. (k.leads.leads ts us r tt).0 }) (λ y h spare u v z t. at_stmt y h spare u v z t) (part {k = Phrase.stmt j} k.opened)
    where
      at_stmt : (y : Sort) → begins_stmt j y ≡ true → (spare : ℕ) (u v : Place) (z : Stmt) → Spells spare (SpellsIn production spare) (gs.stmt j) u z v → Spells spare (SpellsIn production spare) (gs.item_of j y) u z v
      at_stmt y h spare u v z t = rw (stmt_not_local j y h) t

  pub stmt_leads : {q : Place} → Stated ns j x q → Leads ns ns (stmt_words x) Open (λ y. gs.begins_item j y ≡ true)
  stmt_leads k = record { leads = λ ts us r f. or_right _ _ (k.leads.leads ts us r tt).0 }

pub item_local : {ns ms : Names} (j : Jumps) (x : Stmt) → Local ns ms x → Prints ns ms (Form.by (item_body j)) (stmt_words x) Open (Pushes SameStmt x)
item_local j x k = pushes x (local_prints j x k)

pub item_stmt : {ns : Names} {q : Place} (j : Jumps) (x : Stmt) → Stated ns j x q → Prints ns ns (Form.by (item_body j)) (stmt_words x) Open (Pushes SameStmt x)
item_stmt j x k = pushes x (stmt_prints j x k)

block_same : (l xs : List Stmt) (at from : Pos) → Matched SameStmt l xs → SameStmt (st.Block l at) (st.Block xs from)
block_same l xs at from h = view.block_shape from xs ∙ (ap (λ ys. shape.Stmt.block (stmts ys)) (matched_map stmt_shape l xs h) ∙ sym (view.block_shape at l))

braced_form : {ns ms : Names} (go : Sort → Bool) (item : Sort → Form Stmt) (on : (y : Sort) → go y ≡ true → Open y) (ends : go s.RBrace ≡ false) (l : List Stmt) (at : Pos) → Row (λ x. gr.map inner.added (item x)) stmt_words Open (Pushes SameStmt) go l ns ms
    → Prints ns ns (gs.braced go item) (in_braces (joined (map stmt_words l))) Any (SameStmt (st.Block l at))
braced_form go item on ends l at r = has_scope (has_seq (has_token Signs.left_brace_sorted (λ t w. w)) lead_any (has_before (has_repeated go (λ x. gr.map inner.added (item x)) stmt_words Open SameStmt on l r) (lead s.RBrace Signs.right_brace_sorted (refl, ends)) (has_token Signs.right_brace_sorted (λ t w. w)))
    (λ o xs w h. block_same l xs at o.pos h)) (record { carries = λ us c. tt })

pub stated_block : {ns ms : Names} {q : Place} (j : Jumps) (l : List Stmt) (at : Pos) → Items j l ns ms → Stated ns j (st.Block l at) q
stated_block j l at r = stated (as_words (view.words_of_block at l) (has_by s.LBrace (lead s.LBrace Signs.left_brace_sorted refl) (braced_form (gs.begins_item j) (gs.item_of j) (item_go j) refl l at r)))
    (begins_with j (st.Block l at) s.LBrace true Signs.left_brace_sorted (view.words_of_block at l) (ap is_block (view.block_shape at l)) refl refl)

-- ---- labels

-- what stands behind a label
pub record Target (ns : Names) (j : Jumps) (x : Stmt) : Type 0 where
  pub prints : Prints ns ns (Form.by (gs.labelled_of j)) (stmt_words x) Open (SameStmt x)

pub record Labelled (ns : Names) (j : Jumps) (x : Stmt) : Type 0 where
  pub prints : Prints ns ns (production (Phrase.label j)) (stmt_words x) Open (SameStmt x)
  pub leads : Leads ns ns (stmt_words x) Open (λ y. begins_label y ≡ true)

stmt_no_label : (j : Jumps) (y : Sort) → begins_stmt j y ≡ true → begins_label y ≡ false
stmt_no_label j s.Case h = absurd cc
stmt_no_label j s.Default h = absurd cc
stmt_no_label j _ h = refl

local_no_label : (y : Sort) → begins_local y ≡ true → begins_label y ≡ false
local_no_label s.Case h = absurd cc
local_no_label s.Default h = absurd cc
local_no_label _ h = refl

module _ {ns : Names} (j : Jumps) (x : Stmt) where
  pub target_label : Labelled ns j x → Target ns j x
  target_label k = record { prints = has_by_some (λ y. begins_label y ≡ true) k.leads (λ y h spare u v z t. at_label y h spare u v z t) (part {k = Phrase.label j} k.prints) }
    where
      at_label : (y : Sort) → begins_label y ≡ true → (spare : ℕ) (u v : Place) (z : Stmt) → Spells spare (SpellsIn production spare) (Form.sub (Phrase.label j) (λ x. x)) u z v → Spells spare (SpellsIn production spare) (gs.labelled_of j y) u z v
      at_label y h spare u v z t = rw h t

  pub target_stmt : {q : Place} → Stated ns j x q → Target ns j x
  target_stmt k = record { prints = has_by_some (λ y. begins_stmt j y ≡ true) (record { leads = λ ts us r f. (k.leads.leads ts us r tt).0 }) (λ y h spare u v z t. at_stmt y h spare u v z t) (part {k = Phrase.stmt j} k.opened) }
    where
      at_stmt : (y : Sort) → begins_stmt j y ≡ true → (spare : ℕ) (u v : Place) (z : Stmt) → Spells spare (SpellsIn production spare) (gs.stmt j) u z v → Spells spare (SpellsIn production spare) (gs.labelled_of j y) u z v
      at_stmt y h spare u v z t = rw (stmt_no_label j y h) t

  pub labelled_case : (e : tree.Expr) (at : Pos) → Bare ns (expr_of e) → Target ns j x → Labelled ns j (st.Case e x at)
  labelled_case e at b k = record {
    prints = as_words words (has_by s.Case (lead s.Case case_sorted refl) (has_seq {Q = λ f. (o : Token) → SameStmt (st.Case e x at) (f o)} (has_token case_sorted (λ t w. w)) lead_any
        (has_seq (has_before (operand b 2 (λ a h. h)) (lead s.Colon Signs.colon_sorted refl) (has_token Signs.colon_sorted (λ t w. w))) lead_any k.prints (λ a y h g o. view.case_shape o.pos a.expr y ∙ (two shape.Stmt.case h g ∙ sym (view.case_shape at e x)))) (λ o f w h. h o)));
    leads = lead_words words (lead s.Case case_sorted refl);
  }
    where
      words : stmt_words (st.Case e x at) ≡ Rattle.nesc_print_words.specs.Lexemes.word (codes "case") ∷ ((words_at 2 (expr_of e) ++ (sign (codes ":") ∷ [])) ++ stmt_words x)
      words = view.words_of_case at e x ∙ ap (λ ws. Rattle.nesc_print_words.specs.Lexemes.word (codes "case") ∷ ws) (sym (append_assoc (words_at 2 (expr_of e)) (sign (codes ":") ∷ []) (stmt_words x)))

  pub labelled_default : (at : Pos) → Target ns j x → Labelled ns j (st.Default x at)
  labelled_default at k = record {
    prints = as_words (view.words_of_default at x) (has_by s.Default (lead s.Default default_sorted refl) (has_seq (has_before (has_token default_sorted (λ t w. w)) lead_any (has_token Signs.colon_sorted (λ t w. w))) lead_any k.prints
        (λ o y w h. view.default_shape o.pos y ∙ (ap shape.Stmt.default h ∙ sym (view.default_shape at x)))));
    leads = lead_words (view.words_of_default at x) (lead s.Default default_sorted refl);
  }

-- ---- the block of a `switch`

abbrev pub case_go : Jumps → Sort → Bool
case_go j x = begins_label x || gs.begins_item j x

abbrev pub case_body : Jumps → Sort → Form (List Stmt → List Stmt)
case_body j x = gr.map inner.added (gs.case_of j x)

abbrev pub Cases : Jumps → List Stmt → Names → Names → Type 0
Cases j = Row (case_body j) stmt_words Open (Pushes SameStmt) (case_go j)

case_opens : (j : Jumps) (y : Sort) → case_go j y ≡ true → Open y
case_opens j s.Else h = absurd cc
case_opens j _ h = refl

item_no_label : (j : Jumps) (y : Sort) → gs.begins_item j y ≡ true → begins_label y ≡ false
item_no_label j s.Case h = absurd cc
item_no_label j s.Default h = absurd cc
item_no_label j _ h = refl

case_item : {ns ms : Names} (j : Jumps) (x : Stmt) → Leads ns ms (stmt_words x) Open (λ y. gs.begins_item j y ≡ true) → Prints ns ms (Form.by (gs.item_of j)) (stmt_words x) Open (SameStmt x) → Prints ns ms (Form.by (case_body j)) (stmt_words x) Open (Pushes SameStmt x)
case_item j x l u = pushes x (has_by_other (λ y. gs.begins_item j y ≡ true) l at_item u)
  where
    at_item : (y : Sort) → gs.begins_item j y ≡ true → (spare : ℕ) (u v : Place) (z : Stmt) → Spells spare (SpellsIn production spare) (gs.item_of j y) u z v → Spells spare (SpellsIn production spare) (gs.case_of j y) u z v
    at_item y h spare u v z t = rw (item_no_label j y h) t

pub case_local : {ns ms : Names} (j : Jumps) (x : Stmt) → Local ns ms x → Prints ns ms (Form.by (case_body j)) (stmt_words x) Open (Pushes SameStmt x)
case_local j x k = case_item j x (local_leads j x k) (local_prints j x k)

pub case_stmt : {ns : Names} {q : Place} (j : Jumps) (x : Stmt) → Stated ns j x q → Prints ns ns (Form.by (case_body j)) (stmt_words x) Open (Pushes SameStmt x)
case_stmt j x k = case_item j x (stmt_leads j x k) (stmt_prints j x k)

pub case_label : {ns : Names} (j : Jumps) (x : Stmt) → Labelled ns j x → Prints ns ns (Form.by (case_body j)) (stmt_words x) Open (Pushes SameStmt x)
case_label j x k = pushes x (has_by_some (λ y. begins_label y ≡ true) k.leads (λ y h spare u v z t. at_label y h spare u v z t) (part {k = Phrase.label j} k.prints))
  where
    at_label : (y : Sort) → begins_label y ≡ true → (spare : ℕ) (u v : Place) (z : Stmt) → Spells spare (SpellsIn production spare) (Form.sub (Phrase.label j) (λ x. x)) u z v → Spells spare (SpellsIn production spare) (gs.case_of j y) u z v
    at_label y h spare u v z t = rw h t

-- printed as the block of a `switch`
pub record Switched (ns : Names) (j : Jumps) (x : Stmt) : Type 0 where
  pub prints : Prints ns ns (production (Phrase.cases j)) (stmt_words x) Any (SameStmt x)
  pub leads : Leads ns ns (stmt_words x) Any (λ y. y ≡ s.LBrace)

pub switched_block : {ns ms : Names} (j : Jumps) (l : List Stmt) (at : Pos) → Cases j l ns ms → Switched ns j (st.Block l at)
switched_block j l at r = record {
  prints = as_words (view.words_of_block at l) (has_by s.LBrace (lead s.LBrace Signs.left_brace_sorted refl) (braced_form (case_go j) (gs.case_of j) (case_opens j) refl l at r));
  leads = lead_words (view.words_of_block at l) (lead s.LBrace Signs.left_brace_sorted refl);
}

no_block_at : (j : Jumps) (y : Sort) → same_sort y s.LBrace ≡ false → (spare : ℕ) (u v : Place) (z : Stmt) → Spells spare (SpellsIn production spare) (gs.stmt (gs.in_switch j)) u z v → Spells spare (SpellsIn production spare) (gs.switch_body_of j y) u z v
no_block_at j s.LBrace h spare u v z t = absurd cc
no_block_at j _ h spare u v z t = t

module _ {ns : Names} (j : Jumps) (at : Pos) (e : tree.Expr) (x : Stmt) where
  switch_form : {F : Sort → Type 0} → Bare ns (expr_of e) → Prints ns ns (Form.by (gs.switch_body_of j)) (stmt_words x) F (SameStmt x) → Prints ns ns (production (Phrase.stmt j)) (stmt_words (st.Switch e x at)) F (SameStmt (st.Switch e x at))
  switch_form b u = as_words (view.words_of_switch at e x) (has_by s.Switch (lead s.Switch switch_sorted refl) (has_seq {Q = λ f. (o : Token) → SameStmt (st.Switch e x at) (f o)} (has_token switch_sorted (λ t w. w)) lead_any
      (has_seq (has_condition e b) lead_any u (λ a y h g o. view.switch_shape o.pos a.expr y ∙ (two shape.Stmt.switch h g ∙ sym (view.switch_shape at e x)))) (λ o f w h. h o)))

  switch_leads : Leads ns ns (stmt_words (st.Switch e x at)) Any (Begins j (st.Switch e x at))
  switch_leads = begins_with j (st.Switch e x at) s.Switch false switch_sorted (view.words_of_switch at e x) (ap is_block (view.switch_shape at e x)) refl refl

  pub stated_switch : {q : Place} → Bare ns (expr_of e) → Switched ns (gs.in_switch j) x → Stated ns j (st.Switch e x at) q
  stated_switch b k = stated (switch_form b (has_by s.LBrace k.leads (part {k = Phrase.cases (gs.in_switch j)} k.prints))) switch_leads

  -- another statement
  pub stated_switch_of : {q : Place} → Bare ns (expr_of e) → Stated ns (gs.in_switch j) x q → is_block (stmt_shape x) ≡ false → Stated ns j (st.Switch e x at) q
  stated_switch_of b k n = record {
    opened = switch_form b (has_by_some (λ y. same_sort y s.LBrace ≡ false) leads (no_block_at j) (part {k = Phrase.stmt (gs.in_switch j)} k.opened));
    closed = λ i. switch_form b (has_by_some (λ y. same_sort y s.LBrace ≡ false) leads_any (no_block_at j) (part {k = Phrase.stmt (gs.in_switch j)} (k.closed i)));
    leads = switch_leads;
  }
    where
      leads : Leads ns ns (stmt_words x) Open (λ y. same_sort y s.LBrace ≡ false)
      leads = record { leads = λ ts us r f. (k.leads.leads ts us r tt).1 ∙ n }

      leads_any : Leads ns ns (stmt_words x) Any (λ y. same_sort y s.LBrace ≡ false)
      leads_any = record { leads = λ ts us r f. (k.leads.leads ts us r tt).1 ∙ n }

-- ---- for

four : {c d : shape.Start} {f g h i : Option p.Expr} {y z : shape.Stmt} → c ≡ d → f ≡ g → h ≡ i → y ≡ z → shape.Stmt.for c f h y ≡ shape.Stmt.for d g i z
four f g h i = rw (f, g, h, i) refl

module _ (j : Jumps) (at : Pos) (b : ForStart) (t u : Option tree.Expr) (x : Stmt) where
  abbrev For : Stmt
  For = st.For b t u x at

  for_words : stmt_words For ≡ word (codes "for") ∷ sign (codes "(") ∷ (start_words b ++ ((maybe_words t ++ (semicolon ∷ [])) ++ ((maybe_words u ++ (sign (codes ")") ∷ [])) ++ stmt_words x)))
  for_words = view.words_of_for at b t u x ∙ ap (λ ws. word (codes "for") ∷ sign (codes "(") ∷ ws) (append_assoc (start_words b ++ (maybe_words t ++ (semicolon ∷ maybe_words u))) (sign (codes ")") ∷ []) (stmt_words x)
      ∙ (append_assoc (start_words b) (maybe_words t ++ (semicolon ∷ maybe_words u)) (sign (codes ")") ∷ stmt_words x) ∙ ap (λ ws. start_words b ++ ws) (append_assoc (maybe_words t) (semicolon ∷ maybe_words u) (sign (codes ")") ∷ stmt_words x)
      ∙ (ap (λ ws. maybe_words t ++ (semicolon ∷ ws)) (sym (append_assoc (maybe_words u) (sign (codes ")") ∷ []) (stmt_words x))) ∙ sym (append_assoc (maybe_words t) (semicolon ∷ []) ((maybe_words u ++ (sign (codes ")") ∷ [])) ++ stmt_words x))))))

  for_form : {ns ms : Names} {F G : Sort → Type 0} → Prints ns ms (Form.by gs.for_start_of) (start_words b) Any (λ c. start_shape c ≡ start_shape b) → MaybeBare ms t → MaybeBare ms u
      → Prints ms ms (production (Phrase.stmt jumps.BreakAndContinue)) (stmt_words x) F (SameStmt x) → Carries ms ns G F → Prints ns ns (production (Phrase.stmt j)) (stmt_words For) G (SameStmt For)
  for_form {ns = ns} {ms = ms} k g h w c = as_words for_words (has_by s.For (lead s.For for_sorted refl) (has_scope (has_seq {Q = λ f. (o : Token) → SameStmt For (f o)} (has_token for_sorted (λ t w. w)) lead_any (has_behind (has_token Signs.opening_sorted (λ t w. w)) lead_any
      (has_seq {Q = λ f. (c : ForStart) (o : Token) → start_shape c ≡ start_shape b → SameStmt For (f c o)} k lead_any
      (has_seq {Q = λ f. (a : Option Operand) (c : ForStart) (o : Token) → SameMaybe t a → start_shape c ≡ start_shape b → SameStmt For (f a c o)} (has_before (has_some_expr t s.Semi g refl refl) (lead s.Semi Signs.semicolon_sorted refl) (has_token Signs.semicolon_sorted (λ t w. w))) lead_any
      (has_seq (has_before (has_some_expr u s.RParen h refl refl) (lead s.RParen Signs.closing_sorted refl) (has_token Signs.closing_sorted (λ t w. w))) lead_any (part {k = Phrase.stmt jumps.BreakAndContinue} w)
      (λ d y m n a c o i l. view.for_shape o.pos c (gr.value_of a) (gr.value_of d) y ∙ (four l i m n ∙ sym (view.for_shape at b t u x))))
      (λ a f i l c o m. l a c o i m)) (λ c f i l o. l c o i))) (λ o f w h. h o)) c))

  pub stated_for : {ns ms : Names} {q r : Place} → (next q ≡ s.Else → next r ≡ s.Else) → Prints ns ms (Form.by gs.for_start_of) (start_words b) Any (λ c. start_shape c ≡ start_shape b) → MaybeBare ms t → MaybeBare ms u → Stated ms jumps.BreakAndContinue x r → Stated ns j For q
  stated_for e k g h w = record {
    opened = for_form k g h w.opened (carries_test is_else false refl);
    closed = λ i. for_form k g h (w.closed (e i)) (record { carries = λ us c. tt });
    leads = begins_with j For s.For false for_sorted for_words (ap is_block (view.for_shape at b t u x)) refl refl;
  }
