-- Each form of a statement is printed, and read again as the same up to places.
use Rattle.std.proofs.Common.{◌≡◌, ℕ, zero, suc, Bool, true, false, ◌||◌, List, [], ◌∷◌, ◌++◌, map, Option, Some, None, refl, sym, ap, subst, ◌∙◌, append_assoc}
use Rattle.std.specs.Prelude.{codes, option_map}
use Rattle.nm_base.specs.declared.pos.Pos.{Pos}
use Rattle.nm_base.specs.declared.token.Token.{Token}
use Rattle.nesc_tree.specs.declared.sorts.Sort.{Sort}
use Rattle.nesc_tree.specs.declared.sorts.Sort.TheVariants as s
use Rattle.nesc_tree.specs.declared.contexts.Jumps.{Jumps}
use Rattle.nesc_tree.specs.declared.contexts.Jumps.TheVariants as jumps
use Rattle.nesc_tree.specs.declared.tree.Expr as tree
use Rattle.nesc_tree.specs.declared.tree.TypeSpec.{TypeSpec}
use Rattle.nesc_tree.specs.declared.operand.CastType.{CastType}
use Rattle.nesc_tree.specs.declared.operand.Operand.{Operand}
use Rattle.nesc_tree.specs.declared.declarations.Attr.{Attr}
use Rattle.nesc_tree.specs.declared.declarations.Variable.{Variable}
use Rattle.nesc_tree.specs.declared.declarations.VarGroup.{VarGroup}
use Rattle.nesc_tree.specs.declared.declarations.ForStart.TheVariants as start
use Rattle.nesc_tree.specs.declared.declarations.ForStart.{ForStart}
use Rattle.nesc_tree.specs.declared.declarations.Decl as decl
use Rattle.nesc_tree.specs.declared.declarations.Decl.{Decl}
use Rattle.nesc_tree.specs.declared.declarations.Stmt as st
use Rattle.nesc_tree.specs.declared.declarations.Stmt.{Stmt}
use Rattle.nesc_tree.specs.Choices.{is_else}
use Rattle.nesc_tree.specs.View.{expr_of, spec_of, base_of}
use Rattle.nesc_tree.specs.Sorts.{Names, same_sort}
use Rattle.nesc_tree.specs.Sorts as sorts
use Rattle.nesc_tree.specs.Phrase.{Phrase, Of, begins_expr, begins_type, begins_local, begins_stmt, begins_label, may_break, may_continue}
use Rattle.nesc_tree.specs.Form.{Form, Place, next, Spells, SpellsIn, starts}
use Rattle.nesc_grammar.specs.Production.{production}
use Rattle.nesc_grammar.specs.Grammar as gr
use Rattle.nesc_grammar.specs.Grammar.{may}
use Rattle.nesc_grammar.specs.Declarations as inner
use Rattle.nesc_grammar.specs.Statements as gs
use Rattle.nesc_print_words.specs.Lexemes.{Words, word, sign, semicolon, in_parentheses, in_braces, joined, listed}
use Rattle.nesc_print_words.specs.Expressions.{words_at, type_words, expr_words}
use Rattle.nesc_print_words.specs.Declarations.{variable_words, vars_words, type_only_words}
use Rattle.nesc_print_words.specs.Statements.{stmt_words, decl_words, whole, condition_words, maybe_words, start_words, else_words}
use Rattle.nesc_print_laws.specs.Placeless.{placeless_type}
use Rattle.nesc_print_laws.specs.Shapes as shape
use Rattle.nesc_print_laws.specs.Shapes.{stmt_shape, decl_shape, expr_shape, start_shape, group_shape, variable_shape, stmts, maybe_stmt}
use Rattle.nesc_print_laws.proofs.Texts.{Read, Prints, Leads, Any, Sorted, keyword, lead, lead_on, lead_any, lead_before, leads_of, has_token, has_seq, has_map, has_behind, has_before, has_by, has_by_some, has_some, has_nothing, has_phrase, has_words, has_less}
use Rattle.nesc_print_laws.proofs.Signs
use Rattle.nesc_print_laws.proofs.Runs as runs
use Rattle.nesc_print_laws.proofs.Runs.{Bare, Same, operand}
use Rattle.nesc_print_laws.proofs.Lists.{Row}
use Rattle.nesc_print_laws.proofs.Exprs.{two}
use Rattle.nesc_print_laws.proofs.Fields.{Matched}
use Rattle.nesc_print_laws.proofs.Changed.{Carries, carries_test, has_scope, has_repeated, Pushes, matched_map, row_pushed}
use Rattle.nesc_print_laws.proofs.StmtViews as view
use Rattle.nesc_print_laws.proofs.Types.{Ends}
use Rattle.nesc_print_laws.proofs.Variables.{Plain, plain_type, TypeNamed, has_typedef, typedef_is, AllDeclared, has_variables, Shaped, SameDecl}

-- ---- keywords of statements

module _ {ns : Names} where
  pub atomic_sorted : Sorted ns (word (codes "atomic")) s.Atomic
  unfolding sorts.keyword
  atomic_sorted = keyword (codes "atomic") s.Atomic refl refl

  pub if_sorted : Sorted ns (word (codes "if")) s.If
  unfolding sorts.keyword
  if_sorted = keyword (codes "if") s.If refl refl

  pub else_sorted : Sorted ns (word (codes "else")) s.Else
  unfolding sorts.keyword
  else_sorted = keyword (codes "else") s.Else refl refl

  pub while_sorted : Sorted ns (word (codes "while")) s.While
  unfolding sorts.keyword
  while_sorted = keyword (codes "while") s.While refl refl

  pub do_sorted : Sorted ns (word (codes "do")) s.Do
  unfolding sorts.keyword
  do_sorted = keyword (codes "do") s.Do refl refl

  pub for_sorted : Sorted ns (word (codes "for")) s.For
  unfolding sorts.keyword
  for_sorted = keyword (codes "for") s.For refl refl

  pub switch_sorted : Sorted ns (word (codes "switch")) s.Switch
  unfolding sorts.keyword
  switch_sorted = keyword (codes "switch") s.Switch refl refl

  pub case_sorted : Sorted ns (word (codes "case")) s.Case
  unfolding sorts.keyword
  case_sorted = keyword (codes "case") s.Case refl refl

  pub default_sorted : Sorted ns (word (codes "default")) s.Default
  unfolding sorts.keyword
  default_sorted = keyword (codes "default") s.Default refl refl

  pub break_sorted : Sorted ns (word (codes "break")) s.Break
  unfolding sorts.keyword
  break_sorted = keyword (codes "break") s.Break refl refl

  pub continue_sorted : Sorted ns (word (codes "continue")) s.Continue
  unfolding sorts.keyword
  continue_sorted = keyword (codes "continue") s.Continue refl refl

  pub return_sorted : Sorted ns (word (codes "return")) s.Return
  unfolding sorts.keyword
  return_sorted = keyword (codes "return") s.Return refl refl

-- ---- what is known of statements

abbrev pub SameStmt : Stmt → Stmt → Type 0
SameStmt x y = stmt_shape y ≡ stmt_shape x

-- no `else` is behind it
abbrev pub Open : Sort → Type 0
Open y = is_else y ≡ false

abbrev pub is_block : shape.Stmt → Bool
is_block (shape.Stmt.block l) = true
is_block _ = false

-- what a statement without a label begins with
abbrev pub Begins : Jumps → Stmt → Sort → Type 0
Begins j x y = (begins_stmt j y ≡ true) × (same_sort y s.LBrace ≡ is_block (stmt_shape x))

-- printed as a statement without a label; where an `else` was behind it, before an `else` too
pub record Stated (ns : Names) (j : Jumps) (x : Stmt) (q : Place) : Type 0 where
  pub opened : Prints ns ns (production (Phrase.stmt j)) (stmt_words x) Open (SameStmt x)
  pub closed : next q ≡ s.Else → Prints ns ns (production (Phrase.stmt j)) (stmt_words x) Any (SameStmt x)
  pub leads : Leads ns ns (stmt_words x) Any (Begins j x)

-- one that ends by itself
pub stated : {ns : Names} {j : Jumps} {x : Stmt} {q : Place} → Prints ns ns (production (Phrase.stmt j)) (stmt_words x) Any (SameStmt x) → Leads ns ns (stmt_words x) Any (Begins j x) → Stated ns j x q
stated u l = record { opened = has_less (λ y h. tt) (λ a h. h) u; closed = λ e. u; leads = l }

abbrev pub MaybeBare : Names → Option tree.Expr → Type 0
MaybeBare ns None = Unit {0}
MaybeBare ns (Some e) = Bare ns (expr_of e)

abbrev pub SameMaybe : Option tree.Expr → Option Operand → Type 0
SameMaybe o a = option_map expr_shape (gr.value_of a) ≡ option_map expr_shape o

starts_some : (y : Sort) → begins_expr y ≡ true → starts (gr.map (λ (a : Operand). Some a) (gr.expr 0)) y ≡ true
starts_some y h = rw h refl

no_expr : (x y : Sort) → y ≡ x → begins_expr x ≡ false → starts (gr.map (λ (a : Operand). Some a) (gr.expr 0)) y ≡ false
no_expr x y e h = rw (e, h) refl

eval_at : (j : Jumps) (y : Sort) → begins_expr y ≡ true → (spare : ℕ) (u v : Place) (x : Stmt) → Spells spare (SpellsIn production spare) gs.eval u x v → Spells spare (SpellsIn production spare) (gs.statement j y) u x v
eval_at j s.LBrace c spare u v x h = absurd cc
eval_at j s.Semi c spare u v x h = absurd cc
eval_at j s.Atomic c spare u v x h = absurd cc
eval_at j s.If c spare u v x h = absurd cc
eval_at j s.While c spare u v x h = absurd cc
eval_at j s.Do c spare u v x h = absurd cc
eval_at j s.For c spare u v x h = absurd cc
eval_at j s.Switch c spare u v x h = absurd cc
eval_at j s.Break c spare u v x h = absurd cc
eval_at j s.Continue c spare u v x h = absurd cc
eval_at j s.Return c spare u v x h = absurd cc
eval_at j s.Word c spare u v x h = h
eval_at j s.Number c spare u v x h = h
eval_at j s.Char c spare u v x h = h
eval_at j s.LParen c spare u v x h = h
eval_at j s.Plus c spare u v x h = h
eval_at j s.Minus c spare u v x h = h
eval_at j s.Star c spare u v x h = h
eval_at j s.Amp c spare u v x h = h
eval_at j s.Complement c spare u v x h = h
eval_at j s.Step c spare u v x h = h
eval_at j s.SizeOf c spare u v x h = h
eval_at j s.Null c spare u v x h = h
eval_at j s.Unique c spare u v x h = h
eval_at j s.PortRead c spare u v x h = h
eval_at j s.PortWrite c spare u v x h = h
eval_at j s.Post c spare u v x h = h
eval_at j s.Call c spare u v x h = h
eval_at j _ c spare u v x h = absurd cc

expr_begins : (j : Jumps) (y : Sort) → begins_expr y ≡ true → (begins_stmt j y ≡ true) × (same_sort y s.LBrace ≡ false)
expr_begins j s.LBrace c = absurd cc
expr_begins j s.Break c = absurd cc
expr_begins j s.Continue c = absurd cc
expr_begins j s.Word c = (refl, refl)
expr_begins j s.Number c = (refl, refl)
expr_begins j s.Char c = (refl, refl)
expr_begins j s.LParen c = (refl, refl)
expr_begins j s.Plus c = (refl, refl)
expr_begins j s.Minus c = (refl, refl)
expr_begins j s.Star c = (refl, refl)
expr_begins j s.Amp c = (refl, refl)
expr_begins j s.Complement c = (refl, refl)
expr_begins j s.Step c = (refl, refl)
expr_begins j s.SizeOf c = (refl, refl)
expr_begins j s.Null c = (refl, refl)
expr_begins j s.Unique c = (refl, refl)
expr_begins j s.PortRead c = (refl, refl)
expr_begins j s.PortWrite c = (refl, refl)
expr_begins j s.Post c = (refl, refl)
expr_begins j s.Call c = (refl, refl)
expr_begins j _ c = absurd cc

broken : {ns : Names} (b : Bool) → b ≡ true → {g : Form Stmt} {ws : Words} {P : Stmt → Type 0} → Prints ns ns g ws Any P → Prints ns ns (gr.when b g) ws Any P
broken true h u = u
broken false h u = absurd cc

abbrev SomeSame : Option Stmt → Option Stmt → Type 0
SomeSame z y = maybe_stmt (option_map stmt_shape y) ≡ maybe_stmt (option_map stmt_shape z)

no_else : (j : Jumps) (y : Sort) → is_else y ≡ false → starts (gr.map (λ (x : Stmt). Some x) (gr.behind (gr.one s.Else) (gs.stmt j))) y ≡ false
no_else j s.Else h = absurd cc
no_else j _ h = refl

module _ {ns : Names} where
  pub as_words : {A : Type 0} {g : Form A} {ws vs : Words} {F : Sort → Type 0} {P : A → Type 0} {ms : Names} → vs ≡ ws → Prints ns ms g ws F P → Prints ns ms g vs F P
  as_words e u = has_words (sym e) u

  pub lead_words : {ws vs : Words} {F G : Sort → Type 0} {ms : Names} → vs ≡ ws → Leads ns ms ws F G → Leads ns ms vs F G
  lead_words {F = F} {G = G} {ms = ms} e u = subst (λ ws. Leads ns ms ws F G) (sym e) u

  -- the phrase as a part
  pub part : {k : Phrase} {ms : Names} {ws : Words} {F : Sort → Type 0} {P : Of k → Type 0} → Prints ns ms (production k) ws F P → Prints ns ms (Form.sub k (λ x. x)) ws F P
  part {k = k} u = has_phrase {k = k} u (λ a h. h)

  -- an expression between parentheses
  pub has_condition : (e : tree.Expr) → Bare ns (expr_of e) → Prints ns ns gs.condition (condition_words e) Any (λ a. expr_shape a.expr ≡ expr_shape e)
  has_condition e b = has_behind (has_token Signs.opening_sorted (λ t w. w)) lead_any (has_before (runs.whole b (λ a h. h)) (lead s.RParen Signs.closing_sorted refl) (has_token Signs.closing_sorted (λ t w. w)))

  -- before this sign
  pub has_some_expr : (o : Option tree.Expr) (x : Sort) → MaybeBare ns o → begins_expr x ≡ false → may 0 x ≡ false → Prints ns ns gs.some_expr (maybe_words o) (λ y. y ≡ x) (SameMaybe o)
  has_some_expr None x b h g = has_less (λ y e. no_expr x y e h) (λ a h. h) (has_nothing refl)
  has_some_expr (Some e) x b h g = has_less (λ y e. subst (λ z. may 0 z ≡ false) (sym e) g) (λ a h. h) (has_some (leads_expr (runs.whole_leads b)) (has_map (runs.whole b (λ a h. h)) (λ a h. ap Some h)))
    where
      leads_expr : Leads ns ns (whole e) (λ y. may 0 y ≡ false) (λ y. begins_expr y ≡ true) → Leads ns ns (whole e) (λ y. may 0 y ≡ false) (λ y. starts (gr.map (λ (a : Operand). Some a) (gr.expr 0)) y ≡ true)
      leads_expr j = record { leads = λ ts us r f. starts_some _ (j.leads ts us r f) }

-- a statement that begins with this keyword or sign
pub begins_with : {ns : Names} (j : Jumps) (x : Stmt) {w : Rattle.printed_words.specs.LaidOut.Lexeme} {ws : Words} (y : Sort) (b : Bool) → Sorted ns w y → stmt_words x ≡ w ∷ ws → is_block (stmt_shape x) ≡ b → begins_stmt j y ≡ true → same_sort y s.LBrace ≡ b → Leads ns ns (stmt_words x) Any (Begins j x)
begins_with j x y b k e i h g = lead_words e (lead y k (h, g ∙ sym i))

if_leads : {ns : Names} (j : Jumps) (at : Pos) (e : tree.Expr) (x : Stmt) (z : Option Stmt) → Leads ns ns (stmt_words (st.If e x z at)) Any (Begins j (st.If e x z at))
if_leads j at e x z = begins_with j (st.If e x z at) s.If false if_sorted (view.words_of_if at e x z) (ap is_block (view.if_shape at e x z)) refl refl

-- ---- simple statements

module _ {ns : Names} {j : Jumps} (at : Pos) where
  pub stated_eval : {q : Place} → (e : tree.Expr) → Bare ns (expr_of e) → Stated ns j (st.Eval e at) q
  stated_eval {q = q} e b = stated (as_words (view.words_of_eval at e) (has_by_some (λ y. begins_expr y ≡ true) begun (eval_at j) (has_seq (runs.whole b (λ a h. h)) (lead s.Semi Signs.semicolon_sorted refl) (has_token Signs.semicolon_sorted (λ t w. w))
      (λ a t h w. view.eval_shape a.from a.expr ∙ (ap shape.Stmt.eval h ∙ sym (view.eval_shape at e))))))
      (lead_words (view.words_of_eval at e) (record { leads = λ ts us r f. by _ (begun.leads ts us r f) }))
    where
      begun : Leads ns ns (whole e ++ (semicolon ∷ [])) Any (λ y. begins_expr y ≡ true)
      begun = lead_before (runs.whole_leads b) (lead s.Semi Signs.semicolon_sorted refl)

      by : (y : Sort) → begins_expr y ≡ true → Begins j (st.Eval e at) y
      by y h = ((expr_begins j y h).0, (expr_begins j y h).1 ∙ sym (ap is_block (view.eval_shape at e)))

  pub stated_empty : {q : Place} → Stated ns j (st.Empty at) q
  stated_empty = stated (as_words (view.words_of_empty at) (has_by s.Semi (lead s.Semi Signs.semicolon_sorted refl) (has_map (has_token Signs.semicolon_sorted (λ t w. w)) (λ o w. view.empty_shape o.pos ∙ sym (view.empty_shape at)))))
      (begins_with j (st.Empty at) s.Semi false Signs.semicolon_sorted (view.words_of_empty at) (ap is_block (view.empty_shape at)) refl refl)

  pub stated_return : {q : Place} → (o : Option tree.Expr) → MaybeBare ns o → Stated ns j (st.Return o at) q
  stated_return o b = stated (as_words (view.words_of_return at o) (has_by s.Return (lead s.Return return_sorted refl) (has_seq (has_token return_sorted (λ t w. w)) lead_any
      (has_before (has_some_expr o s.Semi b refl refl) (lead s.Semi Signs.semicolon_sorted refl) (has_token Signs.semicolon_sorted (λ t w. w)))
      (λ t a w h. view.return_shape t.pos (gr.value_of a) ∙ (ap shape.Stmt.return h ∙ sym (view.return_shape at o))))))
      (begins_with j (st.Return o at) s.Return false return_sorted (view.words_of_return at o) (ap is_block (view.return_shape at o)) refl refl)

  pub stated_break : {q : Place} → may_break j ≡ true → Stated ns j (st.Break at) q
  stated_break h = stated (as_words (view.words_of_break at) (has_by s.Break (lead s.Break break_sorted refl) (broken (may_break j) h (has_seq (has_token break_sorted (λ t w. w)) lead_any (has_token Signs.semicolon_sorted (λ t w. w))
      (λ t a w h. view.break_shape t.pos ∙ sym (view.break_shape at))))))
      (begins_with j (st.Break at) s.Break false break_sorted (view.words_of_break at) (ap is_block (view.break_shape at)) h refl)

  pub stated_continue : {q : Place} → may_continue j ≡ true → Stated ns j (st.Continue at) q
  stated_continue h = stated (as_words (view.words_of_continue at) (has_by s.Continue (lead s.Continue continue_sorted refl) (broken (may_continue j) h (has_seq (has_token continue_sorted (λ t w. w)) lead_any (has_token Signs.semicolon_sorted (λ t w. w))
      (λ t a w h. view.continue_shape t.pos ∙ sym (view.continue_shape at))))))
      (begins_with j (st.Continue at) s.Continue false continue_sorted (view.words_of_continue at) (ap is_block (view.continue_shape at)) h refl)

  -- ---- statements that end with one

  atomic_form : {F : Sort → Type 0} (x : Stmt) → Prints ns ns (production (Phrase.stmt j)) (stmt_words x) F (SameStmt x) → Prints ns ns (production (Phrase.stmt j)) (stmt_words (st.Atomic x at)) F (SameStmt (st.Atomic x at))
  atomic_form x u = as_words (view.words_of_atomic at x) (has_by s.Atomic (lead s.Atomic atomic_sorted refl) (has_seq (has_token atomic_sorted (λ t w. w)) lead_any (part {k = Phrase.stmt j} u)
      (λ o y w h. view.atomic_shape o.pos y ∙ (ap shape.Stmt.atomic h ∙ sym (view.atomic_shape at x)))))

  pub stated_atomic : {q : Place} → (x : Stmt) → Stated ns j x q → Stated ns j (st.Atomic x at) q
  stated_atomic x k = record { opened = atomic_form x k.opened; closed = λ e. atomic_form x (k.closed e); leads = begins_with j (st.Atomic x at) s.Atomic false atomic_sorted (view.words_of_atomic at x) (ap is_block (view.atomic_shape at x)) refl refl }

  while_form : {F : Sort → Type 0} (e : tree.Expr) (x : Stmt) → Bare ns (expr_of e) → Prints ns ns (production (Phrase.stmt jumps.BreakAndContinue)) (stmt_words x) F (SameStmt x)
      → Prints ns ns (production (Phrase.stmt j)) (stmt_words (st.While e x at)) F (SameStmt (st.While e x at))
  while_form e x b u = as_words (view.words_of_while at e x) (has_by s.While (lead s.While while_sorted refl) (has_seq {Q = λ f. (o : Token) → SameStmt (st.While e x at) (f o)} (has_token while_sorted (λ t w. w)) lead_any
      (has_seq (has_condition e b) lead_any (part {k = Phrase.stmt jumps.BreakAndContinue} u) (λ a y h g o. view.while_shape o.pos a.expr y ∙ (two shape.Stmt.while h g ∙ sym (view.while_shape at e x)))) (λ o f w h. h o)))

  pub stated_while : {q : Place} → (e : tree.Expr) (x : Stmt) → Bare ns (expr_of e) → Stated ns jumps.BreakAndContinue x q → Stated ns j (st.While e x at) q
  stated_while e x b k = record { opened = while_form e x b k.opened; closed = λ z. while_form e x b (k.closed z); leads = begins_with j (st.While e x at) s.While false while_sorted (view.words_of_while at e x) (ap is_block (view.while_shape at e x)) refl refl }

  pub stated_do : {q r : Place} → (x : Stmt) (e : tree.Expr) → Stated ns jumps.BreakAndContinue x r → Bare ns (expr_of e) → Stated ns j (st.DoWhile x e at) q
  stated_do x e k b = stated (as_words (view.words_of_do at x e) (has_by s.Do (lead s.Do do_sorted refl) (has_seq {Q = λ f. (o : Token) → SameStmt (st.DoWhile x e at) (f o)} (has_token do_sorted (λ t w. w)) lead_any
      (has_seq (part {k = Phrase.stmt jumps.BreakAndContinue} k.opened) (lead s.While while_sorted refl) (has_behind (has_token while_sorted (λ t w. w)) lead_any (has_before (has_condition e b) lead_any (has_token Signs.semicolon_sorted (λ t w. w))))
      (λ y a g h o. view.do_shape o.pos y a.expr ∙ (two shape.Stmt.do_while g h ∙ sym (view.do_shape at x e)))) (λ o f w h. h o))))
      (begins_with j (st.DoWhile x e at) s.Do false do_sorted (view.words_of_do at x e) (ap is_block (view.do_shape at x e)) refl refl)

  -- ---- if

  has_otherwise : {F : Sort → Type 0} (z : Stmt) → Prints ns ns (production (Phrase.stmt j)) (stmt_words z) F (SameStmt z) → Prints ns ns (inner.some (gr.behind (gr.one s.Else) (gs.stmt j))) (word (codes "else") ∷ stmt_words z) F (SomeSame (Some z))
  has_otherwise z u = has_some (lead s.Else else_sorted refl) (has_map (has_behind (has_token else_sorted (λ t w. w)) lead_any (part {k = Phrase.stmt j} u)) (λ y h. ap shape.MaybeStmt.some_stmt h))

  if_form : {F G : Sort → Type 0} (e : tree.Expr) (x : Stmt) (z : Option Stmt) → Bare ns (expr_of e) → Prints ns ns (production (Phrase.stmt j)) (stmt_words x) G (SameStmt x)
      → Leads ns ns (else_words (option_map stmt_words z)) F G → Prints ns ns (inner.some (gr.behind (gr.one s.Else) (gs.stmt j))) (else_words (option_map stmt_words z)) F (SomeSame z)
      → Prints ns ns (production (Phrase.stmt j)) (stmt_words (st.If e x z at)) F (SameStmt (st.If e x z at))
  if_form e x z b u l w = as_words (view.words_of_if at e x z) (has_by s.If (lead s.If if_sorted refl) (has_seq {Q = λ f. (o : Token) → SameStmt (st.If e x z at) (f o)} (has_token if_sorted (λ t w. w)) lead_any
      (has_seq {Q = λ f. (a : Operand) (o : Token) → expr_shape a.expr ≡ expr_shape e → SameStmt (st.If e x z at) (f a o)} (has_condition e b) lead_any
      (has_seq (part {k = Phrase.stmt j} u) l w (λ y v g h a o i. view.if_shape o.pos a.expr y v ∙ (three i g h ∙ sym (view.if_shape at e x z))))
      (λ a f i h o. h a o i)) (λ o f w h. h o)))
    where
      three : {a b : Rattle.nesc_tree.specs.Plain.Expr} {c d : shape.Stmt} {m n : shape.MaybeStmt} → a ≡ b → c ≡ d → m ≡ n → shape.Stmt.branch a c m ≡ shape.Stmt.branch b d n
      three f g h = rw (f, g, h) refl

  -- with an `else`, the branch before it was followed by one
  pub stated_if_else : {q r : Place} → (e : tree.Expr) (x z : Stmt) → Bare ns (expr_of e) → Stated ns j x r → next r ≡ s.Else → Stated ns j z q → Stated ns j (st.If e x (Some z) at) q
  stated_if_else e x z b k n m = record {
    opened = if_form e x (Some z) b (k.closed n) lead_any (has_otherwise z m.opened);
    closed = λ i. if_form e x (Some z) b (k.closed n) lead_any (has_otherwise z (m.closed i));
    leads = if_leads j at e x (Some z);
  }

  pub stated_if : {q : Place} → (e : tree.Expr) (x : Stmt) → Bare ns (expr_of e) → Stated ns j x q → is_else (next q) ≡ false → Stated ns j (st.If e x None at) q
  stated_if {q = q} e x b k n = record {
    opened = if_form e x None b k.opened (lead_on (λ y h. h)) (has_less (no_else j) (λ a h. h) (has_nothing refl));
    closed = λ i. differs i;
    leads = if_leads j at e x None;
  }
    where
      differs : next q ≡ s.Else → Prints ns ns (production (Phrase.stmt j)) (stmt_words (st.If e x None at)) Any (SameStmt (st.If e x None at))
      differs i = let z : is_else s.Else ≡ false = subst (λ y. is_else y ≡ false) i n in absurd cc
