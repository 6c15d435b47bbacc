-- Statements of C99 6.8, with `atomic` of the nesC 1.3 Reference.
use Rattle.std.specs.Prelude.{Bool, false, ◌||◌, List, [], Option}
use Rattle.nm_base.specs.declared.token.Token.{Token}
use Rattle.nesc_tree.specs.declared.sorts.Sort.{Sort}
use Rattle.nesc_tree.specs.declared.sorts.Sort.TheVariants as s
use Rattle.nesc_tree.specs.declared.contexts.Jumps.{Jumps}
use Rattle.nesc_tree.specs.declared.contexts.Jumps.TheVariants as jumps
use Rattle.nesc_tree.specs.declared.declarations.ForStart.{ForStart}
use Rattle.nesc_tree.specs.declared.declarations.ForStart.TheVariants as start
use Rattle.nesc_tree.specs.declared.declarations.Stmt.{Stmt}
use Rattle.nesc_tree.specs.declared.declarations.Stmt.TheVariants as st
use Rattle.nesc_tree.specs.declared.declarations.Variable.{Variable}
use Rattle.nesc_tree.specs.declared.operand.CastType.{CastType}
use Rattle.nesc_tree.specs.declared.operand.Operand.{Operand}
use Rattle.nesc_tree.specs.Level as level
use Rattle.nesc_tree.specs.Phrase.{Phrase, begins_expr, begins_type, begins_local, begins_stmt, begins_label, may_break, may_continue}
use Rattle.nesc_tree.specs.Form.{Form}
use Rattle.nesc_grammar.specs.Grammar.{one, map, expr, behind, before, with, if_type, when, value_of, type_form}
use Rattle.nesc_grammar.specs.Declarations.{added, between, some, group, variables, typedef, type_or_group}

abbrev pub stmt : Jumps → Form Stmt
stmt j = Form.sub (Phrase.stmt j) (λ x. x)

-- ---- declarations in a block

abbrev pub local_typedef : Form Stmt
local_typedef = Form.seq (λ o f. st.Local (f o) o.pos) (one s.Typedef) typedef

abbrev pub local_group : CastType → List Variable → Stmt
local_group t vs = st.Local (type_or_group t vs) t.from

abbrev pub local_variables : Form Stmt
local_variables = Form.seq local_group type_form (before (Form.maybe variables []) (one s.Semi))

abbrev pub local_of : Sort → Form Stmt
local_of s.Typedef = local_typedef
local_of x = when (begins_type x) local_variables

-- ---- blocks; names that they declare end with them

abbrev pub item_of : Jumps → Sort → Form Stmt
item_of j x = if_type (begins_local x) (Form.sub Phrase.local (λ x. x)) (stmt j)

abbrev pub begins_item : Jumps → Sort → Bool
begins_item j x = begins_local x || begins_stmt j x

abbrev pub braced : (Sort → Bool) → (Sort → Form Stmt) → Form Stmt
braced go item = Form.scope (Form.seq (λ o xs. st.Block xs o.pos) (one s.LBrace) (before (Form.many go [] (λ x. map added (item x))) (one s.RBrace)))

abbrev pub block : Jumps → Form Stmt
block j = braced (begins_item j) (item_of j)

-- the block of a `switch`: labels stand at its top level
abbrev pub case_of : Jumps → Sort → Form Stmt
case_of j x = if_type (begins_label x) (Form.sub (Phrase.label j) (λ x. x)) (item_of j x)

abbrev pub case_block : Jumps → Form Stmt
case_block j = braced (λ x. begins_label x || begins_item j x) (case_of j)

abbrev pub cases_of : Jumps → Sort → Form Stmt
cases_of j s.LBrace = case_block j
cases_of j _ = Form.none

-- directly behind a label
abbrev pub labelled_of : Jumps → Sort → Form Stmt
labelled_of j x = if_type (begins_label x) (Form.sub (Phrase.label j) (λ x. x)) (stmt j)

abbrev pub case_rest : Jumps → Form (Token → Stmt)
case_rest j = Form.seq (λ a x o. st.Case a.expr x o.pos) (before (expr level.conditional) (one s.Colon)) (Form.by (labelled_of j))

abbrev pub case_stmt : Jumps → Form Stmt
case_stmt j = with (one s.Case) (case_rest j)

abbrev pub default_stmt : Jumps → Form Stmt
default_stmt j = Form.seq (λ o x. st.Default x o.pos) (before (one s.Default) (one s.Colon)) (Form.by (labelled_of j))

abbrev pub label_of : Jumps → Sort → Form Stmt
label_of j s.Case = case_stmt j
label_of j s.Default = default_stmt j
label_of j _ = Form.none

-- ---- the statements

abbrev pub eval : Form Stmt
eval = Form.seq (λ a _. st.Eval a.expr a.from) (expr level.comma) (one s.Semi)

abbrev pub empty_stmt : Form Stmt
empty_stmt = map (λ o. st.Empty o.pos) (one s.Semi)

abbrev pub atomic_stmt : Jumps → Form Stmt
atomic_stmt j = Form.seq (λ o x. st.Atomic x o.pos) (one s.Atomic) (stmt j)

abbrev pub condition : Form Operand
condition = between s.LParen s.RParen (expr level.comma)

-- an `else` belongs to the nearest `if`
abbrev pub choice : Jumps → Form (Operand → Token → Stmt)
choice j = Form.seq (λ x y a o. st.If a.expr x y o.pos) (stmt j) (some (behind (one s.Else) (stmt j)))

abbrev pub if_stmt : Jumps → Form Stmt
if_stmt j = with (one s.If) (with condition (choice j))

abbrev pub loop_body : Form Stmt
loop_body = stmt jumps.BreakAndContinue

abbrev pub while_stmt : Form Stmt
while_stmt = with (one s.While) (Form.seq (λ a x o. st.While a.expr x o.pos) condition loop_body)

abbrev pub do_stmt : Form Stmt
do_stmt = with (one s.Do) (Form.seq (λ x a o. st.DoWhile x a.expr o.pos) loop_body (behind (one s.While) (before condition (one s.Semi))))

abbrev pub some_expr : Form (Option Operand)
some_expr = some (expr level.comma)

abbrev pub for_variables : Form ForStart
for_variables = Form.seq (λ t vs. start.Vars (group false t vs)) type_form (before variables (one s.Semi))

-- what stands before the first `;` of a `for`, and this sign
abbrev pub for_start_of : Sort → Form ForStart
for_start_of s.Semi = map (λ _. start.Nothing) (one s.Semi)
for_start_of x = if_type (begins_type x) for_variables (when (begins_expr x) (map (λ a. start.Eval a.expr) (before (expr level.comma) (one s.Semi))))

abbrev pub for_end : Form (Option Operand → ForStart → Token → Stmt)
for_end = Form.seq (λ step x test first o. st.For first (value_of test) (value_of step) x o.pos) (before some_expr (one s.RParen)) loop_body

abbrev pub for_rest : Form (ForStart → Token → Stmt)
for_rest = with (before some_expr (one s.Semi)) for_end

-- the names of its declaration end with the loop
abbrev pub for_stmt : Form Stmt
for_stmt = Form.scope (with (one s.For) (behind (one s.LParen) (with (Form.by for_start_of) for_rest)))

abbrev pub in_switch : Jumps → Jumps
in_switch jumps.Neither = jumps.Break
in_switch j = j

abbrev pub switch_body_of : Jumps → Sort → Form Stmt
switch_body_of j s.LBrace = Form.sub (Phrase.cases (in_switch j)) (λ x. x)
switch_body_of j _ = stmt (in_switch j)

abbrev pub switch_stmt : Jumps → Form Stmt
switch_stmt j = with (one s.Switch) (Form.seq (λ a x o. st.Switch a.expr x o.pos) condition (Form.by (switch_body_of j)))

abbrev pub break_stmt : Form Stmt
break_stmt = Form.seq (λ o _. st.Break o.pos) (one s.Break) (one s.Semi)

abbrev pub continue_stmt : Form Stmt
continue_stmt = Form.seq (λ o _. st.Continue o.pos) (one s.Continue) (one s.Semi)

abbrev pub return_stmt : Form Stmt
return_stmt = Form.seq (λ o a. st.Return (value_of a) o.pos) (one s.Return) (before some_expr (one s.Semi))

-- a statement by its first token
abbrev pub statement : Jumps → Sort → Form Stmt
statement j s.LBrace = block j
statement j s.Semi = empty_stmt
statement j s.Atomic = atomic_stmt j
statement j s.If = if_stmt j
statement j s.While = while_stmt
statement j s.Do = do_stmt
statement j s.For = for_stmt
statement j s.Switch = switch_stmt j
statement j s.Break = when (may_break j) break_stmt
statement j s.Continue = when (may_continue j) continue_stmt
statement j s.Return = return_stmt
statement j x = when (begins_expr x) eval
