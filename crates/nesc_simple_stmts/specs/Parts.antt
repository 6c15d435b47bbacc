-- Parts of the forms of statements, each read by a function of its own.
use Rattle.std.specs.Prelude.{Bool, true, false, ◌||◌, List, [], Option, Some}
use Rattle.nm_base.specs.declared.token.Token.{Token}
use Rattle.nesc_tree.specs.declared.sorts.Sort.{Sort}
use Rattle.nesc_tree.specs.declared.sorts.Sort.TheVariants as s
use Rattle.nesc_tree.specs.declared.contexts.Jumps.{Jumps}
use Rattle.nesc_tree.specs.declared.declarations.ForStart.{ForStart}
use Rattle.nesc_tree.specs.declared.declarations.ForStart.TheVariants as start
use Rattle.nesc_tree.specs.declared.declarations.Stmt.{Stmt}
use Rattle.nesc_tree.specs.declared.declarations.Stmt.TheVariants as st
use Rattle.nesc_tree.specs.declared.operand.Operand.{Operand}
use Rattle.nesc_tree.specs.Level as level
use Rattle.nesc_tree.specs.Phrase.{Phrase, begins_expr, begins_label, may_break, may_continue}
use Rattle.nesc_tree.specs.Form.{Form}
use Rattle.nesc_grammar.specs.Grammar.{one, map, expr, behind, before, with, when, value_of}
use Rattle.nesc_grammar.specs.Declarations.{added, some}
use Rattle.nesc_grammar.specs.Statements as spec
use Rattle.nesc_simple_stmts.specs.declared.heads.ForHead.{ForHead}
use Rattle.nesc_simple_stmts.specs.declared.heads.ForTests.{ForTests}

-- whether every statement that begins with a token of this sort has another level
abbrev pub deepens : Sort → Bool
deepens s.Atomic = true
deepens s.If = true
deepens s.While = true
deepens s.Do = true
deepens s.For = true
deepens s.Switch = true
deepens _ = false

-- ---- what stands in a block, where labels of a `switch` may stand or may not

abbrev pub item_of : Bool → Jumps → Sort → Form Stmt
item_of true j x = spec.case_of j x
item_of false j x = spec.item_of j x

-- whether the token begins a label, where labels may stand
abbrev pub is_label : Bool → Sort → Bool
is_label true x = begins_label x
is_label false x = false

abbrev pub begins_item : Bool → Jumps → Sort → Bool
begins_item true j x = begins_label x || spec.begins_item j x
begins_item false j x = spec.begins_item j x

abbrev pub item : Bool → Jumps → Form Stmt
item labels j = Form.by (item_of labels j)

abbrev pub another_item : Bool → Jumps → Form (List Stmt → List Stmt)
another_item labels j = map added (item labels j)

abbrev pub items : Bool → Jumps → Form (List Stmt)
items labels j = Form.many (begins_item labels j) [] (λ x. map added (item_of labels j x))

-- the names that it declares do not end with it
abbrev pub open_block : Bool → Jumps → Form Stmt
open_block labels j = Form.seq (λ o xs. st.Block xs o.pos) (one s.LBrace) (before (items labels j) (one s.RBrace))

abbrev pub block : Bool → Jumps → Form Stmt
block labels j = Form.scope (open_block labels j)

-- ---- statements

abbrev pub statement : Jumps → Form Stmt
statement j = Form.by (spec.statement j)

abbrev pub break_in : Jumps → Form Stmt
break_in j = when (may_break j) spec.break_stmt

abbrev pub continue_in : Jumps → Form Stmt
continue_in j = when (may_continue j) spec.continue_stmt

-- an expression statement, where the token begins one
abbrev pub eval_at : Sort → Form Stmt
eval_at x = when (begins_expr x) spec.eval

abbrev pub behind_else : Jumps → Form Stmt
behind_else j = behind (one s.Else) (spec.stmt j)

abbrev pub some_else : Jumps → Form (Option Stmt)
some_else j = map Some (behind_else j)

abbrev pub otherwise : Jumps → Form (Option Stmt)
otherwise j = some (behind_else j)

-- behind the condition of an `if`
abbrev pub choice : Jumps → Token → Operand → Form Stmt
choice j word test = map (λ f. f test word) (spec.choice j)

-- behind the body of a `do`
abbrev pub do_test : Form Operand
do_test = behind (one s.While) (before spec.condition (one s.Semi))

abbrev pub switch_body : Jumps → Form Stmt
switch_body j = Form.by (spec.switch_body_of j)

abbrev pub case_value : Form Operand
case_value = before (expr level.conditional) (one s.Colon)

abbrev pub labelled : Jumps → Form Stmt
labelled j = Form.by (spec.labelled_of j)

-- ---- the head of a `for`

abbrev pub for_start : Form ForStart
for_start = Form.by spec.for_start_of

-- an expression, where the token begins one
abbrev pub value_start_at : Sort → Form ForStart
value_start_at x = when (begins_expr x) (map (λ a. start.Eval a.expr) (before (expr level.comma) (one s.Semi)))

abbrev pub ended_expr : Sort → Form (Option Operand)
ended_expr x = before spec.some_expr (one x)

abbrev pub tests_of : Option Operand → Option Operand → ForTests
tests_of test step = record { test = value_of test; step = value_of step }

abbrev pub for_tests : Form ForTests
for_tests = Form.seq tests_of (ended_expr s.Semi) (ended_expr s.RParen)

abbrev pub for_word : Form Token
for_word = before (one s.For) (one s.LParen)

abbrev pub head_of : Token → ForStart → ForTests → ForHead
head_of word first tests = record { start = first; test = tests.test; step = tests.step; pos = word.pos }

abbrev pub started : Form (Token → ForHead)
started = Form.seq (λ first tests word. head_of word first tests) for_start for_tests

abbrev pub for_head : Form ForHead
for_head = with for_word started

-- the names that it declares do not end with it
abbrev pub open_for : Form Stmt
open_for = Form.seq (λ h x. st.For h.start h.test h.step x h.pos) for_head spec.loop_body
