-- What makes a longer operand of the one before it, as the grammar has it.
use Rattle.std.specs.Prelude.{◌≡◌, ℕ, max, Ok, Err}
use denote.Ref.{Bor}
use Rattle.nm_base.specs.declared.token.Token.{Token}
use Rattle.nesc_tree.specs.declared.tree.Expr.TheVariants as e
use Rattle.nesc_tree.specs.declared.operand.Operand.{Operand}
use Rattle.nesc_tree.specs.declared.sorts.Sort.{Sort}
use Rattle.nesc_tree.specs.declared.sorts.Sort.TheVariants as s
use Rattle.nesc_tree.specs.Level as level
use Rattle.nesc_tree.specs.Sorts.{Names}
use Rattle.nesc_tree.specs.Form.{Form}
use Rattle.nesc_tree.specs.Reading.{Answer}
use Rattle.nesc_grammar.specs.Grammar as grammar
use Rattle.nesc_grammar.specs.Grammar.{Growth, growth}
use Rattle.nesc_parse_types.specs.Gives.{Fails, Found}
use Rattle.nesc_parse_exprs.specs.declared.growing.Growing.{Growing}
use Rattle.nesc_parse_exprs.specs.declared.growing.Growing.TheVariants as g

abbrev pub growth_of : Growing → Growth
growth_of (g.Binary op binds b) = growth binds b.height (λ a from. e.Binary op a b.expr from)
growth_of (g.Comma b) = growth level.comma b.height (λ a from. e.Comma a b.expr from)
growth_of (g.Assign op b) = growth level.assignment b.height (λ a from. e.Assign op a b.expr from)
growth_of (g.Choice b d) = growth level.conditional (max b.height d.height) (λ a from. e.Cond a b.expr d.expr from)
growth_of (g.Index b) = growth level.postfix b.height (λ a from. e.Index a b.expr from)
growth_of (g.Call l) = growth level.postfix l.height (λ a from. e.CallFn a l.exprs from)
growth_of (g.Member t) = growth level.postfix 0 (λ a from. e.Member a t.now.text from)
growth_of (g.Arrow t) = growth level.postfix 0 (λ a from. e.Arrow a t.now.text from)
growth_of (g.Step op) = growth level.postfix 0 (λ a from. e.Postfix op a from)

abbrev pub GivesGrowth : Names → Found Growing → Answer Growth → Type 0
GivesGrowth names (Ok x) y = y ≡ Ok (growth_of x.0, record { names = names; rest = x.1.now })
GivesGrowth names (Err e) y = Fails e y

-- an operator of this level, with an operand of at least that level behind it
abbrev pub binary : Sort → ℕ → ℕ → Form Growth
binary x binds least = Form.seq (λ o b. growth binds b.height (λ a from. e.Binary (grammar.infix_of o) a b.expr from)) (grammar.one x) (grammar.expr least)

abbrev pub then_value : Form Operand
then_value = grammar.behind (grammar.one s.Question) (grammar.expr level.comma)

abbrev pub other_value : Form Operand
other_value = grammar.behind (grammar.one s.Colon) (grammar.expr level.conditional)
