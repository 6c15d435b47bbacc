-- Which tokens need another operand behind them.
use Rattle.std.specs.Prelude.{Bool, true, false}
use Rattle.nesc_tree.specs.declared.sorts.Sort.{Sort}
use Rattle.nesc_tree.specs.declared.sorts.Sort.TheVariants as s
use Rattle.nesc_grammar.specs.Grammar.{is_operator}

-- whether each operand that begins with the token has another one in it
abbrev pub nests_first : Sort → Bool
nests_first s.LParen = true
nests_first s.Plus = true
nests_first s.Minus = true
nests_first s.Star = true
nests_first s.Amp = true
nests_first s.Complement = true
nests_first s.Step = true
nests_first s.PortRead = true
nests_first s.PortWrite = true
nests_first _ = false

-- whether another operand is behind the operator
abbrev pub nests_behind : Sort → Bool
nests_behind s.LParen = false
nests_behind s.Dot = false
nests_behind s.Arrow = false
nests_behind s.Step = false
nests_behind x = is_operator x
