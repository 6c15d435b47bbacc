use Rattle.std.proofs.Common.{◌≡◌, ◌++◌, ◌-◌}
use Rattle.nesc_print_words.specs.Lexemes.{stars}
use Rattle.nesc_print_exprs.proofs.expressions.put_stars.Given as goal

abbrev pub invariant-loop : goal.invariant-loop
invariant-loop l = l.words ++ stars (l.count - l.counter) ≡ l.fn.words ++ stars l.count
