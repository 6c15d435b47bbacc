use Rattle.std.proofs.Common.{◌≡◌, ◌∙◌, ◌++◌, ◌∷◌, ap, sym, List, ℕ, not, length, drop, take, take-append-drop}
use Rattle.std.specs.Prelude.{filter}
use Rattle.std.specs.Cmp.Lexicographic.{bytes_decides}
use Rattle.nesc_macros.specs.Numbers.{has, joined}
use Rattle.nesc_macros.proofs.Naming.{joined_with_one_more}
use Rattle.nesc_macros.proofs.hide_sets.one_more.Goals as goal

pub returns-then-are_apart : goal.returns-then-are_apart
returns-then-are_apart c =
    let older = c.in_ok-newest.older.now in
    let others = c.args.others.now in
    let rest = c.in_ok-rest.rest.now in
    let numbers : c.args.numbers.now ≡ c.in_ok-newest.newest.now ∷ older = c.in_ok-newest.ensures.cases.0 in
    let front : take (length older) others ≡ older = (bytes_decides (take (length older) others) older).0 c.in_ok-rest.ensures.cases.0 in
    let is : others ≡ older ++ rest = sym (take-append-drop (length older) others) ∙ ap (λ (l : List ℕ). l ++ drop (length older) others) front ∙ ap (λ (l : List ℕ). older ++ l) (sym c.in_ok-rest.ensures.cases.1) in
    let apart : filter (λ y. not (has c.args.numbers.now y)) rest ≡ rest = c.are_apart.ensures c.if-are_apart.true in
    ap (λ (l : List ℕ). joined l others) numbers
    ∙ joined_with_one_more c.in_ok-newest.newest.now older rest others is (ap (λ (l : List ℕ). filter (λ y. not (has l y)) rest) (sym numbers) ∙ apart)
