use Rattle.std.proofs.Common.{◌≡◌, ◌∙◌, ◌++◌, ◌∷◌, List, Bool, ℕ, cond, sym, ap}
use Rattle.nesc_macros.specs.Numbers.{common}
use Rattle.nesc_macros.specs.Sets.{numbers_in}
use Rattle.nesc_macros.proofs.Linked.{pushed_if}
use Rattle.nesc_macros.proofs.hide_sets.HideSets.common.Goals as goal

pub loop-both-preserved : goal.loop-both-preserved
loop-both-preserved c links extends =
    let n : ℕ = c.in-Some.link.number in
    let ys : List ℕ = numbers_in links c.args.other.now in
    let later : List ℕ = common (numbers_in links c.in-Some.link.rest) ys in
    let newest : numbers_in links c.loop-both.rest ≡ n ∷ numbers_in links c.in-Some.link.rest = rw c.in-Some.is at c.in_ok-link.ensures.newest links extends in
    ap (λ (l : List ℕ). l ++ later) c.in_ok-push_if.ensures
    ∙ pushed_if c.in_ok-is_in_both.is_in_both n c.loop-both.both.items later
    ∙ ap (λ (b : Bool). c.loop-both.both.items ++ cond b (n ∷ later) later) (c.in_ok-is_in_both.ensures links extends)
    ∙ ap (λ (l : List ℕ). c.loop-both.both.items ++ common l ys) (sym newest)
    ∙ c.loop-both.invariant links extends
