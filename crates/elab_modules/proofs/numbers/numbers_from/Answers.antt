use Rattle.std.proofs.Common.{◌≡◌, ◌<◌, ◌++◌, [], ◌∷◌, ap, arith, rules, ◌∙◌}
use Rattle.elab_modules.proofs.Counted.{number_passed}
use Rattle.elab_modules.proofs.numbers.numbers_from.Goals as goal

pub loop-number-preserved : goal.loop-number-preserved
loop-number-preserved c =
    let same : c.in-Ok.number ≡ c.loop-number.number = search rules in
    let below : c.loop-number.number < c.args.behind = omega (arith, c.loop-number-test.true) in
    number_passed _ c.loop-number.numbers.items c.loop-number.number c.args.behind c.push.new.self.items c.loop-number.invariant below
    (c.in_ok-push.ensures.items ∙ ap (λ n. c.loop-number.numbers.items ++ (n ∷ [])) same)
