use Rattle.std.proofs.Common.{◌≡◌, ◌+◌, ◌-◌, ◌++◌, append_assoc, ap, sym, ◌∙◌, arith, rules}
use Rattle.stmt_emitter.specs.Located.{clear_in, clears_in}
use Rattle.stmt_emitter.proofs.Clears.{first_clear}
use Rattle.stmt_emitter.proofs.locals.put_clears.Goals as goal

pub loop-left-preserved : goal.loop-left-preserved
loop-left-preserved c =
    let s = c.args.scope.now in
    let more = clears_in s c.args.r (c.loop-left.left - 1) (c.loop-left.at + 1) (c.loop-left.label + 2) in
    let one = clear_in s c.args.r c.loop-left.at c.loop-left.label in
    let put : c.put_clear.new.code.items ≡ c.loop-left.code.items ++ one = search rules in
    let first = first_clear s c.args.r c.loop-left.left c.loop-left.at c.loop-left.label c.loop-left-test.true in
    record {
      code = ap (λ done. done ++ more) put ∙ append_assoc c.loop-left.code.items one more ∙ ap (λ rest. c.loop-left.code.items ++ rest) (sym first) ∙ c.loop-left.invariant.code;
      locals = let h = c.loop-left.invariant.locals in let t = c.loop-left-test.true in omega (arith, h, t);
      labels = let h = c.loop-left.invariant.labels in let t = c.loop-left-test.true in omega (arith, h, t);
    }
