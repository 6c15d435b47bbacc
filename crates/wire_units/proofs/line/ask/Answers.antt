use Rattle.std.proofs.Common.{rules, ◌≡◌, ◌++◌, ◌+◌, ◌∷◌, [], Err, drop, sym, ap, ◌∙◌}
use Rattle.wire_instances.specs.declared.naming.Stop.TheVariants as stop
use Rattle.wire_instances.specs.declared.plan.Line.TheVariants as line
use Rattle.wire_units.specs.Lines.{asked}
use Rattle.wire_units.proofs.Lists.{lines_next, refused_line}
use Rattle.wire_units.proofs.line.ask.Goals as goal

pub returns-in-Err-Unmet : goal.returns-in-Err-Unmet
returns-in-Err-Unmet c =
    let units = c.args.table.now.units.now in
    let b = c.loop-line.block in
    let x = c.line-item.result in
    let e = c.in-Err-Unmet.unmet in
    let r : c.asked.result ≡ Err (stop.Unmet e) = search rules in
    let h : asked units b x ≡ Err e = c.asked.ensures.refused e r in
    let p : c.push-in-Err-Unmet.new.self.items ≡ c.loop-line.asks.items ++ line.Refused e ∷ [] = search rules in
    let n = lines_next units b c.args.lines.now c.loop-line.line-index x c.loop-line-test.true c.line-item.is ∙ refused_line units b x (drop (c.loop-line.line-index + 1) c.args.lines.now) e h in
    p ∙ (ap (λ ls. c.loop-line.asks.items ++ ls) (sym n) ∙ c.loop-line.invariant)
