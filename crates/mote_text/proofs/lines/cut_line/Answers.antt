use Rattle.std.proofs.Common.{◌∷◌, ap, sym, ◌∙◌}
use Rattle.std.specs.Str.Lines.{lines}
use Rattle.mote_text.proofs.Cutting.{cut_line}
use Rattle.mote_text.proofs.lines.cut_line.Goals as goal

pub returns-in-Some-clause-parts : goal.returns-in-Some-clause-parts
returns-in-Some-clause-parts c =
    cut_line c.args.text.now c.in-Some.line.now c.in-Some.rest.now c.in-Some.ensures.parts
    ∙ ap (λ l. l ∷ lines c.in-Some.rest.now) (sym c.without_return.ensures)
