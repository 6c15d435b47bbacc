use Rattle.std.proofs.Common.{◌≡◌, ◌∙◌, sym, ap, length, arith}
use Rattle.mote_text.proofs.ImageBytes.{finished, at_end, nothing_left}
use Rattle.mote_text.proofs.image_line.line_bytes.Goals as goal

pub returns : goal.returns
returns c =
    let none : length c.loop-rest.rest.now ≡ 0 = grind arith in
    sym (at_end c.loop-rest.bytes.items c.loop-rest.invariant.few)
    ∙ ap (finished c.loop-rest.bytes.items) (sym (nothing_left c.loop-rest.rest.now none))
    ∙ c.loop-rest.invariant.read
