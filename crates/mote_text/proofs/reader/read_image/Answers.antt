use Rattle.std.proofs.Common.{◌∙◌, sym, ap}
use Rattle.mote_text.specs.Lines.{read_lines}
use Rattle.mote_text.specs.ImageLines.{image_step, memory_of}
use Rattle.mote_text.specs.Parsed.{reading_of}
use Rattle.mote_text.proofs.ImageBytes.{all_read}
use Rattle.mote_text.proofs.reader.read_image.Goals as goal

pub returns-in-Ok-loaded-clause-read : goal.returns-in-Ok-loaded-clause-read
returns-in-Ok-loaded-clause-read c =
    sym c.loop-line.invariant
    ∙ ap (read_lines image_step memory_of c.loop-line.number (reading_of c.loop-line.reader)) c.in_default-cut_line.ensures.parts
    ∙ all_read c.loop-line.number (reading_of c.loop-line.reader) _ c.if-not-reader.false c.in-Ok-loaded.ensures
