use Rattle.std.proofs.Common.{◌≡◌, length}
use Rattle.std.specs.Str.Lines.{lines}
use Rattle.mote_text.specs.Lines.{read_lines}
use Rattle.mote_text.specs.ImageLines.{image_of, image_step, memory_of}
use Rattle.mote_text.specs.Parsed.{reading_of}
use Rattle.mote_text.proofs.reader.read_image.Given as goal

-- what is read from here on is what the text says
abbrev pub invariant-loop-line : goal.invariant-loop-line
invariant-loop-line l = read_lines image_step memory_of l.number (reading_of l.reader) (lines l.rest) ≡ image_of l.text

abbrev pub decreases-loop-line : goal.decreases-loop-line
decreases-loop-line l = length l.rest
