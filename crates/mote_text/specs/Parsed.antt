-- What the parts of a reader of images stand for.
use Rattle.mote_text.specs.declared.image_line.ImageLine.{ImageLine as ParsedLine}
use Rattle.mote_text.specs.declared.image_line.ImageLine.TheVariants as parsed
use Rattle.mote_text.specs.declared.reader.Reader.{Reader}
use Rattle.mote_text.specs.Cells.{cells_map}
use Rattle.mote_text.specs.ImageLines.{ImageLine, Blank, Section, Bytes, End, Reading}

abbrev pub line_of : ParsedLine → ImageLine
line_of parsed.Blank = Blank
line_of (parsed.Section a) = Section a
line_of (parsed.Bytes bs) = Bytes bs.items
line_of parsed.End = End

abbrev pub reading_of : Reader → Reading
reading_of r = record { next = r.next; byte_at = cells_map r.cells.bytes.items; ended = r.ended }
