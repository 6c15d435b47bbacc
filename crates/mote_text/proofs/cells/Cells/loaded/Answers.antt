use Rattle.std.proofs.Common.{◌∙◌}
use Rattle.mote_text.proofs.ImageBytes.{filled}
use Rattle.mote_text.proofs.cells.Cells.loaded.Goals as goal

pub returns : goal.returns
returns c = filled _ c.args.self.now.bytes.items (c.from_bytes.ensures ∙ c.in_ok-bytes.ensures)
