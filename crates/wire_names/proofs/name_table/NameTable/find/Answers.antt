use Rattle.std.proofs.Common.{◌∙◌, ap, position}
use Rattle.wire_names.specs.Texts.{same_text, text}
use Rattle.wire_names.proofs.Mapped.{position-map}
use Rattle.wire_names.proofs.name_table.NameTable.find.Goals as goal

pub returns : goal.returns
returns c = rw c.as_bytes.ensures at c.get_index_of.ensures.index ∙ (position-map text (same_text c.args.name.now) c.self.inside.names.keys ∙ ap (position (same_text c.args.name.now)) c.self.view_is)
