use Rattle.std.proofs.Common.{◌∙◌, ap}
use Rattle.std.specs.List.{list_any}
use Rattle.wire_names.specs.Texts.{same_text, text}
use Rattle.wire_names.proofs.Mapped.{list_any-map}
use Rattle.wire_names.proofs.name_table.NameTable.has.Goals as goal

pub returns : goal.returns
returns c = rw c.as_bytes.ensures at c.contains.ensures ∙ (list_any-map text (same_text c.args.name.now) c.self.inside.names.keys ∙ ap (list_any (same_text c.args.name.now)) c.self.view_is)
