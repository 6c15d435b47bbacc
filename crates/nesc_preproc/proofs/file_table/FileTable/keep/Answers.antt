use Rattle.std.proofs.Common.{◌∙◌, ap, sym}
use Rattle.std.specs.Option.{option_copied_mut}
use Rattle.nesc_preproc.specs.FileTables.{files_of}
use Rattle.nesc_preproc.proofs.Filed.{same_files}
use Rattle.nesc_preproc.proofs.file_table.FileTable.keep.Goals.{in-Some, in_default}
use Rattle.nesc_preproc.proofs.file_table.FileTable.keep.Goals as goal

pub returns : goal.returns
returns c = elim c.match-get_index_mut.branch [
  | in-Some w ↦
      let there = sym c.get_index_mut.ensures.value ∙ ap option_copied_mut w.in-Some.is in
      same_files c.self.inside.files.entries c.match-get_index_mut.self-inside.files.entries c.args.number w.in-Some.text.now w.keep.new.self there w.keep.ensures (ap (λ i. i.files.entries) w.self-inside-is) ∙ c.self.view_is
  | in_default w ↦ ap (λ i. files_of i.files.entries) w.self-inside-is ∙ c.self.view_is
]
