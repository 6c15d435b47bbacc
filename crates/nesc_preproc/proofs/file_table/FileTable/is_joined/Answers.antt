use Rattle.std.proofs.Common.{◌≡◌, ◌∙◌, ap, sym, List, [], ℕ, Some}
use Rattle.std.specs.Prelude.{slice_get, slice_index_or}
use Rattle.std.specs.Option.{option_map}
use Rattle.nesc_tokens.specs.Joined.{is_joined}
use Rattle.nesc_preproc.specs.FileTables.{FilesRead}
use Rattle.nesc_preproc.proofs.Filed.{text_at}
use Rattle.nesc_preproc.proofs.file_table.FileTable.is_joined.Goals as goal

pub returns-in-Some : goal.returns-in-Some
returns-in-Some c =
    let es = c.self.inside.files.entries in
    let there : slice_get es c.args.pos.file ≡ Some (c.in-Some.field-0-0.now, c.in-Some.text.now) = sym c.get_index.ensures.entry ∙ ap (option_map (λ p. (p.0.now, p.1.now))) c.in-Some.is in
    let text : slice_index_or c.args.self.now.texts c.args.pos.file [] ≡ c.in-Some.text.now = ap (λ (f : FilesRead). slice_index_or f.texts c.args.pos.file []) (sym c.self.view_is) ∙ text_at es c.args.pos.file (c.in-Some.field-0-0.now, c.in-Some.text.now) there in
    c.is_joined.ensures ∙ ap (λ (t : List ℕ). is_joined t c.args.pos) (sym text)
