use Rattle.std.proofs.Common.{◌≡◌, ◌∙◌, ◌++◌, ◌∷◌, [], List, ℕ, None, ap, map}
use Rattle.std.proofs.lemmas.List.{map-append}
use Rattle.indexmap.specs.IndexMap.{insert_entry}
use Rattle.nesc_macros.specs.Invocation.{Name, same_name}
use Rattle.nesc_preproc.specs.FileTables.{FilesRead, files_of}
use Rattle.nesc_preproc.specs.Sources.{file_from}
use Rattle.nesc_preproc.proofs.Filed.{inserted_new}
use Rattle.nesc_preproc.proofs.file_table.FileTable.add.Goals as goal

pub returns-clause-names : goal.returns-clause-names
returns-clause-names c =
    let es = c.self.inside.files.entries in
    let absent : file_from 0 (files_of es).names (files_of es).texts c.args.name.now ≡ None = ap (λ (f : FilesRead). file_from 0 f.names f.texts c.args.name.now) c.self.view_is ∙ c.requires.new in
    let entries : c.insert.new.self.entries ≡ es ++ (c.args.name.now, c.args.text.items) ∷ [] =
    c.in_ok-insert.ensures.entries ∙ ((λ i. insert_entry same_name es (c.in_ok-of.ensures i) (c.in_ok-new.ensures i)) ∙ inserted_new es c.args.name.now c.args.text.items 0 absent) in
    ap (map (λ (e : Name × List ℕ). e.0)) entries ∙ (map-append (λ (e : Name × List ℕ). e.0) es ((c.args.name.now, c.args.text.items) ∷ []) ∙ ap (λ (f : FilesRead). f.names ++ c.args.name.now ∷ []) c.self.view_is)

pub returns-clause-texts : goal.returns-clause-texts
returns-clause-texts c =
    let es = c.self.inside.files.entries in
    let absent : file_from 0 (files_of es).names (files_of es).texts c.args.name.now ≡ None = ap (λ (f : FilesRead). file_from 0 f.names f.texts c.args.name.now) c.self.view_is ∙ c.requires.new in
    let entries : c.insert.new.self.entries ≡ es ++ (c.args.name.now, c.args.text.items) ∷ [] =
    c.in_ok-insert.ensures.entries ∙ ((λ i. insert_entry same_name es (c.in_ok-of.ensures i) (c.in_ok-new.ensures i)) ∙ inserted_new es c.args.name.now c.args.text.items 0 absent) in
    ap (map (λ (e : Name × List ℕ). e.1)) entries ∙ (map-append (λ (e : Name × List ℕ). e.1) es ((c.args.name.now, c.args.text.items) ∷ []) ∙ ap (λ (f : FilesRead). f.texts ++ c.args.text.items ∷ []) c.self.view_is)
