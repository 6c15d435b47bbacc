use Rattle.std.proofs.Common.{◌≡◌, ◌∙◌, ap, map, sym, subst, Some, None, []}
use Rattle.std.specs.List.{position}
use Rattle.std.specs.Prelude.{slice_index_or}
use Rattle.std.specs.Option.{MatchOption}
use Rattle.nesc_macros.specs.Invocation.{Name, same_name}
use Rattle.nesc_preproc.specs.FileTables.{FilesRead}
use Rattle.nesc_preproc.specs.Sources.{file_from}
use Rattle.nesc_preproc.proofs.Filed.{found_by}
use Rattle.nesc_preproc.proofs.file_table.FileTable.find.Goals as goal

pub returns-clause-found : goal.returns-clause-found
returns-clause-found c =
    let r = c.get_index_of-2.result in
    subst (λ (f : FilesRead). MatchOption r (file_from 0 f.names f.texts c.args.name.now ≡ None) (λ k. file_from 0 f.names f.texts c.args.name.now ≡ Some (k, slice_index_or f.texts k []))) c.self.view_is
    (found_by c.self.inside.files.entries c.args.name.now r (sym (c.get_index_of-2.ensures.index ∙ ap (λ (n : Name). position (same_name n) (map (λ e. e.0) c.self.inside.files.entries)) c.in_ok-of.ensures)))
