use Rattle.std.proofs.Common.{◌≡◌, ◌++◌, drop}
use Rattle.std.specs.List.{flat_map}
use Rattle.nesc_core.specs.View.{program_of}
use Rattle.nesc_preproc.specs.Kept.{name_at}
use Rattle.race_text.specs.Text.{row_text}
use Rattle.race_text.proofs.printing.push_rows.Given as goal

abbrev pub invariant-loop-row : goal.invariant-loop-row
invariant-loop-row l =
    l.text.items ++ flat_map (row_text (name_at l.files) (program_of l.p)) (drop l.row-index l.rows)
    ≡ l.fn.text.items ++ flat_map (row_text (name_at l.files) (program_of l.p)) l.rows
