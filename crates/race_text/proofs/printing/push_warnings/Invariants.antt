use Rattle.std.proofs.Common.{◌≡◌, ◌++◌, map, drop}
use Rattle.std.specs.List.{flat_map}
use Rattle.nesc_core.specs.View.{warning_of}
use Rattle.nesc_preproc.specs.Kept.{name_at}
use Rattle.race_text.specs.Text.{warning_text}
use Rattle.race_text.proofs.printing.push_warnings.Given as goal

abbrev pub invariant-loop-w : goal.invariant-loop-w
invariant-loop-w l =
    l.text.items ++ flat_map (warning_text (name_at l.files)) (map warning_of (drop l.w-index l.warnings))
    ≡ l.fn.text.items ++ flat_map (warning_text (name_at l.files)) (map warning_of l.warnings)
