use Rattle.std.proofs.Common.{◌≡◌, ◌++◌, drop}
use Rattle.std.specs.List.{flat_map}
use Rattle.nesc_core.specs.View.{program_of}
use Rattle.race_text.specs.Text.{behind_text}
use Rattle.race_text.proofs.names.push_rest.Given as goal

abbrev pub invariant-loop-f : goal.invariant-loop-f
invariant-loop-f l =
    l.text.items ++ flat_map (behind_text (program_of l.p)) (drop l.f-index l.rest)
    ≡ l.fn.text.items ++ flat_map (behind_text (program_of l.p)) l.rest
