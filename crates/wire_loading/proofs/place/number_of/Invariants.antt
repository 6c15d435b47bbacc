use Rattle.std.proofs.Common.{◌≡◌, ◌-◌, length, drop}
use Rattle.std.specs.List.{position_from}
use Rattle.wire_names.specs.Texts.{same_text}
use Rattle.wire_loading.specs.Places.{names_in}
use Rattle.wire_loading.proofs.place.number_of.Given as goal

-- the files before place k have other names
abbrev pub invariant-loop-name : goal.invariant-loop-name
invariant-loop-name l = position_from (same_text l.file) l.k (drop l.k (names_in l.reading)) ≡ position_from (same_text l.file) 0 (names_in l.reading)

abbrev pub decreases-loop-name : goal.decreases-loop-name
decreases-loop-name l = length (names_in l.reading) - l.k
