use Rattle.std.proofs.Common.{◌≡◌, map, take}
use Rattle.elab_meaning.specs.View.{entry_of}
use Rattle.elab_attempts.proofs.copies.copied_entries.Given as goal

abbrev pub invariant-loop-entry : goal.invariant-loop-entry
invariant-loop-entry l = map entry_of l.copies.items ≡ map entry_of (take l.entry-index l.entries)
