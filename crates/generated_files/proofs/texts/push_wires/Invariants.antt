use Rattle.std.proofs.Common.{◌≡◌, ◌++◌, map, string_bytes}
use Rattle.std.specs.List.{range_with_len}
use Rattle.generated_files.specs.Generated.{text_of, wire}
use Rattle.generated_files.proofs.texts.push_wires.Given as goal

abbrev pub invariant-loop-k : goal.invariant-loop-k
invariant-loop-k l = string_bytes l.text ≡ string_bytes l.fn.text ++ text_of (map wire (range_with_len 0 l.k))
