use Rattle.std.proofs.Common.{◌≡◌, ◌++◌, string_bytes}
use Rattle.std.specs.List.{flat_map, range_with_len}
use Rattle.generated_files.specs.Generated.{listed}
use Rattle.generated_files.proofs.texts.push_components.Given as goal

abbrev pub invariant-loop-k : goal.invariant-loop-k
invariant-loop-k l = string_bytes l.text ≡ string_bytes l.fn.text ++ flat_map listed (range_with_len 0 l.k)
