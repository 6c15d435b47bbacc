use Rattle.std.proofs.Common.{◌≡◌, ◌++◌, map}
use Rattle.std.specs.List.{range_with_len}
use Rattle.generated_files.specs.Generated.{module_file}
use Rattle.generated_files.proofs.files.push_modules.Given as goal

abbrev pub invariant-loop-k : goal.invariant-loop-k
invariant-loop-k l = l.files.items ≡ l.fn.files.items ++ map module_file (range_with_len 0 l.k)
