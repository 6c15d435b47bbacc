-- The types of parameters.
use Rattle.std.proofs.Common.{◌≡◌, ℕ, List, map, take, sym}
use Rattle.std.proofs.lemmas.List.{take-map}
use Rattle.nesc_core.specs.declared.tree.CoreType.{CoreType}
use Rattle.nesc_core.specs.View.{type_of}

pub types_taken : (n : ℕ) (ts : List CoreType) → map type_of (take n ts) ≡ take n (map type_of ts)
types_taken n ts = sym (take-map type_of n ts)
