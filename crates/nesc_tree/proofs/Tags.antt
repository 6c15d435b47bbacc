-- The number of a sort is its place in the declaration.
use Rattle.std.proofs.Common.{◌≡◌, refl}
use denote.Enum.Declared.{tag_of}
use Rattle.nesc_tree.specs.contracts.sorts.Sort.{the_type}
use Rattle.nesc_tree.specs.declared.sorts.Sort.{Sort}
use Rattle.nesc_tree.specs.declared.sorts.Sort.TheVariants as s
use Rattle.nesc_tree.specs.Sorts.{code}

pub tag_is : (x : Sort) → tag_of the_type x ≡ code x
tag_is s.End = refl
tag_is _ = refl
