use Rattle.std.proofs.Common.{ap, ◌∙◌, nat_eq, ℕ}
use denote.Enum.Declared.{tag_of}
use Rattle.nesc_tree.specs.contracts.sorts.Sort.{the_type}
use Rattle.nesc_tree.specs.Sorts.{code}
use Rattle.nesc_tree.proofs.Tags.{tag_is}
use Rattle.nesc_tree.proofs.sorts.same_sort.Goals as goal

pub returns : goal.returns
returns c = ap (λ (n : ℕ). nat_eq n (tag_of the_type c.args.b)) (tag_is c.args.a) ∙ ap (nat_eq (code c.args.a)) (tag_is c.args.b)
