-- What the words before a declaration are to the grammar.
use Rattle.std.proofs.Common.{refl}
use Rattle.std.specs.Prelude.{codes}
use Rattle.nesc_tree.specs.declared.sorts.Sort.TheVariants as s
use Rattle.nesc_tree.specs.Sorts.{Names}
use Rattle.nesc_tree.specs.Sorts as sorts
use Rattle.nesc_print_words.specs.Lexemes.{word}
use Rattle.nesc_print_laws.proofs.Texts.{Sorted, keyword}

module _ {ns : Names} where
  pub norace_sorted : Sorted ns (word (codes "norace")) s.Norace
  unfolding sorts.keyword
  norace_sorted = keyword (codes "norace") s.Norace refl refl

  pub inline_sorted : Sorted ns (word (codes "inline")) s.Inline
  unfolding sorts.keyword
  inline_sorted = keyword (codes "inline") s.Inline refl refl

  pub async_sorted : Sorted ns (word (codes "async")) s.Async
  unfolding sorts.keyword
  async_sorted = keyword (codes "async") s.Async refl refl

  pub task_sorted : Sorted ns (word (codes "task")) s.Task
  unfolding sorts.keyword
  task_sorted = keyword (codes "task") s.Task refl refl

  pub command_sorted : Sorted ns (word (codes "command")) s.Item
  unfolding sorts.keyword
  command_sorted = keyword (codes "command") s.Item refl refl

  pub event_sorted : Sorted ns (word (codes "event")) s.Item
  unfolding sorts.keyword
  event_sorted = keyword (codes "event") s.Item refl refl
