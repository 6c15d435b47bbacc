-- What the words of components are to the grammar.
use Rattle.std.proofs.Common.{Bool, true, false, refl}
use Rattle.std.specs.Prelude.{codes}
use Rattle.nesc_tree.specs.declared.sorts.Sort.TheVariants as s
use Rattle.nesc_tree.specs.Sorts.{Names}
use Rattle.nesc_tree.specs.Sorts as sorts
use Rattle.nesc_print_words.specs.Lexemes.{word}
use Rattle.nesc_print_words.specs.Components.{sig_word, specify_word}
use Rattle.nesc_print_laws.proofs.Texts.{Sorted, keyword}
use Rattle.nesc_print_laws.proofs.Names.{IsName}
use Rattle.nesc_print_decl_laws.proofs.Keywords.{command_sorted, event_sorted}

module _ {ns : Names} where
  pub interface_sorted : Sorted ns (word (codes "interface")) s.Interface
  unfolding sorts.keyword
  interface_sorted = keyword (codes "interface") s.Interface refl refl

  pub generic_sorted : Sorted ns (word (codes "generic")) s.Generic
  unfolding sorts.keyword
  generic_sorted = keyword (codes "generic") s.Generic refl refl

  pub module_sorted : Sorted ns (word (codes "module")) s.Module
  unfolding sorts.keyword
  module_sorted = keyword (codes "module") s.Module refl refl

  pub configuration_sorted : Sorted ns (word (codes "configuration")) s.Configuration
  unfolding sorts.keyword
  configuration_sorted = keyword (codes "configuration") s.Configuration refl refl

  pub implementation_sorted : Sorted ns (word (codes "implementation")) s.Implementation
  unfolding sorts.keyword
  implementation_sorted = keyword (codes "implementation") s.Implementation refl refl

  pub components_sorted : Sorted ns (word (codes "components")) s.Components
  unfolding sorts.keyword
  components_sorted = keyword (codes "components") s.Components refl refl

  pub provides_sorted : Sorted ns (word (codes "provides")) s.Specify
  unfolding sorts.keyword
  provides_sorted = keyword (codes "provides") s.Specify refl refl

  pub uses_sorted : Sorted ns (word (codes "uses")) s.Specify
  unfolding sorts.keyword
  uses_sorted = keyword (codes "uses") s.Specify refl refl

  pub as_sorted : Sorted ns (word (codes "as")) s.As
  unfolding sorts.keyword
  as_sorted = keyword (codes "as") s.As refl refl

  pub new_sorted : Sorted ns (word (codes "new")) s.New
  unfolding sorts.keyword
  new_sorted = keyword (codes "new") s.New refl refl

  pub item_sorted : (b : Bool) → Sorted ns (word (sig_word b)) s.Item
  item_sorted true = event_sorted
  item_sorted false = command_sorted

  pub specify_sorted : (b : Bool) → Sorted ns (word (specify_word b)) s.Specify
  specify_sorted true = provides_sorted
  specify_sorted false = uses_sorted

-- the name of a parameter in a bracket
pub id_is_name : IsName (codes "id")
unfolding sorts.keyword
id_is_name = refl
