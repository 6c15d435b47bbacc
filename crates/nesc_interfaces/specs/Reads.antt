-- Reading an interface by forms of the grammar, step by step.
use Rattle.std.specs.Prelude.{ℕ, List, Ok}
use Rattle.nm_base.specs.declared.token.Token.{Token}
use Rattle.nesc_tree.specs.declared.sorts.Sort.TheVariants as s
use Rattle.nesc_tree.specs.declared.components.Part.{Part}
use Rattle.nesc_tree.specs.declared.components.Sig.{Sig}
use Rattle.nesc_tree.specs.Phrase.{Phrase}
use Rattle.nesc_tree.specs.Sorts.{Names}
use Rattle.nesc_tree.specs.Reading.{Answer, phrase, ◌>>=◌}
use Rattle.nesc_grammar.specs.Grammar as grammar
use Rattle.nesc_grammar.specs.Components as spec
use Rattle.nesc_grammar.specs.Production.{production}
use Rattle.nesc_parse_types.specs.Gives.{place}
use Rattle.nesc_specifications.specs.Reads.{at}
use Rattle.nesc_interfaces.specs.Parts as parts

abbrev pub interface : ℕ → Names → List Token → Answer Part
interface spare names ts =
    at spare (grammar.one s.Interface) (place names ts) >>= λ o.
    at spare grammar.name o.1 >>= λ t.
    at spare parts.type_parameters t.1 >>= λ ps.
    at spare spec.attributes ps.1 >>= λ l.
    at spare spec.items l.1 >>= λ is.
    Ok (parts.interface_of t.0 ps.0 l.0 is.0, is.1)

-- with at most so many levels
abbrev pub item_in : ℕ → Names → List Token → Answer Sig
item_in levels names ts = phrase production levels Phrase.item (place names ts)
