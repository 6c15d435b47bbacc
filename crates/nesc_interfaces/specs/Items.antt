-- Reading a command or event of an interface by forms of the grammar, step by step.
use Rattle.std.specs.Prelude.{ℕ, List}
use Rattle.nm_base.specs.declared.token.Token.{Token}
use Rattle.nesc_tree.specs.declared.sorts.Sort.TheVariants as s
use Rattle.nesc_tree.specs.declared.components.Sig.{Sig}
use Rattle.nesc_tree.specs.Sorts.{Names}
use Rattle.nesc_tree.specs.Reading.{Answer, ◌>>=◌}
use Rattle.nesc_grammar.specs.Grammar as grammar
use Rattle.nesc_grammar.specs.Components as spec
use Rattle.nesc_parse_types.specs.Gives.{place}
use Rattle.nesc_specifications.specs.Reads.{at}

abbrev pub item : ℕ → Names → List Token → Answer Sig
item spare names ts =
    at spare (grammar.optional s.Async) (place names ts) >>= λ a.
    at spare (grammar.one s.Item) a.1 >>= λ k.
    at spare grammar.type_form k.1 >>= λ t.
    at spare (grammar.applied a.0 (grammar.applied k.0 (grammar.applied t.0 spec.typed_item))) t.1
