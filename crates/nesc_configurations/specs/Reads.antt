-- Reading the lines of a configuration by forms of the grammar, step by step.
use Rattle.std.specs.Prelude.{ℕ, List, [], ◌∷◌, Option, Some, Ok}
use Rattle.nm_base.specs.declared.token.Token.{Token}
use Rattle.nesc_tree.specs.declared.components.ConfLine.{ConfLine}
use Rattle.nesc_tree.specs.declared.components.GenericArg.{GenericArg}
use Rattle.nesc_tree.specs.declared.components.WireEnd.{WireEnd}
use Rattle.nesc_tree.specs.Phrase.{Phrase}
use Rattle.nesc_tree.specs.Sorts.{Names}
use Rattle.nesc_tree.specs.Form.{next}
use Rattle.nesc_tree.specs.Reading.{Answer, phrase, ◌>>=◌}
use Rattle.nesc_grammar.specs.Grammar as grammar
use Rattle.nesc_grammar.specs.Components as spec
use Rattle.nesc_grammar.specs.Production.{production}
use Rattle.nesc_parse_types.specs.Gives.{place}
use Rattle.nesc_specifications.specs.Parts as heads
use Rattle.nesc_specifications.specs.Reads.{at}
use Rattle.nesc_configurations.specs.Parts as parts

abbrev pub component_end : ℕ → Token → Option (List GenericArg) → Names → List Token → Answer ConfLine
component_end spare t l names ts =
    at spare (grammar.applied t heads.named_as) (place names ts) >>= λ u.
    Ok (parts.component_of t l u.0, u.1)

abbrev pub new_component : ℕ → Names → List Token → Answer ConfLine
new_component spare names ts =
    at spare parts.new_name (place names ts) >>= λ t.
    at spare spec.generic_arguments t.1 >>= λ l.
    at spare (grammar.applied t.0 (parts.component_end (Some l.0))) l.1

abbrev pub end_rest : ℕ → Token → Names → List Token → Answer WireEnd
end_rest spare t names ts =
    at spare parts.second_name (place names ts) >>= λ u.
    at spare parts.end_bracket u.1 >>= λ p.
    Ok (spec.end_of u.0 p.0 t, p.1)

-- the token of the joint tells what the two ends are made to
abbrev pub wire : ℕ → Token → Names → List Token → Answer (List ConfLine)
wire spare t names ts =
    at spare (grammar.applied t spec.end_rest) (place names ts) >>= λ x.
    at spare (parts.behind_joint (next x.1)) x.1 >>= λ y.
    Ok (spec.joined (next x.1) x.0 y.0 t.pos ∷ [], y.1)

-- with at most so many levels
abbrev pub line_in : ℕ → Names → List Token → Answer (List ConfLine)
line_in levels names ts = phrase production levels Phrase.line (place names ts)
