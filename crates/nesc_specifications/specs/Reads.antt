-- Reading by forms of the grammar, step by step.
use Rattle.std.specs.Prelude.{ℕ, Bool, List, Ok}
use Rattle.nm_base.specs.declared.token.Token.{Token}
use Rattle.nesc_tree.specs.declared.sorts.Sort.TheVariants as s
use Rattle.nesc_tree.specs.declared.components.Elem.{Elem}
use Rattle.nesc_tree.specs.declared.components.GenericParam.{GenericParam}
use Rattle.nesc_tree.specs.declared.components.Head.{Head}
use Rattle.nesc_tree.specs.Phrase.{Phrase}
use Rattle.nesc_tree.specs.Sorts.{Names}
use Rattle.nesc_tree.specs.Form.{Form, Place, next}
use Rattle.nesc_tree.specs.Reading.{Answer, read, phrase, ◌>>=◌}
use Rattle.nesc_grammar.specs.Grammar as grammar
use Rattle.nesc_grammar.specs.Components as spec
use Rattle.nesc_grammar.specs.Production.{production}
use Rattle.nesc_parse_types.specs.Gives.{place}
use Rattle.nesc_specifications.specs.Parts as parts

-- by a form whose phrases have at most so many levels
abbrev pub at : {A : Type 0} → ℕ → Form A → Place → Answer A
at spare g p = read spare (phrase production spare) g p

abbrev pub element : ℕ → Bool → Names → List Token → Answer Elem
element spare provides names ts =
    at spare parts.interface_name (place names ts) >>= λ t.
    at spare parts.type_arguments t.1 >>= λ l.
    at spare (grammar.applied t.0 parts.named_as) l.1 >>= λ u.
    at spare parts.element_end u.1 >>= λ p.
    Ok (parts.element_of provides t.0 l.0 u.0 p.0, p.1)

-- the word tells whether the elements behind it are provided
abbrev pub specification : ℕ → Names → List Token → Answer (List Elem)
specification spare names ts =
    at spare (grammar.one s.Specify) (place names ts) >>= λ t.
    at spare (parts.elements_of (spec.provides t.0) (next t.1)) t.1

abbrev pub head : ℕ → Bool → Names → List Token → Answer Head
head spare is_generic names ts =
    at spare grammar.name (place names ts) >>= λ t.
    at spare parts.some_generics t.1 >>= λ ps.
    at spare spec.attributes ps.1 >>= λ l.
    at spare spec.elements l.1 >>= λ es.
    Ok (parts.head_of t.0 (spec.generic_of is_generic ps.0) l.0 es.0, es.1)

-- ---- phrases with at most so many levels

abbrev pub spec_in : ℕ → Names → List Token → Answer (List Elem)
spec_in levels names ts = phrase production levels Phrase.spec (place names ts)

abbrev pub generics_in : ℕ → Names → List Token → Answer (List GenericParam)
generics_in levels names ts = phrase production levels Phrase.generics (place names ts)
