-- Initialisers between braces, and what an initialiser begins with.
use Rattle.std.specs.Prelude.{ℕ, Bool, true, List}
use Rattle.nm_base.specs.declared.token.Token.{Token}
use Rattle.nesc_tree.specs.declared.sorts.Sort.{Sort}
use Rattle.nesc_tree.specs.declared.sorts.Sort.TheVariants as s
use Rattle.nesc_tree.specs.declared.declarations.Init.{Init}
use Rattle.nesc_tree.specs.Sorts.{Names}
use Rattle.nesc_tree.specs.Phrase.{Phrase, begins_expr}
use Rattle.nesc_tree.specs.Reading.{Answer, phrase}
use Rattle.nesc_grammar.specs.Production.{production}
use Rattle.nesc_parse_types.specs.Gives.{place}

abbrev pub begins_init : Sort → Bool
begins_init s.LBrace = true
begins_init x = begins_expr x

-- with at most so many levels
abbrev pub braces_in : ℕ → Names → List Token → Answer Init
braces_in levels names ts = phrase production levels Phrase.braces (place names ts)
