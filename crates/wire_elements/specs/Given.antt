-- Arguments of generic components seen as plain data (own).
use Rattle.nesc_core.specs.View.{type_of}
use Rattle.wire_facts.specs.Seen.{Given, a_type, a_constant}
use Rattle.wire_elements.specs.declared.arguments.Given as given
use Rattle.wire_elements.specs.declared.arguments.Given.TheVariants as G

abbrev pub given_of : given.Given → Given
given_of (G.Type t) = a_type (type_of t)
given_of (G.Constant at x) = a_constant at x
