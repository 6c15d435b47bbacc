-- Parts of the form of an interface, each read by a function of its own.
use Rattle.std.specs.Prelude.{ℕ, List, []}
use Rattle.nm_base.specs.declared.token.Token.{Token}
use Rattle.nesc_tree.specs.declared.sorts.Sort.TheVariants as s
use Rattle.nesc_tree.specs.declared.tree.Param.{Param}
use Rattle.nesc_tree.specs.declared.declarations.Attr.{Attr}
use Rattle.nesc_tree.specs.declared.components.Part.{Part}
use Rattle.nesc_tree.specs.declared.components.Part.TheVariants as part
use Rattle.nesc_tree.specs.declared.components.Sig.{Sig}
use Rattle.nesc_tree.specs.Phrase.{Phrase, begins_item}
use Rattle.nesc_tree.specs.Form.{Form}
use Rattle.nesc_grammar.specs.Grammar as grammar
use Rattle.nesc_grammar.specs.Declarations as inner
use Rattle.nesc_grammar.specs.Components as spec

abbrev pub scoped_parameters : Form (List Param)
scoped_parameters = Form.scope inner.parameters

abbrev pub another_item : Form (List Sig → List Sig)
another_item = grammar.map inner.added (Form.sub Phrase.item (λ x. x))

abbrev pub some_items : Form (List Sig)
some_items = inner.repeated begins_item (Form.sub Phrase.item (λ x. x))

-- the names of type parameters
abbrev pub parameter : Form (List ℕ)
parameter = grammar.map (λ t. t.text) spec.type_parameter

abbrev pub another_parameter : Form (List (List ℕ) → List (List ℕ))
another_parameter = grammar.map inner.added (grammar.behind (grammar.one s.Comma) parameter)

abbrev pub some_parameters : Form (List (List ℕ))
some_parameters = inner.listed parameter

abbrev pub type_parameters : Form (List (List ℕ))
type_parameters = Form.maybe (inner.between s.Less s.Greater some_parameters) []

abbrev pub interface_of : Token → List (List ℕ) → List Attr → List Sig → Part
interface_of t ps l is = part.Interface (record { name = t.text; params = ps; items = is; attrs = l })
