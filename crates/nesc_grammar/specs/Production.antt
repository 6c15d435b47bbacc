-- The form of each phrase.
use Rattle.nesc_tree.specs.Level as level
use Rattle.nesc_tree.specs.declared.sorts.Sort.TheVariants as s
use Rattle.std.specs.Prelude.{suc}
use Rattle.nesc_tree.specs.Phrase.{Phrase, Of}
use Rattle.nesc_tree.specs.Form.{Form}
use Rattle.nesc_grammar.specs.Grammar.{one, map, grown, operation, may, fits, somewhere, expression, admits_cast, type_form, stars, struct_fields, parens}
use Rattle.nesc_grammar.specs.Declarations.{attribute, braces_of, decl_of, ended_decls}
use Rattle.nesc_grammar.specs.Statements.{local_of, statement, label_of, cases_of}
use Rattle.nesc_grammar.specs.Components.{generics, specification, line_of, item, interface_unit, component_unit}

abbrev pub production : (p : Phrase) → Form (Of p)
production (Phrase.expr least) = expression (admits_cast least) least
production Phrase.type = type_form
production Phrase.pointers = Form.seq (λ _ n. suc n) (one s.Star) stars
production Phrase.fields = struct_fields
production Phrase.opened = Form.loop (may level.postfix) (λ f. fits (f somewhere)) (λ f. (f somewhere).height) parens (λ x. map (λ g f o. grown g (f o)) (operation x))
production Phrase.braces = Form.by braces_of
production Phrase.local = Form.by local_of
production (Phrase.stmt j) = Form.by (statement j)
production (Phrase.label j) = Form.by (label_of j)
production (Phrase.cases j) = Form.by (cases_of j)
production (Phrase.decl m) = Form.by (decl_of m)
production (Phrase.decls m) = ended_decls m
production Phrase.attribute = attribute
production Phrase.generics = generics
production Phrase.spec = specification
production Phrase.line = Form.by line_of
production Phrase.item = item
production Phrase.interface = interface_unit
production Phrase.component = component_unit
