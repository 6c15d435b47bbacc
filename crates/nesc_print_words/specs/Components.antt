-- The words of what a file holds: interfaces, modules and configurations of the nesC 1.3 Reference.
use Rattle.std.specs.Prelude.{ℕ, Bool, true, false, if◌then◌else◌, bytes_eq, List, [], ◌∷◌, ◌++◌, map, codes, Option, Some, None, is_some}
use Rattle.nesc_tree.specs.Level as level
use Rattle.nesc_tree.specs.View.{expr_of, spec_of}
use Rattle.nesc_tree.specs.declared.tree.Expr as tree
use Rattle.nesc_tree.specs.declared.tree.TypeSpec.{TypeSpec}
use Rattle.nesc_tree.specs.declared.components.ConfLine.{ConfLine}
use Rattle.nesc_tree.specs.declared.components.ConfLine.TheVariants as line
use Rattle.nesc_tree.specs.declared.components.Elem.{Elem}
use Rattle.nesc_tree.specs.declared.components.GenericArg.{GenericArg}
use Rattle.nesc_tree.specs.declared.components.GenericArg.TheVariants as garg
use Rattle.nesc_tree.specs.declared.components.GenericParam.{GenericParam}
use Rattle.nesc_tree.specs.declared.components.Head.{Head}
use Rattle.nesc_tree.specs.declared.components.Interface.{Interface}
use Rattle.nesc_tree.specs.declared.components.Part.{Part}
use Rattle.nesc_tree.specs.declared.components.Part.TheVariants as part
use Rattle.nesc_tree.specs.declared.components.Sig.{Sig}
use Rattle.nesc_tree.specs.declared.components.Unit as unit
use Rattle.nesc_tree.specs.declared.components.WireEnd.{WireEnd}
use Rattle.nesc_print_words.specs.Lexemes.{Words, word, sign, semicolon, in_parentheses, in_brackets, in_braces, joined, listed, flagged}
use Rattle.nesc_print_words.specs.Expressions.{words_at, type_words, before_name}
use Rattle.nesc_print_words.specs.Declarations.{attrs_words, params_words, item_words}
use Rattle.nesc_print_words.specs.Statements.{decl_words, decls_words}

abbrev pub in_angles : Words → Words
in_angles ws = sign (codes "<") ∷ (ws ++ sign (codes ">") ∷ [])

-- ---- interfaces

abbrev pub type_parameter_words : List ℕ → Words
type_parameter_words n = word n ∷ []

abbrev pub type_parameters_words : List (List ℕ) → Words
type_parameters_words [] = []
type_parameters_words (n ∷ ns) = in_angles (listed (map type_parameter_words (n ∷ ns)))

abbrev pub sig_word : (is_event : Bool) → List ℕ
sig_word true = codes "event"
sig_word false = codes "command"

-- up to the name
abbrev pub sig_start_words : Sig → Words
sig_start_words s = flagged s.is_async (codes "async") ++ word (sig_word s.is_event) ∷ (before_name (spec_of s.result) ++ word s.name ∷ [])

abbrev pub sig_words : Sig → Words
sig_words s = sig_start_words s ++ (params_words s.params ++ semicolon ∷ [])

abbrev pub interface_words : Interface → Words
interface_words i = word (codes "interface") ∷ word i.name ∷ (type_parameters_words i.params ++ (attrs_words i.attrs ++ in_braces (joined (map sig_words i.items))))

-- ---- heads of components

abbrev pub some_type_words : Option TypeSpec → List ℕ → Words
some_type_words None name = word (codes "typedef") ∷ word name ∷ []
some_type_words (Some t) name = type_words (spec_of t) ++ word name ∷ []

abbrev pub generic_param_words : GenericParam → Words
generic_param_words x = some_type_words x.ty x.name

abbrev pub generic_words : Option (List GenericParam) → Words
generic_words None = []
generic_words (Some xs) = in_parentheses (listed (map generic_param_words xs))

abbrev pub type_argument_words : TypeSpec → Words
type_argument_words t = type_words (spec_of t)

abbrev pub type_arguments_words : List TypeSpec → Words
type_arguments_words [] = []
type_arguments_words (t ∷ ts) = in_angles (listed (map type_argument_words (t ∷ ts)))

-- a name of its own, where it has another one
abbrev pub alias_words : List ℕ → List ℕ → Words
alias_words name alias = if bytes_eq alias name then [] else word (codes "as") ∷ word alias ∷ []

-- the tree has no name of the parameter, and none is needed: it declares nothing
abbrev pub element_bracket_words : Option TypeSpec → Words
element_bracket_words None = []
element_bracket_words (Some t) = in_brackets (type_words (spec_of t) ++ word (codes "id") ∷ [])

abbrev pub specify_word : (provides : Bool) → List ℕ
specify_word true = codes "provides"
specify_word false = codes "uses"

-- what stands behind the name of the element's interface
abbrev pub elem_end_words : Elem → Words
elem_end_words e = type_arguments_words e.args ++ (alias_words e.iface e.name ++ (element_bracket_words e.param ++ semicolon ∷ []))

abbrev pub elem_words : Elem → Words
elem_words e = word (specify_word e.provides) ∷ word (codes "interface") ∷ word e.iface ∷ elem_end_words e

-- from the parameters of a generic component on
abbrev pub head_end_words : Head → Words
head_end_words h = generic_words h.generic ++ (attrs_words h.attrs ++ in_braces (joined (map elem_words h.elems)))

abbrev pub component_head_words : List ℕ → Head → Words
component_head_words keyword h = flagged (is_some h.generic) (codes "generic") ++ word keyword ∷ word h.name ∷ head_end_words h

-- ---- the lines of a configuration

abbrev pub generic_arg_words : GenericArg → Words
generic_arg_words (garg.Ty t) = type_words (spec_of t)
generic_arg_words (garg.Value e) = words_at level.conditional (expr_of e)

abbrev pub component_name_words : List ℕ → Option (List GenericArg) → Words
component_name_words name None = word name ∷ []
component_name_words name (Some xs) = word (codes "new") ∷ word name ∷ in_parentheses (listed (map generic_arg_words xs))

abbrev pub end_bracket_words : Option tree.Expr → Words
end_bracket_words None = []
end_bracket_words (Some e) = in_brackets (words_at level.conditional (expr_of e))

abbrev pub end_words : WireEnd → Words
end_words x = word x.first ∷ (item_words x.second ++ end_bracket_words x.param)

abbrev pub wire_words : List ℕ → WireEnd → WireEnd → Words
wire_words joint x y = end_words x ++ sign joint ∷ (end_words y ++ semicolon ∷ [])

abbrev pub line_words : ConfLine → Words
line_words (line.Component name args alias pos) = word (codes "components") ∷ (component_name_words name args ++ (alias_words name alias ++ semicolon ∷ []))
line_words (line.Link from to pos) = wire_words (codes "->") from to
line_words (line.Equate a b pos) = wire_words (codes "=") a b
line_words (line.Decl d) = decl_words d

-- ---- files

abbrev pub part_words : Part → Words
part_words (part.Interface i) = interface_words i
part_words (part.Module m) = component_head_words (codes "module") m.head ++ word (codes "implementation") ∷ in_braces (decls_words m.decls)
part_words (part.Config c) = component_head_words (codes "configuration") c.head ++ word (codes "implementation") ∷ in_braces (joined (map line_words c.lines))
part_words part.Header = []

abbrev pub unit_words : unit.Unit → Words
unit_words u = decls_words u.decls ++ part_words u.part
