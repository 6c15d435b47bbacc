-- Reading components by forms of the grammar, step by step.
use Rattle.std.specs.Prelude.{ℕ, Bool, true, List, Ok}
use Rattle.nm_base.specs.declared.token.Token.{Token}
use Rattle.nesc_tree.specs.declared.sorts.Sort.{Sort}
use Rattle.nesc_tree.specs.declared.sorts.Sort.TheVariants as s
use Rattle.nesc_tree.specs.declared.contexts.Site.TheVariants as site
use Rattle.nesc_tree.specs.declared.declarations.Decl.{Decl}
use Rattle.nesc_tree.specs.declared.components.ConfLine.{ConfLine}
use Rattle.nesc_tree.specs.declared.components.Head.{Head}
use Rattle.nesc_tree.specs.declared.components.Part.{Part}
use Rattle.nesc_tree.specs.declared.components.Part.TheVariants as part
use Rattle.nesc_tree.specs.declared.components.Unit as unit
use Rattle.nesc_tree.specs.Sorts.{Names}
use Rattle.nesc_tree.specs.Form.{Form, next}
use Rattle.nesc_tree.specs.Reading.{Answer, ◌>>=◌}
use Rattle.nesc_grammar.specs.Grammar as grammar
use Rattle.nesc_grammar.specs.Declarations as inner
use Rattle.nesc_grammar.specs.Components as spec
use Rattle.nesc_parse_types.specs.Gives.{place}
use Rattle.nesc_specifications.specs.Reads.{at}
use Rattle.nesc_parse_comp.specs.declared.kinds.UnitKind.{UnitKind}
use Rattle.nesc_parse_comp.specs.declared.kinds.UnitKind.TheVariants as kind

abbrev pub module_of : Head → List Decl → Part
module_of h ds = part.Module (record { head = h; decls = ds })

abbrev pub config_of : Head → List ConfLine → Part
config_of h ls = part.Config (record { head = h; lines = ls })

abbrev pub module_body : Form (List Decl)
module_body = grammar.behind (grammar.one s.Implementation) (inner.between s.LBrace s.RBrace (inner.decls_before site.Module))

abbrev pub configuration_body : Form (List ConfLine)
configuration_body = grammar.behind (grammar.one s.Implementation) spec.lines

abbrev pub module_part : ℕ → Bool → Names → List Token → Answer Part
module_part spare is_generic names ts =
    at spare (grammar.one s.Module) (place names ts) >>= λ o.
    at spare (grammar.applied is_generic spec.head) o.1 >>= λ h.
    at spare module_body h.1 >>= λ ds.
    Ok (module_of h.0 ds.0, ds.1)

abbrev pub configuration_part : ℕ → Bool → Names → List Token → Answer Part
configuration_part spare is_generic names ts =
    at spare (grammar.one s.Configuration) (place names ts) >>= λ o.
    at spare (grammar.applied is_generic spec.head) o.1 >>= λ h.
    at spare configuration_body h.1 >>= λ ls.
    Ok (config_of h.0 ls.0, ls.1)

-- behind `generic` the next token tells which component it is
abbrev pub generic_part : ℕ → Names → List Token → Answer Part
generic_part spare names ts =
    at spare (grammar.one s.Generic) (place names ts) >>= λ o.
    at spare (grammar.applied true (spec.component_by (next o.1))) o.1

-- ---- what a file holds

abbrev pub part_of : UnitKind → Sort → Form Part
part_of kind.Interface x = spec.interface_part x
part_of kind.Component x = spec.component_part x

abbrev pub unit_form : UnitKind → Form unit.Unit
unit_form k = Form.seq spec.unit_of (inner.decls_before site.Header) (Form.scope (Form.by (part_of k)))
