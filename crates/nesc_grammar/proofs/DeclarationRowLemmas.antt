-- The worked rows of declarations, statements and components, by computing.
use Rattle.std.proofs.Common.{◌≡◌, false, if◌then◌else◌, List, [], ◌∷◌, Some, None, refl, sym, ap, ◌∙◌}
use Rattle.std.specs.Prelude.{codes}
use Rattle.nesc_tree.specs.Plain as plain
use Rattle.nesc_tree.specs.View as v
use Rattle.nesc_tree.specs.View.{base_of}
use Rattle.nesc_tree.specs.declared.tree.Param.{Param}
use Rattle.nesc_tree.specs.declared.tree.Base.{fold-roll-Base}
use Rattle.nesc_tree.specs.declared.tree.Base.TheOpen as E
use Rattle.nesc_tree.specs.declared.tree.Base.TheVariants as b
use Rattle.nesc_tree.specs.declared.declarations.Decl.TheVariants as d
use Rattle.nesc_tree.specs.Sorts.{sort, sign, keyword}
use Rattle.nesc_tree.specs.Reading.{phrase, read}
use Rattle.nesc_grammar.specs.Grammar.{infix_of, prefix_of, suffix_of, assignment_of, is_unsigned, is_const, length_of, is_signal, unique_expr}
use Rattle.nesc_grammar.specs.Declarations.{is_event, is_nothing, without_void}
use Rattle.nesc_grammar.specs.Components.{provides}
use Rattle.nesc_grammar.specs.DeclarationRows.{Reads, decl, spec, plain_head, t_hidden, DeclarationTrees, DeclarationRows}

base_void : base_of b.Void ≡ plain.void
base_void = ap base_of (sym (b.rolls-Void)) ∙ fold-roll-Base plain.Base plain.Expr v.Declarator v.Item v.Group plain.TypeSpec v.base_layer v.expr_layer v.declarator_layer v.item_layer v.group_layer v.spec_layer E.Void

-- `void` alone is no parameter
void_alone : without_void (record { ty = spec b.Void 0 []; name = None } ∷ []) ≡ []
void_alone = ap (λ (x : plain.Base). if is_nothing 0 [] false None x then [] else record { ty = spec b.Void 0 []; name = None } ∷ []) base_void

prototype_read : Reads decl (codes "inline void * t ( void ) ;") (d.Func (plain_head (codes "t") (spec b.Void 1 []) (without_void (record { ty = spec b.Void 0 []; name = None } ∷ []))) None) t_hidden
unfolding phrase read sort sign keyword infix_of prefix_of suffix_of assignment_of is_unsigned is_const length_of is_signal unique_expr is_event provides
prototype_read = refl

pub trees : DeclarationTrees
unfolding phrase read sort sign keyword infix_of prefix_of suffix_of assignment_of is_unsigned is_const length_of is_signal unique_expr is_event provides
trees = record {
  nearest_if = refl;
  outer_if = refl;
  loops = refl;
  hidden_in_block = refl;
  hidden_in_for = refl;
  hidden_from_declarator = refl;
  typedef_in_block = refl;
  product_of_hidden = refl;
  cases = refl;
  continue_in_switch = refl;
  atomic_return = refl;
  variables = refl;
  static_variable = refl;
  type_only = refl;
  typedef = refl;
  function = refl;
  prototype = prototype_read ∙ ap (λ (ps : List Param). Some (d.Func (plain_head (codes "t") (spec b.Void 1 []) ps) None, t_hidden, 0)) void_alone;
  void_pointer = refl;
  item = refl;
  task = refl;
  bracket = refl;
  dimension = refl;
  up_to_brace = refl;
  interface_unit = refl;
  module_unit = refl;
  configuration_unit = refl;
}

pub rows : DeclarationRows
unfolding phrase read sort sign keyword infix_of prefix_of suffix_of assignment_of is_unsigned is_const length_of is_signal unique_expr is_event provides
rows = record { statements = refl; declarations = refl; components = refl; levels = refl }
