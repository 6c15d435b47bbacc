use Rattle.std.proofs.Common.{◌∙◌, List, sym, ap}
use Rattle.std.specs.List.{list_any}
use Rattle.nesc_macros.specs.declared.definition.Macro.{Macro}
use Rattle.nesc_macros.specs.Tables.{macros_in}
use Rattle.nesc_macros.specs.Code.{is_macro_name}
use Rattle.nesc_macros.proofs.Unnamed.{expands_to_itself}
use Rattle.nesc_macros.proofs.expansion.expand_list.Goals as goal

pub returns-then-not-has_macro_name-clause-expanded : goal.returns-then-not-has_macro_name-clause-expanded
returns-then-not-has_macro_name-clause-expanded c =
    expands_to_itself c.args.macros.now c.args.count.now c.args.tokens.items
    (ap (λ (macros : List Macro). list_any (is_macro_name macros) c.args.tokens.items) (sym c.table-table.ensures)
    ∙ ap (list_any (is_macro_name (macros_in c.table-table.result.now))) (sym c.as_slice.ensures.value)
    ∙ sym c.has_macro_name.ensures
    ∙ c.if-not-has_macro_name.true)
