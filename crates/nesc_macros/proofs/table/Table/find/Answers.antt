use Rattle.std.proofs.Common.{◌≡◌, ◌∙◌, sym, ap, List, Some, None}
use Rattle.std.specs.Prelude.{slice_get}
use Rattle.std.specs.Option.{option_copied}
use Rattle.nesc_macros.specs.declared.definition.Macro.{Macro}
use Rattle.nesc_macros.specs.Tables.{defined_in}
use Rattle.nesc_macros.proofs.Arguments.{slice_get-item}
use Rattle.nesc_macros.proofs.Tabled.{found_none, found_past, found_other, found_there}
use Rattle.nesc_macros.proofs.table.Table.find.Goals as goal

pub returns-in_err-number : goal.returns-in_err-number
returns-in_err-number c = rw c.from_residual.ensures (found_none (defined_in c.args.self.now) c.args.name.now (sym c.number_of.ensures ∙ c.in_err-number.was))

pub returns-in_err-definition : goal.returns-in_err-definition
returns-in_err-definition c =
    let at : slice_get c.args.self.now.definitions.items c.in_ok-number.number ≡ None = ap (λ (l : List Macro). slice_get l c.in_ok-number.number) (sym c.deref.ensures.value) ∙ sym (slice_get-item c.deref.result.now c.in_ok-number.number c.get.result c.get.ensures.lookup) ∙ ap option_copied c.in_err-definition.was in
    rw c.from_residual-in_err-definition.ensures (found_past (defined_in c.args.self.now) c.args.name.now c.in_ok-number.number (sym c.number_of.ensures ∙ c.in_ok-number.was) at)

pub returns-then-eq : goal.returns-then-eq
returns-then-eq c =
    let at : slice_get c.args.self.now.definitions.items c.in_ok-number.number ≡ Some c.in_ok-definition.definition.now = ap (λ (l : List Macro). slice_get l c.in_ok-number.number) (sym c.deref.ensures.value) ∙ sym (slice_get-item c.deref.result.now c.in_ok-number.number c.get.result c.get.ensures.lookup) ∙ ap option_copied c.in_ok-definition.was in
    found_there (defined_in c.args.self.now) c.args.name.now c.in_ok-number.number c.in_ok-definition.definition.now (sym c.number_of.ensures ∙ c.in_ok-number.was) at (sym c.eq.ensures ∙ c.if-eq.true)

pub returns-else-eq : goal.returns-else-eq
returns-else-eq c =
    let at : slice_get c.args.self.now.definitions.items c.in_ok-number.number ≡ Some c.in_ok-definition.definition.now = ap (λ (l : List Macro). slice_get l c.in_ok-number.number) (sym c.deref.ensures.value) ∙ sym (slice_get-item c.deref.result.now c.in_ok-number.number c.get.result c.get.ensures.lookup) ∙ ap option_copied c.in_ok-definition.was in
    found_other (defined_in c.args.self.now) c.args.name.now c.in_ok-number.number c.in_ok-definition.definition.now (sym c.number_of.ensures ∙ c.in_ok-number.was) at (sym c.eq.ensures ∙ c.if-eq.false)
