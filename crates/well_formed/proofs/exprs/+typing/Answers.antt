use Rattle.std.proofs.Common.{refl, subst}
use Rattle.nesc_core.specs.Plain as plain
use Rattle.nesc_core.specs.Typing.{IsNumber}
use Rattle.nesc_core.specs.View.{expr_of}
use Rattle.well_formed.specs.Kinds.{type_of_kind}
use Rattle.well_formed.specs.Scopes.{Has, HasFound, locals_in, program_in}
use Rattle.well_formed.proofs.Calls.{call_has}
use Rattle.well_formed.proofs.Logical.{both_has, either_has}
use Rattle.well_formed.proofs.Moved.{offset_has}
use Rattle.well_formed.proofs.exprs.+typing.Goals as goal

pub found-returns-in_ok-k-in-Call : goal.found-returns-in_ok-k-in-Call
found-returns-in_ok-k-in-Call t c =
    call_has (program_in c.args.scope.now) (locals_in c.args.scope.now) c.args.e.now c.in-Call.f c.in-Call.args c.in-Call.field-2 (type_of_kind c.in_ok-k-in-Call.k)
    c.in-Call.is c.in_ok-k-in-Call.ensures

pub found-returns-then-are_tested : goal.found-returns-then-are_tested
found-returns-then-are_tested t c = both_has c.args.scope.now c.args.e.now c.in-And.a c.in-And.b c.in-And.is (c.if-are_tested.ensures refl)

pub found-returns-then-are_tested-2 : goal.found-returns-then-are_tested-2
found-returns-then-are_tested-2 t c = either_has c.args.scope.now c.args.e.now c.in-Or.a c.in-Or.b c.in-Or.is (c.if-are_tested-2.ensures refl)

pub found-returns-then-is_number : goal.found-returns-then-is_number
found-returns-then-is_number t c =
    offset_has c.args.scope.now c.args.e.now c.in-Offset.a c.in-Offset.b c.in-Offset.bytes c.in_ok-f-in-Offset.f c.in-Offset.is
    (λ x number. subst (λ y. HasFound c.args.scope.now (plain.offset (expr_of y) x c.in-Offset.bytes) c.in_ok-f-in-Offset.f) c.deref-in-Offset.ensures (c.in_ok-f-in-Offset.ensures x number))
    (subst (λ y. IsNumber (Has c.args.scope.now (expr_of y))) c.deref-in-Offset-3.ensures (c.if-is_number.ensures refl))
