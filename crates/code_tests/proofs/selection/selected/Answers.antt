use Rattle.std.proofs.Common.{subst, sym}
use Rattle.select_emitter.specs.Code.{CanBeSelected}
use Rattle.select_emitter.proofs.RowProgram.{can_be_selected}
use Rattle.code_tests.proofs.selection.selected.Goals as goal

pub select-requires : goal.select-requires
select-requires c = subst CanBeSelected (sym c.in_ok-c.ensures) can_be_selected
