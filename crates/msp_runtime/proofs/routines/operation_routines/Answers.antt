use Rattle.std.proofs.Common.{ap, sym, ◌∙◌, ◌++◌, ◌∷◌, [], List, map, arith}
use Rattle.std.specs.List.{range_with_len}
use Rattle.std.proofs.lemmas.List.FromFn.{map-range_with_len_more}
use Rattle.msp_isa.specs.declared.code.CodeFn.{CodeFn}
use Rattle.msp_runtime.specs.Emitted.{code_fn}
use Rattle.msp_runtime.specs.Routines.{code_at}
use Rattle.msp_runtime.proofs.routines.operation_routines.Goals as goal

pub loop-number-preserved : goal.loop-number-preserved
loop-number-preserved c =
    c.in_ok-push.ensures.items
    ∙ ap (λ (fs : List CodeFn). fs ++ c.in_ok-routine.field-0 ∷ []) c.loop-number.invariant
    ∙ ap (λ (f : CodeFn). map (λ h. code_fn (code_at h)) (range_with_len 0 c.loop-number.number) ++ f ∷ []) c.in_ok-routine.ensures
    ∙ sym (map-range_with_len_more (λ h. code_fn (code_at h)) 0 c.loop-number.number c.loop-number.number (omega arith))
