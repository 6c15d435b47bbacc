use Rattle.std.proofs.Common.{◌≡◌, min, sum_by, take}
use Rattle.nesc_core.specs.declared.tree.Body.{Body}
use Rattle.nesc_core.specs.View.{stmt_of}
use Rattle.lower_form.specs.Short.{stmt_extras}
use Rattle.lower_form.proofs.short.program_extras.Given as goal

abbrev pub invariant-loop-body : goal.invariant-loop-body
invariant-loop-body l = l.sum ≡ min (sum_by (λ (b : Body). stmt_extras (stmt_of b.code)) (take l.body-index l.body-items)) 4294967295
