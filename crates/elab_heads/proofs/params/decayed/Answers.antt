use Rattle.elab_heads.specs.View.{passed_of}
use Rattle.elab_heads.proofs.Refusals.{refused, pointer_refused}
use Rattle.elab_heads.proofs.params.decayed.Goals as goal

pub returns-in_err-ty : goal.returns-in_err-ty
returns-in_err-ty c =
    refused passed_of c.from_residual.result c.in_err-ty.field-0.0 _ c.from_residual.ensures (pointer_refused c.in_err-ty.field-0.0 _ c.in_err-ty.ensures)
