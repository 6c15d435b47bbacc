-- The bytes so far.
use Rattle.std.proofs.Common.{◌≡◌, sum_by, sum, take}
use Rattle.msp_layout.specs.Laid.{told}
use Rattle.msp_layout.specs.Words.{all_sizes}
use Rattle.msp_layout.proofs.image.code_bytes.Given as goal

abbrev pub invariant-loop-form : goal.invariant-loop-form
invariant-loop-form l = l.bytes ≡ told (sum_by sum (take l.form-index (all_sizes l.forms)))
