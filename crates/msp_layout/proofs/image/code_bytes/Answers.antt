-- The bytes of one function more.
use Rattle.std.proofs.Common.{◌≡◌, ℕ, ◌+◌, ◌<◌, length, sum, sum_by, take, min, get_or, List, arith}
use Rattle.msp_layout.specs.declared.form.Formed.{Formed}
use Rattle.msp_layout.specs.Laid.{told}
use Rattle.msp_layout.specs.Words.{all_sizes}
use Rattle.msp_layout.proofs.Functions.{entry_read}
use Rattle.msp_layout.proofs.image.code_bytes.Goals as goal

next : (forms : List Formed) (f : ℕ) (x : Formed) (old size new : ℕ) → f < length forms → x ≡ get_or forms f x → old ≡ told (sum_by sum (take f (all_sizes forms))) → size ≡ sum x.sizes.items → new ≡ min (old + size) 0xFFFF_FFFF → new ≡ told (sum_by sum (take (f + 1) (all_sizes forms)))
next forms f x old size new lt e eo es en = omega (arith, entry_read forms f x lt e)

pub loop-form-preserved : goal.loop-form-preserved
loop-form-preserved c =
    next c.args.forms.now c.loop-form.form-index c.form-item.result c.loop-form.bytes c.bytes.result c.saturating_add-bytes.result c.loop-form-test.true c.form-item.is c.loop-form.invariant c.bytes.ensures c.saturating_add-bytes.ensures
