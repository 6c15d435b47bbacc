-- The functions so far are formed.
use Rattle.msp_layout.specs.Words.{AreFormed}
use Rattle.msp_layout.proofs.image.form_all.Given as goal

abbrev pub invariant-loop-function : goal.invariant-loop-function
invariant-loop-function l = AreFormed l.code l.forms.items l.function-index
