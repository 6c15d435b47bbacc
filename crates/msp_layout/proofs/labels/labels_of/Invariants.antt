-- The labels so far.
use Rattle.msp_layout.specs.Labels.{HasLabels}
use Rattle.msp_layout.proofs.labels.labels_of.Given as goal

abbrev pub invariant-loop-k : goal.invariant-loop-k
invariant-loop-k l = HasLabels l.items l.k l.labels
