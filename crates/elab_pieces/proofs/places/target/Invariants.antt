use Rattle.std.proofs.Common.{◌≡◌, fold, take}
use Rattle.nesc_core.specs.View.{type_of}
use Rattle.elab_meaning.specs.View.{target_of}
use Rattle.elab_pieces.specs.Ways.{aim, start_at, step_from}
use Rattle.elab_pieces.proofs.places.target.Given as goal

abbrev pub invariant-loop-s : goal.invariant-loop-s
invariant-loop-s l = target_of l.target ≡ aim (fold step_from (start_at l.fn.p.root) (take l.s-index l.fn.p.steps.items)) (type_of l.fn.p.ty)
