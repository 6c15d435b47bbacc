use Rattle.std.proofs.Common.{◌≡◌, ◌+◌, ◌*◌, ◌≤◌, map, drop}
use Rattle.nesc_core.specs.View.{expr_of as core_expr_of}
use Rattle.elab_meaning.specs.Elab.{after}
use Rattle.elab_meaning.specs.View.{env_of, state_of}
use Rattle.body_meaning.specs.Initial as spec
use Rattle.body_meaning.specs.View.{init_of, inits}
use Rattle.elab_pieces.specs.Ways.{aim_of}
use Rattle.elab_locals.proofs.Sizes.{size, sizes}
use Rattle.elab_locals.proofs.Turns.{behind}
use Rattle.elab_locals.proofs.initials.+initials.Given as goal

abbrev pub decreases-initial_of : goal.decreases-initial_of
decreases-initial_of l = 3 * size (init_of l.i.now)

abbrev pub decreases-initials : goal.decreases-initials
decreases-initials l = 3 * sizes (inits (map init_of l.list.now)) + 2

abbrev pub decreases-one_initial : goal.decreases-one_initial
decreases-one_initial l = 3 * size (init_of l.i.now) + 1

abbrev pub invariant-initials-loop-i : goal.invariant-initials-loop-i
invariant-initials-loop-i l = record {
  rest : spec.initials (env_of l.fn.told.env) l.fn.told.values l.fn.at (aim_of l.fn.p) 0 (inits (map init_of l.fn.list)) (state_of l.fn.work)
      ≡ after (spec.initials (env_of l.told.env) l.told.values l.at (aim_of l.p) l.k (inits (map init_of (drop l.i-index l.i-items))) (state_of l.work)) (behind (map core_expr_of l.steps.items));
  smaller : sizes (inits (map init_of (drop l.i-index l.i-items))) ≤ sizes (inits (map init_of l.list));
}
