use Rattle.std.proofs.Common.{map, ap, ◌∙◌}
use Rattle.elab_meaning.specs.View.{asked_of}
use Rattle.elab_walk.proofs.Loops.{behind-view}
use Rattle.elab_walk.proofs.asking.asked_behind.Goals as goal

pub returns-in_ok-to_vec-in-Some : goal.returns-in_ok-to_vec-in-Some
returns-in_ok-to_vec-in-Some c =
    ap (map asked_of) (c.in_ok-to_vec-in-Some.ensures.items_if_clones_equal (λ x y e. e))
    ∙ behind-view asked_of c.args.first c.args.asked.now c.in-Some.more.now (c.in-Some.ensures.lookup.0.2)
