use Rattle.std.proofs.Common.{◌≡◌, drop, map}
use Rattle.elab_meaning.specs.View.{state_of}
use Rattle.elab_targets.specs.View.{instance_of}
use Rattle.wire_elements.specs.View.{seen_of}
use Rattle.wire_scopes.specs.View.{base_view}
use Rattle.wire_told.specs.View.{application_of}
use Rattle.unwired_items.specs.Unwired.{all_unwired, refused_at}
use Rattle.unwired_items.proofs.instances.refuse_first_unwired.Given as goal

abbrev pub invariant-loop-instance : goal.invariant-loop-instance
invariant-loop-instance l = record {
  counted : l.number ≡ l.instance-index;
  same :
      refused_at (all_unwired (application_of l.ground.sources.now) (base_view l.ground.base) (map seen_of l.ground.seen.now) 0 (map instance_of l.instances) (state_of l.fn.work))
      ≡ refused_at (all_unwired (application_of l.ground.sources.now) (base_view l.ground.base) (map seen_of l.ground.seen.now) l.number (map instance_of (drop l.instance-index l.instances)) (state_of l.work));
}
