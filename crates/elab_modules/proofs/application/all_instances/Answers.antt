use Rattle.std.proofs.Common.{◌≡◌, ◌<◌, ◌∙◌, ap, length, map, rules, sym}
use Rattle.elab_facts.specs.View.{declared_of}
use Rattle.elab_making.specs.View.{whole_of}
use Rattle.elab_modules.proofs.application.all_instances.Goals as goal
use Rattle.elab_modules.proofs.Chains.{begin_alone}
use Rattle.elab_modules.proofs.Growing.{lent}
use Rattle.elab_targets.specs.View.{application_of, instance_of}
use Rattle.elab_told.specs.View.{met_of}

pub returns : goal.returns
returns c = λ tabled.
    let some : 0 < length c.args.app.now.instances.items = search rules in
    let same : c.as_slice.result.now ≡ c.take_declared-declared.result.items = search rules in
    let all : c.as_slice-instances.result.now ≡ c.args.app.now.instances.items = search rules in
    begin_alone (application_of c.args.app.now) (whole_of c.args.whole.now) (met_of c.args.met.now) c.args.app.now.instances.items c.as_slice-instances.result.now (whole_of c.args.whole.now) (whole_of c.take_declared-declared.new.whole) _ _ some all
    c.take_declared-declared.ensures.left
    (c.instances_declared.ensures tabled (whole_of c.args.whole.now) (record { declared = sym (ap (map declared_of) same ∙ c.take_declared-declared.ensures.taken); outer = sym c.outer_in-outer.ensures })
    (lent (whole_of c.args.whole.now) (whole_of c.take_declared-declared.new.whole) c.take_declared-declared.ensures.left) (ap (map instance_of) (sym all)))
