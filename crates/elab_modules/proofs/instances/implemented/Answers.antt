use Rattle.std.proofs.Common.{map}
use Rattle.elab_facts.specs.View.{fact_of}
use Rattle.elab_modules.proofs.instances.implemented.Goals as goal
use Rattle.elab_targets.specs.View.{application_of, instance_of}
use Rattle.program_meaning.specs.Modules.{instance_told}

pub returns : goal.returns
returns c = λ tabled h are there.
    c.declared_inside.ensures (instance_told (application_of c.args.around.now.app.now) h c.args.number (instance_of c.args.instance.now) (map fact_of c.args.facts.now)) h
    (c.in_ok-told.ensures tabled c.in_ok-used.ensures h are.declared there) are.outer
