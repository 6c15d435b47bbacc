use Rattle.std.proofs.Common.{◌≡◌, ◌∙◌}
use Rattle.wire_envs.specs.Envs.{counts_of}
use Rattle.wire_envs.proofs.Sources.{same_counts, told_as, of_instances_as}
use Rattle.wire_envs.proofs.application.envs_of.Goals as goal

pub returns-clause-headers : goal.returns-clause-headers
returns-clause-headers c =
    let u = c.in_ok-uniques in
    c.in_ok-headers.ensures
    ∙ told_as _ _ _ _ _ _ _ (same_counts u.uniques.counts (counts_of c.args.units.now c.args.made.now) u.ensures.counts) (c.as_slice.ensures.value ∙ u.ensures.headers) u.ensures.numbers

pub returns-clause-instances : goal.returns-clause-instances
returns-clause-instances c =
    let u = c.in_ok-uniques in
    c.in_ok-envs.ensures
    ∙ of_instances_as _ _ _ _ _ _ _ _ _ (same_counts u.uniques.counts (counts_of c.args.units.now c.args.made.now) u.ensures.counts) u.ensures.files u.ensures.numbers u.ensures.starts
