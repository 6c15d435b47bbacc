use Rattle.std.proofs.Common.{rules, ◌≡◌, Some}
use Rattle.nesc_preproc.specs.Kept.{known_of}
use Rattle.nesc_preproc.specs.Expands.{answer_of}
use Rattle.nesc_preproc.proofs.Whole.{expands_as}
use Rattle.nesc_preproc.proofs.expansion.expand.Goals as goal

pub returns-clause-expanded : goal.returns-clause-expanded
returns-clause-expanded g c told h =
    let was : c.args.state.now ≡ Some (known_of c.state.inside.files) = search rules in
    rw was (expands_as told (known_of c.state.inside.files) c.args.name.now (answer_of c.expand_known-known.result.1) c.expand_known-known.result.0 c.is_memory-state-inside.result c.is_memory-state-inside.ensures
    (rw c.replace-known.ensures.value at c.expand_known-known.ensures.expanded told h))
