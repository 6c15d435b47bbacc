use Rattle.std.proofs.Common.{cond, Option, Some, sym, ap, ◌∙◌}
use Rattle.indexmap.specs.IndexMap.{get}
use Rattle.wire_instances.specs.declared.plan.Maker.{Maker}
use Rattle.wire_pairs.specs.Application.{is_maker}
use Rattle.wire_pairs.specs.Makers.{same_line}
use Rattle.wire_pairs.proofs.makers.put.Goals as goal

pub returns-in_ok-insert : goal.returns-in_ok-insert
returns-in_ok-insert c = λ instance line.
    c.in_ok-insert.ensures.updates.0 (instance, line)
    ∙ ap (λ (m : Option Maker). cond (is_maker instance line m) (Some c.args.number) (get same_line c.args.makers.now (instance, line))) (sym c.in-Some.is)
