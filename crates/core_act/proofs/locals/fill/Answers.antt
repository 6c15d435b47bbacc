use Rattle.std.proofs.Common.{◌∙◌, ap, sym}
use Rattle.std.proofs.lemmas.Result.{on_ok_weaker}
use Rattle.nesc_core.specs.View.{structs_of}
use Rattle.core_meaning.specs.Work.{set_locals}
use Rattle.core_meaning.specs.Act.{holding}
use Rattle.core_act.proofs.Sized.{span_is, span_sized}
use Rattle.core_act.proofs.locals.fill.Goals as goal

pub set_locals-requires-clause-sized : goal.set_locals-requires-clause-sized
set_locals-requires-clause-sized c =
    span_sized (structs_of c.args.scope.now.program.now.structs) c.args.scope.now.types.now c.args.first c.args.count c.span-types.result.now c.span-types.ensures c.requires.held.locals

pub returns : goal.returns
returns c =
    on_ok_weaker c.set_locals.result (λ h after.
    ap (λ ts. set_locals c.args.first (holding (structs_of c.args.scope.now.program.now.structs) ts c.args.vs.now) after c.args.locals.now)
    (sym (span_is c.args.scope.now.types.now c.args.first c.args.count c.span-types.result.now c.span-types.ensures))
    ∙ h after) c.set_locals.ensures
