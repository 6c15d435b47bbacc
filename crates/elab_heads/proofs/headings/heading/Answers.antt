use Rattle.std.proofs.Common.{ap, map}
use Rattle.nesc_core.specs.View.{type_of}
use Rattle.elab_exprs.proofs.Faults.{stops}
use Rattle.elab_meaning.specs.View.{env_of, state_of}
use Rattle.body_meaning.specs.View.{head_of}
use Rattle.elab_heads.specs.View.{heading_of, parameters_of}
use Rattle.elab_heads.proofs.Cuts.{heading_fails, heading_given}
use Rattle.elab_heads.proofs.headings.heading.Goals as goal

pub returns-in_err-result : goal.returns-in_err-result
returns-in_err-result c =
    stops heading_of c.from_residual.result c.in_err-result.field-0.0 _ _ c.from_residual.ensures
    (heading_fails (env_of c.args.told.now.env) c.args.told.now.values (head_of c.args.h.now) _ (state_of c.args.work.now) c.in_err-result.field-0.0 c.inside-bracket.ensures c.in_err-result.ensures)

pub returns : goal.returns
returns c =
    heading_given (env_of c.args.told.now.env) c.args.told.now.values (head_of c.args.h.now) _ (state_of c.args.work.now) (state_of c.typed.new.work) (type_of c.in_ok-result.result) (parameters_of c.in_ok-result.p) (map type_of c.new.result)
    c.inside-bracket.ensures (ap (map type_of) c.new.ensures) c.in_ok-result.ensures
