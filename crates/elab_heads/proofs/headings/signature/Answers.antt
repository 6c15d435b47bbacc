use Rattle.std.proofs.Common.{ap, map}
use Rattle.nesc_core.specs.View.{type_of}
use Rattle.elab_exprs.proofs.Faults.{stops}
use Rattle.elab_facts.specs.View.{form_of}
use Rattle.elab_meaning.specs.View.{env_of, state_of}
use Rattle.elab_heads.specs.View.{parameters_of, sig_of}
use Rattle.elab_heads.proofs.Cuts.{signature_fails, signature_given}
use Rattle.elab_heads.proofs.headings.signature.Goals as goal

pub returns-in_err-result : goal.returns-in_err-result
returns-in_err-result c =
    stops form_of c.from_residual.result c.in_err-result.field-0.0 _ _ c.from_residual.ensures
    (signature_fails (env_of c.args.told.now.env) c.args.told.now.values (sig_of c.args.item.now) (state_of c.args.work.now) c.in_err-result.field-0.0 c.in_err-result.ensures)

pub returns : goal.returns
returns c =
    signature_given (env_of c.args.told.now.env) c.args.told.now.values (sig_of c.args.item.now) (state_of c.args.work.now) (state_of c.typed.new.work) (state_of c.no_locals.new.work)
    (type_of c.in_ok-result.result) (parameters_of c.in_ok-result.p) c.kind_of.result (map type_of c.new.result)
    c.kind_of.ensures (ap (map type_of) c.new.ensures) c.in_ok-result.ensures c.no_locals.ensures
