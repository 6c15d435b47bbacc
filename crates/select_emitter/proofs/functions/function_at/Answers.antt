-- Each function keeps the rules of form.
use Rattle.std.proofs.Common.{All, subst, sym}
use Rattle.mid_code.specs.declared.code.MidFn.{MidFn}
use Rattle.mid_code.specs.Form.{AreBelow}
use Rattle.select_emitter.specs.Code.{IsSmall}
use Rattle.select_emitter.specs.Scoped.{Fits}
use Rattle.select_emitter.proofs.Fitting.{code_fits, own_params, own_small}
use Rattle.select_emitter.proofs.functions.function_at.Goals as goal

pub returns-clause-params : goal.returns-clause-params
returns-clause-params c = subst (λ (fn : MidFn). AreBelow fn.values fn.params) (sym c.function_of.ensures) (own_params c.args.c.now c.requires.can c.args.f c.requires.function)

pub returns-clause-small : goal.returns-clause-small
returns-clause-small c = subst IsSmall (sym c.function_of.ensures) (own_small c.args.c.now c.requires.can c.args.f c.requires.function)

pub returns-clause-fits : goal.returns-clause-fits
returns-clause-fits c =
    subst (λ (fn : MidFn). All (Fits c.args.c.now fn.values) fn.code) (sym c.function_of.ensures) (code_fits c.args.c.now c.requires.can c.args.f c.requires.function)
