use Rattle.std.proofs.Common.{sym, subst}
use Rattle.nesc_core.specs.View.{program_of}
use Rattle.mid_code.specs.Form.{IsMidCode}
use Rattle.lower_form.proofs.Form.{keeps_form}
use Rattle.stmt_emitter.proofs.lowering.lower.Goals as goal

pub returns-clause-form : goal.returns-clause-form
returns-clause-form c = subst IsMidCode (sym c.in_ok-code.ensures) (keeps_form (program_of c.args.p.now) c.requires.program c.requires.short)
