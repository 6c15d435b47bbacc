use Rattle.std.proofs.lemmas.Result.{IfOk-weaker}
use Rattle.core_act.proofs.Telling.{gets_at}
use Rattle.core_act.proofs.access.get.Goals as goal

pub returns-in-At : goal.returns-in-At
returns-in-At c =
    IfOk-weaker c.ask.result _ _ (λ n h. gets_at c.args.w c.in-At.address c.args.is_word c.args.log.now c.ask.new.log c.args.locals.now n c.in-At.is h) c.ask.ensures
