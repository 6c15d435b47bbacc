use Rattle.std.proofs.Common.{refl}
use Rattle.elab_targets.proofs.Uses.{called, posted}
use Rattle.elab_targets.proofs.used.Used.add_one.Goals as goal

pub returns-in_ok-add : goal.returns-in_ok-add
returns-in_ok-add c = λ us are. posted us c.args.one.now c.args.self.now _ are c.if-one.true c.in_ok-add.ensures.names refl

pub returns-in_ok-add-2 : goal.returns-in_ok-add-2
returns-in_ok-add-2 c = λ us are. called us c.args.one.now c.args.self.now _ are c.if-one.false c.in_ok-add-2.ensures.names refl
