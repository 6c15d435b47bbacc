use Rattle.std.proofs.lemmas.Result.{on_ok_weaker}
use Rattle.nesc_core.specs.View.{program_of}
use Rattle.run_checker.proofs.Knowing.{answered, pushed}
use Rattle.run_checker.proofs.context.push.Goals as goal

pub returns-in-Some-clause-known : goal.returns-in-Some-clause-known
returns-in-Some-clause-known c =
    let p = program_of c.args.p.now in
    on_ok_weaker c.push_answer.result
    (λ more. answered p c.args.turns c.in-Some.x c.push_action.new.c c.push_answer.new.c more
    (pushed p c.args.turns c.args.a c.args.c.now c.push_action.new.c c.in_ok-push_action.ensures c.requires.known c.requires.next)) c.push_answer.ensures

pub returns-in-None-clause-known : goal.returns-in-None-clause-known
returns-in-None-clause-known c =
    pushed (program_of c.args.p.now) c.args.turns c.args.a c.args.c.now c.push_action.new.c c.in_ok-push_action.ensures c.requires.known c.requires.next
