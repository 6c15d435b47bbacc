use Rattle.std.proofs.Common.{◌≡◌, OnOk, subst}
use Rattle.nesc_core.specs.View.{program_of}
use Rattle.run_meaning.specs.Runs.{answers_to, in_acting, with_made}
use Rattle.run_checker.specs.States.{state_of}
use Rattle.run_checker.proofs.moving.do_action.Goals as goal

pub returns-clause-state : goal.returns-clause-state
returns-clause-state c =
    let made = answers_to (state_of c.args.r.now) c.args.a in
    subst (λ s. OnOk c.push_acting.result (state_of c.push_acting.new.r ≡ in_acting (with_made c.args.a made) s)) (c.in_ok-effect.ensures.state (program_of c.args.p.now))
    (subst (λ xs. OnOk c.push_acting.result (state_of c.push_acting.new.r ≡ in_acting (with_made c.args.a xs) (state_of c.effect.new.r))) c.answer-answer.ensures c.push_acting.ensures.state)
