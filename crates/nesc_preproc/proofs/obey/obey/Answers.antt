use Rattle.std.proofs.Common.{rules, ◌≡◌, true}
use Rattle.std.proofs.lemmas.Result.{err_from_is_err_and}
use Rattle.nesc_preproc.specs.Obeyed.{directive_of, is_conditional}
use Rattle.nesc_preproc.specs.Answers.{situation_of}
use Rattle.nesc_preproc.proofs.Obeying.{grouped_refuses}
use Rattle.nesc_preproc.proofs.obey.obey.Goals as goal

pub returns-in_err-obey_conditional-clause-obeyed : goal.returns-in_err-obey_conditional-clause-obeyed
returns-in_err-obey_conditional-clause-obeyed g c world told lexing allows =
    let p = err_from_is_err_and c.from_residual.result c.from_residual.ensures.1 in
    let grouped : is_conditional (directive_of c.in-Some.name.now) ≡ true = search rules in
    rw (p.1, p.2) (grouped_refuses world c.args.depth c.args.pos c.args.line.now c.in-Some.line.now c.in-Some.name.now (situation_of c.args.context.now) c.obey_conditional.new.context c.in_err-obey_conditional.field-0.0 c.in-Some.ensures.cases.0 grouped
    (rw (c.in_err-obey_conditional.was, c.named-directive.ensures) at c.obey_conditional.ensures.obeyed))
