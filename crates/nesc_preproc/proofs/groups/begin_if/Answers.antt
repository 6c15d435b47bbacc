use Rattle.std.proofs.Common.{rules, ap, ◌≡◌, true}
use Rattle.std.proofs.lemmas.Result.{err_from_is_err_and}
use Rattle.nesc_preproc.specs.Conditionals.{is_live, begun}
use Rattle.nesc_preproc.specs.Obeyed.{asked, if_live, opening}
use Rattle.nesc_preproc.specs.Answers.{situation_of}
use Rattle.nesc_preproc.proofs.Asking.{obeys_fault}
use Rattle.nesc_preproc.proofs.groups.begin_if.Goals as goal

pub returns-in_err-taken-clause-obeyed : goal.returns-in_err-taken-clause-obeyed
returns-in_err-taken-clause-obeyed c =
    let p = err_from_is_err_and c.from_residual-in_err-taken.result c.from_residual-in_err-taken.ensures.1 in
    let live : is_live c.args.context.now.conditionals.items ≡ true = search rules in
    rw (p.1, p.2) (obeys_fault (λ v now. opening now (begun c.args.pos v)) (situation_of c.args.context.now) c.holds.new.self (λ steps. asked steps c.args.context.now.macros c.args.context.now.known.tokens c.args.pos c.args.line.now) _ c.in_err-taken.field-0.0 (λ n. ap (if_live n c.args.pos c.args.line.now (situation_of c.args.context.now)) live) (rw c.in_err-taken.was at c.holds.ensures.asked) c.holds.ensures.kept)
