use Rattle.std.proofs.Common.{rules, ◌≡◌, ◌∷◌, drop}
use Rattle.std.proofs.lemmas.Result.{err_from_is_err_and}
use Rattle.nesc_preproc.specs.Conditionals.{at_group}
use Rattle.nesc_preproc.specs.Obeyed.{asked, with_conditionals}
use Rattle.nesc_preproc.specs.Answers.{situation_of}
use Rattle.nesc_preproc.proofs.Asking.{obeys_fault, elif_is}
use Rattle.nesc_preproc.proofs.groups.go_to_elif.Goals as goal

pub returns-in_err-taken-clause-obeyed : goal.returns-in_err-taken-clause-obeyed
returns-in_err-taken-clause-obeyed c =
    let p = err_from_is_err_and c.from_residual-in_err-taken.result c.from_residual-in_err-taken.ensures.1 in
    let conditionals = c.args.context.now.conditionals.items in
    let whole : conditionals ≡ c.in-Some.innermost ∷ drop 1 conditionals = search rules in
    rw (p.1, p.2) (obeys_fault (λ v now. with_conditionals now (at_group c.in-Some.innermost v ∷ drop 1 conditionals)) (situation_of c.args.context.now) c.holds.new.self (λ steps. asked steps c.args.context.now.macros c.args.context.now.known.tokens c.args.pos c.args.line.now) _ c.in_err-taken.field-0.0
    (elif_is c.args.pos c.args.line.now (situation_of c.args.context.now) conditionals c.in-Some.innermost whole c.if-innermost.false c.if-innermost-2.false) (rw c.in_err-taken.was at c.holds.ensures.asked) c.holds.ensures.kept)
