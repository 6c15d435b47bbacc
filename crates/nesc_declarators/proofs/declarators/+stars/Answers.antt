use Rattle.std.proofs.Common.{◌≡◌, ℕ, suc, ◌-◌, ◌+◌, true, false, Ok, subst, ap, ◌∙◌, arith}
use Rattle.nesc_tree.specs.declared.sorts.Sort.TheVariants as s
use Rattle.nesc_tree.specs.Sorts.{ahead, same_sort}
use Rattle.nesc_tree.specs.Reading.{Answer}
use Rattle.nesc_grammar.specs.Grammar as grammar
use Rattle.nesc_parse_types.specs.Gives.{Fails, form_in, place}
use Rattle.nesc_parse_types.proofs.Many.{tested, through}
use Rattle.nesc_parse_types.proofs.Stars.{no_stars, too_many, more_stars, fails_behind}
use Rattle.nesc_declarators.proofs.declarators.+stars.Goals as goal

pub returns-then-not-same_sort-clause-gives : goal.returns-then-not-same_sort-clause-gives
returns-then-not-same_sort-clause-gives t c = no_stars c.args.names.now c.args.ts.now c.args.spare (tested (same_sort s.Star) c.ahead.result (ahead c.args.names.now c.args.ts.now) false c.same_sort.result c.ahead.ensures c.same_sort.ensures c.if-not-same_sort.true)

pub returns-then-spare-eq0-clause-gives : goal.returns-then-spare-eq0-clause-gives
returns-then-spare-eq0-clause-gives t c = too_many c.args.names.now c.args.ts.now c.args.spare c.if-spare-eq0.true (tested (same_sort s.Star) c.ahead.result (ahead c.args.names.now c.args.ts.now) true c.same_sort.result c.ahead.ensures c.same_sort.ensures c.if-not-same_sort.false)

pub returns-in_err-behind-clause-gives : goal.returns-in_err-behind-clause-gives
returns-in_err-behind-clause-gives t c =
    let h = tested (same_sort s.Star) c.ahead.result (ahead c.args.names.now c.args.ts.now) true c.same_sort.result c.ahead.ensures c.same_sort.ensures c.if-not-same_sort.false in
    let n : suc (c.args.spare - 1) ≡ c.args.spare = omega (arith, c.if-spare-eq0.false) in
    through c.args.names.now c.from_residual-in_err-behind.result c.in_err-behind.field-0.0 (form_in c.args.spare grammar.stars c.args.names.now c.args.ts.now) c.from_residual-in_err-behind.ensures
    (subst (λ (k : ℕ). Fails c.in_err-behind.field-0.0 (form_in k grammar.stars c.args.names.now c.args.ts.now)) n (fails_behind c.args.names.now c.args.ts.now h (c.args.spare - 1) c.in_ok-rest.field-0-0.now c.in_ok-rest.rest.now c.in_ok-rest.ensures c.in_err-behind.field-0.0 c.in_err-behind.ensures.gives))

pub returns-clause-gives : goal.returns-clause-gives
returns-clause-gives t c =
    let h = tested (same_sort s.Star) c.ahead.result (ahead c.args.names.now c.args.ts.now) true c.same_sort.result c.ahead.ensures c.same_sort.ensures c.if-not-same_sort.false in
    let n : suc (c.args.spare - 1) ≡ c.args.spare = omega (arith, c.if-spare-eq0.false) in
    let m : suc c.in_ok-behind.behind ≡ c.in_ok-behind.behind + 1 = omega arith in
    let e = more_stars c.args.names.now c.args.ts.now h (c.args.spare - 1) c.in_ok-rest.field-0-0.now c.in_ok-rest.rest.now c.in_ok-rest.ensures c.in_ok-behind.behind c.in_ok-behind.rest.now c.in_ok-behind.ensures.gives in
    subst (λ (k : ℕ). ◌≡◌ {A = Answer ℕ} (form_in k grammar.stars c.args.names.now c.args.ts.now) (Ok (c.in_ok-behind.behind + 1, place c.args.names.now c.in_ok-behind.rest.now))) n
    (subst (λ (k : ℕ). ◌≡◌ {A = Answer ℕ} (form_in (suc (c.args.spare - 1)) grammar.stars c.args.names.now c.args.ts.now) (Ok (k, place c.args.names.now c.in_ok-behind.rest.now))) m e)
