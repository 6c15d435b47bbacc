use Rattle.std.proofs.Common.{◌≡◌, ◌∙◌, ◌++◌, ◌∷◌, [], List, sym, ap, append-nil, append_assoc, ℕ}
use Rattle.nesc_macros.specs.Sets.{numbers_in}
use Rattle.nesc_macros.proofs.Linked.{none_in}
use Rattle.nesc_macros.proofs.hide_sets.HideSets.ends_with.Goals as goal

pub returns-then-end-eq0 : goal.returns-then-end-eq0
returns-then-end-eq0 c is links extends =
    (numbers_in links c.args.set.now, sym (append-nil (numbers_in links c.args.set.now)) ∙ ap (λ (l : List ℕ). numbers_in links c.args.set.now ++ l) (sym (none_in links c.args.end.now c.if-end-eq0.true)))

pub loop-rest-preserved : goal.loop-rest-preserved
loop-rest-preserved c links extends =
    let ends = c.loop-rest.invariant links extends in
    let n = c.in-Some.link.number in
    let later : List ℕ = numbers_in links c.in-Some.link.rest in
    let newest : numbers_in links c.loop-rest.rest ≡ n ∷ later = rw c.in-Some.is at c.in_ok-link.ensures.newest links extends in
    (ends.0 ++ n ∷ [], ends.1 ∙ ap (λ (l : List ℕ). ends.0 ++ l) newest ∙ sym (append_assoc ends.0 (n ∷ []) later))
