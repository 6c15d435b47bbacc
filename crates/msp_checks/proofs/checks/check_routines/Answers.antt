use Rattle.std.proofs.Common.{List, [], ◌∷◌, ◌++◌, take, sym, ap, ◌∙◌, subst}
use Rattle.std.proofs.lemmas.List.{map_more}
use Rattle.std.proofs.lemmas.List.Elements.{All-more}
use Rattle.msp_isa.specs.declared.code.CodeFn.{CodeFn}
use Rattle.msp_checks.specs.Checks.{IsOfWords, check_fn, check_fns}
use Rattle.msp_checks.proofs.checks.check_routines.Goals as goal

pub loop-check-preserved : goal.loop-check-preserved
loop-check-preserved c =
    let h = c.in_ok-check_routine.ensures in
    let inv = c.loop-check.invariant in
    let i = c.loop-check.check-index in
    let checks = c.args.checks.now in
    let check = c.check-item.result in
    let more = map_more check_fn checks i check c.loop-check-test.true in
    let this = c.check-item.is in record {
      code =
          c.in_ok-push.ensures.items
          ∙ ap (λ (fs : List CodeFn). fs ++ c.in_ok-check_routine.field-0 ∷ []) inv.code
          ∙ ap (λ (f : CodeFn). check_fns (take i checks) ++ f ∷ []) (h.code ∙ ap check_fn this)
          ∙ sym more;
      words = All-more IsOfWords checks i check c.loop-check-test.true inv.words (subst IsOfWords this h.words);
    }
