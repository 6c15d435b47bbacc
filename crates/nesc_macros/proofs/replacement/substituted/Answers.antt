use Rattle.std.proofs.Common.{◌≡◌, ◌∙◌, ◌+◌, ◌++◌, List, [], ◌∷◌, drop, map, sym, ap, arith, append-nil}
use Rattle.nm_base.specs.declared.token.Token.{Token}
use Rattle.std.proofs.lemmas.List.{drop_all, drop_more}
use Rattle.nesc_macros.specs.Expansion.{substituted}
use Rattle.nesc_macros.specs.Numbers.{all_shown, names_of}
use Rattle.nesc_macros.proofs.Linked.{extends_on}
use Rattle.nesc_macros.proofs.replacement.substituted.Goals as goal

pub loop-part-preserved : goal.loop-part-preserved
loop-part-preserved c =
    let parts = c.args.replacement.now in
    let cut : drop c.loop-part.part-index parts ≡ c.part-item.result ∷ drop (c.loop-part.part-index + 1) parts = drop_more parts c.loop-part.part-index c.part-item.result (omega (arith, c.loop-part-test.true)) ∙ ap (λ (t : Token). t ∷ drop (c.loop-part.part-index + 1) parts) (sym c.part-item.is) in
    record {
      grows = extends_on _ _ _ c.loop-part.invariant.grows c.push_part.ensures.grows;
      list = λ scope extends.
          c.in_ok-push_part.ensures.list scope (drop (c.loop-part.part-index + 1) parts) extends
          ∙ ap (λ (ts : List Token). all_shown scope c.loop-part.list.items ++ substituted c.args.pos (names_of scope c.args.hide_set.now) c.args.parameters.now (map (all_shown scope) c.args.arguments.now) ts) (sym cut)
          ∙ c.loop-part.invariant.list scope (extends_on _ _ _ c.push_part.ensures.grows extends);
    }

pub returns-clause-list : goal.returns-clause-list
returns-clause-list c scope extends =
    let list = all_shown scope c.loop-part.list.items in
    let none : drop c.loop-part.part-index c.args.replacement.now ≡ [] = drop_all c.loop-part.part-index c.args.replacement.now (omega (arith, c.loop-part-test.false)) in
    sym (append-nil list)
    ∙ ap (λ (ts : List Token). list ++ substituted c.args.pos (names_of scope c.args.hide_set.now) c.args.parameters.now (map (all_shown scope) c.args.arguments.now) ts) (sym none)
    ∙ c.loop-part.invariant.list scope extends
