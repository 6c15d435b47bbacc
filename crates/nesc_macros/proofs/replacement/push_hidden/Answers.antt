use Rattle.std.proofs.Common.{◌≡◌, refl, ◌∙◌, ◌+◌, ◌++◌, ◌∷◌, [], List, drop, sym, ap, arith, append_assoc, append-nil}
use Rattle.std.proofs.lemmas.List.{drop_all, drop_more}
use Rattle.nesc_macros.specs.declared.definition.NumberedToken.{NumberedToken}
use Rattle.nesc_macros.specs.Invocation.{Name, PreprocessingToken}
use Rattle.nesc_macros.specs.Expansion.{hide, union}
use Rattle.nesc_macros.specs.Numbers.{all_shown, names_of, shown}
use Rattle.nesc_macros.proofs.Linked.{extends_on}
use Rattle.nesc_macros.proofs.Naming.{shown_push, union_of_names, union_with_empty}
use Rattle.nesc_macros.proofs.replacement.push_hidden.Goals as goal

pub loop-part-preserved : goal.loop-part-preserved
loop-part-preserved c =
    let parts = c.args.argument.now in
    let cut : drop c.loop-part.part-index parts ≡ c.part-item.result ∷ drop (c.loop-part.part-index + 1) parts = drop_more parts c.loop-part.part-index c.part-item.result (omega (arith, c.loop-part-test.true)) ∙ ap (λ (t : NumberedToken). t ∷ drop (c.loop-part.part-index + 1) parts) (sym c.part-item.is) in
    let list = c.loop-part.list.items in
    let t = c.in_ok-hidden.field-0 in
    let u = c.in_ok-known.known in
    record {
      grows = extends_on _ _ _ c.loop-part.invariant.grows c.union_with.ensures.grows;
      known = c.in_ok-known.ensures.union;
      list = λ scope extends.
          let names = names_of scope c.args.hide_set.now in
          let rest : List PreprocessingToken = hide names (all_shown scope (drop (c.loop-part.part-index + 1) parts)) in
          let hides : names_of scope u.all ≡ union names (names_of scope c.part-item.result.hide_set) =
          union_of_names scope c.args.hide_set.now c.part-item.result.hide_set u c.in_ok-known.ensures.part (c.in_ok-known.ensures.union scope.links extends) in
          ap (λ (ts : List NumberedToken). all_shown scope ts ++ rest) c.in_ok-push.ensures.items
          ∙ ap (λ (ts : List PreprocessingToken). ts ++ rest) (shown_push scope list t)
          ∙ append_assoc (all_shown scope list) (shown scope t ∷ []) rest
          ∙ ap (λ (x : PreprocessingToken). all_shown scope list ++ x ∷ rest) (c.in_ok-hidden.ensures scope)
          ∙ ap (λ (n : List Name). all_shown scope list ++ record { token = c.part-item.result.token; hide_set = n } ∷ rest) hides
          ∙ ap (λ (ts : List NumberedToken). all_shown scope list ++ hide names (all_shown scope ts)) (sym cut)
          ∙ c.loop-part.invariant.list scope (extends_on _ _ _ c.union_with.ensures.grows extends);
    }

pub loop-part-init : goal.loop-part-init
loop-part-init c = record {
  grows = λ i l at. at;
  known = λ links extends. union_with_empty links c.args.hide_set.now c.empty.result (c.empty.ensures links);
  list = λ scope extends. refl;
}

pub returns-clause-list : goal.returns-clause-list
returns-clause-list c scope extends =
    let list = all_shown scope c.loop-part.list.items in
    let none : drop c.loop-part.part-index c.args.argument.now ≡ [] = drop_all c.loop-part.part-index c.args.argument.now (omega (arith, c.loop-part-test.false)) in
    sym (append-nil list)
    ∙ ap (λ (ts : List NumberedToken). list ++ hide (names_of scope c.args.hide_set.now) (all_shown scope ts)) (sym none)
    ∙ c.loop-part.invariant.list scope extends
