use Rattle.std.proofs.Common.{◌∙◌, ◌++◌, ◌∷◌, [], List, sym, ap, append_assoc, ℕ}
use Rattle.nesc_macros.specs.Sets.{numbers_in}
use Rattle.nesc_macros.proofs.Linked.{extends_on}
use Rattle.nesc_macros.proofs.hide_sets.HideSets.of.Goals as goal

pub loop-number-preserved : goal.loop-number-preserved
loop-number-preserved c = record {
  grows = extends_on _ _ _ c.loop-number.invariant.grows c.with.ensures.grows;
  set = λ links extends.
      let rest = numbers_in links c.loop-number.set in
      ap (λ (l : List ℕ). c.pop.new.self.items ++ l) (c.in_ok-set.ensures.set links extends)
      ∙ sym (append_assoc c.pop.new.self.items (c.in-Some.number ∷ []) rest)
      ∙ ap (λ (l : List ℕ). l ++ rest) (sym c.in-Some.ensures.items)
      ∙ c.loop-number.invariant.set links (extends_on _ _ _ c.with.ensures.grows extends);
}
