-- One item more is widened.
use Rattle.std.proofs.Common.{◌≡◌, ◌≢◌, ℕ, ◌+◌, ◌<◌, ◌≤◌, Bool, true, false, List, length, sum, set, get_or, arith, refl, sym, ap, ◌∙◌, length-set, get_or-set_other, get_or-set_same, below_more}
use Rattle.std.proofs.lemmas.List.{get_or_default}
use Rattle.msp_isa.specs.declared.code.Item.{Item}
use Rattle.msp_isa.specs.Stands.{item_at}
use Rattle.msp_layout.specs.Rounds.{widened}
use Rattle.msp_layout.proofs.Growing.{sum_set, widened_grows}
use Rattle.msp_layout.proofs.sizes.widen.Invariants.{AreSoFar}
use Rattle.msp_layout.proofs.sizes.widen.Goals as goal
use Rattle.msp_layout.proofs.sizes.widen.Goals.{then-size-sizes, else-size-sizes}

no_less : (old sizes : List ℕ) (grown : Bool) → (grown ≡ false → sizes ≡ old) → (grown ≡ true → sum old < sum sizes) → sum old ≤ sum sizes
no_less old sizes false same more = rw (same refl) (omega arith)
no_less old sizes true same more = omega (arith, more refl)

module _ (items : List Item) (targets places old : List ℕ) (k : ℕ) (sizes : List ℕ) (grown : Bool) where
  stayed : (size : ℕ) → AreSoFar items targets places old k sizes grown → size ≡ widened (item_at items k) (get_or sizes k 0) (get_or places k 0) (get_or places (get_or targets k 0) 0) → size ≡ get_or sizes k 0 →
      AreSoFar items targets places old (k + 1) sizes grown
  stayed size so e same = record {
    len = so.len;
    before = below_more _ _ so.before (sym same ∙ e ∙ ap (λ (s : ℕ). widened (item_at items k) s (get_or places k 0) (get_or places (get_or targets k 0) 0)) (so.after k (omega arith)));
    after = λ j h. so.after j (omega arith);
    same = so.same;
    more = so.more;
  }

  grew : (size : ℕ) → AreSoFar items targets places old k sizes grown → k < length sizes → size ≡ widened (item_at items k) (get_or sizes k 0) (get_or places k 0) (get_or places (get_or targets k 0) 0) → size ≢ get_or sizes k 0 →
      AreSoFar items targets places old (k + 1) (set sizes k size) true
  grew size so lt e differs =
      let up : get_or sizes k 0 < size = rw e (widened_grows (item_at items k) (get_or sizes k 0) _ _ (λ h. differs (e ∙ h))) in
      let s : sum (set sizes k size) + get_or sizes k 0 ≡ sum sizes + size = sum_set sizes k size lt in
      let le : sum old ≤ sum sizes = no_less old sizes grown so.same so.more in
      record {
        len = rw length-set so.len;
        before = below_more _ _
            (λ j h. let ne : j ≢ k = omega arith in rw get_or-set_other (so.before j h))
            (rw get_or-set_same (e ∙ ap (λ (s : ℕ). widened (item_at items k) s (get_or places k 0) (get_or places (get_or targets k 0) 0)) (so.after k (omega arith))));
        after = λ j h. let ne : j ≢ k = omega arith in rw get_or-set_other (so.after j (omega arith));
        same = λ h. cc;
        more = λ h. omega arith;
      }

pub loop-k-preserved : goal.loop-k-preserved
loop-k-preserved c =
    let e : c.widened-size.result ≡ widened (item_at c.args.items.now c.loop-k.k) (get_or c.loop-k.sizes c.loop-k.k 0) (get_or c.args.places.now c.loop-k.k 0) (get_or c.args.places.now (get_or c.args.targets.now c.loop-k.k 0) 0) =
    c.widened-size.ensures ∙ ap (λ (it : Item). widened it (get_or c.loop-k.sizes c.loop-k.k 0) (get_or c.args.places.now c.loop-k.k 0) (get_or c.args.places.now (get_or c.args.targets.now c.loop-k.k 0) 0)) (get_or_default c.args.items.now c.loop-k.k _ _ c.loop-k-test.true) in
    elim c.if-size-sizes.branch [
      | then-size-sizes w ↦ rw (w.sizes-is, w.grown-is) (grew c.args.items.now c.args.targets.now c.args.places.now c.args.sizes.now c.loop-k.k c.loop-k.sizes c.loop-k.grown c.widened-size.result c.loop-k.invariant (omega arith) e w.if-size-sizes.true)
      | else-size-sizes w ↦ rw (w.sizes-is, w.grown-is) (stayed c.args.items.now c.args.targets.now c.args.places.now c.args.sizes.now c.loop-k.k c.loop-k.sizes c.loop-k.grown c.widened-size.result c.loop-k.invariant e w.if-size-sizes.false)
    ]
