-- Instances, one behind the other.
use Rattle.std.proofs.Common.{◌≡◌, ℕ, ◌+◌, ◌<◌, ◌≤◌, zero, suc, List, [], ◌∷◌, map, drop, length, get_or, Ok, Some, ap, sym, ◌∙◌, arith}
use Rattle.std.specs.Prelude.{slice_get}
use Rattle.nm_base.specs.declared.fault.Fault.{Fault}
use Rattle.nesc_types.specs.Rule.{Rule}
use Rattle.elab_exprs.proofs.Steps.{drop-past}
use Rattle.elab_forms.proofs.Lists.{next_of}
use Rattle.elab_making.proofs.Faults.{passes}
use Rattle.elab_meaning.specs.Answers.{FaultIs}
use Rattle.elab_modules.proofs.Growing.{instance_grown}
use Rattle.elab_modules.specs.Behind.{Has}
use Rattle.elab_targets.specs.declared.application.Instance as rust
use Rattle.elab_targets.specs.View.{instance_of}
use Rattle.program_meaning.specs.Making.{Whole, after}
use Rattle.program_meaning.specs.Modules.{Met, instance_declared, instances_declared}
use Rattle.program_meaning.specs.Parts.{Application}

module _ {A B : Type 0} (view : A → B) where
  -- what stands at a place of a list
  at_place : (xs : List A) (i : ℕ) (x : A) → i < length xs → x ≡ get_or xs i x → slice_get (map view xs) i ≡ Some (view x)
  at_place [] i x h is = absurd (omega arith)
  at_place (y ∷ ys) zero x h is = ap (λ z. Some (view z)) (sym is)
  at_place (y ∷ ys) (suc i) x h is = at_place ys i x (omega arith) is

module _ (app : Application) (h : Whole) (m : Met) (list : List rust.Instance) where
  -- what is to be done, from the state now, is what the rest does
  pub record Turn (total : Rule (Unit {0} × Whole)) (number index : ℕ) (w : Whole) : Type 0 where
    pub is : total ≡ instances_declared app h m number (map instance_of (drop index list)) w
    pub has : Has h.work w.work

  pub at_number : (n i : ℕ) (x : rust.Instance) → n ≡ i → app.instances ≡ map instance_of list → i < length list → x ≡ get_or list i x → slice_get app.instances n ≡ Some (instance_of x)
  at_number n i x same are below is = ap (λ k. slice_get app.instances k) same ∙ ap (λ l. slice_get l i) are ∙ at_place instance_of list i x below is

  next : (total : Rule (Unit {0} × Whole)) (n i : ℕ) (x : rust.Instance) (w : Whole) → Turn total n i w → i < length list → x ≡ get_or list i x
      → total ≡ after (instance_declared app h m n (instance_of x) w) (λ u. instances_declared app h m (suc n) (map instance_of (drop (i + 1) list)))
  next total n i x w t below is = t.is ∙ ap (λ (ys : List rust.Instance). instances_declared app h m n (map instance_of ys) w) (next_of list i x below is)

  pub instance_passed : (total : Rule (Unit {0} × Whole)) (n n1 i : ℕ) (x : rust.Instance) (w w1 : Whole) → Turn total n i w → i < length list → x ≡ get_or list i x
      → instance_declared app h m n (instance_of x) w ≡ Ok (tt, w1) → n1 ≡ n + 1 → Turn total n1 (i + 1) w1
  instance_passed total n n1 i x w w1 t below is e more =
      let number : suc n ≡ n1 = omega (arith, more) in
      record {
        is = next total n i x w t below is
            ∙ ap (λ (r : Rule (Unit {0} × Whole)). after r (λ u. instances_declared app h m (suc n) (map instance_of (drop (i + 1) list)))) e
            ∙ ap (λ (k : ℕ). instances_declared app h m k (map instance_of (drop (i + 1) list)) w1) number;
        has = (instance_grown app h m n (instance_of x) w t.has).by tt w1 e;
      }

  pub instance_failed : (total : Rule (Unit {0} × Whole)) (n i : ℕ) (x : rust.Instance) (w : Whole) (e : Fault) → Turn total n i w → i < length list → x ≡ get_or list i x
      → FaultIs e (instance_declared app h m n (instance_of x) w) → FaultIs e total
  instance_failed total n i x w e t below is f = let same = next total n i x w t below is in rw same (passes e _ _ f)

  pub instances_end : (total : Rule (Unit {0} × Whole)) (n i : ℕ) (w : Whole) → Turn total n i w → length list ≤ i → total ≡ Ok (tt, w)
  instances_end total n i w t past = t.is ∙ ap (λ (ys : List rust.Instance). instances_declared app h m n (map instance_of ys) w) (drop-past list i past)
