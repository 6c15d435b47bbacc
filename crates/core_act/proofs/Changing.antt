-- What an update comes to, from what its steps come to.
use Rattle.std.proofs.Common.{◌≡◌, ◌∙◌, ap, sym, ℕ, ℤ, Bool, Option}
use Rattle.std.specs.Prelude.{if◌then◌else◌}
use Rattle.nm_base.specs.declared.int_type.IntType.{IntType}
use Rattle.nm_base.specs.IntType.{wrapped}
use Rattle.nesc_core.specs.declared.tree.BinOp.{BinOp}
use Rattle.nesc_core.specs.Plain.{Ty}
use Rattle.core_meaning.specs.declared.access.Where.{Where}
use Rattle.core_meaning.specs.Numbers.{binary}
use Rattle.core_meaning.specs.Work.{Locals, number_of, or_fault, store}
use Rattle.core_act.specs.declared.log.Log.{Log}
use Rattle.core_act.specs.Told.{Comes, all_actions}
use Rattle.core_act.specs.Walks.{changed}

pub changed_form : (ty : Ty) (op : BinOp) (t : IntType) (gives_old : Bool) (w : Where) (old y : ℤ) {l m n : Log} {ls ms ns : Locals} {given : Option ℤ} {z new v : ℤ}
    → Comes (or_fault 3 given) l ls z m ms → given ≡ binary op t (wrapped t old) y → new ≡ wrapped (number_of ty) z → Comes (store ty w new) m ms tt n ns
    → v ≡ (if gives_old then old else new) → Comes (changed ty op t gives_old w old y) l ls v n ns
changed_form ty op t gives_old w old y {l = l} {m = m} {n = n} {ls = ls} {ms = ms} {ns = ns} {z = z} {new = new} h is new_is k v_is = record {
  by = λ after.
      ap (λ g. all_actions l (or_fault 3 g (λ z. store ty w (wrapped (number_of ty) z) (λ u. after (if gives_old then old else wrapped (number_of ty) z))) ls)) (sym is)
      ∙ h.by _
      ∙ ap (λ x. all_actions m (store ty w x (λ u. after (if gives_old then old else x)) ms)) (sym new_is)
      ∙ k.by _ ∙ ap (λ x. all_actions n (after x ns)) (sym v_is);
}
