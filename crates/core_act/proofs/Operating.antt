-- What operations on values come to, and accesses of places.
use Rattle.std.proofs.Common.{◌≡◌, ◌∙◌, ap, sym, ℕ, ℤ, List, [], ◌∷◌, Option}
use Rattle.std.specs.Prelude.{pos, if◌then◌else◌, unsigned_abs}
use Rattle.nm_base.specs.Behaviour.{Behaviour, Asks}
use Rattle.nm_base.specs.declared.action.Action.{Action}
use Rattle.nm_base.specs.declared.int_type.IntType.{IntType}
use Rattle.nesc_core.specs.declared.tree.BinOp.{BinOp}
use Rattle.nesc_core.specs.Plain as plain
use Rattle.nesc_core.specs.Parts.{is_part}
use Rattle.nesc_core.specs.PlaceTypes.{count_of, element_of}
use Rattle.core_meaning.specs.declared.access.Where.{Where}
use Rattle.core_meaning.specs.declared.access.Where.TheVariants.{At}
use Rattle.core_meaning.specs.Act.{element}
use Rattle.core_meaning.specs.Layout.{size_of}
use Rattle.core_meaning.specs.Numbers.{binary}
use Rattle.core_meaning.specs.Work.{Locals, fault, give, load, or_fault, store}
use Rattle.core_act.specs.declared.changes.Change.{Change}
use Rattle.core_act.specs.declared.log.Log.{Log}
use Rattle.core_act.specs.declared.scope.Scope.{Scope}
use Rattle.core_act.specs.declared.task.Access.{Access}
use Rattle.core_act.specs.declared.task.Access.TheVariants as access
use Rattle.core_act.specs.declared.task.Operation.{Operation}
use Rattle.core_act.specs.declared.task.Operation.TheVariants as operation
use Rattle.core_act.specs.Remaining.{accessed, nowhere, operated, pointed}
use Rattle.core_act.specs.Scopes.{program_in, type_at}
use Rattle.core_act.specs.Stacks.{below, top}
use Rattle.core_act.specs.Told.{Comes, all_actions}
use Rattle.core_act.specs.Walks.{changed}

pub binary_operates : (l m : Log) (vs : List ℤ) {o : Operation} {op : BinOp} {t : IntType} {given : Option ℤ} {z : ℤ} {us : List ℤ} → o ≡ operation.Binary op t
    → given ≡ binary op t (top (pos 0) (below vs)) (top (pos 0) vs) → ((locals : Locals) → Comes (or_fault 3 given) l locals z m locals) → us ≡ z ∷ below (below vs)
    → (after : List ℤ → Locals → Behaviour) (locals : Locals) → all_actions l (operated o after vs locals) ≡ all_actions m (after us locals)
binary_operates l m vs is given h new after locals =
    ap (λ o. all_actions l (operated o after vs locals)) is
    ∙ ap (λ g. all_actions l (or_fault 3 g (λ z. after (z ∷ below (below vs))) locals)) (sym given)
    ∙ (h locals).by _ ∙ ap (λ us. all_actions m (after us locals)) (sym new)

pub asks_operates : (l m : Log) (vs : List ℤ) {o : Operation} {a : Action} {x : ℕ} {us : List ℤ} → o ≡ operation.Ask a → ((b : ℕ → Behaviour) → all_actions l (Asks a b) ≡ all_actions m (b x)) → us ≡ pos x ∷ vs
    → (after : List ℤ → Locals → Behaviour) (locals : Locals) → all_actions l (operated o after vs locals) ≡ all_actions m (after us locals)
asks_operates l m vs is h new after locals =
    ap (λ o. all_actions l (operated o after vs locals)) is ∙ h (λ x. after (pos x ∷ vs) locals) ∙ ap (λ us. all_actions m (after us locals)) (sym new)

module _ (s : Scope) (place : plain.Place) (l m : Log) (ls : Locals) (vs : List ℤ) (ws : List Where) {a : Access} {w : Where} {xs : List ℤ} {us : List Where} where
  pub index_accesses : {x : Where} {i : ℤ} → a ≡ access.Index → w ≡ top nowhere ws → i ≡ top (pos 0) vs
      → Comes (element (count_of (type_at s place)) (size_of (program_in s) (element_of (type_at s place))) w i) l ls x m ls → xs ≡ below vs → us ≡ x ∷ below ws
      → (after : List ℤ → List Where → Locals → Behaviour) → all_actions l (accessed s a place after vs ws ls) ≡ all_actions m (after xs us ls)
  index_accesses is w_is i_is h x u after =
      ap (λ a. all_actions l (accessed s a place after vs ws ls)) is
      ∙ (λ j. all_actions l (element (count_of (type_at s place)) (size_of (program_in s) (element_of (type_at s place))) (sym w_is j) (sym i_is j) (λ w. after (below vs) (w ∷ below ws)) ls))
      ∙ h.by _ ∙ (λ j. all_actions m (after (sym x j) (sym u j) ls))

  pub load_accesses : {v : ℤ} → a ≡ access.Load → w ≡ top nowhere ws → Comes (load (type_at s place) w) l ls v m ls → xs ≡ v ∷ vs → us ≡ below ws
      → (after : List ℤ → List Where → Locals → Behaviour) → all_actions l (accessed s a place after vs ws ls) ≡ all_actions m (after xs us ls)
  load_accesses is w_is h x u after =
      ap (λ a. all_actions l (accessed s a place after vs ws ls)) is
      ∙ ap (λ w. all_actions l (load (type_at s place) w (λ v. after (v ∷ vs) (below ws)) ls)) (sym w_is)
      ∙ h.by _ ∙ (λ j. all_actions m (after (sym x j) (sym u j) ls))

  pub old_accesses : {v : ℤ} → a ≡ access.Old → w ≡ top nowhere ws → Comes (load (type_at s place) w) l ls v m ls → xs ≡ v ∷ vs → us ≡ top nowhere ws ∷ below ws
      → (after : List ℤ → List Where → Locals → Behaviour) → all_actions l (accessed s a place after vs ws ls) ≡ all_actions m (after xs us ls)
  old_accesses is w_is h x u after =
      ap (λ a. all_actions l (accessed s a place after vs ws ls)) is
      ∙ ap (λ w. all_actions l (load (type_at s place) w (λ v. after (v ∷ vs) (top nowhere ws ∷ below ws)) ls)) (sym w_is)
      ∙ h.by _ ∙ (λ j. all_actions m (after (sym x j) (sym u j) ls))

  pub store_accesses : {v : ℤ} {ms : Locals} → a ≡ access.Store → w ≡ top nowhere ws → v ≡ top (pos 0) vs → Comes (store (type_at s place) w v) l ls tt m ms → xs ≡ top (pos 0) vs ∷ below vs → us ≡ below ws
      → (after : List ℤ → List Where → Locals → Behaviour) → all_actions l (accessed s a place after vs ws ls) ≡ all_actions m (after xs us ms)
  store_accesses {ms = ms} is w_is v_is h x u after =
      ap (λ a. all_actions l (accessed s a place after vs ws ls)) is
      ∙ (λ j. all_actions l (store (type_at s place) (sym w_is j) (sym v_is j) (λ u. after (top (pos 0) vs ∷ below vs) (below ws)) ls))
      ∙ h.by _ ∙ (λ j. all_actions m (after (sym x j) (sym u j) ms))

  pub change_accesses : {c : Change} {v y old : ℤ} {ms : Locals} → a ≡ access.Change c → w ≡ top nowhere ws → old ≡ top (pos 0) (below vs) → y ≡ top (pos 0) vs
      → Comes (changed (type_at s place) c.op c.at c.gives_old w old y) l ls v m ms → xs ≡ v ∷ below (below vs) → us ≡ below ws
      → (after : List ℤ → List Where → Locals → Behaviour) → all_actions l (accessed s a place after vs ws ls) ≡ all_actions m (after xs us ms)
  change_accesses {c = c} {ms = ms} is w_is old_is y_is h x u after =
      ap (λ a. all_actions l (accessed s a place after vs ws ls)) is
      ∙ (λ j. all_actions l (changed (type_at s place) c.op c.at c.gives_old (sym w_is j) (sym old_is j) (sym y_is j) (λ v. after (v ∷ below (below vs)) (below ws)) ls))
      ∙ h.by (λ v. after (v ∷ below (below vs)) (below ws)) ∙ (λ j. all_actions m (after (sym x j) (sym u j) ms))

pub points : (s : Scope) (t : plain.Ty) (l m : Log) (vs : List ℤ) (ws : List Where) {xs : List ℤ} {us : List Where} {w : Where} {p : ℤ} → p ≡ top (pos 0) vs
    → ((locals : Locals) → Comes (if is_part (program_in s) t (unsigned_abs p) then give (At (unsigned_abs p)) else fault 2) l locals w m locals) → xs ≡ below vs → us ≡ w ∷ ws
    → (after : List ℤ → List Where → Locals → Behaviour) (locals : Locals) → all_actions l (pointed s t after vs ws locals) ≡ all_actions m (after xs us locals)
points s t l m vs ws is h x u after locals =
    ap (λ p. all_actions l ((if is_part (program_in s) t (unsigned_abs p) then give (At (unsigned_abs p)) else fault 2) (λ w. after (below vs) (w ∷ ws)) locals)) (sym is)
    ∙ (h locals).by _ ∙ (λ j. all_actions m (after (sym x j) (sym u j) locals))
