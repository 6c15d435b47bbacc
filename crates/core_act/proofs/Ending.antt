-- What is done when nothing is left to do, and what is left when nothing was done.
use Rattle.std.proofs.Common.{◌≡◌, ◌∙◌, ap, sym, subst, refl, ℕ, ℤ, Bool, true, false, cond, List, [], ◌∷◌, append-nil, length}
use Rattle.std.specs.Prelude.{not}
use Rattle.nm_base.specs.Behaviour.{Behaviour, Performed, Returns, performed}
use Rattle.core_meaning.specs.Numbers.{residue}
use Rattle.core_meaning.specs.Act.{calls_of, root}
use Rattle.core_act.specs.declared.machine.Machine.{Machine}
use Rattle.core_act.specs.declared.task.Task.{Task}
use Rattle.core_act.specs.Moves.{Calls, Goes, IsReady, IsSafe, all_of}
use Rattle.core_act.specs.Remaining.{Safe, remaining}
use Rattle.core_act.specs.Scopes.{IsHeld, program_in}
use Rattle.core_act.specs.Told.{all_actions, behind, done_by}
use Rattle.core_act.specs.Walks.{calls_in}

module _ (m : Machine) where
  abbrev so_far : Bool → Performed
  so_far is = record { actions = m.log.did.items; ended = is }

  nothing_behind : (over : Bool) → cond over (so_far false) (behind m.log.did.items (record { actions = []; ended = true })) ≡ so_far (not over)
  nothing_behind true = refl
  nothing_behind false = ap (λ xs. record { actions = xs; ended = true }) (append-nil m.log.did.items)

  pub nothing_left : m.tasks ≡ [] → done_by m.log ≡ all_of m
  nothing_left is =
      sym (ap (λ ts. all_actions m.log (remaining m.scope ts m.values m.places m.flows m.locals.items)) is ∙ nothing_behind m.log.over)

  pub is_over : m.log.over ≡ true → done_by m.log ≡ all_of m
  is_over is =
      ap (λ b. so_far (not b)) is
      ∙ sym (ap (λ b. cond b (so_far false) (behind m.log.did.items (performed (remaining m.scope m.tasks m.values m.places m.flows m.locals.items) m.log.left.now))) is)

  pub ready : (t : Task) (us : List Task) → m.tasks ≡ t ∷ us → IsSafe m → IsReady t (record m { tasks = us })
  ready t us is h = record { held = h.held; safe = subst (λ ts. Safe m.scope ts m.places) is h.safe }

  pub fresh : m.tasks ≡ [] → IsHeld m.scope → IsSafe m
  fresh none held = record { held = held; safe = subst (λ ts. Safe m.scope ts m.places) (sym none) tt }

  pub root_actions : (f : ℕ) (answers : List ℕ) (m' : Machine) → Calls f [] m m' → m.scope.depth ≡ length (program_in m.scope).bodies → m.tasks ≡ [] → m.log.did.items ≡ [] → m.log.left.now ≡ answers → m.log.over ≡ false
      → all_of m' ≡ performed (root (program_in m.scope) f m.scope.turns) answers
  unfolding calls_in
  root_actions f answers m' h deep none empty left on =
      let s = m.scope in
      let end : ℤ → Behaviour = λ x. Returns (residue 32 x) in
      let done = performed (calls_of (program_in s) s.depth s.turns f [] end) m.log.left.now in
      sym h.same
      ∙ ap (λ ts. all_actions m.log (calls_of (program_in s) s.depth s.turns f [] (λ v. remaining s ts (v ∷ m.values) m.places m.flows m.locals.items))) none
      ∙ ap (λ b. cond b (so_far false) (behind m.log.did.items done)) on
      ∙ ap (λ xs. behind xs done) empty
      ∙ ap (λ xs. performed (calls_of (program_in s) s.depth s.turns f [] end) xs) left
      ∙ ap (λ d. performed (calls_of (program_in s) d s.turns f [] end) answers) deep
