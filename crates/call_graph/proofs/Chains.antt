-- Chains of calls: longer ones, the first number of calls that leads to an end, and how long they are where there is no cycle.
use Rattle.std.proofs.Common.{◌≡◌, ℕ, zero, suc, ◌+◌, ◌<◌, ◌≤◌, Bool, true, false, if◌then◌else◌, inl, inr, List, [], ◌∷◌, ◌++◌, length, Option, Some, None, refl, sym, subst, arith, ◌∙◌}
use Rattle.std.specs.Prelude.{slice_get}
use Rattle.std.specs.List.{list_any, flat_map, All}
use Rattle.std.proofs.lemmas.Bool.{false≢true}
use Rattle.std.proofs.lemmas.Option.{none-some, same_Some, slice_get_within}
use Rattle.std.proofs.lemmas.List.Elements.{All-head, All-tail}
use Rattle.nesc_core.specs.Plain.{Body, Program}
use Rattle.nesc_core.specs.Calls.{stmt_calls, HasNoCycle}
use Rattle.call_graph.specs.Uses.{Use, Access, Calls, uses_of, uses}
use Rattle.call_graph.specs.Paths.{IsIn, callee, bare_callee, callees, bare_callees, Leads, IsLeast}
use Rattle.call_graph.specs.Least.{can, first_from, path_at, least_path, IsOne}
use Rattle.call_graph.proofs.Lists.{nat_either, found_any, flat_found, in_flat}
use Rattle.call_graph.proofs.Least.{ends_can, is_least}
use Rattle.call_graph.proofs.SameCalls.{stmt_same}

pub leads_on : (steps : ℕ → List ℕ) (f g h : ℕ) (rest : List ℕ) → Leads steps f rest g → IsIn h (steps g) → Leads steps f (rest ++ h ∷ []) h
leads_on steps f g h [] leads step = (subst (λ x. IsIn h (steps x)) (sym leads) step, refl)
leads_on steps f g h (x ∷ rest) leads step = (leads.0, leads_on steps x g h rest leads.1 step)

pub leads_as : (steps more : ℕ → List ℕ) → ((f g : ℕ) → IsIn g (steps f) → IsIn g (more f)) → (f g : ℕ) (rest : List ℕ) → Leads steps f rest g → Leads more f rest g
leads_as steps more wider f g [] h = h
leads_as steps more wider f g (x ∷ rest) h = (wider f x h.0, leads_as steps more wider x g rest h.1)

pub least_as : (P Q : List ℕ → Type 0) → ((path : List ℕ) → P path → Q path) → ((path : List ℕ) → Q path → P path) → (path : List ℕ) → IsLeast P path → IsLeast Q path
least_as P Q to back path h = record { is_one = to path h.is_one; least = λ other one. h.least other (back other one) }

-- ---- the first number that passes

abbrev pub IsFirst : (test : ℕ → Bool) (n bound : ℕ) → Option ℕ → Type 0
IsFirst test n bound None = (m : ℕ) → n ≤ m → m < n + bound → test m ≡ false
IsFirst test n bound (Some k) = (n ≤ k) × (test k ≡ true) × ((m : ℕ) → n ≤ m → m < k → test m ≡ false)

pub first_is : (test : ℕ → Bool) (n bound : ℕ) → IsFirst test n bound (first_from test n bound)
first_is test n zero = λ m le lt. absurd (omega (arith, le, lt))
first_is test n (suc bound) = by_here (test n) refl (first_from test (suc n) bound) (first_is test (suc n) bound)
  where
    at_or_after : (m : ℕ) → test n ≡ false → n ≤ m → ((suc n ≤ m) → test m ≡ false) → test m ≡ false
    at_or_after m fails le h = elim (nat_either m n) [ inl ge ↦ (let same : n ≡ m = omega (arith, le, ge) in subst (λ k. test k ≡ false) same fails) | inr more ↦ h (omega (arith, more)) ]

    by_here : (t : Bool) → test n ≡ t → (o : Option ℕ) → IsFirst test (suc n) bound o → IsFirst test n (suc bound) (if t then Some n else o)
    by_here true is o h = (omega arith, is, λ m le lt. absurd (omega (arith, le, lt)))
    by_here false is None h = λ m le lt. at_or_after m is le (λ more. h m more (omega (arith, lt)))
    by_here false is (Some k) h = (omega (arith, h.0), h.1, λ m le lt. at_or_after m is le (λ more. h.2 m more lt))

module _ (steps : ℕ → List ℕ) (is_end : ℕ → Bool) (roots : List ℕ) (bound : ℕ) where
  abbrev pub reaches : ℕ → Bool
  reaches n = list_any (can steps is_end n) roots

  least_at : (o : Option ℕ) (path : List ℕ) → IsFirst reaches 0 bound o → path_at steps is_end roots o ≡ Some path → IsLeast (IsOne steps is_end roots) path
  least_at None path h is = absurd (none-some path is)
  least_at (Some n) path h is = subst (IsLeast (IsOne steps is_end roots)) (same_Some _ path is) (is_least steps is_end roots n h.1 (λ m lt. h.2 m (omega arith) lt))

  pub path_is_least : (path : List ℕ) → least_path steps is_end roots bound ≡ Some path → IsLeast (IsOne steps is_end roots) path
  path_is_least path is = least_at (first_from reaches 0 bound) path (first_is reaches 0 bound) is

  -- none is found where there is none of fewer calls than the bound
  none_at : (o : Option ℕ) → IsFirst reaches 0 bound o → path_at steps is_end roots o ≡ None → (f : ℕ) (rest : List ℕ) → length rest < bound → IsOne steps is_end roots (f ∷ rest) → ⊥
  none_at (Some n) h is f rest short one = none-some _ (sym is)
  none_at None h is f rest short one =
      let there : can steps is_end (length rest) f ≡ true = ends_can steps is_end f rest (record { last = one.0; leads = one.1.1; ends = one.2 }) in
      false≢true (sym (h (length rest) (omega arith) (omega (arith, short))) ∙ found_any (can steps is_end (length rest)) f roots one.1.0 there)

  pub no_path : least_path steps is_end roots bound ≡ None → (f : ℕ) (rest : List ℕ) → length rest < bound → IsOne steps is_end roots (f ∷ rest) → ⊥
  no_path is = none_at (first_from reaches 0 bound) (first_is reaches 0 bound) is

-- ---- without cycles

all_in : (P : ℕ → Type 0) (g : ℕ) (xs : List ℕ) → All P xs → IsIn g xs → P g
all_in P g [] all h = absurd h
all_in P g (x ∷ xs) all (inl same) = subst P (sym same) (All-head P x xs all)
all_in P g (x ∷ xs) all (inr h) = all_in P g xs (All-tail P x xs all) h

-- a call of no body is in none
module _ (p : Program) (f g : ℕ) where
  body_of_call : (o : Option Body) → slice_get p.bodies f ≡ o → IsIn g (flat_map callee (uses_of o)) → (b : Body) × (slice_get p.bodies f ≡ Some b) × IsIn g (stmt_calls b.code)
  body_of_call None is h = absurd h
  body_of_call (Some b) is h = (b, is, subst (IsIn g) (sym (stmt_same b.code 0 false).by) h)

  pub called_in : IsIn g (callees p f) → (b : Body) × (slice_get p.bodies f ≡ Some b) × IsIn g (stmt_calls b.code)
  called_in h = body_of_call (slice_get p.bodies f) refl h

  pub caller_is_body : IsIn g (callees p f) → f < length p.bodies
  caller_is_body h = let b = called_in h in slice_get_within p.bodies f b.0 b.1

  bare_to_any : (u : Use) → IsIn u (uses p f) → IsIn g (bare_callee u) → IsIn g (callees p f)
  bare_to_any (Access n i place pos) there h = absurd h
  bare_to_any (Calls n true k pos) there h = absurd h
  bare_to_any (Calls n false k pos) there h = in_flat callee (Calls n false k pos) g (uses p f) there h

  pub bare_is_call : IsIn g (bare_callees p f) → IsIn g (callees p f)
  bare_is_call h = let u = flat_found bare_callee g (uses p f) h in bare_to_any u.it u.there u.fact

module _ (p : Program) (ranked : HasNoCycle p) where
  pub falls : (f g : ℕ) → IsIn g (callees p f) → ranked.rank g < ranked.rank f
  falls f g h = let b = called_in p f g h in all_in (λ g. ranked.rank g < ranked.rank f) g (stmt_calls b.0.code) (ranked.falls f b.0 b.1) b.2

  lower : (f g : ℕ) (rest : List ℕ) → Leads (callees p) f rest g → length rest + ranked.rank g ≤ ranked.rank f
  lower f g [] h = subst (λ k. 0 + ranked.rank k ≤ ranked.rank f) h (omega arith)
  lower f g (x ∷ rest) h = omega (arith, lower x g rest h.1, falls f x h.0)

  -- a chain to a body has fewer calls than there are bodies
  pub short : (f g : ℕ) (rest : List ℕ) → Leads (callees p) f rest g → g < length p.bodies → length rest < length p.bodies
  short f g [] h inside = omega (arith, inside)
  short f g (x ∷ rest) h inside =
      let b = called_in p f x h.0 in omega (arith, lower f g (x ∷ rest) h, ranked.low f b.0 b.1)
