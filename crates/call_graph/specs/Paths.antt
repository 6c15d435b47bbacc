-- Paths: chains of calls from the boot body, a task or a handler (own, after Gay et al. 2003).
use Rattle.std.specs.Prelude.{◌≡◌, ℕ, zero, suc, ◌<◌, true, false, ◌⊎◌, ⊤, List, [], ◌∷◌, ◌++◌, length, map}
use Rattle.std.specs.List.{flat_map}
use Rattle.nesc_core.specs.Plain.{Program}
use Rattle.call_graph.specs.Uses.{Use, Access, Calls, uses}

abbrev pub IsIn : {A : Type 0} → A → List A → Type 0
IsIn x [] = ⊥
IsIn x (y ∷ ys) = (x ≡ y) ⊎ IsIn x ys

-- the numbers below n, in order
abbrev pub below : ℕ → List ℕ
below zero = []
below (suc n) = below n ++ n ∷ []

-- ---- calls and roots

abbrev pub callee : Use → List ℕ
callee (Access n i place pos) = []
callee (Calls n i g pos) = g ∷ []

abbrev pub bare_callee : Use → List ℕ
bare_callee (Access n i place pos) = []
bare_callee (Calls n true g pos) = []
bare_callee (Calls n false g pos) = g ∷ []

-- the bodies that body f calls, as often as it does
abbrev pub callees : Program → (f : ℕ) → List ℕ
callees p f = flat_map callee (uses p f)

-- those that it calls outside every atomic statement
abbrev pub bare_callees : Program → (f : ℕ) → List ℕ
bare_callees p f = flat_map bare_callee (uses p f)

-- where contexts of the base begin
abbrev pub base_roots : Program → List ℕ
base_roots p = p.boot ∷ p.tasks

abbrev pub handler_roots : Program → List ℕ
handler_roots p = map (λ h. h.1) p.handlers

-- ---- paths

-- a chain from body f to body g, as the list of the bodies behind f
abbrev pub Leads : (steps : ℕ → List ℕ) → (f : ℕ) → List ℕ → (g : ℕ) → Type 0
Leads steps f [] g = f ≡ g
Leads steps f (h ∷ rest) g = IsIn h (steps f) × Leads steps h rest g

abbrev pub IsPath : (roots : List ℕ) (steps : ℕ → List ℕ) → List ℕ → (g : ℕ) → Type 0
IsPath roots steps [] g = ⊥
IsPath roots steps (f ∷ rest) g = IsIn f roots × Leads steps f rest g

-- a path of which all calls are bare, from the boot body or a task
abbrev pub IsBarePath : Program → List ℕ → ℕ → Type 0
IsBarePath p = IsPath (base_roots p) (bare_callees p)

abbrev pub IsHandlerPath : Program → List ℕ → ℕ → Type 0
IsHandlerPath p = IsPath (handler_roots p) (callees p)

-- ---- the shortest, and of these the least by body numbers

abbrev pub IsBelow : List ℕ → List ℕ → Type 0
IsBelow [] ys = ⊤
IsBelow (x ∷ xs) [] = ⊥
IsBelow (x ∷ xs) (y ∷ ys) = (x < y) ⊎ ((x ≡ y) × IsBelow xs ys)

abbrev pub IsNoWorse : List ℕ → List ℕ → Type 0
IsNoWorse xs ys = (length xs < length ys) ⊎ ((length xs ≡ length ys) × IsBelow xs ys)

pub record IsLeast (IsOne : List ℕ → Type 0) (path : List ℕ) : Type 0 where
  pub is_one : IsOne path
  pub least : (other : List ℕ) → IsOne other → IsNoWorse path other
