-- The stack weight of a program: the greatest sums of the weights of frames along chains of calls (own).
use Rattle.std.specs.Prelude.{◌≡◌, ◌⊎◌, ℕ, ◌+◌, ◌≤◌, List, [], ◌∷◌, Option, Some, None, Contains, slice_get}
use Rattle.nesc_core.specs.Plain.{Body, Program}
use Rattle.nesc_core.specs.Calls.{stmt_calls}
use Rattle.nesc_core.specs.Weights.{frame_weight}

abbrev pub calls_of_body : Option Body → List ℕ
calls_of_body None = []
calls_of_body (Some b) = stmt_calls b.code

abbrev pub weight_of_body : Program → Option Body → ℕ
weight_of_body p None = 0
weight_of_body p (Some b) = frame_weight p b

-- the bodies that a body calls, and the weight of its frame
abbrev pub called_by : Program → ℕ → List ℕ
called_by p f = calls_of_body (slice_get p.bodies f)

abbrev pub weight_of : Program → ℕ → ℕ
weight_of p f = weight_of_body p (slice_get p.bodies f)

-- a chain of calls: each body is called by the one before it
abbrev pub IsChain : Program → ℕ → List ℕ → Type 0
IsChain p f [] = Unit {0}
IsChain p f (g ∷ chain) = Contains (called_by p f) g × IsChain p g chain

abbrev pub chain_weight : Program → ℕ → List ℕ → ℕ
chain_weight p f [] = weight_of p f
chain_weight p f (g ∷ chain) = weight_of p f + chain_weight p g chain

-- a chain from such a body has this weight
pub record IsMet (p : Program) (Root : ℕ → Type 0) (weight : ℕ) : Type 0 where
  pub root : ℕ
  pub is_root : Root root
  pub chain : List ℕ
  pub is_chain : IsChain p root chain
  pub met : chain_weight p root chain ≡ weight

-- the greatest weight of a chain from such bodies, or 0 where there are none
pub record IsHeaviest (p : Program) (Root : ℕ → Type 0) (weight : ℕ) : Type 0 where
  pub bound : (f : ℕ) (chain : List ℕ) → Root f → IsChain p f chain → chain_weight p f chain ≤ weight
  pub met : (((f : ℕ) → Root f → ⊥) × (weight ≡ 0)) ⊎ IsMet p Root weight

-- the boot body and the tasks, and the handlers of lines
abbrev pub IsBase : Program → ℕ → Type 0
IsBase p f = (f ≡ p.boot) ⊎ ((k : ℕ) × (slice_get p.tasks k ≡ Some f))

abbrev pub IsHandler : Program → ℕ → Type 0
IsHandler p f = (k : ℕ) × (line : ℕ) × (slice_get p.handlers k ≡ Some (line, f))

-- from the boot body or a task, and on top of it from a handler, and 400 bytes for what is around them
pub record IsStackWeight (p : Program) (weight : ℕ) : Type 0 where
  pub base : ℕ
  pub handlers : ℕ
  pub of_base : IsHeaviest p (IsBase p) base
  pub of_handlers : IsHeaviest p (IsHandler p) handlers
  pub sum : weight ≡ base + handlers + 400
