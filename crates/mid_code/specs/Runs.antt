-- That the machine does what a behaviour says (own).
use Rattle.std.specs.Prelude.{◌≡◌, ℕ, ◌+◌, ◌<◌, ◌≤◌, List, [], ◌∷◌, Some, slice_get}
use Rattle.nm_base.specs.Behaviour.{Behaviour, play}
use Rattle.mid_code.specs.declared.instr.Mid.{Mid}
use Rattle.mid_code.specs.declared.instr.Mid.TheVariants.{Label}
use Rattle.mid_code.specs.declared.code.MidCode.{MidCode}
use Rattle.mid_code.specs.Machine.{Activation, place_of, steps}

-- what Loads, Ins and Posts are answered with
abbrev pub AreWords : List ℕ → Type 0
AreWords [] = Unit {0}
AreWords (x ∷ xs) = (x < 65536) × AreWords xs

-- for each list of answers some number of steps, at least n, gives exactly the behaviour's trace
pub record Runs (codes : MidCode) (n : ℕ) (b : Behaviour) (s : List Activation) : Type 0 where
  pub by : (answers : List ℕ) → AreWords answers → (m : ℕ) × (n ≤ m) × (play (steps codes m s) answers ≡ play b answers)

-- the instructions stand in the code from one place to another
abbrev pub Stands : List Mid → ℕ → List Mid → ℕ → Type 0
Stands code pc [] end = pc ≡ end
Stands code pc (i ∷ is) end = (slice_get code pc ≡ Some i) × Stands code (pc + 1) is end

-- each label is found where it stands
pub record IsLabelled (code : List Mid) : Type 0 where
  pub at : (pc l : ℕ) → slice_get code pc ≡ Some (Label l) → place_of code l ≡ pc
