-- Functions that stand one behind another (own).
use Rattle.std.specs.Prelude.{ℕ, suc, ◌<◌, ◌≤◌, List, length}
use Rattle.msp_isa.specs.declared.code.CodeFn.{CodeFn}
use Rattle.msp_isa.specs.Stands.{items_of}

-- items stand one behind another, and so do functions
pub record AreInOrder (out : List CodeFn) (places : ℕ → ℕ → ℕ) : Type 0 where
  pub items : (f k : ℕ) → f < length out → k < length (items_of out f) → places f k ≤ places f (suc k)
  pub functions : (f : ℕ) → suc f < length out → places f (length (items_of out f)) ≤ places (suc f) 0

-- No item of a function stands in front of one of an earlier function
abbrev pub FunctionsStandApart : Type 0
FunctionsStandApart =
    (out : List CodeFn) (places : ℕ → ℕ → ℕ) → AreInOrder out places → (f g k j : ℕ) → f < g → g < length out →
    k ≤ length (items_of out f) → j ≤ length (items_of out g) → places f k ≤ places g j
