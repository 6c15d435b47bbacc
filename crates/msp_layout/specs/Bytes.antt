-- The bytes of all functions (own).
use Rattle.std.specs.Prelude.{◌≡◌, ℕ, ◌<◌, List, length, slice_index_or, [], sum_by, take, sum}
use Rattle.msp_isa.specs.declared.code.CodeFn.{CodeFn}
use Rattle.msp_isa.specs.Stands.{items_of}
use Rattle.msp_layout.specs.Sizes.{IsShortest}

abbrev pub sizes_of : List (List ℕ) → ℕ → List ℕ
sizes_of sizes f = slice_index_or sizes f []

-- the sizes of all items of all functions
pub record AreShortest (code : List CodeFn) (sizes : List (List ℕ)) : Type 0 where
  pub len : length sizes ≡ length code
  pub each : (f : ℕ) → f < length code → IsShortest (items_of code f) (sizes_of sizes f)

-- the bytes of the functions before one
abbrev pub entry_of : List (List ℕ) → ℕ → ℕ
entry_of sizes f = sum_by sum (take f sizes)

-- the bytes of the code
pub record HasBytes (code : List CodeFn) (bytes : ℕ) : Type 0 where
  pub sizes : List (List ℕ)
  pub shortest : AreShortest code sizes
  pub sum : sum_by sum sizes ≡ bytes
