-- Programs whose functions call only those behind them, and functions of returns between two items (own).
use Rattle.std.specs.Prelude.{◌≡◌, ℕ, ◌<◌, List, length}
use Rattle.msp_isa.specs.declared.code.CodeFn.{CodeFn}
use Rattle.msp_isa.specs.declared.code.Item.{Item}
use Rattle.msp_isa.specs.declared.code.Item.TheVariants as item
use Rattle.msp_isa.specs.Encode.{IsWritten}
use Rattle.msp_layout.specs.Depth.{Names, calls_of}
use Rattle.msp_layout.specs.Laid.{AreGoodFns}

pub record AreOnward (code : List CodeFn) : Type 0 where
  pub fns : AreGoodFns code
  pub onward : (f g : ℕ) → f < length code → Names (calls_of code f) g → f < g

-- two instructions, or a jump and its label
abbrev pub IsPair : Item → Item → Type 0
IsPair (item.Is i) (item.Is j) = IsWritten i × IsWritten j
IsPair (item.Jump c l) (item.Label m) = l ≡ m
IsPair (item.Label l) (item.Jump c m) = l ≡ m
IsPair _ _ = ⊥
