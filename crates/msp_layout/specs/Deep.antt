-- Depths of functions, and the stack that holds them (own).
use Rattle.std.specs.Prelude.{ℕ, ◌+◌, ◌<◌, ◌≤◌, List, length}
use Rattle.msp_isa.specs.declared.code.CodeFn.{CodeFn}
use Rattle.msp_layout.specs.Depth.{frame_of, calls_of, Names, IsStack, HasNoCycle}

-- a depth is no less than the function's frame, nor than that, two bytes and the depth of a function that it calls
pub record AreDepths (code : List CodeFn) (deep : ℕ → ℕ) : Type 0 where
  pub least : (f : ℕ) → frame_of code f ≤ deep f
  pub calls : (f g : ℕ) → f < length code → Names (calls_of code f) g → frame_of code f + 2 + deep g ≤ deep f

-- the stack holds the depth of reset, and on top of it that of any line
pub record HoldsDepths (code : List CodeFn) (lines : List ℕ) (reset stack : ℕ) : Type 0 where
  pub deep : ℕ → ℕ
  pub depths : AreDepths code deep
  pub holds : (line : ℕ) → Names lines line → deep reset + deep line ≤ stack

-- The stack of a program without a cycle of calls holds such depths
abbrev pub StackHoldsDepths : Type 0
StackHoldsDepths = (code : List CodeFn) (lines : List ℕ) (reset stack : ℕ) → HasNoCycle code → IsStack code lines reset stack → HoldsDepths code lines reset stack
