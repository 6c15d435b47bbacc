-- What holds of selected functions: how much they hold on the stack, and what they call (own).
use Rattle.std.specs.Prelude.{◌≡◌, ℕ, ◌+◌, ◌*◌, ◌<◌, ◌≤◌, List, [], ◌∷◌, length}
use Rattle.std.specs.List.{All}
use Rattle.msp_isa.specs.declared.code.Item.{Item}
use Rattle.msp_isa.specs.declared.code.Item.TheVariants as item
use Rattle.msp_isa.specs.declared.instr.Cond.TheVariants.{Jmp}
use Rattle.msp_isa.specs.Encode.{IsWritten}
use Rattle.mid_code.specs.declared.code.MidCode.{MidCode}
use Rattle.mid_code.specs.declared.code.MidFn.{MidFn}
use Rattle.mid_code.specs.declared.instr.Mid.{Mid}
use Rattle.mid_code.specs.declared.instr.Mid.TheVariants.{Label, Jump, Branch, Call, Help}
use Rattle.mid_code.specs.Machine.{fn_of}
use Rattle.msp_select.specs.Frames.{own_bytes, rounded}
use Rattle.msp_select.specs.Select.{routine_of, taken_by}
use Rattle.select_emitter.specs.Code.{CanBeSelected, code_of, called, fn_items}

-- its frame is at most the bytes of the middle code's frame and two for each value; and at most its own bytes and two for each
-- parameter
pub record IsBounded (fn : MidFn) (frame : ℕ) : Type 0 where
  pub sum : frame ≤ rounded (fn.frame + 2 * fn.values)
  pub parts : frame ≤ own_bytes fn + 2 * length fn.params

abbrev pub FramesAreBounded : Type 0
FramesAreBounded = (c : MidCode) → CanBeSelected c → (f : ℕ) → f < length c.fns → IsBounded (fn_of c f) (code_of c (fn_of c f)).frame

-- the places that middle code calls, of functions and of routines behind so many functions
abbrev pub callees : (fns : ℕ) → List Mid → List ℕ
callees fns [] = []
callees fns (Call g ins outs ∷ is) = g ∷ callees fns is
callees fns (Help h ins outs ∷ is) = routine_of fns h ∷ callees fns is
callees fns (_ ∷ is) = callees fns is

-- a selected function calls what its middle code calls, and nothing else
abbrev pub CallsStay : Type 0
CallsStay = (c : MidCode) (fn : MidFn) → called (fn_items c fn) ≡ callees (length c.fns) fn.code

-- an instruction among the items is a written form, so that it has words
abbrev pub IsWrittenItem : Item → Type 0
IsWrittenItem (item.Is i) = IsWritten i
IsWrittenItem _ = Unit {0}

abbrev pub ItemsAreWritten : Type 0
ItemsAreWritten = (c : MidCode) → CanBeSelected c → (f : ℕ) → f < length c.fns → All IsWrittenItem (fn_items c (fn_of c f))

-- what is no instruction: labels, jumps to them, and calls
abbrev pub links : List Item → List Item
links [] = []
links (item.Is i ∷ is) = links is
links (i ∷ is) = i ∷ links is

abbrev pub links_of : (fns : ℕ) → List Mid → List Item
links_of fns [] = []
links_of fns (Label l ∷ is) = item.Label l ∷ links_of fns is
links_of fns (Jump l ∷ is) = item.Jump Jmp l ∷ links_of fns is
links_of fns (Branch t x y l ∷ is) = item.Jump (taken_by t) l ∷ links_of fns is
links_of fns (Call g ins outs ∷ is) = item.CallFn g ∷ links_of fns is
links_of fns (Help h ins outs ∷ is) = item.CallFn (routine_of fns h) ∷ links_of fns is
links_of fns (_ ∷ is) = links_of fns is

-- a selected function has the labels, jumps and calls of its middle code, in order, and no others
abbrev pub LinksStay : Type 0
LinksStay = (c : MidCode) (fn : MidFn) → links (fn_items c fn) ≡ links_of (length c.fns) fn.code
