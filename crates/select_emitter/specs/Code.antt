-- The code of a function, with what it holds on the stack and what it calls (own).
use Rattle.std.specs.Prelude.{ℕ, ◌+◌, ◌*◌, ◌^◌, ◌<◌, ◌≤◌, List, [], ◌∷◌, length, map}
use Rattle.std.specs.List.{All}
use Rattle.nm_base.specs.declared.memory_map.TheConstants.{RAM_BYTES}
use Rattle.msp_isa.specs.declared.code.CodeFn.{CodeFn}
use Rattle.msp_isa.specs.declared.code.Item.{Item}
use Rattle.msp_isa.specs.declared.code.Item.TheVariants as item
use Rattle.mid_code.specs.declared.code.MidCode.{MidCode}
use Rattle.mid_code.specs.declared.code.MidFn.{MidFn}
use Rattle.mid_code.specs.Form.{IsMidCode}
use Rattle.msp_select.specs.Frames.{frame_home, own_bytes, parameter_bytes}
use Rattle.msp_select.specs.Select.{items_of, parts_of_fn}

-- the functions of the CallFn items, in order
abbrev pub called : List Item → List ℕ
called [] = []
called (item.CallFn f ∷ is) = f ∷ called is
called (_ ∷ is) = called is

abbrev pub fn_items : MidCode → MidFn → List Item
fn_items c fn = items_of (parts_of_fn c (frame_home fn) (own_bytes fn) fn)

-- a function holds its own bytes, and what its callers push for it
abbrev pub code_of : MidCode → MidFn → CodeFn
code_of c fn = record { frame = own_bytes fn + parameter_bytes fn; items = fn_items c fn; calls = called (fn_items c fn) }

abbrev pub all_code : MidCode → List CodeFn
all_code c = map (code_of c) c.fns

-- the frame and two bytes for each value
abbrev pub IsSmall : MidFn → Type 0
IsSmall fn = fn.frame + 2 * fn.values ≤ RAM_BYTES

-- Code that can be selected: it keeps the rules of form, its frames are small, and the places of its functions, of 48 operations and
-- of its checks are numbers of 32 bits
pub record CanBeSelected (c : MidCode) : Type 0 where
  pub form : IsMidCode c
  pub small : All IsSmall c.fns
  pub places : length c.fns + (48 + length c.checks) < 2 ^ 32
