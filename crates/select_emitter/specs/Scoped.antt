-- Where an instruction is selected, and the items that it becomes there.
use Rattle.std.specs.Prelude.{◌≡◌, ℕ, ◌+◌, ◌-◌, ◌*◌, ◌<◌, ◌≤◌, ◌^◌, nat_lt, Bool, true, false, List, [], length, slice_index, slice_index_or}
use Rattle.nm_base.specs.declared.memory_map.TheConstants.{RAM_BYTES}
use Rattle.msp_isa.specs.declared.code.Item.{Item}
use Rattle.mid_code.specs.declared.code.MidCode.{MidCode}
use Rattle.mid_code.specs.declared.code.MidFn.{MidFn}
use Rattle.mid_code.specs.declared.instr.Mid.{Mid}
use Rattle.mid_code.specs.declared.instr.Mid.TheVariants.{Set, Move, Bin, Carry, Load, Store, Peek, Poke, In, Out, Branch, Call, Help, Ret}
use Rattle.mid_code.specs.Form.{AreBelow}
use Rattle.mid_code.specs.Help.{first_check}
use Rattle.mid_code.specs.Machine.{fn_of}
use Rattle.msp_select.specs.Frames.{count_pushed, frame_home, frame_place, own_bytes}
use Rattle.msp_select.specs.Select.{items_of, parts_of, parts_of_all}
use Rattle.select_emitter.specs.declared.frames.Frame.{Frame}
use Rattle.select_emitter.specs.declared.scope.Scope.{Scope}
use Rattle.select_emitter.specs.Pushes.{flags_of}

-- ---- frames

-- the table has where a function's values lie, and what is pushed for it
pub record IsFrame (fn : MidFn) (frame : Frame) : Type 0 where
  pub own : frame.own ≡ own_bytes fn
  pub words : frame.words ≡ count_pushed fn.params
  pub flags : frame.pushed ≡ flags_of fn.params
  pub many : length frame.homes ≡ fn.values
  pub homes : (v : ℕ) → v < fn.values → slice_index frame.homes v ≡ frame_place fn v
  pub near : (v : ℕ) → v < fn.values → frame_place fn v ≤ RAM_BYTES
  pub small : own_bytes fn + 2 * count_pushed fn.params ≤ RAM_BYTES

abbrev pub no_frame : Frame
no_frame = record { own = 0; words = 0; pushed = []; homes = [] }

pub record AreFrames (c : MidCode) (frames : List Frame) : Type 0 where
  pub many : length frames ≡ length c.fns
  pub each : (f : ℕ) → f < length c.fns → IsFrame (fn_of c f) (slice_index_or frames f no_frame)

pub record IsScope (s : Scope) : Type 0 where
  pub frames : AreFrames s.code.now s.frames.now
  pub frame : IsFrame s.function.now s.frame.now
  pub places : length s.code.now.fns + (48 + length s.code.now.checks) < 2 ^ 32

-- ---- items

abbrev pub items_in : Scope → Mid → List Item
items_in s i = items_of (parts_of s.code.now (frame_home s.function.now) (own_bytes s.function.now) i)

abbrev pub all_items_in : Scope → List Mid → List Item
all_items_in s is = items_of (parts_of_all s.code.now (frame_home s.function.now) (own_bytes s.function.now) is)

-- ---- what an instruction names is there

abbrev pub HasPlace : (is_operation : Bool) → (checks h : ℕ) → Type 0
HasPlace true checks h = h < 48
HasPlace false checks h = h - first_check < checks

-- values of a function that has so many; a function that is called; the place of a routine; and no more values than registers from
-- R12 on
abbrev pub Fits : MidCode → (values : ℕ) → Mid → Type 0
Fits c n (Set v x) = v < n
Fits c n (Move v x) = (v < n) × (x < n)
Fits c n (Bin op v x y) = (v < n) × (x < n) × (y < n)
Fits c n (Carry op v x y) = (v < n) × (x < n) × (y < n)
Fits c n (Load is_word v x) = (v < n) × (x < n)
Fits c n (Store is_word v x) = (v < n) × (x < n)
Fits c n (Peek is_word v x) = (v < n) × (x < n)
Fits c n (Poke is_word v x) = (v < n) × (x < n)
Fits c n (In v port) = v < n
Fits c n (Out port v) = v < n
Fits c n (Branch test x y l) = (x < n) × (y < n)
Fits c n (Call g ins outs) = (g < length c.fns) × AreBelow n ins × AreBelow n outs × (length outs ≤ 4)
Fits c n (Help h ins outs) = HasPlace (nat_lt h first_check) (length c.checks) h × AreBelow n ins × AreBelow n outs × (length ins ≤ 4) × (length outs ≤ 4)
Fits c n (Ret vs) = AreBelow n vs × (length vs ≤ 4)
Fits c n _ = Unit {0}
