-- What `layout` is given, and what it gives (own).
use Rattle.std.specs.Prelude.{◌≡◌, ℕ, ◌+◌, ◌<◌, ◌≤◌, ◌*◌, ◌%◌, ◌^◌, List, length, min, map, ◌++◌, replicate}
use Rattle.nm_base.specs.declared.memory_map.TheConstants.{CODE_BYTES, RAM_BYTES}
use Rattle.nm_base.specs.declared.fault.Fault.{Fault}
use Rattle.nm_base.specs.declared.fault.Fault.TheVariants.{TooLarge, NoMemory}
use Rattle.nm_base.specs.declared.limit.Room.TheVariants.{Code, Ram}
use Rattle.msp_isa.specs.declared.code.CodeFn.{CodeFn}
use Rattle.msp_isa.specs.declared.code.Item.{Item}
use Rattle.msp_isa.specs.declared.code.Item.TheVariants as item
use Rattle.msp_isa.specs.declared.instr.Cond.{Cond}
use Rattle.msp_isa.specs.Encode.{IsWritten}
use Rattle.msp_isa.specs.Image.{IsImage, image_map}
use Rattle.msp_isa.specs.Stands.{item_at, items_of, IsLaid}
use Rattle.msp_layout.specs.Bytes.{HasBytes}
use Rattle.msp_layout.specs.Depth.{calls_of, Names, IsStack, HasNoCycle}
use Rattle.msp_layout.specs.Order.{AreInOrder}

-- an instruction is a written form, an address goes to one of the registers 4 to 15
abbrev pub IsGoodItem : ℕ → Item → Type 0
IsGoodItem fns (item.Is i) = IsWritten i
IsGoodItem fns (item.CallFn f) = f < fns
IsGoodItem fns (item.AddrOf f r) = (f < fns) × (4 ≤ r) × (r < 16)
IsGoodItem fns _ = Unit {0}

-- the label stands at one place
pub record StandsOnce (items : List Item) (l : ℕ) : Type 0 where
  pub at : ℕ
  pub stands : item_at items at ≡ item.Label l
  pub once : (t : ℕ) → item_at items t ≡ item.Label l → t ≡ at

-- one function of a program of so many
pub record IsGoodFn (fns : ℕ) (items : List Item) (calls : List ℕ) : Type 0 where
  pub few : length items < 2 ^ 28
  pub each : (k : ℕ) → k < length items → IsGoodItem fns (item_at items k)
  pub labels : (k l : ℕ) (c : Cond) → item_at items k ≡ item.Jump c l → StandsOnce items l
  pub callees : (g : ℕ) → Names calls g → g < fns

-- all functions of a program
abbrev pub AreGoodFns : List CodeFn → Type 0
AreGoodFns code = (f : ℕ) → f < length code → IsGoodFn (length code) (items_of code f) (calls_of code f)

-- code that may be laid out
pub record IsGoodCode (code : List CodeFn) (lines : List ℕ) (reset : ℕ) : Type 0 where
  pub fns : AreGoodFns code
  pub no_cycle : HasNoCycle code
  pub line_fns : (f : ℕ) → Names lines f → f < length code
  pub reset_fn : reset < length code

-- functions stand one behind another, from even addresses on; vectors 0 to 7 lead to the code of the lines, all others to that of reset
pub record IsPlaced (code : List CodeFn) (lines : List ℕ) (reset : ℕ) (words vectors : List ℕ) : Type 0 where
  pub image : IsImage words vectors
  pub entries : ℕ → ℕ
  pub laid : IsLaid (image_map words vectors) code entries
  pub order : AreInOrder code laid.places
  pub even_entry : (f : ℕ) → f < length code → entries f % 2 ≡ 0
  pub small_entry : (f : ℕ) → f < length code → entries f < 0x10000
  pub leads : vectors ≡ map entries lines ++ replicate 8 (entries reset)
  pub bytes : HasBytes code (2 * length words)

-- a number as 32 bits tell it: the last one for all above
abbrev pub told : ℕ → ℕ
told n = min n 0xFFFF_FFFF

-- data and stack fit the memory
pub record FitsRam (code : List CodeFn) (lines : List ℕ) (reset ram stack : ℕ) : Type 0 where
  pub is_stack : IsStack code lines reset stack
  pub fits : ram + stack ≤ RAM_BYTES

-- the code, or else data and stack, are more than the memory holds
pub record PassesCode (code : List CodeFn) (need : ℕ) : Type 0 where
  pub bytes : ℕ
  pub has : HasBytes code bytes
  pub above : CODE_BYTES < bytes
  pub tells : need ≡ told bytes

pub record PassesRam (code : List CodeFn) (lines : List ℕ) (reset ram need : ℕ) : Type 0 where
  pub bytes : ℕ
  pub has : HasBytes code bytes
  pub fits : bytes ≤ CODE_BYTES
  pub stack : ℕ
  pub is_stack : IsStack code lines reset stack
  pub above : RAM_BYTES < ram + stack
  pub tells : need ≡ told (ram + stack)

abbrev pub HasCause : List CodeFn → List ℕ → ℕ → ℕ → Fault → Type 0
HasCause code lines reset ram (TooLarge Code need) = PassesCode code need
HasCause code lines reset ram (TooLarge Ram need) = PassesRam code lines reset ram need
HasCause code lines reset ram NoMemory = Unit {0}
HasCause code lines reset ram _ = ⊥
