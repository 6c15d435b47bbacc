-- How the locals of a body are held in a call of its function (own).
use Rattle.std.specs.Prelude.{⊤, ◌≡◌, ◌≢◌, ◌⊎◌, ℕ, ℤ, pos, ◌+◌, ◌*◌, ◌<◌, ◌≤◌, Bool, true, false, List, [], length, Option, Some, None, slice_get, slice_index, slice_index_or}
use Rattle.nm_base.specs.declared.int_type.IntType.{IntType}
use Rattle.nm_base.specs.declared.int_type.IntType.TheVariants.{I8, U8, I16, U16, I32, U32}
use Rattle.nm_base.specs.IntType.{wrapped}
use Rattle.nesc_core.specs.Plain.{Ty, void, int, pointer, array, struct, Program}
use Rattle.nesc_core.specs.Typing.{IsScalar}
use Rattle.mid_code.specs.Help.{is_wide}
use Rattle.core_meaning.specs.Layout.{size_of}
use Rattle.core_meaning.specs.Work.{Locals, number_of}
use Rattle.lower_expr.specs.declared.spot.Regs.{Regs}
use Rattle.lower_expr.specs.declared.spot.Spot.{Spot}
use Rattle.lower_expr.specs.declared.spot.Spot.TheVariants.{Values, Frame}
use Rattle.lower_expr.specs.Held.{IsHeld, IsHighHeld, low}
use Rattle.lower_expr.specs.Code.{value_named}

-- the number that bytes are, the low one first
abbrev pub number_in : IntType → List ℕ → ℕ
number_in I8 bytes = slice_index bytes 0
number_in U8 bytes = slice_index bytes 0
number_in I16 bytes = slice_index bytes 0 + 256 * slice_index bytes 1
number_in U16 bytes = slice_index bytes 0 + 256 * slice_index bytes 1
number_in I32 bytes = slice_index bytes 0 + 256 * slice_index bytes 1 + 65536 * (slice_index bytes 2 + 256 * slice_index bytes 3)
number_in U32 bytes = slice_index bytes 0 + 256 * slice_index bytes 1 + 65536 * (slice_index bytes 2 + 256 * slice_index bytes 3)

abbrev pub local_value : IntType → List ℕ → ℤ
local_value t bytes = wrapped t (pos (number_in t bytes))

-- the high half's value is there where it is needed
abbrev pub IsHighBelow : (wide : Bool) → (base v : ℕ) → Type 0
IsHighBelow true base v = v < base
IsHighBelow false base v = ⊤

-- a number of the type in the values of a local, which lie below `base`
pub record InRegs (base : ℕ) (t : IntType) (v : ℤ) (values : ℕ → ℕ) (regs : Regs) : Type 0 where
  pub low_below : value_named regs.low < base
  pub high_below : IsHighBelow (is_wide t) base (value_named regs.high)
  pub low_half : values (value_named regs.low) ≡ low v
  pub high_half : IsHighHeld (is_wide t) v values (value_named regs.high)

abbrev pub LocalIsHeld : (base : ℕ) → Option Spot → Ty → (size : ℕ) → List ℕ → (values frame : ℕ → ℕ) → Type 0
LocalIsHeld base None ty size bytes values frame = ⊥
LocalIsHeld base (Some (Values regs)) ty size bytes values frame = InRegs base (number_of ty) (local_value (number_of ty) bytes) values regs
LocalIsHeld base (Some (Frame o)) ty size bytes values frame = (i : ℕ) → i < size → frame (o + i) ≡ slice_index bytes i

-- the value that holds the low or the high half of a local
abbrev pub value_at : Option Spot → (is_high wide : Bool) → Option ℕ
value_at (Some (Values regs)) false wide = Some (value_named regs.low)
value_at (Some (Values regs)) true true = Some (value_named regs.high)
value_at (Some (Values regs)) true false = None
value_at (Some (Frame o)) is_high wide = None
value_at None is_high wide = None

-- the bytes of a local of this size
pub record HasBytes (size : ℕ) (bytes : List ℕ) : Type 0 where
  pub length_is : length bytes ≡ size
  pub small : (i : ℕ) → i < size → slice_index bytes i < 256

-- each local of these types has its bytes, and is where its spot says; no value holds two locals or both halves of one, and those from
-- `base` on are free
pub record Holds (p : Program) (types : List Ty) (spots : List Spot) (base : ℕ) (env : Locals) (values frame : ℕ → ℕ) : Type 0 where
  pub at : (x : ℕ) → x < length types →
      LocalIsHeld base (slice_get spots x) (slice_index_or types x void) (size_of p (slice_index_or types x void)) (slice_index_or env x []) values frame
  pub count : length types ≤ length env
  pub bytes : (x : ℕ) → x < length types → HasBytes (size_of p (slice_index_or types x void)) (slice_index_or env x [])
  pub apart : (x y v : ℕ) (a b : Bool) → x < length types → y < length types →
      value_at (slice_get spots x) a (is_wide (number_of (slice_index_or types x void))) ≡ Some v →
      value_at (slice_get spots y) b (is_wide (number_of (slice_index_or types y void))) ≡ Some v → (x ≡ y) × (a ≡ b)

-- what an expression of a type leaves: its number at r, where it has one
abbrev pub IsResult : Ty → ℤ → (ℕ → ℕ) → ℕ → Type 0
IsResult void v values r = ⊤
IsResult (int t) v values r = IsHeld t v values r
IsResult (pointer t) v values r = IsHeld U16 v values r
IsResult (array t n) v values r = ⊤
IsResult (struct k) v values r = ⊤

-- locals of these types that are in a frame of this size lie inside of it, and apart; only numbers and pointers are in values
pub record LieApart (p : Program) (types : List Ty) (spots : List Spot) (frame : ℕ) : Type 0 where
  pub small : frame ≤ 65535
  pub inside : (x from : ℕ) → x < length types → slice_get spots x ≡ Some (Frame from) → from + size_of p (slice_index_or types x void) ≤ frame
  pub apart : (x y from other : ℕ) → x < length types → y < length types → x ≢ y → slice_get spots x ≡ Some (Frame from) → slice_get spots y ≡ Some (Frame other) →
      (from + size_of p (slice_index_or types x void) ≤ other) ⊎ (other + size_of p (slice_index_or types y void) ≤ from)
  pub in_values : (x : ℕ) (regs : Regs) → x < length types → slice_get spots x ≡ Some (Values regs) → IsScalar (slice_index_or types x void)
