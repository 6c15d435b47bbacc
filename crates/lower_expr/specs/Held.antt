-- How values of the source are held in the values of a function: a number by the low 16 bits of its two's complement, and one of
-- 32 bits by its high 16 bits too; a pointer by its address (own).
use Rattle.std.specs.Prelude.{◌≡◌, ℕ, ℤ, ◌+◌, ◌/◌, Bool, true, false, List, [], ◌∷◌, Option, Some, None, slice_get}
use Rattle.nm_base.specs.declared.int_type.IntType.{IntType}
use Rattle.nm_base.specs.declared.int_type.IntType.TheVariants.{I8, U8, I16, U16, I32, U32}
use Rattle.nm_base.specs.IntType.{wrapped}
use Rattle.nesc_core.specs.Plain.{Ty, Expr, Place, Body, Program}
use Rattle.nesc_core.specs.Plain as plain
use Rattle.nesc_core.specs.PlaceTypes.{place_type}
use Rattle.nesc_core.specs.Typing.{unary_type, binary_type}
use Rattle.mid_code.specs.Help.{is_wide}
use Rattle.core_meaning.specs.Numbers.{residue}
use Rattle.core_meaning.specs.Work.{number_of}

abbrev pub is_signed : IntType → Bool
is_signed I8 = true
is_signed U8 = false
is_signed I16 = true
is_signed U16 = false
is_signed I32 = true
is_signed U32 = false

abbrev pub result_of : Option Body → Ty
result_of None = plain.void
result_of (Some b) = b.result

-- as which integer type the value of an expression is held
abbrev pub held : Program → List Ty → Expr → IntType
held p types (plain.const t x) = t
held p types plain.null = U16
held p types (plain.read place at) = number_of (place_type p types place)
held p types (plain.addr place) = U16
held p types (plain.un op t e) = unary_type op t
held p types (plain.bin op t a b) = binary_type op t
held p types (plain.convert t e) = t
held p types (plain.offset a b size) = U16
held p types (plain.distance a b size) = I16
held p types (plain.both a b) = I16
held p types (plain.either a b) = I16
held p types (plain.choice test a b) = held p types a
held p types (plain.assign place e at) = number_of (place_type p types place)
held p types (plain.update place op t e gives_old at) = number_of (place_type p types place)
held p types (plain.call f arguments at) = number_of (result_of (slice_get p.bodies f))
held p types (plain.post k) = U8
held p types (plain.port_in port) = U16
held p types (plain.port_out port e) = U16
held p types (plain.comma a b) = held p types b

-- ---- the values that hold a number

abbrev pub low : ℤ → ℕ
low v = residue 16 v

abbrev pub high : ℤ → ℕ
high v = residue 32 v / 65536

abbrev pub IsHighHeld : (wide : Bool) → ℤ → (ℕ → ℕ) → ℕ → Type 0
IsHighHeld true v values r = values r ≡ high v
IsHighHeld false v values r = Unit {0}

-- the values that are passed and given back for a number
abbrev pub halves_of : (wide : Bool) → ℤ → List ℕ
halves_of true v = low v ∷ high v ∷ []
halves_of false v = low v ∷ []

-- a number of the type stands at r
pub record IsHeld (t : IntType) (v : ℤ) (values : ℕ → ℕ) (r : ℕ) : Type 0 where
  pub number : wrapped t v ≡ v
  pub low_half : values r ≡ low v
  pub high_half : IsHighHeld (is_wide t) v values (r + 1)
