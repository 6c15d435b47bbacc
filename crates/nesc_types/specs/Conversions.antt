-- The integer promotions and the usual arithmetic conversions (C99, 6.3.1.1 and 6.3.1.8, where int has 16 bits and long 32).
use Rattle.std.specs.Prelude.{ℕ, nat_le, if◌then◌else◌}
use Rattle.nm_base.specs.declared.int_type.IntType.{IntType}
use Rattle.nm_base.specs.declared.int_type.IntType.TheVariants.{I8, U8, I16, U16, I32, U32}

-- int holds every number of 8 bits
abbrev pub promoted : IntType → IntType
promoted I8 = I16
promoted U8 = I16
promoted I16 = I16
promoted U16 = U16
promoted I32 = I32
promoted U32 = U32

-- the conversion rank, an unsigned type's above that of the signed type of its width
abbrev pub rank : IntType → ℕ
rank I8 = 0
rank U8 = 1
rank I16 = 2
rank U16 = 3
rank I32 = 4
rank U32 = 5

abbrev pub higher : IntType → IntType → IntType
higher a b = if nat_le (rank a) (rank b) then b else a

-- long holds every unsigned int, so of two promoted types the one of higher rank is the common one
abbrev pub common : IntType → IntType → IntType
common a b = higher (promoted a) (promoted b)
