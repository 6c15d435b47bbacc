-- Operations on words of 16 bits (own; as a processor of 16 bits has them).
use Rattle.std.specs.Prelude.{ℕ, pos, ◌+◌, ◌-◌, ◌*◌, ◌%◌, ◌==◌, Bool, true, false, not, nat_lt, nat_le, int_lt, bit_and, bit_or, bit_xor, List, [], ◌∷◌, if◌then◌else◌}
use Rattle.nm_base.specs.declared.int_type.IntType.TheVariants.{I16}
use Rattle.nm_base.specs.IntType.{wrapped}
use Rattle.nm_base.specs.Lists.{number_of}
use Rattle.mid_code.specs.declared.instr.Op.{Op}
use Rattle.mid_code.specs.declared.instr.Op.TheVariants.{Add, Sub, And, Or, Xor}
use Rattle.mid_code.specs.declared.instr.Test.{Test}
use Rattle.mid_code.specs.declared.instr.Test.TheVariants as test

abbrev pub operate : Op → ℕ → ℕ → ℕ
operate Add x y = (x + y) % 65536
operate Sub x y = (x + (65536 - y)) % 65536
operate And x y = bit_and x y
operate Or x y = bit_or x y
operate Xor x y = bit_xor x y

-- 1 where a sum passes 65,535, or a difference goes below 0
abbrev pub carry : Op → ℕ → ℕ → ℕ
carry Add x y = number_of (nat_lt 65535 (x + y))
carry Sub x y = number_of (nat_lt x y)
carry And x y = 0
carry Or x y = 0
carry Xor x y = 0

abbrev pub holds : Test → ℕ → ℕ → Bool
holds test.Eq x y = x == y
holds test.Ne x y = not (x == y)
holds test.Lt x y = int_lt (wrapped I16 (pos x)) (wrapped I16 (pos y))
holds test.Le x y = not (int_lt (wrapped I16 (pos y)) (wrapped I16 (pos x)))
holds test.LtU x y = nat_lt x y
holds test.LeU x y = nat_le x y

-- of a value, what a byte or a word keeps
abbrev pub kept : (is_word : Bool) → ℕ → ℕ
kept true x = x
kept false x = x % 256

-- a number from its low and its high half
abbrev pub joined : List ℕ → ℕ
joined [] = 0
joined (low ∷ []) = low
joined (low ∷ high ∷ rest) = low + 65536 * high
