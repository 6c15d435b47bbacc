-- What operations give on bits, by the arithmetic of the core language (own).
use Rattle.std.specs.Prelude.{ℕ, ℤ, pos, ◌%◌, Bool, true, false, Option, None, Some, if◌then◌else◌}
use Rattle.nm_base.specs.declared.int_type.IntType.{IntType}
use Rattle.nm_base.specs.IntType.{width, wrapped}
use Rattle.nesc_core.specs.declared.tree.BinOp.{BinOp}
use Rattle.nesc_core.specs.declared.tree.BinOp.TheVariants.{Shl, Shr}
use Rattle.core_meaning.specs.Numbers.{binary, residue}

abbrev pub is_shift : BinOp → Bool
is_shift Shl = true
is_shift Shr = true
is_shift _ = false

-- the count of a shift is a word
abbrev pub second : BinOp → IntType → ℕ → ℤ
second op t y = if is_shift op then pos (y % 65536) else wrapped t (pos y)

abbrev pub bits : IntType → Option ℤ → Option ℕ
bits t None = None
bits t (Some z) = Some (residue (width t) z)

abbrev pub wanted : BinOp → IntType → (x y : ℕ) → Option ℕ
wanted op t x y = bits t (binary op t (wrapped t (pos x)) (second op t y))
