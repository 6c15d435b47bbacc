-- The cells of the memory from 0x4000 on (own).
use Rattle.std.specs.Prelude.{ℕ, ◌-◌, nat_le, if◌then◌else◌, List, Option, None}
use Rattle.std.specs.List.{slice_get}
use Rattle.std.specs.Option.{option_and_then}
use Rattle.nm_base.specs.declared.memory_map.TheConstants.{CODE_START}

-- what an address names: nothing below the first cell and behind the last
abbrev pub cells_map : List (Option ℕ) → ℕ → Option ℕ
cells_map cells a = if nat_le CODE_START a then option_and_then (λ o. o) (slice_get cells (a - CODE_START)) else None
