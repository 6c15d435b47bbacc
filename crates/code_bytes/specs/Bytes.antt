-- The bytes of items at most, where each jump has its longer form (own).
use Rattle.std.specs.Prelude.{ℕ, ◌*◌, List, length, sum_by}
use Rattle.msp_isa.specs.declared.code.CodeFn.{CodeFn}
use Rattle.msp_isa.specs.declared.code.Item.{Item}
use Rattle.msp_isa.specs.declared.code.Item.TheVariants as item
use Rattle.msp_isa.specs.Encode.{encoded}
use Rattle.msp_layout.specs.Sizes.{long_bytes}

abbrev pub most_bytes : Item → ℕ
most_bytes (item.Is i) = 2 * length (encoded i)
most_bytes (item.Label l) = 0
most_bytes (item.Jump c l) = long_bytes c
most_bytes (item.CallFn f) = 4
most_bytes (item.AddrOf f r) = 4

abbrev pub most_in : List Item → ℕ
most_in items = sum_by most_bytes items

-- the bytes of all functions of a list
abbrev pub most_of : List CodeFn → ℕ
most_of fns = sum_by (λ f. most_in f.items) fns
