-- How many bytes items take, and the code that stands in every image (own).
use Rattle.std.specs.Prelude.{ℕ, ◌+◌, ◌≤◌, List, ◌∷◌, map, sum}
use Rattle.std.specs.List.{range_with_len}
use Rattle.core_meaning.specs.SourceOf.{handler_in}
use Rattle.msp_isa.specs.declared.code.CodeFn.{CodeFn}
use Rattle.msp_isa.specs.declared.code.Item.{Item}
use Rattle.code_pieces.specs.Pieces.{handler_of, reset_of}
use Rattle.msp_layout.specs.Sizes.{IsShortest}
use Rattle.msp_runtime.specs.Emitted.{operation_fns}
use Rattle.code_bytes.specs.Bytes.{most_in, most_of}

abbrev pub ItemsAreWithin : Type 0
ItemsAreWithin = (items : List Item) (sizes : List ℕ) → IsShortest items sizes → sum sizes ≤ most_in items

-- reset, and the lines 0 to 7
abbrev pub pieces : (boot : ℕ) (handlers : List (ℕ × ℕ)) → List CodeFn
pieces boot handlers = reset_of boot ∷ map (λ v. handler_of (handler_in handlers v)) (range_with_len 0 8)

-- the operations, reset and the lines
abbrev pub FixedCodeIsSmall : Type 0
FixedCodeIsSmall = (boot : ℕ) (handlers : List (ℕ × ℕ)) → most_of operation_fns + most_of (pieces boot handlers) ≤ 4000
