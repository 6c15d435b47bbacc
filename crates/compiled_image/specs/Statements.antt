-- The code of an atomic statement, as a piece and as selection writes it (own).
use Rattle.std.specs.Prelude.{◌≡◌, ℕ}
use Rattle.code_pieces.specs.Pieces.{piece_of}
use Rattle.code_pieces.specs.declared.pieces.PieceKind.TheVariants as piece
use Rattle.mid_code.specs.declared.code.MidCode.{MidCode}
use Rattle.mid_code.specs.declared.instr.Mid.TheVariants as mid
use Rattle.msp_select.specs.Select.{items_of, parts_of}
use Rattle.open_law.specs.Homes.{Home}

-- they have the same items
abbrev pub StatementsArePieces : Type 0
StatementsArePieces =
    (c : MidCode) (home : ℕ → Home) (own place : ℕ) →
    (items_of (parts_of c home own (mid.Begin place)) ≡ (piece_of (piece.Begin place)).items) × (items_of (parts_of c home own (mid.End place)) ≡ (piece_of (piece.End place)).items)
