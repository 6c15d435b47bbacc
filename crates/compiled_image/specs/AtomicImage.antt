-- A whole image whose boot body and handlers act: five goes to a port in an atomic statement, at boot and at each line (own).
use Rattle.std.specs.Prelude.{ℕ, ◌+◌, ◌==◌, ◌≤◌, if◌then◌else◌, List, [], ◌∷◌, Some, slice_index}
use Rattle.nm_base.specs.declared.action.Action.{Action}
use Rattle.nm_base.specs.declared.action.Action.TheVariants as action
use Rattle.msp_isa.specs.Image.{image_map}
use Rattle.core_meaning.specs.Source.{Source}
use Rattle.mote_devices.specs.declared.state.BoardState.{BoardState}
use Rattle.mote_devices.specs.WordBoards.{AreWordRows, IsWordBoard, IsWordGiven}
use Rattle.mote_devices.specs.declared.shown.Due.{Due}
use Rattle.mote_bus.specs.Mote.{mote}
use Rattle.msp_select.specs.AtomicRow.{code}
use Rattle.preempt_core.specs.Allowed.{Allowed}
use Rattle.preempt_core.specs.Vectors.{vectors_at}
use Rattle.compiled_image.specs.Compiled.{source_of}

-- function 0 is the boot body and the handler of every line
abbrev pub source : Source
source = source_of code 0 (λ v. Some 0)

-- reset and sleep; the function at 0x4010; the lines' code at 0x4032
abbrev pub words : List ℕ
words =
    0x4031 ∷ 0x3900 ∷ 0xD232 ∷ 0x12B0 ∷ 0x4010 ∷ 0xD032 ∷ 0x0018 ∷ 0x3FFD
    ∷ 0x1203 ∷ 0x1203 ∷ 0x40B1 ∷ 5 ∷ 2 ∷ 0x4303 ∷ 0x4281 ∷ 0 ∷ 0xC232 ∷ 0x4303 ∷ 0x4192 ∷ 2 ∷ 0x0120 ∷ 0x4112 ∷ 0 ∷ 0x5221 ∷ 0x4130
    ∷ 0x120F ∷ 0x120E ∷ 0x120D ∷ 0x120C ∷ 0x120B ∷ 0x120A ∷ 0x1209 ∷ 0x1208 ∷ 0x1207 ∷ 0x1206 ∷ 0x1205 ∷ 0x1204
    ∷ 0x12B0 ∷ 0x4010
    ∷ 0x4134 ∷ 0x4135 ∷ 0x4136 ∷ 0x4137 ∷ 0x4138 ∷ 0x4139 ∷ 0x413A ∷ 0x413B ∷ 0x413C ∷ 0x413D ∷ 0x413E ∷ 0x413F
    ∷ 0xC0B1 ∷ 0x0010 ∷ 0x0000 ∷ 0x1300 ∷ []

abbrev pub image : ℕ → ℕ
image = image_map words (vectors_at 0x4032 0x4000)

-- the silent actions in front of the function's instructions
abbrev pub marks : ℕ → List Action
marks pc =
    if pc == 0x401A then action.Tick ∷ [] else
    if pc == 0x4022 then action.Begin ∷ [] else
    if pc == 0x402A then action.End ∷ [] else []

abbrev pub places : ℕ → ℕ → ℕ
places f k = slice_index (0x4014 ∷ 0x401A ∷ 0x401C ∷ 0x4024 ∷ 0x402A ∷ 0x402E ∷ 0x4032 ∷ []) k

-- it does what the middle code does, at a pace of 56, and takes 40 bytes of stack
abbrev pub AtomicRuns : Type 0
AtomicRuns =
    (b : BoardState) (rows : List Due) (n : ℕ) → IsWordBoard b → AreWordRows IsWordGiven rows →
    Allowed source 56 b (mote image b rows) n × (0x3900 ≤ (mote image b rows n).least + 40)
