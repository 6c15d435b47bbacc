-- A whole image whose bodies do nothing: the premises of the law can be met (own).
use Rattle.std.specs.Prelude.{ℕ, ◌+◌, ◌≤◌, List, [], ◌∷◌, Some, None}
use Rattle.msp_isa.specs.Image.{image_map}
use Rattle.core_meaning.specs.Source.{Source}
use Rattle.mote_devices.specs.declared.state.BoardState.{BoardState}
use Rattle.mote_devices.specs.WordBoards.{AreWordRows, IsWordBoard, IsWordGiven}
use Rattle.mote_devices.specs.declared.shown.Due.{Due}
use Rattle.mote_bus.specs.Mote.{mote}
use Rattle.open_law.specs.Body.{acts}
use Rattle.open_law.specs.Laws.{nothing}
use Rattle.preempt_core.specs.Allowed.{Allowed}
use Rattle.preempt_core.specs.Vectors.{vectors_at}

-- body 0 does nothing. It is the boot body and the handler of every line
abbrev pub idle_source : Source
idle_source = record { act = λ body answers n. acts nothing answers n; boot = 0; task = λ k. None; handler = λ v. Some 0; insert = λ tasks k. tasks }

-- reset and sleep; RET at 0x4010; the handlers' code at 0x4012
abbrev pub idle_code : List ℕ
idle_code =
    0x4031 ∷ 0x3900 ∷ 0xD232 ∷ 0x12B0 ∷ 0x4010 ∷ 0xD032 ∷ 0x0018 ∷ 0x3FFD ∷ 0x4130
    ∷ 0x120F ∷ 0x120E ∷ 0x120D ∷ 0x120C ∷ 0x120B ∷ 0x120A ∷ 0x1209 ∷ 0x1208 ∷ 0x1207 ∷ 0x1206 ∷ 0x1205 ∷ 0x1204
    ∷ 0x12B0 ∷ 0x4010
    ∷ 0x4134 ∷ 0x4135 ∷ 0x4136 ∷ 0x4137 ∷ 0x4138 ∷ 0x4139 ∷ 0x413A ∷ 0x413B ∷ 0x413C ∷ 0x413D ∷ 0x413E ∷ 0x413F
    ∷ 0xC0B1 ∷ 0x0010 ∷ 0x0000 ∷ 0x1300 ∷ []

abbrev pub idle_image : ℕ → ℕ
idle_image = image_map idle_code (vectors_at 0x4012 0x4000)

-- it does what the source allows, on every board whose registers hold words, and takes 32 bytes of stack
abbrev pub IdleRuns : Type 0
IdleRuns =
    (b : BoardState) (rows : List Due) (n : ℕ) → IsWordBoard b → AreWordRows IsWordGiven rows →
    Allowed idle_source 33 b (mote idle_image b rows) n × (0x3900 ≤ (mote idle_image b rows n).least + 32)
