-- A whole image with one task, whose bodies do nothing, and whose `pop` finds none: the premises of the law can be met (own).
use Rattle.std.specs.Prelude.{ℕ, ◌==◌, ◌+◌, ◌≤◌, if◌then◌else◌, List, [], ◌∷◌, Some, None}
use Rattle.nm_base.specs.Behaviour.{Returns}
use Rattle.msp_isa.specs.Image.{image_map}
use Rattle.mote_devices.specs.declared.state.BoardState.{BoardState}
use Rattle.mote_devices.specs.WordBoards.{AreWordRows, IsWordBoard, IsWordGiven}
use Rattle.mote_devices.specs.declared.shown.Due.{Due}
use Rattle.mote_bus.specs.Mote.{mote}
use Rattle.preempt_core.specs.Vectors.{vectors_at}
use Rattle.loop_runs.specs.Bodies.{Bodies}
use Rattle.preempt_tasks.specs.Law.{IsLoopOf}

-- body 0 boots and is the handler of every line, body 1 is the task, and body 2 is `pop`
abbrev pub idle_kernel : Bodies
idle_kernel = record {
  does = λ body n. if body == 2 then Returns 255 else Returns 0;
  boot = 0;
  task = λ k. if k == 0 then Some 1 else None;
  handler = λ line. Some 0;
  insert = λ tasks k. tasks;
}

-- reset and the loop; RET at 0x4032; MOV #255, R12 and RET at 0x4034; the handlers' code at 0x403A
abbrev pub idle_code : List ℕ
idle_code =
    0x4031 ∷ 0x3900 ∷ 0xD232 ∷ 0x12B0 ∷ 0x4032
    ∷ 0xC232 ∷ 0x4303 ∷ 0x12B0 ∷ 0x4034
    ∷ 0x903C ∷ 0x00FF ∷ 0x2003 ∷ 0xD032 ∷ 0x0018 ∷ 0x3FF6
    ∷ 0x403D ∷ 0x4032
    ∷ 0x903C ∷ 0x0000 ∷ 0x2002 ∷ 0x403D ∷ 0x4032
    ∷ 0xD232 ∷ 0x128D ∷ 0x3FEC
    ∷ 0x4130
    ∷ 0x403C ∷ 0x00FF ∷ 0x4130
    ∷ 0x120F ∷ 0x120E ∷ 0x120D ∷ 0x120C ∷ 0x120B ∷ 0x120A ∷ 0x1209 ∷ 0x1208 ∷ 0x1207 ∷ 0x1206 ∷ 0x1205 ∷ 0x1204
    ∷ 0x12B0 ∷ 0x4032
    ∷ 0x4134 ∷ 0x4135 ∷ 0x4136 ∷ 0x4137 ∷ 0x4138 ∷ 0x4139 ∷ 0x413A ∷ 0x413B ∷ 0x413C ∷ 0x413D ∷ 0x413E ∷ 0x413F
    ∷ 0xC0B1 ∷ 0x0010 ∷ 0x0000 ∷ 0x1300 ∷ []

abbrev pub idle_image : ℕ → ℕ
idle_image = image_map idle_code (vectors_at 0x403A 0x4000)

-- it does what a loop run does, on every board whose registers hold words, and takes 32 bytes of stack
abbrev pub IdleLoopRuns : Type 0
IdleLoopRuns =
    (b : BoardState) (rows : List Due) (n : ℕ) → IsWordBoard b → AreWordRows IsWordGiven rows →
    IsLoopOf idle_kernel 2 b (mote idle_image b rows) n × (0x3900 ≤ (mote idle_image b rows n).least + 32)
