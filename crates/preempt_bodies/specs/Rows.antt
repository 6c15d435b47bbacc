-- Worked rows: a body with nested atomic statements, interrupted at each of its slots (own).
use Rattle.std.specs.Prelude.{◌≡◌, ℕ, ◌==◌, true, List, [], ◌∷◌, ◌++◌, map, replicate, if◌then◌else◌}
use Rattle.mote_devices.specs.declared.shown.Shown.{Shown}
use Rattle.mote_devices.specs.declared.shown.Shown.TheVariants as shown
use Rattle.msp_isa.specs.Image.{image_map}
use Rattle.mote_bus.specs.Mote.{Result, mote}
use Rattle.preempt_core.specs.Vectors.{vectors_at}
use Rattle.preempt_core.specs.Rows.{byte_in, gate_board}

-- Reset and sleep. At 0x4010 the boot body: PUSH #0, twice; MOV #1, R15; MOV #4, &0x0100 opens line 2; the outer statement begins, R15 goes to
-- the LEDs, the inner one begins, 2 goes there, the inner one ends, 4 goes there, the outer one ends; ADD #4, SP; RET.
-- At 0x4042 the handler's body: PUSH #0; MOV #0, R15; within a statement 8 goes to the LEDs; ADD #2, SP; RET. At 0x405A the line's code
abbrev pub words : List ℕ
words =
    0x4031 ∷ 0x3900 ∷ 0xD232 ∷ 0x12B0 ∷ 0x4010 ∷ 0xD032 ∷ 0x0018 ∷ 0x3FFD
    ∷ 0x1203 ∷ 0x1203 ∷ 0x431F ∷ 0x42A2 ∷ 0x0100
    ∷ 0x4281 ∷ 0 ∷ 0xC232 ∷ 0x4303 ∷ 0x4F82 ∷ 0x0120
    ∷ 0x4281 ∷ 2 ∷ 0xC232 ∷ 0x4303 ∷ 0x43A2 ∷ 0x0120 ∷ 0x4112 ∷ 2
    ∷ 0x42A2 ∷ 0x0120 ∷ 0x4112 ∷ 0 ∷ 0x5221 ∷ 0x4130
    ∷ 0x1203 ∷ 0x430F ∷ 0x4281 ∷ 0 ∷ 0xC232 ∷ 0x4303 ∷ 0x42B2 ∷ 0x0120 ∷ 0x4112 ∷ 0 ∷ 0x5321 ∷ 0x4130
    ∷ 0x120F ∷ 0x120E ∷ 0x120D ∷ 0x120C ∷ 0x120B ∷ 0x120A ∷ 0x1209 ∷ 0x1208 ∷ 0x1207 ∷ 0x1206 ∷ 0x1205 ∷ 0x1204
    ∷ 0x12B0 ∷ 0x4042
    ∷ 0x4134 ∷ 0x4135 ∷ 0x4136 ∷ 0x4137 ∷ 0x4138 ∷ 0x4139 ∷ 0x413A ∷ 0x413B ∷ 0x413C ∷ 0x413D ∷ 0x413E ∷ 0x413F
    ∷ 0xC0B1 ∷ 0x0010 ∷ 0x0000 ∷ 0x1300 ∷ []

abbrev pub image : ℕ → ℕ
image = image_map words (vectors_at 0x405A 0x4000)

-- sixty slots, with a byte in one of them
abbrev pub interrupted_at : ℕ → Result
interrupted_at s = mote image gate_board (byte_in s) 60

-- 0 for an entry, and what goes to the LEDs
abbrev pub seen : List Shown → List ℕ
seen [] = []
seen (shown.Enter v ∷ es) = 0 ∷ seen es
seen (shown.Out p v ∷ es) = if p == 0x0120 then v ∷ seen es else seen es
seen (_ ∷ es) = seen es

abbrev pub slots : List ℕ
slots = 0 ∷ 1 ∷ 2 ∷ 3 ∷ 4 ∷ 5 ∷ 6 ∷ 7 ∷ 8 ∷ 9 ∷ 10 ∷ 11 ∷ 12 ∷ 13 ∷ 14 ∷ 15 ∷ 16 ∷ 17 ∷ 18 ∷ 19 ∷ 20 ∷ 21 ∷ []

pub record Rows : Type 0 where
  -- The gate shuts behind the NOP in slot 9: a byte up to there has its handler in front of the whole statement, a later one behind it
  pub order : map (λ s. seen (interrupted_at s).shown) slots ≡ replicate 10 (0 ∷ 8 ∷ 1 ∷ 2 ∷ 4 ∷ []) ++ replicate 12 (1 ∷ 2 ∷ 4 ∷ 0 ∷ 8 ∷ [])
  -- The handler is entered in the statement's function, in front of its RET, or out of sleep
  pub least : map (λ s. (interrupted_at s).least) slots ≡ replicate 10 0x38DA ++ (replicate 10 0x38DE ++ replicate 2 0x38E0)
  pub sleeps : map (λ s. (interrupted_at s).off) slots ≡ replicate 22 true
