-- The code of a check: the pointer and its remainder by the size of a part are compared with each run (own).
use Rattle.std.specs.Prelude.{ℕ, ◌+◌, ◌-◌, ◌*◌, ◌%◌, ◌<◌, ◌==◌, false, List, [], ◌∷◌, ◌++◌, map, min, if◌then◌else◌}
use Rattle.std.specs.List.{All}
use Rattle.msp_isa.specs.declared.code.CodeFn.{CodeFn}
use Rattle.msp_isa.specs.declared.code.Item.{Item}
use Rattle.msp_isa.specs.declared.code.Item.TheVariants as item
use Rattle.msp_isa.specs.declared.instr.Cond.TheVariants.{Jne, Jeq, Jnc}
use Rattle.msp_isa.specs.declared.instr.Instr.{Instr}
use Rattle.msp_isa.specs.declared.instr.Instr.TheVariants.{Two}
use Rattle.msp_isa.specs.declared.instr.Op2.TheVariants.{Mov, Cmp}
use Rattle.msp_isa.specs.declared.instr.Operand.TheVariants.{Absolute, Immediate}
use Rattle.mid_code.specs.declared.code.Check.{Check}
use Rattle.open_law.specs.Homes.{literal}
use Rattle.msp_runtime.specs.Code.{Code, Nothing, Do, Then, Skip, Keeping, items_from, labels, return, weight}
use Rattle.msp_runtime.specs.Emitted.{routine_fn}
use Rattle.msp_runtime.specs.Routines.{all, compare, divide, set, where_least}

-- an address above those of memory, and no remainder
abbrev pub found : ℕ
found = 0xFFFF

-- the last byte of a run
abbrev pub last_of : (size : ℕ) → ℕ × ℕ → ℕ
last_of size run = min (run.0 + size * run.1 - 1) 0xFFFF

-- With the pointer in R12 and its remainder in R14: R14 is `found` where this is the address of a part
abbrev pub match_code : (size : ℕ) → ℕ × ℕ → Code
match_code size run =
    where_least run.0 12 (all (set (last_of size run) 15 ∷ compare 12 15 ∷ Skip Jnc (all (Do Cmp (literal (run.0 % size)) 14 ∷ Skip Jne (set found 14) ∷ [])) ∷ []))

abbrev pub run_code : (size : ℕ) → ℕ × ℕ → Code
run_code size run = if run.1 == 0 then Nothing else match_code size run

abbrev pub runs_code : (size : ℕ) → List (ℕ × ℕ) → Code
runs_code size [] = Nothing
runs_code size (run ∷ runs) = Then (run_code size run) (runs_code size runs)

-- parts without a size have no runs
abbrev pub runs_of : Check → List (ℕ × ℕ)
runs_of check = if check.size == 0 then [] else check.runs

-- Z tells whether the pointer is an address of a part
abbrev pub check_code : Check → Code
check_code check = all (set check.size 13 ∷ Keeping 12 divide ∷ runs_code check.size (runs_of check) ∷ Do Cmp (literal found) 14 ∷ [])

-- MOV #2, &FAULT
abbrev pub raise : Instr
raise = Two Mov false (Immediate 2) (Absolute 0x104)

-- code that sets Z, and RET where Z is set, else the fault
abbrev pub checked_items : Code → List Item
checked_items c = items_from c 0 ++ item.Jump Jeq (labels c) ∷ item.Is raise ∷ item.Label (labels c) ∷ return ∷ []

abbrev pub check_items : Check → List Item
check_items check = checked_items (check_code check)

abbrev pub check_fn : Check → CodeFn
check_fn check = routine_fn (check_items check)

abbrev pub check_fns : List Check → List CodeFn
check_fns checks = map check_fn checks

-- the instructions that a check takes at most, with a long jump and RET
abbrev pub check_most : Check → ℕ
check_most check = weight (check_code check) + 4

-- the size and the addresses of runs are words
abbrev pub IsWordRun : ℕ × ℕ → Type 0
IsWordRun run = run.0 < 0x10000

pub record IsOfWords (check : Check) : Type 0 where
  pub size : check.size < 0x10000
  pub runs : All IsWordRun (runs_of check)
