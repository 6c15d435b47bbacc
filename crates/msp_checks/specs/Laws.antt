-- Where the code of a check is laid out, the routine that a Help of its number asks for stands (own).
use Rattle.std.specs.Prelude.{◌≡◌, ℕ, ◌+◌, ◌*◌, ◌<◌, ◌≤◌, List, length, Some, slice_get}
use Rattle.nm_base.specs.declared.memory_map.TheConstants.{RAM_START}
use Rattle.nm_base.specs.declared.action.Action.{Action}
use Rattle.msp_isa.specs.declared.code.CodeFn.{CodeFn}
use Rattle.msp_isa.specs.Stands.{IsLaid, items_of}
use Rattle.msp430_cpu.specs.Cpu.{even}
use Rattle.mid_code.specs.declared.code.Check.{Check}
use Rattle.mid_code.specs.declared.code.MidCode.{MidCode}
use Rattle.mid_code.specs.Help.{first_check}
use Rattle.msp_select.specs.Routine.{IsRoutine}
use Rattle.msp_runtime.specs.Code.{depth}
use Rattle.msp_runtime.specs.Laws.{IsUnmarked}
use Rattle.msp_checks.specs.Checks.{IsOfWords, check_code, check_items, check_most}

-- where check k of a program is function f of what is laid out
abbrev pub ChecksAreRoutines : Type 0
ChecksAreRoutines =
    (c : MidCode) (k : ℕ) (check : Check) (image : ℕ → ℕ) (data_end : ℕ) (marks : ℕ → List Action) (entries : ℕ → ℕ) (out : List CodeFn) (laid : IsLaid image out entries) (f : ℕ) →
    slice_get c.checks k ≡ Some check → IsOfWords check → RAM_START ≤ data_end → f < length out → items_of out f ≡ check_items check → IsUnmarked marks (laid.places f) (length (items_of out f)) → even (entries f) ≡ entries f → entries f < 0x10000 →
    IsRoutine c image data_end marks (first_check + k) (entries f) (check_most check)

-- eight instructions a run, and a stack of two words with the return address
abbrev pub ChecksAreShort : Type 0
ChecksAreShort = (check : Check) → (check_most check ≤ 178 + 8 * length check.runs) × (depth (check_code check) + 2 ≤ 4)
