-- Where the code of an operation is laid out, the routine that a Help asks for stands (own).
use Rattle.std.specs.Prelude.{◌≡◌, ℕ, ◌+◌, ◌<◌, ◌≤◌, List, [], length}
use Rattle.nm_base.specs.declared.memory_map.TheConstants.{RAM_START}
use Rattle.nm_base.specs.declared.action.Action.{Action}
use Rattle.msp_isa.specs.declared.code.CodeFn.{CodeFn}
use Rattle.msp_isa.specs.Stands.{IsLaid, items_of}
use Rattle.msp430_cpu.specs.Cpu.{even}
use Rattle.mid_code.specs.declared.code.MidCode.{MidCode}
use Rattle.msp_select.specs.Routine.{IsRoutine}
use Rattle.msp_runtime.specs.Code.{depth, routine_items, weight}
use Rattle.msp_runtime.specs.Routines.{code_at}

-- no silent actions stand in a function
abbrev pub IsUnmarked : (marks : ℕ → List Action) → (places : ℕ → ℕ) → (items : ℕ) → Type 0
IsUnmarked marks places items = (k a : ℕ) → k < items → places k ≤ a → a < places (k + 1) → marks a ≡ []

-- where the routine of number h is function f of what is laid out
abbrev pub RoutinesAreRoutines : Type 0
RoutinesAreRoutines =
    (c : MidCode) (image : ℕ → ℕ) (data_end : ℕ) (marks : ℕ → List Action) (entries : ℕ → ℕ) (out : List CodeFn) (laid : IsLaid image out entries) (f h : ℕ) →
    h < 48 → RAM_START ≤ data_end → f < length out → items_of out f ≡ routine_items (code_at h) → IsUnmarked marks (laid.places f) (length (items_of out f)) → even (entries f) ≡ entries f → entries f < 0x10000 →
    IsRoutine c image data_end marks h (entries f) (weight (code_at h) + 2)

-- with RET, and with the return address
abbrev pub RoutinesAreShort : Type 0
RoutinesAreShort = (h : ℕ) → (weight (code_at h) + 1 ≤ 600) × (depth (code_at h) + 2 ≤ 60)
