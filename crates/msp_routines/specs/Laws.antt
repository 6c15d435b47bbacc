-- What holds of all routines: each stands at its place, and they can be laid out (own).
use Rattle.std.specs.Prelude.{◌≡◌, ℕ, ◌<◌, ◌≤◌, List, [], length}
use Rattle.nm_base.specs.declared.memory_map.TheConstants.{RAM_START}
use Rattle.nm_base.specs.declared.action.Action.{Action}
use Rattle.msp_isa.specs.declared.code.CodeFn.{CodeFn}
use Rattle.msp_isa.specs.Stands.{IsLaid, items_of}
use Rattle.msp430_cpu.specs.Cpu.{even}
use Rattle.mid_code.specs.declared.code.Check.{Check}
use Rattle.mid_code.specs.declared.code.MidCode.{MidCode}
use Rattle.msp_select.specs.Routine.{IsRoutine}
use Rattle.msp_select.specs.Select.{routine_of}
use Rattle.msp_layout.specs.Depth.{calls_of}
use Rattle.msp_layout.specs.Laid.{IsGoodFn}
use Rattle.msp_runtime.specs.Laws.{IsUnmarked}
use Rattle.msp_checks.specs.Written.{AreOfWords, HaveFewRuns}
use Rattle.msp_routines.specs.Routines.{HasRoutine, routine_bound, routine_fns, with_routines}

-- Behind the functions of a program, and in front of whatever stands there, the routine of each helper is at the place that selected
-- code calls
abbrev pub RoutinesStand : Type 0
RoutinesStand =
    (c : MidCode) (image : ℕ → ℕ) (data_end : ℕ) (marks : ℕ → List Action) (entries : ℕ → ℕ) (functions behind : List CodeFn) (laid : IsLaid image (with_routines functions c.checks behind) entries) (h f : ℕ) →
    HasRoutine (length c.checks) h → f ≡ routine_of (length functions) h → AreOfWords c.checks → RAM_START ≤ data_end →
    IsUnmarked marks (laid.places f) (length (items_of (with_routines functions c.checks behind) f)) → even (entries f) ≡ entries f → entries f < 0x10000 →
    IsRoutine c image data_end marks h (entries f) (routine_bound c.checks h)

-- among however many functions
abbrev pub RoutinesCanBeLaidOut : Type 0
RoutinesCanBeLaidOut =
    (checks : List Check) (fns f : ℕ) → HaveFewRuns checks → AreOfWords checks → f < length (routine_fns checks) → IsGoodFn fns (items_of (routine_fns checks) f) (calls_of (routine_fns checks) f)

abbrev pub RoutinesCallNothing : Type 0
RoutinesCallNothing = (checks : List Check) (f : ℕ) → f < length (routine_fns checks) → calls_of (routine_fns checks) f ≡ []
