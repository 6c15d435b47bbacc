-- Which applications a mode takes, and why one is refused: behind its wired program come the graph of its calls, its race report, and in modes
-- that build its image (own: the order of the phases).
use Rattle.std.specs.Prelude.{◌+◌, ◌≤◌, ◌⊎◌, ℕ, List, length, Option, Some, None}
use Rattle.nm_base.specs.declared.fault.Fault.{Fault}
use Rattle.nm_base.specs.declared.fault.Fault.TheVariants as fault
use Rattle.nm_base.specs.declared.limit.Room.{Room}
use Rattle.nm_base.specs.declared.limit.Room.TheVariants.{Code, Ram}
use Rattle.nm_base.specs.declared.memory_map.TheConstants.{CODE_BYTES, RAM_BYTES}
use Rattle.nesc_preproc.specs.Sources.{Known}
use Rattle.nesc_preproc.specs.Expands.{Told}
use Rattle.nesc_core.specs.Plain.{Program}
use Rattle.nesc_core.specs.Calls.{HasNoCycle}
use Rattle.nesc_core.specs.Weights.{code_weight, data_weight}
use Rattle.call_graph.specs.Refusals.{HasNoSyncPath, IsDue}
use Rattle.race_checker.specs.Computed.{report_of}
use Rattle.race_report.specs.Limit.{IsWhy, most}
use Rattle.image_sizes.specs.Laws.{IsNeedOfWeights}
use Rattle.image_sizes.specs.StackWeight.{IsStackWeight}
use Rattle.program_builder.specs.Built.{IsCause}
use Rattle.nesc_programs.specs.Programs.{HasProgram, IsProgram, IsStopped}
use Rattle.nm_words.specs.declared.mode.Mode.{Mode}
use Rattle.nm_words.specs.declared.mode.Mode.TheVariants.{Build, Run, Gen}

-- ---- programs

-- calls without a cycle, no handler that reaches what is not `async`, and few rows of its report
pub record IsAccepted (p : Program) : Type 0 where
  pub no_cycle : HasNoCycle p
  pub no_sync : HasNoSyncPath p
  pub few : length (report_of p) ≤ most

-- the mote has room for its image
pub record CanBeBuilt (p : Program) : Type 0 where
  pub has_room : (room : Room) (need : ℕ) → IsCause p (fault.TooLarge room need) → ⊥

-- weights of code, data and stack that fit the mote
pub record HasSmallWeights (p : Program) : Type 0 where
  pub code : code_weight p ≤ CODE_BYTES
  pub stack : ℕ
  pub is_stack : IsStackWeight p stack
  pub memory : data_weight p + stack ≤ RAM_BYTES

-- what is needed and is not there is at most what the weights say
abbrev pub IsWithinWeights : Program → Fault → Type 0
IsWithinWeights p (fault.TooLarge Code need) = need ≤ code_weight p
IsWithinWeights p (fault.TooLarge Ram need) = (weight : ℕ) → IsStackWeight p weight → IsNeedOfWeights p weight need
IsWithinWeights p _ = Unit {0}

-- ---- modes

-- a mode that makes an image of it
abbrev pub Builds : Mode → Type 0
Builds Build = Unit {0}
Builds Run = Unit {0}
Builds Gen = Unit {0}
Builds _ = ⊥

-- where there is room for an image, or the weights fit
abbrev pub Takes : Mode → Program → Type 0
Takes m p = Builds m → CanBeBuilt p ⊎ HasSmallWeights p

-- an application that a mode takes
pub record HasApplication (told : Told) (mode : Mode) (app : List ℕ) : Type 0 where
  pub program : Program
  pub has : HasProgram told app program
  pub accepted : IsAccepted program
  pub taken : Takes mode program

-- ---- refusals

-- why there is no image
abbrev pub IsUnbuilt : Program → Fault → Type 0
IsUnbuilt p e = IsCause p e × IsWithinWeights p e

-- why a mode does not take a program: its calls, its report, its image
abbrev pub IsRefusedIn : Mode → Program → Fault → Type 0
IsRefusedIn m p e = IsDue p e ⊎ ((HasNoCycle p × HasNoSyncPath p × IsWhy p e) ⊎ (Builds m × IsAccepted p × IsUnbuilt p e))

-- why a mode does not take an application, what is known of its files then, and its program where it has one
abbrev pub IsRefused : Told → Mode → List ℕ → Fault → Option Known → Option Program → Type 0
IsRefused told m app e known None = IsStopped told app e known
IsRefused told m app e known (Some p) = IsProgram told app p known × IsRefusedIn m p e
