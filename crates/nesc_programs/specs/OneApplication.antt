-- Files that are told give one program (own).
use Rattle.std.specs.Prelude.{◌≡◌, Option}
use Rattle.nm_base.specs.declared.fault.Fault.{Fault}
use Rattle.nesc_preproc.specs.Sources.{Known}
use Rattle.nesc_core.specs.Plain.{Program}
use Rattle.wire_reading.specs.Order.{Name}
use Rattle.wire_reading.specs.Told.{IsOfFiles, Told}
use Rattle.nesc_programs.specs.Programs.{HasProgram, IsStopped}

pub record OneApplication : Type 0 where
  -- files that give a program give the same each time
  pub one : (told : Told) (app : Name) (p q : Program) → HasProgram told app p → HasProgram told app q → p ≡ q
  -- they are not refused
  pub no_fault : (told : Told) (app : Name) (p : Program) (e : Fault) (known : Option Known) → HasProgram told app p → IsStopped told app e known → IsOfFiles e → ⊥
