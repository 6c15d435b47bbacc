-- The whole program while its parts are put together (own: cut where the code is cut).
use Rattle.std.specs.Prelude.{ℕ, zero, suc, List, [], ◌∷◌, ◌++◌, length, Ok, Err}
use Rattle.nesc_core.specs.Plain as core
use Rattle.nesc_core.specs.Plain.{Body, Field, Object, Program, Ty}
use Rattle.nesc_core.specs.Weights.{objects_start}
use Rattle.nesc_types.specs.Addresses.{addresses}
use Rattle.nesc_types.specs.Rule.{Rule}
use Rattle.elab_objects.specs.Limits.{sizes_within}
use Rattle.program_meaning.specs.Making.{Whole}
use Rattle.program_meaning.specs.Program.{boot_number, objects_from, with_initial}
use Rattle.program_meaning.specs.Walk.{fields_of}

-- ---- bodies

abbrev pub booting : (locals : List Ty) (initial : List core.Stmt) → Body → Body
booting locals initial b = record b { locals = locals; code = with_initial initial b.code }

abbrev pub with_boot : (locals : List Ty) (initial : List core.Stmt) (number : ℕ) → List Body → List Body
with_boot locals initial k [] = []
with_boot locals initial zero (b ∷ bs) = booting locals initial b ∷ bs
with_boot locals initial (suc k) (b ∷ bs) = b ∷ with_boot locals initial k bs

abbrev pub booted : Whole → Whole
booted w = record w { initial = []; boot_locals = []; bodies = with_boot w.boot_locals w.initial (boot_number w.boot) w.bodies }

abbrev pub with_dispatch : Whole → Whole
with_dispatch w = record w { bodies = w.bodies ++ w.dispatch; dispatch = [] }

-- with all bodies
abbrev pub finished : Whole → Whole
finished w = with_dispatch (booted w)

-- ---- the sizes of the variables, where all bodies and so many tasks are within the limits

abbrev pub within_limits : (tasks : ℕ) → Whole → Rule (List ℕ)
within_limits tasks w = sizes_within w.work.structs w.boot w.bodies tasks w.variables

-- ---- objects, structs and the whole

abbrev pub objects_of : (sizes : List ℕ) → Whole → List Object
objects_of sizes w = objects_from 0 w.work.taken (addresses objects_start sizes) w.variables

-- what is left when objects and structs are made
abbrev pub without_variables : Whole → Whole
without_variables w = record w { variables = [] }

abbrev pub without_structs : Whole → Whole
without_structs w = record w { work = record w.work { structs = [] } }

abbrev pub rest : List (List Field) → List Object → (tasks : List ℕ) → Whole → Program
rest structs objects tasks w = record {
  structs = structs;
  objects = objects;
  bodies = w.bodies;
  tasks = tasks;
  handlers = w.handlers;
  boot = boot_number w.boot;
  warnings = w.warnings;
}

-- of a whole with all bodies, whose variables have these sizes
abbrev pub program_by : (tasks sizes : List ℕ) → Whole → Program
program_by tasks sizes w = rest (fields_of w.work.structs) (objects_of sizes w) tasks w

abbrev pub sized_program : (tasks : List ℕ) → Whole → Rule (List ℕ) → Rule Program
sized_program tasks w (Ok sizes) = Ok (program_by tasks sizes w)
sized_program tasks w (Err e) = Err e

-- the program of what was declared, with these tasks
abbrev pub program_of_all : (tasks : List ℕ) → Whole → Rule Program
program_of_all tasks w = sized_program tasks (finished w) (within_limits (length tasks) (finished w))
