-- What layout is given of a program with tasks, over the program of its kernel (own).
use Rattle.std.specs.Prelude.{⊤, ◌≡◌, ◌≢◌, ℕ, ◌+◌, ◌<◌, ◌^◌, List, [], ◌∷◌, ◌++◌, map}
use Rattle.std.specs.List.{range_with_len}
use Rattle.nesc_core.specs.Plain.{Program}
use Rattle.nesc_core.specs.WellFormed.{IsWellFormed}
use Rattle.task_queue.specs.Kernel.{Kernel, kernel}
use Rattle.msp_isa.specs.declared.code.CodeFn.{CodeFn}
use Rattle.lower_stmt.specs.Bodies.{lowered}
use Rattle.lower_form.specs.Short.{IsShort}
use Rattle.well_formed.specs.Formed.{Each}
use Rattle.select_emitter.specs.Code.{all_code}
use Rattle.msp_routines.specs.Routines.{routine_fns}
use Rattle.task_pieces.specs.Loop.{loop_of}
use Rattle.program_image.specs.Order.{line_of, reset_place}
use Rattle.image_code.specs.Code.{IsCountable, data_bytes}
use Rattle.image_code.specs.Laws.{CanBeChecked}
use Rattle.task_image.specs.Order.{lone}
use Rattle.task_code.specs.Laws.{IsCompilable}

-- bodies of their own
abbrev pub HaveOwnBodies : List ℕ → Type 0
HaveOwnBodies [] = ⊤
HaveOwnBodies (f ∷ fs) = Each (λ g. f ≢ g) fs × HaveOwnBodies fs

-- a lone RET at place `none`, the loop of tasks, and the lines
abbrev pub pieces_of_kernel : Program → (pop none : ℕ) → List CodeFn
pieces_of_kernel k pop none = lone ∷ loop_of k.boot pop none k.tasks ∷ map (line_of k) (range_with_len 0 8)

abbrev pub code_of_kernel : Program → (pop : ℕ) → List CodeFn
code_of_kernel k pop = all_code (lowered k) ++ (routine_fns (lowered k).checks ++ pieces_of_kernel k pop (reset_place k))

-- code, the place of the loop, and the bytes of data
pub record AreParts (k : Kernel) (code : List CodeFn) (reset ram : ℕ) : Type 0 where
  pub well : IsWellFormed k.program
  pub short : IsShort k.program
  pub can : CanBeChecked (lowered k.program).checks
  pub few : IsCountable code
  pub is_code : code ≡ code_of_kernel k.program k.pop
  pub place : reset ≡ reset_place k.program + 1
  pub is_ram : ram ≡ data_bytes k.program
  pub numbered : reset + 9 < 2 ^ 32

-- of a program that can be compiled
pub record ArePartsOf (p : Program) (code : List CodeFn) (reset ram : ℕ) : Type 0 where
  pub compilable : IsCompilable p
  pub parts : AreParts (kernel p) code reset ram
