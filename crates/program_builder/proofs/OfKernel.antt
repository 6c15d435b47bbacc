-- What layout is given of a kernel is what it is given of the program.
use Rattle.std.proofs.Common.{◌≡◌, ℕ, ◌≤◌, List, length, Result, Ok, Err, IfOk, sym, subst}
use Rattle.nm_base.specs.declared.no_memory.NoMemory.{NoMemory}
use Rattle.nesc_core.specs.Plain.{Program}
use Rattle.nesc_core.specs.Calls.{HasNoCycle}
use Rattle.nesc_core.specs.WellFormed.{IsWellFormed}
use Rattle.task_queue.specs.Kernel.{Fits, Kernel, kernel}
use Rattle.msp_isa.specs.declared.code.CodeFn.{CodeFn}
use Rattle.lean_pace.specs.Lean.{IsLean}
use Rattle.program_builder.specs.declared.kernels.Parts.{Parts}
use Rattle.program_builder.specs.Parts.{AreParts, ArePartsOf, HaveOwnBodies}
use Rattle.program_builder.proofs.Differ.{bodies_differ}

module _ (p : Program) (k : Kernel) (made : k ≡ kernel p) (fits : Fits p) where
  pub few_tasks : length k.program.tasks ≤ 254
  few_tasks = subst (λ (k : Kernel). length k.program.tasks ≤ 254) (sym made) fits.tasks

  module _ (well : IsWellFormed p) (ranked : HasNoCycle p) (lean : IsLean p) (apart : HaveOwnBodies p.tasks) where
    of_program : (code : List CodeFn) (reset ram : ℕ) → AreParts (kernel p) code reset ram → ArePartsOf p code reset ram
    of_program code reset ram x = record {
      compilable = record {
        well = well;
        ranked = ranked;
        fits = fits;
        lean = lean;
        apart = bodies_differ p.tasks apart;
        kernel_well = x.well;
        short = x.short;
      };
      parts = x;
    }

    pub all_parts : (r : Result Parts NoMemory) → IfOk r (λ x. AreParts k x.code.items x.reset x.ram) → IfOk r (λ x. ArePartsOf p x.code.items x.reset x.ram)
    all_parts (Ok x) h = of_program x.code.items x.reset x.ram (subst (λ (k : Kernel). AreParts k x.code.items x.reset x.ram) made h)
    all_parts (Err e) h = tt
