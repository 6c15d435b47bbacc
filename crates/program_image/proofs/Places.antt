-- Where the functions of a program stand in its image: their entries are even words, and code behind them has no silent actions.
use Rattle.std.proofs.Common.{◌≡◌, ℕ, ◌<◌, ◌≤◌, List, [], length, arith}
use Rattle.nm_base.specs.declared.action.Action.{Action}
use Rattle.nesc_core.specs.Plain.{Program}
use Rattle.msp_isa.specs.declared.code.CodeFn.{CodeFn}
use Rattle.msp430_cpu.specs.Cpu.{even}
use Rattle.lower_stmt.specs.Bodies.{lowered}
use Rattle.lower_pace.specs.Pace.{own_of}
use Rattle.msp_select.specs.Laid.{AreMarked}
use Rattle.compiled_image.proofs.Table.{tables_are_marked}
use Rattle.program_image.specs.Image.{functions_of, homes_of, marks_of}
use Rattle.program_image.specs.Runs.{IsLoweredImage}
use Rattle.program_image.proofs.Entries.{entry_is, function_begins}

module _ (p : Program) (deep : ℕ → ℕ) (image : ℕ → ℕ) (data_end : ℕ) (code : List CodeFn) (entries : ℕ → ℕ) (built : IsLoweredImage p deep image data_end code entries) where
  abbrev marks : ℕ → List Action
  marks = marks_of p built.laid.places

  pub functions_few : functions_of p ≤ length code
  functions_few = let m = built.stands.many in omega (arith, m)

  pub marked : AreMarked (lowered p) (homes_of p) (own_of p) marks built.laid.places × ((g a : ℕ) → functions_of p ≤ g → g < length code → built.laid.places g 0 ≤ a → marks a ≡ [])
  marked = tables_are_marked (lowered p) (homes_of p) (own_of p) code built.laid.places functions_few built.stands.functions built.order

  function_entry : (f : ℕ) → f < functions_of p → (even (entries f) ≡ entries f) × (entries f < 0x10000)
  function_entry f lt = let m = functions_few in entry_is image code entries built.laid f _ (omega (arith, m, lt)) (built.stands.functions f lt) (function_begins p built.well f lt)

  pub even_function : (f : ℕ) → f < functions_of p → even (entries f) ≡ entries f
  even_function f lt = (function_entry f lt).0

  pub small_function : (f : ℕ) → f < functions_of p → entries f < 0x10000
  small_function f lt = (function_entry f lt).1
