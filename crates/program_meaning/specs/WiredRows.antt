-- Worked rows: applications whose configuration wires several modules, and the programs that they are wired to, worked out by hand.
use Rattle.std.specs.Prelude.{◌≡◌, ℕ, true, false, pos, List, [], ◌∷◌, ◌++◌, codes, Option, Some, None, Ok}
use Rattle.nm_base.specs.declared.int_type.IntType.TheVariants.{U8, I16}
use Rattle.nm_base.specs.declared.pos.Pos.{Pos}
use Rattle.nesc_core.specs.declared.tree.BinOp.TheVariants as bin_op
use Rattle.nesc_core.specs.Plain as core
use Rattle.nesc_core.specs.Plain.{Body, Expr, Program, Stmt, Ty, Warning, void, int, convert}
use Rattle.nesc_core.specs.View.{stmts}
use Rattle.core_meaning.specs.BootBody.{ecombine, default_init, default_booted}
use Rattle.program_meaning.specs.Parts.{Application, Elem, Instance}
use Rattle.program_meaning.specs.RowForms.{place, elem, end, instance, num, calling, function, item}
use Rattle.program_meaning.specs.BuiltIn as built_in
use Rattle.program_meaning.specs.WiredTrees as trees
use Rattle.program_meaning.specs.PlainRows.{boot, init_dispatch, written}
use Rattle.program_meaning.specs.Program.{wired}

-- the module that uses Boot is told by file 5
abbrev pub at : (line col : ℕ) → Pos
at line col = place 5 line col

-- instance 0 is the configuration, 1 MainC, whose Boot is wired to element 0 of instance 2
abbrev pub application : List Instance → Application
application modules = record {
  headers = built_in.prelude;
  uniques = [];
  counts = [];
  structs = [];
  instances =
      instance (codes "AppC") [] []
      ∷ instance (codes "MainC") (elem true (codes "Boot") built_in.boot (end 2 0 ∷ []) (place 3 1 35) ∷ elem false (codes "SoftwareInit") built_in.init [] (place 3 1 64) ∷ []) built_in.main
      ∷ modules;
}

abbrev pub uses_boot : Elem
uses_boot = elem false (codes "Boot") built_in.boot (end 1 0 ∷ []) (at 1 39)

-- the modules' bodies stand behind those of MainC, and behind them the dispatch functions, of which MainC's is the first
abbrev pub program : (booted first_dispatch : ℕ) → (modules dispatch : List Body) → List Warning → Program
program booted first_dispatch modules dispatch warnings = record {
  structs = [];
  objects = [];
  bodies =
      ecombine ∷ default_init ∷ default_booted ∷ boot first_dispatch booted [] [] ∷ (modules ++ (init_dispatch 1 ∷ dispatch));
  tasks = [];
  handlers = [];
  boot = 3;
  warnings = warnings;
}

-- FanC.Init -> AC, AC, BC
abbrev pub fan : Application
fan = application
    (instance (codes "FanC") (uses_boot ∷ elem false (codes "Init") built_in.init (end 3 0 ∷ end 3 0 ∷ end 4 0 ∷ []) (at 1 50) ∷ []) trees.fan
    ∷ instance (codes "AC") (elem true (codes "Init") built_in.init (end 2 1 ∷ end 2 1 ∷ []) (place 6 1 32) ∷ []) trees.a
    ∷ instance (codes "BC") (elem true (codes "Init") built_in.init (end 2 1 ∷ []) (place 7 1 32) ∷ []) trees.b
    ∷ [])

-- ParC.G[1] -> OneG
abbrev pub parameters : Application
parameters = application
    (instance (codes "ParC") (uses_boot ∷ record (elem false (codes "G") trees.get [] (at 1 66)) { parameter = Some U8; named = record { value = 1; ends = end 3 0 ∷ [] } ∷ [] } ∷ []) trees.parameters
    ∷ instance (codes "OneG") (elem true (codes "Get") trees.get (end 2 1 ∷ []) (place 6 1 34) ∷ []) trees.one_get
    ∷ [])

abbrev pub set_result : Expr → Stmt
set_result e = core.eval (core.assign (core.local 0) e (at 4 24))

abbrev pub result : Expr
result = core.read (core.local 0) (at 4 24)

-- the first call of FanC.Init.init, and of ParC.G.get
abbrev pub init_of : ℕ → Expr
init_of body = calling body [] (at 4 24)

abbrev pub combined : Expr → Expr
combined e = calling 0 (result ∷ e ∷ []) (at 4 24)

abbrev pub case : (value : Option ℕ) → (start : ℕ) → core.Case
case (Some n) start = record { value = Some (pos n); start = start }
case None start = record { value = None; start = start }

abbrev pub id : Expr
id = core.read (core.local 0) (at 5 24)

pub record WiredRows : Type 0 where
  pub fan_out : wired fan ≡ Ok (program 4 7
      (item (codes "FanC.Boot.booted") 0 [] void (written (init_of 8) ∷ [])
      ∷ item (codes "AC.Init.init") 0 [] (int U8) (written (num I16 1) ∷ core.return (Some (convert U8 (num I16 0))) ∷ [])
      ∷ item (codes "BC.Init.init") 0 [] (int U8) (written (num I16 2) ∷ core.return (Some (convert U8 (num I16 1))) ∷ [])
      ∷ [])
      (function (codes "wire FanC.Init.init") 0 (int U8 ∷ []) (int U8)
      (set_result (init_of 5) ∷ set_result (combined (init_of 5)) ∷ core.return (Some (combined (init_of 6))) ∷ [])
      ∷ []) [])
  pub parameters_and_defaults : wired parameters ≡ Ok (program 5 7
      (item (codes "ParC.G.get") 1 (int U8 ∷ []) (int U8)
      (core.return (Some (convert U8 (core.bin bin_op.Add I16 (convert I16 (core.read (core.local 0) (at 3 56))) (num I16 6)))) ∷ [])
      ∷ item (codes "ParC.Boot.booted") 0 [] void
      (written (calling 8 (convert U8 (num I16 3) ∷ []) (at 5 24)) ∷ written (calling 8 (convert U8 (num I16 1) ∷ []) (at 6 24)) ∷ [])
      ∷ item (codes "OneG.Get.get") 0 [] (int U8) (core.return (Some (convert U8 (num I16 4))) ∷ [])
      ∷ [])
      (function (codes "wire ParC.G.get") 1 (int U8 ∷ []) (int U8)
      (core.switch id (case (Some 1) 0 ∷ case None 2 ∷ [])
      (stmts (core.return (Some (calling 6 [] (at 5 24))) ∷ core.break ∷ core.return (Some (calling 4 (id ∷ []) (at 5 24))) ∷ core.break ∷ []))
      ∷ [])
      ∷ []) [])
