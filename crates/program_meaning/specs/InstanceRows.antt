-- Worked rows: initial values, instances of a generic module, and values that wires give parameters, worked out by hand.
use Rattle.std.specs.Prelude.{◌≡◌, ℕ, true, false, pos, [], ◌∷◌, codes, Some, Ok}
use Rattle.nm_base.specs.declared.int_type.IntType.TheVariants.{U8, I16, U16}
use Rattle.nm_base.specs.declared.pos.Pos.{Pos}
use Rattle.nesc_core.specs.declared.tree.BinOp.TheVariants as bin_op
use Rattle.nesc_core.specs.Plain as core
use Rattle.nesc_core.specs.Plain.{Body, Expr, Object, Program, Stmt, Ty, Warning, void, int, array, convert}
use Rattle.core_meaning.specs.BootBody.{ecombine, default_init, default_booted}
use Rattle.program_meaning.specs.Parts.{Application, Elem, Instance, a_type, a_constant}
use Rattle.program_meaning.specs.RowForms.{place, elem, end, end_at, instance, num, calling, function, item}
use Rattle.program_meaning.specs.BuiltIn as built_in
use Rattle.program_meaning.specs.InstanceTrees as trees
use Rattle.program_meaning.specs.WiredTrees as wired_trees
use Rattle.program_meaning.specs.PlainRows.{boot, init_dispatch, object}
use Rattle.program_meaning.specs.WiredRows.{application, program, uses_boot}
use Rattle.program_meaning.specs.Program.{wired}

abbrev pub at : (line col : ℕ) → Pos
at line col = place 5 line col

-- ---- initial values come first in the boot function's atomic statement, and what they keep goes to its locals

abbrev pub initial : Application
initial = application (instance (codes "InitC") (uses_boot ∷ []) trees.initial ∷ [])

abbrev pub set : core.Place → Expr → (line col : ℕ) → Stmt
set p e line col = core.eval (core.assign p e (at line col))

-- `5 > 3`: 5 waits in a local
abbrev pub greater : Expr
greater = core.comma (core.assign (core.local 0) (num I16 5) (at 4 16)) (core.bin bin_op.Lt I16 (num I16 3) (core.read (core.local 0) (at 4 16)))

abbrev pub element : ℕ → core.Place
element i = core.index (core.object 1) (num I16 i)

abbrev pub initial_program : Program
initial_program = record {
  structs = [];
  objects =
      object (codes "InitC.x") (int U16) 0x1100 false
      ∷ object (codes "InitC.y") (array (int U16) 2) 0x1102 false
      ∷ record (object (codes "InitC.z") (int U8) 0x1106 false) { norace = true }
      ∷ [];
  bodies =
      ecombine
      ∷ default_init
      ∷ default_booted
      ∷ boot 6 5 (int I16 ∷ [])
      (set (core.object 0) (convert U16 greater) 4 12
      ∷ set (element 0) (convert U16 (num I16 7)) 4 23
      ∷ set (element 1) (convert U16 (num I16 1)) 4 23
      ∷ set (core.object 2) (calling 4 (convert U8 (num I16 2) ∷ []) (at 5 22)) 5 18
      ∷ [])
      ∷ function (codes "InitC.same") 1 (int U8 ∷ []) (int U8) (core.return (Some (core.read (core.local 0) (at 6 36))) ∷ [])
      ∷ item (codes "InitC.Boot.booted") 0 [] void []
      ∷ init_dispatch 1
      ∷ [];
  tasks = [];
  handlers = [];
  boot = 3;
  warnings = [];
}

-- ---- GenC(uint8_t, 2) and GenC(uint16_t, 3), whose uses of unique have the numbers 0 and 1

abbrev pub generic_instance : (copy : ℕ) → Ty → (n number element : ℕ) → Instance
generic_instance copy t n number element = record (instance (codes "GenC") (elem true (codes "Init") built_in.init (end 2 element ∷ []) (place 6 1 64) ∷ []) trees.generic) {
  copy = Some copy;
  given =
      record { name = codes "t"; argument = a_type t false }
      ∷ record { name = codes "n"; argument = a_constant (U8, pos n) }
      ∷ [];
  uniques = record { at = place 6 3 15; number = number } ∷ [];
}

abbrev pub generic : Application
generic = application
    (instance (codes "UserC") (uses_boot ∷ elem false (codes "A") built_in.init (end 3 0 ∷ []) (at 1 65) ∷ elem false (codes "B") built_in.init (end 4 0 ∷ []) (at 1 91) ∷ []) trees.user
    ∷ generic_instance 0 (int U8) 2 0 1
    ∷ generic_instance 1 (int U16) 3 1 2
    ∷ [])

-- kept[ID] = n
abbrev pub keeps : (k number : ℕ) → Expr → Stmt
keeps k number e = core.eval (core.assign (core.index (core.object k) (num I16 number)) e (place 6 5 33))

abbrev pub success : Stmt
success = core.return (Some (convert U8 (num I16 0)))

abbrev pub generic_program : Program
generic_program = record (program 4 7
    (item (codes "UserC.Boot.booted") 0 [] void (core.eval (calling 5 [] (at 3 30)) ∷ core.eval (calling 6 [] (at 3 45)) ∷ [])
    ∷ item (codes "GenC#0.Init.init") 0 [] (int U8) (keeps 0 0 (num U8 2) ∷ success ∷ [])
    ∷ item (codes "GenC#1.Init.init") 0 [] (int U8) (keeps 1 1 (convert U16 (num U8 3)) ∷ success ∷ [])
    ∷ []) [] []) {
      objects =
          object (codes "GenC#0.kept") (array (int U8) 2) 0x1100 false
          ∷ object (codes "GenC#1.kept") (array (int U16) 3) 0x1102 false
          ∷ [];
    }

-- ---- G -> P[5]; H -> P[6] and OneG; R = P

abbrev pub parametric : Elem
parametric = record (elem true (codes "P") wired_trees.get [] (place 6 1 42)) { parameter = Some U8; named = [] }

abbrev pub given : Application
given = application
    (instance (codes "GivC")
    (uses_boot
    ∷ elem false (codes "G") wired_trees.get (end_at 3 0 5 ∷ []) (at 2 46)
    ∷ elem false (codes "H") wired_trees.get (end_at 3 0 6 ∷ end 4 0 ∷ []) (at 2 71)
    ∷ record (elem false (codes "R") wired_trees.get (end 3 0 ∷ []) (at 3 25)) { parameter = Some U8 }
    ∷ [])
    trees.given
    ∷ instance (codes "ParP") (parametric ∷ []) trees.passed
    ∷ instance (codes "OneG") (elem true (codes "Get") wired_trees.get (end 2 2 ∷ []) (place 7 1 34) ∷ []) wired_trees.one_get
    ∷ [])

abbrev pub given_program : Program
given_program = program 4 7
    (item (codes "GivC.Boot.booted") 0 [] void
    (core.eval (calling 5 (num U8 5 ∷ []) (at 7 5))
    ∷ core.eval (calling 8 [] (at 8 5))
    ∷ core.eval (calling 9 (convert U8 (num I16 7) ∷ []) (at 9 5))
    ∷ [])
    ∷ item (codes "ParP.P.get") 1 (int U8 ∷ []) (int U8) (core.return (Some (core.read (core.local 0) (place 6 3 48))) ∷ [])
    ∷ item (codes "OneG.Get.get") 0 [] (int U8) (core.return (Some (convert U8 (num I16 4))) ∷ [])
    ∷ [])
    (function (codes "wire GivC.H.get") 0 [] (int U8)
    (core.eval (calling 5 (num U8 6 ∷ []) (at 8 5)) ∷ core.return (Some (calling 6 [] (at 8 5))) ∷ [])
    ∷ function (codes "wire GivC.R.get") 1 (int U8 ∷ []) (int U8) (core.return (Some (calling 5 (core.read (core.local 0) (at 9 5) ∷ []) (at 9 5))) ∷ [])
    ∷ [])
    (record { pos = at 8 5; name = codes "wire GivC.H.get" } ∷ [])

pub record InstanceRows : Type 0 where
  pub initial_values : wired initial ≡ Ok initial_program
  pub generic_instances : wired generic ≡ Ok generic_program
  pub given_values : wired given ≡ Ok given_program
