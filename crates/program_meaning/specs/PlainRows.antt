-- Worked rows: applications that are one module, and the programs that they are wired to, worked out by hand from their texts.
use Rattle.std.specs.Prelude.{◌≡◌, ℕ, ◌+◌, Bool, true, false, List, [], ◌∷◌, ◌++◌, codes, Some, Ok}
use Rattle.nm_base.specs.declared.int_type.IntType.TheVariants.{U8, I16, U16, I32, U32}
use Rattle.nm_base.specs.declared.pos.Pos.{Pos}
use Rattle.nesc_core.specs.declared.tree.UnOp.TheVariants as un_op
use Rattle.nesc_core.specs.declared.tree.BinOp.TheVariants as bin_op
use Rattle.nesc_core.specs.Plain as core
use Rattle.nesc_core.specs.Plain.{Body, Expr, Object, Program, Stmt, Ty, Warning, void, int, pointer, array, convert}
use Rattle.core_meaning.specs.BootBody.{ecombine, default_init, default_booted}
use Rattle.body_meaning.specs.Tree.{Decl}
use Rattle.program_meaning.specs.Parts.{Application}
use Rattle.program_meaning.specs.RowForms.{place, elem, end, instance, num, code, out, calling, function, item}
use Rattle.program_meaning.specs.BuiltIn as built_in
use Rattle.program_meaning.specs.PlainTrees as trees
use Rattle.program_meaning.specs.Program.{wired}

-- file 1 is the application's, 2 Boot.nc, 3 MainC.nc and 4 Init.nc
abbrev pub at : (line col : ℕ) → Pos
at line col = place 1 line col

-- a module whose one element is Boot, wired to MainC
abbrev pub application : (name : List ℕ) → List Decl → Application
application name decls = record {
  headers = built_in.prelude;
  uniques = [];
  counts = [];
  structs = [];
  instances =
      instance name (elem false (codes "Boot") built_in.boot (end 1 0 ∷ []) (at 1 40) ∷ []) decls
      ∷ instance (codes "MainC") (elem true (codes "Boot") built_in.boot (end 0 0 ∷ []) (place 3 1 35) ∷ elem false (codes "SoftwareInit") built_in.init [] (place 3 1 64) ∷ []) built_in.main
      ∷ [];
}

-- the boot function, whose dispatch function has this number and calls `booted` of this one; the initial values come first
abbrev pub boot : (dispatch booted : ℕ) → (locals : List Ty) → (initial : List Stmt) → Body
boot dispatch booted locals initial =
    function (codes "MainC.boot") 0 locals void
    (core.atomic (code (initial ++ (core.eval (calling dispatch [] (place 3 6 14)) ∷ []))) ∷ core.eval (calling booted [] (place 3 7 5)) ∷ [])

-- no wire leads on from SoftwareInit, so its default is called
abbrev pub init_dispatch : (default : ℕ) → Body
init_dispatch default =
    function (codes "wire MainC.SoftwareInit.init") 0 [] (int U8) (core.return (Some (calling default [] (place 3 6 14))) ∷ [])

-- behind `booted`
abbrev pub main_bodies : (booted : ℕ) → List Body
main_bodies booted = default_init ∷ default_booted ∷ boot (booted + 4) booted [] [] ∷ init_dispatch (booted + 1) ∷ []

-- a module's bodies stand behind that of the prelude; its last one is `booted`, and those of MainC have the numbers behind it
abbrev pub program : (booted : ℕ) → List Object → List Body → (tasks : List ℕ) → (handlers : List (ℕ × ℕ)) → Program
program booted objects bodies tasks handlers = record {
  structs = [];
  objects = objects;
  bodies = ecombine ∷ (bodies ++ main_bodies booted);
  tasks = tasks;
  handlers = handlers;
  boot = booted + 3;
  warnings = [];
}

abbrev pub object : (name : List ℕ) → Ty → (addr : ℕ) → (is_taken : Bool) → Object
object name t addr is_taken = record { name = name; ty = t; addr = addr; norace = false; taken = is_taken }

abbrev pub local : (k line col : ℕ) → Expr
local k line col = core.read (core.local k) (at line col)

abbrev pub set_local : (k : ℕ) → Expr → (line col : ℕ) → Stmt
set_local k e line col = core.eval (core.assign (core.local k) e (at line col))

abbrev pub set_object : (k : ℕ) → Expr → (line col : ℕ) → Stmt
set_object k e line col = core.eval (core.assign (core.object k) e (at line col))

-- `uint8_t a`, `uint8_t b` as int
abbrev pub sum : (a b : Expr) → Expr
sum a b = core.bin bin_op.Add I16 (convert I16 a) (convert I16 b)

abbrev pub minus : ℕ → Expr
minus n = core.un un_op.Neg I16 (num I16 n)

abbrev pub written : Expr → Stmt
written e = out 0x0130 (convert U16 e)

abbrev pub first_element : ℕ → Expr
first_element k = core.addr (core.index (core.object k) (num I16 0))

abbrev pub behind : (k line col n : ℕ) → core.Place
behind k line col n = core.deref (core.offset (core.read (core.object k) (at line col)) (num I16 n) 1) (int U8)

pub record PlainRows : Type 0 where
  pub numbers : wired (application (codes "NumC") trees.numbers) ≡ Ok (program 1 []
      (item (codes "NumC.Boot.booted") 0 (int U8 ∷ int U8 ∷ []) void
      (core.clear 0
      ∷ set_local 0 (convert U8 (num I16 200)) 4 13
      ∷ core.clear 1
      ∷ set_local 1 (convert U8 (num I16 100)) 4 30
      ∷ written (sum (local 0 5 24) (local 1 5 28))
      ∷ written (convert U8 (sum (local 0 6 34) (local 1 6 38)))
      ∷ written (core.bin bin_op.Shl I16 (num I16 1) (num I16 15))
      ∷ written (core.bin bin_op.Shl I16 (num I16 1) (num I16 16))
      ∷ written (core.bin bin_op.Shr I16 (minus 1) (num I16 20))
      ∷ written (core.bin bin_op.Lt U16 (convert U16 (minus 1)) (num U16 1))
      ∷ written (core.bin bin_op.Add I32 (num I32 40000) (convert I32 (num I16 30000)))
      ∷ written (core.bin bin_op.Div I16 (minus 7) (num I16 2))
      ∷ written (core.bin bin_op.Rem I16 (minus 7) (num I16 2))
      ∷ [])
      ∷ []) [] [])
  pub torn : wired (application (codes "TornC") trees.torn) ≡ Ok (program 2
      (object (codes "TornC.t") (int U32) 0x1100 false ∷ [])
      (function (codes "TornC.rx") 0 [] void (set_object 0 (convert U32 (core.port_in 0x0130)) 4 44 ∷ [])
      ∷ item (codes "TornC.Boot.booted") 0 (int U16 ∷ []) void
      (core.clear 0
      ∷ out 0x0100 (convert U16 (num I16 4))
      ∷ set_local 0 (convert U16 (core.bin bin_op.Shr U32 (core.read (core.object 0) (at 8 9)) (num I16 16))) 8 5
      ∷ out 0x0120 (local 0 9 24)
      ∷ [])
      ∷ []) [] ((2, 1) ∷ []))
  pub nested : wired (application (codes "NestC") trees.nested) ≡ Ok (program 3 []
      (function (codes "NestC.put") 1 (int U16 ∷ []) void
      (core.atomic (code (out 0x0130 (local 0 5 26)
      ∷ core.atomic (code (out 0x0130 (core.bin bin_op.Add U16 (local 0 6 35) (convert U16 (num I16 1))) ∷ []))
      ∷ out 0x0130 (core.bin bin_op.Add U16 (local 0 7 26) (convert U16 (num I16 2)))
      ∷ []))
      ∷ [])
      ∷ function (codes "NestC.rx") 0 [] void (core.eval (calling 1 (convert U16 (num I16 20) ∷ []) (at 10 44)) ∷ [])
      ∷ item (codes "NestC.Boot.booted") 0 [] void
      (out 0x0100 (convert U16 (num I16 4)) ∷ core.eval (calling 1 (convert U16 (num I16 10) ∷ []) (at 11 53)) ∷ [])
      ∷ []) [] ((2, 2) ∷ []))
  pub posts : wired (application (codes "PostC") trees.posts) ≡ Ok (program 3
      (object (codes "PostC.again") (int U8) 0x1100 false ∷ [])
      (function (codes "PostC.t") 0 [] void
      (written (num I16 9)
      ∷ core.branch (core.un un_op.IsZero U8 (core.read (core.object 0) (at 6 10)))
      (code (set_object 0 (convert U8 (num I16 1)) 6 19 ∷ written (core.post 0) ∷ []))
      (code [])
      ∷ [])
      ∷ function (codes "PostC.rx") 0 [] void (written (core.post 0) ∷ written (core.post 0) ∷ [])
      ∷ item (codes "PostC.Boot.booted") 0 [] void (out 0x0100 (convert U16 (num I16 4)) ∷ written (core.post 0) ∷ written (core.post 0) ∷ [])
      ∷ []) (1 ∷ []) ((2, 2) ∷ []))
  pub pointers : wired (application (codes "PtrC") trees.pointers) ≡ Ok (program 1
      (object (codes "PtrC.a") (array (int U8) 2) 0x1100 true
      ∷ object (codes "PtrC.b") (array (int U8) 2) 0x1102 true
      ∷ object (codes "PtrC.p") (pointer (int U8)) 0x1104 false
      ∷ [])
      (item (codes "PtrC.Boot.booted") 0 [] void
      (set_object 2 (first_element 1) 5 5
      ∷ set_object 2 (first_element 0) 5 12
      ∷ core.eval (core.assign (behind 2 5 19 2) (convert U8 (num I16 5)) (at 5 19))
      ∷ written (core.read (core.index (core.object 1) (num I16 0)) (at 5 48))
      ∷ core.eval (core.assign (behind 2 5 55 4) (convert U8 (num I16 1)) (at 5 55))
      ∷ written (num I16 6)
      ∷ [])
      ∷ []) [] [])
