-- A worked row: Blink with three timers (close to TinyOS's), and the program that it is wired to, worked out by hand.
use Rattle.std.specs.Prelude.{◌≡◌, ℕ, Bool, true, false, pos, List, [], ◌∷◌, ◌++◌, codes, Option, Some, None, Ok}
use Rattle.nm_base.specs.declared.int_type.IntType.TheVariants.{U8, I16, U16, U32}
use Rattle.nm_base.specs.declared.pos.Pos.{Pos}
use Rattle.nesc_core.specs.declared.tree.BinOp.TheVariants as bin_op
use Rattle.nesc_core.specs.Plain as core
use Rattle.nesc_core.specs.Plain.{Body, Expr, Field, Program, Stmt, void, int, array, convert}
use Rattle.nesc_core.specs.View.{stmts}
use Rattle.nesc_tree.specs.Plain as s
use Rattle.wire_targets.specs.declared.end.End.{End}
use Rattle.core_meaning.specs.BootBody.{ecombine, default_init, default_booted}
use Rattle.program_meaning.specs.Parts.{Application, Elem}
use Rattle.program_meaning.specs.RowForms.{place, plain, elem, end, end_at, instance, num, code, out, calling, function, item}
use Rattle.program_meaning.specs.BuiltIn as built_in
use Rattle.program_meaning.specs.BlinkTrees as trees
use Rattle.program_meaning.specs.PlainRows.{boot, object}
use Rattle.program_meaning.specs.Program.{wired}

-- ---- files 5 to 8 are Timer.h, BlinkC.nc, LedsC.nc and TimerP.nc

abbrev pub blink_at : (line col : ℕ) → Pos
blink_at line col = place 6 line col

abbrev pub leds_at : (line col : ℕ) → Pos
leds_at line col = place 7 line col

abbrev pub timer_at : (line col : ℕ) → Pos
timer_at line col = place 8 line col

abbrev pub timer_elem : (provides : Bool) → (name : List ℕ) → List End → Pos → Elem
timer_elem provides name ends at = record (elem provides name trees.timer ends at) { args = plain (s.named (codes "TMilli")) ∷ [] }

-- 0 BlinkAppC, 1 MainC, 2 BlinkC, 3 LedsC, 4 TimerMilliC#0, 5 TimerMilliP, 6 TimerP, 7 and 8 TimerMilliC#1 and #2
abbrev pub application : Application
application = record {
  headers = built_in.prelude ++ trees.timer_header;
  uniques = [];
  counts = record { text = codes "\"TimerMilliC\""; count = 3 } ∷ [];
  structs = [];
  instances =
      instance (codes "BlinkAppC") [] []
      ∷ instance (codes "MainC") (elem true (codes "Boot") built_in.boot (end 2 4 ∷ []) (place 3 1 35) ∷ elem false (codes "SoftwareInit") built_in.init (end 6 0 ∷ []) (place 3 1 64) ∷ []) built_in.main
      ∷ instance (codes "BlinkC")
      (timer_elem false (codes "Timer0") (end_at 6 1 0 ∷ []) (blink_at 3 36)
      ∷ timer_elem false (codes "Timer1") (end_at 6 1 1 ∷ []) (blink_at 4 36)
      ∷ timer_elem false (codes "Timer2") (end_at 6 1 2 ∷ []) (blink_at 5 36)
      ∷ elem false (codes "Leds") trees.leds (end 3 0 ∷ []) (blink_at 6 18)
      ∷ elem false (codes "Boot") built_in.boot (end 1 0 ∷ []) (blink_at 7 18)
      ∷ [])
      trees.blink
      ∷ instance (codes "LedsC") (elem true (codes "Leds") trees.leds (end 2 3 ∷ []) (leds_at 1 35) ∷ []) trees.lamps
      ∷ instance (codes "TimerMilliC") [] []
      ∷ instance (codes "TimerMilliP") [] []
      ∷ instance (codes "TimerP")
      (elem true (codes "Init") built_in.init (end 1 1 ∷ []) (timer_at 3 22)
      ∷ record (timer_elem true (codes "Timer") [] (timer_at 4 39)) {
        parameter = Some U8;
        named =
            record { value = 0; ends = end 2 0 ∷ [] }
            ∷ record { value = 1; ends = end 2 1 ∷ [] }
            ∷ record { value = 2; ends = end 2 2 ∷ [] }
            ∷ [];
      }
      ∷ [])
      trees.timers
      ∷ instance (codes "TimerMilliC") [] []
      ∷ instance (codes "TimerMilliC") [] []
      ∷ [];
}

-- ---- bodies

abbrev pub started : (line n value : ℕ) → Stmt
started line n value = core.eval (calling 14 (num U8 value ∷ convert U32 (num I16 n) ∷ []) (blink_at line 5))

abbrev pub fired : (name : List ℕ) → (line led : ℕ) → Body
fired name line led = item name 0 [] void (core.eval (calling led [] (blink_at line 31)) ∷ [])

abbrev pub on : (line col : ℕ) → Expr
on line col = core.read (core.object 0) (leds_at line col)

-- on = on ^ n, and to the port
abbrev pub toggled : (name : List ℕ) → (line n : ℕ) → Body
toggled name line n = record (item name 0 [] void
    (core.atomic (code (core.eval (core.assign (core.object 0) (core.bin bin_op.Xor U16 (on line 56) (convert U16 (num I16 n))) (leds_at line 51)) ∷ out 0x0120 (on line 83) ∷ []))
    ∷ [])) { is_async = true }

abbrev pub number : (port n : ℕ) → Stmt
number port n = out port (convert U16 (num I16 n))

abbrev pub local : (k line col : ℕ) → Expr
local k line col = core.read (core.local k) (timer_at line col)

abbrev pub element : (object line col : ℕ) → core.Place
element k line col = core.index (core.object k) (local 0 line col)

abbrev pub is_zero : core.Place → (line col : ℕ) → Expr
is_zero p line col = core.bin bin_op.Eq U32 (core.read p (timer_at line col)) (convert U32 (num I16 0))

abbrev pub tick : Body
tick = function (codes "TimerP.tick") 0 (int U8 ∷ []) void
    (core.clear 0
    ∷ code (core.eval (core.assign (core.local 0) (convert U8 (num I16 0)) (timer_at 18 10))
    ∷ core.loop true (core.bin bin_op.Lt I16 (convert I16 (local 0 18 17)) (num I16 3)) (Some (core.update (core.local 0) bin_op.Add I16 (num I16 1) true (timer_at 18 24)))
    (code (core.branch (is_zero (element 1 19 18) 19 11) core.continue (code [])
    ∷ core.eval (core.update (element 2 20 12) bin_op.Sub U32 (convert U32 (num I16 250)) false (timer_at 20 7))
    ∷ core.branch (is_zero (element 2 21 16) 21 11)
    (code (core.eval (core.assign (element 2 21 32) (core.read (element 1 21 44) (timer_at 21 37)) (timer_at 21 27)) ∷ core.eval (calling 16 (local 0 21 67 ∷ []) (timer_at 21 48)) ∷ []))
    (code [])
    ∷ []))
    ∷ [])
    ∷ [])

abbrev pub start_periodic : Body
start_periodic = item (codes "TimerP.Timer.startPeriodic") 2 (int U8 ∷ int U32 ∷ []) void
    (core.eval (core.assign (element 1 25 70) (local 1 25 76) (timer_at 25 63)) ∷ core.eval (core.assign (element 2 25 85) (local 1 25 91) (timer_at 25 80)) ∷ [])

abbrev pub case : (value : Option ℕ) → (start : ℕ) → core.Case
case (Some n) start = record { value = Some (pos n); start = start }
case None start = record { value = None; start = start }

abbrev pub called : ℕ → List Expr → List Stmt
called body arguments = core.eval (calling body arguments (timer_at 21 48)) ∷ core.break ∷ []

abbrev pub dispatch_fired : Body
dispatch_fired = function (codes "wire TimerP.Timer.fired") 1 (int U8 ∷ []) void
    (core.switch (local 0 21 48) (case (Some 0) 0 ∷ case (Some 1) 2 ∷ case (Some 2) 4 ∷ case None 6 ∷ [])
    (stmts (called 5 [] ++ (called 6 [] ++ (called 7 [] ++ called 15 (local 0 21 48 ∷ [])))))
    ∷ [])

abbrev pub not_used : Field
not_used = record { name = codes "notUsed"; ty = int I16 }

abbrev pub program : Program
program = record {
  structs = (not_used ∷ []) ∷ [];
  objects =
      object (codes "LedsC.on") (int U16) 0x1100 false
      ∷ object (codes "TimerP.period") (array (int U32) 3) 0x1102 false
      ∷ object (codes "TimerP.left") (array (int U32) 3) 0x110e false
      ∷ [];
  bodies =
      ecombine
      ∷ default_init
      ∷ default_booted
      ∷ boot 11 4 [] []
      ∷ item (codes "BlinkC.Boot.booted") 0 [] void (started 11 250 0 ∷ started 12 500 1 ∷ started 13 1000 2 ∷ [])
      ∷ fired (codes "BlinkC.Timer0.fired") 15 8
      ∷ fired (codes "BlinkC.Timer1.fired") 16 9
      ∷ fired (codes "BlinkC.Timer2.fired") 17 10
      ∷ toggled (codes "LedsC.Leds.led0Toggle") 4 1
      ∷ toggled (codes "LedsC.Leds.led1Toggle") 5 2
      ∷ toggled (codes "LedsC.Leds.led2Toggle") 6 4
      ∷ item (codes "TimerP.Init.init") 0 [] (int U8) (number 0x012a 250 ∷ number 0x0128 1 ∷ number 0x0100 2 ∷ core.return (Some (convert U8 (num I16 0))) ∷ [])
      ∷ tick
      ∷ function (codes "TimerP.line") 0 [] void (core.eval (core.post 0) ∷ [])
      ∷ start_periodic
      ∷ item (codes "TimerP.Timer.fired") 1 (int U8 ∷ []) void []
      ∷ dispatch_fired
      ∷ [];
  tasks = 12 ∷ [];
  handlers = (1, 13) ∷ [];
  boot = 3;
  warnings = [];
}

pub record BlinkRows : Type 0 where
  pub blink : wired application ≡ Ok program
