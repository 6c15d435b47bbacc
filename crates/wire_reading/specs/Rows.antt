-- Worked rows of the order of reading.
use Rattle.std.specs.Prelude.{ℕ, true, false, cond, List, [], ◌∷◌, ◌++◌, map, codes, Result, Ok, Err}
use Rattle.nm_base.specs.declared.fault.Fault.{Fault}
use Rattle.nm_base.specs.declared.fault.Fault.TheVariants as fault
use Rattle.nm_base.specs.declared.refusal.Refusal.TheVariants as refusal
use Rattle.wire_names.specs.Texts.{same_text}
use Rattle.wire_reading.specs.declared.opener.Need.{Need}
use Rattle.wire_reading.specs.Order.{Name, Answer, Answers}
use Rattle.wire_reading.specs.Computed.{Opens, opening}

-- a file: its name, and the interfaces and the components that it needs, or why it is refused
abbrev pub File : Type 0
File = Name × Result (List Need) Fault

abbrev pub interface : Name → Need
interface name = record { name = name; is_interface = true }

abbrev pub named : Name → Need
named name = record { name = name; is_interface = false }

abbrev pub file : Name → List Name → List Name → File
file name interfaces components = (name, Ok (map interface interfaces ++ map named components))

abbrev pub found_in : List File → Name → Result (List Need) Fault
found_in [] name = Err (fault.Missing name)
found_in (f ∷ files) name = cond (same_text f.0 name) f.1 (found_in files name)

-- the state lists the files that were opened
abbrev pub opens : List File → Opens (List Name)
opens files s need = (found_in files need.name, s ++ need.name ∷ [])

abbrev pub blink : List File
blink =
    file (codes "BlinkAppC") [] (codes "MainC" ∷ codes "BlinkC" ∷ codes "LedsC" ∷ codes "TimerMilliC" ∷ codes "TimerMilliC" ∷ codes "TimerMilliC" ∷ [])
    ∷ file (codes "BlinkC") (codes "Timer" ∷ codes "Timer" ∷ codes "Timer" ∷ codes "Leds" ∷ codes "Boot" ∷ []) []
    ∷ file (codes "LedsC") (codes "Leds" ∷ []) []
    ∷ file (codes "TimerMilliC") (codes "Timer" ∷ []) (codes "TimerMilliP" ∷ [])
    ∷ file (codes "TimerMilliP") (codes "Timer" ∷ []) (codes "MainC" ∷ codes "TimerP" ∷ [])
    ∷ file (codes "TimerP") (codes "Init" ∷ codes "Timer" ∷ []) []
    ∷ file (codes "MainC") (codes "Boot" ∷ codes "Init" ∷ []) []
    ∷ file (codes "Boot") [] [] ∷ file (codes "Init") [] [] ∷ file (codes "Timer") [] [] ∷ file (codes "Leds") [] [] ∷ []

abbrev pub blink_order : List Name
blink_order =
    codes "BlinkAppC" ∷ codes "MainC" ∷ codes "Boot" ∷ codes "Init" ∷ codes "BlinkC" ∷ codes "Timer" ∷ codes "Leds" ∷ codes "LedsC"
    ∷ codes "TimerMilliC" ∷ codes "TimerMilliP" ∷ codes "TimerP" ∷ []

-- a module alone, which names no component
abbrev pub one : List File
one = file (codes "OneC") (codes "Boot" ∷ []) [] ∷ file (codes "MainC") (codes "Boot" ∷ codes "Init" ∷ []) [] ∷ file (codes "Boot") [] [] ∷ file (codes "Init") [] [] ∷ []

abbrev pub syntax_at : ℕ → Fault
syntax_at file = fault.Refused (refusal.Syntax (record { file = file; line = 1; col = 1 }))

-- the second component is refused, and the interface of the first one is missing
abbrev pub two_faults : List File
two_faults = file (codes "A") [] (codes "B" ∷ codes "C" ∷ []) ∷ file (codes "B") (codes "I" ∷ []) [] ∷ (codes "C", Err (syntax_at 2)) ∷ []

-- the same, where the interface is there
abbrev pub one_fault : List File
one_fault = file (codes "I") [] [] ∷ two_faults

-- each names the other, and itself
abbrev pub ring : List File
ring = file (codes "A") [] (codes "A" ∷ codes "B" ∷ []) ∷ file (codes "B") [] (codes "B" ∷ codes "A" ∷ codes "M" ∷ []) ∷ file (codes "M") [] [] ∷ []

abbrev pub Reads : List File → (app main : Name) → Answer (List Name) → Type 0
Reads files app main answer = Answers (opening (opens files)) app main [] answer

abbrev pub in_order : List Name → Answer (List Name)
in_order names = Ok (names, names)

pub record WorkedRows : Type 0 where
  pub blinks : Reads blink (codes "BlinkAppC") (codes "MainC") (in_order blink_order)
  pub main_last : Reads one (codes "OneC") (codes "MainC") (in_order (codes "OneC" ∷ codes "Boot" ∷ codes "MainC" ∷ codes "Init" ∷ []))
  pub in_a_ring : Reads ring (codes "A") (codes "M") (in_order (codes "A" ∷ codes "B" ∷ codes "M" ∷ []))
  pub first_of_two : Reads two_faults (codes "A") (codes "M") (Err (fault.Missing (codes "I"), codes "A" ∷ codes "B" ∷ codes "I" ∷ []))
  pub second_of_two : Reads one_fault (codes "A") (codes "M") (Err (syntax_at 2, codes "A" ∷ codes "B" ∷ codes "I" ∷ codes "C" ∷ []))
  pub missing_main : Reads (file (codes "A") [] [] ∷ []) (codes "A") (codes "M") (Err (fault.Missing (codes "M"), codes "A" ∷ codes "M" ∷ []))
