-- Worked rows of creation.
use Rattle.std.specs.Prelude.{◌≡◌, ℕ, List, [], ◌∷◌, length, replicate, map, Option, Some, None, Result, Ok, Err}
use Rattle.nm_base.specs.declared.pos.Pos.{Pos}
use Rattle.wire_instances.specs.declared.plan.Plan.{Plan}
use Rattle.wire_instances.specs.declared.plan.Line.{Line}
use Rattle.wire_instances.specs.declared.plan.Line.TheVariants as line
use Rattle.wire_instances.specs.declared.plan.Unmet.TheVariants as unmet
use Rattle.wire_instances.specs.declared.plan.Made.{Made}
use Rattle.wire_instances.specs.declared.naming.Stop.{Stop}
use Rattle.wire_instances.specs.declared.naming.Stop.TheVariants as stop
use Rattle.wire_instances.specs.Instances.{instances_of}

abbrev pub at : ℕ → ℕ → Pos
at file line = record { file = file; line = line; col = 1 }

abbrev pub plain : List Line → Plan
plain lines = record { generic = None; refused = None; lines = lines }

abbrev pub generic : ℕ → List Line → Plan
generic wanted lines = record { generic = Some wanted; refused = None; lines = lines }

abbrev pub names : ℕ → Pos → Line
names component pos = line.Names component None pos

abbrev pub news : ℕ → ℕ → Pos → Line
news component given pos = line.Names component (Some given) pos

-- a component, its number among the instances of its component, and the instance and the line that made it
abbrev pub Row : Type 0
Row = ℕ × ℕ × Option (ℕ × ℕ)

abbrev pub row : Made → Row
row m = (m.component, m.copy, elim (m.maker) [ None ↦ None | Some k ↦ Some (k.instance, k.line) ])

abbrev pub Table : Type 0
Table = Result (List Row) Stop

abbrev pub table : Result (List Made) Stop → Table
table (Ok made) = Ok (map row made)
table (Err e) = Err e

abbrev pub count : Result (List Made) Stop → Result ℕ Stop
count (Ok made) = Ok (length made)
count (Err e) = Err e

-- A blinking application with three timers. Its units in the order of reading: 0 BlinkAppC, 1 MainC, 2 Boot, 3 Init, 4 BlinkC,
-- 5 Timer, 6 Leds, 7 LedsC, 8 TimerMilliC, 9 TimerMilliP, 10 TimerP
abbrev pub blink : List Plan
blink =
    plain (names 1 (at 0 3) ∷ names 4 (at 0 3) ∷ names 7 (at 0 3) ∷ news 8 0 (at 0 4) ∷ news 8 0 (at 0 5) ∷ news 8 0 (at 0 6) ∷ line.Nothing ∷ [])
    ∷ plain [] ∷ plain [] ∷ plain [] ∷ plain [] ∷ plain [] ∷ plain [] ∷ plain []
    ∷ generic 0 (names 9 (at 8 4) ∷ line.Nothing ∷ [])
    ∷ plain (names 1 (at 9 4) ∷ names 10 (at 9 4) ∷ line.Nothing ∷ line.Nothing ∷ [])
    ∷ plain [] ∷ []

-- an application that makes so many instances of a component; nobody names `main`
abbrev pub wide : ℕ → List Plan
wide many = plain (replicate many (news 1 0 (at 0 1))) ∷ generic 0 [] ∷ plain [] ∷ []

-- each names the next one, and the last one the first
abbrev pub ring : List Plan
ring = plain (names 1 (at 0 1) ∷ []) ∷ plain (names 2 (at 1 1) ∷ []) ∷ plain (names 0 (at 2 1) ∷ []) ∷ []

-- a generic component that makes itself, by way of a plain one
abbrev pub loop : List Plan
loop = plain (news 1 0 (at 0 1) ∷ []) ∷ generic 0 (line.Nothing ∷ names 2 (at 1 7) ∷ []) ∷ plain (news 1 0 (at 2 8) ∷ []) ∷ []

-- the second line of the application is refused, and so is the only line of what its first line names
abbrev pub two_faults : List Plan
two_faults =
    plain (names 1 (at 0 1) ∷ line.Refused (unmet.DuplicateName (at 0 2)) ∷ [])
    ∷ plain (news 2 2 (at 1 1) ∷ []) ∷ generic 1 [] ∷ []

-- the same, where the only line of what the first line names is fine
abbrev pub one_fault : List Plan
one_fault =
    plain (names 1 (at 0 1) ∷ line.Refused (unmet.DuplicateName (at 0 2)) ∷ [])
    ∷ plain (news 2 1 (at 1 1) ∷ []) ∷ generic 1 [] ∷ []

-- a component whose specification is refused; its lines are not looked at
abbrev pub bad_head : List Plan
bad_head =
    plain (names 1 (at 0 1) ∷ line.Refused (unmet.UnknownName (at 0 2)) ∷ [])
    ∷ record { generic = None; refused = Some (unmet.DuplicateName (at 1 4)); lines = line.Refused (unmet.UnknownName (at 1 5)) ∷ [] } ∷ []

abbrev pub app_at : Pos
app_at = at 0 9

pub record WorkedRows : Type 0 where
  pub blinks : table (instances_of blink 0 app_at 1) ≡ Ok (
      (0, 0, None) ∷ (1, 0, Some (0, 0)) ∷ (4, 0, Some (0, 1)) ∷ (7, 0, Some (0, 2))
      ∷ (8, 0, Some (0, 3)) ∷ (9, 0, Some (4, 0)) ∷ (10, 0, Some (5, 1))
      ∷ (8, 1, Some (0, 4)) ∷ (8, 2, Some (0, 5)) ∷ [])
  pub most : count (instances_of (wide 498) 0 app_at 2) ≡ Ok 500
  pub too_many : instances_of (wide 499) 0 app_at 2 ≡ Err stop.Instances
  pub too_many_at_a_line : instances_of (wide 500) 0 app_at 2 ≡ Err stop.Instances
  pub in_a_ring : table (instances_of ring 0 app_at 1) ≡ Ok ((0, 0, None) ∷ (1, 0, Some (0, 0)) ∷ (2, 0, Some (1, 0)) ∷ [])
  pub loops : instances_of loop 0 app_at 2 ≡ Err (stop.Unmet (unmet.ComponentLoop (at 2 8)))
  pub first_of_two : instances_of two_faults 0 app_at 2 ≡ Err (stop.Unmet (unmet.ArgumentMismatch (at 1 1)))
  pub second_of_two : instances_of one_fault 0 app_at 2 ≡ Err (stop.Unmet (unmet.DuplicateName (at 0 2)))
  pub specification : instances_of bad_head 0 app_at 0 ≡ Err (stop.Unmet (unmet.DuplicateName (at 1 4)))
  pub without_new : instances_of (plain (names 1 (at 0 1) ∷ []) ∷ generic 0 [] ∷ []) 0 app_at 0 ≡ Err (stop.Unmet (unmet.ArgumentMismatch (at 0 1)))
  pub needless_new : instances_of (plain (news 1 0 (at 0 1) ∷ []) ∷ plain [] ∷ []) 0 app_at 0 ≡ Err (stop.Unmet (unmet.ArgumentMismatch (at 0 1)))
  pub generic_application : instances_of (generic 0 (line.Refused (unmet.UnknownName (at 0 1)) ∷ []) ∷ plain [] ∷ []) 0 app_at 1 ≡ Err (stop.Unmet (unmet.ArgumentMismatch app_at))
