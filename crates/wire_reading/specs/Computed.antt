-- The same by computation, where opening a file is a function.
use Rattle.std.specs.Prelude.{◌≡◌, ℕ, zero, suc, Bool, true, false, List, [], ◌∷◌, ◌++◌, Option, Some, None, Result, Ok, Err}
use Rattle.nm_base.specs.declared.fault.Fault.{Fault}
use Rattle.wire_reading.specs.declared.opener.Need.{Need}
use Rattle.wire_reading.specs.Order.{Name, Answer, Opening, is_known, component}

abbrev pub Opens : Type 0 → Type 0
Opens State = State → Need → Result (List Need) Fault × State

-- the relation that the function is
abbrev pub opening : {State : Type 0} → Opens State → Opening State
opening opens s need found after = opens s need ≡ (found, after)

abbrev pub Reading : Type 0 → Type 0
Reading State = Need → List Name → State → Option (Answer State)

abbrev pub go_on : {State : Type 0} → Option (Answer State) → (List Name → State → Option (Answer State)) → Option (Answer State)
go_on None next = None
go_on (Some (Ok p)) next = next p.0 p.1
go_on (Some (Err e)) next = Some (Err e)

abbrev pub each : {State : Type 0} → Reading State → List Need → List Name → State → Option (Answer State)
each one [] known s = Some (Ok (known, s))
each one (need ∷ needs) known s = go_on (one need known s) (each one needs)

abbrev pub follow : {State : Type 0} → Reading State → List Name → Result (List Need) Fault × State → Option (Answer State)
follow inner known (Ok needs, after) = each inner needs known after
follow inner known (Err e, after) = Some (Err (e, after))

abbrev pub unless : {State : Type 0} → Bool → List Name → State → Option (Answer State) → Option (Answer State)
unless true known s else = Some (Ok (known, s))
unless false known s else = else

-- None where so many levels are not enough
abbrev pub read : {State : Type 0} → Opens State → ℕ → Reading State
read opens zero need known s = unless (is_known known need.name) known s None
read opens (suc levels) need known s = unless (is_known known need.name) known s (follow (read opens levels) (known ++ need.name ∷ []) (opens s need))

abbrev pub files_of : {State : Type 0} → Opens State → ℕ → (app main : Name) → State → Option (Answer State)
files_of opens levels app main s = each (read opens levels) (component app ∷ component main ∷ []) [] s
