-- The order of reading (own): a file is read where it is needed first, and then what it needs, in order and each with its own.
use Rattle.std.specs.Prelude.{◌≡◌, ℕ, zero, suc, Bool, true, false, List, [], ◌∷◌, ◌++◌, Result, Ok, Err}
use Rattle.std.specs.List.{list_any}
use Rattle.nm_base.specs.declared.fault.Fault.{Fault}
use Rattle.nm_base.specs.declared.fault.Fault.TheVariants as fault
use Rattle.wire_names.specs.Texts.{same_text}
use Rattle.wire_reading.specs.declared.opener.Need.{Need}

abbrev pub Name : Type 0
Name = List ℕ

abbrev pub is_known : List Name → Name → Bool
is_known known name = list_any (same_text name) known

-- the names of the files that were read, or why a file is refused, and the state behind them
abbrev pub Answer : Type 0 → Type 0
Answer State = Result (List Name × State) (Fault × State)

abbrev pub Reader : Type 0 → Type 1
Reader State = Need → List Name → State → Answer State → Type 0

-- what goes on behind an answer
abbrev pub Goes : {State : Type 0} → (List Name → State → Answer State → Type 0) → Answer State → Answer State → Type 0
Goes next (Ok p) answer = next p.0 p.1 answer
Goes next (Err e) answer = answer ≡ Err e

-- each of the needs, one after the other
abbrev pub Each : {State : Type 0} → Reader State → List Need → List Name → State → Answer State → Type 0
Each one [] known s answer = answer ≡ Ok (known, s)
Each {State} one (need ∷ needs) known s answer = (first : Answer State) × one need known s first × Goes (Each one needs) first answer

-- what opening a file in a state gives: what it needs, or why it is refused, and the state behind it
abbrev pub Opening : Type 0 → Type 1
Opening State = State → Need → Result (List Need) Fault → State → Type 0

-- what the file needs is read behind it
abbrev pub Follows : {State : Type 0} → Reader State → List Name → State → Result (List Need) Fault → Answer State → Type 0
Follows inner known s (Ok needs) answer = Each inner needs known s answer
Follows inner known s (Err e) answer = answer ≡ Err (e, s)

abbrev pub Opened : {State : Type 0} → Opening State → Reader State → Reader State
Opened {State} Opens inner need known s answer =
    (found : Result (List Need) Fault) × (after : State) × Opens s need found after × Follows inner (known ++ need.name ∷ []) after found answer

-- a file that was read before is passed over
abbrev pub Unless : {State : Type 0} → Bool → List Name → State → Answer State → Type 0 → Type 0
Unless true known s answer Else = answer ≡ Ok (known, s)
Unless false known s answer Else = Else

-- reads a file that is needed, with all that it needs, at most so many levels deep
abbrev pub ReadAt : {State : Type 0} → Opening State → ℕ → Reader State
ReadAt Opens zero need known s answer = Unless (is_known known need.name) known s answer ⊥
ReadAt Opens (suc levels) need known s answer = Unless (is_known known need.name) known s answer (Opened Opens (ReadAt Opens levels) need known s answer)

abbrev pub component : Name → Need
component name = record { name = name; is_interface = false }

-- what reading these needs gives, some number of levels deep
abbrev pub ReadAll : {State : Type 0} → Opening State → List Need → List Name → State → Answer State → Type 0
ReadAll Opens needs known s answer = (levels : ℕ) × Each (ReadAt Opens levels) needs known s answer

abbrev pub Answers : {State : Type 0} → Opening State → (app main : Name) → State → Answer State → Type 0
Answers Opens app main s answer = ReadAll Opens (component app ∷ component main ∷ []) [] s answer

-- the files are read, from one state to another
abbrev pub Reads : {State : Type 0} → Opening State → (app main : Name) → State → State → Type 0
Reads Opens app main s after = (known : List Name) × Answers Opens app main s (Ok (known, after))

-- a file is refused, and this state is left
abbrev pub Refuses : {State : Type 0} → Opening State → (app main : Name) → State → Fault → State → Type 0
Refuses Opens app main s e after = Answers Opens app main s (Err (e, after))

-- want of memory is no refusal
abbrev pub IsRefusal : Fault → Type 0
IsRefusal e = e ≡ fault.NoMemory → ⊥
