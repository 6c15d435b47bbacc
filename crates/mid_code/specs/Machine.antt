-- The open machine: what middle code does, one instruction after another (own; as a processor with registers of 16 bits, a frame
-- for each call, and functions that are called by number).
use Rattle.std.specs.Prelude.{ℕ, zero, suc, ◌+◌, ◌*◌, ◌%◌, ◌/◌, ◌==◌, nat_lt, Bool, true, false, List, [], ◌∷◌, map, Option, Some, None, slice_get, slice_index_or, if◌then◌else◌}
use Rattle.nm_base.specs.declared.action.Action.{Action}
use Rattle.nm_base.specs.declared.action.Action.TheVariants as action
use Rattle.nm_base.specs.Behaviour.{Behaviour, Returns, Does, Asks, Faults, Cut}
use Rattle.mid_code.specs.declared.instr.Mid.{Mid}
use Rattle.mid_code.specs.declared.instr.Mid.TheVariants.{Set, Move, Bin, Carry, Load, Store, Peek, Poke, In, Out, Label, Jump, Branch, Call, Help, Ret, Begin, End, Post, Tick, Fault}
use Rattle.mid_code.specs.declared.code.MidFn.{MidFn}
use Rattle.mid_code.specs.declared.code.MidCode.{MidCode}
use Rattle.mid_code.specs.Words.{operate, carry, holds, kept, joined}
use Rattle.mid_code.specs.Help.{helped}

-- a call that is open: its function, the place of its next instruction, its values and the bytes of its frame
pub record Activation : Type 0 where
  pub f : ℕ
  pub at : ℕ
  pub values : ℕ → ℕ
  pub frame : ℕ → ℕ

-- what a step comes to; the innermost call stands first
pub data Next : Type 0 where
  Goes : List Activation → Next
  Acts : Action → List Activation → Next
  -- a Load, an In or a Post, and the calls behind each answer
  Wants : Action → (ℕ → List Activation) → Next
  -- the root gives back these values
  Ends : List ℕ → Next
  Stops : (code : ℕ) → Next

-- ---- values and frames

abbrev pub put : (ℕ → ℕ) → ℕ → ℕ → ℕ → ℕ
put values v x = λ i. if i == v then x else values i

abbrev pub put_all : (ℕ → ℕ) → List ℕ → List ℕ → ℕ → ℕ
put_all values [] xs = values
put_all values (v ∷ vs) [] = values
put_all values (v ∷ vs) (x ∷ xs) = put_all (put values v x) vs xs

-- a byte or a word of a frame; what lies outside reads 0 and keeps no write
abbrev pub peeked : (is_word : Bool) → (ℕ → ℕ) → ℕ → ℕ
peeked true frame o = frame o + 256 * frame (o + 1)
peeked false frame o = frame o

abbrev pub poke_byte : (size : ℕ) → (ℕ → ℕ) → ℕ → ℕ → ℕ → ℕ
poke_byte size frame o x = if nat_lt o size then put frame o x else frame

abbrev pub poked : (is_word : Bool) → (size : ℕ) → (ℕ → ℕ) → ℕ → ℕ → ℕ → ℕ
poked true size frame o x = poke_byte size (poke_byte size frame o (x % 256)) (o + 1) (x / 256)
poked false size frame o x = poke_byte size frame o (x % 256)

-- ---- functions and labels

abbrev pub no_fn : MidFn
no_fn = record { values = 0; params = []; frame = 0; code = [] }

abbrev pub fn_of : MidCode → ℕ → MidFn
fn_of c f = slice_index_or c.fns f no_fn

abbrev pub is_label : Mid → ℕ → Bool
is_label (Label k) l = k == l
is_label _ l = false

-- where a label stands
abbrev pub place_of : List Mid → ℕ → ℕ
place_of [] l = 0
place_of (i ∷ is) l = if is_label i l then 0 else suc (place_of is l)

-- ---- steps

-- at a place of its code
abbrev pub at_place : Activation → ℕ → Activation
at_place a at = record { f = a.f; at = at; values = a.values; frame = a.frame }

-- behind its instruction
abbrev pub onward : Activation → Activation
onward a = at_place a (a.at + 1)

-- behind its instruction, with a value written
abbrev pub write : Activation → ℕ → ℕ → Activation
write a v x = record { f = a.f; at = a.at + 1; values = put a.values v x; frame = a.frame }

abbrev pub write_all : Activation → List ℕ → List ℕ → Activation
write_all a vs xs = record { f = a.f; at = a.at + 1; values = put_all a.values vs xs; frame = a.frame }

-- a function's start, passed these values; all else is 0
abbrev pub entry : MidCode → ℕ → List ℕ → Activation
entry c g passed = record { f = g; at = 0; values = put_all (λ i. 0) (fn_of c g).params passed; frame = λ o. 0 }

abbrev pub instruction : MidCode → Activation → Option Mid
instruction c a = slice_get (fn_of c a.f).code a.at

-- a Call takes back what its function gives, and goes on behind itself
abbrev pub take_back : Option Mid → Activation → List ℕ → Activation
take_back (Some (Call g ins outs)) a xs = write_all a outs xs
take_back _ a xs = a

abbrev pub give_back : MidCode → List Activation → List ℕ → Next
give_back c [] xs = Ends xs
give_back c (a ∷ rest) xs = Goes (take_back (instruction c a) a xs ∷ rest)

-- behind a Help
abbrev pub help_to : Activation → List Activation → List ℕ → Option (List ℕ) → Next
help_to a rest outs None = Stops 2
help_to a rest outs (Some xs) = Goes (write_all a outs xs ∷ rest)

-- an instruction of a function
abbrev pub perform : Option Mid → MidCode → MidFn → Activation → List Activation → Next
perform None c fn a rest = Ends []
perform (Some (Set v x)) c fn a rest = Goes (write a v x ∷ rest)
perform (Some (Move v x)) c fn a rest = Goes (write a v (a.values x) ∷ rest)
perform (Some (Bin op v x y)) c fn a rest = Goes (write a v (operate op (a.values x) (a.values y)) ∷ rest)
perform (Some (Carry op v x y)) c fn a rest = Goes (write a v (carry op (a.values x) (a.values y)) ∷ rest)
perform (Some (Load is_word v x)) c fn a rest = Wants (action.Load (a.values x) is_word) (λ answer. write a v (kept is_word answer) ∷ rest)
perform (Some (Store is_word v x)) c fn a rest = Acts (action.Store (a.values x) is_word (kept is_word (a.values v))) (onward a ∷ rest)
perform (Some (Peek is_word v x)) c fn a rest = Goes (write a v (peeked is_word a.frame (a.values x)) ∷ rest)
perform (Some (Poke is_word v x)) c fn a rest =
    Goes (record { f = a.f; at = a.at + 1; values = a.values; frame = poked is_word fn.frame a.frame (a.values x) (a.values v) } ∷ rest)
perform (Some (In v port)) c fn a rest = Wants (action.In port) (λ answer. write a v answer ∷ rest)
perform (Some (Out port v)) c fn a rest = Acts (action.Out port (a.values v)) (onward a ∷ rest)
perform (Some (Label l)) c fn a rest = Goes (onward a ∷ rest)
perform (Some (Jump l)) c fn a rest = Goes (at_place a (place_of fn.code l) ∷ rest)
perform (Some (Branch test x y l)) c fn a rest =
    Goes ((if holds test (a.values x) (a.values y) then at_place a (place_of fn.code l) else onward a) ∷ rest)
perform (Some (Call g ins outs)) c fn a rest = Goes (entry c g (map a.values ins) ∷ a ∷ rest)
perform (Some (Help h ins outs)) c fn a rest = help_to a rest outs (helped c h (map a.values ins))
perform (Some (Ret vs)) c fn a rest = give_back c rest (map a.values vs)
perform (Some (Begin o)) c fn a rest = Acts action.Begin (onward a ∷ rest)
perform (Some (End o)) c fn a rest = Acts action.End (onward a ∷ rest)
perform (Some (Post k v)) c fn a rest = Wants (action.Post k) (λ answer. write a v answer ∷ rest)
perform (Some Tick) c fn a rest = Acts action.Tick (onward a ∷ rest)
perform (Some (Fault code)) c fn a rest = Stops code

abbrev pub step : MidCode → List Activation → Next
step c [] = Ends []
step c (a ∷ rest) = perform (instruction c a) c (fn_of c a.f) a rest

-- ---- what the machine does

-- a function without parameters at its first instruction
abbrev pub started : MidCode → ℕ → List Activation
started c f = entry c f [] ∷ []

abbrev pub follow : Next → (List Activation → Behaviour) → Behaviour
follow (Goes s) more = more s
follow (Acts a s) more = Does a (more s)
follow (Wants a s) more = Asks a (λ answer. more (s answer))
follow (Ends xs) more = Returns (joined xs)
follow (Stops code) more = Faults code

-- in at most m steps
abbrev pub steps : MidCode → ℕ → List Activation → Behaviour
steps c zero s = Cut
steps c (suc m) s = follow (step c s) (steps c m)

-- one step alone: its action, and the calls behind it, where its own action is answered by a number
abbrev pub shown : Next → Option Action
shown (Goes s) = None
shown (Acts a s) = Some a
shown (Wants a s) = Some a
shown (Ends xs) = None
shown (Stops code) = Some (action.Fault code)

abbrev pub moved : Next → ℕ → List Activation
moved (Goes s) answer = s
moved (Acts a s) answer = s
moved (Wants a s) answer = s answer
moved (Ends xs) answer = []
moved (Stops code) answer = []
