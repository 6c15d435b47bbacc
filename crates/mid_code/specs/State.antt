-- States of the open machine's code as states of the machine.
use Rattle.std.specs.Prelude.{◌≡◌, ℕ, ◌+◌, ◌<◌, length, List, [], ◌∷◌, slice_index, slice_index_or}
use Rattle.std.specs.List.{All}
use Rattle.mid_code.specs.declared.instr.Mid.{Mid}
use Rattle.mid_code.specs.declared.instr.Mid.TheVariants.{Call, Help, Ret, Fault}
use Rattle.mid_code.specs.declared.code.MidCode.{MidCode}
use Rattle.mid_code.specs.declared.state.MidCall.{MidCall}
use Rattle.mid_code.specs.declared.state.MidState.{MidState}
use Rattle.mid_code.specs.Form.{AreBelow}
use Rattle.mid_code.specs.Machine.{Activation, fn_of}

abbrev pub activation_of : MidCall → Activation
activation_of m = record { f = m.f; at = m.at; values = slice_index m.values; frame = slice_index m.frame }

-- these calls, the last of them innermost, over others
abbrev pub calls_over : List MidCall → List Activation → List Activation
calls_over [] under = under
calls_over (m ∷ ms) under = calls_over ms (activation_of m ∷ under)

abbrev pub activations : MidState → List Activation
activations s = calls_over s.calls []

-- a call of a function that the code has, at one of its instructions
pub record IsCallOf (c : MidCode) (m : MidCall) : Type 0 where
  pub function : m.f < length c.fns
  pub place : m.at < length (fn_of c m.f).code
  pub values : length m.values ≡ (fn_of c m.f).values
  pub frame : length m.frame ≡ (fn_of c m.f).frame

-- what holds of each state that begins with a function of the code and goes on by its steps
abbrev pub IsStateOf : MidCode → MidState → Type 0
IsStateOf c s = All (IsCallOf c) s.calls

-- an instruction that opens and leaves no call
abbrev pub StaysInCall : Mid → Type 0
StaysInCall (Call g ins outs) = ⊥
StaysInCall (Help h ins outs) = ⊥
StaysInCall (Ret vs) = ⊥
StaysInCall (Fault code) = ⊥
StaysInCall _ = Unit {0}

abbrev pub no_call : MidCall
no_call = record { f = 0; at = 0; values = []; frame = [] }

-- the call at this place may write these values and go on behind its instruction
pub record MayTake (c : MidCode) (calls : List MidCall) (top : ℕ) (outs : List ℕ) : Type 0 where
  pub below : AreBelow (fn_of c (slice_index_or calls top no_call).f).values outs
  pub onward : (slice_index_or calls top no_call).at + 1 < length (fn_of c (slice_index_or calls top no_call).f).code
