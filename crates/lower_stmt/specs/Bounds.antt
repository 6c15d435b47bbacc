-- What functions of bodies take at most, and which functions they call (own).
use Rattle.std.specs.Prelude.{◌≡◌, ℕ, ◌+◌, ◌*◌, ◌%◌, ◌≤◌, List, [], ◌∷◌, Contains}
use Rattle.std.specs.List.{All}
use Rattle.nesc_core.specs.Plain.{Ty, Body, Program}
use Rattle.nesc_core.specs.Calls.{stmt_calls}
use Rattle.nesc_core.specs.Weights.{frame_weight}
use Rattle.mid_code.specs.declared.instr.Mid.{Mid}
use Rattle.mid_code.specs.declared.instr.Mid.TheVariants.{Call}
use Rattle.mid_code.specs.declared.code.MidFn.{MidFn}
use Rattle.mid_code.specs.Form.{IsMidFn}
use Rattle.nesc_core.specs.WellFormed.{IsBody}
use Rattle.lower_stmt.specs.Bodies.{mid_fn_of}

-- a frame of an even size, which with two bytes for each value is at most the weight of the body's frame less 24
pub record IsWithin (weight : ℕ) (fn : MidFn) : Type 0 where
  pub is_even : fn.frame % 2 ≡ 0
  pub within : fn.frame + 2 * fn.values + 24 ≤ weight

abbrev pub EachIsWithin : Type 0
EachIsWithin = (p : Program) (checks : List Ty) (b : Body) → IsWithin (frame_weight p b) (mid_fn_of p checks b)

-- the functions that code calls, each as often as it does
abbrev pub calls_in : List Mid → List ℕ
calls_in [] = []
calls_in (Call g ins outs ∷ is) = g ∷ calls_in is
calls_in (i ∷ is) = calls_in is

-- a function calls those alone whose bodies its body calls
abbrev pub EachCallsItsOwn : Type 0
EachCallsItsOwn = (p : Program) (checks : List Ty) (b : Body) → All (Contains (stmt_calls b.code)) (calls_in (mid_fn_of p checks b).code)

-- a function keeps the rules of form: it names its own values, and labels that stand in its code, each once
abbrev pub EachIsMidFn : Type 0
EachIsMidFn = (p : Program) (checks : List Ty) (b : Body) → IsBody p b → IsMidFn (mid_fn_of p checks b)
