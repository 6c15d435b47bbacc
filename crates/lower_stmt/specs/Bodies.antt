-- The functions of a program's bodies (own): numbers and pointers are held in values, the low half first, and other locals in the
-- frame at even places; behind them lie the places at which atomic statements save the status.
use Rattle.std.specs.Prelude.{ℕ, ◌+◌, ◌*◌, List, [], ◌∷◌, ◌++◌, map, take, if◌then◌else◌, Some, None}
use Rattle.std.specs.List.{list_any}
use Rattle.nesc_core.specs.Plain.{Ty, int, pointer, Body, Program}
use Rattle.nesc_core.specs.Parts.{same_type}
use Rattle.nesc_core.specs.Derefs.{derefs}
use Rattle.nesc_core.specs.Weights.{even, stmt_atomics, stmt_levels}
use Rattle.core_meaning.specs.Layout.{size_of}
use Rattle.core_meaning.specs.Work.{number_of}
use Rattle.mid_code.specs.declared.instr.Mid.{Mid}
use Rattle.mid_code.specs.declared.instr.Mid.TheVariants.{Ret}
use Rattle.mid_code.specs.declared.code.MidFn.{MidFn}
use Rattle.mid_code.specs.declared.code.MidCode.{MidCode}
use Rattle.mid_code.specs.Help.{is_wide, places}
use Rattle.lower_expr.specs.declared.spot.Regs.{Regs}
use Rattle.lower_expr.specs.declared.spot.Spot.{Spot}
use Rattle.lower_expr.specs.declared.spot.Spot.TheVariants.{Values, Frame}
use Rattle.lower_expr.specs.Pieces.{values_at}
use Rattle.lower_expr.specs.Code.{check_for, taken_at}
use Rattle.lower_stmt.specs.Code.{Ways, nothing_code, stmt_code}

-- ---- locals

-- how many values a local takes, and how many bytes of the frame
abbrev pub values_of : Ty → ℕ
values_of (int t) = places t
values_of (pointer t) = 1
values_of _ = 0

abbrev pub bytes_in_frame : Program → Ty → ℕ
bytes_in_frame p (int t) = 0
bytes_in_frame p (pointer t) = 0
bytes_in_frame p t = even (size_of p t)

abbrev pub regs_from : Ty → ℕ → Regs
regs_from t v = record { low = Some v; high = if is_wide (number_of t) then Some (v + 1) else None }

-- where the next value is v, and the next place of the frame o
abbrev pub spot_at : Ty → (v o : ℕ) → Spot
spot_at (int t) v o = Values (regs_from (int t) v)
spot_at (pointer t) v o = Values (regs_from (pointer t) v)
spot_at t v o = Frame o

abbrev pub spots_from : Program → List Ty → (v o : ℕ) → List Spot
spots_from p [] v o = []
spots_from p (t ∷ ts) v o = spot_at t v o ∷ spots_from p ts (v + values_of t) (o + bytes_in_frame p t)

abbrev pub all_values : List Ty → ℕ
all_values [] = 0
all_values (t ∷ ts) = values_of t + all_values ts

abbrev pub all_bytes : Program → List Ty → ℕ
all_bytes p [] = 0
all_bytes p (t ∷ ts) = bytes_in_frame p t + all_bytes p ts

-- the values of parameters, from v on
abbrev pub params_from : List Ty → ℕ → List ℕ
params_from [] v = []
params_from (t ∷ ts) v = values_at (is_wide (number_of t)) v ++ params_from ts (v + values_of t)

-- ---- functions

abbrev pub spots_of : Program → Body → List Spot
spots_of p b = spots_from p b.locals 0 0

-- the first value that holds no local
abbrev pub base_of : Body → ℕ
base_of b = all_values b.locals

abbrev pub ways_of : Program → Body → Ways
ways_of p b = record {
  gives = b.result;
  return_to = None;
  break_to = 0;
  continue_to = 0;
  status = all_bytes p b.locals;
}

-- a body that ends without a return gives 0
abbrev pub body_code : Program → (checks : List Ty) → Body → List Mid
body_code p checks b =
    stmt_code p b.locals checks (spots_of p b) (base_of b) b.code (ways_of p b) 0
    ++ (nothing_code b.result (base_of b + 2) ++ Ret (taken_at b.result (base_of b + 2)) ∷ [])

abbrev pub mid_fn_of : Program → (checks : List Ty) → Body → MidFn
mid_fn_of p checks b = record {
  values = base_of b + 2 * stmt_levels b.code + 8;
  params = params_from (take b.params b.locals) 0;
  frame = all_bytes p b.locals + 2 * stmt_atomics b.code;
  code = body_code p checks b;
}

-- ---- a program

-- the types behind those seen, each where it first stands
abbrev pub in_order : (seen types : List Ty) → List Ty
in_order seen [] = seen
in_order seen (t ∷ ts) = in_order (if list_any (λ u. same_type u t) seen then seen else seen ++ t ∷ []) ts

-- the types that bodies dereference, in the order of their first dereference
abbrev pub checks_of : Program → List Ty
checks_of p = in_order [] (derefs p)

abbrev pub lowered : Program → MidCode
lowered p = record {
  fns = map (mid_fn_of p (checks_of p)) p.bodies;
  checks = map (check_for p) (checks_of p);
}
