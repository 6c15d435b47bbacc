-- That the code of an expression does what the expression does (own).
use Rattle.std.specs.Prelude.{◌≡◌, ℕ, ℤ, ◌<◌, ◌≤◌, List, [], ◌∷◌, ◌++◌, length, map, take, if◌then◌else◌, Some, slice_get}
use Rattle.std.specs.List.{All}
use Rattle.nm_base.specs.Behaviour.{Behaviour}
use Rattle.nesc_core.specs.Plain.{Ty, Expr, Exprs, Body, Program}
use Rattle.nesc_core.specs.Typing.{AllHave, Has, IsOf, IsScalar}
use Rattle.nesc_core.specs.WellFormed.{IsWellFormed}
use Rattle.nesc_core.specs.Derefs.{expr_derefs, exprs_derefs}
use Rattle.nesc_core.specs.Calls.{expr_calls, exprs_calls}
use Rattle.core_meaning.specs.Work.{Locals, number_of}
use Rattle.core_meaning.specs.Act.{Calls, value, values as values_of}
use Rattle.mid_code.specs.declared.code.MidCode.{MidCode}
use Rattle.mid_code.specs.Help.{is_wide}
use Rattle.mid_code.specs.Machine.{Activation, entry, fn_of, give_back, step}
use Rattle.mid_code.specs.Runs.{IsLabelled, Runs, Stands}
use Rattle.lower_expr.specs.declared.spot.Spot.{Spot}
use Rattle.lower_expr.specs.Held.{halves_of}
use Rattle.lower_expr.specs.Code.{args_code, check_for, check_of, expr_code, is_void, passed_at}
use Rattle.lower_expr.specs.Locals.{Holds, IsResult, LieApart}

-- the values from `base` to r are as they were
pub record Keeps (base r : ℕ) (old new : ℕ → ℕ) : Type 0 where
  pub at : (i : ℕ) → base ≤ i → i < r → new i ≡ old i

-- what stands behind the code of an expression of a type
pub record After (p : Program) (types : List Ty) (spots : List Spot) (base : ℕ) (ty : Ty) (r : ℕ) (old : ℕ → ℕ) (v : ℤ) (env : Locals) (values frame : ℕ → ℕ) : Type 0 where
  pub holds : Holds p types spots base env values frame
  pub keeps : Keeps base r old values
  pub is : IsResult ty v values r

-- a call of function f at a place of its code, over other calls
abbrev pub at_place : (f : ℕ) → List Activation → ℕ → (values frame : ℕ → ℕ) → List Activation
at_place f rest pc values frame = record { f = f; at = pc; values = values; frame = frame } ∷ rest

-- the code of a function of a program, whose locals have these types and spots, and the checks of pointers to these types
pub record Fits (codes : MidCode) (f : ℕ) (p : Program) (types checks : List Ty) (spots : List Spot) : Type 0 where
  pub labelled : IsLabelled (fn_of codes f).code
  pub formed : IsWellFormed p
  pub checked : codes.checks ≡ map (check_for p) checks
  pub lie : LieApart p types spots (fn_of codes f).frame

-- ---- calls

-- the values that pass numbers of these types
abbrev pub passed : List Ty → List ℤ → List ℕ
passed [] vs = []
passed (t ∷ ts) [] = []
passed (t ∷ ts) (v ∷ vs) = halves_of (is_wide (number_of t)) v ++ passed ts vs

-- the values that give back a result
abbrev pub given : Ty → ℤ → List ℕ
given t v = if is_void t then [] else halves_of (is_wide (number_of t)) v

-- one number of each type
abbrev pub AreOf : List Ty → List ℤ → Type 0
AreOf [] [] = Unit {0}
AreOf [] (v ∷ vs) = ⊥
AreOf (t ∷ ts) [] = ⊥
AreOf (t ∷ ts) (v ∷ vs) = IsOf (number_of t) v × AreOf ts vs

-- each function whose body has a rank below this one does what the body does, over any calls, and gives back its result
pub record CallsRun (codes : MidCode) (n : ℕ) (p : Program) (rank : ℕ → ℕ) (below : ℕ) (calls : Calls) : Type 0 where
  pub by : (g : ℕ) (b : Body) (vs : List ℤ) (after : ℤ → Behaviour) (under : List Activation) →
      slice_get p.bodies g ≡ Some b → rank g < below → AreOf (take b.params b.locals) vs →
      ((v : ℤ) (s : List Activation) → IsOf (number_of b.result) v → step codes s ≡ give_back codes under (given b.result v) → Runs codes n (after v) s) →
      Runs codes n (calls g vs after) (entry codes g (passed (take b.params b.locals) vs) ∷ under)

-- these types are among those of the checks, and these functions have ranks below this one
pub record IsReady (checks : List Ty) (rank : ℕ → ℕ) (below : ℕ) (dereferenced : List Ty) (called : List ℕ) : Type 0 where
  pub checked : All (λ t. check_of checks t < length checks) dereferenced
  pub lower : All (λ g. rank g < below) called

-- what stands behind the code of arguments for parameters of these types
pub record AfterArguments (p : Program) (types checks : List Ty) (spots : List Spot) (base : ℕ) (es : Exprs) (params : List Ty) (r : ℕ) (old : ℕ → ℕ) (vs : List ℤ) (env : Locals) (values frame : ℕ → ℕ) : Type 0 where
  pub holds : Holds p types spots base env values frame
  pub keeps : Keeps base r old values
  pub of : AreOf params vs
  pub pass : map values (passed_at p types checks spots es r) ≡ passed params vs

-- wherever the code of an expression stands, with values that hold the locals, and what comes after it runs behind it, the expression runs
abbrev pub ExpressionsRun : Type 0
ExpressionsRun =
    (codes : MidCode) (f : ℕ) (rest : List Activation) (n : ℕ) (p : Program) (types checks : List Ty) (spots : List Spot) (base : ℕ)
    (rank : ℕ → ℕ) (below : ℕ) (calls : Calls) (e : Expr) (ty : Ty) (r l pc end : ℕ) (after : ℤ → Locals → Behaviour) (env : Locals) (values frame : ℕ → ℕ) →
    Fits codes f p types checks spots → CallsRun codes n p rank below calls → base ≤ r → Has p types e ty → IsReady checks rank below (expr_derefs e) (expr_calls e) →
    Stands (fn_of codes f).code pc (expr_code p types checks spots e r l) end → Holds p types spots base env values frame →
    ((v : ℤ) (env' : Locals) (values' frame' : ℕ → ℕ) → After p types spots base ty r values v env' values' frame' → Runs codes n (after v env') (at_place f rest end values' frame')) →
    Runs codes n (value p types calls e after env) (at_place f rest pc values frame)

-- the same of arguments, one behind the other
abbrev pub ArgumentsRun : Type 0
ArgumentsRun =
    (codes : MidCode) (f : ℕ) (rest : List Activation) (n : ℕ) (p : Program) (types checks : List Ty) (spots : List Spot) (base : ℕ)
    (rank : ℕ → ℕ) (below : ℕ) (calls : Calls) (es : Exprs) (params : List Ty) (r l pc end : ℕ) (after : List ℤ → Locals → Behaviour) (env : Locals) (values frame : ℕ → ℕ) →
    Fits codes f p types checks spots → CallsRun codes n p rank below calls → base ≤ r → AllHave p types es params → All IsScalar params → IsReady checks rank below (exprs_derefs es) (exprs_calls es) →
    Stands (fn_of codes f).code pc (args_code p types checks spots es r l) end → Holds p types spots base env values frame →
    ((vs : List ℤ) (env' : Locals) (values' frame' : ℕ → ℕ) → AfterArguments p types checks spots base es params r values vs env' values' frame' → Runs codes n (after vs env') (at_place f rest end values' frame')) →
    Runs codes n (values_of p types calls es after env) (at_place f rest pc values frame)
