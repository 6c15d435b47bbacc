-- All rules of reached states, from those of each kind of instruction.
use Rattle.std.proofs.Common.{◌≡◌, ℕ, zero, suc, ◌+◌, ◌<◌, ◌≤◌, Bool, true, false, List, [], ◌∷◌, ◌++◌, length, map, take, Option, Some, None, refl, sym, ap, ◌∙◌, arith}
use Rattle.std.specs.Prelude.{slice_get, slice_index_or}
use Rattle.nesc_core.specs.Plain.{Ty, Body, Program}
use Rattle.nesc_core.specs.Calls.{HasNoCycle}
use Rattle.nesc_core.specs.WellFormed.{IsBody, IsWellFormed}
use Rattle.core_meaning.specs.Work.{number_of}
use Rattle.mid_code.specs.declared.instr.Mid.{Mid}
use Rattle.mid_code.specs.declared.instr.Mid.TheVariants.{Load, Store, Peek, Poke, Help}
use Rattle.mid_code.specs.declared.code.MidFn.{MidFn}
use Rattle.mid_code.specs.declared.code.MidCode.{MidCode}
use Rattle.mid_code.specs.Help.{is_wide}
use Rattle.mid_code.specs.Machine.{Activation, instruction, no_fn}
use Rattle.mid_code.specs.Reached.{AllMayGoOn, KeepsForm, MayGoOn, opens_at, state_at}
use Rattle.lower_expr.specs.Pieces.{values_at}
use Rattle.lower_expr.proofs.Called.{body_formed}
use Rattle.lower_stmt.specs.Bodies.{checks_of, lowered, mid_fn_of, params_from, values_of}
use Rattle.lower_reached.specs.Laws.{AccessesAreOfData, InnermostMayGoOn, MayGoOnWhere, is_access, is_help, is_of_frame, is_of_place}
use Rattle.lower_reached.proofs.Actions.{accesses_go_on}
use Rattle.lower_reached.proofs.Divisors.{divisors_are_other}
use Rattle.lower_reached.proofs.Reached.{statements_nest}

all_go_on : (c : MidCode) (s : List Activation) (all : List (List ℕ)) → InnermostMayGoOn is_of_place c s all → InnermostMayGoOn is_help c s all → InnermostMayGoOn is_access c s all → InnermostMayGoOn is_of_frame c s all → AllMayGoOn c s all
all_go_on c [] all place help access frame = tt
all_go_on c (a ∷ rest) [] place help access frame = absurd place
all_go_on c (a ∷ rest) (opens ∷ outer) place help access frame = by (instruction c a) refl
  where
    by_one : (i : Mid) → instruction c a ≡ Some i → MayGoOn c a opens (Some i)
    by_one (Load w v x) is = access (Load w v x) is refl
    by_one (Store w v x) is = access (Store w v x) is refl
    by_one (Peek w v x) is = frame (Peek w v x) is refl
    by_one (Poke w v x) is = frame (Poke w v x) is refl
    by_one (Help o ins outs) is = help (Help o ins outs) is refl
    by_one i is = place i is refl

    by : (o : Option Mid) → instruction c a ≡ o → MayGoOn c a opens o
    by None is = tt
    by (Some i) is = by_one i is

-- ---- functions without parameters

no_values : (wide : Bool) (v : ℕ) (rest : List ℕ) → values_at wide v ++ rest ≡ [] → ⊥
no_values true v rest e = absurd (cc)
no_values false v rest e = absurd (cc)

no_params : (ts : List Ty) (k : ℕ) → k ≤ length ts → params_from (take k ts) 0 ≡ [] → k ≡ 0
no_params ts zero le e = refl
no_params [] (suc k) le e = absurd (omega (arith, le))
no_params (t ∷ ts) (suc k) le e = absurd (no_values (is_wide (number_of t)) 0 (params_from (take k ts) (0 + values_of t)) e)

-- the body of a function
body_there : (p : Program) (checks : List Ty) (bodies : List Body) (f : ℕ) → f < length (map (mid_fn_of p checks) bodies) →
    (b : Body) × (slice_get bodies f ≡ Some b) × (slice_index_or (map (mid_fn_of p checks) bodies) f no_fn ≡ mid_fn_of p checks b)
body_there p checks [] f lt = absurd (omega (arith, lt))
body_there p checks (b ∷ bodies) zero lt = (b, refl, refl)
body_there p checks (b ∷ bodies) (suc f) lt = body_there p checks bodies f (omega (arith, lt))

accesses : (p : Program) → HasNoCycle p → IsWellFormed p → ((f : ℕ) → AccessesAreOfData p f) → MayGoOnWhere is_access (lowered p)
accesses p ranked formed stays f lt none answers small n =
    let found = body_there p (checks_of p) p.bodies f lt in
    let b : Body = found.0 in
    let own : IsBody p b = body_formed p f b formed found.1 in
    let params : params_from (take b.params b.locals) 0 ≡ [] = ap (λ (fn : MidFn). fn.params) (sym found.2) ∙ none in
    accesses_go_on p ranked formed f b found.1 (no_params b.locals b.params own.params params) (stays f) answers small n

pub accesses_left : (p : Program) → HasNoCycle p → IsWellFormed p → ((f : ℕ) → AccessesAreOfData p f) → MayGoOnWhere is_of_frame (lowered p) → KeepsForm (lowered p)
accesses_left p ranked formed stays frame = record {
  always = λ f lt none answers small n.
      all_go_on (lowered p) (state_at (lowered p) f answers n) (opens_at (lowered p) f answers n) (statements_nest p formed f answers n) (divisors_are_other p formed f answers n)
      (accesses p ranked formed stays f lt none answers small n) (frame f lt none answers small n);
}
