-- That the code of a statement does what the statement does, however it is left (own).
use Rattle.std.specs.Prelude.{ℤ, pos, ⊤, ◌≡◌, ◌⊎◌, ℕ, ◌+◌, ◌<◌, ◌≤◌, true, List, Some, slice_get}
use Rattle.std.specs.List.{All}
use Rattle.nm_base.specs.Behaviour.{Behaviour}
use Rattle.nesc_core.specs.Plain.{Ty, Stmt, Stmts, Program, no_stmts, more_stmts}
use Rattle.nesc_core.specs.Plain as plain
use Rattle.nesc_core.specs.Typing.{IsOf}
use Rattle.nesc_core.specs.Typing as typing
use Rattle.nesc_core.specs.WellFormed.{Exits, IsStmt}
use Rattle.nesc_core.specs.Heres.{exprs_locals, gives_value}
use Rattle.nesc_core.specs.Derefs.{stmt_derefs}
use Rattle.nesc_core.specs.Calls.{stmt_calls}
use Rattle.core_meaning.specs.declared.flow.Flow.{Flow}
use Rattle.core_meaning.specs.declared.flow.Flow.TheVariants.{On, Broke, Continued, Gave}
use Rattle.core_meaning.specs.Work.{Locals, number_of}
use Rattle.core_meaning.specs.Act.{Calls, run}
use Rattle.mid_code.specs.declared.instr.Mid.{Mid}
use Rattle.mid_code.specs.declared.code.MidCode.{MidCode}
use Rattle.mid_code.specs.Machine.{Activation, fn_of}
use Rattle.mid_code.specs.Runs.{Runs, Stands}
use Rattle.lower_expr.specs.declared.spot.Spot.{Spot}
use Rattle.lower_expr.specs.Locals.{Holds, IsResult}
use Rattle.lower_expr.specs.Code.{is_void}
use Rattle.lower_expr.specs.Runs.{CallsRun, Fits, IsReady, at_place}
use Rattle.lower_stmt.specs.Code.{Ways, returning, breaking, continuing, way_out, stmt_code}

-- A function of a program's code over other calls, with locals of these types at these spots, and the values from `base` on free;
-- calls of bodies with ranks below one, whose loops make at most so many turns, do what the bodies do
pub record Setting : Type 0 where
  pub codes : MidCode
  pub f : ℕ
  pub rest : List Activation
  pub p : Program
  pub types : List Ty
  pub checks : List Ty
  pub spots : List Spot
  pub base : ℕ
  pub rank : ℕ → ℕ
  pub below : ℕ
  pub turns : ℕ
  pub calls : Calls
  pub fits : Fits codes f p types checks spots
  pub calls_run : (n : ℕ) → n ≤ turns → CallsRun codes n p rank below calls

-- where a statement has values, they are of the type that is given back
pub record Gives (s : Stmt) (exits : Exits) (w : Ways) : Type 0 where
  pub result : typing.IsResult w.gives
  pub same : gives_value s ≡ true → w.gives ≡ exits.gives

-- the arguments of an inlined call do not name its locals
abbrev mutual
  pub HeresApart : Stmt → Type 0
  HeresApart (plain.eval e) = ⊤
  HeresApart (plain.block list) = AllHeresApart list
  HeresApart (plain.branch test a b) = HeresApart a × HeresApart b
  HeresApart (plain.loop first test step body) = HeresApart body
  HeresApart (plain.switch e cases list) = AllHeresApart list
  HeresApart plain.break = ⊤
  HeresApart plain.continue = ⊤
  HeresApart (plain.return e) = ⊤
  HeresApart (plain.atomic s) = HeresApart s
  HeresApart (plain.clear x) = ⊤
  HeresApart (plain.here arguments first count body) = All (λ x. (x < first) ⊎ (first + count ≤ x)) (exprs_locals arguments) × HeresApart body

  pub AllHeresApart : Stmts → Type 0
  AllHeresApart no_stmts = ⊤
  AllHeresApart (more_stmts s rest) = HeresApart s × AllHeresApart rest

module _ (c : Setting) where
  abbrev pub code : List Mid
  code = (fn_of c.codes c.f).code

  abbrev pub here : ℕ → (values frame : ℕ → ℕ) → List Activation
  here pc values frame = at_place c.f c.rest pc values frame

  abbrev pub AreHeld : Locals → (values frame : ℕ → ℕ) → Type 0
  AreHeld env values frame = Holds c.p c.types c.spots c.base env values frame

  -- a value that is given back stands behind `base`; where the type has none it is 0
  pub record IsGivenAt (ty : Ty) (v : ℤ) (values : ℕ → ℕ) : Type 0 where
    pub number : IsOf (number_of ty) v
    pub is : IsResult ty v values (c.base + 2)
    pub nothing : is_void ty ≡ true → v ≡ pos 0

  -- where the machine stands when a statement that ends at a place is left
  abbrev pub LeftAt : Exits → Ways → (end : ℕ) → Flow → (pc : ℕ) → (values : ℕ → ℕ) → Type 0
  LeftAt exits w end On pc values = pc ≡ end
  LeftAt exits w end Broke pc values = (exits.breaks ≡ true) × (slice_get code pc ≡ Some (way_out w (c.base + 2) breaking))
  LeftAt exits w end Continued pc values = (exits.continues ≡ true) × (slice_get code pc ≡ Some (way_out w (c.base + 2) continuing))
  LeftAt exits w end (Gave v) pc values = IsGivenAt w.gives v values × (slice_get code pc ≡ Some (way_out w (c.base + 2) returning))

  -- from there it does what comes after
  abbrev pub Follows : Exits → Ways → (end n : ℕ) → (Flow → Locals → Behaviour) → Type 0
  Follows exits w end n after =
      (flow : Flow) (env : Locals) (values frame : ℕ → ℕ) (pc : ℕ) → AreHeld env values frame → LeftAt exits w end flow pc values → Runs c.codes n (after flow env) (here pc values frame)

  -- what a statement needs
  pub record MayStand (s : Stmt) (exits : Exits) (w : Ways) : Type 0 where
    pub typed : IsStmt c.p c.types s exits
    pub gives : Gives s exits w
    pub apart : HeresApart s
    pub ready : IsReady c.checks c.rank c.below (stmt_derefs s) (stmt_calls s)

-- wherever the code of a statement stands, with values that hold the locals, and what comes after it runs from where it is left, the
-- statement runs
abbrev pub StatementsRun : Type 0
StatementsRun =
    (c : Setting) (s : Stmt) (exits : Exits) (w : Ways) (l pc end n : ℕ) (after : Flow → Locals → Behaviour) (env : Locals) (values frame : ℕ → ℕ) →
    n ≤ c.turns → MayStand c s exits w → Stands (code c) pc (stmt_code c.p c.types c.checks c.spots c.base s w l) end → AreHeld c env values frame →
    Follows c exits w end n after → Runs c.codes n (run c.p c.types c.calls c.turns s after env) (here c pc values frame)
