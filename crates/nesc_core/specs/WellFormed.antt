-- Well-formed programs: what the wired program of every application is (own; types by C99, 6.2.5, 6.5 and 6.8).
use Rattle.std.specs.Prelude.{⊤, ◌≡◌, ◌≢◌, ℕ, suc, ◌+◌, ◌%◌, ◌<◌, ◌≤◌, Bool, true, false, List, [], ◌∷◌, length, take, drop, Option, Some, None, slice_get, slice_index_or}
use Rattle.std.specs.List.{All, AllPairs}
use Rattle.nesc_core.specs.Plain.{Ty, void, Expr, Exprs, no_exprs, more_exprs, Stmt, eval, block, branch, loop, switch, break, continue, return, atomic, clear, here, Stmts, no_stmts, more_stmts, Field, Object, Body, Program}
use Rattle.nesc_core.specs.Size.{layout_of, AreSized}
use Rattle.nesc_core.specs.Typing.{PointsWell, IsType, IsScalar, IsResult, IsSome, IsTest, IsNumber, Has, AllHave}
use Rattle.nesc_core.specs.Heres.{heres, IsAlone}
use Rattle.nesc_core.specs.Weights.{objects_start, frame_weight}

-- ---- statements

-- how a statement may be left: by a value of a type, by a break, by a continue
pub record Exits : Type 0 where
  pub gives : Ty
  pub breaks : Bool
  pub continues : Bool

abbrev pub by_return : Ty → Exits
by_return t = record { gives = t; breaks = false; continues = false }

abbrev pub in_loop : Exits → Exits
in_loop x = record { gives = x.gives; breaks = true; continues = true }

abbrev pub in_switch : Exits → Exits
in_switch x = record { gives = x.gives; breaks = true; continues = x.continues }

abbrev pub count_exprs : Exprs → ℕ
count_exprs no_exprs = 0
count_exprs (more_exprs e rest) = suc (count_exprs rest)

abbrev pub count_stmts : Stmts → ℕ
count_stmts no_stmts = 0
count_stmts (more_stmts s rest) = suc (count_stmts rest)

-- in a body with these types of locals
module _ (p : Program) (types : List Ty) where
  abbrev pub IsDone : Option Expr → Type 0
  IsDone None = ⊤
  IsDone (Some e) = IsSome (Has p types e)

  abbrev pub IsGiven : Option Expr → Ty → Type 0
  IsGiven None t = ⊤
  IsGiven (Some e) t = IsScalar t × Has p types e t

  -- arguments are values of the locals from the first on, of which there are `count`
  pub record Enters (arguments : Exprs) (first count : ℕ) : Type 0 where
    pub inside : first + count ≤ length types
    pub room : count_exprs arguments ≤ count
    pub passed : AllHave p types arguments (take (count_exprs arguments) (drop first types))

  -- the local that gets the result of an inlined call stands behind the call's own
  abbrev pub by_result : (first count : ℕ) → Exits
  by_result first count = by_return (slice_index_or types (first + count) void)

  abbrev mutual
    pub IsStmt : Stmt → Exits → Type 0
    IsStmt (eval e) = λ exits. IsSome (Has p types e)
    IsStmt (block list) = λ exits. AreStmts list exits
    IsStmt (branch test a b) = λ exits. IsTest (Has p types test) × IsStmt a exits × IsStmt b exits
    IsStmt (loop first test step body) = λ exits. IsTest (Has p types test) × IsDone step × IsStmt body (in_loop exits)
    IsStmt (switch e cases list) = λ exits.
        IsNumber (Has p types e) × All (λ c. c.start < count_stmts list) cases × AreStmts list (in_switch exits)
    IsStmt break = λ exits. exits.breaks ≡ true
    IsStmt continue = λ exits. exits.continues ≡ true
    IsStmt (return e) = λ exits. IsGiven e exits.gives
    IsStmt (atomic s) = λ exits. IsStmt s exits
    IsStmt (clear x) = λ exits. x < length types
    IsStmt (here arguments first count body) = λ exits. Enters arguments first count × IsStmt body (by_result first count)

    pub AreStmts : Stmts → Exits → Type 0
    AreStmts no_stmts = λ exits. ⊤
    AreStmts (more_stmts s rest) = λ exits. IsStmt s exits × AreStmts rest exits

-- ---- programs

-- what a frame weighs at most, in bytes
abbrev pub greatest_frame : ℕ
greatest_frame = 10020

pub record IsBody (p : Program) (b : Body) : Type 0 where
  pub params : b.params ≤ length b.locals
  pub passed : All IsScalar (take b.params b.locals)
  pub locals : All (IsType p.structs) b.locals
  pub result : IsType p.structs b.result
  pub given : IsResult b.result
  pub code : IsStmt p b.locals b.code (by_return b.result)
  pub frame : frame_weight p b ≤ greatest_frame
  pub heres : All (IsAlone b.code) (heres b.code [])

-- at even addresses one behind the other, from this one on
abbrev pub LieFrom : List (List Field) → ℕ → List Object → Type 0
LieFrom structs end [] = end ≤ 65535
LieFrom structs end (o ∷ os) = (end ≤ o.addr) × (o.addr % 2 ≡ 0) × LieFrom structs (o.addr + (layout_of structs o.ty).size) os

-- a body that begins a context
abbrev pub IsRoot : Option Body → Type 0
IsRoot None = ⊥
IsRoot (Some b) = (b.params ≡ 0) × (b.result ≡ void)

abbrev pub IsAtomic : Stmt → Type 0
IsAtomic (atomic s) = ⊤
IsAtomic _ = ⊥

-- the statement, or the first of a block
abbrev pub BeginsAtomic : Stmt → Type 0
BeginsAtomic (block (more_stmts s rest)) = IsAtomic s
BeginsAtomic s = IsAtomic s

abbrev pub BootsAtomic : Option Body → Type 0
BootsAtomic None = ⊥
BootsAtomic (Some b) = BeginsAtomic b.code

pub record IsWellFormed (p : Program) : Type 0 where
  -- fields of a struct name lower ones, but behind pointers, and no type is too large
  pub structs : AreSized p.structs
  pub fields : All (All (λ f. PointsWell p.structs f.ty)) p.structs
  pub objects : All (λ o. IsType p.structs o.ty) p.objects
  pub addresses : LieFrom p.structs objects_start p.objects
  pub bodies : All (IsBody p) p.bodies
  pub tasks : All (λ f. IsRoot (slice_get p.bodies f)) p.tasks
  pub handlers : All (λ h. IsRoot (slice_get p.bodies h.1)) p.handlers
  pub lines : All (λ h. h.0 < 8) p.handlers
  pub differ : AllPairs (λ h k. h.0 ≢ k.0) p.handlers
  pub boot : IsRoot (slice_get p.bodies p.boot)
  pub boot_atomic : BootsAtomic (slice_get p.bodies p.boot)

-- the boot function, a task or a handler
pub data BeginsContext (p : Program) (f : ℕ) : Type 0 where
  boots : f ≡ p.boot → BeginsContext p f
  is_task : (k : ℕ) → slice_get p.tasks k ≡ Some f → BeginsContext p f
  handles : (k line : ℕ) → slice_get p.handlers k ≡ Some (line, f) → BeginsContext p f
