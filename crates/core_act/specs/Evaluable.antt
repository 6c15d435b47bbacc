-- What the evaluation of a tree rests on: what pointers point to has a size, and fields stand in their structs.
use Rattle.std.specs.Prelude.{⊤, ◌<◌, List, length, Option, Some, None}
use Rattle.std.specs.List.{All}
use Rattle.nesc_core.specs.Plain.{Ty, Expr, Exprs, Place, Stmt, Stmts, Body, Program, no_exprs, more_exprs, no_stmts, more_stmts}
use Rattle.nesc_core.specs.Plain as plain
use Rattle.nesc_core.specs.Size.{AreSized, IsSized, layout_of}
use Rattle.nesc_core.specs.PlaceTypes.{fields_of, place_type}
use Rattle.nesc_core.specs.Parts.{LiesWell}

-- in a body with these types of locals
module _ (p : Program) (types : List Ty) where
  abbrev mutual
    pub Findable : Place → Type 0
    Findable (plain.object k) = ⊤
    Findable (plain.local x) = ⊤
    Findable (plain.deref e t) = IsSized p.structs t × (0 < (layout_of p.structs t).size) × Evaluable e
    Findable (plain.index place e) = Findable place × Evaluable e
    Findable (plain.field place k) = (k < length (fields_of p.structs (place_type p types place))) × Findable place

    pub Evaluable : Expr → Type 0
    Evaluable (plain.const t x) = ⊤
    Evaluable plain.null = ⊤
    Evaluable (plain.read place at) = Findable place
    Evaluable (plain.addr place) = Findable place
    Evaluable (plain.un op t e) = Evaluable e
    Evaluable (plain.bin op t a b) = Evaluable a × Evaluable b
    Evaluable (plain.convert t e) = Evaluable e
    Evaluable (plain.offset a b size) = Evaluable a × Evaluable b
    Evaluable (plain.distance a b size) = (0 < size) × Evaluable a × Evaluable b
    Evaluable (plain.both a b) = Evaluable a × Evaluable b
    Evaluable (plain.either a b) = Evaluable a × Evaluable b
    Evaluable (plain.choice test a b) = Evaluable test × Evaluable a × Evaluable b
    Evaluable (plain.assign place e at) = Findable place × Evaluable e
    Evaluable (plain.update place op t e gives_old at) = Findable place × Evaluable e
    Evaluable (plain.call f arguments at) = AllEvaluable arguments
    Evaluable (plain.post k) = ⊤
    Evaluable (plain.port_in port) = ⊤
    Evaluable (plain.port_out port e) = Evaluable e
    Evaluable (plain.comma a b) = Evaluable a × Evaluable b

    pub AllEvaluable : Exprs → Type 0
    AllEvaluable no_exprs = ⊤
    AllEvaluable (more_exprs e rest) = Evaluable e × AllEvaluable rest

  abbrev pub MaybeEvaluable : Option Expr → Type 0
  MaybeEvaluable None = ⊤
  MaybeEvaluable (Some e) = Evaluable e

  abbrev mutual
    pub Runnable : Stmt → Type 0
    Runnable (plain.eval e) = Evaluable e
    Runnable (plain.block list) = AllRunnable list
    Runnable (plain.branch test a b) = Evaluable test × Runnable a × Runnable b
    Runnable (plain.loop first test step body) = Evaluable test × MaybeEvaluable step × Runnable body
    Runnable (plain.switch e cases list) = Evaluable e × AllRunnable list
    Runnable plain.break = ⊤
    Runnable plain.continue = ⊤
    Runnable (plain.return e) = MaybeEvaluable e
    Runnable (plain.atomic s) = Runnable s
    Runnable (plain.clear x) = ⊤
    Runnable (plain.here arguments first count body) = AllEvaluable arguments × Runnable body

    pub AllRunnable : Stmts → Type 0
    AllRunnable no_stmts = ⊤
    AllRunnable (more_stmts s rest) = Runnable s × AllRunnable rest

pub record IsRunnable (p : Program) (b : Body) : Type 0 where
  pub locals : All (IsSized p.structs) b.locals
  pub code : Runnable p b.locals b.code

-- a program, and the types of a body's locals
pub record Holds (p : Program) (types : List Ty) : Type 0 where
  pub structs : AreSized p.structs
  pub objects : All (LiesWell p.structs) p.objects
  pub bodies : All (IsRunnable p) p.bodies
  pub locals : All (IsSized p.structs) types
