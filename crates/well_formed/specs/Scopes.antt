-- Where expressions stand, as plain data, and the types that they have there (own).
use Rattle.std.specs.Prelude.{ℕ, ◌<◌, ◌≤◌, List, map}
use Rattle.nm_base.specs.declared.int_type.IntType.TheVariants.{I16}
use Rattle.nesc_core.specs.Plain.{Ty, Expr, Exprs, Place, Program, int, pointer}
use Rattle.nesc_core.specs.Plain as plain
use Rattle.nesc_core.specs.PlaceTypes.{place_type}
use Rattle.nesc_core.specs.Typing.{IsStepped, PointsWell}
use Rattle.nesc_core.specs.Typing as typing
use Rattle.nesc_core.specs.View.{program_of, structs_of, type_of}
use Rattle.well_formed.specs.declared.found.Found.{Found}
use Rattle.well_formed.specs.declared.found.Found.TheVariants.{Of, Null, Behind}
use Rattle.well_formed.specs.declared.scope.Scope.{Scope}
use Rattle.well_formed.specs.Kinds.{type_of_kind}
use Rattle.well_formed.specs.Laid.{AreLaid}

abbrev pub program_in : Scope → Program
program_in s = program_of s.program.now

abbrev pub locals_in : Scope → List Ty
locals_in s = map type_of s.locals.now

-- what code asks of it
abbrev pub IsLaidIn : Scope → Type 0
IsLaidIn s = AreLaid (structs_of s.program.now.structs) s.layouts.now

abbrev pub Has : Scope → Expr → Ty → Type 0
Has s e t = typing.Has (program_in s) (locals_in s) e t

abbrev pub AllHave : Scope → Exprs → List Ty → Type 0
AllHave s es ts = typing.AllHave (program_in s) (locals_in s) es ts

abbrev pub IsPlace : Scope → Place → Type 0
IsPlace s place = typing.IsPlace (program_in s) (locals_in s) place

abbrev pub type_at : Scope → Place → Ty
type_at s place = place_type (program_in s) (locals_in s) place

-- a logical operator takes both
pub record AreTests (s : Scope) (a b : Expr) : Type 0 where
  pub both : Has s (plain.both a b) (int I16)
  pub either : Has s (plain.either a b) (int I16)

-- values of so many bytes, and pointers to them
pub record IsBehind (s : Scope) (e : Expr) (size : ℕ) : Type 0 where
  pub some : 0 < size
  pub small : size ≤ 32767
  pub has : (t : Ty) → IsStepped (program_in s).structs size (pointer t) → Has s e (pointer t)

-- the expression has the types that were found
abbrev pub HasFound : Scope → Expr → Found → Type 0
HasFound s e (Of k) = Has s e (type_of_kind k)
HasFound s e Null = (t : Ty) → PointsWell (program_in s).structs (pointer t) → Has s e (pointer t)
HasFound s e (Behind n) = IsBehind s e n
