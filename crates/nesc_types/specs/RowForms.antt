-- The forms of worked rows of constants (own).
use Rattle.std.specs.Prelude.{◌≡◌, ℕ, ℤ, pos, ◌-ℤ◌, false, List, [], ◌∷◌, codes, map, Option, Some, None, Ok}
use Rattle.nm_base.specs.declared.pos.Pos.{Pos}
use Rattle.nm_base.specs.declared.int_type.IntType.{IntType}
use Rattle.nesc_tree.specs.declared.tree.PreOp.{PreOp}
use Rattle.nesc_tree.specs.declared.tree.InOp.{InOp}
use Rattle.nesc_tree.specs.Plain.{Expr, name, unary, binary, cast, type_spec, int, no_exprs}
use Rattle.nesc_types.specs.Constant.{constant}
use Rattle.nesc_types.specs.Literals.{number}
use Rattle.nesc_types.specs.Rule.{Rule}
use Rattle.nesc_types.specs.Values.{Constant, Values}

abbrev pub minus : ℕ → ℤ
minus n = pos 0 -ℤ pos n

abbrev pub at : (col : ℕ) → Pos
at col = record { file = 0; line = 1; col = col }

-- ---- operators

-- x and y, and what an operator between them gives
pub record Row : Type 0 where
  pub x : Constant
  pub y : Constant
  pub result : Constant

abbrev pub row : IntType → ℤ → IntType → ℤ → IntType → ℤ → Row
row t x u y v z = record { x = (t, x); y = (u, y); result = (v, z) }

-- x OPERATOR y
abbrev pub applied : InOp → Row → Rule Constant
applied o r = constant ((codes "x", r.x) ∷ (codes "y", r.y) ∷ []) (binary o (name (codes "x") (at 1)) (name (codes "y") (at 3)) (at 1))

abbrev pub Gives : InOp → List Row → Type 0
Gives o rows = map (applied o) rows ≡ map (λ (r : Row). Ok r.result) rows

-- x, and what an operator before it or a cast of it gives
pub record UnaryRow : Type 0 where
  pub x : Constant
  pub result : Constant

abbrev pub unary_row : IntType → ℤ → IntType → ℤ → UnaryRow
unary_row t x v z = record { x = (t, x); result = (v, z) }

abbrev pub with_x : Expr → UnaryRow → Rule Constant
with_x e r = constant ((codes "x", r.x) ∷ []) e

abbrev pub GivesBefore : PreOp → List UnaryRow → Type 0
GivesBefore o rows = map (with_x (unary o (name (codes "x") (at 2)) (at 1))) rows ≡ map (λ (r : UnaryRow). Ok r.result) rows

abbrev pub cast_to : IntType → Expr → Expr
cast_to t e = cast (type_spec (int t) 0 no_exprs false) e (at 1)

abbrev pub AreCast : List UnaryRow → Type 0
AreCast rows = map (λ (r : UnaryRow). with_x (cast_to r.result.0 (name (codes "x") (at 2))) r) rows ≡ map (λ (r : UnaryRow). Ok r.result) rows

-- ---- literals

-- a literal, and its type and number; None where no type holds it
pub record Literal : Type 0 where
  pub text : List ℕ
  pub value : Option Constant

abbrev pub held : List ℕ → IntType → ℤ → Literal
held text t n = record { text = text; value = Some (t, n) }

abbrev pub too_large : List ℕ → Literal
too_large text = record { text = text; value = None }

abbrev pub AreRead : List Literal → Type 0
AreRead rows = map (λ (r : Literal). number r.text) rows ≡ map (λ (r : Literal). r.value) rows

-- ---- whole expressions

-- an expression and what `constant` gives, where the names are these constants
pub record Worked : Type 0 where
  pub expr : Expr
  pub gives : Rule Constant

abbrev pub AreGiven : Values → List Worked → Type 0
AreGiven values rows = map (λ (r : Worked). constant values r.expr) rows ≡ map (λ (r : Worked). r.gives) rows
