-- What the signs of a constant expression mean, and how tightly the operators bind (C99 6.5, 6.6).
use Rattle.std.specs.Prelude.{ℕ, true, false, List, [], ◌∷◌, map, codes, Option, Some, None}
use denote.Ref.{Bor}
use Rattle.nesc_macros.specs.Invocation.{Name, same_name}
use Rattle.nesc_conditions.specs.declared.operator.Operator.{Operator}
use Rattle.nesc_conditions.specs.declared.operator.Operator.TheVariants.{Comma, Or, And, BitOr, BitXor, BitAnd, Equal, NotEqual, Less, Greater, LessOrEqual, GreaterOrEqual, ShiftLeft, ShiftRight, Add, Subtract, Multiply, Divide, Remainder}
use Rattle.nesc_conditions.specs.declared.operator.Prefix.TheVariants.{Plus, Minus, Complement, Not}
use Rattle.nesc_conditions.specs.declared.operator.Opening.{Opening}
use Rattle.nesc_conditions.specs.declared.operator.Opening.TheVariants as opening
use Rattle.nesc_conditions.specs.declared.operator.Following.{Following}
use Rattle.nesc_conditions.specs.declared.operator.Following.TheVariants.{Infix, Conditional}

-- what a table has for a spelling
abbrev pub lookup : {A : Type 0} → Name → List (Name × A) → Option A
lookup text [] = None
lookup text (row ∷ rows) = elim (same_name text row.0) [ true ↦ Some row.1 | false ↦ lookup text rows ]

-- a table of the code
abbrev pub spelled_rows : {A : Type 0} → List (Bor Name × A) → List (Name × A)
spelled_rows = map (λ row. (row.0.now, row.1))

-- how tightly an operator of two operands binds
abbrev pub level_of : Operator → ℕ
level_of Comma = 0
level_of Or = 2
level_of And = 3
level_of BitOr = 4
level_of BitXor = 5
level_of BitAnd = 6
level_of Equal = 7
level_of NotEqual = 7
level_of Less = 8
level_of Greater = 8
level_of LessOrEqual = 8
level_of GreaterOrEqual = 8
level_of ShiftLeft = 9
level_of ShiftRight = 9
level_of Add = 10
level_of Subtract = 10
level_of Multiply = 11
level_of Divide = 11
level_of Remainder = 11

-- binds looser than every operator but the comma
abbrev pub conditional_level : ℕ
conditional_level = 1

-- binds tighter than every operator of two operands
abbrev pub prefix_level : ℕ
prefix_level = 12

-- the signs that open an operand
unfoldable pub opening_signs : List (Name × Opening)
opening_signs =
    (codes "(", opening.Group) ∷ (codes "+", opening.Prefix Plus) ∷ (codes "-", opening.Prefix Minus)
    ∷ (codes "~", opening.Prefix Complement) ∷ (codes "!", opening.Prefix Not) ∷ []

-- the signs behind an operand
unfoldable pub following_signs : List (Name × Following)
following_signs =
    (codes ",", Infix Comma) ∷ (codes "?", Conditional) ∷ (codes "||", Infix Or) ∷ (codes "&&", Infix And)
    ∷ (codes "|", Infix BitOr) ∷ (codes "^", Infix BitXor) ∷ (codes "&", Infix BitAnd)
    ∷ (codes "==", Infix Equal) ∷ (codes "!=", Infix NotEqual)
    ∷ (codes "<", Infix Less) ∷ (codes ">", Infix Greater) ∷ (codes "<=", Infix LessOrEqual) ∷ (codes ">=", Infix GreaterOrEqual)
    ∷ (codes "<<", Infix ShiftLeft) ∷ (codes ">>", Infix ShiftRight)
    ∷ (codes "+", Infix Add) ∷ (codes "-", Infix Subtract)
    ∷ (codes "*", Infix Multiply) ∷ (codes "/", Infix Divide) ∷ (codes "%", Infix Remainder) ∷ []

abbrev pub opening_sign_of : Name → Option Opening
opening_sign_of text = lookup text opening_signs

abbrev pub following_sign_of : Name → Option Following
following_sign_of text = lookup text following_signs
