-- A constant expression and what a body's expression gives (own): a statement for the elaboration of expressions.
use Rattle.std.specs.Prelude.{◌≡◌, ℕ, ℤ, List, take, Ok}
use Rattle.nm_base.specs.declared.int_type.IntType.{IntType}
use Rattle.nm_base.specs.Behaviour.{Behaviour}
use Rattle.nesc_core.specs.Plain.{Ty, Expr, Program}
use Rattle.nesc_tree.specs.Plain as tree
use Rattle.core_meaning.specs.Act.{Calls, value}
use Rattle.core_meaning.specs.Work.{Locals}
use Rattle.nesc_types.specs.Values.{Values}
use Rattle.nesc_types.specs.Constant.{constant}

-- it gives the number x by no action, whatever comes after it, and changes no local below `first`
abbrev pub GivesAlone : (types : List Ty) (locals : Locals) (first : ℕ) → Expr → ℤ → Type 0
GivesAlone types locals first core x = (p : Program) (calls : Calls)
    → (left : Locals) × ((take first left ≡ take first locals)
    × ((after : ℤ → Locals → Behaviour) → value p types calls core after locals ≡ after x left))

-- `Gives values e types locals first core u`: where the names mean these constants, e is the wired expression `core` of type u, in
-- a body with locals of these types, which hold these bytes, and of which those from `first` on are the expression's own. Then its
-- type is the constant's, and it gives the constant's number.
abbrev pub KeepsConstants : (Gives : Values → tree.Expr → List Ty → Locals → ℕ → Expr → IntType → Type 0) → Type 0
KeepsConstants Gives = (values : Values) (e : tree.Expr) (t : IntType) (x : ℤ) → constant values e ≡ Ok (t, x)
    → (types : List Ty) (locals : Locals) (first : ℕ) (core : Expr) (u : IntType) → Gives values e types locals first core u
    → (u ≡ t) × GivesAlone types locals first core x
