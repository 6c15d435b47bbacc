-- What a conversion does to a value (C99, 6.3.1.3; that a number is wrapped where C leaves it open is own).
use Rattle.std.specs.Prelude.{◌≡◌, ℤ, List}
use Rattle.nm_base.specs.declared.int_type.IntType.{IntType}
use Rattle.nm_base.specs.IntType.{wrapped}
use Rattle.nm_base.specs.Behaviour.{Behaviour}
use Rattle.nesc_core.specs.Plain.{Ty, Expr, Program}
use Rattle.core_meaning.specs.Act.{Calls, value}
use Rattle.core_meaning.specs.Work.{Locals}
use Rattle.elab_meaning.specs.Convert.{to_int}

-- the expression gives numbers of the type alone, whatever comes after it
abbrev pub GivesNumbersOf : IntType → Expr → Type 0
GivesNumbersOf t e = (p : Program) (types : List Ty) (calls : Calls) (next : ℤ → Locals → Behaviour) (locals : Locals)
    → value p types calls e (λ x. next (wrapped t x)) locals ≡ value p types calls e next locals

-- converted to another type, it gives the same number wrapped to it, and does nothing else
abbrev pub ConversionsWrap : Type 0
ConversionsWrap = (to from : IntType) (e : Expr) → GivesNumbersOf from e
    → (p : Program) (types : List Ty) (calls : Calls) (next : ℤ → Locals → Behaviour) (locals : Locals)
    → value p types calls (to_int to from e) next locals ≡ value p types calls e (λ x. next (wrapped to x)) locals
