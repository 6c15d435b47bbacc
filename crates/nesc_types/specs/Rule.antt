-- What a phase gives, or its first refusal (own).
use Rattle.std.specs.Prelude.{Option, Some, None, Result, Ok, Err}
use Rattle.nm_base.specs.declared.fault.Fault.{Fault}
use Rattle.nm_base.specs.declared.fault.Fault.TheVariants.{Refused}
use Rattle.nm_base.specs.declared.refusal.Refusal.{Refusal}

abbrev pub Rule : Type 0 → Type 0
Rule A = Result A Fault

infixl 10 ◌>>=◌
abbrev pub ◌>>=◌ : {A B : Type 0} → Rule A → (A → Rule B) → Rule B
(Ok x) >>= next = next x
(Err e) >>= next = Err e

abbrev pub refuse : {A : Type 0} → Refusal → Rule A
refuse r = Err (Refused r)

-- what is found, or this refusal
abbrev pub or_refuse : {A : Type 0} → Refusal → Option A → Rule A
or_refuse r None = refuse r
or_refuse r (Some x) = Ok x
