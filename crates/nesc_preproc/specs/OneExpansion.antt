-- Files that are told give one answer (own).
use Rattle.std.specs.Prelude.{◌≡◌, List, Option, Result, Err}
use Rattle.nm_base.specs.declared.token.Token.{Token}
use Rattle.nm_base.specs.declared.fault.Fault.{Fault}
use Rattle.nm_base.specs.declared.fault.Fault.TheVariants as fault
use Rattle.nesc_macros.specs.Invocation.{Name}
use Rattle.nesc_preproc.specs.Sources.{Known}
use Rattle.nesc_preproc.specs.Expands.{Told, Expands}

-- an answer that is neither want of memory nor a read that failed
abbrev pub IsAnswer : Result (List Token) Fault → Type 0
IsAnswer (Err fault.NoMemory) = ⊥
IsAnswer (Err fault.ReadFault) = ⊥
IsAnswer _ = Unit {0}

-- files that are told give one answer, and what is kept is one too
abbrev pub OneExpansion : Type 0
OneExpansion = (told : Told) (old : Option Known) (name : Name) (a b : Result (List Token) Fault) (x y : Option Known)
    → Expands told old name a x → Expands told old name b y → IsAnswer a → IsAnswer b → (a ≡ b) × (x ≡ y)
