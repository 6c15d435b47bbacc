-- What an expansion gives, for files that are told (own).
use Rattle.std.specs.Prelude.{Bool, true, false, ◌≡◌, ℕ, List, Option, Some, None, Result, Ok, Err}
use Rattle.std.specs.Prelude.{Vec}
use Rattle.std.specs.declared.alloc.Global.{Global}
use Rattle.nm_base.specs.declared.token.Token.{Token}
use Rattle.nm_base.specs.declared.refusal.Refusal.{Refusal}
use Rattle.nm_base.specs.declared.fault.Fault.{Fault}
use Rattle.nm_base.specs.declared.fault.Fault.TheVariants as fault
use Rattle.nesc_macros.specs.Invocation.{Name}
use Rattle.nesc_macros.specs.Expansion.{Settles}
use Rattle.nesc_preproc.specs.Sources.{Known, IsLexing}
use Rattle.nesc_preproc.specs.Scanned.{file_expanded}

abbrev pub Told : Type 0
Told = Name → Option (List ℕ)

-- no read fails but that of the answer
abbrev pub FailsOnly : Result (List Token) Fault → Option ℕ → Type 0
FailsOnly (Err fault.ReadFault) broken = Unit {0}
FailsOnly _ broken = broken ≡ None

-- the tokens, or why there are none, and what is kept
pub record ExpandsAs (told : Told) (old : Known) (name : Name) (value : Result (List Token) Fault) (new : Option Known) : Type 0 where
  pub lexed : ℕ → List ℕ → Result (List Token) Refusal
  pub is_lexing : IsLexing lexed
  pub broken : Option ℕ
  pub fails_only : FailsOnly value broken
  pub known : Known
  pub is_kept : new ≡ Some known
  pub settles : Settles (λ steps. file_expanded steps (record { text_of = told; broken = broken; lexed = lexed }) old name) (record { value = value; known = known })

-- the same of an answer behind which this is known; want of memory is free
abbrev pub KeepsAs : Told → Known → Name → Result (List Token) Fault → Known → Type 0
KeepsAs told old name (Err fault.NoMemory) new = Unit {0}
KeepsAs told old name value new = ExpandsAs told old name value (Some new)

-- what is kept is None where memory ran out once: nothing else is answered then
abbrev pub Expands : Told → Option Known → Name → Result (List Token) Fault → Option Known → Type 0
Expands told None name value new = (value ≡ Err fault.NoMemory) × (new ≡ None)
Expands told (Some old) name (Err fault.NoMemory) new = new ≡ None
Expands told (Some old) name value new = ExpandsAs told old name value new

abbrev pub answer_of : Result (Vec Token Global) Fault → Result (List Token) Fault
answer_of (Ok v) = Ok v.items
answer_of (Err e) = Err e

abbrev pub IfMissing : {A : Type 0} → Result A Fault → (Name → Type 0) → Type 0
IfMissing (Err (fault.Missing name)) P = P name
IfMissing _ P = Unit {0}

abbrev pub is_memory : Result (List Token) Fault → Bool
is_memory (Err fault.NoMemory) = true
is_memory _ = false
