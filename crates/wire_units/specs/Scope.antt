-- Declarations in one scope: the first that declares a name again is refused.
use Rattle.std.specs.Prelude.{ℕ, cond, List, [], ◌∷◌, ◌++◌, Option, Some, None, Result, Ok, Err}
use Rattle.std.specs.List.{list_any}
use Rattle.nm_base.specs.declared.pos.Pos.{Pos}
use Rattle.wire_instances.specs.declared.plan.Unmet.{Unmet}
use Rattle.wire_instances.specs.declared.plan.Unmet.TheVariants as unmet
use Rattle.wire_names.specs.Texts.{same_text}

abbrev pub Scope : Type 0
Scope = List (List ℕ)

-- a scope, or what is refused in it
abbrev pub Judged : Type 0
Judged = Result Scope Unmet

infixl 1 ◌>>=◌
abbrev pub ◌>>=◌ : {A B : Type 0} → Result A Unmet → (A → Result B Unmet) → Result B Unmet
Ok x >>= f = f x
Err e >>= f = Err e

-- a name and the place of its declaration
abbrev pub Declared : Type 0
Declared = List ℕ × Pos

abbrev pub declare : Scope → List ℕ → Pos → Judged
declare scope name at = cond (list_any (same_text name) scope) (Err (unmet.DuplicateName at)) (Ok (scope ++ name ∷ []))

abbrev pub declare_all : Scope → List Declared → Judged
declare_all scope [] = Ok scope
declare_all scope (d ∷ ds) = declare scope d.0 d.1 >>= λ more. declare_all more ds

abbrev pub fault_of : {A : Type 0} → Result A Unmet → Option Unmet
fault_of (Ok x) = None
fault_of (Err e) = Some e
