-- A macro is found where one of the macros has its name.
use Rattle.std.proofs.Common.{◌≡◌, Bool, true, false, ◌||◌, cond, List, [], ◌∷◌, Option, Some, None, refl, Bor}
use Rattle.std.specs.Prelude.{is_some}
use Rattle.std.specs.List.{list_any}
use Rattle.std.specs.Option.{option_copied}
use Rattle.nesc_macros.specs.declared.definition.Macro.{Macro}
use Rattle.nesc_macros.specs.Invocation.{Name, same_name, macro_of}

pub found_any : (macros : List Macro) (name : Name) → is_some (macro_of macros name) ≡ list_any (λ (m : Macro). same_name m.name name) macros
found_any [] name = refl
found_any (m ∷ macros) name =
    let by : (b : Bool) → is_some (cond b (Some m) (macro_of macros name)) ≡ (b || list_any (λ (m : Macro). same_name m.name name) macros) = elim [ true ↦ refl | false ↦ found_any macros name ] in
    by (same_name m.name name)

pub copied_is_some : (o : Option (Bor Macro)) → is_some o ≡ is_some (option_copied o)
copied_is_some None = refl
copied_is_some (Some x) = refl
