-- What the code finds at a token, in the words of the definitions.
use Rattle.std.specs.Prelude.{◌≡◌, ℕ, ◌+◌, ◌-◌, ◌*◌, ◌≤◌, ◌<◌, List, [], ◌∷◌, ◌++◌, length, map, Option, Some, None, sum_by, Bool, false, ◌&&◌, is_some, codes}
use Rattle.nm_base.specs.declared.fault.Fault.{Fault}
use Rattle.nm_base.specs.declared.fault.Fault.TheVariants as fault
use Rattle.nm_base.specs.declared.token.Token.{Token}
use Rattle.nesc_macros.specs.declared.definition.Macro.{Macro}
use Rattle.nesc_macros.specs.declared.table.Table.{Table}
use Rattle.nesc_macros.specs.declared.definition.NumberedToken.{NumberedToken}
use Rattle.nesc_macros.specs.declared.definition.NumberedMacro.{NumberedMacro}
use Rattle.nesc_macros.specs.declared.invocation.Arguments.{Arguments}
use Rattle.nesc_macros.specs.declared.marks.Mark.{Mark}
use Rattle.nesc_macros.specs.declared.marks.Mark.TheVariants as mark
use Rattle.nesc_macros.specs.declared.invocation.Use.{Use as UseInCode}
use Rattle.nesc_macros.specs.declared.invocation.Use.TheVariants as found
use Rattle.nesc_macros.specs.Invocation.{Name, Actuals, PreprocessingToken, Passes, ObjectLike, FunctionLike, Misused, actuals, is_sign, is_word, macro_of, use_of, used_as}
use Rattle.nesc_macros.specs.Tables.{defined_in, macros_in, name_in}
use Rattle.nesc_macros.specs.declared.hide_sets.HideSet.{HideSet}
use Rattle.nesc_macros.specs.declared.hide_sets.Link.{Link}
use Rattle.nesc_macros.specs.declared.replacement.Union.{Union}
use Rattle.nesc_macros.specs.Sets.{numbers_in}
use Rattle.nesc_macros.specs.Numbers.{Scope, joined, macros_at, name_at, shown, all_shown}

-- the fact, unless the fault is want of memory
abbrev pub UnlessNoMemory : Fault → Type 0 → Type 0
UnlessNoMemory fault.NoMemory P = Unit {0}
UnlessNoMemory e P = P

-- twice the tokens of the lists, and one for each list
abbrev pub weight_of_lists : List (List NumberedToken) → ℕ
weight_of_lists lists = sum_by (λ (ts : List NumberedToken). 2 * length ts + 1) lists

abbrev pub actuals_of : Scope → Arguments → List NumberedToken → Actuals
actuals_of scope found rest = record {
  arguments = map (all_shown scope) found.lists.items;
  close = shown scope found.close;
  rest = all_shown scope rest;
}

-- one step of collecting arguments, by the mark of the token t
abbrev pub StepsBy : Mark → ℕ → PreprocessingToken → List PreprocessingToken → List (List PreprocessingToken) → List PreprocessingToken → Type 0
StepsBy mark.Opens depth t now before ts = actuals depth now before (t ∷ ts) ≡ actuals (depth + 1) (now ++ t ∷ []) before ts
StepsBy mark.Closes depth t now before ts =
    (0 < depth) × (actuals depth now before (t ∷ ts) ≡ actuals (depth - 1) (now ++ t ∷ []) before ts)
StepsBy mark.Ends depth t now before ts =
    actuals depth now before (t ∷ ts) ≡ Some (record { arguments = before ++ now ∷ []; close = t; rest = ts })
StepsBy mark.Separates depth t now before ts =
    (depth ≡ 0) × (actuals depth now before (t ∷ ts) ≡ actuals 0 [] (before ++ now ∷ []) ts)
StepsBy mark.Belongs depth t now before ts = actuals depth now before (t ∷ ts) ≡ actuals depth (now ++ t ∷ []) before ts

-- what was taken from `old`, of which `new` is left
abbrev pub IsTaken : Scope → List NumberedToken → Option Arguments → List NumberedToken → Type 0
IsTaken scope old None new = actuals 0 [] [] (all_shown scope old) ≡ None
IsTaken scope old (Some found) new = actuals 0 [] [] (all_shown scope old) ≡ Some (actuals_of scope found new)

abbrev pub IsLess : List NumberedToken → Option Arguments → List NumberedToken → Type 0
IsLess old None new = Unit {0}
IsLess old (Some found) new = weight_of_lists found.lists.items + 2 * length new ≤ 2 * length old

-- the macro of this name, with its number
abbrev pub IsNumbered : Table → Name → Option NumberedMacro → Type 0
IsNumbered table name None = macro_of (macros_in table) name ≡ None
IsNumbered table name (Some c) =
    (macro_of (macros_in table) name ≡ Some c.definition.now) × (name_in (defined_in table) c.number ≡ Some c.definition.now.name)
    × (c.definition.now.name ≡ name)

-- the token is a word that names a macro
abbrev pub is_macro_name : List Macro → Token → Bool
is_macro_name macros t = is_word t && is_some (macro_of macros t.text)

-- the token t may be used as no macro, or only as this one
abbrev pub IsCandidate : Scope → NumberedToken → Option NumberedMacro → Type 0
IsCandidate scope t None = (ts : List PreprocessingToken) → use_of (macros_at scope) (shown scope t) ts ≡ Passes
IsCandidate scope t (Some c) =
    (name_at scope c.number ≡ Some c.definition.now.name)
    × ((ts : List PreprocessingToken) → use_of (macros_at scope) (shown scope t) ts ≡ used_as c.definition.now c.definition.now.parameters ts)

-- what the token t before `old` is used as, where `new` is left behind it
abbrev pub IsUsedAs : Scope → NumberedToken → List NumberedToken → UseInCode → List NumberedToken → Type 0
IsUsedAs scope t old found.Passes new = (use_of (macros_at scope) (shown scope t) (all_shown scope old) ≡ Passes) × (new ≡ old)
IsUsedAs scope t old (found.ObjectLike c) new =
    (use_of (macros_at scope) (shown scope t) (all_shown scope old) ≡ ObjectLike c.definition.now)
    × (name_at scope c.number ≡ Some c.definition.now.name) × (new ≡ old)
IsUsedAs scope t old (found.FunctionLike c parameters arguments) new =
    (use_of (macros_at scope) (shown scope t) (all_shown scope old) ≡ FunctionLike c.definition.now parameters.now (actuals_of scope arguments new))
    × (name_at scope c.number ≡ Some c.definition.now.name)
    × (weight_of_lists arguments.lists.items + 2 * length new + 2 ≤ 2 * length old)
IsUsedAs scope t old found.Misused new = use_of (macros_at scope) (shown scope t) (all_shown scope old) ≡ Misused

-- an opening parenthesis is at the front
abbrev pub begins_arguments : List NumberedToken → Bool
begins_arguments [] = false
begins_arguments (t ∷ ts) = is_sign (codes "(") t.token

-- the union with the hide set of some tokens is that of these two
abbrev pub IsUnion : List Link → HideSet → Union → Type 0
IsUnion links hide_set u = numbers_in links u.all ≡ joined (numbers_in links hide_set) (numbers_in links u.part)
