-- What a token at the front of a list is used as: a name that passes, or the name of a macro with its arguments (C99 6.10.3).
use Rattle.std.specs.Prelude.{ℕ, zero, suc, Bool, true, false, not, ◌&&◌, ◌||◌, List, [], ◌∷◌, ◌++◌, nat_eq, if◌then◌else◌, codes, length, find, Option, Some, None}
use Rattle.std.specs.List.{list_any}
use Rattle.std.specs.Cmp.Lexicographic.{pointwise}
use Rattle.nm_base.specs.declared.token.Kind.TheVariants.{Word, Sign}
use Rattle.nm_base.specs.declared.token.Token.{Token}
use Rattle.nesc_macros.specs.declared.definition.Macro.{Macro}

abbrev pub Name : Type 0
Name = List ℕ

-- a token and the names of the macros that are not replaced in it any more
pub record PreprocessingToken : Type 0 where
  pub token : Token
  pub hide_set : List Name

abbrev pub same_name : Name → Name → Bool
same_name = pointwise nat_eq

abbrev pub is_among : List Name → Name → Bool
is_among names name = list_any (same_name name) names

abbrev pub is_word : Token → Bool
is_word t = elim (t.kind) [ Word ↦ true | _ ↦ false ]

abbrev pub is_sign : List ℕ → Token → Bool
is_sign text t = elim (t.kind) [ Sign ↦ same_name t.text text | _ ↦ false ]

-- the macro of this name
abbrev pub macro_of : List Macro → Name → Option Macro
macro_of macros name = find (λ (m : Macro). same_name m.name name) macros

-- what stands behind the opening parenthesis of a function-like use: its arguments, its closing parenthesis, and the rest
pub record Actuals : Type 0 where
  pub arguments : List (List PreprocessingToken)
  pub close : PreprocessingToken
  pub rest : List PreprocessingToken

-- `before` are the arguments so far, `now` the one that is open, and `depth` its open parentheses
abbrev pub actuals : ℕ → List PreprocessingToken → List (List PreprocessingToken) → List PreprocessingToken → Option Actuals
actuals depth now before [] = None
actuals depth now before (t ∷ ts) =
    elim (is_sign (codes "(") t.token) [
      | true ↦ actuals (suc depth) (now ++ t ∷ []) before ts
      | false ↦ elim (is_sign (codes ")") t.token) [
        | true ↦ elim depth [
          | zero ↦ Some (record { arguments = before ++ now ∷ []; close = t; rest = ts })
          | suc less ↦ actuals less (now ++ t ∷ []) before ts
        ]
        | false ↦ elim (is_sign (codes ",") t.token && nat_eq depth 0) [
          | true ↦ actuals 0 [] (before ++ now ∷ []) ts
          | false ↦ actuals depth (now ++ t ∷ []) before ts
        ]
      ]
    ]

abbrev pub is_empty : List PreprocessingToken → Bool
is_empty ts = nat_eq (length ts) 0

-- one argument for each parameter; an empty one also fits a macro that has none
abbrev pub fits : List Name → List (List PreprocessingToken) → Bool
fits parameters arguments =
    nat_eq (length parameters) (length arguments)
    || (nat_eq (length parameters) 0 && (nat_eq (length arguments) 1 && list_any is_empty arguments))

-- what the token at the front is
pub data Use : Type 0 where
  Passes : Use
  ObjectLike : Macro → Use
  FunctionLike : Macro → List Name → Actuals → Use
  -- another number of arguments, or no closing parenthesis
  Misused : Use

-- by whether `(` follows the name, and what stands behind it
abbrev pub invoked : Macro → List Name → Bool → Option Actuals → Use
invoked m parameters false found = Passes
invoked m parameters true None = Misused
invoked m parameters true (Some found) = if fits parameters found.arguments then FunctionLike m parameters found else Misused

abbrev pub used_as : Macro → Option (List Name) → List PreprocessingToken → Use
used_as m None ts = ObjectLike m
used_as m (Some parameters) [] = Passes
used_as m (Some parameters) (t ∷ ts) = invoked m parameters (is_sign (codes "(") t.token) (actuals 0 [] [] ts)

abbrev pub used : Bool → Option Macro → List PreprocessingToken → Use
used false m ts = Passes
used true None ts = Passes
used true (Some m) ts = used_as m m.parameters ts

-- a name that is not in its own hide set
abbrev pub may_be_used : PreprocessingToken → Bool
may_be_used t = is_word t.token && not (is_among t.hide_set t.token.text)

-- what the token t is before what follows it
abbrev pub use_of : List Macro → PreprocessingToken → List PreprocessingToken → Use
use_of macros t ts = used (may_be_used t) (macro_of macros t.token.text) ts
