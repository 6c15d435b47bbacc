-- Tokens that wait to be expanded, as the code keeps them: with the lengths of what stands in parentheses (own).
use Rattle.std.specs.Prelude.{◌≡◌, ℕ, zero, suc, ◌+◌, ◌<◌, ◌≤◌, Bool, true, false, List, [], ◌∷◌, ◌++◌, nat_eq, codes, length, map, take, drop, Option, Some, None}
use Rattle.nesc_macros.specs.declared.definition.NumberedToken.{NumberedToken}
use Rattle.nesc_macros.specs.declared.waiting.Waiting.{Waiting}
use Rattle.nesc_macros.specs.declared.waiting.ArgumentEnd.{ArgumentEnd}
use Rattle.nesc_macros.specs.Invocation.{Actuals, PreprocessingToken, actuals, is_sign}
use Rattle.nesc_macros.specs.Numbers.{Scope, all_shown}

abbrev pub parts : List Waiting → List NumberedToken
parts = map (λ (w : Waiting). w.part)

-- whether the last token is the closing parenthesis that belongs to the outermost of so many open ones and one more
abbrev pub closes : ℕ → List NumberedToken → Bool
closes depth [] = false
closes depth (t ∷ ts) =
    elim (is_sign (codes "(") t.token) [
      | true ↦ closes (suc depth) ts
      | false ↦ elim (is_sign (codes ")") t.token) [
        | true ↦ elim depth [
          | zero ↦ nat_eq (length ts) 0
          | suc less ↦ closes less ts
        ]
        | false ↦ closes depth ts
      ]
    ]

-- of the tokens behind an opening parenthesis so many are up to its closing one; 0 says nothing
abbrev pub IsGroup : ℕ → List NumberedToken → Type 0
IsGroup n behind = 0 < n → n ≤ length behind → closes 0 (take n behind) ≡ true

abbrev pub AreGrouped : List Waiting → Type 0
AreGrouped [] = Unit {0}
AreGrouped (w ∷ ws) = IsGroup w.group (parts ws) × AreGrouped ws

-- up to each closing parenthesis that is opened before these tokens, how many there are behind the one before it
abbrev pub AreClosing : List ℕ → List NumberedToken → Type 0
AreClosing [] ts = Unit {0}
AreClosing (n ∷ ns) ts = (n ≤ length ts) × (closes 0 (take n ts) ≡ true) × AreClosing ns (drop n ts)

-- what an opening parenthesis is closed by, and the others
abbrev pub group_opened : Bool → List ℕ → ℕ × List ℕ
group_opened true (n ∷ ns) = (n, ns)
group_opened _ ns = (0, ns)

-- so many more tokens stand before the first
abbrev pub with_more : ℕ → List ℕ → List ℕ
with_more more [] = []
with_more more (n ∷ ns) = (n + more) ∷ ns

-- what stands behind an argument, at the sign that ends it
abbrev pub separated : Bool → List PreprocessingToken → List (List PreprocessingToken) → List PreprocessingToken → Option Actuals
separated is_last now before [] = None
separated true now before (t ∷ ts) = Some (record { arguments = before ++ now ∷ []; close = t; rest = ts })
separated false now before (t ∷ ts) = actuals 0 [] (before ++ now ∷ []) ts

-- where the argument at the front of the tokens ends
abbrev pub IsArgumentEnd : List NumberedToken → Option ArgumentEnd → Type 0
IsArgumentEnd ts None = (scope : Scope) (before : List (List PreprocessingToken)) → actuals 0 [] before (all_shown scope ts) ≡ None
IsArgumentEnd ts (Some e) =
    (e.len < length ts)
    × ((scope : Scope) (before : List (List PreprocessingToken))
    → actuals 0 [] before (all_shown scope ts) ≡ separated e.is_last (all_shown scope (take e.len ts)) before (all_shown scope (drop e.len ts)))

-- `at` tokens of an argument are behind, with so many parentheses open
abbrev pub Walks : List NumberedToken → ℕ → ℕ → Type 0
Walks ts at depth = (scope : Scope) (before : List (List PreprocessingToken))
    → actuals 0 [] before (all_shown scope ts) ≡ actuals depth (all_shown scope (take at ts)) before (all_shown scope (drop at ts))
