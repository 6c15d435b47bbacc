-- A replacement list, one token at a time.
use Rattle.std.proofs.Common.{◌≡◌, ℕ, suc, arith, ◌+◌, List, [], ◌∷◌, ◌++◌, length, map, Option, Some, None, sym, ap, ◌∙◌, append_assoc}
use Rattle.std.proofs.lemmas.List.{length-append, length-map}
use Rattle.nm_base.specs.declared.token.Token.{Token}
use Rattle.nm_base.specs.declared.pos.Pos.{Pos}
use Rattle.nesc_macros.specs.declared.definition.NumberedToken.{NumberedToken}
use Rattle.nesc_macros.specs.Invocation.{Name, PreprocessingToken}
use Rattle.nesc_macros.specs.Expansion.{argument_of, hide, placed, substituted, union}
use Rattle.nesc_macros.specs.Numbers.{Scope, all_shown, shown}

abbrev Tokens : Type 0
Tokens = List PreprocessingToken

abbrev by_argument : Pos → List Name → List Name → List Tokens → Token → List Token → Option Tokens → Tokens
by_argument pos hide_set ps args t ts found = elim found [
  | Some tokens ↦ hide hide_set tokens ++ substituted pos hide_set ps args ts
  | None ↦ placed pos hide_set t ∷ substituted pos hide_set ps args ts
]

with_argument : (pos : Pos) (hide_set ps : List Name) (args : List Tokens) (t : Token) (ts : List Token) (found : Option Tokens) → argument_of ps args t.text ≡ found → substituted pos hide_set ps args (t ∷ ts) ≡ by_argument pos hide_set ps args t ts found
with_argument pos hide_set ps args t ts found is = ap (by_argument pos hide_set ps args t ts) is

pub len_with_argument : (scope : Scope) (pos : Pos) (hide_set ps : List Name) (args : List (List NumberedToken)) (t : Token) (ts : List Token) (argument items : List NumberedToken) → argument_of ps (map (all_shown scope) args) t.text ≡ Some (all_shown scope argument) → items ≡ argument
    → length (substituted pos hide_set ps (map (all_shown scope) args) (t ∷ ts)) ≡ length items + length (substituted pos hide_set ps (map (all_shown scope) args) ts)
len_with_argument scope pos hide_set ps args t ts argument items is same =
    let rest = substituted pos hide_set ps (map (all_shown scope) args) ts in
    ap length (with_argument pos hide_set ps (map (all_shown scope) args) t ts (Some (all_shown scope argument)) is)
    ∙ length-append (hide hide_set (all_shown scope argument)) rest
    ∙ ap (λ (n : ℕ). n + length rest) (length-map (all_shown scope argument) (λ (t : PreprocessingToken). record { token = t.token; hide_set = union hide_set t.hide_set }) ∙ length-map argument (shown scope) ∙ ap length (sym same))

one_more : (n : ℕ) → suc n ≡ 1 + n
one_more n = omega arith

pub len_without : (scope : Scope) (pos : Pos) (hide_set ps : List Name) (args : List (List NumberedToken)) (t : Token) (ts : List Token) → argument_of ps (map (all_shown scope) args) t.text ≡ None
    → length (substituted pos hide_set ps (map (all_shown scope) args) (t ∷ ts)) ≡ 1 + length (substituted pos hide_set ps (map (all_shown scope) args) ts)
len_without scope pos hide_set ps args t ts is =
    ap length (with_argument pos hide_set ps (map (all_shown scope) args) t ts None is) ∙ one_more (length (substituted pos hide_set ps (map (all_shown scope) args) ts))

pub pushed_argument : (scope : Scope) (pos : Pos) (hide_set ps : List Name) (args : List (List NumberedToken)) (t : Token) (ts : List Token) (old new argument items : List NumberedToken) → argument_of ps (map (all_shown scope) args) t.text ≡ Some (all_shown scope argument) → items ≡ argument
    → all_shown scope new ≡ all_shown scope old ++ hide hide_set (all_shown scope items)
    → all_shown scope new ++ substituted pos hide_set ps (map (all_shown scope) args) ts ≡ all_shown scope old ++ substituted pos hide_set ps (map (all_shown scope) args) (t ∷ ts)
pushed_argument scope pos hide_set ps args t ts old new argument items is same pushed =
    let rest = substituted pos hide_set ps (map (all_shown scope) args) ts in
    ap (λ (l : Tokens). l ++ rest) (pushed ∙ ap (λ (l : List NumberedToken). all_shown scope old ++ hide hide_set (all_shown scope l)) same)
    ∙ append_assoc (all_shown scope old) (hide hide_set (all_shown scope argument)) rest
    ∙ ap (λ (l : Tokens). all_shown scope old ++ l) (sym (with_argument pos hide_set ps (map (all_shown scope) args) t ts (Some (all_shown scope argument)) is))

pub pushed_alone : (scope : Scope) (pos : Pos) (hide_set ps : List Name) (args : List (List NumberedToken)) (t : Token) (ts : List Token) (old new : Tokens) → argument_of ps (map (all_shown scope) args) t.text ≡ None
    → new ≡ old ++ placed pos hide_set t ∷ []
    → new ++ substituted pos hide_set ps (map (all_shown scope) args) ts ≡ old ++ substituted pos hide_set ps (map (all_shown scope) args) (t ∷ ts)
pushed_alone scope pos hide_set ps args t ts old new is pushed =
    let rest = substituted pos hide_set ps (map (all_shown scope) args) ts in
    ap (λ (l : Tokens). l ++ rest) pushed
    ∙ append_assoc old (placed pos hide_set t ∷ []) rest
    ∙ ap (λ (l : Tokens). old ++ l) (sym (with_argument pos hide_set ps (map (all_shown scope) args) t ts None is))
