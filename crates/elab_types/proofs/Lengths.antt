-- Arrays from their innermost length on, and how high types are.
use Rattle.std.proofs.Common.{◌≡◌, ◌∙◌, ℕ, suc, List, [], ◌∷◌, ◌++◌, Ok, Err, ap, refl, rules, Box, Global}
use Rattle.nm_base.specs.declared.pos.Pos.{Pos}
use Rattle.nesc_core.specs.declared.tree.CoreType.{CoreType, Pointer}
use Rattle.nesc_core.specs.declared.tree.CoreType as core_type
use Rattle.nesc_core.specs.View.{type_of}
use Rattle.nesc_core.specs.Plain.{Ty, void, int, pointer, array, struct}
use Rattle.nesc_types.specs.Rule.{Rule, ◌>>=◌}
use Rattle.elab_meaning.specs.Scope.{Struct}
use Rattle.elab_meaning.specs.Operators.{array_of, arrays}

-- the last length is that of the innermost array
then-again : (structs : List Struct) (at : Pos) (m : ℕ) (rest : List ℕ) (r : Rule Ty)
    → ((r >>= λ u. arrays structs at u rest) >>= λ part. array_of structs at part m) ≡ (r >>= λ u. arrays structs at u (m ∷ rest))
then-again structs at m rest (Ok u) = refl
then-again structs at m rest (Err e) = refl

pub arrays-last : (structs : List Struct) (at : Pos) (t : Ty) (n : ℕ) (rest : List ℕ)
    → arrays structs at t (rest ++ (n ∷ [])) ≡ (array_of structs at t n >>= λ u. arrays structs at u rest)
arrays-last structs at t n [] = by_part (array_of structs at t n)
  where
    by_part : (r : Rule Ty) → r ≡ (r >>= λ u. Ok u)
    by_part (Ok u) = refl
    by_part (Err e) = refl
arrays-last structs at t n (m ∷ rest) =
    ap (λ (r : Rule Ty). r >>= λ part. array_of structs at part m) (arrays-last structs at t n rest) ∙ then-again structs at m rest (array_of structs at t n)

pub ruleset lengths = (arrays-last)

abbrev pub height : Ty → ℕ
height void = 0
height (int t) = 0
height (pointer t) = suc (height t)
height (array t n) = suc (height t)
height (struct k) = 0

pub pointer-type : (t : CoreType) (part : Box CoreType Global) → t ≡ Pointer part → type_of t ≡ pointer (type_of part.value)
pointer-type t part is = ap type_of is ∙ search (rules, core_type.the_lemmas)
