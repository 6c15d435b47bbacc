-- The argument of a parameter, by the parameter's place.
use Rattle.std.proofs.Common.{◌≡◌, ℕ, zero, suc, ◌<◌, ◌≤◌, Bool, true, false, List, [], ◌∷◌, length, get_or, Option, Some, None, refl, sym, cond, Bor, arith}
use Rattle.std.specs.List.{position, position_or_len, slice_get}
use Rattle.std.specs.Option.{option_copied}
use Rattle.std.specs.Slice.{IsItemAt}
use Rattle.std.proofs.lemmas.Bool.{ltb-false}
use Rattle.std.proofs.lemmas.List.Sums.{fails_before_first}
use Rattle.std.proofs.lemmas.Option.{slice_get_past, slice_get_read}
use Rattle.std.proofs.lemmas.List.Quantifiers.{position-Some}
use Rattle.nesc_macros.specs.Invocation.{Name, PreprocessingToken, same_name}
use Rattle.nesc_macros.specs.Expansion.{argument_of}

-- the parameter at this place is the first of this name
abbrev IsFirst : Name → List Name → ℕ → Type 0
IsFirst name ps i = (i < length ps) × (same_name (get_or ps i name) name ≡ true) × ((k : ℕ) → k < i → same_name (get_or ps k name) name ≡ false)

argument_at : (ps : List Name) (arguments : List (List PreprocessingToken)) (name : Name) (i : ℕ) → IsFirst name ps i → argument_of ps arguments name ≡ slice_get arguments i
argument_at [] arguments name i first = absurd (omega (arith, first.0))
argument_at (p ∷ ps) [] name i first = refl
argument_at (p ∷ ps) (a ∷ arguments) name zero first = let e : same_name p name ≡ true = first.1 in rw (e, argument_of) refl
argument_at (p ∷ ps) (a ∷ arguments) name (suc i) first =
    let e : same_name p name ≡ false = first.2 0 (omega arith) in
    rw (e, argument_of) (argument_at ps arguments name i (omega (arith, first.0), first.1, λ k less. first.2 (suc k) (omega arith)))

pub argument_of-position : (ps : List Name) (arguments : List (List PreprocessingToken)) (name : Name) (i : ℕ) → position (λ p. same_name p name) ps ≡ Some i → argument_of ps arguments name ≡ slice_get arguments i
argument_of-position ps arguments name i e = argument_at ps arguments name i (position-Some (λ p. same_name p name) ps i name e)

none_from_tests : (ps : List Name) (arguments : List (List PreprocessingToken)) (name : Name) → ((k : ℕ) → k < length ps → same_name (get_or ps k name) name ≡ false) → argument_of ps arguments name ≡ None
none_from_tests [] arguments name none = refl
none_from_tests (p ∷ ps) [] name none = refl
none_from_tests (p ∷ ps) (a ∷ arguments) name none =
    let e : same_name p name ≡ false = none 0 (omega arith) in
    rw (e, argument_of) (none_from_tests ps arguments name (λ k less. none (suc k) (omega arith)))

not_some : (b : Bool) (i : ℕ) → cond b (Some i) None ≡ None → b ≡ false
not_some true i e = absurd cc
not_some false i e = refl

pub argument_of-none : (ps : List Name) (arguments : List (List PreprocessingToken)) (name : Name) → position (λ p. same_name p name) ps ≡ None → argument_of ps arguments name ≡ None
argument_of-none ps arguments name e =
    let past : length ps ≤ position_or_len (λ p. same_name p name) ps = ltb-false _ _ (not_some _ _ e) in
    none_from_tests ps arguments name (λ k less. fails_before_first (λ p. same_name p name) ps k name (omega arith))

-- what `get` gives
pub slice_get-item : {X : Type 0} (xs : List X) (i : ℕ) (r : Option (Bor X)) → IsItemAt xs i r → option_copied r ≡ slice_get xs i
slice_get-item xs i None item = sym (slice_get_past xs i item.3)
slice_get-item xs i (Some x) item = sym (slice_get_read xs (length xs) i x.now refl item.3.0 item.1)
