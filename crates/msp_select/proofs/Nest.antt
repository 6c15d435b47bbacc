-- How many atomic statements are open behind some actions.
use Rattle.std.proofs.Common.{◌≡◌, ℕ, suc, ◌+◌, ◌-◌, Bool, true, false, nat_lt, List, [], ◌∷◌, ◌++◌, refl, arith}
use Rattle.std.specs.Prelude.{count_by, fold}
use Rattle.std.proofs.lemmas.Bool.Decides.{nat_tests}
use Rattle.nm_base.specs.Lists.{number_of}
use Rattle.nm_base.specs.declared.action.Action.{Action}
use Rattle.nm_base.specs.declared.action.Action.TheVariants as action
use Rattle.nm_base.specs.Behaviour.{is_begin, is_end}
use Rattle.open_law.proofs.Law.{is_inside}

-- how many Begins have no End yet
abbrev pub nested : ℕ → List Action → ℕ
nested n [] = n
nested n (action.Begin ∷ more) = nested (suc n) more
nested n (action.End ∷ more) = nested (n - 1) more
nested n (action.Load a wide ∷ more) = nested n more
nested n (action.Store a wide v ∷ more) = nested n more
nested n (action.In p ∷ more) = nested n more
nested n (action.Out p v ∷ more) = nested n more
nested n (action.Post k ∷ more) = nested n more
nested n (action.Tick ∷ more) = nested n more
nested n (action.Fault c ∷ more) = nested n more

abbrev pub is_nested : List Action → Bool
is_nested actions = nat_lt 0 (nested 0 actions)

pub nested_on : (n : ℕ) (xs : List Action) (a : Action) → nested n (xs ++ (a ∷ [])) ≡ nested (nested n xs) (a ∷ [])
nested_on n [] a = refl
nested_on n (action.Begin ∷ xs) a = nested_on (suc n) xs a
nested_on n (action.End ∷ xs) a = nested_on (n - 1) xs a
nested_on n (action.Load b wide ∷ xs) a = nested_on n xs a
nested_on n (action.Store b wide y ∷ xs) a = nested_on n xs a
nested_on n (action.In p ∷ xs) a = nested_on n xs a
nested_on n (action.Out p y ∷ xs) a = nested_on n xs a
nested_on n (action.Post k ∷ xs) a = nested_on n xs a
nested_on n (action.Tick ∷ xs) a = nested_on n xs a
nested_on n (action.Fault y ∷ xs) a = nested_on n xs a

fold_one : (p : Action → Bool) (xs : List Action) (x : Action) (n : ℕ) → fold (λ k y. k + number_of (p y)) n (xs ++ x ∷ []) ≡ fold (λ k y. k + number_of (p y)) n xs + number_of (p x)
fold_one p [] x n = refl
fold_one p (y ∷ xs) x n = fold_one p xs x (n + number_of (p y))

pub count_on : (p : Action → Bool) (xs : List Action) (a : Action) → count_by p (xs ++ (a ∷ [])) ≡ count_by p xs + number_of (p a)
count_on p xs a = fold_one p xs a 0

-- each End closes a Begin
abbrev pub IsEven : List Action → Type 0
IsEven made = count_by is_end made + nested 0 made ≡ count_by is_begin made

inside_by : (e n b : ℕ) → e + n ≡ b → nat_lt e b ≡ nat_lt 0 n
inside_by e n b h = by (nat_lt 0 n) refl
  where
    by : (t : Bool) → nat_lt 0 n ≡ t → nat_lt e b ≡ t
    by true p = grind (arith, nat_tests)
    by false p = grind (arith, nat_tests)

pub inside_is : (made : List Action) → IsEven made → is_inside made ≡ is_nested made
inside_is made h = inside_by (count_by is_end made) (nested 0 made) (count_by is_begin made) h

-- an action that opens and closes nothing
pub even_plain : (made : List Action) (a : Action) → nested 0 (made ++ (a ∷ [])) ≡ nested 0 made → number_of (is_begin a) ≡ 0 → number_of (is_end a) ≡ 0 → IsEven made → IsEven (made ++ (a ∷ []))
even_plain made a same b e h =
    let x = count_on is_end made a in
    let y = count_on is_begin made a in
    omega (arith, same, b, e, h, x, y)

pub even_begin : (made : List Action) → IsEven made → IsEven (made ++ (action.Begin ∷ []))
even_begin made h =
    let x : count_by is_end (made ++ (action.Begin ∷ [])) ≡ count_by is_end made + 0 = count_on is_end made action.Begin in
    let y : count_by is_begin (made ++ (action.Begin ∷ [])) ≡ count_by is_begin made + 1 = count_on is_begin made action.Begin in
    let z : nested 0 (made ++ (action.Begin ∷ [])) ≡ suc (nested 0 made) = nested_on 0 made action.Begin in
    omega (arith, h, x, y, z)

pub even_end : (made : List Action) (n : ℕ) → nested 0 made ≡ suc n → IsEven made → IsEven (made ++ (action.End ∷ []))
even_end made n some h =
    let x : count_by is_end (made ++ (action.End ∷ [])) ≡ count_by is_end made + 1 = count_on is_end made action.End in
    let y : count_by is_begin (made ++ (action.End ∷ [])) ≡ count_by is_begin made + 0 = count_on is_begin made action.End in
    let z : nested 0 (made ++ (action.End ∷ [])) ≡ nested 0 made - 1 = nested_on 0 made action.End in
    omega (arith, h, x, y, z, some)
