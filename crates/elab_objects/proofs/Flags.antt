-- Objects, their addresses and whether they are taken.
use Rattle.std.proofs.Common.{◌≡◌, ℕ, zero, suc, ◌+◌, ◌<◌, ◌≤◌, All, Bool, true, false, ◌||◌, nat_eq, nat_le, List, [], ◌∷◌, length, map, replicate, set, ap, sym, ◌∙◌, refl, arith}
use Rattle.std.proofs.lemmas.Bool.Decides.{nat_tests}
use Rattle.std.proofs.lemmas.List.{length-map}
use Rattle.std.specs.List.{list_any}
use Rattle.nesc_core.specs.Plain.{Object}
use Rattle.nesc_types.specs.Addresses.{LiesEven, taken}
use Rattle.elab_objects.specs.declared.variables.Variable as rust
use Rattle.elab_objects.specs.Objects.{AreLow, marked, object_at, objects_by}
use Rattle.elab_objects.specs.View.{variable_of}
use Rattle.program_meaning.specs.Making.{Variable}
use Rattle.program_meaning.specs.Program.{objects_from}

-- ---- addresses

pub low_all : (places : List ℕ) → All LiesEven places → AreLow places
low_all [] h = tt
low_all (a ∷ later) h = (omega (arith, (h 0 a (omega arith)).high), low_all later (λ i d below. h (suc i) d (omega arith)))

pub room : (sizes : List ℕ) → nat_le (taken sizes) 60000 ≡ true → taken sizes ≤ 60000
room sizes h = grind (arith, nat_tests)

-- ---- marks: each flag, and whether its number is among these

abbrev or_with : List Bool → (first : ℕ) → (numbers : List ℕ) → List Bool
or_with [] k ks = []
or_with (b ∷ bs) k ks = (b || list_any (nat_eq k) ks) ∷ or_with bs (suc k) ks

is_here : (a : ℕ) → nat_eq a (a + 0) ≡ true
is_here a = grind (arith, nat_tests)

is_later : (a m : ℕ) → a < m → nat_eq a m ≡ false
is_later a m h = grind (arith, nat_tests)

is_earlier : (a m : ℕ) → m < a → nat_eq a m ≡ false
is_earlier a m h = grind (arith, nat_tests)

or-true : (b : Bool) → b || true ≡ true
or-true true = refl
or-true false = refl

or-none : (b : Bool) → b || false ≡ b
or-none true = refl
or-none false = refl

none : (bs : List Bool) (k : ℕ) → or_with bs k [] ≡ bs
none [] k = refl
none (b ∷ bs) k = ap (λ (x : Bool). x ∷ or_with bs (suc k) []) (or-none b) ∙ ap (λ (xs : List Bool). b ∷ xs) (none bs (suc k))

earlier : (bs : List Bool) (a m : ℕ) (ks : List ℕ) → m < a → or_with bs a (m ∷ ks) ≡ or_with bs a ks
earlier [] a m ks h = refl
earlier (b ∷ bs) a m ks h =
    ap (λ (x : Bool). (b || (x || list_any (nat_eq a) ks)) ∷ or_with bs (suc a) (m ∷ ks)) (is_earlier a m h)
    ∙ ap (λ (xs : List Bool). (b || list_any (nat_eq a) ks) ∷ xs) (earlier bs (suc a) m ks (omega arith))

set_or : (bs : List Bool) (a k : ℕ) (ks : List ℕ) → or_with (set bs k true) a ks ≡ or_with bs a ((a + k) ∷ ks)
set_or [] a k ks = refl
set_or (b ∷ bs) a zero ks =
    sym (
    ap (λ (x : Bool). (b || (x || list_any (nat_eq a) ks)) ∷ or_with bs (suc a) ((a + 0) ∷ ks)) (is_here a)
    ∙ ap (λ (x : Bool). x ∷ or_with bs (suc a) ((a + 0) ∷ ks)) (or-true b)
    ∙ ap (λ (xs : List Bool). true ∷ xs) (earlier bs (suc a) (a + 0) ks (omega arith))
    )
set_or (b ∷ bs) a (suc k) ks =
    let next : suc a + k ≡ a + suc k = omega arith in
    ap (λ (xs : List Bool). (b || list_any (nat_eq a) ks) ∷ xs) (set_or bs (suc a) k ks)
    ∙ ap (λ (m : ℕ). (b || list_any (nat_eq a) ks) ∷ or_with bs (suc a) (m ∷ ks)) next
    ∙ sym (ap (λ (x : Bool). (b || (x || list_any (nat_eq a) ks)) ∷ or_with bs (suc a) ((a + suc k) ∷ ks)) (is_later a (a + suc k) (omega arith)))

marks : (bs : List Bool) (ks : List ℕ) → marked bs ks ≡ or_with bs 0 ks
marks bs [] = sym (none bs 0)
marks bs (k ∷ ks) =
    let start : 0 + k ≡ k = omega arith in
    marks (set bs k true) ks ∙ set_or bs 0 k ks ∙ ap (λ (m : ℕ). or_with bs 0 (m ∷ ks)) start

-- ---- objects

from : (k : ℕ) (taken_ones places : List ℕ) (vs : List Variable)
    → objects_by vs places (or_with (replicate (length vs) false) k taken_ones) ≡ objects_from k taken_ones places vs
from k ts [] [] = refl
from k ts (a ∷ later) [] = refl
from k ts [] (v ∷ vs) = refl
from k ts (a ∷ later) (v ∷ vs) =
    let next : suc k ≡ k + 1 = omega arith in
    ap (λ (os : List Object). object_at v a (list_any (nat_eq k) ts) ∷ os) (from (suc k) ts later vs)
    ∙ ap (λ (n : ℕ). object_at v a (list_any (nat_eq k) ts) ∷ objects_from n ts later vs) next

pub objects_are : (taken_ones places : List ℕ) (vs : List rust.Variable) (n : ℕ) → n ≡ length vs
    → objects_by (map variable_of vs) places (marked (replicate n false) taken_ones) ≡ objects_from 0 taken_ones places (map variable_of vs)
objects_are ts places vs n is =
    let count : n ≡ length (map variable_of vs) = is ∙ sym (length-map vs variable_of) in
    ap (λ (m : ℕ). objects_by (map variable_of vs) places (marked (replicate m false) ts)) count
    ∙ ap (objects_by (map variable_of vs) places) (marks (replicate (length (map variable_of vs)) false) ts)
    ∙ from 0 ts places (map variable_of vs)

pub ruleset low = (low_all, room)

pub ruleset objects = (objects_are)
