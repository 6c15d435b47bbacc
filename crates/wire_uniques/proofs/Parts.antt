-- Lists of parts, one element after the other.
use Rattle.std.proofs.Common.{◌≡◌, ℕ, ◌+◌, ◌<◌, List, ◌++◌, drop, length, get_or, map, ap, ◌∷◌}
use Rattle.std.proofs.Math.ListN.{drop_of_length-le}
use Rattle.wire_uniques.specs.Expressions.{Uses}
use Rattle.wire_uniques.specs.Statements.{all}
use Rattle.std.proofs.lemmas.List.{append-nil}
use Rattle.wire_instances.specs.declared.plan.Made.{Made}
use Rattle.wire_units.specs.declared.loaded.Loaded.{Loaded}
use Rattle.wire_uniques.specs.Parts.{in_own, in_instance, in_instances}
use Rattle.wire_uniques.specs.Numbers.{starts_from}
use Rattle.wire_uniques.proofs.Lists.{next_of}

pub all_next : {A : Type 0} (f : A → Uses) (xs : List A) (k : ℕ) (x : A) → k < length xs → x ≡ get_or xs k x
    → all (map f (drop k xs)) ≡ f x ++ all (map f (drop (k + 1) xs))
all_next f xs k x below is = ap (λ ys. all (map f ys)) (next_of xs k x below is)

pub ruleset parts = (all_next, drop_of_length-le)

pub files_next : (xs : List Loaded) (k : ℕ) (x : Loaded) → k < length xs → x ≡ get_or xs k x
    → map in_own (drop k xs) ≡ in_own x ∷ map in_own (drop (k + 1) xs)
files_next xs k x below is = ap (map in_own) (next_of xs k x below is)

pub ruleset files = (files_next, drop_of_length-le)

pub instances_next : (parts : List Uses) (xs : List Made) (k : ℕ) (x : Made) → k < length xs → x ≡ get_or xs k x
    → in_instances parts (drop k xs) ≡ in_instance parts x ++ in_instances parts (drop (k + 1) xs)
instances_next parts xs k x below is = ap (in_instances parts) (next_of xs k x below is)

pub starts_next : (parts : List Uses) (n : ℕ) (xs : List Made) (k : ℕ) (x : Made) → k < length xs → x ≡ get_or xs k x
    → starts_from parts n (drop k xs) ≡ n ∷ starts_from parts (n + length (in_instance parts x)) (drop (k + 1) xs)
starts_next parts n xs k x below is = ap (starts_from parts n) (next_of xs k x below is)

pub ruleset instances = (instances_next, starts_next, drop_of_length-le, append-nil)
