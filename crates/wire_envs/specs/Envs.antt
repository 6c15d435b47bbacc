-- What is told of `unique` to headers and to each instance: the numbers of its own uses, by their places, and how often all uses
-- together have a text that it asks for (nesC Language Reference; own: no more counts are told than are asked for).
use Rattle.std.specs.Prelude.{ℕ, ◌+◌, cond, List, [], ◌∷◌, drop}
use Rattle.elab_meaning.specs.Scope.{Unique, UniqueCount, Env}
use Rattle.wire_instances.specs.declared.plan.Made.{Made}
use Rattle.wire_units.specs.declared.loaded.Loaded.{Loaded}
use Rattle.wire_uniques.specs.declared.used.Use.{Use}
use Rattle.wire_uniques.specs.Expressions.{Uses}
use Rattle.wire_uniques.specs.Parts.{in_headers, in_instance, parts_of, uses_of}
use Rattle.wire_uniques.specs.Numbers.{count_of, numbered, starts_of}

-- how often a text is used
abbrev pub Count : Type 0
Count = List ℕ → ℕ

abbrev pub unique : Use → ℕ → Unique
unique one number = record { at = one.at; number = number }

-- the uses with their numbers; what asks for a count has none
abbrev pub uniques_in : Uses → (numbers : List ℕ) → List Unique
uniques_in (one ∷ uses) (n ∷ ns) = cond one.is_count (uniques_in uses ns) (unique one n ∷ uniques_in uses ns)
uniques_in _ _ = []

abbrev pub counted : Count → Use → UniqueCount
counted count one = record { text = one.text; count = count one.text }

-- the counts that are asked for
abbrev pub counts_in : Count → Uses → List UniqueCount
counts_in count [] = []
counts_in count (one ∷ uses) = cond one.is_count (counted count one ∷ counts_in count uses) (counts_in count uses)

-- nothing but `unique` is known before bodies
abbrev pub told : Count → (instance : ℕ) → Uses → (numbers : List ℕ) → Env
told count instance uses numbers = record {
  instance = instance;
  uniques = uniques_in uses numbers;
  counts = counts_in count uses;
  items = [];
  first_dispatch = 0;
}

-- the instances from one on, each with where its first number stands
abbrev pub of_instances : Count → (parts : List Uses) → (numbers : List ℕ) → (instance : ℕ) → List Made → (starts : List ℕ) → List Env
of_instances count parts numbers k (m ∷ ms) (s ∷ ss) =
    told count k (in_instance parts m) (drop s numbers) ∷ of_instances count parts numbers (k + 1) ms ss
of_instances count parts numbers k _ _ = []

-- ---- an application

abbrev pub counts_of : List Loaded → List Made → Count
counts_of units made = count_of (uses_of units made)

abbrev pub numbers_of : List Loaded → List Made → List ℕ
numbers_of units made = numbered [] (uses_of units made)

abbrev pub headers_told : List Loaded → List Made → Env
headers_told units made = told (counts_of units made) 0 (in_headers units) (numbers_of units made)

abbrev pub instances_told : List Loaded → List Made → List Env
instances_told units made = of_instances (counts_of units made) (parts_of units) (numbers_of units made) 0 made (starts_of units made)
