-- Instances of components (nesC 1.3 Reference, sections 5 and 6; nesC Language Reference, generic components).
use Rattle.std.specs.Prelude.{◌≡◌, ℕ, ◌+◌, Bool, true, false, List, [], ◌∷◌, Option, Some, None, is_some, option_map, option_and_then, slice_get, unwrap_or}
use Rattle.std.specs.List.{filter_map}
use Rattle.nesc_tree.specs.declared.components.Elem as tree
use Rattle.elab_meaning.specs.Scope.{Entry, Meaning, object, local, function, task, constant, type, lookup}
use Rattle.program_meaning.specs.Parts.{Argument, a_type, a_constant, Elem, Given, Instance}
use Rattle.wire_instances.specs.declared.plan.Made.{Made}
use Rattle.wire_pairs.specs.declared.ends.Pair.{Pair}
use Rattle.wire_pairs.specs.declared.facts.ElementFacts.{ElementFacts}
use Rattle.wire_pairs.specs.Application.{greatest_in}
use Rattle.wire_units.specs.declared.loaded.Loaded.{Loaded}
use Rattle.wire_facts.specs.Components.{Param}
use Rattle.wire_facts.specs.Seen.{Seen, env_of, seen_at}
use Rattle.wire_facts.specs.Seen as seen
use Rattle.elab_application.specs.Files.{decls_of, elems_of, file_of, generic_of, name_of}
use Rattle.elab_application.specs.Ends.{IsElement}

-- ---- two lists, of which each element is that of its number

abbrev pub Each : {A B : Type 0} → (P : ℕ → A → B → Type 0) → (from : ℕ) → List A → List B → Type 0
Each P k [] [] = Unit {0}
Each P k [] (y ∷ ys) = ⊥
Each P k (x ∷ xs) [] = ⊥
Each P k (x ∷ xs) (y ∷ ys) = P k x y × Each P (k + 1) xs ys

-- ---- generic components

-- what a parameter means in the scope of the instance: a type or a constant
abbrev pub argument_of : Meaning → Option Argument
argument_of (type t is_const) = Some (a_type t is_const)
argument_of (constant t n) = Some (a_constant (t, n))
argument_of (object k t is_const) = None
argument_of (local k t is_const) = None
argument_of (function body params result) = None
argument_of (task k) = None

abbrev pub argument_named : List Entry → (name : List ℕ) → Option Argument
argument_named names name = option_and_then argument_of (lookup names name)

abbrev pub given : (name : List ℕ) → Argument → Given
given name argument = record { name = name; argument = argument }

abbrev pub given_for : List Entry → Param → Option Given
given_for names p = option_map (given p.name) (argument_named names p.name)

-- the parameters with their arguments, in order
abbrev pub given_in : List Entry → List Param → List Given
given_in names params = filter_map (given_for names) params

abbrev pub copy_of : (is_generic : Bool) → ℕ → Option ℕ
copy_of false copy = None
copy_of true copy = Some copy

-- ---- instances

module _ (units : List Loaded) (made : List Made) (pairs : List Pair) where
  -- the elements of instance i, where this is told of them
  abbrev pub AreElements : (i : ℕ) → List ElementFacts → List tree.Elem → List Elem → Type 0
  AreElements i facts es xs = Each (λ j. IsElement units made pairs i j (greatest_in (slice_get facts j))) 0 es xs

  -- what is given of instance k, where this is seen of all
  pub record IsInstance (app : seen.Application) (sight : List Seen) (k : ℕ) (m : Made) (x : Instance) : Type 0 where
    pub component_is : x.component ≡ name_of (file_of units m)
    pub copy_is : x.copy ≡ copy_of (is_some (generic_of (file_of units m))) m.copy
    pub given_are : x.given ≡ given_in (seen_at sight k).scope.names (unwrap_or (generic_of (file_of units m)) [])
    pub elems_are : AreElements k (seen_at sight k).elements (elems_of (file_of units m)) x.elems
    pub uniques_are : x.uniques ≡ (env_of app k).uniques
    pub decls_are : x.decls ≡ decls_of (file_of units m)
