-- Tables of files' elements.
use Rattle.std.proofs.Common.{◌≡◌, ℕ, List, [], ◌∷◌, ◌++◌, map, Option, Some, None, refl, sym, ap, ◌∙◌, slice_get, option_and_then, option_map}
use Rattle.std.proofs.Math.Path.{fun_ext}
use Rattle.std.proofs.lemmas.Option.{slice_get-map}
use Rattle.wire_names.specs.Places.{Placed, place_of}
use Rattle.wire_units.specs.declared.loaded.Loaded.{Loaded}
use Rattle.wire_pairs.specs.Application.{Scope, places_in, element_in, elems_of_file}

pub table_more : (ts : List Placed) (t : Placed) (u : Loaded) (us : List Loaded) → ((name : List ℕ) → place_of t name ≡ places_in u name)
    → map place_of (ts ++ t ∷ []) ++ map places_in us ≡ map place_of ts ++ map places_in (u ∷ us)
table_more [] t u us same = ap (λ f. f ∷ map places_in us) (fun_ext same)
table_more (s ∷ ts) t u us same = ap (λ fs. place_of s ∷ fs) (table_more ts t u us same)

-- a look-up in the table of a file is one among its elements
pub table_there : (ts : List Placed) (us : List Loaded) (k : ℕ) (name : List ℕ) → map place_of ts ≡ map places_in us
    → option_and_then (λ t. place_of t name) (slice_get ts k) ≡ element_in (elems_of_file (slice_get us k)) name
table_there ts us k name same =
    left (slice_get ts k) ∙ (ap (option_and_then (λ f. f name)) (sym (slice_get-map place_of ts k) ∙ (ap (λ fs. slice_get fs k) same ∙ slice_get-map places_in us k)) ∙ right (slice_get us k))
  where
    left : (o : Option Placed) → option_and_then (λ t. place_of t name) o ≡ option_and_then (λ (f : Scope). f name) (option_map place_of o)
    left None = refl
    left (Some t) = refl

    right : (o : Option Loaded) → option_and_then (λ (f : Scope). f name) (option_map places_in o) ≡ element_in (elems_of_file o) name
    right None = refl
    right (Some u) = refl
