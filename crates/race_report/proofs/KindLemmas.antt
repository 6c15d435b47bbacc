-- The objects at which pointers of a type may point, and their rows.
use Rattle.std.proofs.Common.{◌≡◌, ℕ, ◌+◌, ◌<◌, ◌≤◌, ◌==◌, Bool, true, false, if◌then◌else◌, ◌&&◌, ◌⊎◌, inl, inr, List, [], ◌∷◌, ◌++◌, length, drop, get_or, filter, flat_map, Some, refl, sym, ap, arith, ◌∙◌}
use Rattle.std.proofs.Math.ListN.{drop_of_length-le}
use Rattle.std.proofs.lemmas.Option.{none-some, same_Some}
use Rattle.nesc_core.specs.Parts.{same_type}
use Rattle.nesc_core.specs.Plain.{Ty, Program}
use Rattle.nesc_core.specs.View.{type_of}
use Rattle.nesc_core.proofs.PlaceLemmas.{same_type-is}
use Rattle.call_graph.specs.Paths.{below}
use Rattle.call_graph.proofs.Lists.{nat_either}
use Rattle.call_graph.proofs.ViewLists.{next_of}
use Rattle.race_checker.specs.declared.row.Row.{Row}
use Rattle.race_report.specs.declared.kinds.Kind.{Kind}
use Rattle.race_report.specs.Kinds.{is_shared, shared_objects, objects_in, AreKinds}
use Rattle.race_report.specs.Starts.{is_pointed}
use Rattle.race_report.proofs.FirstLemmas.{pointed_inside}
use Rattle.race_report.proofs.Passing.{filter_both, once, past_all, passing_next}

module _ (p : Program) (order : List ℕ) where
  pub known_objects : (t : Ty) (kinds : List Kind) (objects : List ℕ) → AreKinds p order kinds → objects_in kinds t ≡ Some objects → objects ≡ shared_objects p order t
  known_objects t [] objects are is = absurd (none-some objects is)
  known_objects t (kind ∷ kinds) objects are is = by_test (same_type (type_of kind.ty.now) t) refl (known_objects t kinds objects are.1) is
    where
      by_test : (b : Bool) → same_type (type_of kind.ty.now) t ≡ b → (objects_in kinds t ≡ Some objects → objects ≡ shared_objects p order t)
          → (if b then Some kind.objects else objects_in kinds t) ≡ Some objects → objects ≡ shared_objects p order t
      by_test true same rest is = sym (same_Some kind.objects objects is) ∙ are.0 ∙ ap (shared_objects p order) (same_type-is (type_of kind.ty.now) t same)
      by_test false same rest is = rest is

  pub kind_more : (kinds : List Kind) (kind : Kind) → AreKinds p order kinds → kind.objects ≡ shared_objects p order (type_of kind.ty.now) → AreKinds p order (kinds ++ kind ∷ [])
  kind_more [] kind are is = (is, tt)
  kind_more (k ∷ kinds) kind are is = (are.0, kind_more kinds kind are.1 is)

  -- a part for each object of a kind is one for each object at which the pointer may point, where there is none for those that are not shared
  pub by_kind : (t : Ty) (part : ℕ → List Row) → ((y : ℕ) → is_shared p order y ≡ false → part y ≡ []) → (y : ℕ)
      → flat_map (λ x. if x == y then part x else []) (shared_objects p order t) ≡ (if is_pointed p t y then part y else [])
  by_kind t part none y =
      ap (flat_map (λ x. if x == y then part x else [])) (filter_both (is_shared p order) (is_pointed p t) (below (length p.objects)))
      ∙ by_place (nat_either (length p.objects) y)
    where
      outside : length p.objects ≤ y → (b : Bool) → is_pointed p t y ≡ b → [] ≡ (if b then part y else [])
      outside past true is = absurd (omega (arith, past, pointed_inside p t y is))
      outside past false is = refl

      both : (b c : Bool) → is_shared p order y ≡ c → (if b && c then part y else []) ≡ (if b then part y else [])
      both true true is = refl
      both true false is = sym (none y is)
      both false c is = refl

      by_place : (length p.objects ≤ y) ⊎ (y < length p.objects)
          → flat_map (λ x. if x == y then part x else []) (filter (λ x. is_pointed p t x && is_shared p order x) (below (length p.objects))) ≡ (if is_pointed p t y then part y else [])
      by_place (inl past) = past_all (λ x. is_pointed p t x && is_shared p order x) part y (length p.objects) past ∙ outside past (is_pointed p t y) refl
      by_place (inr inside) = once (λ x. is_pointed p t x && is_shared p order x) part y (length p.objects) inside ∙ both (is_pointed p t y) (is_shared p order y) refl

pub kinds_next : (t : Ty) (xs : List Kind) (k : ℕ) (kind : Kind) → k < length xs → kind ≡ get_or xs k kind
    → objects_in (drop k xs) t ≡ (if same_type (type_of kind.ty.now) t then Some kind.objects else objects_in (drop (k + 1) xs) t)
kinds_next t xs k kind below is = ap (λ ks. objects_in ks t) (next_of xs k kind below is)

pub ruleset steps = (kinds_next, passing_next, drop_of_length-le)
