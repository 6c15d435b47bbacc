-- The first of what several lists give.
use Rattle.std.proofs.Common.{◌≡◌, ℕ, ◌+◌, ◌<◌, ◌≤◌, List, [], ◌∷◌, ◌++◌, drop, length, flat_map, get_or, Option, Some, None, ap, ◌∙◌, refl}
use Rattle.std.specs.List.{filter_map}
use Rattle.std.proofs.lemmas.List.Elements.{filter_map-append}
use Rattle.std.proofs.lemmas.List.Concat.{flat_map-cons}
use Rattle.elab_exprs.proofs.Steps.{drop-past}
use Rattle.elab_forms.proofs.Lists.{next_of}
use Rattle.elab_items.specs.Parts.{first}

or : {A : Type 0} → Option A → Option A → Option A
or None y = y
or (Some x) y = Some x

first-append : {A : Type 0} (xs ys : List A) → first (xs ++ ys) ≡ or (first xs) (first ys)
unfolding or
first-append [] ys = refl
first-append (x ∷ xs) ys = refl

module _ {H X Y : Type 0} (view : H → List X) (f : X → Option Y) (whole : Option Y) (hs : List H) where
  next : (i : ℕ) (h : H) → whole ≡ first (filter_map f (flat_map view (drop i hs))) → i < length hs → h ≡ get_or hs i h
      → whole ≡ or (first (filter_map f (view h))) (first (filter_map f (flat_map view (drop (i + 1) hs))))
  next i h is below at =
      is
      ∙ ap (λ l. first (filter_map f (flat_map view l))) (next_of hs i h below at)
      ∙ ap (λ l. first (filter_map f l)) (flat_map-cons view h (drop (i + 1) hs))
      ∙ ap first (filter_map-append f (view h) (flat_map view (drop (i + 1) hs)))
      ∙ first-append (filter_map f (view h)) (filter_map f (flat_map view (drop (i + 1) hs)))

  pub header_passed : (i : ℕ) (h : H) → whole ≡ first (filter_map f (flat_map view (drop i hs))) → i < length hs → h ≡ get_or hs i h → first (filter_map f (view h)) ≡ None
      → whole ≡ first (filter_map f (flat_map view (drop (i + 1) hs)))
  unfolding or
  header_passed i h is below at none = next i h is below at ∙ ap (λ o. or o (first (filter_map f (flat_map view (drop (i + 1) hs))))) none

  pub header_found : (i : ℕ) (h : H) (y : Y) → whole ≡ first (filter_map f (flat_map view (drop i hs))) → i < length hs → h ≡ get_or hs i h → first (filter_map f (view h)) ≡ Some y → whole ≡ Some y
  unfolding or
  header_found i h y is below at some = next i h is below at ∙ ap (λ o. or o (first (filter_map f (flat_map view (drop (i + 1) hs))))) some

  pub headers_end : (i : ℕ) → whole ≡ first (filter_map f (flat_map view (drop i hs))) → length hs ≤ i → whole ≡ None
  headers_end i is past = is ∙ ap (λ l. first (filter_map f (flat_map view l))) (drop-past hs i past)

pub ruleset headers = (header_passed, header_found, headers_end)
