-- Numbers by the names of an element and an item (own).
use Rattle.std.specs.Prelude.{◌≡◌, ℕ, ◌≤◌, Bool, true, false, ◌&&◌, nat_eq, List, length, position, Option, Some, None, option_and_then, bytes_eq}
use Rattle.std.specs.Option.{option_or}
use Rattle.indexmap.specs.IndexMap.{get}
use Rattle.wire_names.specs.Texts.{same_text}
use Rattle.elab_targets.specs.declared.items.ItemPlaces.{ItemPlaces}

abbrev pub when : Bool → ℕ → Option ℕ
when true n = Some n
when false n = None

abbrev pub same_pair : ℕ × ℕ → ℕ × ℕ → Bool
same_pair p q = nat_eq p.0 q.0 && nat_eq p.1 q.1

abbrev pub numbers_at : ItemPlaces → ℕ → ℕ → Option ℕ
numbers_at t i j = get same_pair t.places (i, j)

abbrev pub with_element : ItemPlaces → (item : List ℕ) → ℕ → Option ℕ
with_element t item i = option_and_then (numbers_at t i) (position (same_text item) t.names)

-- the number of an item of an element
abbrev pub item_place : ItemPlaces → (element item : List ℕ) → Option ℕ
item_place t element item = option_and_then (with_element t item) (position (same_text element) t.names)

-- only pairs of numbers of names have numbers
pub record AreNamed (t : ItemPlaces) : Type 0 where
  pub left : (i j : ℕ) → length t.names ≤ i → numbers_at t i j ≡ None
  pub right : (i j : ℕ) → length t.names ≤ j → numbers_at t i j ≡ None

pub record HasNone (t : ItemPlaces) : Type 0 where
  pub named : AreNamed t
  pub none : (element item : List ℕ) → item_place t element item ≡ None

abbrev pub is_pair : (element item e i : List ℕ) → Bool
is_pair element item e i = bytes_eq element e && bytes_eq item i

-- an item of an element has the number that it had, or this one if it had none
pub record IsKept (element item : List ℕ) (place : ℕ) (old new : ItemPlaces) : Type 0 where
  pub named : AreNamed old → AreNamed new
  pub places : AreNamed old → (e i : List ℕ) → item_place new e i ≡ option_or (item_place old e i) (when (is_pair element item e i) place)
