-- The words of instructions, and where they stand among the words of the code (own).
use Rattle.std.specs.Prelude.{◌≡◌, ℕ, ◌+◌, ◌*◌, ◌<◌, ◌≤◌, ◌==◌, not, Bool, List, [], ◌∷◌, ◌++◌, length, slice_index, slice_index_or, map}
use Rattle.std.specs.List.{AllByRecursion}
use Rattle.nm_base.specs.declared.memory_map.TheConstants.{CODE_START}
use Rattle.msp_isa.specs.declared.code.CodeFn.{CodeFn}
use Rattle.msp_isa.specs.declared.code.Item.{Item}
use Rattle.msp_isa.specs.declared.code.Item.TheVariants as item
use Rattle.msp_isa.specs.declared.instr.Instr.{Instr}
use Rattle.msp_isa.specs.Encode.{encoded, IsWritten}
use Rattle.msp_isa.specs.Stands.{instructions, item_at, items_of}
use Rattle.msp_layout.specs.declared.form.Formed.{Formed}
use Rattle.msp_layout.specs.Sizes.{IsShortest, place}
use Rattle.msp_layout.specs.Rounds.{AreTargets, ArePlaces}
use Rattle.msp_layout.specs.Bytes.{entry_of}

abbrev pub words_of : List Instr → List ℕ
words_of [] = []
words_of (i ∷ is) = encoded i ++ words_of is

-- written forms stand among words, from the word `at` on
pub record StandIn (words : List ℕ) (at : ℕ) (is : List Instr) : Type 0 where
  pub written : AllByRecursion IsWritten is
  pub within : at + length (words_of is) ≤ length words
  pub same : (i : ℕ) → i < length (words_of is) → slice_index words (at + i) ≡ slice_index (words_of is) i

-- a jump of more than one word has the longer form
abbrev pub is_long : ℕ → Bool
is_long size = not (size == 2)

-- an item as it was formed, in a function that begins behind so many bytes
abbrev pub formed_item : (entries : ℕ → ℕ) → (items : List Item) → (sizes targets : List ℕ) → (before k : ℕ) → List Instr
formed_item entries items sizes targets before k =
    instructions entries (is_long (slice_index sizes k)) (CODE_START + (before + place sizes k)) (CODE_START + (before + place sizes (slice_index targets k))) (item_at items k)

-- the first items of a function stand among the words
abbrev pub ItemsStand : (entries : ℕ → ℕ) → (items : List Item) → (sizes targets : List ℕ) → (before : ℕ) → (words : List ℕ) → (upto : ℕ) → Type 0
ItemsStand entries items sizes targets before words upto =
    (k : ℕ) → k < upto → (at : ℕ) × (2 * at ≡ before + place sizes k) × StandIn words at (formed_item entries items sizes targets before k)

-- a function's items are formed
pub record IsFormed (items : List Item) (form : Formed) : Type 0 where
  pub shortest : IsShortest items form.sizes.items
  pub targets : AreTargets items form.targets.items
  pub places : ArePlaces form.sizes.items form.places.items

-- those of all functions
pub record AreFormed (code : List CodeFn) (forms : List Formed) (upto : ℕ) : Type 0 where
  pub len : length forms ≡ upto
  pub each : (f : ℕ) (d : Formed) → f < upto → IsFormed (items_of code f) (slice_index_or forms f d)

abbrev pub ArePlacesAll : List Formed → Type 0
ArePlacesAll forms = (f : ℕ) (d : Formed) → f < length forms → ArePlaces (slice_index_or forms f d).sizes.items (slice_index_or forms f d).places.items

abbrev pub all_sizes : List Formed → List (List ℕ)
all_sizes forms = map (λ form. form.sizes.items) forms

-- the first functions stand among the words
abbrev pub FnsStand : (entries : ℕ → ℕ) → List CodeFn → List Formed → (words : List ℕ) → (upto : ℕ) → Type 0
FnsStand entries code forms words upto =
    (f : ℕ) (d : Formed) → f < upto → ItemsStand entries (items_of code f) (slice_index_or forms f d).sizes.items (slice_index_or forms f d).targets.items (entry_of (all_sizes forms) f) words (length (items_of code f))

abbrev pub IsJump : Item → Type 0
IsJump (item.Jump c l) = Unit {0}
IsJump _ = ⊥
