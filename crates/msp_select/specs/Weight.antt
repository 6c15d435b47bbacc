-- How many instructions selected code runs between two actions (own).
use Rattle.std.specs.Prelude.{◌≡◌, ℕ, ◌+◌, ◌*◌, ◌/◌, ◌≤◌, List, Option, Some}
use Rattle.nm_base.specs.declared.action.Action.{Action}
use Rattle.mid_code.specs.declared.code.MidCode.{MidCode}
use Rattle.mid_code.specs.declared.instr.Mid.{Mid}
use Rattle.mid_code.specs.declared.instr.Mid.TheVariants.{Bin, Carry, Load, Store, Peek, Poke, Label, Branch, Call, Help, Ret, Begin, Post}
use Rattle.mid_code.specs.Machine.{Activation, Goes, fn_of, step}
use Rattle.mid_code.specs.Reached.{innermost_instruction, state_at}
use Rattle.open_law.specs.Body.{IsOpenFunction}
use Rattle.open_law.specs.Homes.{Home}
use Rattle.msp_select.specs.Frames.{count_pushed}
use Rattle.msp_select.specs.Sound.{IsAnswers, IsSelected, body_of}

-- an entry has three instructions for each word, and one more
abbrev pub entry_size : (own : ℕ → ℕ) → ℕ → ℕ
entry_size own f = 3 * (own f / 2) + 1

module _ (code : MidCode) (own : ℕ → ℕ) (most_help : ℕ) where
  -- the instructions that an instruction of the middle code becomes, jumps in their longer form, and those of a routine
  abbrev pub length_of : Mid → ℕ
  length_of (Bin op v x y) = 3
  length_of (Carry op v x y) = 5
  length_of (Load is_word v x) = 3
  length_of (Store is_word v x) = 2
  length_of (Peek is_word v x) = 4
  length_of (Poke is_word v x) = 3
  length_of (Label l) = 0
  length_of (Branch test x y l) = 3
  length_of (Call g ins outs) = count_pushed (fn_of code g).params + 1
  length_of (Help h ins outs) = most_help + 5
  length_of (Ret vs) = 4
  length_of (Begin o) = 3
  length_of (Post k v) = 0
  length_of _ = 1

  -- and what runs before the next one: an entry behind a Call; SP raised and two values taken behind a Ret and a Help
  abbrev pub behind_it : Mid → ℕ
  behind_it (Call g ins outs) = entry_size own g
  behind_it (Help h ins outs) = 3
  behind_it (Ret vs) = 3
  behind_it _ = 0

  abbrev pub size_of : Option Mid → ℕ
  size_of (Some i) = length_of i + behind_it i
  size_of _ = 0

  -- Each step takes the instructions of its code from a number of the state, whose own code is no longer; and behind each action it
  -- is at most so much
  pub record IsWeighed (root : ℕ) (weight : List Activation → ℕ) (heaviest : ℕ) : Type 0 where
    pub few : (answers : ℕ → ℕ) → IsAnswers answers → (n : ℕ) → weight (state_at code root answers n) ≤ heaviest
    pub holds : (answers : ℕ → ℕ) → IsAnswers answers → (n : ℕ) → size_of (innermost_instruction code (state_at code root answers n)) ≤ weight (state_at code root answers n)
    pub falls : (answers : ℕ → ℕ) → IsAnswers answers → (n : ℕ) (s : List Activation) → step code (state_at code root answers n) ≡ Goes s →
        weight s + size_of (innermost_instruction code (state_at code root answers n)) ≤ weight (state_at code root answers n)

-- The law of selected code with a bound that counts instructions
abbrev pub SelectedCodeIsPaced : Type 0
SelectedCodeIsPaced =
    (code : MidCode) (homes : ℕ → ℕ → Home) (own deep : ℕ → ℕ) (left : List Activation → ℕ) (most long root gives data_end : ℕ) (image : ℕ → ℕ) (marks : ℕ → List Action) (entries : ℕ → ℕ) (places : ℕ → ℕ → ℕ) →
    (selected : IsSelected code homes own deep left most long root gives data_end image marks entries places) (weight : List Activation → ℕ) (heaviest : ℕ) → IsWeighed code own selected.most_help root weight heaviest →
    IsOpenFunction image data_end marks gives (body_of code root) (entries root) (deep root) (heaviest + entry_size own root + long + 2)
