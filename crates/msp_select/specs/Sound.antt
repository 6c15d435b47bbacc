-- What selected code relies on: where it stands, where values are kept, how deep the stack goes, and when actions come (own).
use Rattle.std.specs.Prelude.{◌≡◌, ◌≢◌, ◌⊎◌, ℕ, ◌+◌, ◌*◌, ◌/◌, ◌^◌, ◌<◌, ◌≤◌, Bool, true, false, List, [], ◌∷◌, length, Option, Some, slice_get}
use Rattle.nm_base.specs.declared.memory_map.TheConstants.{RAM_START}
use Rattle.nm_base.specs.declared.action.Action.{Action}
use Rattle.nm_base.specs.Behaviour.{Trace, play}
use Rattle.msp_isa.specs.declared.code.Item.{Item}
use Rattle.msp_isa.specs.declared.code.Item.TheVariants as item
use Rattle.msp_isa.specs.Stands.{AreAt, instructions}
use Rattle.msp430_cpu.specs.Cpu.{even}
use Rattle.mid_code.specs.declared.code.MidCode.{MidCode}
use Rattle.mid_code.specs.declared.instr.Mid.{Mid}
use Rattle.mid_code.specs.declared.instr.Mid.TheVariants.{Set, Load, Store, Call, Help, Post, Fault}
use Rattle.mid_code.specs.Form.{IsMidCode}
use Rattle.mid_code.specs.Machine.{Activation, Goes, fn_of, place_of, started, step, steps}
use Rattle.mid_code.specs.Reached.{KeepsForm, bytes, innermost_instruction, state_at}
use Rattle.open_law.specs.Homes.{Home, InRegister, InFrame, Apart, place_in}
use Rattle.open_law.specs.Body.{IsOpenFunction}
use Rattle.msp_select.specs.Frames.{count_pushed, frame_home, is_among, own_bytes, pushed_behind}
use Rattle.msp_select.specs.Routine.{IsRoutine, routine_stack}
use Rattle.msp_select.specs.Select.{Part, entry_of, parts_of, routine_of}

-- ---- where code stands

-- where an item's jump leads
abbrev pub target_of : (labels : ℕ → ℕ) → Item → ℕ
target_of labels (item.Jump c l) = labels l
target_of labels _ = 0

module _ (image : ℕ → ℕ) (marks : ℕ → List Action) (entries labels : ℕ → ℕ) where
  -- An item from one address to another: its silent actions belong to its first instruction alone
  pub record PartStands (pc : ℕ) (p : Part) (end : ℕ) : Type 0 where
    pub long : Bool
    pub at : AreAt image pc (instructions entries long pc (target_of labels p.item) p.item) end
    pub first : pc < end → marks pc ≡ p.silent
    pub inside : (a : ℕ) → pc < a → a < end → marks a ≡ []

  -- items behind one another
  abbrev pub PartsStand : ℕ → List Part → ℕ → Type 0
  PartsStand pc [] end = pc ≡ end
  PartsStand pc (p ∷ ps) end = (next : ℕ) × PartStands pc p next × PartsStand next ps end

module _ (code : MidCode) (homes : ℕ → ℕ → Home) (own deep : ℕ → ℕ) where
  -- ---- where values are kept

  abbrev pub parameters : ℕ → ℕ
  parameters f = count_pushed (fn_of code f).params

  -- R4 to R11; or the function's own bytes, behind those of its frame; or what its caller pushed
  abbrev pub IsPlace : ℕ → Home → Type 0
  IsPlace f (InRegister r) = (4 ≤ r) × (r < 12)
  IsPlace f (InFrame x) =
      (even x ≡ x) × ((fn_of code f).frame ≤ x) × (x + 2 ≤ own f + 2 + 2 * parameters f) × ((x + 2 ≤ own f) ⊎ (own f + 2 ≤ x))

  pub record IsFramed (f : ℕ) : Type 0 where
    pub even_own : even (own f) ≡ own f
    pub frame : (fn_of code f).frame ≤ own f
    pub kept : (v : ℕ) → v < (fn_of code f).values → IsPlace f (homes f v)
    pub apart : (v w : ℕ) → v < (fn_of code f).values → w < (fn_of code f).values → v ≢ w → Apart (homes f v) (homes f w)
    -- every value is on the stack: a parameter where it was pushed, another value below the return address
    pub in_frame : (v : ℕ) → v < (fn_of code f).values → homes f v ≡ InFrame (place_in (homes f v))
    pub parameter : (v : ℕ) → v < (fn_of code f).values → is_among (fn_of code f).params v ≡ true → place_in (homes f v) ≡ own f + 2 + 2 * pushed_behind (fn_of code f).params v
    pub other : (v : ℕ) → v < (fn_of code f).values → is_among (fn_of code f).params v ≡ false → place_in (homes f v) + 2 ≤ own f

  -- ---- how deep the stack goes below a function's return address

  abbrev pub IsDeeper : ℕ → Option Mid → Type 0
  IsDeeper f (Some (Call g ins outs)) = own f + 2 * parameters g + 2 + deep g ≤ deep f
  IsDeeper f (Some (Help h ins outs)) = own f + routine_stack ≤ deep f
  IsDeeper f _ = Unit {0}

  pub record IsDeep (f : ℕ) : Type 0 where
    pub least : own f ≤ deep f
    pub calls : (at : ℕ) → IsDeeper f (slice_get (fn_of code f).code at)

  -- ---- where the code stands: the entry of each function, and each instruction from its place to the next one's

  pub record IsStanding (image : ℕ → ℕ) (marks : ℕ → List Action) (entries : ℕ → ℕ) (places : ℕ → ℕ → ℕ) : Type 0 where
    pub even_entry : (f : ℕ) → f < length code.fns → even (entries f) ≡ entries f
    pub small_entry : (f : ℕ) → f < length code.fns → entries f < 0x10000
    pub even_place : (f at : ℕ) → f < length code.fns → at < length (fn_of code f).code → even (places f at) ≡ places f at
    pub small_place : (f at : ℕ) → f < length code.fns → at < length (fn_of code f).code → places f at < 0x10000
    pub entry : (f : ℕ) → f < length code.fns → PartsStand image marks entries (λ l. places f (place_of (fn_of code f).code l)) (entries f) (entry_of (own f)) (places f 0)
    pub body : (f at : ℕ) (i : Mid) → f < length code.fns → slice_get (fn_of code f).code at ≡ Some i →
        PartsStand image marks entries (λ l. places f (place_of (fn_of code f).code l)) (places f at) (parts_of code (homes f) (own f) i) (places f (at + 1))

-- ---- what the body does

-- it loads from and stores to objects
abbrev pub IsOfObjects : (data_end : ℕ) → List Activation → Option Mid → Type 0
IsOfObjects data_end (a ∷ rest) (Some (Load is_word v x)) = a.values x + bytes is_word ≤ data_end
IsOfObjects data_end (a ∷ rest) (Some (Store is_word v x)) = a.values x + bytes is_word ≤ data_end
IsOfObjects data_end _ _ = Unit {0}

abbrev pub IsAnswers : (ℕ → ℕ) → Type 0
IsAnswers answers = (i : ℕ) → answers i < 2 ^ 16

pub record TouchesObjects (code : MidCode) (root data_end : ℕ) : Type 0 where
  pub always : (answers : ℕ → ℕ) → IsAnswers answers → (n : ℕ) → IsOfObjects data_end (state_at code root answers n) (innermost_instruction code (state_at code root answers n))

-- each step without an action leaves fewer such steps, and there are at most so many
pub record IsPaced (code : MidCode) (root : ℕ) (left : List Activation → ℕ) (most : ℕ) : Type 0 where
  pub few : (answers : ℕ → ℕ) → IsAnswers answers → (n : ℕ) → left (state_at code root answers n) ≤ most
  pub fewer : (answers : ℕ → ℕ) → IsAnswers answers → (n : ℕ) (s : List Activation) → step code (state_at code root answers n) ≡ Goes s → left s < left (state_at code root answers n)

-- numbers are those of their words; no Post, which a queue makes a call of before
abbrev pub IsSelectable : Mid → Type 0
IsSelectable (Set v n) = n < 2 ^ 16
IsSelectable (Fault c) = c < 2 ^ 8
IsSelectable (Post k v) = ⊥
IsSelectable _ = Unit {0}

-- what the function does when it is called first
abbrev pub body_of : MidCode → ℕ → List ℕ → ℕ → Trace
body_of code root answers n = play (steps code n (started code root)) answers

-- all of it: the function `root` takes nothing and gives so many values, and no piece of code has more than `long` instructions
pub record IsSelected (code : MidCode) (homes : ℕ → ℕ → Home) (own deep : ℕ → ℕ) (left : List Activation → ℕ) (most long root gives data_end : ℕ) (image : ℕ → ℕ) (marks : ℕ → List Action) (entries : ℕ → ℕ) (places : ℕ → ℕ → ℕ) : Type 0 where
  pub form : IsMidCode code
  pub keeps : KeepsForm code
  pub selectable : (f at : ℕ) (i : Mid) → slice_get (fn_of code f).code at ≡ Some i → IsSelectable i
  pub framed : (f : ℕ) → f < length code.fns → IsFramed code homes own deep f
  pub depths : (f : ℕ) → f < length code.fns → IsDeep code homes own deep f
  pub standing : IsStanding code homes own deep image marks entries places
  -- the routine of each Help stands at its place, and ends in so many instructions
  pub most_help : ℕ
  pub routines : (f at h : ℕ) (ins outs : List ℕ) → slice_get (fn_of code f).code at ≡ Some (Help h ins outs) → IsRoutine code image data_end marks h (entries (routine_of (length code.fns) h)) most_help
  pub objects : TouchesObjects code root data_end
  pub paced : IsPaced code root left most
  pub is : root < length code.fns
  pub params : (fn_of code root).params ≡ []
  pub given : gives ≡ form.gives root
  pub low_end : RAM_START ≤ data_end
  -- an entry has three instructions for each word and one more; a call one for each value passed and one more
  pub entry : (f : ℕ) → f < length code.fns → 3 * (own f / 2) + 1 < long
  pub call : (f : ℕ) → f < length code.fns → count_pushed (fn_of code f).params + 1 < long
  -- a Help one for each value passed, of which there are four at most, and those of its routine
  pub help : most_help + 4 < long
  pub least : 5 < long

-- The code of a function that takes nothing does what the open machine does, called with the gate open or with it closed, and
-- gives its values in R12 and R13
abbrev pub SelectedCodeIsOpen : Type 0
SelectedCodeIsOpen =
    (code : MidCode) (homes : ℕ → ℕ → Home) (own deep : ℕ → ℕ) (left : List Activation → ℕ) (most long root gives data_end : ℕ) (image : ℕ → ℕ) (marks : ℕ → List Action) (entries : ℕ → ℕ) (places : ℕ → ℕ → ℕ) →
    IsSelected code homes own deep left most long root gives data_end image marks entries places →
    IsOpenFunction image data_end marks gives (body_of code root) (entries root) (deep root) (long * (2 * most + 3))

-- the homes on the stack that selection chooses are such homes
abbrev pub FramesFit : Type 0
FramesFit = (code : MidCode) (deep : ℕ → ℕ) (f : ℕ) → IsFramed code (λ g. frame_home (fn_of code g)) (λ g. own_bytes (fn_of code g)) deep f
