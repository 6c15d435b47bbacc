-- Selected code that is laid out in an image stands as its law asks (own).
use Rattle.std.specs.Prelude.{◌≡◌, ℕ, zero, suc, ◌+◌, ◌<◌, ◌≤◌, List, [], ◌∷◌, length, slice_index_or}
use Rattle.nm_base.specs.declared.action.Action.{Action}
use Rattle.msp_isa.specs.declared.code.CodeFn.{CodeFn}
use Rattle.msp_isa.specs.declared.code.Item.TheVariants as item
use Rattle.msp_isa.specs.declared.instr.Instr.TheVariants.{Reti}
use Rattle.msp_isa.specs.Stands.{IsLaid, items_of}
use Rattle.msp430_cpu.specs.Cpu.{even}
use Rattle.mid_code.specs.declared.code.MidCode.{MidCode}
use Rattle.mid_code.specs.declared.instr.Mid.{Mid}
use Rattle.mid_code.specs.Form.{IsMidCode}
use Rattle.mid_code.specs.Machine.{fn_of}
use Rattle.open_law.specs.Homes.{Home}
use Rattle.msp_select.specs.Select.{Part, entry_of, parts_of, parts_of_fn, items_of as items_of_parts}
use Rattle.msp_select.specs.Sound.{IsStanding}

-- the part at a place; behind all parts, one that names no label
abbrev pub part_at : List Part → ℕ → Part
part_at ps k = slice_index_or ps k (record { silent = []; item = item.Is Reti })

module _ (code : MidCode) (homes : ℕ → ℕ → Home) (own : ℕ → ℕ) where
  abbrev pub parts : ℕ → List Part
  parts f = parts_of_fn code (homes f) (own f) (fn_of code f)

  -- how many parts stand before an instruction of these
  abbrev pub parts_before : (f : ℕ) → List Mid → ℕ → ℕ
  parts_before f is zero = 0
  parts_before f [] (suc k) = 0
  parts_before f (i ∷ is) (suc k) = length (parts_of code (homes f) (own f) i) + parts_before f is k

  -- and before an instruction of the function
  abbrev pub start_of : (f at : ℕ) → ℕ
  start_of f at = length (entry_of (own f)) + parts_before f (fn_of code f).code at

  -- each part's silent actions stand at its address, and no others within it
  pub record AreMarked (marks : ℕ → List Action) (places : ℕ → ℕ → ℕ) : Type 0 where
    pub first : (f k : ℕ) → f < length code.fns → k < length (parts f) → places f k < places f (k + 1) → marks (places f k) ≡ (part_at (parts f) k).silent
    pub inside : (f k a : ℕ) → f < length code.fns → k < length (parts f) → places f k < a → a < places f (k + 1) → marks a ≡ []

-- where functions of these parts are laid out, each instruction of the middle code stands from its place to the next one's
abbrev pub LaidCodeStands : Type 0
LaidCodeStands =
    (code : MidCode) (homes : ℕ → ℕ → Home) (own deep : ℕ → ℕ) (image : ℕ → ℕ) (marks : ℕ → List Action) (entries : ℕ → ℕ) (out : List CodeFn) (laid : IsLaid image out entries) →
    IsMidCode code → length code.fns ≤ length out → ((f : ℕ) → f < length code.fns → items_of out f ≡ items_of_parts (parts code homes own f)) →
    ((f : ℕ) → f < length code.fns → even (entries f) ≡ entries f) → ((f : ℕ) → f < length code.fns → entries f < 0x10000) → AreMarked code homes own marks laid.places →
    IsStanding code homes own deep image marks entries (λ f at. laid.places f (start_of code homes own f at))
