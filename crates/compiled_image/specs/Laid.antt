-- Functions as selection writes them and the pieces, laid out together (own).
use Rattle.std.specs.Prelude.{◌≡◌, ℕ, ◌+◌, ◌*◌, ◌<◌, ◌≤◌, List, length, Option}
use Rattle.nm_base.specs.declared.memory_map.TheConstants.{RAM_END, RAM_START, VECTORS}
use Rattle.mote_devices.specs.declared.state.BoardState.{BoardState}
use Rattle.mote_devices.specs.WordBoards.{AreWordRows, IsWordBoard, IsWordGiven}
use Rattle.mote_devices.specs.declared.shown.Due.{Due}
use Rattle.msp_isa.specs.declared.code.CodeFn.{CodeFn}
use Rattle.msp_isa.specs.Stands.{IsLaid, items_of, word_in}
use Rattle.msp430_cpu.specs.Cpu.{even}
use Rattle.mid_code.specs.declared.code.MidCode.{MidCode}
use Rattle.mid_code.specs.Form.{IsMidCode}
use Rattle.mote_bus.specs.Mote.{mote}
use Rattle.open_law.specs.Homes.{Home}
use Rattle.code_pieces.specs.Pieces.{handler_of, reset_of}
use Rattle.msp_select.specs.Laid.{parts, start_of}
use Rattle.msp_select.specs.Select.{items_of as items_of_parts}
use Rattle.msp_select.specs.Sound.{IsStanding}
use Rattle.preempt_core.specs.Allowed.{Allowed}
use Rattle.preempt_bodies.specs.Bodies.{Sizes, stack_of}
use Rattle.compiled_image.specs.Compiled.{Chosen, IsHandled, IsRoot, source_of}
use Rattle.compiled_image.specs.Table.{table_of}
use Rattle.msp_layout.specs.Order.{AreInOrder}

module _ (c : MidCode) (homes : ℕ → ℕ → Home) (own deep : ℕ → ℕ) (image : ℕ → ℕ) (z : Sizes) (code : List CodeFn) (entries : ℕ → ℕ) (laid : IsLaid image code entries) where
  -- the functions of the middle code come first, each instruction where its first part was laid; the table is theirs
  abbrev pub laid_choice : Chosen
  laid_choice = record { code = c; homes = homes; own = own; deep = deep; marks = table_of c homes own laid.places; entries = entries; places = λ f at. laid.places f (start_of c homes own f at) }

  -- line v has a function of its own, which calls its handler
  pub record IsLineOf (v : ℕ) (handler : Option ℕ) : Type 0 where
    pub f : ℕ
    pub is : f < length code
    pub behind : length c.fns ≤ f
    pub items : items_of code f ≡ (handler_of handler).items
    pub vector : word_in image (VECTORS + 2 * v) ≡ entries f

  pub record IsProgram (boot : ℕ) (handler : ℕ → Option ℕ) : Type 0 where
    pub form : IsMidCode c
    pub order : AreInOrder code laid.places
    pub functions : length c.fns ≤ length code
    pub items : (f : ℕ) → f < length c.fns → items_of code f ≡ items_of_parts (parts c homes own f)
    pub even_entry : (f : ℕ) → f < length c.fns → even (entries f) ≡ entries f
    pub small_entry : (f : ℕ) → f < length c.fns → entries f < 0x10000
    pub low_end : RAM_START ≤ z.data_end
    pub even_end : even z.data_end ≡ z.data_end
    pub room : z.data_end + stack_of z ≤ RAM_END
    pub least_depth : 26 ≤ z.handler_depth
    pub least_bound : 29 ≤ z.bound
    pub reset : ℕ
    pub reset_is : reset < length code
    pub reset_items : items_of code reset ≡ (reset_of boot).items
    pub vector : word_in image 0xFFFE ≡ entries reset
    pub boot_at : z.boot ≡ entries boot
    pub lines : (v : ℕ) → v < 8 → IsLineOf v (handler v)
    -- where the code stands, boot function and handlers meet selection's premises
    pub root : IsStanding c homes own deep image laid_choice.marks entries laid_choice.places → IsRoot laid_choice image z boot z.boot_depth z.bound
    pub handled : IsStanding c homes own deep image laid_choice.marks entries laid_choice.places → (v : ℕ) → v < 8 → IsHandled laid_choice image z (handler v)

-- the mote does what the middle code does
abbrev pub LaidProgramsRun : Type 0
LaidProgramsRun =
    (c : MidCode) (homes : ℕ → ℕ → Home) (own deep : ℕ → ℕ) (image : ℕ → ℕ) (z : Sizes) (code : List CodeFn) (entries : ℕ → ℕ) (laid : IsLaid image code entries)
    (boot : ℕ) (handler : ℕ → Option ℕ) (b : BoardState) (rows : List Due) (pace n : ℕ) →
    IsProgram c homes own deep image z code entries laid boot handler → IsWordBoard b → AreWordRows IsWordGiven rows → z.bound + 3 ≤ pace →
    Allowed (source_of c boot handler) pace b (mote image b rows) n × (RAM_END ≤ (mote image b rows n).least + stack_of z)
