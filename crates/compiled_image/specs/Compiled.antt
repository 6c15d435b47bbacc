-- An image whose bodies are functions of the middle language as selection writes them, and what is promised of it (own). Programs
-- without tasks.
use Rattle.std.specs.Prelude.{◌≡◌, ℕ, ◌+◌, ◌-◌, ◌*◌, ◌<◌, ◌≤◌, List, Option, Some, None}
use Rattle.std.specs.Option.{option_map}
use Rattle.nm_base.specs.declared.memory_map.TheConstants.{RAM_END, RAM_START, VECTORS}
use Rattle.nm_base.specs.declared.action.Action.{Action}
use Rattle.mote_devices.specs.declared.state.BoardState.{BoardState}
use Rattle.mote_devices.specs.WordBoards.{AreWordRows, IsWordBoard, IsWordGiven}
use Rattle.mote_devices.specs.declared.shown.Due.{Due}
use Rattle.core_meaning.specs.Source.{Source}
use Rattle.msp_isa.specs.Stands.{AreAt, word_in}
use Rattle.msp430_cpu.specs.Cpu.{even}
use Rattle.mid_code.specs.declared.code.MidCode.{MidCode}
use Rattle.mid_code.specs.Machine.{Activation}
use Rattle.open_law.specs.Body.{acts}
use Rattle.open_law.specs.Homes.{Home}
use Rattle.mote_bus.specs.Mote.{mote}
use Rattle.preempt_core.specs.Allowed.{Allowed}
use Rattle.preempt_bodies.specs.Bodies.{Sizes, IsLine, reset_code, stack_of}
use Rattle.msp_select.specs.Sound.{IsSelected, body_of}
use Rattle.msp_select.specs.Weight.{IsWeighed, entry_size}

-- the middle code, what selection chose for its functions, and where layout put them
pub record Chosen : Type 0 where
  pub code : MidCode
  pub homes : ℕ → ℕ → Home
  pub own : ℕ → ℕ
  pub deep : ℕ → ℕ
  pub marks : ℕ → List Action
  pub entries : ℕ → ℕ
  pub places : ℕ → ℕ → ℕ

-- the source whose bodies are these functions
abbrev pub source_of : MidCode → (boot : ℕ) → (handler : ℕ → Option ℕ) → Source
source_of code boot handler = record { act = λ body answers n. acts (body_of code body) answers n; boot = boot; task = λ k. None; handler = handler; insert = λ tasks k. tasks }

module _ (s : Chosen) (image : ℕ → ℕ) (z : Sizes) where
  -- a function that is called first: its stack is no deeper, and its code does an action in so many instructions
  pub record IsRoot (root depth bound : ℕ) : Type 0 where
    pub left : List Activation → ℕ
    pub most : ℕ
    pub long : ℕ
    pub gives : ℕ
    pub selected : IsSelected s.code s.homes s.own s.deep left most long root gives z.data_end image s.marks s.entries s.places
    pub weight : List Activation → ℕ
    pub heaviest : ℕ
    pub weighed : IsWeighed s.code s.own selected.most_help root weight heaviest
    pub deep : s.deep root ≤ depth
    pub soon : heaviest + entry_size s.own root + long + 2 ≤ bound

  -- a line calls its handler between entry and exit, where it has one
  abbrev pub IsHandled : Option ℕ → Type 0
  IsHandled None = Unit {0}
  IsHandled (Some root) = IsRoot root (z.handler_depth - 26) (z.bound - 28)

  pub record IsCompiledLine (v : ℕ) (handler : Option ℕ) : Type 0 where
    pub entry : ℕ
    pub stands : word_in image (VECTORS + 2 * v) ≡ entry
    pub word : entry < 0x10000
    pub code : IsLine image s.marks (even entry) (option_map s.entries handler)
    pub handled : IsHandled handler

  pub record IsCompiled (boot : ℕ) (handler : ℕ → Option ℕ) : Type 0 where
    pub low_end : RAM_START ≤ z.data_end
    pub even_end : even z.data_end ≡ z.data_end
    pub room : z.data_end + stack_of z ≤ RAM_END
    -- entry and exit take 26 bytes of stack and 28 instructions
    pub least_depth : 26 ≤ z.handler_depth
    pub least_bound : 29 ≤ z.bound
    pub reset_at : ℕ
    pub reset_end : ℕ
    pub vector : word_in image 0xFFFE ≡ reset_at
    pub reset : AreAt image reset_at (reset_code z.boot) reset_end
    pub boot_at : z.boot ≡ s.entries boot
    pub root : IsRoot boot z.boot_depth z.bound
    pub lines : (v : ℕ) → v < 8 → IsCompiledLine v (handler v)

-- every such image, every board and schedule of words, every number of slots
abbrev pub CompiledImagesRun : Type 0
CompiledImagesRun =
    (s : Chosen) (image : ℕ → ℕ) (z : Sizes) (boot : ℕ) (handler : ℕ → Option ℕ) (b : BoardState) (rows : List Due) (pace n : ℕ) →
    IsCompiled s image z boot handler → IsWordBoard b → AreWordRows IsWordGiven rows → z.bound + 3 ≤ pace →
    Allowed (source_of s.code boot handler) pace b (mote image b rows) n × (RAM_END ≤ (mote image b rows n).least + stack_of z)
