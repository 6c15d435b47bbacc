-- The code of reset and of the lines, laid out among the functions of a program (own).
use Rattle.std.specs.Prelude.{◌≡◌, ℕ, ◌+◌, ◌*◌, ◌<◌, ◌≤◌, List, [], length, Option}
use Rattle.std.specs.Option.{option_map}
use Rattle.nm_base.specs.declared.memory_map.TheConstants.{RAM_END, RAM_START, VECTORS}
use Rattle.nm_base.specs.declared.action.Action.{Action}
use Rattle.core_meaning.specs.Source.{Source, act_of}
use Rattle.msp_isa.specs.declared.code.CodeFn.{CodeFn}
use Rattle.msp_isa.specs.Stands.{IsLaid, items_of, word_in}
use Rattle.msp430_cpu.specs.Cpu.{even}
use Rattle.open_law.specs.Open.{IsGated}
use Rattle.open_law.specs.Body.{IsBodyLaw, StartsOpen}
use Rattle.code_pieces.specs.Pieces.{handler_of, reset_of}
use Rattle.preempt_bodies.specs.Bodies.{Sizes, IsBuilt, Serves, stack_of}

module _ (P : Source) (image : ℕ → ℕ) (marks : ℕ → List Action) (z : Sizes) (code : List CodeFn) (entries : ℕ → ℕ) (places : ℕ → ℕ → ℕ) where
  -- Line v has a function of its own, which calls the body of its handler; that meets the law with its own depth and bound
  pub record IsLaidLine (v : ℕ) : Type 0 where
    pub f : ℕ
    pub body : Option ℕ
    pub is : f < length code
    pub items : items_of code f ≡ (handler_of body).items
    pub vector : word_in image (VECTORS + 2 * v) ≡ entries f
    pub no_marks : (a : ℕ) → entries f ≤ a → a < places f (length (handler_of body).items) → marks a ≡ []
    pub depth : ℕ
    pub bound : ℕ
    pub some : 1 ≤ bound
    pub deep : 26 + depth ≤ z.handler_depth
    pub long : bound + 28 ≤ z.bound
    pub serves : Serves image z.data_end marks (act_of P (P.handler v)) depth bound (option_map entries body)

  pub record IsLaidOut : Type 0 where
    pub low_end : RAM_START ≤ z.data_end
    pub even_end : even z.data_end ≡ z.data_end
    pub room : z.data_end + stack_of z ≤ RAM_END
    pub some : 1 ≤ z.bound
    -- the function of reset calls the boot function
    pub reset : ℕ
    pub boot : ℕ
    pub is : reset < length code
    pub items : items_of code reset ≡ (reset_of boot).items
    pub vector : word_in image 0xFFFE ≡ entries reset
    pub boot_at : entries boot ≡ z.boot
    pub even_boot : even z.boot ≡ z.boot
    pub low_boot : z.boot < 0x10000
    pub body : IsBodyLaw image z.data_end marks IsGated (P.act P.boot) z.boot z.boot_depth z.bound StartsOpen
    pub lines : (v : ℕ) → v < 8 → IsLaidLine v

-- such an image is one of bodies
abbrev pub LaidImagesAreBuilt : Type 0
LaidImagesAreBuilt =
    (P : Source) (image : ℕ → ℕ) (marks : ℕ → List Action) (z : Sizes) (code : List CodeFn) (entries : ℕ → ℕ) (laid : IsLaid image code entries) →
    IsLaidOut P image marks z code entries laid.places → IsBuilt P image marks z
