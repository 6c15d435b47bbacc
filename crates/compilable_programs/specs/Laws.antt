-- That what was laid out has room on the mote (own).
use Rattle.std.specs.Prelude.{ℕ, ◌*◌, List, length}
use Rattle.nm_base.specs.declared.fault.Fault.TheVariants.{TooLarge}
use Rattle.nm_base.specs.declared.limit.Room.{Room}
use Rattle.msp_isa.specs.declared.code.CodeFn.{CodeFn}
use Rattle.msp_isa.specs.Image.{IsImage}
use Rattle.msp_layout.specs.Bytes.{HasBytes}
use Rattle.msp_layout.specs.Laid.{FitsRam, HasCause}

-- the bytes of code and stack are a function of the code: where an image has these, neither is a cause that the program is too large
abbrev pub LaidImagesHaveRoom : Type 0
LaidImagesHaveRoom =
    (code : List CodeFn) (lines : List ℕ) (reset ram stack : ℕ) (words vectors : List ℕ) → IsImage words vectors → HasBytes code (2 * length words) → FitsRam code lines reset ram stack
    → (room : Room) (need : ℕ) → HasCause code lines reset ram (TooLarge room need) → ⊥
