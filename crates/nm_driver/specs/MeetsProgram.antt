-- An image that does what a program allows.
use Rattle.std.specs.Prelude.{◌≡◌, ◌≤◌, ℕ, ◌+◌, ◌*◌, List, length}
use Rattle.nm_base.specs.declared.memory_map.TheConstants.{RAM_BYTES, RAM_END}
use Rattle.mote_devices.specs.declared.state.BoardState.{BoardState}
use Rattle.mote_devices.specs.WordBoards.{AreWordRows, IsWordBoard, IsWordGiven}
use Rattle.mote_devices.specs.declared.shown.Due.{Due}
use Rattle.nesc_core.specs.Plain.{Program}
use Rattle.nesc_core.specs.Weights.{code_weight, pace_of_program}
use Rattle.core_meaning.specs.SourceOf.{source_of}
use Rattle.msp_isa.specs.Image.{IsImage, image_map}
use Rattle.mote_bus.specs.Mote.{mote}
use Rattle.image_sizes.specs.StackWeight.{IsStackWeight}
use Rattle.program_builder.specs.Built.{data_bytes}
use Rattle.preempt_core.specs.Allowed.{Allowed}

-- the code and vectors of an image, its bytes of data, and its stack
pub record MeetsProgram (program : Program) (code vectors : List ℕ) (ram stack : ℕ) : Type 0 where
  -- what a mote with the image does on every board of words, whatever words come in whichever slot, is what the program allows ..
  pub allowed : (b : BoardState) (rows : List Due) (n : ℕ) → IsWordBoard b → AreWordRows IsWordGiven rows →
      Allowed (source_of program) (pace_of_program program) b (mote (image_map code vectors) b rows) n
  -- .. within its stack
  pub bounded : (b : BoardState) (rows : List Due) (n : ℕ) → IsWordBoard b → AreWordRows IsWordGiven rows → RAM_END ≤ (mote (image_map code vectors) b rows n).least + stack
  pub image : IsImage code vectors
  -- the data are the program's objects, and the list of its tasks where it has any
  pub bytes : ram ≡ data_bytes program
  -- data and stack fit the memory
  pub fits : ram + stack ≤ RAM_BYTES
  -- code and stack are at most their weights
  pub code_weighs : 2 * length code ≤ code_weight program
  pub stack_weighs : (weight : ℕ) → IsStackWeight program weight → stack ≤ weight
