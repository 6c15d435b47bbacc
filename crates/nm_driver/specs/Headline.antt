-- What a printed image promises: every mote with it does what the application's source allows (own).
use Rattle.std.specs.Prelude.{◌≡◌, ◌≤◌, ℕ, ◌+◌, List, ◌++◌, Option, Some, Ok}
use Rattle.nm_base.specs.declared.memory_map.TheConstants.{RAM_BYTES, RAM_END}
use Rattle.nm_base.specs.Outside.{FilesSeen, SinkSeen}
use Rattle.nesc_preproc.specs.Expands.{Told}
use Rattle.mote_devices.specs.declared.state.BoardState.{BoardState}
use Rattle.mote_devices.specs.WordBoards.{AreWordRows, IsWordBoard, IsWordGiven}
use Rattle.mote_devices.specs.declared.shown.Due.{Due}
use Rattle.nesc_core.specs.Plain.{Program}
use Rattle.nesc_core.specs.Weights.{pace_of_program}
use Rattle.core_meaning.specs.SourceOf.{source_of}
use Rattle.msp_isa.specs.Image.{image_map}
use Rattle.mote_bus.specs.Mote.{mote}
use Rattle.preempt_core.specs.Allowed.{Allowed}
use Rattle.mote_text.specs.ImageLines.{image_of}
use Rattle.mote_text.specs.ImageText.{image_text}
use Rattle.nm_words.specs.declared.mode.Mode.TheVariants.{Run, Gen}
use Rattle.nm_driver.specs.declared.status.Status.TheVariants.{Done}
use Rattle.nm_words.specs.Asked.{AreWords, Requested, request}
use Rattle.nesc_programs.specs.Programs.{HasNames, HasProgram}
use Rattle.nm_driver.specs.NamedFiles.{HasSchedule}
use Rattle.nm_driver.specs.Generated.{IsModules, generated_app, told_of}
use Rattle.nm_driver.specs.RunText.{IsReportText, gen_text, run_text}
use Rattle.nm_driver.specs.Output.{IsAnswer}

-- the text has the report of the application's wired program, an image of it with data and stack, and the image's run on a board with the
-- schedule's rows
pub record RunsItsSource (files : Told) (asked : Requested) (board : BoardState) (text : List ℕ) : Type 0 where
  pub program : Program
  pub has : HasProgram files asked.subject program
  pub names : ℕ → Option (List ℕ)
  pub named : HasNames files asked.subject names
  pub report : List ℕ
  pub reports : IsReportText names program report
  pub code : List ℕ
  pub vectors : List ℕ
  pub ram : ℕ
  pub stack : ℕ
  pub rows : List Due
  pub schedule : HasSchedule files asked.schedule rows
  pub words : AreWordRows IsWordGiven rows
  pub printed : text ≡ run_text report code vectors ram stack board rows asked.budget
  -- whoever reads the image's lines runs this image
  pub reads_back : image_of (image_text code vectors) ≡ Ok (image_map code vectors)
  -- on every board of words, with every schedule of words, after every number of slots it has done what some run of the program does, at
  -- its pace ..
  pub allowed : (b : BoardState) (rows : List Due) (n : ℕ) → IsWordBoard b → AreWordRows IsWordGiven rows →
      Allowed (source_of program) (pace_of_program program) b (mote (image_map code vectors) b rows) n
  -- .. within its stack
  pub bounded : (b : BoardState) (rows : List Due) (n : ℕ) → IsWordBoard b → AreWordRows IsWordGiven rows → RAM_END ≤ (mote (image_map code vectors) b rows n).least + stack
  pub fits : ram + stack ≤ RAM_BYTES

-- Where the top call is done with an application, and files and sink tell what they have, the sink has taken such a text
abbrev pub PrintedImageRunsItsSource : Type 0
PrintedImageRunsItsSource = (words : List (List ℕ)) (asked : Requested) (board : BoardState) (seen seen' : FilesSeen) (out out' : SinkSeen) (files : Told) (before : List ℕ)
    → AreWords words (request asked) → asked.mode ≡ Run → seen.texts ≡ Some files → out.taken ≡ Some before → IsAnswer words board Done seen seen' out out'
    → (text : List ℕ) × (out'.taken ≡ Some (before ++ text)) × RunsItsSource files asked board text

-- ---- an application that is made

-- the text has the report of the wired program of the files of n modules, an image of it with data and stack, and the totals of the image's run
-- on a board
pub record RunsGenerated (n : ℕ) (board : BoardState) (text : List ℕ) : Type 0 where
  pub program : Program
  pub has : HasProgram (told_of n) generated_app program
  pub names : ℕ → Option (List ℕ)
  pub named : HasNames (told_of n) generated_app names
  pub report : List ℕ
  pub reports : IsReportText names program report
  pub code : List ℕ
  pub vectors : List ℕ
  pub ram : ℕ
  pub stack : ℕ
  pub printed : text ≡ gen_text report code vectors ram stack board n
  pub reads_back : image_of (image_text code vectors) ≡ Ok (image_map code vectors)
  -- as of an application of the outside
  pub allowed : (b : BoardState) (rows : List Due) (n : ℕ) → IsWordBoard b → AreWordRows IsWordGiven rows →
      Allowed (source_of program) (pace_of_program program) b (mote (image_map code vectors) b rows) n
  pub bounded : (b : BoardState) (rows : List Due) (n : ℕ) → IsWordBoard b → AreWordRows IsWordGiven rows → RAM_END ≤ (mote (image_map code vectors) b rows n).least + stack
  pub fits : ram + stack ≤ RAM_BYTES

-- Where the top call is done with the application of so many modules, on whatever files, and the sink tells what it has, it has taken such a text
abbrev pub GeneratedImageRunsItsSource : Type 0
GeneratedImageRunsItsSource = (words : List (List ℕ)) (asked : Requested) (board : BoardState) (seen seen' : FilesSeen) (out out' : SinkSeen) (before : List ℕ)
    → AreWords words (request asked) → asked.mode ≡ Gen → out.taken ≡ Some before → IsAnswer words board Done seen seen' out out'
    → (n : ℕ) × IsModules asked.subject n × (text : List ℕ) × (out'.taken ≡ Some (before ++ text)) × RunsGenerated n board text
