-- What the top call answers and writes (own).
use Rattle.std.specs.Prelude.{◌≡◌, ◌⊎◌, ℕ, List, [], Option, Some, unwrap_or}
use Rattle.nm_base.specs.declared.refusal.Refusal.{Refusal}
use Rattle.nm_base.specs.declared.fault.Fault.TheVariants as fault
use Rattle.nm_base.specs.Outside.{AppendsPart, FilesSeen, Rose, SinkSeen, appended}
use Rattle.nm_base.specs.Words.{refusal_pos}
use Rattle.nesc_preproc.specs.Sources.{Known}
use Rattle.nesc_preproc.specs.Expands.{Told}
use Rattle.mote_devices.specs.declared.state.BoardState.{BoardState}
use Rattle.mote_devices.specs.WordBoards.{AreWordRows, IsWordGiven}
use Rattle.mote_devices.specs.declared.shown.Due.{Due}
use Rattle.nesc_core.specs.Plain.{Program}
use Rattle.mote_run.specs.RunText.{mote_text}
use Rattle.nm_words.specs.Asked.{Asked, AreInUse, AreWords, Requested, help, request, version}
use Rattle.nm_words.specs.Texts.{help_text, version_text}
use Rattle.nm_driver.specs.Lines.{answer_line, detail, plain_line}
use Rattle.nm_driver.specs.Generated.{IsModules, IsSourceOf, generated_app, told_of}
use Rattle.nm_driver.specs.RunText.{IsReportText, build_text, gen_text, run_text}
use Rattle.nm_driver.specs.MeetsProgram.{MeetsProgram}
use Rattle.nesc_preproc.specs.Kept.{name_at}
use Rattle.wire_loading.specs.Needs.{file_of}
use Rattle.nesc_programs.specs.Programs.{HasNames, HasProgram}
use Rattle.nm_driver.specs.Applications.{CanBeBuilt, IsAccepted, IsRefused}
use Rattle.nm_driver.specs.NamedFiles.{HasImage, HasSchedule, HasSubject, ScheduleStops, SubjectStops}
use Rattle.nm_words.specs.declared.mode.Mode.{Mode}
use Rattle.nm_words.specs.declared.mode.Mode.TheVariants.{Check, Build, Run, Mote, Gen}
use Rattle.nm_driver.specs.declared.status.Status.{Status}
use Rattle.nm_driver.specs.declared.status.Status.TheVariants.{Done, Refused, Usage, Missing, ReadFault, WriteFault, NoMemory}

-- ---- causes

-- the files of a request are good
pub record IsGood (told : Told) (r : Requested) : Type 0 where
  pub subject : HasSubject told r.mode r.subject
  pub rows : List Due
  pub schedule : HasSchedule told r.schedule rows

-- nothing is needed for the help and the version
abbrev pub IsReady : Told → Asked → Type 0
IsReady told (request r) = IsGood told r
IsReady told help = Unit {0}
IsReady told version = Unit {0}

-- the words are in use, and the files that they name are good
pub record IsDone (told : Told) (words : List (List ℕ)) : Type 0 where
  pub asked : Asked
  pub words_are : AreWords words asked
  pub ready : IsReady told asked

-- the words are in use, and a file stops the call: that of what is run, or else the schedule
pub record Stops (told : Told) (words : List (List ℕ)) (status : Status) : Type 0 where
  pub asked : Requested
  pub words_are : AreWords words (request asked)
  pub cause : SubjectStops told asked.mode asked.subject status ⊎ (HasSubject told asked.mode asked.subject × ScheduleStops told asked.schedule status)

-- where each answer comes, for files that are told. Faults of reading and writing come where a count rose; want of memory is free
abbrev pub HasCause : Told → List (List ℕ) → Status → Type 0
HasCause told words Done = IsDone told words
HasCause told words Usage = AreInUse words → ⊥
HasCause told words ReadFault = Unit {0}
HasCause told words WriteFault = Unit {0}
HasCause told words NoMemory = Unit {0}
HasCause told words status = Stops told words status

abbrev pub IfMissing : Status → (List ℕ → Type 0) → Type 0
IfMissing (Missing name) P = P name
IfMissing _ P = Unit {0}

-- Usage, or a fault of the outside or of memory before or in its line
abbrev pub IsUsageOrLess : Status → Type 0
IsUsageOrLess Usage = Unit {0}
IsUsageOrLess WriteFault = Unit {0}
IsUsageOrLess NoMemory = Unit {0}
IsUsageOrLess _ = ⊥

-- ---- texts

-- the wired program of an application, of which nothing is refused, and the text of its report; the files have that program and these names, where they are told
pub record Reported (told : Option Told) (app : List ℕ) : Type 0 where
  pub program : Program
  pub names : ℕ → Option (List ℕ)
  pub accepted : IsAccepted program
  pub report : List ℕ
  pub reports : IsReportText names program report
  pub has : (files : Told) → told ≡ Some files → HasProgram files app program
  pub named : (files : Told) → told ≡ Some files → HasNames files app names

-- an image that does what the program allows, with its data and stack
pub record Built (program : Program) : Type 0 where
  pub builds : CanBeBuilt program
  pub code : List ℕ
  pub vectors : List ℕ
  pub ram : ℕ
  pub stack : ℕ
  pub meets : MeetsProgram program code vectors ram stack

-- a mode prints this of an application: its report, and behind it an image that does what the program allows, and behind that the trace of this
-- image on a board, with these rows, in so many slots; or it prints the trace of the image of a file. Of generated files it prints the
-- report, the image, and the totals of the run of this image on the board
abbrev pub Prints : Option Told → Mode → List ℕ → BoardState → List Due → ℕ → List ℕ → Type 0
Prints told Check app board rows budget text = (a : Reported told app) × (text ≡ a.report)
Prints told Build app board rows budget text =
    (a : Reported told app) × (b : Built a.program) × (text ≡ build_text a.report b.code b.vectors b.ram b.stack)
Prints told Run app board rows budget text =
    (a : Reported told app) × (b : Built a.program) × (text ≡ run_text a.report b.code b.vectors b.ram b.stack board rows budget)
Prints told Mote name board rows budget text =
    (image : ℕ → ℕ) × (text ≡ mote_text image board rows budget) × ((files : Told) → told ≡ Some files → HasImage files name image)
Prints told Gen name board rows budget text =
    (n : ℕ) × IsModules name n × (a : Reported (Some (told_of n)) generated_app) × (b : Built a.program)
    × (text ≡ gen_text a.report b.code b.vectors b.ram b.stack board n)

-- what a request asks for, on the board that was handed in, with rows of words
pub record IsRun (told : Option Told) (r : Requested) (board : BoardState) (text : List ℕ) : Type 0 where
  pub rows : List Due
  pub words : AreWordRows IsWordGiven rows
  pub prints : Prints told r.mode r.subject board rows r.budget text
  pub schedule : (files : Told) → told ≡ Some files → HasSchedule files r.schedule rows

abbrev pub IsTextOf : Option Told → Asked → BoardState → List ℕ → Type 0
IsTextOf told (request r) board text = IsRun told r board text
IsTextOf told help board text = text ≡ help_text
IsTextOf told version board text = text ≡ version_text

-- what the words ask for
pub record IsOutput (told : Option Told) (words : List (List ℕ)) (board : BoardState) (text : List ℕ) : Type 0 where
  pub asked : Asked
  pub words_are : AreWords words asked
  pub is_text : IsTextOf told asked board text

-- the name of the file in which a refusal stands
abbrev pub place_file : Option Known → (app : List ℕ) → Refusal → List ℕ
place_file known app r = unwrap_or (name_at known (refusal_pos r).file) (file_of app)

-- the line of a refusal, with the name of its file, and the bodies of a chain of calls
pub record IsRefusalLine (told : Option Told) (words : List (List ℕ)) (r : Refusal) (text : List ℕ) : Type 0 where
  pub asked : Requested
  pub words_are : AreWords words (request asked)
  pub texts : Option Told
  pub app : List ℕ
  pub of_source : IsSourceOf told asked.mode asked.subject texts app
  pub known : Option Known
  pub program : Option Program
  pub line : text ≡ answer_line (place_file known app r) (detail program r) (Refused r)
  pub source : (files : Told) → texts ≡ Some files → IsRefused files asked.mode app (fault.Refused r) known program

-- the text that goes with an answer
abbrev pub HasText : Option Told → List (List ℕ) → BoardState → Status → List ℕ → Type 0
HasText told words board Done text = IsOutput told words board text
HasText told words board (Refused r) text = IsRefusalLine told words r text
HasText told words board WriteFault text = ⊥
HasText told words board NoMemory text = ⊥
HasText told words board status text = text ≡ plain_line status

-- an answer that is due, and its text
pub record IsDue (told : Option Told) (words : List (List ℕ)) (board : BoardState) (status : Status) (text : List ℕ) : Type 0 where
  pub is_text : HasText told words board status text
  pub cause : (files : Told) → told ≡ Some files → HasCause files words status
  pub usage : status ≡ Usage → AreInUse words → ⊥
  pub not_usage : (AreInUse words → ⊥) → IsUsageOrLess status

-- what a sink has taken at each answer: nothing, or the beginning of the text of the answer that was due, or all of it
abbrev pub Wrote : Option Told → List (List ℕ) → BoardState → Status → Option (List ℕ) → Option (List ℕ) → Type 0
Wrote told words board NoMemory old new = new ≡ old
Wrote told words board WriteFault old new = (status : Status) × (text : List ℕ) × IsDue told words board status text × AppendsPart old new text
Wrote told words board status old new = (text : List ℕ) × HasText told words board status text × (new ≡ appended old text)

-- ---- the call

-- The answer to words on a board, by what is seen of files and sink before and after the call
pub record IsAnswer (words : List (List ℕ)) (board : BoardState) (status : Status) (files files' : FilesSeen) (out out' : SinkSeen) : Type 0 where
  pub same : files'.texts ≡ files.texts
  -- a fault of the outside comes only where its count rose; a file is missing only where a read said so
  pub read_fault : status ≡ ReadFault → Rose files.faults files'.faults
  pub write_fault : status ≡ WriteFault → Rose out.faults out'.faults
  pub missing : IfMissing status (λ name. Rose (files.misses name) (files'.misses name))
  -- Usage comes exactly where the words are not in use
  pub usage : status ≡ Usage → AreInUse words → ⊥
  pub not_usage : (AreInUse words → ⊥) → IsUsageOrLess status
  -- each other answer has its cause in the words and in the files, where these are told
  pub cause : (told : Told) → files.texts ≡ Some told → HasCause told words status
  -- where words and files are good and no count rises, it is done, or memory was refused
  pub complete : (told : Told) → files.texts ≡ Some told → IsDone told words
      → (status ≡ Done) ⊎ ((status ≡ NoMemory) ⊎ (Rose files.faults files'.faults ⊎ Rose out.faults out'.faults))
  -- what was written: the text of the answer, of which a fault leaves a beginning
  pub output : Wrote files.texts words board status out.taken out'.taken
