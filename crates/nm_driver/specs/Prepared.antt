-- What is found before anything is written (own).
use Rattle.std.specs.Prelude.{◌≡◌, ◌⊎◌, ℕ, List, [], ◌++◌, Option, Some, None, Result, IfErr, string_bytes}
use Rattle.nm_base.specs.declared.fault.Fault.{Fault}
use Rattle.nm_base.specs.declared.fault.Fault.TheVariants as fault
use Rattle.nm_base.specs.Outside.{AppendsPart, FilesSeen, IsReadBy, Rose, SinkSeen, appended}
use Rattle.nesc_preproc.specs.Sources.{Known}
use Rattle.nesc_preproc.specs.Expands.{Told}
use Rattle.mote_devices.specs.declared.state.BoardState.{BoardState}
use Rattle.mote_devices.specs.declared.shown.Due.{Due}
use Rattle.nesc_core.specs.Plain.{Program}
use Rattle.msp_isa.specs.Image.{bytes_map}
use Rattle.mote_text.specs.ImageText.{image_text}
use Rattle.mote_run.specs.RunText.{mote_text}
use Rattle.nm_driver.specs.declared.answer.Answer.{Answer}
use Rattle.nm_driver.specs.declared.answer.Place.{Place}
use Rattle.nm_driver.specs.declared.answer.Stop.{Stop}
use Rattle.nm_driver.specs.declared.answer.Stop.TheVariants as stop
use Rattle.nm_driver.specs.declared.subject.Built.{Built}
use Rattle.nm_driver.specs.declared.subject.Head.{Head}
use Rattle.nm_driver.specs.declared.subject.Subject.{Subject}
use Rattle.nm_driver.specs.declared.subject.Tail.{Tail}
use Rattle.nm_driver.specs.declared.subject.Tail.TheVariants.{Nothing, Trace, Totals}
use Rattle.nm_driver.specs.declared.prepared.Prepared.{Prepared}
use Rattle.mote_text.specs.declared.text_fault.TextFault.{TextFault}
use Rattle.mote_text.specs.declared.text_fault.TextFault.TheVariants as text
use Rattle.nm_words.specs.declared.mode.Mode.{Mode}
use Rattle.nm_words.specs.declared.mode.Mode.TheVariants.{Check, Build, Run, Mote, Gen}
use Rattle.nm_driver.specs.declared.status.Status.{Status}
use Rattle.nm_driver.specs.declared.status.Status.TheVariants.{Done, Missing, ReadFault, WriteFault, BadSchedule, Limit, NoMemory, BadImage}
use Rattle.nm_driver.specs.Lines.{answer_line, detail, plain_line}
use Rattle.nesc_core.specs.View.{program_of}
use Rattle.nesc_programs.specs.declared.application.Application.{Application}
use Rattle.program_builder.specs.Built.{IsCause}
use Rattle.nm_driver.specs.Applications.{IsRefused, IsRefusedIn}
use Rattle.nm_driver.specs.NamedFiles.{ImageStops, status_of}
use Rattle.nm_driver.specs.Generated.{IsModules, generated_app, told_of, totals_line}
use Rattle.nm_driver.specs.RunText.{gen_text, trace_line}
use Rattle.nm_driver.specs.Output.{Built as BuiltOf, IfMissing, Prints, Reported, place_file}

-- ---- answers

abbrev pub IfSays : Stop → (Answer → Type 0) → Type 0
IfSays (stop.Says answer) P = P answer
IfSays stop.NoMemory P = Unit {0}

abbrev pub file_in : Option Place → List ℕ
file_in None = []
file_in (Some place) = place.file

abbrev pub detail_in : Option Place → List ℕ
detail_in None = []
detail_in (Some place) = place.detail.items

-- the line of an answer
abbrev pub line_of : Answer → List ℕ
line_of answer = answer_line (file_in answer.place) (detail_in answer.place) answer.status

-- files were read on the way to something, or to an answer
abbrev pub Reads : {A : Type 0} → Result A Stop → FilesSeen → FilesSeen → Type 0
Reads r old new = IsReadBy (λ P. IfErr r (λ s. IfSays s (λ a. a.status ≡ ReadFault → P))) (λ P. IfErr r (λ s. IfSays s (λ a. IfMissing a.status P))) old new

-- an answer about a file that is no application's: its line names no place in a file
abbrev pub IsLined : Status → Type 0
IsLined (Missing name) = Unit {0}
IsLined ReadFault = Unit {0}
IsLined (BadSchedule line) = Unit {0}
IsLined (Limit l) = Unit {0}
IsLined (BadImage line) = Unit {0}
IsLined _ = ⊥

pub record SaysOf (told : Option Told) (Stops : Told → Status → Type 0) (answer : Answer) : Type 0 where
  pub lined : IsLined answer.status
  pub line : line_of answer ≡ plain_line answer.status
  pub cause : (files : Told) → told ≡ Some files → Stops files answer.status

-- the answer that a text's fault gives
abbrev pub text_status : TextFault → Status
text_status (text.BadImage line) = BadImage line
text_status (text.BadSchedule line) = BadSchedule line
text_status (text.Limit limit) = Limit limit
text_status text.NoMemory = NoMemory

-- it is not want of memory
abbrev pub IsTextFault : TextFault → Type 0
IsTextFault text.NoMemory = ⊥
IsTextFault _ = Unit {0}

-- ---- an application

-- where a fault stands, where it is a refusal
abbrev pub fault_file : Option Known → (app : List ℕ) → Fault → List ℕ
fault_file known app (fault.Refused r) = place_file known app r
fault_file known app _ = []

abbrev pub fault_detail : Option Program → Fault → List ℕ
fault_detail program (fault.Refused r) = detail program r
fault_detail program _ = []

abbrev pub IsNoMemory : Fault → Type 0
IsNoMemory fault.NoMemory = Unit {0}
IsNoMemory _ = ⊥

-- the answer to a fault, with its line
pub record SaysFault (app : List ℕ) (known : Option Known) (program : Option Program) (cause : Fault) (answer : Answer) : Type 0 where
  pub found : IsNoMemory cause → ⊥
  pub is_status : answer.status ≡ status_of cause
  pub is_line : line_of answer ≡ answer_line (fault_file known app cause) (fault_detail program cause) (status_of cause)

-- the answer to the fault of an image, whichever program it was to be made of
abbrev pub SaysUnbuilt : Fault → Answer → Type 0
SaysUnbuilt cause answer = (p : Program) (app : List ℕ) (known : Option Known) → IsCause p cause → SaysFault app known (Some p) cause answer

-- an answer about the files of an application
pub record SaysOfSource (told : Option Told) (mode : Mode) (app : List ℕ) (answer : Answer) : Type 0 where
  pub cause : Fault
  pub known : Option Known
  pub program : Option Program
  pub says : SaysFault app known program cause answer
  pub source : (files : Told) → told ≡ Some files → IsRefused files mode app cause known program

-- an answer about the program of an application
pub record SaysOfProgram (mode : Mode) (app : List ℕ) (a : Application) (answer : Answer) : Type 0 where
  pub cause : Fault
  pub says : SaysFault app a.reading (Some (program_of a.program)) cause answer
  pub refused : IsRefusedIn mode (program_of a.program) cause

-- an answer about the application of so many modules
abbrev pub SaysOfGenerated : List ℕ → Answer → Type 0
SaysOfGenerated word answer = (n : ℕ) × IsModules word n × SaysOfSource (Some (told_of n)) Gen generated_app answer

-- no file of the outside is its cause
abbrev pub IsInside : Status → Type 0
IsInside ReadFault = ⊥
IsInside (Missing name) = ⊥
IsInside _ = Unit {0}

abbrev pub SaysOfSubject : Option Told → Mode → List ℕ → Answer → Type 0
SaysOfSubject told Check app answer = SaysOfSource told Check app answer
SaysOfSubject told Build app answer = SaysOfSource told Build app answer
SaysOfSubject told Run app answer = SaysOfSource told Run app answer
SaysOfSubject told Mote name answer = SaysOf told (λ files. ImageStops files name) answer
SaysOfSubject told Gen name answer = SaysOfGenerated name answer

-- ---- a run

-- the sizes of what was built, and its image
abbrev pub built_bytes : Option Built → List ℕ
built_bytes None = []
built_bytes (Some built) = string_bytes built.sizes ++ image_text built.image.code.items built.image.vectors

-- what is printed of an application before its trace
abbrev pub head_bytes : Option Head → List ℕ
head_bytes None = []
head_bytes (Some head) = head.report.items ++ built_bytes head.built

-- the line between that and the trace
abbrev pub line_before : Option Head → List ℕ
line_before None = []
line_before (Some head) = trace_line

-- what is printed behind the head: nothing, the trace of an image, or the line of the run of an image of so many modules
abbrev pub tail_bytes : Option Head → Tail → BoardState → List Due → ℕ → List ℕ
tail_bytes head Nothing board rows n = []
tail_bytes head (Trace image) board rows n = line_before head ++ mote_text (bytes_map image) board rows n
tail_bytes head (Totals modules image) board rows n = totals_line modules (bytes_map image) board

-- what is printed of a subject
abbrev pub subject_text : Subject → BoardState → List Due → ℕ → List ℕ
subject_text s board rows n = head_bytes s.head ++ tail_bytes s.head s.tail board rows n

-- what is printed of it, on any board
abbrev pub PrintsAs : Option Told → Mode → List ℕ → Subject → Type 0
PrintsAs told mode name subject = (board : BoardState) (rows : List Due) (budget : ℕ) → Prints told mode name board rows budget (subject_text subject board rows budget)

-- what is printed of the application of n modules, from these files
abbrev pub PrintsTotals : Option Told → ℕ → Subject → Type 0
PrintsTotals texts n subject = (board : BoardState) (rows : List Due) (budget : ℕ)
    → (a : Reported texts generated_app) × (b : BuiltOf a.program) × (subject_text subject board rows budget ≡ gen_text a.report b.code b.vectors b.ram b.stack board n)

-- what a prepared run of this image prints on a board
abbrev pub run_text_on : BoardState → Prepared → List ℕ → List ℕ
run_text_on board p image = head_bytes p.subject.head ++ (line_before p.subject.head ++ mote_text (bytes_map image) board p.rows.items p.budget)

-- what is printed of the run of this image of so many modules on a board
abbrev pub totals_text_on : BoardState → Option Head → ℕ → List ℕ → List ℕ
totals_text_on board head modules image = head_bytes head ++ totals_line modules (bytes_map image) board

-- what is printed on a board
abbrev pub text_on : BoardState → Prepared → List ℕ
text_on board p = subject_text p.subject board p.rows.items p.budget

-- a sink has taken an answer's text or a part of it, or there was no memory for it
abbrev pub TakesAnswer : Status → Status → SinkSeen → SinkSeen → List ℕ → Type 0
TakesAnswer answer result old new text =
    ((result ≡ answer) × (new.taken ≡ appended old.taken text))
    ⊎ (((result ≡ WriteFault) × AppendsPart old.taken new.taken text × Rose old.faults new.faults) ⊎ ((result ≡ NoMemory) × (new ≡ old)))

-- the end of a call without a run
abbrev pub Ends : Stop → Status → SinkSeen → SinkSeen → Type 0
Ends (stop.Says answer) result old new = TakesAnswer answer.status result old new (line_of answer)
Ends stop.NoMemory result old new = (result ≡ NoMemory) × (new ≡ old)

-- how a run may end
abbrev pub IsRunStatus : Status → Type 0
IsRunStatus Done = Unit {0}
IsRunStatus WriteFault = Unit {0}
IsRunStatus NoMemory = Unit {0}
IsRunStatus _ = ⊥

-- what a sink has taken of a run's text, by the answer
abbrev pub Performs : Status → SinkSeen → SinkSeen → List ℕ → Type 0
Performs Done old new text = new.taken ≡ appended old.taken text
Performs WriteFault old new text = AppendsPart old.taken new.taken text × Rose old.faults new.faults
Performs NoMemory old new text = new ≡ old
Performs _ old new text = ⊥
