-- What the files that the words name give, and why one of them stops the call (own).
use Rattle.std.specs.Prelude.{◌≡◌, ◌<◌, ◌≤◌, ◌⊎◌, ℕ, ◌+◌, List, [], Option, Some, None, Ok, Err, length}
use Rattle.nm_base.specs.declared.limit.TheConstants.{MAX_FILE, MAX_SCHEDULE}
use Rattle.nm_base.specs.declared.limit.Limit.{Limit as LimitOf}
use Rattle.nm_base.specs.declared.limit.Which.TheVariants as which
use Rattle.nm_base.specs.declared.fault.Fault.{Fault}
use Rattle.nm_base.specs.declared.fault.Fault.TheVariants as fault
use Rattle.nesc_preproc.specs.Sources.{Known}
use Rattle.nesc_preproc.specs.Expands.{Told}
use Rattle.mote_devices.specs.declared.shown.Due.{Due}
use Rattle.mote_text.specs.ImageLines.{image_of}
use Rattle.mote_text.specs.ScheduleText.{schedule_of}
use Rattle.nesc_core.specs.Plain.{Program}
use Rattle.nm_words.specs.declared.mode.Mode.{Mode}
use Rattle.nm_words.specs.declared.mode.Mode.TheVariants.{Check, Build, Run, Mote, Gen}
use Rattle.nm_driver.specs.declared.status.Status.{Status}
use Rattle.nm_driver.specs.declared.status.Status.TheVariants as status
use Rattle.nm_driver.specs.declared.status.Status.TheVariants.{Missing, ReadFault, BadSchedule, Limit, BadImage}
use Rattle.nm_driver.specs.Generated.{IsModules, generated_app, told_of}
use Rattle.nm_driver.specs.Applications.{HasApplication, IsRefused}

-- ---- one file

-- it is there, and not too large
pub record IsRead (told : Told) (name text : List ℕ) : Type 0 where
  pub there : told name ≡ Some text
  pub small : length text ≤ MAX_FILE

pub record IsTooLarge (told : Told) (name : List ℕ) (limit : LimitOf) : Type 0 where
  pub text : List ℕ
  pub there : told name ≡ Some text
  pub large : MAX_FILE < length text
  pub this : limit ≡ record { which = which.File; have = MAX_FILE + 1 }

-- it is not there, or it is too large; the cause of a read fault is its count
abbrev pub FileStops : Told → List ℕ → Status → Type 0
FileStops told name (Missing missing) = (missing ≡ name) × (told name ≡ None)
FileStops told name ReadFault = Unit {0}
FileStops told name (Limit limit) = IsTooLarge told name limit
FileStops told name _ = ⊥

-- ---- a schedule

pub record HasRows (told : Told) (name : List ℕ) (rows : List Due) : Type 0 where
  pub text : List ℕ
  pub read : IsRead told name text
  pub rows_are : schedule_of text ≡ Ok rows
  pub few : length rows ≤ MAX_SCHEDULE

-- as for every text; a file of at most 262,144 bytes has fewer, since a row takes 13 bytes or more
pub record HasManyRows (told : Told) (name : List ℕ) (limit : LimitOf) : Type 0 where
  pub text : List ℕ
  pub read : IsRead told name text
  pub rows : List Due
  pub rows_are : schedule_of text ≡ Ok rows
  pub many : MAX_SCHEDULE < length rows
  pub this : limit ≡ record { which = which.Schedule; have = MAX_SCHEDULE + 1 }

-- a line is the first one that is refused
pub record HasBadRow (told : Told) (name : List ℕ) (line : ℕ) : Type 0 where
  pub text : List ℕ
  pub read : IsRead told name text
  pub first : schedule_of text ≡ Err line

abbrev pub RowsStop : Told → List ℕ → Status → Type 0
RowsStop told name (BadSchedule line) = HasBadRow told name line
RowsStop told name (Limit limit) = IsTooLarge told name limit ⊎ HasManyRows told name limit
RowsStop told name status = FileStops told name status

-- the rows of the file that is named; where none is, there are none
abbrev pub HasSchedule : Told → Option (List ℕ) → List Due → Type 0
HasSchedule told None rows = rows ≡ []
HasSchedule told (Some name) rows = HasRows told name rows

abbrev pub ScheduleStops : Told → Option (List ℕ) → Status → Type 0
ScheduleStops told None status = ⊥
ScheduleStops told (Some name) status = RowsStop told name status

-- ---- an image

pub record HasImage (told : Told) (name : List ℕ) (image : ℕ → ℕ) : Type 0 where
  pub text : List ℕ
  pub read : IsRead told name text
  pub image_is : image_of text ≡ Ok image

pub record HasBadLine (told : Told) (name : List ℕ) (line : ℕ) : Type 0 where
  pub text : List ℕ
  pub read : IsRead told name text
  pub first : image_of text ≡ Err line

abbrev pub ImageStops : Told → List ℕ → Status → Type 0
ImageStops told name (BadImage line) = HasBadLine told name line
ImageStops told name status = FileStops told name status

-- ---- an application

-- the answer that a fault gives
abbrev pub status_of : Fault → Status
status_of (fault.Refused r) = status.Refused r
status_of (fault.Missing name) = status.Missing name
status_of fault.ReadFault = status.ReadFault
status_of (fault.Limit l) = status.Limit l
status_of (fault.TooLarge room need) = status.TooLarge room need
status_of fault.NoMemory = status.NoMemory

pub record SourceStops (told : Told) (mode : Mode) (app : List ℕ) (status : Status) : Type 0 where
  pub fault : Fault
  pub known : Option Known
  pub program : Option Program
  pub refused : IsRefused told mode app fault known program
  pub answer : status ≡ status_of fault

-- ---- what is run

-- an application that the mode takes, which may be one of generated files, or an image
abbrev pub HasSubject : Told → Mode → List ℕ → Type 0
HasSubject told Check app = HasApplication told Check app
HasSubject told Build app = HasApplication told Build app
HasSubject told Run app = HasApplication told Run app
HasSubject told Mote name = (image : ℕ → ℕ) × HasImage told name image
HasSubject told Gen name = (n : ℕ) × IsModules name n × HasApplication (told_of n) Gen generated_app

abbrev pub SubjectStops : Told → Mode → List ℕ → Status → Type 0
SubjectStops told Check app status = SourceStops told Check app status
SubjectStops told Build app status = SourceStops told Build app status
SubjectStops told Run app status = SourceStops told Run app status
SubjectStops told Mote name status = ImageStops told name status
SubjectStops told Gen name status = (n : ℕ) × IsModules name n × SourceStops (told_of n) Gen generated_app status
