-- What was read on the way to the answer to a fault.
use Rattle.std.proofs.Common.{◌≡◌, inl, inr, ℕ, List, Option, Some, None, refl, sym, ap, subst, ◌∙◌, Result, Ok, Err}
use Rattle.nm_base.specs.declared.fault.Fault.{Fault}
use Rattle.nm_base.specs.declared.fault.Fault.TheVariants as fault
use Rattle.std.specs.Result.{IsErrAnd}
use Rattle.nm_base.specs.Outside.{FilesSeen, Rose}
use Rattle.nesc_preproc.specs.Sources.{Known}
use Rattle.nesc_core.specs.Plain.{Program}
use Rattle.call_graph.specs.Refusals.{IsDue}
use Rattle.race_report.specs.Limit.{IsWhy}
use Rattle.wire_reading.specs.Told.{Counts}
use Rattle.wire_reading.specs.Told as told
use Rattle.nm_driver.specs.declared.answer.Answer.{Answer}
use Rattle.nm_driver.specs.declared.answer.Stop.{Stop}
use Rattle.nm_driver.specs.declared.status.Status.{Status}
use Rattle.nm_driver.specs.declared.status.Status.TheVariants as status
use Rattle.nm_driver.specs.NamedFiles.{status_of}
use Rattle.nesc_preproc.specs.Expands.{Told}
use Rattle.nesc_core.specs.View.{program_of}
use Rattle.nesc_programs.specs.declared.application.Application.{Application}
use Rattle.nesc_programs.specs.Programs.{IsProgram, IsStopped}
use Rattle.wire_reading.specs.Order.{IsRefusal}
use Rattle.nm_words.specs.declared.mode.Mode.{Mode}
use Rattle.program_builder.specs.Built.{IsCause}
use Rattle.nm_driver.specs.Applications.{IsRefusedIn, IsUnbuilt}
use Rattle.nm_driver.specs.Output.{IfMissing}
use Rattle.nm_driver.specs.Prepared.{IfSays, IsNoMemory, Reads, SaysFault, SaysOfProgram, SaysOfSource}
use Rattle.nm_driver.proofs.Causes.{if_says}

read_failed : (e : Fault) → status_of e ≡ status.ReadFault → e ≡ fault.ReadFault
read_failed fault.ReadFault h = refl
read_failed (fault.Refused r) h = absurd cc
read_failed (fault.Missing name) h = absurd cc
read_failed (fault.Limit l) h = absurd cc
read_failed (fault.TooLarge room n) h = absurd cc
read_failed fault.NoMemory h = absurd cc

file_missed : (A : Type 0) (e : Fault) (s : Status) (P : List ℕ → Type 0) → s ≡ status_of e → told.IfMissing {A = A} (Err e) P → IfMissing s P
file_missed A (fault.Missing name) s P is h = subst (λ x. IfMissing x P) (sym is) h
file_missed A (fault.Refused r) s P is h = subst (λ x. IfMissing x P) (sym is) tt
file_missed A fault.ReadFault s P is h = subst (λ x. IfMissing x P) (sym is) tt
file_missed A (fault.Limit l) s P is h = subst (λ x. IfMissing x P) (sym is) tt
file_missed A (fault.TooLarge room n) s P is h = subst (λ x. IfMissing x P) (sym is) tt
file_missed A fault.NoMemory s P is h = subst (λ x. IfMissing x P) (sym is) tt

pub stopped_outside : (A B : Type 0) (e : Fault) (app : List ℕ) (known : Option Known) (program : Option Program) (s : Stop) (old new : FilesSeen)
    → Counts {A = A} (Err e) old new → IfSays s (SaysFault app known program e) → Reads {A = B} (Err s) old new
stopped_outside A B e app known program s old new c says = record {
  same = c.same;
  faults_kept = c.faults_kept;
  misses_kept = c.misses_kept;
  read_fault = if_says {P = SaysFault app known program e} {Q = λ a. a.status ≡ status.ReadFault → Rose old.faults new.faults} s
      (λ a h is. c.read_fault (ap Err (read_failed e (sym h.is_status ∙ is)))) says;
  missing = if_says {P = SaysFault app known program e} {Q = λ a. IfMissing a.status (λ name. Rose (old.misses name) (new.misses name))} s
      (λ a h. file_missed A e a.status _ h.is_status c.missing) says;
}

-- ---- behind the wired program no file is read

abbrev IsUnread : Fault → Type 0
IsUnread fault.ReadFault = ⊥
IsUnread (fault.Missing name) = ⊥
IsUnread _ = Unit {0}

module _ (p : Program) where
  calls_unread : (e : Fault) → IsDue p e → IsUnread e
  calls_unread (fault.Missing name) h = h
  calls_unread fault.ReadFault h = h
  calls_unread (fault.Refused r) h = tt
  calls_unread (fault.Limit l) h = tt
  calls_unread (fault.TooLarge room n) h = tt
  calls_unread fault.NoMemory h = tt

  rows_unread : (e : Fault) → IsWhy p e → IsUnread e
  rows_unread (fault.Missing name) h = h
  rows_unread fault.ReadFault h = h
  rows_unread (fault.Refused r) h = tt
  rows_unread (fault.Limit l) h = tt
  rows_unread (fault.TooLarge room n) h = tt
  rows_unread fault.NoMemory h = tt

  cause_unread : (e : Fault) → IsCause p e → IsUnread e
  cause_unread (fault.Missing name) h = h
  cause_unread fault.ReadFault h = h
  cause_unread (fault.Refused r) h = tt
  cause_unread (fault.Limit l) h = tt
  cause_unread (fault.TooLarge room n) h = tt
  cause_unread fault.NoMemory h = tt

  image_unread : (e : Fault) → IsUnbuilt p e → IsUnread e
  image_unread e h = cause_unread e h.0

  unread : (m : Mode) (e : Fault) → IsRefusedIn m p e → IsUnread e
  unread m e (inl h) = calls_unread e h
  unread m e (inr (inl h)) = rows_unread e h.2
  unread m e (inr (inr h)) = image_unread e h.2

not_failed : (e : Fault) (s : Status) → IsUnread e → s ≡ status_of e → s ≡ status.ReadFault → ⊥
not_failed e s h is failed = subst IsUnread (read_failed e (sym is ∙ failed)) h

not_missed : (e : Fault) (s : Status) (P : List ℕ → Type 0) → IsUnread e → s ≡ status_of e → IfMissing s P
not_missed (fault.Missing name) s P h is = absurd h
not_missed (fault.Refused r) s P h is = subst (λ x. IfMissing x P) (sym is) tt
not_missed fault.ReadFault s P h is = subst (λ x. IfMissing x P) (sym is) tt
not_missed (fault.Limit l) s P h is = subst (λ x. IfMissing x P) (sym is) tt
not_missed (fault.TooLarge room n) s P h is = subst (λ x. IfMissing x P) (sym is) tt
not_missed fault.NoMemory s P h is = subst (λ x. IfMissing x P) (sym is) tt

-- the files were read before
pub refused_outside : (A B : Type 0) (x : A) (mode : Mode) (app : List ℕ) (a : Application) (s : Stop) (old new : FilesSeen)
    → Reads (Ok x) old new → IfSays s (SaysOfProgram mode app a) → Reads {A = B} (Err s) old new
refused_outside A B x mode app a s old new c says = record {
  same = c.same;
  faults_kept = c.faults_kept;
  misses_kept = c.misses_kept;
  read_fault = if_says {P = SaysOfProgram mode app a} {Q = λ answer. answer.status ≡ status.ReadFault → Rose old.faults new.faults} s
      (λ answer h is. absurd (not_failed h.cause answer.status (unread (program_of a.program) mode h.cause h.refused) h.says.is_status is)) says;
  missing = if_says {P = SaysOfProgram mode app a} {Q = λ answer. IfMissing answer.status (λ name. Rose (old.misses name) (new.misses name))} s
      (λ answer h. not_missed h.cause answer.status _ (unread (program_of a.program) mode h.cause h.refused) h.says.is_status) says;
}

-- an error that is passed on
pub passed_outside : {A : Type 0} (r : Result A Stop) (e : Stop) (old new : FilesSeen) → IsErrAnd r (λ x. x ≡ e) → Reads {A = A} (Err e) old new → Reads r old new
passed_outside {A} (Err x) e old new is h = subst (λ (s : Stop). Reads {A = A} (Err s) old new) (sym is) h
passed_outside (Ok x) e old new is h = absurd is

-- an answer about the program of an application is one about its files
pub of_source : (told : Option Told) (m : Mode) (app : List ℕ) (a : Application) (answer : Answer)
    → ((files : Told) → told ≡ Some files → IsProgram files app (program_of a.program) a.reading) → SaysOfProgram m app a answer → SaysOfSource told m app answer
of_source told m app a answer has h = record {
  cause = h.cause;
  known = a.reading;
  program = Some (program_of a.program);
  says = h.says;
  source = λ files is. (has files is, h.refused);
}

-- an answer to why the files have no program
pub says_of_files : (told : Option Told) (app : List ℕ) (e : Fault) (known : Option Known) (s : Stop)
    → ((files : Told) → told ≡ Some files → IsRefusal e → IsStopped files app e known)
    → IfSays s (SaysFault app known None e) → IfSays s (λ a. (m : Mode) → SaysOfSource told m app a)
says_of_files told app e known s source says =
    if_says {P = SaysFault app known None e} {Q = λ a. (m : Mode) → SaysOfSource told m app a} s
    (λ a h m. record { cause = e; known = known; program = None; says = h; source = λ files is. source files is (λ none. h.found (subst IsNoMemory (sym none) tt)) }) says
