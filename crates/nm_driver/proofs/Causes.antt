-- Answers that are due, and what good words and files leave of them.
use Rattle.std.proofs.Common.{◌≡◌, ◌<◌, ◌≤◌, ◌⊎◌, inl, inr, ⊎_elim, ℕ, List, [], ◌∷◌, length, Option, Some, None, arith, refl, sym, ap, subst, ◌∙◌}
use Rattle.std.specs.declared.result.Result.{Result}
use Rattle.std.specs.declared.result.Result.TheVariants.{Ok, Err}
use Rattle.std.specs.Result.{IsErrAnd}
use Rattle.std.specs.Prelude.{IfErr}
use Rattle.std.proofs.lemmas.Fmt.{decimal_injective}
use Rattle.nm_base.specs.declared.fault.Fault.{Fault}
use Rattle.nm_base.specs.declared.fault.Fault.TheVariants as fault
use Rattle.nm_base.specs.declared.limit.Limit.{Limit as LimitOf}
use Rattle.nm_base.specs.declared.limit.Room.{Room}
use Rattle.nm_base.specs.declared.limit.Room.TheVariants.{Code, Ram}
use Rattle.nm_base.specs.declared.refusal.Refusal.{Refusal}
use Rattle.nm_base.specs.declared.refusal.Refusal.TheVariants as refusal
use Rattle.nesc_preproc.specs.Sources.{Known}
use Rattle.nesc_preproc.specs.Expands.{Told}
use Rattle.nesc_core.specs.Plain.{Program}
use Rattle.nesc_core.specs.Calls.{HasNoCycle}
use Rattle.call_graph.specs.Paths.{Leads, callees}
use Rattle.call_graph.specs.Refusals.{HasNoSyncPath, IsCycle, IsDue as IsCallFault, IsWhy as IsCallRefusal}
use Rattle.call_graph.proofs.Chains.{falls}
use Rattle.race_checker.specs.Computed.{report_of}
use Rattle.race_report.specs.Limit.{IsWhy, most}
use Rattle.wire_reading.specs.Told.{IsOfFiles}
use Rattle.nesc_programs.specs.OneApplication.{OneApplication}
use Rattle.mote_devices.specs.declared.state.BoardState.{BoardState}
use Rattle.mote_devices.specs.declared.shown.Due.{Due}
use Rattle.mote_text.specs.ImageLines.{image_of}
use Rattle.mote_text.specs.ScheduleText.{schedule_of}
use Rattle.nm_driver.specs.declared.answer.Answer.{Answer}
use Rattle.nm_driver.specs.declared.answer.Stop.{Stop}
use Rattle.nm_driver.specs.declared.answer.Stop.TheVariants as stop
use Rattle.nm_words.specs.declared.mode.Mode.{Mode}
use Rattle.nm_words.specs.declared.mode.Mode.TheVariants.{Check, Build, Run, Mote, Gen}
use Rattle.nm_driver.specs.declared.status.Status.{Status}
use Rattle.nm_driver.specs.declared.status.Status.TheVariants.{Done, Refused, Usage, Missing, ReadFault, WriteFault, BadSchedule, Limit, TooLarge, NoMemory, BadImage}
use Rattle.nm_driver.specs.Lines.{answer_line, plain_line}
use Rattle.program_builder.specs.Built.{IsCause}
use Rattle.nm_driver.specs.Applications.{CanBeBuilt, HasApplication, HasSmallWeights, IsAccepted, IsRefused, IsRefusedIn, IsUnbuilt, IsWithinWeights}
use Rattle.nm_driver.specs.Generated.{IsModules, IsSourceOf, generated_app, told_of}
use Rattle.nm_driver.specs.NamedFiles.{FileStops, HasImage, HasRows, HasSchedule, HasSubject, ImageStops, IsRead, IsTooLarge, RowsStop, ScheduleStops, SourceStops, SubjectStops, status_of}
use Rattle.nm_driver.specs.Output.{HasCause, HasText, IsDone, IsDue, IsReady, Prints, Stops}
use Rattle.nm_driver.specs.Prepared.{IfSays, IsLined, IsNoMemory, SaysOf, SaysOfSource, SaysOfSubject, fault_detail, fault_file, line_of}
use Rattle.nm_words.specs.Asked.{Asked, AreWords, Requested, help, request, version}
use Rattle.nm_words.proofs.OneAnswer.{one_request}

-- ---- facts of an answer, where there is one

pub if_says : {P Q : Answer → Type 0} (s : Stop) → ((a : Answer) → P a → Q a) → IfSays s P → IfSays s Q
if_says (stop.Says a) f h = f a h
if_says stop.NoMemory f h = tt

pub if_says_three : {P Q R S : Answer → Type 0} (s : Stop) → ((a : Answer) → P a → Q a → R a → S a) → IfSays s P → IfSays s Q → IfSays s R → IfSays s S
if_says_three (stop.Says a) f h k l = f a h k l
if_says_three stop.NoMemory f h k l = tt

-- an error that is passed on
pub passed : {A : Type 0} (P : Stop → Type 0) (r : Result A Stop) (e : Stop) → IsErrAnd r (λ x. x ≡ e) → P e → IfErr r P
passed P (Err x) e is h = subst P (sym is) h
passed P (Ok x) e is h = absurd is

-- ---- answers that are due

module _ (told : Option Told) (words : List (List ℕ)) (asked : Requested) (are : AreWords words (request asked)) (board : BoardState) where
  lined_due : (status : Status) (text : List ℕ) → IsLined status → text ≡ plain_line status → ((files : Told) → told ≡ Some files → Stops files words status) → IsDue told words board status text
  lined_due Done text lined line stops = absurd lined
  lined_due (Refused r) text lined line stops = absurd lined
  lined_due Usage text lined line stops = absurd lined
  lined_due (Missing name) text lined line stops = record { is_text = line; cause = stops; usage = λ e. absurd (let k : Missing name ≡ Usage = e in cc); not_usage = λ none. absurd (none (request asked, are)) }
  lined_due ReadFault text lined line stops = record { is_text = line; cause = λ files h. tt; usage = λ e. absurd (let k : ReadFault ≡ Usage = e in cc); not_usage = λ none. absurd (none (request asked, are)) }
  lined_due WriteFault text lined line stops = absurd lined
  lined_due (BadSchedule n) text lined line stops = record { is_text = line; cause = stops; usage = λ e. absurd (let k : BadSchedule n ≡ Usage = e in cc); not_usage = λ none. absurd (none (request asked, are)) }
  lined_due (Limit l) text lined line stops = record { is_text = line; cause = stops; usage = λ e. absurd (let k : Limit l ≡ Usage = e in cc); not_usage = λ none. absurd (none (request asked, are)) }
  lined_due (TooLarge room n) text lined line stops = absurd lined
  lined_due NoMemory text lined line stops = absurd lined
  lined_due (BadImage n) text lined line stops = record { is_text = line; cause = stops; usage = λ e. absurd (let k : BadImage n ≡ Usage = e in cc); not_usage = λ none. absurd (none (request asked, are)) }

  fault_due : (e : Fault) (known : Option Known) (program : Option Program) (text : List ℕ) (texts : Option Told) (app : List ℕ) → IsSourceOf told asked.mode asked.subject texts app → (IsNoMemory e → ⊥)
      → text ≡ answer_line (fault_file known app e) (fault_detail program e) (status_of e)
      → ((files : Told) → texts ≡ Some files → IsRefused files asked.mode app e known program) → ((files : Told) → told ≡ Some files → Stops files words (status_of e)) → IsDue told words board (status_of e) text
  fault_due (fault.Refused r) known program text texts app runs found line source stops = record {
    is_text = record { asked = asked; words_are = are; texts = texts; app = app; of_source = runs; known = known; program = program; line = line; source = source };
    cause = stops;
    usage = λ e. absurd (let k : Refused r ≡ Usage = e in cc);
    not_usage = λ none. absurd (none (request asked, are));
  }
  fault_due (fault.Missing name) known program text texts app runs found line source stops = lined_due (Missing name) text tt line stops
  fault_due fault.ReadFault known program text texts app runs found line source stops = lined_due ReadFault text tt line stops
  fault_due (fault.Limit l) known program text texts app runs found line source stops = lined_due (Limit l) text tt line stops
  fault_due (fault.TooLarge room n) known program text texts app runs found line source stops = record {
    is_text = line;
    cause = stops;
    usage = λ e. absurd (let k : TooLarge room n ≡ Usage = e in cc);
    not_usage = λ none. absurd (none (request asked, are));
  }
  fault_due fault.NoMemory known program text texts app runs found line source stops = absurd (found tt)

  stops_at : (files : Told) (status : Status) → SubjectStops files asked.mode asked.subject status → Stops files words status
  stops_at files status h = record { asked = asked; words_are = are; cause = inl h }

  -- an answer about the files of an application
  source_due : (m : Mode) → asked.mode ≡ m → (texts : Option Told) (app : List ℕ) → IsSourceOf told m asked.subject texts app
      → ((files : Told) → told ≡ Some files → (from : Told) × (texts ≡ Some from) × ((status : Status) → SourceStops from m app status → SubjectStops files m asked.subject status))
      → (answer : Answer) → SaysOfSource texts m app answer → IsDue told words board answer.status (line_of answer)
  source_due m is texts app of_source given answer says =
      let status = status_of says.cause in
      subst (λ s. IsDue told words board s (line_of answer)) (sym says.says.is_status)
      (fault_due says.cause says.known says.program (line_of answer) texts app (subst (λ x. IsSourceOf told x asked.subject texts app) (sym is) of_source) says.says.found says.says.is_line
      (λ files h. subst (λ x. IsRefused files x app says.cause says.known says.program) (sym is) (says.source files h))
      (λ files h.
      let g = given files h in
      stops_at files status (subst (λ x. SubjectStops files x asked.subject status) (sym is)
      (g.2 status (record { fault = says.cause; known = says.known; program = says.program; refused = says.source g.0 g.1; answer = refl })))))

  -- an answer about what is asked for
  pub subject_due : (mode : Mode) → asked.mode ≡ mode → (answer : Answer) → SaysOfSubject told mode asked.subject answer → IsDue told words board answer.status (line_of answer)
  subject_due Check is answer says = source_due Check is told asked.subject (refl, refl) (λ files h. (files, h, λ status s. s)) answer says
  subject_due Build is answer says = source_due Build is told asked.subject (refl, refl) (λ files h. (files, h, λ status s. s)) answer says
  subject_due Run is answer says = source_due Run is told asked.subject (refl, refl) (λ files h. (files, h, λ status s. s)) answer says
  subject_due Gen is answer says =
      let n = says.0 in
      source_due Gen is (Some (told_of n)) generated_app (n, says.1, refl, refl) (λ files h. (told_of n, refl, λ status s. (n, says.1, s))) answer says.2
  subject_due Mote runs answer says =
      lined_due answer.status (line_of answer) says.lined says.line
      (λ files h. stops_at files answer.status (subst (λ m. SubjectStops files m asked.subject answer.status) (sym runs) (says.cause files h)))

  -- an answer about the schedule of a good subject
  pub schedule_due : ((files : Told) → told ≡ Some files → HasSubject files asked.mode asked.subject) → (answer : Answer) → SaysOf told (λ files. ScheduleStops files asked.schedule) answer → IsDue told words board answer.status (line_of answer)
  schedule_due good answer says =
      lined_due answer.status (line_of answer) says.lined says.line
      (λ files h. record { asked = asked; words_are = are; cause = inr (good files h, says.cause files h) })

-- what prints has its subject
pub has_subject : (told : Option Told) (files : Told) → told ≡ Some files → (mode : Mode) (name : List ℕ) (board : BoardState) (rows : List Due) (n : ℕ) (text : List ℕ) → Prints told mode name board rows n text → HasSubject files mode name
has_subject told files h Check name board rows n text prints =
    let a = prints.0 in record { program = a.program; has = a.has files h; accepted = a.accepted; taken = λ builds. absurd builds }
has_subject told files h Build name board rows n text prints =
    let a = prints.0 in record { program = a.program; has = a.has files h; accepted = a.accepted; taken = λ builds. inl prints.1.builds }
has_subject told files h Run name board rows n text prints =
    let a = prints.0 in record { program = a.program; has = a.has files h; accepted = a.accepted; taken = λ builds. inl prints.1.builds }
has_subject told files h Mote name board rows n text prints = (prints.0, prints.2 files h)
has_subject told files h Gen name board rows budget text prints =
    let n = prints.0 in let a = prints.2 in
    (n, prints.1, record { program = a.program; has = a.has (told_of n) refl; accepted = a.accepted; taken = λ builds. inl prints.3.builds })

-- ---- where all is good

none_some : {A : Type 0} (x : A) (o : Option A) → o ≡ None → o ≡ Some x → ⊥
none_some x o e f = let h = sym e ∙ f in cc

same_some : {A : Type 0} (x y : A) (o : Option A) → o ≡ Some x → o ≡ Some y → x ≡ y
same_some x y o e f = let h = sym e ∙ f in cc

err_ok : {A E : Type 0} (e : E) (x : A) → (let r : Result A E = Err e in r ≡ Ok x) → ⊥
err_ok e x h = cc

ok_of : {A E : Type 0} (x y : A) → (let r : Result A E = Ok x in r ≡ Ok y) → x ≡ y
ok_of x y h = cc

module _ (told : Told) (name text : List ℕ) (read : IsRead told name text) where
  not_large : (l : LimitOf) → IsTooLarge told name l → ⊥
  not_large l h =
      let same = ap length (same_some h.text text (told name) h.there read.there) in
      let small : length text ≤ 262144 = read.small in
      let large : 262144 < length h.text = h.large in
      omega arith

  same_text : (other : List ℕ) → IsRead told name other → text ≡ other
  same_text other h = same_some text other (told name) read.there h.there

-- a file that is read does not stop the call
not_file : (told : Told) (name text : List ℕ) (s : Status) → IsRead told name text → FileStops told name s → s ≡ ReadFault
not_file told name text Done read h = absurd h
not_file told name text (Refused r) read h = absurd h
not_file told name text Usage read h = absurd h
not_file told name text (Missing n) read h = absurd (none_some text (told name) h.1 read.there)
not_file told name text ReadFault read h = refl
not_file told name text WriteFault read h = absurd h
not_file told name text (BadSchedule n) read h = absurd h
not_file told name text (Limit l) read h = absurd (not_large told name text read l h)
not_file told name text (TooLarge room n) read h = absurd h
not_file told name text NoMemory read h = absurd h
not_file told name text (BadImage n) read h = absurd h

not_image : (told : Told) (name : List ℕ) (image : ℕ → ℕ) (s : Status) → HasImage told name image → ImageStops told name s → s ≡ ReadFault
not_image told name image Done has h = absurd h
not_image told name image (Refused r) has h = absurd h
not_image told name image Usage has h = absurd h
not_image told name image (Missing n) has h = not_file told name has.text (Missing n) has.read h
not_image told name image ReadFault has h = refl
not_image told name image WriteFault has h = absurd h
not_image told name image (BadSchedule n) has h = absurd h
not_image told name image (Limit l) has h = not_file told name has.text (Limit l) has.read h
not_image told name image (TooLarge room n) has h = absurd h
not_image told name image NoMemory has h = absurd h
not_image told name image (BadImage n) has h =
    absurd (err_ok n image (sym h.first ∙ ap image_of (sym (same_text told name has.text has.read h.text h.read)) ∙ has.image_is))

not_rows : (told : Told) (name : List ℕ) (rows : List Due) (s : Status) → HasRows told name rows → RowsStop told name s → s ≡ ReadFault
not_rows told name rows Done has h = absurd h
not_rows told name rows (Refused r) has h = absurd h
not_rows told name rows Usage has h = absurd h
not_rows told name rows (Missing n) has h = not_file told name has.text (Missing n) has.read h
not_rows told name rows ReadFault has h = refl
not_rows told name rows WriteFault has h = absurd h
not_rows told name rows (BadSchedule n) has h =
    absurd (err_ok n rows (sym h.first ∙ ap schedule_of (sym (same_text told name has.text has.read h.text h.read)) ∙ has.rows_are))
not_rows told name rows (Limit l) has (inl h) = not_file told name has.text (Limit l) has.read h
not_rows told name rows (Limit l) has (inr h) =
    let same = ok_of h.rows rows (sym h.rows_are ∙ ap schedule_of (sym (same_text told name has.text has.read h.text h.read)) ∙ has.rows_are) in
    let few : length rows ≤ 100000 = has.few in
    let many : 100000 < length h.rows = h.many in
    let e = ap length same in
    absurd (omega arith)
not_rows told name rows (TooLarge room n) has h = absurd h
not_rows told name rows NoMemory has h = absurd h
not_rows told name rows (BadImage n) has h = absurd h

not_schedule : (told : Told) (name : Option (List ℕ)) (rows : List Due) (s : Status) → HasSchedule told name rows → ScheduleStops told name s → s ≡ ReadFault
not_schedule told None rows s has h = absurd h
not_schedule told (Some name) rows s has h = not_rows told name rows s has h

-- ---- an application that is taken

-- calls without a cycle, and no handler that reaches what is not `async`
module _ (p : Program) (ranked : HasNoCycle p) (good : HasNoSyncPath p) where
  leads_down : (f : ℕ) (rest : List ℕ) (g : ℕ) → Leads (callees p) f rest g → ranked.rank g ≤ ranked.rank f
  leads_down f [] g h = subst (λ k. ranked.rank k ≤ ranked.rank f) h (omega arith)
  leads_down f (x ∷ rest) g h = let a = falls p ranked f x h.0 in let b = leads_down x rest g h.1 in omega (arith, a, b)

  no_cycle : (path : List ℕ) → IsCycle p path → ⊥
  no_cycle [] h = h
  no_cycle (f ∷ []) h = h
  no_cycle (f ∷ x ∷ rest) h = let a = falls p ranked f x h.0 in let b = leads_down x rest f h.1 in omega (arith, a, b)

  no_refusal : (r : Refusal) → IsCallRefusal p r → ⊥
  no_refusal (refusal.Recursion at path) h = no_cycle path h.cycle.is_one
  no_refusal (refusal.NotAsync at path) h = good path h.chain.is_one
  no_refusal _ h = h

  not_by_calls : (e : Fault) → IsOfFiles e → IsCallFault p e → ⊥
  not_by_calls (fault.Refused r) answers h = no_refusal r h
  not_by_calls (fault.Missing name) answers h = h
  not_by_calls fault.ReadFault answers h = h
  not_by_calls (fault.Limit l) answers h = h
  not_by_calls (fault.TooLarge room n) answers h = h
  not_by_calls fault.NoMemory answers h = answers

not_by_rows : (p : Program) → length (report_of p) ≤ most → (e : Fault) → IsOfFiles e → IsWhy p e → ⊥
not_by_rows p few (fault.Refused r) answers h = h
not_by_rows p few (fault.Missing name) answers h = h
not_by_rows p few fault.ReadFault answers h = h
not_by_rows p few (fault.Limit l) answers h = let many = h.1 in omega (arith, few, many)
not_by_rows p few (fault.TooLarge room n) answers h = h
not_by_rows p few fault.NoMemory answers h = answers

-- weights that fit pass no room
small_weights : (p : Program) (small : HasSmallWeights p) (room : Room) (need : ℕ) → IsCause p (fault.TooLarge room need) → IsWithinWeights p (fault.TooLarge room need) → ⊥
small_weights p small Code need cause within =
    let above = cause.above in let tells = cause.tells in let fits = small.code in omega (arith, above, tells, fits, within)
small_weights p small Ram need cause within = let pass = (within small.stack small.is_stack).pass in let fits = small.memory in omega (arith, pass, fits)

module _ (p : Program) (can : CanBeBuilt p ⊎ HasSmallWeights p) where
  has_room : CanBeBuilt p ⊎ HasSmallWeights p → (room : Room) (need : ℕ) → IsCause p (fault.TooLarge room need) → IsWithinWeights p (fault.TooLarge room need) → ⊥
  has_room (inl built) room need cause within = built.has_room room need cause
  has_room (inr small) room need cause within = small_weights p small room need cause within

  has_no_cause : (e : Fault) → IsOfFiles e → IsCause p e → IsWithinWeights p e → ⊥
  has_no_cause (fault.Refused r) answers h w = h
  has_no_cause (fault.Missing name) answers h w = h
  has_no_cause fault.ReadFault answers h w = h
  has_no_cause (fault.Limit l) answers h w = h
  has_no_cause (fault.TooLarge room need) answers h w = has_room can room need h w
  has_no_cause fault.NoMemory answers h w = answers

  not_unbuilt : (e : Fault) → IsOfFiles e → IsUnbuilt p e → ⊥
  not_unbuilt e answers h = has_no_cause e answers h.0 h.1

module _ (one : OneApplication) (told : Told) (mode : Mode) (app : List ℕ) (has : HasApplication told mode app) where
  not_refused_in : (e : Fault) → IsOfFiles e → IsRefusedIn mode has.program e → ⊥
  not_refused_in e answers (inl due) = not_by_calls has.program has.accepted.no_cycle has.accepted.no_sync e answers due
  not_refused_in e answers (inr (inl h)) = not_by_rows has.program has.accepted.few e answers h.2
  not_refused_in e answers (inr (inr h)) = not_unbuilt has.program (has.taken h.0) e answers h.2

  not_refused : (e : Fault) (known : Option Known) (program : Option Program) → IsOfFiles e → IsRefused told mode app e known program → ⊥
  not_refused e known None answers h = one.no_fault told app has.program e known has.has h answers
  not_refused e known (Some q) answers h =
      let same = one.one told app q has.program (known, h.0) has.has in
      not_refused_in e answers (subst (λ x. IsRefusedIn mode x e) same h.1)

  not_by_fault : (e : Fault) (known : Option Known) (program : Option Program) → IsRefused told mode app e known program → (status_of e ≡ ReadFault) ⊎ (status_of e ≡ NoMemory)
  not_by_fault (fault.Refused r) known program h = absurd (not_refused (fault.Refused r) known program tt h)
  not_by_fault (fault.Missing n) known program h = absurd (not_refused (fault.Missing n) known program tt h)
  not_by_fault fault.ReadFault known program h = inl refl
  not_by_fault (fault.Limit l) known program h = absurd (not_refused (fault.Limit l) known program tt h)
  not_by_fault (fault.TooLarge room n) known program h = absurd (not_refused (fault.TooLarge room n) known program tt h)
  not_by_fault fault.NoMemory known program h = inr refl

  not_source : (s : Status) → SourceStops told mode app s → (s ≡ ReadFault) ⊎ (s ≡ NoMemory)
  not_source s h = subst (λ x. (x ≡ ReadFault) ⊎ (x ≡ NoMemory)) (sym h.answer) (not_by_fault h.fault h.known h.program h.refused)

-- a word is one number of modules
same_modules : (word : List ℕ) (m n : ℕ) → IsModules word m → IsModules word n → m ≡ n
same_modules word m n i j =
    let few : m ≤ 60 = i.at_most in
    let few' : n ≤ 60 = j.at_most in
    decimal_injective m n (omega arith) (omega arith) (sym i.spelled ∙ j.spelled)

module _ (one : OneApplication) (told : Told) where
  not_subject : (mode : Mode) (name : List ℕ) (s : Status) → HasSubject told mode name → SubjectStops told mode name s → (s ≡ ReadFault) ⊎ (s ≡ NoMemory)
  not_subject Check name s has h = not_source one told Check name has s h
  not_subject Build name s has h = not_source one told Build name has s h
  not_subject Run name s has h = not_source one told Run name has s h
  not_subject Mote name s has h = inl (not_image told name has.0 s has.1 h)
  not_subject Gen name s has h =
      let same = same_modules name h.0 has.0 h.1 has.1 in
      not_source one (told_of has.0) Gen generated_app has.2 s (subst (λ n. SourceStops (told_of n) Gen generated_app s) same h.2)

  -- good files stop no request
  unstopped : (words : List (List ℕ)) (s : Status) (m : Stops told words s) (asked : Asked) → request m.asked ≡ asked → IsReady told asked → (s ≡ ReadFault) ⊎ (s ≡ NoMemory)
  unstopped words s m (request r) e ready =
      let same : m.asked ≡ r = cc in
      ⊎_elim
      (λ h. not_subject r.mode r.subject s ready.subject (subst (λ (a : Requested). SubjectStops told a.mode a.subject s) same h))
      (λ h. inl (not_schedule told r.schedule ready.rows s ready.schedule (subst (λ (a : Requested). ScheduleStops told a.schedule s) same h.1)))
      m.cause
  unstopped words s m help e ready = absurd (let k : request m.asked ≡ help = e in cc)
  unstopped words s m version e ready = absurd (let k : request m.asked ≡ version = e in cc)

module _ (one : OneApplication) (told : Told) (words : List (List ℕ)) (good : IsDone told words) where
  only_read : (s : Status) → (s ≡ NoMemory → ⊥) → Stops told words s → (s ≡ Done) ⊎ (s ≡ ReadFault)
  only_read s other m =
      ⊎_elim inr (λ e. absurd (other e))
      (unstopped one told words s m good.asked (one_request words (request m.asked) good.asked m.words_are good.words_are) good.ready)

  -- what is due is a run, or a fault of reading
  pub done_or_fault : (status : Status) (o : Option Told) (board : BoardState) (text : List ℕ) → HasText o words board status text → HasCause told words status → (status ≡ Done) ⊎ (status ≡ ReadFault)
  done_or_fault Done o board text h cause = inl refl
  done_or_fault ReadFault o board text h cause = inr refl
  done_or_fault (Refused r) o board text h cause = only_read (Refused r) (λ e. let k : Refused r ≡ NoMemory = e in cc) cause
  done_or_fault Usage o board text h cause = absurd (cause (good.asked, good.words_are))
  done_or_fault (Missing name) o board text h cause = only_read (Missing name) (λ e. let k : Missing name ≡ NoMemory = e in cc) cause
  done_or_fault (BadSchedule n) o board text h cause = only_read (BadSchedule n) (λ e. let k : BadSchedule n ≡ NoMemory = e in cc) cause
  done_or_fault WriteFault o board text h cause = absurd h
  done_or_fault (Limit l) o board text h cause = only_read (Limit l) (λ e. let k : Limit l ≡ NoMemory = e in cc) cause
  done_or_fault (TooLarge room n) o board text h cause = only_read (TooLarge room n) (λ e. let k : TooLarge room n ≡ NoMemory = e in cc) cause
  done_or_fault NoMemory o board text h cause = absurd h
  done_or_fault (BadImage n) o board text h cause = only_read (BadImage n) (λ e. let k : BadImage n ≡ NoMemory = e in cc) cause
