-- The answer of the top call, by what was prepared and what the sink took.
use Rattle.std.proofs.Common.{◌≡◌, inl, inr, ⊎_elim, ℕ, List, [], Some, None, refl, sym, ap, subst}
use Rattle.nm_base.specs.Outside.{AppendsPart, FilesSeen, Rose, SinkSeen, appended}
use Rattle.nesc_preproc.specs.Expands.{Told}
use Rattle.nesc_programs.specs.OneApplication.{OneApplication}
use Rattle.mote_devices.specs.declared.state.BoardState.{BoardState}
use Rattle.nm_driver.specs.declared.answer.Stop.{Stop}
use Rattle.nm_driver.specs.declared.answer.Stop.TheVariants as stop
use Rattle.nm_driver.specs.declared.status.Status.{Status}
use Rattle.nm_driver.specs.declared.status.Status.TheVariants.{Done, Refused, Usage, Missing, ReadFault, WriteFault, BadSchedule, Limit, TooLarge, NoMemory, BadImage}
use Rattle.nm_driver.specs.Output.{HasText, IfMissing, IsAnswer, IsDone, IsDue, IsOutput, IsReady, IsTextOf, Wrote}
use Rattle.nm_driver.specs.Prepared.{Ends, IfSays, IsRunStatus, Performs, TakesAnswer, line_of}
use Rattle.nm_words.specs.Asked.{Asked, AreInUse, help, request, version}
use Rattle.nm_driver.specs.Lines.{plain_line}
use Rattle.nm_driver.proofs.Causes.{done_or_fault, has_subject}

module _ (words : List (List ℕ)) (board : BoardState) (files files' : FilesSeen) (out out' : SinkSeen) (same : files'.texts ≡ files.texts) where
  -- ---- a run

  ready_of : (told : Told) → files.texts ≡ Some told → (asked : Asked) (text : List ℕ) → IsTextOf files.texts asked board text → IsReady told asked
  ready_of told h (request r) text t = record {
    subject = has_subject files.texts told h r.mode r.subject board t.rows r.budget text t.prints;
    rows = t.rows;
    schedule = t.schedule told h;
  }
  ready_of told h help text t = tt
  ready_of told h version text t = tt

  done_of : (text : List ℕ) → IsOutput files.texts words board text → (told : Told) → files.texts ≡ Some told → IsDone told words
  done_of text o told h = record { asked = o.asked; words_are = o.words_are; ready = ready_of told h o.asked text o.is_text }

  run_due : (text : List ℕ) → IsOutput files.texts words board text → IsDue files.texts words board Done text
  run_due text o = record {
    is_text = o;
    cause = done_of text o;
    usage = λ e. absurd (let k : Done ≡ Usage = e in cc);
    not_usage = λ none. absurd (none (o.asked, o.words_are));
  }

  -- there was no memory
  pub unanswered : (s : Status) → s ≡ NoMemory → out' ≡ out → IsAnswer words board s files files' out out'
  unanswered s is kept = subst (λ x. IsAnswer words board x files files' out out') (sym is) (record {
    same = same;
    read_fault = λ e. absurd (let k : NoMemory ≡ ReadFault = e in cc);
    write_fault = λ e. absurd (let k : NoMemory ≡ WriteFault = e in cc);
    missing = tt;
    usage = λ e. absurd (let k : NoMemory ≡ Usage = e in cc);
    not_usage = λ none. tt;
    cause = λ told e. tt;
    complete = λ told e good. inr (inl refl);
    output = ap (λ (x : SinkSeen). x.taken) kept;
  })

  -- the sink failed in the text of an answer that was due
  cut_off : (due : Status) (text : List ℕ) → IsDue files.texts words board due text → (s : Status) → s ≡ WriteFault → AppendsPart out.taken out'.taken text → Rose out.faults out'.faults → IsAnswer words board s files files' out out'
  cut_off due text is_due s is part rose = subst (λ x. IsAnswer words board x files files' out out') (sym is) (record {
    same = same;
    read_fault = λ e. absurd (let k : WriteFault ≡ ReadFault = e in cc);
    write_fault = λ e. rose;
    missing = tt;
    usage = λ e. absurd (let k : WriteFault ≡ Usage = e in cc);
    not_usage = λ none. tt;
    cause = λ told e. tt;
    complete = λ told e good. inr (inr (inr rose));
    output = (due, text, is_due, part);
  })

  pub ran : (text : List ℕ) → IsOutput files.texts words board text → (s : Status) → IsRunStatus s → Performs s out out' text → IsAnswer words board s files files' out out'
  ran text o Done kind h = record {
    same = same;
    read_fault = λ e. absurd (let k : Done ≡ ReadFault = e in cc);
    write_fault = λ e. absurd (let k : Done ≡ WriteFault = e in cc);
    missing = tt;
    usage = λ e. absurd (let k : Done ≡ Usage = e in cc);
    not_usage = λ none. absurd (none (o.asked, o.words_are));
    cause = done_of text o;
    complete = λ told e good. inl refl;
    output = (text, o, h);
  }
  ran text o (Refused r) kind h = absurd kind
  ran text o Usage kind h = absurd kind
  ran text o (Missing name) kind h = absurd kind
  ran text o ReadFault kind h = absurd kind
  ran text o WriteFault kind h = cut_off Done text (run_due text o) WriteFault refl h.0 h.1
  ran text o (BadSchedule n) kind h = absurd kind
  ran text o (Limit l) kind h = absurd kind
  ran text o (TooLarge room n) kind h = absurd kind
  ran text o NoMemory kind h = unanswered NoMemory refl h
  ran text o (BadImage n) kind h = absurd kind

  -- ---- an answer

  -- the whole text was taken
  whole : (s : Status) (text : List ℕ) → HasText files.texts words board s text → out'.taken ≡ appended out.taken text → Wrote files.texts words board s out.taken out'.taken
  whole Done text h e = (text, h, e)
  whole (Refused r) text h e = (text, h, e)
  whole Usage text h e = (text, h, e)
  whole (Missing name) text h e = (text, h, e)
  whole ReadFault text h e = (text, h, e)
  whole WriteFault text h e = absurd h
  whole (BadSchedule n) text h e = (text, h, e)
  whole (Limit l) text h e = (text, h, e)
  whole (TooLarge room n) text h e = (text, h, e)
  whole NoMemory text h e = absurd h
  whole (BadImage n) text h e = (text, h, e)

  -- its line was taken
  answered : OneApplication → (s : Status) (text : List ℕ) → IsDue files.texts words board s text → (s ≡ ReadFault → Rose files.faults files'.faults)
      → IfMissing s (λ name. Rose (files.misses name) (files'.misses name)) → (r : Status) → r ≡ s → out'.taken ≡ appended out.taken text → IsAnswer words board r files files' out out'
  answered one s text due failed missed r is taken = subst (λ x. IsAnswer words board x files files' out out') (sym is) (record {
    same = same;
    read_fault = failed;
    write_fault = λ e. absurd (subst (λ x. HasText files.texts words board x text) e due.is_text);
    missing = missed;
    usage = due.usage;
    not_usage = due.not_usage;
    cause = due.cause;
    complete = λ told e good. ⊎_elim inl (λ d. inr (inr (inl (failed d)))) (done_or_fault one told words good s files.texts board text due.is_text (due.cause told e));
    output = whole s text due.is_text taken;
  })

  pub ended : OneApplication → (stop : Stop) (r : Status)
      → IfSays stop (λ a. (b : BoardState) → IsDue files.texts words b a.status (line_of a))
      → IfSays stop (λ a. a.status ≡ ReadFault → Rose files.faults files'.faults)
      → IfSays stop (λ a. IfMissing a.status (λ name. Rose (files.misses name) (files'.misses name)))
      → Ends stop r out out' → IsAnswer words board r files files' out out'
  ended one stop.NoMemory r due failed missed ends = unanswered r ends.0 ends.1
  ended one (stop.Says a) r due failed missed ends =
      ⊎_elim
      (λ h. answered one a.status (line_of a) (due board) failed missed r h.0 h.1)
      (λ k. ⊎_elim (λ h. cut_off a.status (line_of a) (due board) r h.0 h.1 h.2) (λ h. unanswered r h.0 h.1) k)
      ends

  -- the words are not in use
  pub not_in_use : (AreInUse words → ⊥) → (stopped : Stop) → stopped ≡ stop.Says (record { status = Usage; place = None }) → (r : Status) → Ends stopped r out out' → IsAnswer words board r files files' out out'
  not_in_use none stopped is r ends =
      let line : List ℕ = plain_line Usage in
      let due : IsDue files.texts words board Usage line = record { is_text = refl; cause = λ told e. none; usage = λ e. none; not_usage = λ n. tt } in
      let said : TakesAnswer Usage r out out' line = subst (λ x. Ends x r out out') is ends in
      ⊎_elim
      (λ h. subst (λ x. IsAnswer words board x files files' out out') (sym h.0) (record {
        same = same;
        read_fault = λ e. absurd (let k : Usage ≡ ReadFault = e in cc);
        write_fault = λ e. absurd (let k : Usage ≡ WriteFault = e in cc);
        missing = tt;
        usage = λ e. none;
        not_usage = λ n. tt;
        cause = λ told e. none;
        complete = λ told e good. absurd (none (good.asked, good.words_are));
        output = (line, refl, h.1);
      }))
      (λ k. ⊎_elim (λ h. cut_off Usage line due r h.0 h.1 h.2) (λ h. unanswered r h.0 h.1) k)
      said
