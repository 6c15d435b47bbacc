use Rattle.std.proofs.Common.{◌≡◌, ◌∙◌, true, false, inl, inr, arith, sym, subst, ap, Some, is_some, rules}
use Rattle.std.specs.Prelude.{codes}
use Rattle.std.specs.Str.Parse.{ParsesUnsigned, ExplainsUnsignedError, HasUnsignedDigitsIfOk}
use Rattle.clap.specs.Words.{first_of, first_value, found_of, without_minus, rows_of}
use Rattle.nm_words.specs.Modes.{IsSubject, mode_word, takes_schedule}
use Rattle.nm_words.proofs.Getters.{text_in, agree, budget_read, differ, found, found_none, found_some, has_text, lacks, mode_is}
use Rattle.nm_words.proofs.OneAnswer.{some_same}
use Rattle.nm_words.proofs.Answered.{subject_at}
use Rattle.nm_words.proofs.Subjects.{only_modules}
use Rattle.std.proofs.Common.{None, refl}
use Rattle.clap.proofs.CallerReads.{signed_reads}
use Rattle.nm_words.proofs.command.request_of.Goals as goal

pub returns-in_err-get_str : goal.returns-in_err-get_str
returns-in_err-get_str c =
    let none = found_none (found_of c.args.matches.now) (codes "MODE") c.get_str.result c.get_str.ensures c.in_err-get_str.was in
    rw c.from_residual.ensures (record {
      asked = λ r is. lacks _ _ none is.mode;
      range = λ h. tt;
      refused = λ e h. inl (λ m named. lacks _ _ none named);
    })

pub returns-in_err-mode : goal.returns-in_err-mode
returns-in_err-mode c =
    let word = found_some (found_of c.args.matches.now) (codes "MODE") c.get_str.result _ c.get_str.ensures c.in_ok-get_str.was in
    let other = rw c.in_err-mode.was at c.of_word.ensures in
    rw c.from_residual-in_err-mode.ensures (record {
      asked = λ r is. other r.mode (some_same _ _ (sym word ∙ is.mode));
      range = λ h. tt;
      refused = λ e h. inl (λ m named. other m (some_same _ _ (sym word ∙ named)));
    })

pub returns-in_err-subject : goal.returns-in_err-subject
returns-in_err-subject c =
    let none = found_none (found_of c.args.matches.now) (codes "APP") c.get_str-2.result c.get_str-2.ensures c.in_err-subject.was in
    let given : first_value (found_of c.args.matches.now) (codes "APP") ≡ None = sym c.get_str-2.ensures ∙ ap text_in c.in_err-subject.was in
    rw c.from_residual-in_err-subject.ensures (record {
      asked = λ r is. lacks _ _ none is.subject;
      range = λ h. tt;
      refused = λ e h. absurd (let bad : false ≡ true = rw given at h.0 in cc);
    })

pub returns-then-is_some-takes_schedule : goal.returns-then-is_some-takes_schedule
returns-then-is_some-takes_schedule c =
    let rows = rows_of (found_of c.args.matches.now) in
    let word = found_some (found_of c.args.matches.now) (codes "MODE") c.get_str.result _ c.get_str.ensures c.in_ok-get_str.was in
    let names = rw c.in_ok-mode.was at c.of_word.ensures in
    let schedule = found (found_of c.args.matches.now) (codes "SCHEDULE") c.get_str-schedule.result c.get_str-schedule.ensures in
    let is_some_is : c.is_some.result ≡ is_some c.get_str-schedule.result = search rules in
    let takes_is : c.takes_schedule.result ≡ takes_schedule c.in_ok-mode.mode = search rules in
    let has : is_some c.get_str-schedule.result ≡ is_some (first_of (codes "SCHEDULE") rows) = sym (has_text c.get_str-schedule.result) ∙ ap is_some (sym schedule) in
    let wrong : is_some (first_of (codes "SCHEDULE") rows) ≡ takes_schedule c.in_ok-mode.mode → ⊥ =
    λ fits. differ _ _ c.if-is_some-takes_schedule.true (is_some_is ∙ (has ∙ (fits ∙ sym takes_is))) in
    record {
      asked = λ r is. wrong (ap is_some is.schedule ∙ (is.fits ∙ ap takes_schedule (mode_is rows r _ c.in_ok-mode.mode is word names)));
      range = λ h. tt;
      refused = λ e h. inr (inl (c.in_ok-mode.mode, word ∙ ap (λ w. Some w) names, wrong));
    }

pub returns-then-not-takes_subject : goal.returns-then-not-takes_subject
returns-then-not-takes_subject c =
    let rows = rows_of (found_of c.args.matches.now) in
    let word = found_some (found_of c.args.matches.now) (codes "MODE") c.get_str.result _ c.get_str.ensures c.in_ok-get_str.was in
    let names = rw c.in_ok-mode.was at c.of_word.ensures in
    let named : first_of (codes "MODE") rows ≡ Some (mode_word c.in_ok-mode.mode) = word ∙ ap (λ w. Some w) names in
    let subject = found_some (found_of c.args.matches.now) (codes "APP") c.get_str-2.result _ c.get_str-2.ensures c.in_ok-subject.was in
    let other = c.takes_subject.ensures.refused c.if-not-takes_subject.true in
    let mode = only_modules c.in_ok-mode.mode _ other in
    record {
      asked = λ r is. other (subject_at rows r c.in_ok-mode.mode _ is named subject);
      range = λ h. tt;
      refused = λ e h. inr (inr (_, named ∙ ap (λ m. Some (mode_word m)) mode, subject, subst (λ m. IsSubject m c.in_ok-subject.subject.now → ⊥) mode other));
    }

pub returns-in_err-budget : goal.returns-in_err-budget
returns-in_err-budget c =
    let same = budget_read _ (λ bs r. ParsesUnsigned 32 10 bs r × ExplainsUnsignedError 10 bs r × HasUnsignedDigitsIfOk bs r)
    (found_of c.args.matches.now) (codes "budget") c.get_one.result c.get_one.ensures.none c.get_one.ensures.value (λ t x g. g.0) in
    rw c.from_residual-in_err-budget.ensures (record {
      asked = λ r is. lacks _ _ (same ∙ c.in_err-budget.was) is.budget;
      range = λ h. tt;
      refused = λ e h.
          let got = signed_reads _ (λ bs r. ParsesUnsigned 32 10 bs r × ExplainsUnsignedError 10 bs r × HasUnsignedDigitsIfOk bs r) 32 0 1000000 h.1.0 c.get_one.result
          (c.get_one.ensures.value (without_minus h.1.0) h.1.1) (λ t x g. g.0) (omega arith) h.1.2 in
          absurd (lacks _ _ c.in_err-budget.was got.1);
    })

pub returns : goal.returns
returns c =
    let word = found_some (found_of c.args.matches.now) (codes "MODE") c.get_str.result _ c.get_str.ensures c.in_ok-get_str.was in
    let names = rw c.in_ok-mode.was at c.of_word.ensures in
    let is_some_is : c.is_some.result ≡ is_some c.get_str-schedule.result = search rules in
    let takes_is : c.takes_schedule.result ≡ takes_schedule c.in_ok-mode.mode = search rules in
    let same = agree _ _ c.if-is_some-takes_schedule.false in
    let read = budget_read _ (λ bs r. ParsesUnsigned 32 10 bs r × ExplainsUnsignedError 10 bs r × HasUnsignedDigitsIfOk bs r)
    (found_of c.args.matches.now) (codes "budget") c.get_one.result c.get_one.ensures.none c.get_one.ensures.value (λ t x g. g.0) in
    record {
      asked = record {
        mode = word ∙ ap (λ w. Some w) names;
        subject = found_some (found_of c.args.matches.now) (codes "APP") c.get_str-2.result _ c.get_str-2.ensures c.in_ok-subject.was;
        is_subject = c.takes_subject.ensures.taken c.if-not-takes_subject.false;
        schedule = found (found_of c.args.matches.now) (codes "SCHEDULE") c.get_str-schedule.result c.get_str-schedule.ensures;
        fits = has_text c.get_str-schedule.result ∙ (sym is_some_is ∙ (same ∙ takes_is));
        budget = read ∙ c.in_ok-budget.was;
      };
      range = λ h.
          let got = signed_reads _ (λ bs r. ParsesUnsigned 32 10 bs r × ExplainsUnsignedError 10 bs r × HasUnsignedDigitsIfOk bs r) 32 0 1000000 h.1.0 c.get_one.result
          (c.get_one.ensures.value (without_minus h.1.0) h.1.1) (λ t x g. g.0) (omega arith) h.1.2 in
          rw (some_same _ _ (sym c.in_ok-budget.was ∙ got.1)) got.3;
      refused = λ e h. absurd (lacks _ _ e refl);
    }
