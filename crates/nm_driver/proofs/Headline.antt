-- From the clauses of the top call to what a printed image promises.
use Rattle.std.proofs.Common.{◌≡◌, List, ℕ, Option, Some, refl, ap, subst, ◌∙◌}
use Rattle.nm_base.specs.Outside.{appended}
use Rattle.nesc_preproc.specs.Expands.{Told}
use Rattle.mote_devices.specs.declared.state.BoardState.{BoardState}
use Rattle.mote_text.specs.ImageLines.{ImageReadsBack}
use Rattle.nm_words.specs.declared.mode.Mode.TheVariants.{Run, Gen}
use Rattle.nm_words.specs.Asked.{Asked, Requested, help, request, version}
use Rattle.nm_driver.specs.Output.{IsRun, IsTextOf, Prints}
use Rattle.nm_driver.specs.Generated.{IsModules, told_of}
use Rattle.nm_driver.specs.Headline.{GeneratedImageRunsItsSource, PrintedImageRunsItsSource, RunsGenerated, RunsItsSource}
use Rattle.nm_words.proofs.OneAnswer.{one_request}

module _ (back : ImageReadsBack) (told : Option Told) (files : Told) (h : told ≡ Some files) (board : BoardState) (text : List ℕ) where
  runs : (r : Requested) → r.mode ≡ Run → IsRun told r board text → RunsItsSource files r board text
  runs r mode run =
      let prints = subst (λ m. Prints told m r.subject board run.rows r.budget text) mode run.prints in
      let a = prints.0 in
      let b = prints.1 in
      record {
        program = a.program;
        has = a.has files h;
        names = a.names;
        named = a.named files h;
        report = a.report;
        reports = a.reports;
        code = b.code;
        vectors = b.vectors;
        ram = b.ram;
        stack = b.stack;
        rows = run.rows;
        schedule = run.schedule files h;
        words = run.words;
        printed = prints.2;
        reads_back = back b.code b.vectors b.meets.image;
        allowed = b.meets.allowed;
        bounded = b.meets.bounded;
        fits = b.meets.fits;
      }

  pub runs_as : (r : Requested) → r.mode ≡ Run → (asked : Asked) → asked ≡ request r → IsTextOf told asked board text → RunsItsSource files r board text
  runs_as r mode (request q) e t =
      let same : q ≡ r = cc in
      runs r mode (subst (λ (x : Requested). IsRun told x board text) same t)
  runs_as r mode help e t = absurd (let k : help ≡ request r = e in cc)
  runs_as r mode version e t = absurd (let k : version ≡ request r = e in cc)

pub headline : ImageReadsBack → PrintedImageRunsItsSource
headline back words asked board seen seen' out out' files before are mode told taken answer =
    let wrote = answer.output in
    let text = wrote.0 in
    let o = wrote.1 in (
      text,
      wrote.2 ∙ ap (λ t. appended t text) taken,
      runs_as back seen.texts files told board text asked mode o.asked (one_request words o.asked (request asked) o.words_are are) o.is_text,
    )

-- ---- an application that is made

module _ (back : ImageReadsBack) (told : Option Told) (board : BoardState) (text : List ℕ) where
  counts : (r : Requested) → r.mode ≡ Gen → IsRun told r board text → (n : ℕ) × IsModules r.subject n × RunsGenerated n board text
  counts r mode run =
      let prints = subst (λ m. Prints told m r.subject board run.rows r.budget text) mode run.prints in
      let n = prints.0 in
      let a = prints.2 in
      let b = prints.3 in (
        n,
        prints.1,
        record {
          program = a.program;
          has = a.has (told_of n) refl;
          names = a.names;
          named = a.named (told_of n) refl;
          report = a.report;
          reports = a.reports;
          code = b.code;
          vectors = b.vectors;
          ram = b.ram;
          stack = b.stack;
          printed = prints.4;
          reads_back = back b.code b.vectors b.meets.image;
          allowed = b.meets.allowed;
          bounded = b.meets.bounded;
          fits = b.meets.fits;
        },
      )

  pub counts_as : (r : Requested) → r.mode ≡ Gen → (asked : Asked) → asked ≡ request r → IsTextOf told asked board text → (n : ℕ) × IsModules r.subject n × RunsGenerated n board text
  counts_as r mode (request q) e t =
      let same : q ≡ r = cc in
      counts r mode (subst (λ (x : Requested). IsRun told x board text) same t)
  counts_as r mode help e t = absurd (let k : help ≡ request r = e in cc)
  counts_as r mode version e t = absurd (let k : version ≡ request r = e in cc)

pub generated_headline : ImageReadsBack → GeneratedImageRunsItsSource
generated_headline back words asked board seen seen' out out' before are mode taken answer =
    let wrote = answer.output in
    let text = wrote.0 in
    let o = wrote.1 in
    let runs = counts_as back seen.texts board text asked mode o.asked (one_request words o.asked (request asked) o.words_are are) o.is_text in
    (runs.0, runs.1, text, wrote.2 ∙ ap (λ t. appended t text) taken, runs.2)
