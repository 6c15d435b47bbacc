use Rattle.std.proofs.Common.{refl}
use Rattle.nesc_preproc.specs.Kept.{name_at}
use Rattle.nesc_core.specs.View.{program_of}
use Rattle.nesc_programs.specs.declared.application.Application.{Application}
use Rattle.nm_words.specs.declared.mode.Mode.TheVariants.{Check}
use Rattle.nm_driver.specs.declared.subject.Reported.{Reported}
use Rattle.nm_driver.proofs.Causes.{if_says, passed}
use Rattle.nm_driver.proofs.Reading.{of_source, passed_outside, refused_outside}
use Rattle.nm_driver.proofs.subject.reported_of.Goals as goal

pub returns-in_err-report-clause-outside : goal.returns-in_err-report-clause-outside
returns-in_err-report-clause-outside g c =
    let a = c.in_ok-application.application in
    let e = c.in_err-report.field-0.0 in
    passed_outside c.from_residual-in_err-report.result e _ _ c.from_residual-in_err-report.ensures.1
    (refused_outside Application Reported a Check c.args.app.now a e _ _ c.in_ok-application.ensures.outside (if_says e (λ answer h. h Check) c.in_err-report.ensures.says))

pub returns-in_err-report-clause-says : goal.returns-in_err-report-clause-says
returns-in_err-report-clause-says g c =
    let a = c.in_ok-application.application in
    let e = c.in_err-report.field-0.0 in
    passed _ c.from_residual-in_err-report.result e c.from_residual-in_err-report.ensures.1
    (if_says e (λ answer h mode. of_source _ mode c.args.app.now a answer c.in_ok-application.ensures.program (h mode)) c.in_err-report.ensures.says)

pub returns-clause-reported : goal.returns-clause-reported
returns-clause-reported g c =
    let a = c.in_ok-application.application in
    let has = c.in_ok-application.ensures.program in (
      record {
        program = program_of a.program;
        names = name_at a.reading;
        accepted = c.in_ok-report.ensures.accepted;
        report = c.in_ok-report.report.items;
        reports = c.in_ok-report.ensures.reports;
        has = λ files is. (a.reading, has files is);
        named = λ files is. (program_of a.program, a.reading, has files is, refl);
      },
      refl,
      refl,
    )
