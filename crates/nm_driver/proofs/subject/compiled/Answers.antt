use Rattle.std.proofs.Common.{◌++◌, List, ℕ, sym, ap, ◌∙◌, append-nil, string_bytes}
use Rattle.mote_text.specs.ImageText.{image_text}
use Rattle.nm_driver.specs.RunText.{sizes_text}
use Rattle.nm_words.specs.declared.mode.Mode.TheVariants.{Build}
use Rattle.nm_driver.specs.declared.subject.Reported.{Reported}
use Rattle.nm_driver.specs.declared.subject.Subject.{Subject}
use Rattle.nm_driver.proofs.Causes.{if_says, passed}
use Rattle.nm_driver.proofs.Reading.{of_source, passed_outside, refused_outside}
use Rattle.nm_driver.proofs.Built.{can_same, meets_same}
use Rattle.nm_driver.proofs.subject.compiled.Goals as goal

pub returns-in_err-built-clause-outside : goal.returns-in_err-built-clause-outside
returns-in_err-built-clause-outside g c =
    let r = c.in_ok-reported.reported in
    let e = c.in_err-built.field-0.0 in
    passed_outside c.from_residual-in_err-built.result e _ _ c.from_residual-in_err-built.ensures.1
    (refused_outside Reported Subject r Build c.args.app.now r.application e _ _ c.in_ok-reported.ensures.outside (if_says e (λ answer h. h c.args.app.now Build tt) c.in_err-built.ensures.says))

pub returns-in_err-built-clause-says : goal.returns-in_err-built-clause-says
returns-in_err-built-clause-says g c =
    let r = c.in_ok-reported.reported in
    let e = c.in_err-built.field-0.0 in
    passed _ c.from_residual-in_err-built.result e c.from_residual-in_err-built.ensures.1
    (if_says e (λ answer h. of_source _ Build c.args.app.now r.application answer c.in_ok-reported.ensures.program (h c.args.app.now Build tt)) c.in_err-built.ensures.says)

pub returns-clause-prints : goal.returns-clause-prints
returns-clause-prints g c = λ board rows budget.
    let r = c.in_ok-reported.ensures.reported in
    let report = c.in_ok-reported.reported.report.items in
    let built = c.in_ok-built.built in
    let lines : List ℕ = image_text built.image.code.items built.image.vectors in (
      r.0,
      record {
        builds = can_same r.0.program _ r.1 c.in_ok-built.ensures.builds;
        code = built.image.code.items;
        vectors = built.image.vectors;
        ram = built.image.ram;
        stack = built.image.stack;
        meets = meets_same r.0.program _ built.image.code.items built.image.vectors built.image.ram built.image.stack r.1 c.in_ok-built.ensures.meets;
      },
      append-nil (report ++ (string_bytes built.sizes ++ lines))
          ∙ ap (λ (s : List ℕ). report ++ (s ++ lines)) c.in_ok-built.ensures.sizes
          ∙ ap (λ (s : List ℕ). s ++ (sizes_text built.image.ram built.image.stack ++ lines)) (sym r.2),
    )
