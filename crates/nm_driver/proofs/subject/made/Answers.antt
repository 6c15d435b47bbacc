use Rattle.std.proofs.Common.{◌++◌, List, ℕ, sym, ap, ◌∙◌}
use Rattle.msp_isa.specs.Image.{bytes_map}
use Rattle.mote_text.specs.ImageText.{image_text}
use Rattle.nm_driver.specs.Generated.{generated_app, totals_line}
use Rattle.nm_driver.specs.RunText.{build_text, sizes_text}
use Rattle.nm_words.specs.declared.mode.Mode.TheVariants.{Gen}
use Rattle.nm_driver.proofs.Causes.{if_says, passed}
use Rattle.nm_driver.proofs.Reading.{of_source}
use Rattle.nm_driver.proofs.Built.{can_same, meets_same}
use Rattle.nm_driver.proofs.subject.made.Goals as goal

pub returns-in_err-built-clause-says : goal.returns-in_err-built-clause-says
returns-in_err-built-clause-says g c =
    let r = c.in_ok-reported.reported in
    let e = c.in_err-built.field-0.0 in
    passed _ c.from_residual-in_err-built.result e c.from_residual-in_err-built.ensures.1
    (if_says e (λ answer h. of_source _ Gen generated_app r.application answer c.in_ok-reported.ensures.program (h generated_app Gen tt)) c.in_err-built.ensures.says)

pub returns-clause-prints : goal.returns-clause-prints
returns-clause-prints g c = λ board rows budget.
    let r = c.in_ok-reported.ensures.reported in
    let report = c.in_ok-reported.reported.report.items in
    let built = c.in_ok-built.built in
    let code = built.image.code.items in
    let vectors = built.image.vectors in
    let lines : List ℕ = image_text code vectors in
    let loaded : List ℕ = c.in_ok-image.image in
    let totals : List ℕ = totals_line c.args.modules (bytes_map loaded) board in (
      r.0,
      record {
        builds = can_same r.0.program _ r.1 c.in_ok-built.ensures.builds;
        code = code;
        vectors = vectors;
        ram = built.image.ram;
        stack = built.image.stack;
        meets = meets_same r.0.program _ code vectors built.image.ram built.image.stack r.1 c.in_ok-built.ensures.meets;
      },
      ap (λ (s : List ℕ). (report ++ (s ++ lines)) ++ totals) c.in_ok-built.ensures.sizes
          ∙ ap (λ (s : List ℕ). (s ++ (sizes_text built.image.ram built.image.stack ++ lines)) ++ totals) (sym r.2)
          ∙ ap (λ m. build_text r.0.report code vectors built.image.ram built.image.stack ++ totals_line c.args.modules m board) c.in_ok-image.ensures,
    )
