use Rattle.std.proofs.Common.{rules, ◌≡◌, refl, true, false}
use Rattle.std.proofs.lemmas.Result.{err_from_is_err_and}
use Rattle.nesc_preproc.specs.Conditionals.{is_live}
use Rattle.nesc_preproc.specs.declared.scan.Scan.{Scan}
use Rattle.nesc_preproc.proofs.Closing.{skip_goes, run_leads, run_fault}
use Rattle.nesc_preproc.proofs.Sizes.{run_shorter}
use Rattle.nesc_preproc.proofs.scan.Scan.expand_run.Goals as goal

pub returns-then-not-is_live-clause-leads : goal.returns-then-not-is_live-clause-leads
returns-then-not-is_live-clause-leads c world =
    let skips : is_live c.args.self.now.context.conditionals.items ≡ false = search rules in
    let new : Scan = record { context = c.args.self.now.context; rest = c.take_run.new.rest; outer = c.args.self.now.outer; out = c.args.self.now.out } in
    skip_goes world c.args.first c.args.self.now new c.requires.plain skips refl refl c.in_ok-run.ensures.rest refl

pub returns-then-not-is_live-clause-size : goal.returns-then-not-is_live-clause-size
returns-then-not-is_live-clause-size c = rw c.in_ok-run.ensures.rest (run_shorter c.args.self.now.rest.items)

pub returns-in_err-expanded-clause-leads : goal.returns-in_err-expanded-clause-leads
returns-in_err-expanded-clause-leads c world =
    let p = err_from_is_err_and c.from_residual-in_err-expanded.result c.from_residual-in_err-expanded.ensures.1 in
    let lives : is_live c.args.self.now.context.conditionals.items ≡ true = search rules in
    let known = c.args.self.now.context.known in
    let new : Scan = record {
      context = record { known = record { files = known.files; declared = known.declared; bytes = known.bytes; tokens = c.expand_list.new.count }; macros = c.args.self.now.context.macros; conditionals = c.args.self.now.context.conditionals };
      rest = c.take_run.new.rest;
      outer = c.args.self.now.outer;
      out = c.args.self.now.out;
    } in
    rw (p.1, p.2) (run_fault world c.args.first c.args.self.now new c.in_err-expanded.field-0.0 c.in_ok-run.run'.items c.args.self.now.context.macros refl c.in_ok-run.ensures.run c.requires.plain lives c.in_err-expanded.ensures.refused refl)

pub returns-clause-leads : goal.returns-clause-leads
returns-clause-leads c world =
    let lives : is_live c.args.self.now.context.conditionals.items ≡ true = search rules in
    let known = c.args.self.now.context.known in
    let new : Scan = record {
      context = record { known = record { files = known.files; declared = known.declared; bytes = known.bytes; tokens = c.expand_list.new.count }; macros = c.args.self.now.context.macros; conditionals = c.args.self.now.context.conditionals };
      rest = c.take_run.new.rest;
      outer = c.args.self.now.outer;
      out = c.append.new.self;
    } in
    run_leads world c.args.first c.args.self.now new c.in_ok-expanded.expanded.items c.requires.plain lives
    (rw c.in_ok-run.ensures.run at c.in_ok-expanded.ensures.expanded) refl refl c.in_ok-run.ensures.rest c.in_ok-append.ensures.items

pub returns-clause-size : goal.returns-clause-size
returns-clause-size c = rw c.in_ok-run.ensures.rest (run_shorter c.args.self.now.rest.items)
