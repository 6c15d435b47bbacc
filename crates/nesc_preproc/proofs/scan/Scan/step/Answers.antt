use Rattle.std.proofs.Common.{refl, ap}
use Rattle.std.proofs.lemmas.Result.{err_from_is_err_and}
use Rattle.nesc_preproc.specs.Scanned.{put_file}
use Rattle.nesc_preproc.specs.Scan.{outer_items}
use Rattle.nesc_preproc.specs.declared.scan.Scan.{Scan}
use Rattle.nesc_preproc.proofs.Stepping.{leads_same, fault_behind}
use Rattle.nesc_preproc.proofs.scan.Scan.step.Goals as goal

pub returns-in_default-clause-leads : goal.returns-in_default-clause-leads
returns-in_default-clause-leads g c world told lexing allows =
    let old = c.args.self.now in
    let mid : Scan = record { context = old.context; rest = c.pop_front.new.self; outer = old.outer; out = old.out } in
    leads_same c.close.result world old mid c.close.new.self refl (ap (λ ts. put_file ts (outer_items old.outer.items)) c.in_default.ensures.items) refl (c.close.ensures.leads world)

pub returns-in_err-expand_run-clause-leads : goal.returns-in_err-expand_run-clause-leads
returns-in_err-expand_run-clause-leads g c world told lexing allows =
    let p = err_from_is_err_and c.from_residual-in_err-expand_run.result c.from_residual-in_err-expand_run.ensures.1 in
    let old = c.args.self.now in
    let mid : Scan = record { context = old.context; rest = c.pop_front.new.self; outer = old.outer; out = old.out } in
    rw (p.1, p.2) (fault_behind c.in_err-expand_run.field-0.0 world c.in-Some.token old mid c.expand_run.new.self refl c.in-Some.ensures.items refl refl (c.in_err-expand_run.ensures.leads world))
