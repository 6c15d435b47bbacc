use Rattle.std.proofs.Common.{◌≡◌, Some, Bool}
use Rattle.std.proofs.lemmas.Result.{err_from_is_err_and}
use Rattle.nesc_conditions.specs.Resolved.{resolved}
use Rattle.nesc_preproc.proofs.Opening.{expansion_fault}
use Rattle.nesc_preproc.proofs.Asking.{asks_truth, asks_fault}
use Rattle.nesc_preproc.proofs.context.Context.holds.Goals as goal

pub returns-in_err-expanded-clause-asked : goal.returns-in_err-expanded-clause-asked
returns-in_err-expanded-clause-asked c =
    let p = err_from_is_err_and c.from_residual-in_err-expanded.result c.from_residual-in_err-expanded.ensures.1 in
    let is-found : resolved c.args.self.now.macros c.args.line.now ≡ Some c.in-Some.resolved.items = rw c.in-Some.is at c.in_ok-resolved.ensures in
    rw (p.1, p.2) (asks_fault c.args.self.now.macros c.args.self.now.known.tokens c.args.pos c.args.line.now c.in-Some.resolved.items c.expand_list.new.count c.in_err-expanded.field-0.0 is-found c.in_err-expanded.ensures.refused)

pub returns-clause-asked : goal.returns-clause-asked
returns-clause-asked c =
    let is-found : resolved c.args.self.now.macros c.args.line.now ≡ Some c.in-Some.resolved.items = rw c.in-Some.is at c.in_ok-resolved.ensures in
    rw c.truth_of.ensures (asks_truth c.args.self.now.macros c.args.self.now.known.tokens c.args.pos c.args.line.now c.in-Some.resolved.items c.in_ok-expanded.expanded.items c.expand_list.new.count _ is-found c.in_ok-expanded.ensures.expanded (rw c.deref.ensures.value at c.in_ok-value_of.ensures))

pub returns-in_err-expanded-clause-read : goal.returns-in_err-expanded-clause-read
returns-in_err-expanded-clause-read c =
    let p = err_from_is_err_and c.from_residual-in_err-expanded.result c.from_residual-in_err-expanded.ensures.1 in
    rw (p.1, p.2) (expansion_fault Bool c.in_err-expanded.field-0.0 c.in_err-expanded.ensures.kinds)
