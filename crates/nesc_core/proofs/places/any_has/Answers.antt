use Rattle.std.proofs.Common.{◌∙◌, arith, ap, sym, map}
use Rattle.std.proofs.Math.ListN as list
use Rattle.std.proofs.lemmas.List.Folds.{list_any_at}
use Rattle.nesc_core.specs.Parts.{run_of, run_has}
use Rattle.nesc_core.proofs.places.any_has.Goals as goal

pub returns-then-has : goal.returns-then-has
returns-then-has c =
    let runs = c.args.runs.now in let i = c.loop-run.run-index in
    sym (list_any_at (run_has c.args.size c.args.address) (map run_of runs) i (run_of (0, 0))
    (omega (arith, list.length-map runs run_of)) (ap (run_has c.args.size c.args.address) (list.get_or-map run_of runs i (0, 0)) ∙ sym c.has.ensures ∙ c.if-has.true))
