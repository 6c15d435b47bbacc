use Rattle.std.proofs.Common.{drop, refl, subst, suc}
use Rattle.nesc_grammar.specs.Laws.{answer}
use Rattle.nesc_parse_types.specs.declared.stop.Stop.{Stop}
use Rattle.nesc_parse_types.specs.Gives.{Fails}
use Rattle.nesc_left_out.proofs.FromPlace.{deep}
use Rattle.nesc_left_out.proofs.refusals.fault_of.Goals as goal

pub returns-in-Deep-clause-told : goal.returns-in-Deep-clause-told
returns-in-Deep-clause-told g c =
    let q = subst (λ (stop : Stop). Fails stop (answer (suc (g.R.Reader.spare c.args.reader.now)) (g.R.Reader.phrase c.args.reader.now) c.args.names.now (drop c.args.at c.args.ts.now))) c.in-Deep.is c.requires.stops in
    (deep (g.R.Reader.spare c.args.reader.now) (g.R.Reader.phrase c.args.reader.now) c.requires.fits c.args.file c.args.ts.now c.args.at c.args.names.now c.in-Deep.field-0.now q, refl)
