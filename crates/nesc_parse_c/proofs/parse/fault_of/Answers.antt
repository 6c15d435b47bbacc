use Rattle.std.proofs.Common.{◌≡◌, drop, refl, subst}
use Rattle.nesc_parse_types.specs.declared.stop.Stop.{Stop}
use Rattle.nesc_parse_types.specs.Gives.{Fails}
use Rattle.nesc_parse_c.specs.Probes.{phrase_of, read_of}
use Rattle.nesc_parse_c.proofs.FromPlace.{deep}
use Rattle.nesc_parse_c.proofs.parse.fault_of.Goals as goal

pub returns-in-Deep : goal.returns-in-Deep
returns-in-Deep c =
    let q = subst (λ (stop : Stop). Fails stop (read_of (phrase_of c.args.wanted) c.args.names.now (drop c.args.at c.args.ts.now))) c.in-Deep.is c.requires.stops in
    (deep c.args.wanted c.args.file c.args.ts.now c.args.at c.args.names.now c.in-Deep.field-0.now q, refl)
