use Rattle.std.proofs.Common.{◌≡◌, Ok}
use Rattle.nesc_tree.specs.Phrase.{Phrase}
use Rattle.nesc_parse_types.specs.Gives.{place}
use Rattle.nesc_parse_c.specs.declared.probes.Wanted.TheVariants as wanted
use Rattle.nesc_parse_c.specs.Probes.{read_of}
use Rattle.nesc_parse_c.proofs.FromPlace.{parses}
use Rattle.nesc_parse_c.proofs.Refusals.{seen, fits_in}
use Rattle.nesc_parse_c.proofs.parse.parse_expr.Goals as goal

pub overflow_sub-result : goal.overflow_sub-result
overflow_sub-result c =
    let q = seen c.args.ts.now c.args.at (λ us. read_of (Phrase.expr 0) c.args.names.now us) (Ok (c.in-Ok.found, place c.args.names.now c.in-Ok.rest.now)) c.in-Ok.ensures in
    fits_in wanted.Expr c.args.file c.args.ts.now c.args.at c.args.names.now c.requires c.in-Ok.found c.in-Ok.rest.now q

pub returns-in-Ok : goal.returns-in-Ok
returns-in-Ok c =
    let q = seen c.args.ts.now c.args.at (λ us. read_of (Phrase.expr 0) c.args.names.now us) (Ok (c.in-Ok.found, place c.args.names.now c.in-Ok.rest.now)) c.in-Ok.ensures in
    parses wanted.Expr c.args.file c.args.ts.now c.args.at c.args.names.now (λ a. a.expr) c.in-Ok.found c.in-Ok.rest.now q c.requires
