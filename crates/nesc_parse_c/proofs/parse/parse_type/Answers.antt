use Rattle.std.proofs.Common.{◌≡◌, Ok, drop, sym, subst, ◌∙◌}
use Rattle.nesc_grammar.specs.Grammar as grammar
use Rattle.nesc_parse_types.specs.Gives.{Fails, form_in, place}
use Rattle.nesc_parse_c.specs.declared.probes.Wanted.TheVariants as wanted
use Rattle.nesc_parse_c.proofs.FromPlace.{parses}
use Rattle.nesc_parse_c.proofs.Refusals.{seen, failed, type_read, fits_in}
use Rattle.nesc_parse_c.proofs.parse.parse_type.Goals as goal

pub overflow_sub-result : goal.overflow_sub-result
overflow_sub-result c =
    let q = seen c.args.ts.now c.args.at (λ us. form_in 200 grammar.type_form c.args.names.now us) (Ok (c.in-Ok.found, place c.args.names.now c.in-Ok.rest.now)) c.in-Ok.ensures in
    fits_in wanted.Type c.args.file c.args.ts.now c.args.at c.args.names.now c.requires c.in-Ok.found c.in-Ok.rest.now (sym (type_read c.args.names.now (drop c.args.at c.args.ts.now)) ∙ q)

pub fault_of-requires-clause-stops : goal.fault_of-requires-clause-stops
fault_of-requires-clause-stops c =
    subst (Fails c.in-Err.stop) (type_read c.args.names.now (drop c.args.at c.args.ts.now))
    (failed c.args.ts.now c.args.at (λ us. form_in 200 grammar.type_form c.args.names.now us) c.in-Err.stop c.in-Err.ensures)

pub returns-in-Ok : goal.returns-in-Ok
returns-in-Ok c =
    let q = seen c.args.ts.now c.args.at (λ us. form_in 200 grammar.type_form c.args.names.now us) (Ok (c.in-Ok.found, place c.args.names.now c.in-Ok.rest.now)) c.in-Ok.ensures in
    parses wanted.Type c.args.file c.args.ts.now c.args.at c.args.names.now (λ t. t.ty) c.in-Ok.found c.in-Ok.rest.now (sym (type_read c.args.names.now (drop c.args.at c.args.ts.now)) ∙ q) c.requires
