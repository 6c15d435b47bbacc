use Rattle.std.proofs.Common.{Ok}
use Rattle.nesc_grammar.specs.Laws.{answer}
use Rattle.nesc_parse_types.specs.Gives.{place}
use Rattle.nesc_left_out.proofs.Faults.{seen}
use Rattle.nesc_parse_body.specs.Parsed.{body, most}
use Rattle.nesc_parse_body.proofs.FromPlace.{inside, parses}
use Rattle.nesc_parse_body.proofs.parse.parse_body.Goals as goal

pub overflow_sub-result : goal.overflow_sub-result
overflow_sub-result c =
    inside c.args.file c.args.ts.now c.args.at c.args.names.now c.requires c.in-Ok.tree c.in-Ok.rest.now
    (seen c.args.ts.now c.args.at (λ us. answer most body c.args.names.now us) (Ok (c.in-Ok.tree, place c.args.names.now c.in-Ok.rest.now)) c.in-Ok.ensures.gives)

pub returns-in-Ok-clause-parsed : goal.returns-in-Ok-clause-parsed
returns-in-Ok-clause-parsed c =
    parses c.args.file c.args.ts.now c.args.at c.args.names.now c.requires c.in-Ok.tree c.in-Ok.rest.now
    (seen c.args.ts.now c.args.at (λ us. answer most body c.args.names.now us) (Ok (c.in-Ok.tree, place c.args.names.now c.in-Ok.rest.now)) c.in-Ok.ensures.gives)
