use Rattle.std.proofs.Common.{Some, None}
use Rattle.nesc_parse_comp.proofs.Parsed.{deep_fits, wrong_deep, deep_so, told_name}
use Rattle.nesc_parse_comp.proofs.parse.depth_fault.Goals as goal

pub before_rest-before-requires : goal.before_rest-before-requires
before_rest-before-requires c = deep_fits c.args.kind 0 c.args.ts.now c.args.name.now c.args.names.now c.args.rest.now c.requires

pub returns-in-Some : goal.returns-in-Some
returns-in-Some c = λ file.
    wrong_deep c.args.kind file c.args.ts.now c.args.name.now c.args.names.now c.args.rest.now c.requires c.in-Some.pos
    (told_name c.args.kind file c.args.ts.now c.args.name.now c.args.names.now c.args.rest.now c.before_rest-before.result.now c.other_name.result (Some c.in-Some.pos) c.before_rest-before.ensures c.other_name.ensures c.in-Some.is)

pub returns-in-None : goal.returns-in-None
returns-in-None c = λ file.
    deep_so c.args.kind file c.args.ts.now c.args.name.now c.args.names.now c.args.rest.now c.requires
    (told_name c.args.kind file c.args.ts.now c.args.name.now c.args.names.now c.args.rest.now c.before_rest-before.result.now c.other_name.result None c.before_rest-before.ensures c.other_name.ensures c.in-None.is)
