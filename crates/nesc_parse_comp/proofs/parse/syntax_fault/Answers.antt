use Rattle.std.proofs.Common.{Some, None}
use Rattle.nesc_parse_comp.proofs.Parsed.{where_refused, stop_fits, wrong_stop, refused_so, told_name}
use Rattle.nesc_parse_comp.proofs.parse.syntax_fault.Goals as goal

pub before_rest-before-requires : goal.before_rest-before-requires
before_rest-before-requires c = stop_fits c.args.kind c.args.file c.args.ts.now c.args.name.now c.args.names.now c.args.rest.now (where_refused c.args.names.now c.args.ts.now c.args.kind c.args.rest.now c.requires)

pub returns-in-Some-clause-told : goal.returns-in-Some-clause-told
returns-in-Some-clause-told c =
    wrong_stop c.args.kind c.args.file c.args.ts.now c.args.name.now c.args.names.now c.args.rest.now (where_refused c.args.names.now c.args.ts.now c.args.kind c.args.rest.now c.requires) c.in-Some.pos
    (told_name c.args.kind c.args.file c.args.ts.now c.args.name.now c.args.names.now c.args.rest.now c.before_rest-before.result.now c.other_name.result (Some c.in-Some.pos) c.before_rest-before.ensures c.other_name.ensures c.in-Some.is)

pub returns-in-None-clause-told : goal.returns-in-None-clause-told
returns-in-None-clause-told c =
    refused_so c.args.kind c.args.file c.args.ts.now c.args.name.now c.args.names.now c.args.rest.now (where_refused c.args.names.now c.args.ts.now c.args.kind c.args.rest.now c.requires)
    (told_name c.args.kind c.args.file c.args.ts.now c.args.name.now c.args.names.now c.args.rest.now c.before_rest-before.result.now c.other_name.result None c.before_rest-before.ensures c.other_name.ensures c.in-None.is)
    c.refused.result c.refused.ensures.told
