use Rattle.std.proofs.Common.{rules, Some, None, drop}
use Rattle.nesc_left_out.proofs.Faults.{first_of}
use Rattle.nesc_parse_comp.proofs.Forms.{stops_at}
use Rattle.nesc_parse_comp.proofs.Parsed.{behind_unit, stop_fits, begins_at, behind_at, whole_unit, wrong_stop, told_name}
use Rattle.nesc_parse_comp.proofs.parse.parse_unit.Goals as goal

pub before_rest-before-requires : goal.before_rest-before-requires
before_rest-before-requires c =
    stop_fits c.args.kind c.args.file c.args.ts.now c.args.name.now c.args.names.now c.in-Ok.rest.now (behind_unit c.args.names.now c.args.ts.now c.args.kind c.unit.new.names c.in-Ok.rest.now c.in-Ok.unit c.in-Ok.ensures.gives)

pub refused_behind-requires : goal.refused_behind-requires
refused_behind-requires c =
    begins_at c.args.kind c.args.file c.args.ts.now c.args.name.now c.args.names.now _ _ c.in-Ok.rest.now (search rules) c.before_rest-before.ensures
    (behind_unit c.args.names.now c.args.ts.now c.args.kind c.unit.new.names c.in-Ok.rest.now c.in-Ok.unit c.in-Ok.ensures.gives)

pub stopped-requires : goal.stopped-requires
stopped-requires c = stops_at c.args.kind c.args.names.now _ c.args.ts.now c.in-Err.stop (search rules) c.in-Err.ensures.gives

pub returns-in-Some-clause-parsed : goal.returns-in-Some-clause-parsed
returns-in-Some-clause-parsed c =
    wrong_stop c.args.kind c.args.file c.args.ts.now c.args.name.now c.args.names.now c.in-Ok.rest.now (behind_unit c.args.names.now c.args.ts.now c.args.kind c.unit.new.names c.in-Ok.rest.now c.in-Ok.unit c.in-Ok.ensures.gives) c.in-Some.pos
    (told_name c.args.kind c.args.file c.args.ts.now c.args.name.now c.args.names.now c.in-Ok.rest.now c.before_rest-before.result.now c.other_name.result (Some c.in-Some.pos) c.before_rest-before.ensures c.other_name.ensures c.in-Some.is)

pub returns-in-empty-clause-parsed : goal.returns-in-empty-clause-parsed
returns-in-empty-clause-parsed c =
    whole_unit c.args.kind c.args.file c.args.ts.now c.args.name.now c.args.names.now c.in-Ok.rest.now c.in-Ok.unit c.unit.new.names c.in-empty.len_below c.in-Ok.ensures.gives
    (told_name c.args.kind c.args.file c.args.ts.now c.args.name.now c.args.names.now c.in-Ok.rest.now c.before_rest-before.result.now c.other_name.result None c.before_rest-before.ensures c.other_name.ensures c.in-None.is)

pub returns-in-len1-up-clause-parsed : goal.returns-in-len1-up-clause-parsed
returns-in-len1-up-clause-parsed c =
    behind_at c.args.kind c.args.file c.args.ts.now c.args.name.now c.args.names.now _ _ c.in-Ok.rest.now (search rules) c.before_rest-before.ensures
    (behind_unit c.args.names.now c.args.ts.now c.args.kind c.unit.new.names c.in-Ok.rest.now c.in-Ok.unit c.in-Ok.ensures.gives)
    (told_name c.args.kind c.args.file c.args.ts.now c.args.name.now c.args.names.now c.in-Ok.rest.now c.before_rest-before.result.now c.other_name.result None c.before_rest-before.ensures c.other_name.ensures c.in-None.is)
    c.token-item.result (drop 1 c.in-Ok.rest.now) (first_of c.in-Ok.rest.now c.token-item.result c.in-len1-up.len_at_least c.token-item.is) c.refused_behind.result c.refused_behind.ensures.told
