use Rattle.nesc_parse_comp.proofs.Forms.{tells_end}
use Rattle.nesc_parse_comp.proofs.units.reads_unit.Goals as goal

pub returns-clause-told : goal.returns-clause-told
returns-clause-told c = tells_end c.args.names.now c.unit-found.new.names c.args.ts.now c.args.kind c.unit-found.result c.is_ended-ended.result c.is_ended-ended.ensures c.unit-found.ensures.gives
