use Rattle.nesc_tree.specs.Form.{Form}
use Rattle.nesc_interfaces.proofs.Forms.{scope_gives}
use Rattle.nesc_parse_comp.specs.Reads as reads
use Rattle.nesc_parse_comp.proofs.units.scoped_part.Goals as goal

pub returns-clause-gives : goal.returns-clause-gives
returns-clause-gives c = scope_gives c.args.spare (Form.by (reads.part_of c.args.kind)) c.args.names.now c.part-found.new.names c.args.ts.now c.part-found.result c.part-found.ensures.gives
