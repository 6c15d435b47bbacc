use Rattle.std.proofs.Common.{sym, subst}
use Rattle.nesc_parse_types.specs.Gives.{Gives}
use Rattle.nesc_parse_comp.specs.Reads as reads
use Rattle.nesc_parse_comp.proofs.Forms.{some_room, by_at}
use Rattle.nesc_parse_comp.proofs.units.part.Goals as goal

pub returns-clause-gives : goal.returns-clause-gives
returns-clause-gives c = subst (Gives c.part_of.new.names c.part_of.result) (sym (by_at c.args.spare (reads.part_of c.args.kind) c.args.names.now c.args.ts.now (some_room c.args.spare c.requires.room) c.ahead-first.result c.ahead-first.ensures)) c.part_of.ensures.gives
