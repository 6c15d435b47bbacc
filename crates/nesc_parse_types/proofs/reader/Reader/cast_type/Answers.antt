use Rattle.std.proofs.Common.{rules, Ok}
use Rattle.nesc_tree.specs.Reading.{read}
use Rattle.nesc_parse_types.proofs.Heights.{cast_type_fits}
use Rattle.nesc_parse_types.proofs.reader.Reader.cast_type.Goals as goal

pub returns-clause-fits : goal.returns-clause-fits
unfolding read
returns-clause-fits g c = cast_type_fits c.args.self.now.spare c.args.self.now.names.now c.args.ts.now (Ok (c.pointer.result, c.in_ok-stars.rest)) (search rules)
