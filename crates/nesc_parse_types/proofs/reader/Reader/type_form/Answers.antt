use Rattle.std.proofs.Common.{rules, Ok}
use Rattle.nesc_tree.specs.Reading.{read}
use Rattle.nesc_parse_types.proofs.Heights.{type_form_fits}
use Rattle.nesc_parse_types.proofs.reader.Reader.type_form.Goals as goal

pub returns-clause-fits : goal.returns-clause-fits
unfolding read
returns-clause-fits g c = type_form_fits c.args.self.now.spare c.args.self.now.names.now c.args.ts.now (Ok (c.type_of.result, c.in_ok-behind.rest)) (search rules)
