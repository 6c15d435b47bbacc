use Rattle.std.proofs.Common.{◌≤◌}
use Rattle.nesc_tree.specs.Phrase.{Phrase}
use Rattle.nesc_parse_types.specs.Gives.{place}
use Rattle.nesc_parse_types.proofs.Heights.{found, phrase_fits}
use Rattle.nesc_parse_types.proofs.reader.Reader.nested_fields.Goals as goal

pub returns-clause-fits : goal.returns-clause-fits
returns-clause-fits g c =
    found (λ f. f.height ≤ c.args.self.now.spare) c.args.self.now.names.now c.fields.result _ (c.requires.nests.fields_reads _ _ _ _ c.fields.ensures)
    (phrase_fits c.args.self.now.spare Phrase.fields (place c.args.self.now.names.now c.args.ts.now))
