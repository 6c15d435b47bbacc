use Rattle.std.proofs.Common.{◌≤◌}
use Rattle.nesc_tree.specs.Phrase.{Phrase}
use Rattle.nesc_tree.specs.Reading.{phrase}
use Rattle.nesc_grammar.specs.Production.{production}
use Rattle.nesc_parse_types.specs.Gives.{place}
use Rattle.nesc_parse_types.proofs.Heights.{found, opened_fits, phrase_fits}
use Rattle.nesc_parse_types.proofs.reader.Reader.nested_opened.Goals as goal

pub returns-clause-fits : goal.returns-clause-fits
returns-clause-fits g c =
    let here = place c.args.self.now.names.now c.args.ts.now in
    found (λ a. a.height ≤ c.args.self.now.spare) c.args.self.now.names.now c.opened.result _ (c.requires.nests.opened_reads _ _ _ _ _ c.opened.ensures)
    (opened_fits c.args.self.now.spare c.args.opening.now here (phrase production c.args.self.now.spare Phrase.opened here) (phrase_fits c.args.self.now.spare Phrase.opened here))
