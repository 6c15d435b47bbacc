use Rattle.std.proofs.Common.{◌≤◌}
use Rattle.nesc_tree.specs.Phrase.{Phrase}
use Rattle.nesc_parse_types.specs.Gives.{place}
use Rattle.nesc_parse_types.proofs.Heights.{found, phrase_fits}
use Rattle.nesc_parse_types.proofs.reader.Reader.nested_expr.Goals as goal

pub returns-clause-fits : goal.returns-clause-fits
returns-clause-fits g c =
    found (λ a. a.height ≤ c.args.self.now.spare) c.args.self.now.names.now c.expr.result _ (c.requires.nests.expr_reads _ _ _ _ _ c.expr.ensures)
    (phrase_fits c.args.self.now.spare (Phrase.expr c.args.least) (place c.args.self.now.names.now c.args.ts.now))
