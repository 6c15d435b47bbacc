-- The table of silent actions.
use Rattle.compiled_image.proofs.Table.{tables_are_marked}
use Rattle.compiled_image.proofs.law.tables_are_marked.Goals as goal

pub returns : goal.returns
returns c = tables_are_marked
