use Rattle.std.proofs.Common.{◌∙◌, ap}
use Rattle.std.specs.Prelude.{is_some}
use Rattle.nesc_conditions.proofs.Macros.{copied_is_some, found_any}
use Rattle.nesc_conditions.proofs.defined.names_macro.Goals as goal

pub returns : goal.returns
returns c =
    c.is_some.ensures ∙ copied_is_some c.get.result ∙ ap is_some c.get.ensures ∙ found_any c.args.macros.now c.args.token.now.text
