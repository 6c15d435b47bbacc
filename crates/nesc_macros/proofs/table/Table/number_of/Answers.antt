use Rattle.std.proofs.Common.{◌∙◌, ap, sym}
use Rattle.std.specs.Option.{option_copied}
use Rattle.nesc_macros.specs.Tables.{held, number_of}
use Rattle.nesc_macros.proofs.Tabled.{looked_up, of_found}
use Rattle.nesc_macros.proofs.table.Table.number_of.Goals as goal

pub returns-in-Some : goal.returns-in-Some
returns-in-Some c =
    ap of_found (sym (ap option_copied c.in-Some.is) ∙ c.get.ensures.value) ∙ looked_up c.as_bytes.result.now c.args.self.now.numbers.entries ∙ ap (number_of (held c.args.self.now.numbers.entries)) c.as_bytes.ensures

pub returns-in-None : goal.returns-in-None
returns-in-None c =
    ap of_found (sym (ap option_copied c.in-None.is) ∙ c.get.ensures.value) ∙ looked_up c.as_bytes.result.now c.args.self.now.numbers.entries ∙ ap (number_of (held c.args.self.now.numbers.entries)) c.as_bytes.ensures
