use Rattle.std.proofs.Common.{◌∙◌, sym, ap}
use Rattle.std.specs.Option.{option_copied, option_map}
use Rattle.nesc_macros.specs.Numbers.{all_shown}
use Rattle.nesc_macros.proofs.Replacing.{len_with_argument, len_without}
use Rattle.nesc_macros.proofs.replacement.part_len.Goals as goal

pub returns-in-Some : goal.returns-in-Some
returns-in-Some c scope pos hide_set ts =
    len_with_argument scope pos hide_set c.args.parameters.now c.args.arguments.now c.args.part.now ts c.in-Some.argument.now c.as_slice.result.now (sym (c.argument_of.ensures scope) ∙ ap (λ o. option_map (all_shown scope) (option_copied o)) c.in-Some.is) c.as_slice.ensures

pub returns-in-None : goal.returns-in-None
returns-in-None c scope pos hide_set ts =
    len_without scope pos hide_set c.args.parameters.now c.args.arguments.now c.args.part.now ts (sym (c.argument_of.ensures scope) ∙ ap (λ o. option_map (all_shown scope) (option_copied o)) c.in-None.is)
