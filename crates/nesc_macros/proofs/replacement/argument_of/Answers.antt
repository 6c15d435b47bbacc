use Rattle.std.proofs.Common.{◌∙◌, map, sym, ap}
use Rattle.std.specs.Option.{option_map}
use Rattle.nesc_macros.specs.Numbers.{all_shown}
use Rattle.nesc_macros.proofs.Arguments.{argument_of-none, argument_of-position, slice_get-item}
use Rattle.nesc_macros.proofs.Naming.{slice_get-shown}
use Rattle.nesc_macros.proofs.replacement.argument_of.Goals as goal

pub returns-in_err-place : goal.returns-in_err-place
returns-in_err-place c scope =
    rw c.from_residual.ensures (sym (argument_of-none c.args.parameters.now (map (all_shown scope) c.args.arguments.now) c.args.name.now (sym c.place_of.ensures ∙ c.in_err-place.was)))

pub returns : goal.returns
returns c scope =
    ap (option_map (all_shown scope)) (slice_get-item c.args.arguments.now c.in_ok-place.place c.get.result c.get.ensures.lookup)
    ∙ sym (slice_get-shown scope c.args.arguments.now c.in_ok-place.place)
    ∙ sym (argument_of-position c.args.parameters.now (map (all_shown scope) c.args.arguments.now) c.args.name.now c.in_ok-place.place (sym c.place_of.ensures ∙ c.in_ok-place.was))
