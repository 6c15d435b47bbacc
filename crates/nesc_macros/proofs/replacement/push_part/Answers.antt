use Rattle.std.proofs.Common.{◌∙◌, ◌++◌, ◌∷◌, [], sym, ap}
use Rattle.std.specs.Option.{option_copied, option_map}
use Rattle.nesc_macros.specs.Invocation.{PreprocessingToken}
use Rattle.nesc_macros.specs.Numbers.{all_shown, names_of}
use Rattle.nesc_macros.proofs.Naming.{shown_push}
use Rattle.nesc_macros.proofs.Replacing.{pushed_alone}
use Rattle.nesc_macros.proofs.replacement.push_part.Goals as goal

pub returns-in_ok-push-in-None-clause-list : goal.returns-in_ok-push-in-None-clause-list
returns-in_ok-push-in-None-clause-list c scope ts extends =
    let old = c.args.list.now.items in
    pushed_alone scope c.args.pos (names_of scope c.args.hide_set.now) c.args.parameters.now c.args.arguments.now c.args.part.now ts (all_shown scope old) (all_shown scope c.push.new.self.items)
    (sym (c.argument_of.ensures scope) ∙ ap (λ o. option_map (all_shown scope) (option_copied o)) c.in-None.is)
    (ap (all_shown scope) c.in_ok-push-in-None.ensures.items ∙ shown_push scope old c.in_ok-placed-in-None.field-0 ∙ ap (λ (t : PreprocessingToken). all_shown scope old ++ t ∷ []) (c.in_ok-placed-in-None.ensures scope))
