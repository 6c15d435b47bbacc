use Rattle.std.proofs.Common.{◌++◌, ◌∙◌, ap, sym, append_assoc}
use Rattle.core_meaning.proofs.Grows.{source_grows}
use Rattle.core_act.specs.Actions.{actions_of}
use Rattle.core_act.proofs.law.actions_grow.Goals as goal

pub returns : goal.returns
returns c = λ p body answers more m n le.
    let turned = (source_grows p).with_turns body answers m n le in
    let answered = (source_grows p).with_answers body answers more n in
    (turned.0 ++ answered.0, sym (append_assoc (actions_of p body answers m) turned.0 answered.0) ∙ ap (λ xs. xs ++ answered.0) turned.1 ∙ answered.1)
