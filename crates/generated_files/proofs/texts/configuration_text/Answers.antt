use Rattle.generated_files.proofs.Pieces.{configuration_spelled}
use Rattle.generated_files.proofs.texts.configuration_text.Goals as goal

pub returns : goal.returns
returns c =
    configuration_spelled c.args.n _ _ _ _ _ _ c.new-text.ensures.bytes c.in_ok-push_str.ensures.bytes c.in_ok-push_components.ensures
    c.in_ok-push_str-2.ensures.bytes c.in_ok-push_wires.ensures c.in_ok-push_str-3.ensures.bytes
