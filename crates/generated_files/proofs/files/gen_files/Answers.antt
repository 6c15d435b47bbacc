use Rattle.generated_files.proofs.Pieces.{all_files}
use Rattle.generated_files.proofs.files.gen_files.Goals as goal

pub returns : goal.returns
returns c =
    all_files c.args.n _ _ _ _ c.in_ok-configuration_file.field-0 c.in_ok-interrupt_file.field-0 c.new-files.ensures.items c.in_ok-configuration_file.ensures
    c.in_ok-push.ensures.items c.in_ok-push_modules.ensures c.in_ok-interrupt_file.ensures c.in_ok-push-2.ensures.items
