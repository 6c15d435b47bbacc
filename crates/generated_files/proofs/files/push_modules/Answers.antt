use Rattle.generated_files.proofs.Pieces.{modules_more}
use Rattle.generated_files.proofs.files.push_modules.Goals as goal

pub loop-k-preserved : goal.loop-k-preserved
loop-k-preserved c =
    modules_more c.args.files.now.items c.loop-k.files.items _ c.loop-k.k c.in_ok-module_file.field-0 c.loop-k.invariant c.in_ok-module_file.ensures
    c.in_ok-push.ensures.items
