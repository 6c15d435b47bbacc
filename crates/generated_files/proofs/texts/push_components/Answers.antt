use Rattle.std.proofs.Common.{string_bytes}
use Rattle.generated_files.proofs.Pieces.{listed_more}
use Rattle.generated_files.proofs.texts.push_components.Goals as goal

pub loop-k-preserved : goal.loop-k-preserved
loop-k-preserved c = listed_more (string_bytes c.args.text.now) (string_bytes c.loop-k.text) _ c.loop-k.k c.loop-k.invariant c.in_ok-push_listed.ensures
