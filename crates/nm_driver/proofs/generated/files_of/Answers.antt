use Rattle.std.proofs.Common.{◌∙◌}
use Rattle.nm_driver.proofs.Made.{files_are}
use Rattle.nm_driver.proofs.generated.files_of.Goals as goal

pub returns : goal.returns
returns c = c.new.ensures ∙ files_are c.args.modules _ c.in_ok-gen_files.ensures
