use Rattle.std.proofs.Common.{rules}
use Rattle.elab_program.proofs.Blocks.{joined_by}
use Rattle.elab_program.proofs.initial.joined.Goals as goal

pub returns : goal.returns
returns c = joined_by c.args.initial.now.items c.args.list c.new-2.result (search rules)
