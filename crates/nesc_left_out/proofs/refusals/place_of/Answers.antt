use Rattle.nesc_left_out.proofs.FromPlace.{ends_at}
use Rattle.nesc_left_out.proofs.refusals.place_of.Goals as goal

pub returns-in-len1-up-all : goal.returns-in-len1-up-all
returns-in-len1-up-all c = ends_at c.args.file c.args.all.now c.args.rest.now c.last-item.result c.in-empty.len_below c.in-len1-up-all.len_at_least c.last-item.is
