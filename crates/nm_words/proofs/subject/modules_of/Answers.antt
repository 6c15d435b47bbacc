use Rattle.std.proofs.Common.{sym}
use Rattle.nm_words.proofs.Subjects.{there}
use Rattle.nm_words.proofs.subject.modules_of.Goals as goal

pub unwrap-requires : goal.unwrap-requires
unwrap-requires c = there c.args.subject.now c.modules_in.result c.modules_in.ensures c.requires

pub returns : goal.returns
returns c =
    let is = rw c.unwrap.ensures at c.modules_in.ensures in
    record { spelled = sym is.2; some = is.0; at_most = is.1 }
