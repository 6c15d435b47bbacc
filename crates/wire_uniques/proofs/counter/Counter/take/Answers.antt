use Rattle.std.proofs.Common.{◌≡◌, ◌++◌, ◌∷◌, []}
use Rattle.wire_uniques.proofs.Numbering.{one_more}
use Rattle.wire_uniques.proofs.counter.Counter.take.Goals as goal

pub returns-clause-numbered : goal.returns-clause-numbered
returns-clause-numbered c = λ uses h.
    let n = c.count-count.result in
    let pushed : c.push.new.self.items ≡ c.args.self.now.numbers.items ++ n ∷ [] = c.in_ok-push.ensures.items in
    one_more c.args.self.now.counts c.note.new.counts c.args.self.now.numbers.items c.push.new.self.items uses c.args.one.now n c.count-count.ensures c.in_ok-note.ensures pushed h
