use Rattle.std.proofs.Common.{sym}
use Rattle.nescmote.proofs.Board.{answered}
use Rattle.nescmote.proofs.answer.Goals as goal

pub returns-in-Ok : goal.returns-in-Ok
returns-in-Ok g c =
    let is = sym c.deref.ensures.value in
    let answer = c.unwrap_or.ensures in
    rw c.in-Ok.is (rw is (rw answer (answered _ _ _ _ _ _ c.answer_to.result c.answer_to.ensures.ok c.answer_to.ensures.files c.answer_to.ensures.out)))

pub returns-in-Err-2 : goal.returns-in-Err-2
returns-in-Err-2 g c =
    let r = c.answer_to-in-Err-2.ensures in
    rw c.in-Err-2.is (rw c.unwrap_or-in-Err-2.ensures (answered _ _ _ _ _ _ c.answer_to-in-Err-2.result r.ok r.files r.out))
