use Rattle.std.proofs.Common.{[], refl}
use Rattle.nm_words.specs.Asked.{requested}
use Rattle.nm_driver.proofs.Causes.{has_subject, if_says, passed, schedule_due, subject_due}
use Rattle.nm_driver.proofs.prepared.prepare.Goals as goal

pub returns-in_err-subject-clause-says : goal.returns-in_err-subject-clause-says
returns-in_err-subject-clause-says g c =
    let asked = requested c.args.wanted in
    let e = c.in_err-subject.field-0.0 in
    passed _ c.from_residual.result e c.from_residual.ensures.1
    (if_says e (λ a h words are board. subject_due (g.F.Files.seen c.args.files.now).texts words asked are board asked.mode refl a h) c.in_err-subject.ensures.says)

pub returns-in_err-rows-clause-says : goal.returns-in_err-rows-clause-says
returns-in_err-rows-clause-says g c =
    let asked = requested c.args.wanted in
    let told = (g.F.Files.seen c.args.files.now).texts in
    let e = c.in_err-rows.field-0.0 in
    passed _ c.from_residual-in_err-rows.result e c.from_residual-in_err-rows.ensures.1
    (if_says e (λ a h words are board.
    schedule_due told words asked are board
    (λ files h. has_subject told files h asked.mode asked.subject board [] 0 _ (c.in_ok-subject.ensures.prints board [] 0)) a h)
    (rw c.in_ok-subject.ensures.outside.same at c.in_err-rows.ensures.says))
