use Rattle.nm_words.specs.Asked.{request, requested}
use Rattle.nm_driver.proofs.Written.{ended, ran}
use Rattle.nm_driver.proofs.Causes.{if_says}
use Rattle.nm_driver.proofs.top_call.answer_request.Goals as goal

pub returns-in-Ok : goal.returns-in-Ok
returns-in-Ok g c words are =
    ran words _ (g.F.Files.seen c.args.files.now) (g.F.Files.seen c.prepare.new.files) (g.S.Sink.seen c.args.out.now) (g.S.Sink.seen c.perform.new.out) c.in-Ok.ensures.outside.same
    _ (record { asked = request (requested c.args.wanted); words_are = are; is_text = c.in-Ok.ensures.output _ }) c.perform.result c.perform.ensures.kind c.perform.ensures.wrote

pub returns-in-Err : goal.returns-in-Err
returns-in-Err g c words are =
    let outside = c.in-Err.ensures.outside in
    ended words _ (g.F.Files.seen c.args.files.now) (g.F.Files.seen c.prepare.new.files) (g.S.Sink.seen c.args.out.now) (g.S.Sink.seen c.write_answer.new.out) outside.same
    c.one_application.ensures c.in-Err.stop c.write_answer.result (if_says c.in-Err.stop (λ a h. h words are) c.in-Err.ensures.says) outside.read_fault outside.missing c.write_answer.ensures
