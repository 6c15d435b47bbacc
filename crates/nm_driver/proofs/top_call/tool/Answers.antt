use Rattle.std.proofs.Common.{map, refl, string_bytes}
use Rattle.nm_words.specs.Asked.{AreWords, help, version}
use Rattle.nm_words.specs.Texts.{help_text, version_text}
use Rattle.nm_driver.proofs.Written.{not_in_use, ran}
use Rattle.nm_driver.proofs.top_call.tool.Goals as goal

pub returns-in-Ok-Help : goal.returns-in-Ok-Help
returns-in-Ok-Help g c =
    let words = map string_bytes c.args.words.now in
    let are : AreWords words help = rw c.in-Ok-Help.field-0-is at c.in-Ok-Help.ensures.asked in
    ran words _ (g.F.Files.seen c.args.files.now) (g.F.Files.seen c.args.files.now) (g.S.Sink.seen c.args.out.now) (g.S.Sink.seen c.write_text.new.out) refl
    help_text (record { asked = help; words_are = are; is_text = refl }) c.write_text.result c.write_text.ensures.kind c.write_text.ensures.wrote

pub returns-in-Ok-Version : goal.returns-in-Ok-Version
returns-in-Ok-Version g c =
    let words = map string_bytes c.args.words.now in
    let are : AreWords words version = rw c.in-Ok-Version.field-0-is at c.in-Ok-Version.ensures.asked in
    ran words _ (g.F.Files.seen c.args.files.now) (g.F.Files.seen c.args.files.now) (g.S.Sink.seen c.args.out.now) (g.S.Sink.seen c.write_text-in-Ok-Version.new.out) refl
    version_text (record { asked = version; words_are = are; is_text = refl }) c.write_text-in-Ok-Version.result c.write_text-in-Ok-Version.ensures.kind c.write_text-in-Ok-Version.ensures.wrote

pub returns-in-Err-Usage : goal.returns-in-Err-Usage
returns-in-Err-Usage g c =
    not_in_use (map string_bytes c.args.words.now) _ (g.F.Files.seen c.args.files.now) (g.F.Files.seen c.args.files.now) (g.S.Sink.seen c.args.out.now) (g.S.Sink.seen c.write_answer.new.out) refl
    (rw c.in-Err-Usage.field-0-is at c.in-Err-Usage.ensures.usage refl) c.says.result c.says.ensures c.write_answer.result c.write_answer.ensures
