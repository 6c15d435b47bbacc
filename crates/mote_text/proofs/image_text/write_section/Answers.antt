use Rattle.std.proofs.Common.{refl}
use Rattle.mote_text.specs.ImageText.{words_from}
use Rattle.nm_base.proofs.Writing.{fails, goes_on}
use Rattle.mote_text.proofs.image_text.write_section.Goals as goal

pub returns-in_err-write_all : goal.returns-in_err-write_all
returns-in_err-write_all g c =
    fails _ c.from_residual.result _ _ c.args.address.now (words_from 0 c.args.words.now) _ c.from_residual.ensures.0 refl c.in_err-write_all.ensures

pub returns : goal.returns
returns g c =
    goes_on (tt {0}) _ _ _ _ c.args.address.now (words_from 0 c.args.words.now) _ refl c.in_ok-write_all.ensures c.write_words.ensures
