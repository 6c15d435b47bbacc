use Rattle.mote_text.proofs.HexWord.{digits_of}
use Rattle.mote_text.proofs.digits.hex_digits.Goals as goal

pub returns : goal.returns
returns c = digits_of c.encode_to_slice.result c.args.word c.to_be_bytes.result c.encode_to_slice.new.output c.ranges.word.fits c.to_be_bytes.ensures c.encode_to_slice.ensures.fits.1 c.encode_to_slice.ensures.written
