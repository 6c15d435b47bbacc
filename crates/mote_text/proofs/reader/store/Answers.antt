use Rattle.std.proofs.Common.{◌+◌, ◌∙◌, sym, arith, ap, drop}
use Rattle.std.proofs.lemmas.List.{drop_all}
use Rattle.mote_text.specs.Cells.{cells_map}
use Rattle.mote_text.specs.ImageLines.{stored}
use Rattle.mote_text.proofs.ImageBytes.{store_one, store_none}
use Rattle.mote_text.proofs.reader.store.Goals as goal

pub returns-in_err-put : goal.returns-in_err-put
returns-in_err-put c =
    rw c.from_residual.ensures (sym (store_none (cells_map c.loop-byte.cells.bytes.items) c.loop-byte.address c.args.bytes.now c.loop-byte.byte-index (omega arith) c.in_err-put.ensures.put) ∙ c.loop-byte.invariant)

pub loop-byte-preserved : goal.loop-byte-preserved
loop-byte-preserved c =
    let e = sym (store_one (cells_map c.loop-byte.cells.bytes.items) c.loop-byte.address c.args.bytes.now c.loop-byte.byte-index (omega arith) c.in_ok-put.ensures.put.0) ∙ c.loop-byte.invariant in
    ap (λ m. stored m (c.loop-byte.address + 1) (drop (c.loop-byte.byte-index + 1) c.args.bytes.now)) c.in_ok-put.ensures.put.1 ∙ e

pub returns : goal.returns
returns c = sym (ap (stored (cells_map c.loop-byte.cells.bytes.items) c.loop-byte.address) (drop_all c.loop-byte.byte-index c.args.bytes.now (omega arith))) ∙ c.loop-byte.invariant
