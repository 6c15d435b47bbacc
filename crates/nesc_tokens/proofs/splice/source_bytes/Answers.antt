use Rattle.std.proofs.Common.{◌≡◌, ◌<◌, length, length-drop, slice_index, arith, ap, ◌∙◌}
use Rattle.nesc_tokens.specs.Splices.{splice_len}
use Rattle.std.proofs.lemmas.List.{take_rest}
use Rattle.nesc_tokens.proofs.Splicing.{skips_splice, reads_byte, line_bound, col_bound}
use Rattle.nesc_tokens.proofs.splice.source_bytes.Goals as goal

pub loop-at-preserved-then-splice-gt0 : goal.loop-at-preserved-then-splice-gt0
loop-at-preserved-then-splice-gt0 c =
    let before = c.loop-at.invariant in
    let some : 0 < c.splice_len-splice.result = omega arith in
    record {
      within = omega (arith, c.splice_len-splice.ensures.within, length-drop c.loop-at.at c.args.text.now);
      read = skips_splice c.loop-at.source.items c.loop-at.line c.loop-at.col c.args.text.now c.loop-at.at c.splice_len-splice.result (c.splice_len-splice.ensures.len ∙ ap splice_len (take_rest c.args.text.now c.loop-at.at)) some before.read;
      line = omega arith;
      col = omega arith;
    }

pub loop-at-preserved : goal.loop-at-preserved
loop-at-preserved c =
    let before = c.loop-at.invariant in
    let lt : c.loop-at.at < length c.args.text.now = omega arith in
    let none : 0 ≡ c.splice_len-splice.result = omega arith in
    let read = reads_byte c.loop-at.source.items c.loop-at.line c.loop-at.col c.args.text.now c.loop-at.at lt (none ∙ c.splice_len-splice.ensures.len ∙ ap splice_len (take_rest c.args.text.now c.loop-at.at)) before.read in
    record {
      within = omega arith;
      read = rw (c.in_ok-push.ensures.items, c.line_behind-line.ensures, c.col_behind-col.ensures) read;
      line = omega (arith, line_bound (slice_index c.args.text.now c.loop-at.at) c.loop-at.line, c.line_behind-line.ensures);
      col = omega (arith, col_bound (slice_index c.args.text.now c.loop-at.at) c.loop-at.col, c.col_behind-col.ensures);
    }
