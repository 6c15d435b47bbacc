-- One function more stands among the words.
use Rattle.std.proofs.Common.{◌<◌, length, get_or, arith, sym, ◌∙◌}
use Rattle.msp_layout.proofs.Functions.{items_read, entry_read, entry_fits, fn_more}
use Rattle.msp_layout.proofs.image.words_of_all.Goals as goal

pub push_fn-requires-clause-room : goal.push_fn-requires-clause-room
push_fn-requires-clause-room c = omega (arith, entry_fits c.args.forms.now c.loop-f.f c.index-forms-f.result (omega (arith, c.requires.formed.len)) c.index-forms-f.is, c.requires.room, c.loop-f.invariant.0)

pub loop-f-preserved : goal.loop-f-preserved
loop-f-preserved c =
    let e = items_read c.args.code.now c.loop-f.f c.index-code-f.result c.loop-f-test.true c.index-code-f.is in
    let lt : c.loop-f.f < length c.args.forms.now = omega (arith, c.requires.formed.len) in
    let s = c.in_ok-push_fn.ensures in (
      omega (arith, s.len, entry_read c.args.forms.now c.loop-f.f c.index-forms-f.result lt c.index-forms-f.is, c.loop-f.invariant.0),
      fn_more (λ f. get_or c.args.entries.now f 0) c.args.code.now c.args.forms.now c.loop-f.words.items c.push_fn.new.code.items c.loop-f.f c.index-forms-f.result c.as_slice.result.now lt c.index-forms-f.is (e ∙ sym c.as_slice.ensures) c.loop-f.invariant.0 s.grows s.stands c.loop-f.invariant.1,
      s.wide,
    )

pub returns-clause-stands : goal.returns-clause-stands
returns-clause-stands c = λ f d lt. c.loop-f.invariant.1 f d (omega arith)
