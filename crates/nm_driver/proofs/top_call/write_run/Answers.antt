use Rattle.std.proofs.Common.{[], ◌++◌, sym, append_assoc, append-nil, refl, ◌∙◌}
use Rattle.mote_run.specs.Held.{image_in, board_in}
use Rattle.mote_run.specs.RunText.{mote_text}
use Rattle.mote_run.proofs.Seen.{held_of}
use Rattle.nm_base.proofs.Writing.{answers, fails, goes_on, stops, writes_more}
use Rattle.nm_driver.specs.Prepared.{head_bytes, line_before}
use Rattle.nm_driver.proofs.top_call.write_run.Goals as goal

pub returns-in_err-write_head : goal.returns-in_err-write_head
returns-in_err-write_head g c =
    let m = held_of g.D.Device.state c.args.mote.now in
    let head = c.args.head.now in
    let trace = mote_text (image_in m) (board_in m) c.args.rows.now c.args.budget in
    fails {A = Unit {0}} c.in_err-write_head.field-0.0 c.from_residual.result _ _ (head_bytes head) (line_before head ++ trace) _ c.from_residual.ensures.0
    refl c.in_err-write_head.ensures

pub returns-in_err-write_line : goal.returns-in_err-write_line
returns-in_err-write_line g c =
    let m = held_of g.D.Device.state c.args.mote.now in
    let head = c.args.head.now in
    let trace = mote_text (image_in m) (board_in m) c.args.rows.now c.args.budget in
    stops {B = Unit {0}} c.in_ok-write_head.field-0 c.in_err-write_line.field-0.0 c.from_residual-in_err-write_line.result _ _ _ (head_bytes head) (line_before head) trace _ c.from_residual-in_err-write_line.ensures.0
    (sym (append_assoc (head_bytes head) (line_before head) trace)) c.in_ok-write_head.ensures c.in_err-write_line.ensures

pub returns-in_err-run : goal.returns-in_err-run
returns-in_err-run g c =
    let m = held_of g.D.Device.state c.args.mote.now in
    let head = c.args.head.now in
    let trace = mote_text (image_in m) (board_in m) c.args.rows.now c.args.budget in
    let before = head_bytes head ++ line_before head in
    stops c.in_ok-write_line.field-0 _ c.from_residual-in_err-run.result _ _ _ before trace [] _ c.from_residual-in_err-run.ensures.0
    (sym (append-nil (before ++ trace) ∙ append_assoc (head_bytes head) (line_before head) trace))
    (writes_more c.in_ok-write_head.field-0 _ _ _ _ (head_bytes head) (line_before head) c.in_ok-write_head.ensures c.in_ok-write_line.ensures) c.in_err-run.ensures.wrote

pub returns : goal.returns
returns g c =
    let m = held_of g.D.Device.state c.args.mote.now in
    let head = c.args.head.now in
    let trace = mote_text (image_in m) (board_in m) c.args.rows.now c.args.budget in
    let before = head_bytes head ++ line_before head in
    goes_on c.in_ok-write_line.field-0 _ _ _ _ before trace _ (sym (append_assoc (head_bytes head) (line_before head) trace))
    (writes_more c.in_ok-write_head.field-0 _ _ _ _ (head_bytes head) (line_before head) c.in_ok-write_head.ensures c.in_ok-write_line.ensures)
    (answers _ c.in_ok-write_line.field-0 _ _ _ c.in_ok-run.ensures.wrote)
