use Rattle.std.proofs.Common.{map, string_bytes, ap, ◌∙◌}
use Rattle.mote_devices.specs.declared.state.DevState.TheVariants as dev
use Rattle.mote_devices.specs.declared.leds.Leds.{Leds}
use Rattle.mote_devices.specs.declared.timer.Timer.{Timer}
use Rattle.mote_devices.specs.declared.serial.Serial.{Serial}
use Rattle.mote_devices.specs.declared.radio.Radio.{Radio}
use Rattle.mote_devices.specs.declared.sensor.Sensor.{Sensor}
use Rattle.nescmote.proofs.answer_to.OwnLists.{own-1, at-1-1, at-1-2, at-1-3, at-1-4, at-1-5}
use Rattle.nescmote.proofs.Board.{on_devices, read_as}
use Rattle.nescmote.proofs.answer_to.Goals as goal

pub returns-clause-ok : goal.returns-clause-ok
returns-clause-ok g c =
    on_devices _ _ c.into_dyn_box.result c.into_dyn_box-in_ok-new-2.result c.into_dyn_box-in_ok-new-3.result c.into_dyn_box-in_ok-new-4.result c.into_dyn_box-in_ok-new-5.result c.in_ok-board.ensures.items
    (read_as own-1 at-1-1 _ _ _ c.into_dyn_box.ensures.1 (λ j y. j.1.state y) ∙ ap (λ (v : Leds). dev.Leds v.value) c.in_ok-new.ensures.ok ∙ c.new.ensures)
    (read_as own-1 at-1-2 _ _ _ c.into_dyn_box-in_ok-new-2.ensures.1 (λ j y. j.1.state y) ∙ ap (λ (v : Timer). dev.Timer v.on v.period v.left v.flag) c.in_ok-new-2.ensures.ok ∙ c.new-3.ensures)
    (read_as own-1 at-1-3 _ _ _ c.into_dyn_box-in_ok-new-3.ensures.1 (λ j y. j.1.state y) ∙ ap (λ (v : Serial). dev.Serial v.rx v.full v.over v.flag) c.in_ok-new-3.ensures.ok ∙ c.new-5.ensures)
    (read_as own-1 at-1-4 _ _ _ c.into_dyn_box-in_ok-new-4.ensures.1 (λ j y. j.1.state y) ∙ ap (λ (v : Radio). dev.Radio v.on v.addr v.rx v.full v.lost v.flag) c.in_ok-new-4.ensures.ok ∙ c.new-7.ensures)
    (read_as own-1 at-1-5 _ _ _ c.into_dyn_box-in_ok-new-5.ensures.1 (λ j y. j.1.state y) ∙ ap (λ (v : Sensor). dev.Sensor v.value v.asked v.flag) c.in_ok-new-5.ensures.ok ∙ c.new-9.ensures)
    (map string_bytes c.args.words.now) c.tool.result _ _ _ _ c.tool.ensures
