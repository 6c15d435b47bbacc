use Rattle.std.proofs.Common.{◌≡◌, arith, refl, ap, sym, subst, ◌∙◌}
use Rattle.msp430_cpu.specs.Slots.{Running}
use Rattle.mote_devices.specs.Outside.{Outside}
use Rattle.mote_bus.specs.Mote.{mote, mote_after}
use Rattle.mote_run.specs.Held.{Follows, image_in, board_in}
use Rattle.mote_run.specs.Totals.{totals_of}
use Rattle.mote_run.proofs.Seen.{held_of}
use Rattle.mote_run.proofs.SlotBySlot.{stopped, turn}
use Rattle.mote_run.proofs.mote.MoteOf.count_slots.Goals as goal

pub loop-slot-init : goal.loop-slot-init
loop-slot-init g c =
    let slots = c.requires.fresh.slots in
    let ran = c.requires.fresh.ran in
    record {
      follows = c.requires.fresh;
      counts = refl;
      few = omega arith;
      rest = record { order = c.requires.order; later = λ t le o. refl };
      slots = omega arith;
      ran = omega arith;
    }

pub returns-then-self-clause-follows : goal.returns-then-self-clause-follows
returns-then-self-clause-follows g c =
    let m = held_of g.D.Device.state c.args.self.now in
    let f = c.loop-slot.invariant.follows in
    let end = stopped (image_in m) (board_in m) c.args.schedule.now c.loop-slot.slot c.args.budget (omega (arith, c.loop-slot-test.true)) (sym f.stopped ∙ c.if-self.true) in
    subst (λ (x : Running Outside). Follows (held_of g.D.Device.state c.loop-slot.self) x) (sym end.after) f

pub returns-then-self-clause-counts : goal.returns-then-self-clause-counts
returns-then-self-clause-counts g c =
    let m = held_of g.D.Device.state c.args.self.now in
    let f = c.loop-slot.invariant.follows in
    let end = stopped (image_in m) (board_in m) c.args.schedule.now c.loop-slot.slot c.args.budget (omega (arith, c.loop-slot-test.true)) (sym f.stopped ∙ c.if-self.true) in
    c.loop-slot.invariant.counts ∙ ap (λ (x : Running Outside). totals_of x.joined.bus.ports.shown) (sym end.after)

pub loop-slot-preserved : goal.loop-slot-preserved
loop-slot-preserved g c =
    let m = held_of g.D.Device.state c.args.self.now in
    let rows = c.args.schedule.now in
    let s = c.loop-slot.slot in
    let before = mote_after (image_in m) (board_in m) rows s in
    let t = turn (image_in m) (board_in m) rows c.loop-slot.rest.now c.split_at.result.0.now c.split_at.result.1.now s c.count_due.result c.loop-slot.invariant.rest c.count_due.ensures.count c.split_at.ensures.front c.split_at.ensures.back in
    record {
      follows = subst (λ (x : Running Outside). Follows (held_of g.D.Device.state c.count_slot-totals.new.self) x) t.next.after (c.count_slot-totals.ensures.follows before c.loop-slot.invariant.follows);
      counts = c.count_slot-totals.ensures.counts before c.loop-slot.invariant.follows c.loop-slot.invariant.counts ∙ ap (λ (x : Running Outside). totals_of x.joined.bus.ports.shown) t.next.after;
      few = omega (arith, c.count_slot-totals.ensures.few, c.loop-slot.invariant.few);
      rest = t.rest;
      slots = omega (arith, c.count_slot-totals.ensures.slots, c.loop-slot.invariant.slots);
      ran = omega (arith, c.count_slot-totals.ensures.ran, c.loop-slot.invariant.ran);
    }

pub returns-clause-follows : goal.returns-clause-follows
returns-clause-follows g c =
    let m = held_of g.D.Device.state c.args.self.now in
    let same : c.loop-slot.slot ≡ c.args.budget = omega (arith, c.loop-slot-test.false, c.loop-slot.auto.slot-end) in
    subst (λ n. Follows (held_of g.D.Device.state c.loop-slot.self) (mote_after (image_in m) (board_in m) c.args.schedule.now n)) same c.loop-slot.invariant.follows

pub returns-clause-counts : goal.returns-clause-counts
returns-clause-counts g c =
    let m = held_of g.D.Device.state c.args.self.now in
    let same : c.loop-slot.slot ≡ c.args.budget = omega (arith, c.loop-slot-test.false, c.loop-slot.auto.slot-end) in
    c.loop-slot.invariant.counts ∙ ap (λ n. totals_of (mote (image_in m) (board_in m) c.args.schedule.now n).shown) same
