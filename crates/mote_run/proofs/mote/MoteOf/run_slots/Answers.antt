use Rattle.std.proofs.Common.{◌≡◌, ℕ, ◌+◌, List, ◌++◌, arith, refl, ap, sym, subst, ◌∙◌}
use Rattle.std.specs.declared.result.Result.TheVariants.{Ok}
use Rattle.msp430_cpu.specs.Slots.{Running}
use Rattle.mote_devices.specs.Outside.{Outside}
use Rattle.mote_bus.specs.Mote.{mote_after, events}
use Rattle.mote_text.specs.TraceText.{trace_lines}
use Rattle.mote_run.specs.Rows.{happen}
use Rattle.mote_run.specs.Held.{Follows, image_in, board_in}
use Rattle.mote_run.specs.Gathers.{Gathers, gathering}
use Rattle.mote_run.specs.RunText.{slot_events}
use Rattle.mote_run.proofs.Seen.{held_of}
use Rattle.mote_run.proofs.SlotBySlot.{stopped, begun, turn}
use Rattle.mote_run.proofs.Gathered.{gathers_nothing, goes_on, stops}
use Rattle.mote_run.proofs.mote.MoteOf.run_slots.Goals as goal

pub loop-slot-init : goal.loop-slot-init
loop-slot-init g c =
    let slots = c.requires.fresh.slots in
    let ran = c.requires.fresh.ran in
    record {
      follows = c.requires.fresh;
      wrote = gathers_nothing (tt {0}) _;
      rest = record { order = c.requires.order; later = λ t le o. refl };
      slots = omega arith;
      ran = omega arith;
    }

pub returns-then-self-clause-follows : goal.returns-then-self-clause-follows
returns-then-self-clause-follows g c =
    let m = held_of g.D.Device.state c.args.self.now in
    let rows = c.args.schedule.now in
    let s = c.loop-slot.slot in
    let f = c.loop-slot.invariant.follows in
    let end = stopped (image_in m) (board_in m) rows s c.args.budget (omega (arith, c.loop-slot-test.true)) (sym f.stopped ∙ c.if-self.true) in
    subst (λ (x : Running Outside). Follows (held_of g.D.Device.state c.loop-slot.self) x) (sym end.after) f

pub returns-then-self-clause-wrote : goal.returns-then-self-clause-wrote
returns-then-self-clause-wrote g c =
    let m = held_of g.D.Device.state c.args.self.now in
    let rows = c.args.schedule.now in
    let s = c.loop-slot.slot in
    let f = c.loop-slot.invariant.follows in
    let end = stopped (image_in m) (board_in m) rows s c.args.budget (omega (arith, c.loop-slot-test.true)) (sym f.stopped ∙ c.if-self.true) in
    subst (λ (l : List ℕ). Gathers {A = Unit {0}} (Ok (tt {0})) (gathering (g.S.Sink.seen c.args.out.now) c.args.waiting.now.items) (gathering (g.S.Sink.seen c.loop-slot.out) c.loop-slot.waiting.items) l)
    (ap trace_lines (sym end.events)) c.loop-slot.invariant.wrote

pub returns-in_err-take_slot-clause-wrote : goal.returns-in_err-take_slot-clause-wrote
returns-in_err-take_slot-clause-wrote g c =
    let m = held_of g.D.Device.state c.args.self.now in
    let rows = c.args.schedule.now in
    let s = c.loop-slot.slot in
    let before = mote_after (image_in m) (board_in m) rows s in
    let t = turn (image_in m) (board_in m) rows c.loop-slot.rest.now c.split_at.result.0.now c.split_at.result.1.now s c.count_due.result c.loop-slot.invariant.rest c.count_due.ensures.count c.split_at.ensures.front c.split_at.ensures.back in
    let all = begun (image_in m) (board_in m) rows (s + 1) c.args.budget (omega (arith, c.loop-slot-test.true)) in
    stops (tt {0}) _ c.from_residual.result _ _ _ (trace_lines (events (image_in m) (board_in m) rows s)) (trace_lines (slot_events s (happen c.split_at.result.0.now) before)) all.rest _ c.from_residual.ensures.0
    (all.lines ∙ ap (λ (l : List ℕ). l ++ all.rest) t.next.lines)
    c.loop-slot.invariant.wrote (c.in_err-take_slot.ensures.wrote before c.loop-slot.invariant.follows)

pub loop-slot-preserved : goal.loop-slot-preserved
loop-slot-preserved g c =
    let m = held_of g.D.Device.state c.args.self.now in
    let rows = c.args.schedule.now in
    let s = c.loop-slot.slot in
    let before = mote_after (image_in m) (board_in m) rows s in
    let t = turn (image_in m) (board_in m) rows c.loop-slot.rest.now c.split_at.result.0.now c.split_at.result.1.now s c.count_due.result c.loop-slot.invariant.rest c.count_due.ensures.count c.split_at.ensures.front c.split_at.ensures.back in
    record {
      follows = subst (λ (x : Running Outside). Follows (held_of g.D.Device.state c.take_slot.new.self) x) t.next.after (c.in_ok-take_slot.ensures.follows before c.loop-slot.invariant.follows);
      wrote = goes_on (tt {0}) _ _ _ _ (trace_lines (events (image_in m) (board_in m) rows s)) _ _ t.next.lines
          c.loop-slot.invariant.wrote (c.in_ok-take_slot.ensures.wrote before c.loop-slot.invariant.follows);
      rest = t.rest;
      slots = omega (arith, c.in_ok-take_slot.ensures.slots, c.loop-slot.invariant.slots);
      ran = omega (arith, c.in_ok-take_slot.ensures.ran, c.loop-slot.invariant.ran);
    }

pub returns-clause-follows : goal.returns-clause-follows
returns-clause-follows g c =
    let m = held_of g.D.Device.state c.args.self.now in
    let rows = c.args.schedule.now in
    let same : c.loop-slot.slot ≡ c.args.budget = omega (arith, c.loop-slot-test.false, c.loop-slot.auto.slot-end) in
    subst (λ n. Follows (held_of g.D.Device.state c.loop-slot.self) (mote_after (image_in m) (board_in m) rows n)) same c.loop-slot.invariant.follows

pub returns-clause-wrote : goal.returns-clause-wrote
returns-clause-wrote g c =
    let m = held_of g.D.Device.state c.args.self.now in
    let rows = c.args.schedule.now in
    let same : c.loop-slot.slot ≡ c.args.budget = omega (arith, c.loop-slot-test.false, c.loop-slot.auto.slot-end) in
    subst (λ n. Gathers {A = Unit {0}} (Ok (tt {0})) (gathering (g.S.Sink.seen c.args.out.now) c.args.waiting.now.items) (gathering (g.S.Sink.seen c.loop-slot.out) c.loop-slot.waiting.items) (trace_lines (events (image_in m) (board_in m) rows n)))
    same c.loop-slot.invariant.wrote
