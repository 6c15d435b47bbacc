use Rattle.std.proofs.Common.{arith}
use Rattle.mote_run.proofs.Seen.{held_of}
use Rattle.mote_run.proofs.Counting.{few_noted, slot_counted}
use Rattle.mote_run.proofs.OneSlot.{slot_done}
use Rattle.mote_run.proofs.mote.MoteOf.count_slot.Goals as goal

pub with_step-requires : goal.with_step-requires
with_step-requires g c =
    let few = few_noted (held_of g.D.Device.state c.give_all.new.self) (held_of g.D.Device.state c.step-stepped.new.self) c.accesses.result.now c.step-stepped.ensures.held c.accesses.ensures in
    omega (arith, few, c.requires.room)

pub returns-clause-few : goal.returns-clause-few
returns-clause-few g c =
    let few = few_noted (held_of g.D.Device.state c.give_all.new.self) (held_of g.D.Device.state c.step-stepped.new.self) c.accesses.result.now c.step-stepped.ensures.held c.accesses.ensures in
    omega (arith, few, c.with_step.ensures.few)

pub returns-clause-follows : goal.returns-clause-follows
returns-clause-follows g c = λ running f.
    (slot_done 0 c.args.due.now (held_of g.D.Device.state c.args.self.now) (held_of g.D.Device.state c.give_all.new.self) (held_of g.D.Device.state c.step-stepped.new.self)
    c.step-stepped.result c.accesses.result.now running
    c.give_all.ensures.held c.step-stepped.ensures.held c.step-stepped.ensures.stepped c.accesses.ensures f c.requires.goes_on).follows

pub returns-clause-counts : goal.returns-clause-counts
returns-clause-counts g c = λ running f so_far.
    slot_counted c.args.due.now (held_of g.D.Device.state c.args.self.now) (held_of g.D.Device.state c.give_all.new.self) (held_of g.D.Device.state c.step-stepped.new.self)
    c.step-stepped.result c.accesses.result.now running c.args.totals _
    c.give_all.ensures.held c.step-stepped.ensures.held c.step-stepped.ensures.stepped c.accesses.ensures c.with_step.ensures.counts f c.requires.goes_on so_far
