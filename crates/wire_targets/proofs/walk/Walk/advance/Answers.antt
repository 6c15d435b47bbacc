use Rattle.std.proofs.Common.{◌≡◌, ◌+◌, ◌-◌, length, arith, sym, ap, ◌∙◌, subst}
use Rattle.std.proofs.Common.{true, false}
use Rattle.std.proofs.lemmas.Bool.{false≢true}
use Rattle.std.specs.List.{Contains}
use Rattle.wire_targets.specs.Targets.{IsFirstLoop}
use Rattle.wire_targets.proofs.Walking.{at_read, next_read, some_end, wires_within, turn_enters, turn_closes, turn_meets, turn_leaves, turn_ends}
use Rattle.wire_targets.proofs.walk.Walk.advance.Goals as goal

pub overflow_sub-len : goal.overflow_sub-len
overflow_sub-len c =
    let w = c.args.self.now in
    let h = c.requires.walks.1 in
    let n = some_end c.args.wires.now c.args.sinks.now c.requires.walks.0 w.path.items h.here w.ends.items h.from w.met w.found.items h.walks in
    omega (arith, n, w.ends.ok.0)

pub index-requires : goal.index-requires
index-requires c =
    let w = c.args.self.now in
    let h = c.requires.walks.1 in
    let n = some_end c.args.wires.now c.args.sinks.now c.requires.walks.0 w.path.items h.here w.ends.items h.from w.met w.found.items h.walks in
    omega (arith, n, w.ends.ok.0)

pub leave-requires : goal.leave-requires
leave-requires c = λ front last e.
    let w = c.args.self.now in
    let h = c.requires.walks.1 in
    let n = wires_within c.args.wires.now c.args.sinks.now c.requires.walks.0 w.path.items h.here w.ends.items h.from w.met w.found.items h.walks front last e in
    omega (arith, n, c.requires.table.after.size)

pub returns-then-has_met-clause-closes : goal.returns-then-has_met-clause-closes
returns-then-has_met-clause-closes c = λ start k h same.
    let w = c.args.self.now in
    let at : c.len.result - 1 ≡ length w.ends.items - 1 = omega (arith, w.ends.ok.0) in
    let v = at_read c.args.wires.now c.args.sinks.now start w.path.items h.here w.ends.items h.from w.met w.found.items h.walks (c.len.result - 1) c.index.result.now at c.index.ensures in
    let next = next_read c.args.wires.now c.args.sinks.now start w.path.items h.here w.ends.items h.from w.met w.found.items h.walks (c.len.result - 1) c.index.result.now at c.index.ensures w.next h.next in
    let on = c.leading.ensures.some h.from c.in-Some.wire c.in-Some.end next c.in-Some.is in
    let old : Contains w.ends.items c.in-Some.end = subst (λ es. Contains es c.in-Some.end) c.as_slice.ensures.value (c.has_met.ensures.0 c.if-has_met.true) in
    let closes = turn_closes c.args.wires.now c.args.sinks.now start w.path.items c.index.result.now w.ends.items h.from w.met w.found.items v c.in-Some.wire c.in-Some.end on old in
    let n : c.in-Some.wire ≡ k = cc in
    subst (IsFirstLoop c.args.wires.now start) n closes

pub returns-then-self-ge-MAX_WIRES-clause-many : goal.returns-then-self-ge-MAX_WIRES-clause-many
returns-then-self-ge-MAX_WIRES-clause-many c = λ start h same.
    let w = c.args.self.now in
    let at : c.len.result - 1 ≡ length w.ends.items - 1 = omega (arith, w.ends.ok.0) in
    let v = at_read c.args.wires.now c.args.sinks.now start w.path.items h.here w.ends.items h.from w.met w.found.items h.walks (c.len.result - 1) c.index.result.now at c.index.ensures in
    let next = next_read c.args.wires.now c.args.sinks.now start w.path.items h.here w.ends.items h.from w.met w.found.items h.walks (c.len.result - 1) c.index.result.now at c.index.ensures w.next h.next in
    let on = c.leading.ensures.some h.from c.in-Some.wire c.in-Some.end next c.in-Some.is in
    let new : Contains w.ends.items c.in-Some.end → ⊥ = λ old. false≢true (sym c.if-has_met.false ∙ c.has_met.ensures.1 (subst (λ es. Contains es c.in-Some.end) (sym c.as_slice.ensures.value) old)) in
    turn_meets c.args.wires.now c.args.sinks.now start w.path.items c.index.result.now w.ends.items h.from w.met w.found.items v c.in-Some.wire c.in-Some.end on new c.if-self-ge-MAX_WIRES.true

pub returns-in_ok-enter-in-Some-clause-goes : goal.returns-in_ok-enter-in-Some-clause-goes
returns-in_ok-enter-in-Some-clause-goes c = λ start h same.
    let w = c.args.self.now in
    let at : c.len.result - 1 ≡ length w.ends.items - 1 = omega (arith, w.ends.ok.0) in
    let v = at_read c.args.wires.now c.args.sinks.now start w.path.items h.here w.ends.items h.from w.met w.found.items h.walks (c.len.result - 1) c.index.result.now at c.index.ensures in
    let next = next_read c.args.wires.now c.args.sinks.now start w.path.items h.here w.ends.items h.from w.met w.found.items h.walks (c.len.result - 1) c.index.result.now at c.index.ensures w.next h.next in
    let on = c.leading.ensures.some h.from c.in-Some.wire c.in-Some.end next c.in-Some.is in
    let new : Contains w.ends.items c.in-Some.end → ⊥ = λ old. false≢true (sym c.if-has_met.false ∙ c.has_met.ensures.1 (subst (λ es. Contains es c.in-Some.end) (sym c.as_slice.ensures.value) old)) in
    let walks = turn_enters c.args.wires.now c.args.sinks.now start w.path.items c.index.result.now w.ends.items h.from w.met w.found.items v c.in-Some.wire c.in-Some.end on new c.if-self-ge-MAX_WIRES.false in
    let e = c.in_ok-enter-in-Some.ensures in
    record { here = c.in-Some.end; from = 0; walks = rw (e.path, e.ends, e.met, e.found) walks; next = e.next ∙ c.first.ensures }

pub returns-in-None-clause-goes : goal.returns-in-None-clause-goes
returns-in-None-clause-goes c = λ start h same.
    let w = c.args.self.now in
    let at : c.len.result - 1 ≡ length w.ends.items - 1 = omega (arith, w.ends.ok.0) in
    let v = at_read c.args.wires.now c.args.sinks.now start w.path.items h.here w.ends.items h.from w.met w.found.items h.walks (c.len.result - 1) c.index.result.now at c.index.ensures in
    let next = next_read c.args.wires.now c.args.sinks.now start w.path.items h.here w.ends.items h.from w.met w.found.items h.walks (c.len.result - 1) c.index.result.now at c.index.ensures w.next h.next in
    let r : c.leave.result ≡ true = cc in
    let back = c.leave.ensures.goes r in
    let left = turn_leaves c.args.wires.now c.args.sinks.now start w.path.items c.index.result.now w.ends.items h.from w.met w.found.items v (λ k low. c.leading.ensures.none h.from k next c.in-None.is low) c.leave.new.self.path.items back.0 c.leave.new.self.next c.args.table.now.after.items back.1 c.requires.table.after back.2 in
    record { here = left.0; from = back.0 + 1; walks = rw (c.leave.ensures.ends r, c.leave.ensures.met, c.leave.ensures.found) left.1; next = left.2 }

pub returns-in-None-clause-ended : goal.returns-in-None-clause-ended
returns-in-None-clause-ended c = λ start h same.
    let w = c.args.self.now in
    let at : c.len.result - 1 ≡ length w.ends.items - 1 = omega (arith, w.ends.ok.0) in
    let v = at_read c.args.wires.now c.args.sinks.now start w.path.items h.here w.ends.items h.from w.met w.found.items h.walks (c.len.result - 1) c.index.result.now at c.index.ensures in
    let next = next_read c.args.wires.now c.args.sinks.now start w.path.items h.here w.ends.items h.from w.met w.found.items h.walks (c.len.result - 1) c.index.result.now at c.index.ensures w.next h.next in
    let r : c.leave.result ≡ false = cc in
    let done = turn_ends c.args.wires.now c.args.sinks.now start w.path.items c.index.result.now w.ends.items h.from w.met w.found.items v (λ k low. c.leading.ensures.none h.from k next c.in-None.is low) ((c.leave.ensures.stays r).0) in
    rw (c.leave.ensures.found) done
