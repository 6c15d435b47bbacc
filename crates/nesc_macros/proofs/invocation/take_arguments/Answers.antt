use Rattle.std.proofs.Common.{◌∙◌, Some, length, sym, ap, arith}
use Rattle.nesc_macros.specs.Groups.{IsArgumentEnd}
use Rattle.nesc_macros.proofs.Grouped.{TakesOne, takes_last, takes_lighter, takes_next, takes_shorter, length_dropped}
use Rattle.nesc_macros.proofs.Turns.{none_left}
use Rattle.nesc_macros.proofs.invocation.take_arguments.Goals as goal

pub returns-in_default-pop_front-clause-taken : goal.returns-in_default-pop_front-clause-taken
returns-in_default-pop_front-clause-taken c scope =
    let e : IsArgumentEnd c.loop-end.pending (Some c.in-Some.end) = rw c.in-Some.is at c.argument_end.ensures in
    let none = none_left c.take_first.new.self c.pop_front.new.self c.in_default-pop_front.ensures.items c.pop_front.ensures.rest in
    absurd (omega (arith, e.0, ap length none, ap length c.in_ok-take_first.ensures.others, length_dropped c.in-Some.end.len c.loop-end.pending (omega (arith, e.0))))

pub returns-then-end-clause-taken : goal.returns-then-end-clause-taken
returns-then-end-clause-taken c scope =
    let t : TakesOne c.loop-end.pending c.in-Some.end c.in_ok-take_first.field-0 c.in-Some-pop_front.sign c.pop_front.new.self = record {
      ended = rw c.in-Some.is at c.argument_end.ensures;
      first-is = c.in_ok-take_first.ensures.first;
      behind = sym c.in_ok-take_first.ensures.others ∙ c.in-Some-pop_front.ensures.items;
    } in
    sym (c.loop-end.invariant.steps scope) ∙ takes_last c.loop-end.pending c.in-Some.end c.in_ok-take_first.field-0 c.pop_front.new.self c.in-Some-pop_front.sign c.loop-end.lists.items c.push_back.new.self.items t c.if-end.true c.in_ok-push_back.ensures.items scope

pub returns-then-end-clause-less : goal.returns-then-end-clause-less
returns-then-end-clause-less c =
    let t : TakesOne c.loop-end.pending c.in-Some.end c.in_ok-take_first.field-0 c.in-Some-pop_front.sign c.pop_front.new.self = record {
      ended = rw c.in-Some.is at c.argument_end.ensures;
      first-is = c.in_ok-take_first.ensures.first;
      behind = sym c.in_ok-take_first.ensures.others ∙ c.in-Some-pop_front.ensures.items;
    } in
    omega (arith, takes_lighter c.loop-end.pending c.in-Some.end c.in_ok-take_first.field-0 c.pop_front.new.self c.in-Some-pop_front.sign c.loop-end.lists.items c.push_back.new.self.items t c.in_ok-push_back.ensures.items, c.loop-end.invariant.weight)

pub loop-end-smaller : goal.loop-end-smaller
loop-end-smaller c =
    let t : TakesOne c.loop-end.pending c.in-Some.end c.in_ok-take_first.field-0 c.in-Some-pop_front.sign c.pop_front.new.self = record {
      ended = rw c.in-Some.is at c.argument_end.ensures;
      first-is = c.in_ok-take_first.ensures.first;
      behind = sym c.in_ok-take_first.ensures.others ∙ c.in-Some-pop_front.ensures.items;
    } in
    takes_shorter c.loop-end.pending c.in-Some.end c.in_ok-take_first.field-0 c.pop_front.new.self c.in-Some-pop_front.sign t

pub loop-end-preserved : goal.loop-end-preserved
loop-end-preserved c =
    let t : TakesOne c.loop-end.pending c.in-Some.end c.in_ok-take_first.field-0 c.in-Some-pop_front.sign c.pop_front.new.self = record {
      ended = rw c.in-Some.is at c.argument_end.ensures;
      first-is = c.in_ok-take_first.ensures.first;
      behind = sym c.in_ok-take_first.ensures.others ∙ c.in-Some-pop_front.ensures.items;
    } in
    record {
      steps = λ scope. takes_next c.loop-end.pending c.in-Some.end c.in_ok-take_first.field-0 c.pop_front.new.self c.in-Some-pop_front.sign c.loop-end.lists.items c.push_back.new.self.items t c.if-end.false c.in_ok-push_back.ensures.items scope ∙ c.loop-end.invariant.steps scope;
      weight = omega (arith, takes_lighter c.loop-end.pending c.in-Some.end c.in_ok-take_first.field-0 c.pop_front.new.self c.in-Some-pop_front.sign c.loop-end.lists.items c.push_back.new.self.items t c.in_ok-push_back.ensures.items, c.loop-end.invariant.weight);
    }
