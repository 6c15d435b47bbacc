use Rattle.std.proofs.Common.{ap, sym, ◌∙◌}
use Rattle.std.specs.Prelude.{option_map}
use Rattle.nesc_core.specs.View.{program_of}
use Rattle.call_graph.specs.Refusals.{last_place}
use Rattle.call_graph.proofs.Refusing.{named_in, ranks_give, cycle_is, cycle_place}
use Rattle.call_graph.proofs.refusals.refuse_cycle.Goals as goal

pub find_cycle-requires-clause-named : goal.find_cycle-requires-clause-named
find_cycle-requires-clause-named c = named_in (program_of c.args.p.now) c.args.table.now c.requires.table c.requires.size c.requires.counted

pub returns-in-None : goal.returns-in-None
returns-in-None c =
    ranks_give (program_of c.args.p.now) c.args.table.now c.requires.table c.requires.size (option_map (λ v. v.items) c.in_ok-find_cycle.field-0) c.in_ok-find_cycle.ensures
    (ap (option_map (λ v. v.items)) c.in-None.is)

pub returns-in-None-2 : goal.returns-in-None-2
returns-in-None-2 c =
    absurd (cycle_place (program_of c.args.p.now) c.in-Some.path.items
    (cycle_is (program_of c.args.p.now) c.args.table.now c.requires.table (option_map (λ v. v.items) c.in_ok-find_cycle.field-0) c.in-Some.path.items c.in_ok-find_cycle.ensures (ap (option_map (λ v. v.items)) c.in-Some.is)).is_one
    (ap (last_place (program_of c.args.p.now)) (sym c.deref.ensures.value) ∙ sym c.in_ok-last_place-in-Some.ensures ∙ c.in-None-2.is))
