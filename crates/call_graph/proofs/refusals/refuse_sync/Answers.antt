use Rattle.std.proofs.Common.{ap, sym, subst, ◌∙◌}
use Rattle.std.specs.Prelude.{option_map}
use Rattle.nesc_core.specs.View.{program_of}
use Rattle.call_graph.specs.Paths.{IsLeast}
use Rattle.call_graph.specs.Refusals.{IsSyncPath, last_place}
use Rattle.call_graph.proofs.Syncs.{no_sync, none_found, least_found, sync_place}
use Rattle.call_graph.proofs.refusals.refuse_sync.Goals as goal

pub returns-then-not-any_both : goal.returns-then-not-any_both
returns-then-not-any_both c =
    no_sync (program_of c.args.p.now) c.args.table.now c.requires.table c.requires.size c.requires.no_cycle c.args.handlers.now c.requires.handlers c.deref.result.now
    (c.deref.ensures.value ∙ c.in_ok-syncs.ensures) c.args.is_async.now c.requires.marks (c.any_both.ensures c.if-not-any_both.true)

pub returns-in-None : goal.returns-in-None
returns-in-None c =
    none_found (program_of c.args.p.now) c.args.table.now c.requires.table c.requires.size c.requires.no_cycle c.args.handlers.now c.requires.handlers c.deref-2.result.now
    (c.deref-2.ensures.value ∙ c.in_ok-syncs.ensures) (option_map (λ v. v.items) c.in_ok-least_sync.field-0) c.in_ok-least_sync.ensures (ap (option_map (λ v. v.items)) c.in-None.is)

pub returns-in-None-2 : goal.returns-in-None-2
returns-in-None-2 c =
    let least : IsLeast (IsSyncPath (program_of c.args.p.now)) c.in-Some.path.items =
    least_found (program_of c.args.p.now) c.args.table.now c.requires.table c.requires.size c.requires.no_cycle c.args.handlers.now c.requires.handlers c.deref-2.result.now
    (c.deref-2.ensures.value ∙ c.in_ok-syncs.ensures) (option_map (λ v. v.items) c.in_ok-least_sync.field-0) c.in-Some.path.items c.in_ok-least_sync.ensures (ap (option_map (λ v. v.items)) c.in-Some.is) in
    absurd (sync_place (program_of c.args.p.now) c.in-Some.path.items least.is_one
    (ap (last_place (program_of c.args.p.now)) (sym c.deref-in-Some.ensures.value) ∙ sym c.in_ok-last_place-in-Some.ensures ∙ c.in-None-2.is))

pub returns : goal.returns
returns c =
    let least : IsLeast (IsSyncPath (program_of c.args.p.now)) c.in-Some.path.items =
    least_found (program_of c.args.p.now) c.args.table.now c.requires.table c.requires.size c.requires.no_cycle c.args.handlers.now c.requires.handlers c.deref-2.result.now
    (c.deref-2.ensures.value ∙ c.in_ok-syncs.ensures) (option_map (λ v. v.items) c.in_ok-least_sync.field-0) c.in-Some.path.items c.in_ok-least_sync.ensures (ap (option_map (λ v. v.items)) c.in-Some.is) in
    record {
      no_cycle = c.requires.no_cycle;
      chain = subst (IsLeast (IsSyncPath (program_of c.args.p.now))) (sym c.new.ensures) least;
      place = ap (last_place (program_of c.args.p.now)) (c.new.ensures ∙ sym c.deref-in-Some.ensures.value) ∙ sym c.in_ok-last_place-in-Some.ensures ∙ c.in-Some-2.is;
    }
