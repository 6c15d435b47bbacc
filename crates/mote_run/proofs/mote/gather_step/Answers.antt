use Rattle.std.proofs.Common.{List, ◌++◌, ap, sym, ◌∙◌, append-nil, drop, take, ◌+◌}
use Rattle.std.proofs.lemmas.List.{take_all}
use Rattle.mote_bus.specs.declared.access.Access.{Access}
use Rattle.mote_bus.specs.Accesses.{events_of}
use Rattle.mote_run.specs.RunText.{shown_behind}
use Rattle.mote_run.proofs.Gathered.{stops, goes_on}
use Rattle.mote_run.proofs.Writing.{lines_of, next_lines, all_lines, lines-append, events-append}
use Rattle.mote_run.proofs.mote.gather_step.Goals as goal

pub returns-in_err-gather_shown : goal.returns-in_err-gather_shown
returns-in_err-gather_shown g c =
    let number = c.args.number in
    let accesses = c.args.accesses.now in
    let i = c.loop-access.access-index in
    stops (tt {0}) _ c.from_residual.result _ _ _ (lines_of number (events_of (take i accesses))) _ (lines_of number (events_of (drop (i + 1) accesses) ++ shown_behind c.args.stepped)) _ c.from_residual.ensures.0
    (all_lines events_of events-append number accesses i _ c.loop-access-test.true (shown_behind c.args.stepped)
    ∙ ap (λ l. (lines_of number (events_of (take i accesses)) ++ lines_of number l) ++ lines_of number (events_of (drop (i + 1) accesses) ++ shown_behind c.args.stepped)) (append-nil _ ∙ sym c.shown.ensures))
    c.loop-access.invariant c.in_err-gather_shown.ensures

pub loop-access-preserved : goal.loop-access-preserved
loop-access-preserved g c =
    let number = c.args.number in
    let accesses = c.args.accesses.now in
    let i = c.loop-access.access-index in
    goes_on (tt {0}) _ _ _ _ (lines_of number (events_of (take i accesses))) _ _
    (next_lines events_of events-append number accesses i _ c.loop-access-test.true
    ∙ ap (λ l. lines_of number (events_of (take i accesses)) ++ lines_of number l) (append-nil _ ∙ sym c.shown.ensures))
    c.loop-access.invariant c.in_ok-gather_shown.ensures

pub returns : goal.returns
returns g c =
    let number = c.args.number in
    let accesses = c.args.accesses.now in
    let i = c.loop-access.access-index in
    let behind = shown_behind c.args.stepped in
    goes_on (tt {0}) _ _ _ _ (lines_of number (events_of (take i accesses))) _ _
    (ap (λ (l : List Access). lines_of number (events_of l ++ behind)) (sym (take_all i accesses c.loop-access-test.false))
    ∙ lines-append number (events_of (take i accesses)) behind
    ∙ ap (λ l. lines_of number (events_of (take i accesses)) ++ lines_of number l) (sym c.shown_behind.ensures))
    c.loop-access.invariant c.gather_shown-2.ensures
