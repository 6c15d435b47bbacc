use Rattle.std.proofs.Common.{◌≡◌, Bool, true, false, sym, ap, ◌∙◌}
use Rattle.std.specs.Cmp.Lexicographic.{bytes_decides}
use Rattle.std.proofs.lemmas.Option.{same_Some}
use Rattle.mote_text.specs.TraceText.{event_text}
use Rattle.mote_text.specs.declared.trace.Event.{Event}
use Rattle.mote_text.proofs.EventWords.{event_again}
use Rattle.mote_text.proofs.event_line.read_event.Goals as goal

pub returns-in_err-event-clause-every : goal.returns-in_err-event-clause-every
returns-in_err-event-clause-every c = λ e h is. c.from_residual.ensures ∙ sym c.in_err-event.was ∙ c.event_of.ensures ∙ event_again e c.args.line.now h is

pub returns-then-eq-clause-every : goal.returns-then-eq-clause-every
returns-then-eq-clause-every c = λ e h is. sym c.in_ok-event.was ∙ c.event_of.ensures ∙ event_again e c.args.line.now h is

not_false : (b : Bool) → b ≡ true → b ≡ false → ⊥
not_false b h k = cc

pub returns-else-eq-clause-every : goal.returns-else-eq-clause-every
returns-else-eq-clause-every c = λ e h is.
    let same : c.in_ok-event.event ≡ e = same_Some c.in_ok-event.event e (sym c.in_ok-event.was ∙ c.event_of.ensures ∙ event_again e c.args.line.now h is) in
    let text = c.as_slice.ensures.value ∙ c.line_of-printed.ensures ∙ ap (λ (x : Event). event_text x.slot x.shown) same ∙ is in
    absurd (not_false c.eq.result (c.eq.ensures ∙ (bytes_decides c.as_slice.result.now c.args.line.now).1 text) c.if-eq.false)
