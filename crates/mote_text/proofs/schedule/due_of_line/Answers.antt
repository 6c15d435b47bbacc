use Rattle.std.proofs.Common.{◌∙◌, ◌∷◌, None, ap, sym, refl}
use Rattle.mote_text.specs.ScheduleText.{due_of_words}
use Rattle.mote_text.proofs.Cutting.{some_words}
use Rattle.mote_text.proofs.schedule.due_of_line.Goals as goal

-- five words or more
pub returns-in-Some : goal.returns-in-Some
returns-in-Some c =
    let slot = c.in_ok-slot.slot.now in
    let verb = c.in_ok-verb.verb.now in
    let device = c.in_ok-device.device.now in
    let fourth = c.in-Some.field-0.0.now in
    let behind = c.in-Some.field-0.1.now in
    sym (ap due_of_words
    (c.in_ok-slot.ensures.parts ∙ ap (λ t. slot ∷ t) (c.in_ok-verb.ensures.parts ∙ ap (λ t. verb ∷ t) (c.in_ok-device.ensures.parts ∙ ap (λ t. device ∷ t) c.in-Some.ensures.parts)))
    ∙ some_words (λ ws. due_of_words (slot ∷ verb ∷ device ∷ fourth ∷ ws)) None behind (λ w ws. refl))
