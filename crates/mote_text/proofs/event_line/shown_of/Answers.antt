use Rattle.std.proofs.Common.{◌∙◌, ◌∷◌, None, ap, sym, refl}
use Rattle.mote_text.specs.TraceWords.{shown_of}
use Rattle.mote_text.proofs.Cutting.{some_words}
use Rattle.mote_text.proofs.event_line.shown_of.Goals as goal

-- three words or more
pub returns-in-Some-cut : goal.returns-in-Some-cut
returns-in-Some-cut c =
    let first = c.in-Some.first.now in
    let second = c.in-Some-cut.field-0.0.now in
    sym (ap (shown_of c.args.verb.now) (c.in-Some.ensures.parts ∙ ap (λ t. first ∷ t) c.in-Some-cut.ensures.parts)
    ∙ some_words (λ ws. shown_of c.args.verb.now (first ∷ second ∷ ws)) None c.in-Some-cut.field-0.1.now (λ w ws. refl))
