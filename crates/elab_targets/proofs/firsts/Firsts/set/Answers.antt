use Rattle.std.proofs.Common.{◌∙◌, ap, ℕ, List, Some, cond}
use Rattle.std.specs.Prelude.{bytes_eq}
use Rattle.wire_names.specs.Places.{Placed, place_of, held}
use Rattle.wire_names.proofs.Placing.{inserted}
use Rattle.elab_targets.proofs.firsts.Firsts.set.Goals as goal

pub returns : goal.returns
returns c = λ other.
    ap (λ (es : List _). place_of (held es) other) c.in_ok-insert.ensures.entries
    ∙ (inserted c.in_ok-key.key c.args.place c.self.inside.places.entries other
    ∙ (ap (λ (text : List ℕ). cond (bytes_eq other text) (Some c.args.place) (place_of (held c.self.inside.places.entries) other)) (c.in_ok-key.ensures ∙ c.as_bytes.ensures)
    ∙ ap (λ (ps : Placed). cond (bytes_eq other c.args.name.now) (Some c.args.place) (place_of ps other)) c.self.view_is))
