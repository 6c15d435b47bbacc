use Rattle.std.proofs.Common.{◌≡◌, false, is_some, sym, ◌∙◌}
use Rattle.indexmap.specs.IndexMap.{get}
use Rattle.elab_targets.specs.Tables.{same_pair}
use Rattle.elab_targets.proofs.Keeping.{copied_none, gets_pair}
use Rattle.elab_targets.proofs.items.keep_at.Goals as goal

pub returns : goal.returns
returns c = λ i j.
    let none : is_some c.get.result ≡ false = sym c.is_some.ensures ∙ c.if-is_some.false in
    c.in_ok-insert.ensures.updates.0 (i, j)
    ∙ gets_pair (get same_pair c.args.places.now) c.args.pair (i, j) c.args.place (sym c.get.ensures.value ∙ copied_none c.get.result none)
