use Rattle.elab_targets.proofs.Behind.{on_ok}
use Rattle.elab_targets.proofs.Pairs.{kept_at}
use Rattle.elab_targets.proofs.items.ItemPlaces.keep.Goals as goal

pub returns : goal.returns
returns c = on_ok c.keep_at.result (λ placed. kept_at c.args.element.now c.args.item.now c.args.place c.args.self.now _ c.add.new.self c.in_ok-element.element c.in_ok-item.item
    c.in_ok-element.ensures.number c.in_ok-item.ensures.number c.in_ok-element.ensures.names c.in_ok-item.ensures.names placed) c.keep_at.ensures
