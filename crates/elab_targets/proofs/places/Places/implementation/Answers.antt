use Rattle.std.proofs.Common.{Bool, true, false, sym, ap, ◌∙◌}
use Rattle.program_meaning.specs.Numbers.{implements, place_of}
use Rattle.elab_targets.proofs.places.Places.implementation.Goals as goal

pub returns-then-is_default : goal.returns-then-is_default
returns-then-is_default c = λ ds are. c.get.ensures ∙ are.items_are c.args.element.now c.args.item.now true ∙ ap (λ (b : Bool). place_of (implements c.args.element.now c.args.item.now b) ds) (sym c.if-is_default.true)

pub returns-else-is_default : goal.returns-else-is_default
returns-else-is_default c = λ ds are. c.get-else-is_default.ensures ∙ are.items_are c.args.element.now c.args.item.now false ∙ ap (λ (b : Bool). place_of (implements c.args.element.now c.args.item.now b) ds) (sym c.if-is_default.false)
