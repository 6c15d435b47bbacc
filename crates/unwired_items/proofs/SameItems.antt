-- The items of elements, seen by name and kind alone.
use Rattle.std.proofs.Common.{◌≡◌, refl, ap, List, [], ◌∷◌, map}
use Rattle.nesc_tree.specs.declared.components.Sig.{Sig}
use Rattle.program_meaning.specs.Parts.{Elem}
use Rattle.nesc_unwired.specs.Told.{Element, Item}
use Rattle.elab_targets.specs.View.{sig_of}
use Rattle.item_targets.specs.View as told
use Rattle.unwired_items.specs.Modules.{item_of}

pub same_items : (items : List Sig) → map told.item_of items ≡ map item_of (map sig_of items)
same_items [] = refl
same_items (x ∷ xs) = ap (λ l. item_of (sig_of x) ∷ l) (same_items xs)

-- an element with these items
abbrev pub with_items : Elem → List Item → Element
with_items x items = record { provides = x.provides; name = x.name; parameter = x.parameter; items = items; at = x.at }
