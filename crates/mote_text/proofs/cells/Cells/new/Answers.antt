use Rattle.std.proofs.Common.{◌≡◌, ℕ, Option, None, Some, refl}
use Rattle.mote_text.proofs.ImageBytes.{empty_cells}
use Rattle.mote_text.proofs.cells.Cells.new.Goals as goal

-- only None is a clone of None
only_none : (P : Option ℕ → Type 0) → ((x : ℕ) → P (Some x) → ⊥) → ((y : Option ℕ) → P y → y ≡ None)
only_none P none None h = refl
only_none P none (Some x) h = absurd (none x h)

pub returns : goal.returns
returns c = empty_cells 49152 c.in_ok-vec.field-0.items (c.in_ok-vec.ensures.items_if_clones_equal (only_none _ (λ x h. h)))
