-- The place of an item that is a label.
use Rattle.std.proofs.Common.{◌≡◌, ℕ, ◌<◌, ◌≤◌, ◌⊎◌, inl, inr, List, length}
use Rattle.std.proofs.lemmas.Bool.{cases_lt}
use Rattle.std.proofs.lemmas.List.{get_or_past}
use Rattle.msp_isa.specs.declared.code.Item.{Item}
use Rattle.msp_isa.specs.declared.code.Item.TheVariants as item
use Rattle.msp_isa.specs.declared.instr.Cond.{Cond}
use Rattle.msp_isa.specs.declared.instr.Instr.TheVariants.{Reti}
use Rattle.msp_isa.specs.Stands.{item_at}

-- behind the items stands no label and no jump
pub label_within : (items : List Item) (t l : ℕ) → item_at items t ≡ item.Label l → t < length items
label_within items t l e = go (cases_lt t (length items))
  where
    go : (t < length items) ⊎ (length items ≤ t) → t < length items
    go (inl h) = h
    go (inr h) = let past : item_at items t ≡ item.Is Reti = get_or_past items t (item.Is Reti) h in cc

pub jump_within : (items : List Item) (k : ℕ) (c : Cond) (l : ℕ) → item_at items k ≡ item.Jump c l → k < length items
jump_within items k c l e = go (cases_lt k (length items))
  where
    go : (k < length items) ⊎ (length items ≤ k) → k < length items
    go (inl h) = h
    go (inr h) = let past : item_at items k ≡ item.Is Reti = get_or_past items k (item.Is Reti) h in cc
