-- Items with shortest jumps are within their bytes with longer ones.
use Rattle.std.proofs.Common.{◌≡◌, inl, inr, ℕ, suc, ◌<◌, ◌≤◌, List, [], ◌∷◌, length, sum, arith}
use Rattle.std.specs.Prelude.{slice_index}
use Rattle.std.proofs.lemmas.List.Sums.{sum_by-cons}
use Rattle.msp_isa.specs.declared.code.Item.{Item}
use Rattle.msp_isa.specs.declared.code.Item.TheVariants as item
use Rattle.msp_isa.specs.Stands.{item_at}
use Rattle.msp_layout.specs.Sizes.{HasSize}
use Rattle.msp_layout.proofs.Growing.{long_is_longer, sum-cons}
use Rattle.code_bytes.specs.Bytes.{most_bytes, most_in}
use Rattle.code_bytes.specs.Laws.{ItemsAreWithin}

one_within : (i : Item) (n : ℕ) → HasSize i n → n ≤ most_bytes i
one_within (item.Is i) n h = omega (arith, h)
one_within (item.Label l) n h = omega (arith, h)
one_within (item.Jump c l) n (inl h) = let longer = long_is_longer c in omega (arith, h, longer)
one_within (item.Jump c l) n (inr h) = omega (arith, h)
one_within (item.CallFn f) n h = omega (arith, h)
one_within (item.AddrOf f r) n h = omega (arith, h)

all_within : (items : List Item) (sizes : List ℕ) → length sizes ≡ length items → ((k : ℕ) → k < length items → HasSize (item_at items k) (slice_index sizes k)) → sum sizes ≤ most_in items
all_within [] [] len each = omega arith
all_within [] (n ∷ sizes) len each = absurd (omega (arith, len))
all_within (i ∷ items) [] len each = absurd (omega (arith, len))
all_within (i ∷ items) (n ∷ sizes) len each =
    let first = one_within i n (each 0 (omega arith)) in
    let rest = all_within items sizes (omega (arith, len)) (λ k lt. each (suc k) (omega (arith, lt))) in
    let s = sum-cons n sizes in
    let t = sum_by-cons most_bytes i items in
    omega (arith, first, rest, s, t)

pub items_within : ItemsAreWithin
items_within items sizes shortest = all_within items sizes shortest.correct.len shortest.correct.each
