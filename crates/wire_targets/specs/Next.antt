-- The next wire of an element.
use Rattle.std.specs.Prelude.{◌≡◌, ◌<◌, length, drop, slice_index_or, ℕ, ◌+◌, Bool, ◌&&◌, cond, nat_eq, List, [], ◌∷◌, unwrap_or}
use Rattle.indexmap.specs.IndexMap.{get}
use Rattle.wire_targets.specs.declared.table.Table.{Table}
use Rattle.wire_targets.specs.declared.end.Wire.{Wire}
use Rattle.wire_targets.specs.declared.end.End.{End}

-- an element of an instance
abbrev pub Place : Type 0
Place = ℕ × ℕ

abbrev pub place_of : Wire → Place
place_of w = (w.from.instance, w.from.element)

abbrev pub same_place : Place → Place → Bool
same_place p q = nat_eq p.0 q.0 && nat_eq p.1 q.1

-- the number of the first of these wires, numbered from k on, that begins at the place, or the number behind them
abbrev pub next_at : Place → ℕ → List Wire → ℕ
next_at p k [] = k
next_at p k (w ∷ ws) = cond (same_place (place_of w) p) k (next_at p (k + 1) ws)

-- the table has the next wire of its element behind each wire
pub record Follows (wires : List Wire) (after : List ℕ) : Type 0 where
  pub size : length after ≡ length wires
  pub next : (k : ℕ) (d : Wire) → k < length wires → slice_index_or after k 0 ≡ next_at (place_of (slice_index_or wires k d)) (k + 1) (drop (k + 1) wires)

-- the first wire from `from` on of this end's element
abbrev pub first_from : List Wire → End → ℕ → ℕ
first_from wires e from = next_at (e.instance, e.element) from (drop from wires)

-- the table of these wires
pub record IsTableOf (wires : List Wire) (t : Table) : Type 0 where
  pub first : (p : Place) → unwrap_or (get same_place t.first p) (length wires) ≡ next_at p 0 wires
  pub after : Follows wires t.after.items
