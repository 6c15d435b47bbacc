-- The table of silent actions, where functions are laid out one behind another (own).
use Rattle.std.specs.Prelude.{◌≡◌, ℕ, zero, suc, ◌<◌, ◌≤◌, ◌==◌, ◌&&◌, nat_le, nat_lt, if◌then◌else◌, List, [], ◌∷◌, length}
use Rattle.nm_base.specs.declared.action.Action.{Action}
use Rattle.msp_isa.specs.declared.code.CodeFn.{CodeFn}
use Rattle.msp_isa.specs.Stands.{items_of}
use Rattle.mid_code.specs.declared.code.MidCode.{MidCode}
use Rattle.msp_layout.specs.Order.{AreInOrder}
use Rattle.open_law.specs.Homes.{Home}
use Rattle.msp_select.specs.Laid.{AreMarked, parts}
use Rattle.msp_select.specs.Select.{Part, items_of as items_of_parts}

-- those of parts at these places: a part without code has none
abbrev pub silent_in : List Part → (ℕ → ℕ) → ℕ → List Action
silent_in [] place a = []
silent_in (p ∷ ps) place a = if (place 0 == a) && nat_lt (place 0) (place 1) then p.silent else silent_in ps (λ k. place (suc k)) a

-- those of the first n functions
abbrev pub silent_of : (fns : ℕ → List Part) (places : ℕ → ℕ → ℕ) → (n : ℕ) → ℕ → List Action
silent_of fns places zero a = []
silent_of fns places (suc f) a =
    if nat_le (places f 0) a && nat_lt a (places f (length (fns f)))
    then silent_in (fns f) (places f) a
    else silent_of fns places f a

-- those of all functions of middle code
abbrev pub table_of : MidCode → (homes : ℕ → ℕ → Home) → (own : ℕ → ℕ) → (places : ℕ → ℕ → ℕ) → ℕ → List Action
table_of c homes own places = silent_of (parts c homes own) places (length c.fns)

-- The table is that of the parts, and code behind the functions has no silent actions
abbrev pub TablesAreMarked : Type 0
TablesAreMarked =
    (c : MidCode) (homes : ℕ → ℕ → Home) (own : ℕ → ℕ) (out : List CodeFn) (places : ℕ → ℕ → ℕ) →
    length c.fns ≤ length out → ((f : ℕ) → f < length c.fns → items_of out f ≡ items_of_parts (parts c homes own f)) → AreInOrder out places →
    AreMarked c homes own (table_of c homes own places) places × ((g a : ℕ) → length c.fns ≤ g → g < length out → places g 0 ≤ a → table_of c homes own places a ≡ [])
