-- Where a function keeps its values while all of them lie on the stack (own). Up from SP lie the bytes of its frame and its other
-- values; then its return address; then its parameters, as its caller pushed them.
use Rattle.std.specs.Prelude.{ℕ, zero, suc, ◌+◌, ◌*◌, ◌/◌, ◌==◌, ◌≤◌, Bool, true, false, List, [], ◌∷◌, if◌then◌else◌}
use Rattle.mid_code.specs.declared.code.MidFn.{MidFn}
use Rattle.mid_code.specs.Form.{AreBelow}
use Rattle.open_law.specs.Homes.{Home, InFrame}

-- the next even number
abbrev pub rounded : ℕ → ℕ
rounded n = 2 * ((n + 1) / 2)

abbrev pub is_among : List ℕ → ℕ → Bool
is_among [] v = false
is_among (p ∷ ps) v = if p == v then true else is_among ps v

-- A value that is a parameter twice is pushed once, where it is passed last. How many are pushed
abbrev pub count_pushed : List ℕ → ℕ
count_pushed [] = 0
count_pushed (p ∷ ps) = if is_among ps p then count_pushed ps else suc (count_pushed ps)

-- what is pushed, of the values passed
abbrev pub pushed : (params passed : List ℕ) → List ℕ
pushed [] xs = []
pushed (p ∷ ps) [] = []
pushed (p ∷ ps) (x ∷ xs) = if is_among ps p then pushed ps xs else x ∷ pushed ps xs

-- how many are pushed behind a parameter
abbrev pub pushed_behind : List ℕ → ℕ → ℕ
pushed_behind [] v = 0
pushed_behind (p ∷ ps) v = if is_among ps v then pushed_behind ps v else count_pushed ps

-- how many of the values below n are no parameters
abbrev pub others_below : List ℕ → ℕ → ℕ
others_below params zero = 0
others_below params (suc v) = others_below params v + (if is_among params v then 0 else 1)

-- the bytes below the return address, and from SP to behind the parameters
abbrev pub own_bytes : MidFn → ℕ
own_bytes fn = rounded fn.frame + 2 * others_below fn.params fn.values

abbrev pub parameter_bytes : MidFn → ℕ
parameter_bytes fn = 2 * count_pushed fn.params

-- the home of a value
abbrev pub frame_place : MidFn → ℕ → ℕ
frame_place fn v =
    if is_among fn.params v
    then own_bytes fn + 2 + 2 * pushed_behind fn.params v
    else rounded fn.frame + 2 * others_below fn.params v

abbrev pub frame_home : MidFn → ℕ → Home
frame_home fn v = InFrame (frame_place fn v)

-- What a function holds on the stack: its own bytes, and what was pushed for it. It is no more than its frame and two bytes for each
-- value
abbrev pub FramesAreSmall : Type 0
FramesAreSmall = (fn : MidFn) → AreBelow fn.values fn.params → own_bytes fn + parameter_bytes fn ≤ rounded (fn.frame + 2 * fn.values)
