-- There are no more types in order than types.
use Rattle.std.proofs.Common.{◌+◌, ◌≤◌, Bool, true, false, List, [], ◌∷◌, ◌++◌, length, arith, length-append}
use Rattle.std.specs.Prelude.{if◌then◌else◌}
use Rattle.std.specs.List.{list_any}
use Rattle.nesc_core.specs.Plain.{Ty}
use Rattle.nesc_core.specs.Derefs.{derefs}
use Rattle.nesc_core.specs.Parts.{same_type}
use Rattle.lower_stmt.specs.Bodies.{in_order}
use Rattle.range_sums.specs.Laws.{ChecksAreFew}

with_one : (old : Bool) (seen : List Ty) (t : Ty) → length (if old then seen else seen ++ t ∷ []) ≤ length seen + 1
with_one true seen t = omega arith
with_one false seen t = let both = length-append seen (t ∷ []) in omega (arith, both)

in_order_few : (ts seen : List Ty) → length (in_order seen ts) ≤ length seen + length ts
in_order_few [] seen = omega arith
in_order_few (t ∷ ts) seen =
    let h = with_one (list_any (λ u. same_type u t) seen) seen t in
    let g = in_order_few ts (if list_any (λ u. same_type u t) seen then seen else seen ++ t ∷ []) in
    omega (arith, h, g)

pub checks_few : ChecksAreFew
checks_few p = let h = in_order_few (derefs p) [] in omega (arith, h)
