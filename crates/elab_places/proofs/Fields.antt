-- Tables of fields and structs, seen through their entries.
use Rattle.std.proofs.Common.{◌≡◌, ℕ, ◌+◌, ◌<◌, zero, suc, List, [], ◌∷◌, length, map, drop, get_or, Some, if◌then◌else◌, bytes_eq, ap, ◌∙◌, sym, arith}
use Rattle.std.proofs.lemmas.Option.{slice_get-map}
use Rattle.elab_meaning.specs.Scope.{field_from}
use Rattle.nesc_core.specs.declared.tree.Field as rust_field
use Rattle.nesc_core.specs.View.{type_of, field_of}

-- the first field that is left has the name, or the others do
pub field-here : (n : ℕ) (name : List ℕ) (xs : List rust_field.Field) (i : ℕ) (d : rust_field.Field) → i < length xs
    → field_from n (map field_of (drop i xs)) name
    ≡ (if bytes_eq (field_of (get_or xs i d)).name name then Some (n, (field_of (get_or xs i d)).ty) else field_from (n + 1) (map field_of (drop (i + 1) xs)) name)
field-here n name [] i d h = absurd (omega arith)
field-here n name (x ∷ xs) zero d h =
    let e : suc n ≡ n + 1 = omega arith in
    ap (λ k. if bytes_eq x.name name then Some (n, type_of x.ty) else field_from k (map field_of xs) name) e
field-here n name (x ∷ xs) (suc i) d h =
    let e : suc i + 1 ≡ suc (i + 1) = omega arith in
    field-here n name xs i d (omega arith)
    ∙ ap (λ k. if bytes_eq (field_of (get_or xs i d)).name name then Some (n, (field_of (get_or xs i d)).ty) else field_from (n + 1) (map field_of (drop k (x ∷ xs))) name) (sym e)

pub ruleset fields = (field-here, slice_get-map)
