-- Copies of elements and fields, one behind the other; how deep structs stand in one another.
use Rattle.std.proofs.Common.{◌≡◌, ℕ, ◌+◌, ◌-◌, ◌*◌, ◌<◌, ◌≤◌, max, zero, suc, List, [], ◌∷◌, ◌++◌, length, map, drop, get_or, ap, ◌∙◌, sym, refl, arith, append-nil, append_assoc}
use Rattle.std.proofs.Math.ListN.{drop_of_length-le}
use Rattle.std.proofs.Math.Nat.{suc-mul}
use Rattle.std.specs.Prelude.{slice_get, Option, Some, None}
use Rattle.std.specs.List.{flat_map, range_with_len}
use Rattle.std.proofs.lemmas.Option.{slice_get-map}
use Rattle.nm_base.specs.declared.pos.Pos.{Pos}
use Rattle.nesc_core.specs.declared.tree.Field as rust_field
use Rattle.nesc_core.specs.View.{field_of, type_of}
use Rattle.nesc_core.specs.Plain.{Ty, void, int, pointer, array, struct, Expr, Place, Field, field}
use Rattle.elab_meaning.specs.Scope.{Struct}
use Rattle.elab_meaning.specs.Places.{copies_in, copies_of_fields, copies_of_struct, fields_of_struct}

-- one element more
elements-from : (f : ℕ → List Expr) (a n : ℕ) → flat_map f (range_with_len a (suc n)) ≡ flat_map f (range_with_len a n) ++ f (a + n)
elements-from f a zero = let e : a ≡ a + 0 = omega arith in append-nil (f a) ∙ ap f e
elements-from f a (suc n) =
    let e : a + 1 + n ≡ a + suc n = omega arith in
    ap (λ (xs : List Expr). f a ++ xs) (elements-from f (a + 1) n)
    ∙ (sym (append_assoc (f a) (flat_map f (range_with_len (a + 1) n)) (f (a + 1 + n)))
    ∙ ap (λ k. flat_map f (range_with_len a (suc n)) ++ f k) e)

pub elements-more : (f : ℕ → List Expr) (n : ℕ) → flat_map f (range_with_len 0 (n + 1)) ≡ flat_map f (range_with_len 0 n) ++ f n
elements-more f n =
    let e : n + 1 ≡ suc n = omega arith in
    let g : 0 + n ≡ n = omega arith in
    ap (λ k. flat_map f (range_with_len 0 k)) e ∙ elements-from f 0 n ∙ ap (λ k. flat_map f (range_with_len 0 n) ++ f k) g

-- the first field that is left
pub field-here : (of_struct : ℕ → Place → Place → List Expr) (at at_value : Pos) (n : ℕ) (xs : List rust_field.Field) (i : ℕ) (d : rust_field.Field) (p q : Place)
    → i < length xs
    → copies_of_fields of_struct at at_value n (map field_of (drop i xs)) p q
    ≡ copies_in of_struct at at_value (type_of (get_or xs i d).ty) (field p n) (field q n)
    ++ copies_of_fields of_struct at at_value (n + 1) (map field_of (drop (i + 1) xs)) p q
field-here of_struct at at_value n [] i d p q h = absurd (omega arith)
field-here of_struct at at_value n (x ∷ xs) zero d p q h =
    let e : suc n ≡ n + 1 = omega arith in
    ap (λ k. copies_in of_struct at at_value (type_of x.ty) (field p n) (field q n) ++ copies_of_fields of_struct at at_value k (map field_of xs) p q) e
field-here of_struct at at_value n (x ∷ xs) (suc i) d p q h =
    let e : suc i + 1 ≡ suc (i + 1) = omega arith in
    field-here of_struct at at_value n xs i d p q (omega arith)
    ∙ ap (λ k. copies_in of_struct at at_value (type_of (get_or xs i d).ty) (field p n) (field q n)
    ++ copies_of_fields of_struct at at_value (n + 1) (map field_of (drop k (x ∷ xs))) p q) (sym e)

pub ruleset structs = (slice_get-map)

-- ---- how high types are

abbrev pub height : Ty → ℕ
height void = 1
height (int t) = 1
height (pointer t) = 1
height (array t n) = suc (height t)
height (struct k) = 1

abbrev pub highest : List Field → ℕ
highest [] = 0
highest (f ∷ fs) = max (height f.ty) (highest fs)

abbrev pub highest_of : List Struct → ℕ
highest_of [] = 0
highest_of (s ∷ ss) = max (highest s.fields) (highest_of ss)

pub highest-in : (ss : List Struct) (k : ℕ) → highest (fields_of_struct (slice_get ss k)) ≤ highest_of ss
highest-in [] k = omega arith
highest-in (s ∷ ss) zero = omega arith
highest-in (s ∷ ss) (suc k) = omega (arith, highest-in ss k)

pub height-at : (xs : List rust_field.Field) (i : ℕ) (d : rust_field.Field) → i < length xs → height (type_of (get_or xs i d).ty) ≤ highest (map field_of xs)
height-at [] i d h = absurd (omega arith)
height-at (x ∷ xs) zero d h = omega arith
height-at (x ∷ xs) (suc i) d h = omega (arith, height-at xs i d (omega arith))

fall-of : (a b most h : ℕ) → a ≡ b + (most + 2) → h ≤ most → 2 * (b + h) < 2 * a
fall-of a b most h e low = omega (arith, e, low)

-- one struct less deep
pub parts-fall : (depth most h : ℕ) → 0 < depth → h ≤ most → 2 * ((depth - 1) * (most + 2) + h) < 2 * (depth * (most + 2))
parts-fall depth most h some low =
    let e : depth ≡ suc (depth - 1) = omega (arith, some) in
    let m : depth * (most + 2) ≡ (depth - 1) * (most + 2) + (most + 2) = ap (λ k. k * (most + 2)) e ∙ suc-mul (depth - 1) (most + 2) in
    fall-of (depth * (most + 2)) ((depth - 1) * (most + 2)) most h m low

pub field-low : (ss : List Struct) (k : ℕ) (xs : List rust_field.Field) (i : ℕ) (x : rust_field.Field)
    → map field_of xs ≡ fields_of_struct (slice_get ss k) → i < length xs → x ≡ get_or xs i x → height (type_of x.ty) ≤ highest_of ss
field-low ss k xs i x same below is =
    let here : height (type_of (get_or xs i x).ty) ≤ highest (map field_of xs) = height-at xs i x below in
    let whole : highest (map field_of xs) ≡ highest (fields_of_struct (slice_get ss k)) = ap highest same in
    let own : height (type_of x.ty) ≡ height (type_of (get_or xs i x).ty) = ap (λ (y : rust_field.Field). height (type_of y.ty)) is in
    omega (arith, here, whole, own, highest-in ss k)

-- ---- all fields are copied

struct-copied : (ss : List Struct) (at at_value : Pos) (depth k : ℕ) (p q : Place) → (depth ≡ 0 → ⊥)
    → copies_of_struct ss at at_value depth k p q ≡ copies_of_fields (copies_of_struct ss at at_value (depth - 1)) at at_value 0 (fields_of_struct (slice_get ss k)) p q
struct-copied ss at at_value zero k p q some = absurd (some refl)
struct-copied ss at at_value (suc d) k p q some =
    let e : d ≡ suc d - 1 = omega arith in
    ap (λ n. copies_of_fields (copies_of_struct ss at at_value n) at at_value 0 (fields_of_struct (slice_get ss k)) p q) e

pub all-copied : (ss : List Struct) (at at_value : Pos) (depth k : ℕ) (p q : Place) (fields : List rust_field.Field) (j : ℕ) (before after : List Expr)
    → (depth ≡ 0 → ⊥) → map field_of fields ≡ fields_of_struct (slice_get ss k) → length fields ≤ j
    → after ++ copies_of_fields (copies_of_struct ss at at_value (depth - 1)) at at_value j (map field_of (drop j fields)) p q
    ≡ before ++ copies_of_fields (copies_of_struct ss at at_value (depth - 1)) at at_value 0 (map field_of fields) p q
    → after ≡ before ++ copies_of_struct ss at at_value depth k p q
all-copied ss at at_value depth k p q fields j before after some same ends done =
    let none : drop j fields ≡ [] = drop_of_length-le fields ends in
    let left : after ++ copies_of_fields (copies_of_struct ss at at_value (depth - 1)) at at_value j (map field_of (drop j fields)) p q ≡ after =
    ap (λ (xs : List rust_field.Field). after ++ copies_of_fields (copies_of_struct ss at at_value (depth - 1)) at at_value j (map field_of xs) p q) none ∙ append-nil after in
    let right : copies_of_fields (copies_of_struct ss at at_value (depth - 1)) at at_value 0 (map field_of fields) p q ≡ copies_of_struct ss at at_value depth k p q =
    ap (λ (fs : List Field). copies_of_fields (copies_of_struct ss at at_value (depth - 1)) at at_value 0 fs p q) same ∙ sym (struct-copied ss at at_value depth k p q some) in
    sym left ∙ (done ∙ ap (λ (ys : List Expr). before ++ ys) right)

pub ruleset copies = (elements-more, field-here, append_assoc, append-nil)
