-- A list that is written is a function that is put.
use Rattle.std.proofs.Common.{◌≡◌, ◌≢◌, ℕ, ◌<◌, ◌≤◌, List, length, refl, sym, ap, ◌∙◌, ⊎_elim, get_or-set_same, get_or-set_other, arith}
use Rattle.std.specs.Prelude.{slice_index, slice_set, ◌==◌, if◌then◌else◌, nat_lt, false}
use Rattle.std.proofs.lemmas.Bool.{eq-eqb, lt-ltb}
use Rattle.std.proofs.lemmas.Bool.Decides.{eqb_tells, nat_tests}
use Rattle.mid_code.specs.Machine.{put, poke_byte}

pub put_same : (values : ℕ → ℕ) (v x : ℕ) → put values v x v ≡ x
put_same values v x = ap (λ b. if b then x else values v) (eq-eqb v v refl)

pub put_other : (values : ℕ → ℕ) (v x i : ℕ) → i ≢ v → put values v x i ≡ values i
put_other values v x i ne = grind (arith, nat_tests)

at : (l : List ℕ) (v x i : ℕ) → v < length l → slice_index (slice_set l v x) i ≡ put (slice_index l) v x i
at l v x i lt = ⊎_elim
    (λ t. ap (slice_index (slice_set l v x)) t.1 ∙ get_or-set_same l v x 0 lt ∙ sym (put_same (slice_index l) v x) ∙ ap (put (slice_index l) v x) (sym t.1))
    (λ t. get_or-set_other l v i x 0 t.1 ∙ sym (put_other (slice_index l) v x i t.1))
    (eqb_tells i v)

pub written : (l : List ℕ) (v x : ℕ) → v < length l → slice_index (slice_set l v x) ≡ put (slice_index l) v x
written l v x lt = λ j. λ i. at l v x i lt j

pub set_byte : (l : List ℕ) (o x : ℕ) → o < length l → slice_index (slice_set l o x) ≡ poke_byte (length l) (slice_index l) o x
set_byte l o x lt = written l o x lt ∙ sym (ap (λ b. if b then put (slice_index l) o x else slice_index l) (lt-ltb o (length l) lt))

not_below : (x y : ℕ) → (x < y → ⊥) → nat_lt x y ≡ false
not_below x y h = let le : y ≤ x = omega arith in grind (arith, nat_tests)

pub set_outside : (l : List ℕ) (o x : ℕ) → length l ≤ o → slice_index l ≡ poke_byte (length l) (slice_index l) o x
set_outside l o x le = sym (ap (λ b. if b then put (slice_index l) o x else slice_index l) (not_below o (length l) (λ lt. omega arith)))
