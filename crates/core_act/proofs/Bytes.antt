-- The bytes of a value, one after the other, and locals that hold values.
use Rattle.std.proofs.Common.{◌≡◌, ℕ, suc, ◌+◌, ◌-◌, ◌*◌, ◌/◌, ◌%◌, ◌^◌, ◌<◌, List, [], ◌∷◌, ap, sym, ◌∙◌, arith, ◌++◌, append_assoc}
use Rattle.std.specs.Prelude.{ℤ, pos, negsuc}
use Rattle.std.proofs.Math.Nat.{mul-add-mod_self_right, mod-eq_of_lt, mod-lt}
use Rattle.std.proofs.lemmas.Nat.{mod-pow-add, pow-add, pow_pos, div-mul-add}
use Rattle.core_meaning.specs.Numbers.{residue, floor_div}
use Rattle.core_meaning.specs.Work.{bytes_of}

one_byte : (size n rest byte : ℕ) → byte < 256 → n ≡ rest * 256 + byte → bytes_of (suc size) n ≡ byte ∷ bytes_of size rest
one_byte size n rest byte low is =
    let here : n % 256 ≡ byte = ap (λ j. j % 256) is ∙ mul-add-mod_self_right rest 256 byte ∙ mod-eq_of_lt low in
    let behind : n / 256 ≡ rest = ap (λ j. j / 256) is ∙ div-mul-add rest 256 byte low in
    ap (λ x. x ∷ bytes_of size (n / 256)) here ∙ ap (λ q. byte ∷ bytes_of size q) behind

mirrored : (whole part n r b : ℕ) → whole ≡ part * 256 → n ≡ r * 256 + b → r < part → b < 256 → whole - 1 - n ≡ (part - 1 - r) * 256 + (255 - b)
mirrored whole part n r b all split low small = omega arith

pub first_byte : (size : ℕ) (z : ℤ) → bytes_of (suc size) (residue (8 * suc size) z) ≡ residue 8 z ∷ bytes_of size (residue (8 * size) (floor_div z 256))
first_byte size (pos a) =
    let k : 8 * suc size ≡ 8 * size + 8 = omega arith in
    let split : a % 2 ^ (8 * suc size) ≡ (a / 256 % 2 ^ (8 * size)) * 256 + a % 256 = ap (λ j. a % 2 ^ j) k ∙ mod-pow-add a (8 * size) 8 in
    one_byte size _ _ (a % 256) (mod-lt a (omega arith)) split
first_byte size (negsuc a) =
    let k : 8 * suc size ≡ 8 * size + 8 = omega arith in
    let split : a % 2 ^ (8 * suc size) ≡ (a / 256 % 2 ^ (8 * size)) * 256 + a % 256 = ap (λ j. a % 2 ^ j) k ∙ mod-pow-add a (8 * size) 8 in
    let whole : 2 ^ (8 * suc size) ≡ 2 ^ (8 * size) * 256 = ap (λ j. 2 ^ j) k ∙ pow-add 2 (8 * size) 8 in
    let low : a % 256 < 256 = mod-lt a (omega arith) in
    one_byte size _ (2 ^ (8 * size) - 1 - a / 256 % 2 ^ (8 * size)) (255 - a % 256) (omega arith)
    (mirrored _ (2 ^ (8 * size)) _ (a / 256 % 2 ^ (8 * size)) (a % 256) whole split (mod-lt (a / 256) (pow_pos (8 * size))) low)

pub no_bits : (k : ℕ) → residue k (pos 0) ≡ 0
no_bits k = mod-eq_of_lt (pow_pos k)

-- one more byte of a value
pub byte_more : (size counter : ℕ) (done done' : List ℕ) (byte : ℕ) (rest rest' v : ℤ) → counter < size → done' ≡ done ++ byte ∷ [] → byte ≡ residue 8 rest → rest' ≡ floor_div rest 256
    → done ++ bytes_of (size - counter) (residue (8 * (size - counter)) rest) ≡ bytes_of size (residue (8 * size) v)
    → done' ++ bytes_of (size - (counter + 1)) (residue (8 * (size - (counter + 1))) rest') ≡ bytes_of size (residue (8 * size) v)
byte_more size counter done done' byte rest rest' v low more here behind so_far =
    let m = size - (counter + 1) in
    let left : size - counter ≡ suc m = omega (arith, low) in
    ap (λ xs. xs ++ bytes_of m (residue (8 * m) rest')) more
    ∙ append_assoc done (byte ∷ []) (bytes_of m (residue (8 * m) rest'))
    ∙ ap (λ z. done ++ byte ∷ bytes_of m (residue (8 * m) z)) behind
    ∙ ap (λ b. done ++ b ∷ bytes_of m (residue (8 * m) (floor_div rest 256))) here
    ∙ ap (λ xs. done ++ xs) (sym (first_byte m rest))
    ∙ ap (λ k. done ++ bytes_of k (residue (8 * k) rest)) (sym left)
    ∙ so_far
