-- A run and its remainder as numbers: x is an address of a part where it lies in the run, and has the remainder of its first address.
use Rattle.std.proofs.Common.{◌≡◌, ◌≢◌, ℕ, suc, ◌+◌, ◌-◌, ◌*◌, ◌/◌, ◌%◌, ◌<◌, ◌≤◌, ◌==◌, ◌&&◌, Bool, true, false, nat_le, nat_lt, refl, ap, ◌∙◌, arith}
use Rattle.std.proofs.Math.Nat.{div-add-mod}
use Rattle.std.proofs.lemmas.Bool.Decides.{nat_tests}
use Rattle.std.proofs.lemmas.Nat.{mod-mul-add, mod_below, mul-le}
use Rattle.mid_code.specs.Help.{is_in_run}
use Rattle.msp_checks.specs.Checks.{last_of}

-- a number by its quotient and remainder
split : (n d : ℕ) → n ≡ (n / d) * d + n % d
split n d = let e = div-add-mod n d in omega (arith, e)

up_by : (p q d t s : ℕ) → p * d + t ≤ q * d + s → s < d → p ≤ q
up_by p q d t s le lt = by (nat_le p q) refl
  where
    by : (b : Bool) → nat_le p q ≡ b → p ≤ q
    by true e = grind (arith, nat_tests)
    by false e =
        let l : suc q ≤ p = grind (arith, nat_tests) in
        let m = mul-le (suc q) d p d l (omega arith) in absurd (omega (arith, m, le, lt))

module _ (size x start : ℕ) (some : 0 < size) (le : start ≤ x) where
  abbrev offset : ℕ
  offset = x - start

  remainder_same : offset % size ≡ 0 → x % size ≡ start % size
  remainder_same e =
      let a = split offset size in let b = split start size in
      let q = offset / size in let p = start / size in let t = start % size in
      let back : start + offset ≡ x = omega (arith, le) in
      let sum : x ≡ (q + p) * size + t = omega (arith, a, b, e, back) in
      ap (λ n. n % size) sum ∙ mod-mul-add (q + p) size t (mod_below start size some)

  offset_whole : x % size ≡ start % size → offset % size ≡ 0
  offset_whole e =
      let a = split x size in let b = split start size in
      let q = x / size in let p = start / size in let t = start % size in
      let lt : t < size = mod_below start size some in
      let pq : p ≤ q = up_by p q size t t (omega (arith, a, b, e, le)) lt in
      let more = q - p in
      let whole : q ≡ p + more = omega (arith, pq) in
      let times : q * size ≡ p * size + more * size = ap (λ n. n * size) whole ∙ omega arith in
      let sum : offset ≡ more * size + 0 = omega (arith, a, b, e, times, le) in
      ap (λ n. n % size) sum ∙ mod-mul-add more size 0 some

  part_below : (count : ℕ) → offset / size < count → offset < size * count
  part_below count lt =
      let a = split offset size in let r = mod_below offset size some in
      let m = mul-le (suc (offset / size)) size count size lt (omega arith) in omega (arith, a, r, m)

  below_part : (count : ℕ) → offset < size * count → offset / size < count
  below_part count lt = by (nat_lt (offset / size) count) refl
    where
      by : (b : Bool) → nat_lt (offset / size) count ≡ b → offset / size < count
      by true e = grind (arith, nat_tests)
      by false e =
          let l : count ≤ offset / size = grind (arith, nat_tests) in
          let a = split offset size in
          let m = mul-le count size (offset / size) size l (omega arith) in absurd (omega (arith, a, m, lt))

module _ (size x start count : ℕ) (some : 0 < size) (small : x < 0x10000) (parts : 0 < count) where
  some_bytes : 0 < size * count
  some_bytes = let m = mul-le 1 1 size count some parts in omega (arith, m)

  pub is_part_of : start ≤ x → x ≤ last_of size (start, count) → x % size ≡ start % size → is_in_run size x (start, count) ≡ true
  is_part_of le in_run same =
      let b = some_bytes in
      let lt : x - start < size * count = omega (arith, le, in_run, b) in
      let w = offset_whole size x start some le same in let p = below_part size x start some le count lt in
      let t1 : nat_le start x ≡ true = grind (arith, nat_tests) in
      let t2 : ((x - start) % size == 0) ≡ true = grind (arith, nat_tests) in
      let t3 : nat_lt ((x - start) / size) count ≡ true = grind (arith, nat_tests) in
      rw (t1, t2, t3) refl

  pub not_before : x < start → is_in_run size x (start, count) ≡ false
  not_before lt = let t1 : nat_le start x ≡ false = grind (arith, nat_tests) in rw t1 refl

  pub not_behind : start ≤ x → last_of size (start, count) < x → is_in_run size x (start, count) ≡ false
  not_behind le lt = by (nat_lt ((x - start) / size) count) refl
    where
      t1 : nat_le start x ≡ true
      t1 = grind (arith, nat_tests)

      any : (b : Bool) → (b && false) ≡ false
      any true = refl
      any false = refl

      by : (b : Bool) → nat_lt ((x - start) / size) count ≡ b → is_in_run size x (start, count) ≡ false
      by true e =
          let l : (x - start) / size < count = grind (arith, nat_tests) in
          let p = part_below size x start some le count l in absurd (omega (arith, p, lt, le, small))
      by false e = rw (t1, e) (any ((x - start) % size == 0))

  pub not_between : start ≤ x → x % size ≢ start % size → is_in_run size x (start, count) ≡ false
  not_between le other = by ((x - start) % size == 0) refl
    where
      t1 : nat_le start x ≡ true
      t1 = grind (arith, nat_tests)

      by : (b : Bool) → ((x - start) % size == 0) ≡ b → is_in_run size x (start, count) ≡ false
      by true e = absurd (other (remainder_same size x start some le (grind (arith, nat_tests))))
      by false e = rw (t1, e) refl
