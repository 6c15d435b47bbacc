-- The test of a numeral against what std reads as a number of 32 bits.
use Rattle.std.proofs.Common.{◌≡◌, ℕ, zero, suc, ◌<◌, ◌≤◌, ◌^◌, ◌==◌, Bool, true, false, ◌&&◌, cond, nat_lt, List, [], ◌∷◌, length, drop, get_or, Option, Some, None, arith, refl, sym, ap, ◌∙◌}
use Rattle.std.specs.Prelude.{nat_le}
use Rattle.std.specs.List.{list_all}
use Rattle.std.specs.Char.{digit_value}
use Rattle.std.specs.Str.{IsAscii, IsUtf8}
use Rattle.std.specs.Str.Parse.{AllDigits, IsNumeral, digits_value, ParsesUnsigned, without_leading_plus}
use Rattle.std.specs.Result.{result_ok}
use Rattle.std.specs.Option.{option_and_then}
use Rattle.std.specs.declared.result.Result.{Result}
use Rattle.std.specs.declared.result.Result.TheVariants.{Ok, Err}
use Rattle.std.proofs.lemmas.Bool.{and_parts, and_from}
use Rattle.std.proofs.lemmas.Bool.Decides.{nat_tests}
use Rattle.std.proofs.lemmas.Str.{IsUtf8-from_ascii}
use Rattle.mote_text.specs.Lines.{is_numeral, numeral}

pub all_digits : (base : ℕ) (ds : List ℕ) → list_all (λ d. nat_lt (digit_value d) base) ds ≡ true → AllDigits base ds
all_digits base [] h = tt
all_digits base (d ∷ ds) h =
    let p = and_parts (nat_lt (digit_value d) base) (list_all (λ d. nat_lt (digit_value d) base) ds) h in
    let t = p.0 in
    (grind (arith, nat_tests), all_digits base ds p.1)

pub passes : (base : ℕ) (ds : List ℕ) → AllDigits base ds → list_all (λ d. nat_lt (digit_value d) base) ds ≡ true
passes base [] h = refl
passes base (d ∷ ds) h =
    let t = h.0 in
    and_from (nat_lt (digit_value d) base) (list_all (λ d. nat_lt (digit_value d) base) ds) (grind (arith, nat_tests)) (passes base ds h.1)

-- a digit of a base up to 16 is ASCII
digit_ascii : (base d : ℕ) → base ≤ 16 → digit_value d < base → d < 128
digit_ascii base d h k = grind (arith, nat_tests)

pub ascii : (base : ℕ) (ds : List ℕ) → base ≤ 16 → AllDigits base ds → IsAscii ds
ascii base [] h k i = omega arith
ascii base (d ∷ ds) h k zero = digit_ascii base d h k.0
ascii base (d ∷ ds) h k (suc i) = ascii base ds h k.1 i

module _ (base most : ℕ) (ds : List ℕ) where
  pub test_holds : is_numeral base most ds ≡ true → IsNumeral base ds × (digits_value base ds ≤ most)
  test_holds h =
      let p = and_parts (nat_lt 0 (length ds) && list_all (λ d. nat_lt (digit_value d) base) ds) (nat_le (digits_value base ds) most) h in
      let q = and_parts (nat_lt 0 (length ds)) (list_all (λ d. nat_lt (digit_value d) base) ds) p.0 in
      let some = q.0 in
      let small = p.1 in
      ((grind (arith, nat_tests), all_digits base ds q.1), grind (arith, nat_tests))

  pub holds_test : IsNumeral base ds → digits_value base ds ≤ most → is_numeral base most ds ≡ true
  holds_test h small =
      let some = h.0 in
      and_from (nat_lt 0 (length ds) && list_all (λ d. nat_lt (digit_value d) base) ds) (nat_le (digits_value base ds) most)
      (and_from (nat_lt 0 (length ds)) (list_all (λ d. nat_lt (digit_value d) base) ds) (grind (arith, nat_tests)) (passes base ds h.1))
      (grind (arith, nat_tests))

  pub none_where : (IsNumeral base ds → digits_value base ds ≤ most → ⊥) → numeral base most ds ≡ None
  none_where h = by_test (is_numeral base most ds) refl
    where
      by_test : (t : Bool) → is_numeral base most ds ≡ t → cond (is_numeral base most ds) (Some (digits_value base ds)) None ≡ None
      by_test true e = let p = test_holds e in absurd (h p.0 p.1)
      by_test false e = ap (λ b. cond b (Some (digits_value base ds)) None) e

  pub some_where : IsNumeral base ds → digits_value base ds ≤ most → numeral base most ds ≡ Some (digits_value base ds)
  some_where h small = ap (λ b. cond b (Some (digits_value base ds)) None) (holds_test h small)

-- what is no text is no numeral
pub no_text : (base most : ℕ) (ds : List ℕ) → base ≤ 16 → (IsUtf8 ds → ⊥) → numeral base most ds ≡ None
no_text base most ds low h = none_where base most ds (λ n small. h (IsUtf8-from_ascii ds (ascii base ds low n.1)))

no_plus : (ds : List ℕ) → (get_or ds 0 0 == 43) ≡ false → without_leading_plus ds ≡ ds
no_plus ds h = ap (λ t. drop (cond t 1 0) ds) h

-- what `from_str_radix` reads, without a sign
pub reads : {E : Type 0} (base : ℕ) (ds : List ℕ) (r : Result ℕ E) → (get_or ds 0 0 == 43) ≡ false → ParsesUnsigned 32 base ds r → result_ok r ≡ numeral base 0xFFFFFFFF ds
reads base ds (Ok x) h p =
    let q = rw (no_plus ds h) at p in
    ap Some q.1 ∙ sym (some_where base 0xFFFFFFFF ds q.0.0 (omega (arith, q.0.1)))
reads base ds (Err e) h p =
    let q = rw (no_plus ds h) at p in
    sym (none_where base 0xFFFFFFFF ds (λ n small. q (n, (let k : digits_value base ds < 2 ^ 32 = omega arith in k))))

-- a smaller limit
pub up_to : (base most : ℕ) (ds : List ℕ) (o : Option ℕ) → most ≤ 0xFFFFFFFF → o ≡ numeral base 0xFFFFFFFF ds → option_and_then (λ v. cond (nat_le v most) (Some v) None) o ≡ numeral base most ds
up_to base most ds o low e = ap (option_and_then (λ v. cond (nat_le v most) (Some v) None)) e ∙ by_test (is_numeral base 0xFFFFFFFF ds) refl
  where
    both : (t : Bool) → nat_le (digits_value base ds) most ≡ t → IsNumeral base ds → cond (nat_le (digits_value base ds) most) (Some (digits_value base ds)) None ≡ numeral base most ds
    both true k n = ap (λ b. cond b (Some (digits_value base ds)) None) k ∙ sym (some_where base most ds n (grind (arith, nat_tests)))
    both false k n = ap (λ b. cond b (Some (digits_value base ds)) None) k ∙ sym (none_where base most ds (λ m small. absurd (let f : most < digits_value base ds = grind (arith, nat_tests) in omega arith)))

    by_test : (t : Bool) → is_numeral base 0xFFFFFFFF ds ≡ t → option_and_then (λ v. cond (nat_le v most) (Some v) None) (cond (is_numeral base 0xFFFFFFFF ds) (Some (digits_value base ds)) None) ≡ numeral base most ds
    by_test true k = ap (λ b. option_and_then (λ v. cond (nat_le v most) (Some v) None) (cond b (Some (digits_value base ds)) None)) k ∙ both (nat_le (digits_value base ds) most) refl (test_holds base 0xFFFFFFFF ds k).0
    by_test false k = ap (λ b. option_and_then (λ v. cond (nat_le v most) (Some v) None) (cond b (Some (digits_value base ds)) None)) k
        ∙ sym (none_where base most ds (λ m small. absurd (let h = sym k ∙ holds_test base 0xFFFFFFFF ds m (omega arith) in apart h)))
      where
        apart : false ≡ true → ⊥
        apart h = cc
