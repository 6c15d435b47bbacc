-- What helpers give of numbers, at each promoted type.
use Rattle.std.proofs.Common.{◌≡◌, ℕ, ◌+◌, ◌*◌, ◌/◌, ◌%◌, ◌^◌, ◌<◌, ◌≤◌, Bool, true, false, List, [], ◌∷◌, ◌++◌, Some, refl, sym, ap, ◌∙◌, arith}
use Rattle.std.specs.Prelude.{ℤ, pos, negsuc, nat_lt, int_div, int_rem, ◌==◌, if◌then◌else◌, ◌*ℤ◌, ◌≤ℤ◌}
use Rattle.std.proofs.lemmas.Int.{ints}
use Rattle.std.proofs.lemmas.Bool.{eq-eqb}
use Rattle.std.proofs.lemmas.Bool.Decides.{nat_tests}
use Rattle.std.proofs.Math.Nat.{div-le_self}
use Rattle.nm_base.specs.declared.int_type.IntType.{IntType}
use Rattle.nm_base.specs.declared.int_type.IntType.TheVariants.{I8, U8, I16, U16, I32, U32}
use Rattle.nm_base.specs.IntType.{width, wrapped, least, greatest}
use Rattle.nesc_core.specs.Typing.{IsPromoted}
use Rattle.core_meaning.specs.Numbers.{residue, is_zero, floor_div, shift_left, shift_right, sign}
use Rattle.mid_code.specs.declared.help.HelpOp.{HelpOp}
use Rattle.mid_code.specs.declared.help.HelpOp.TheVariants.{Mul, Div, Rem, Shl, Shr}
use Rattle.mid_code.specs.declared.code.MidCode.{MidCode}
use Rattle.mid_code.specs.Help as help
use Rattle.mid_code.specs.Help.{computed, halves, helped, is_wide, number_of_help, operation, places}
use Rattle.lower_expr.specs.Held.{halves_of, high, low}
use Rattle.lower_expr.proofs.Numbers.{in_range, low_of_rest, low_small, low_wrapped, number_of_low, range_of, rest_wrapped, wrapped_again}
use Rattle.lower_expr.proofs.Halves.{number_of_rest}
use Rattle.lower_expr.proofs.Products.{low_product, low_scaled, rest_product, rest_scaled}

-- ---- numbers by their residues

pub residue_wrapped : (t : IntType) → IsPromoted t → (z : ℤ) → residue (width t) (wrapped t z) ≡ residue (width t) z
residue_wrapped I16 ok z = low_wrapped I16 tt z
residue_wrapped U16 ok z = low_wrapped U16 tt z
residue_wrapped I32 ok z = rest_wrapped I32 tt z
residue_wrapped U32 ok z = rest_wrapped U32 tt z
residue_wrapped I8 ok z = absurd ok
residue_wrapped U8 ok z = absurd ok

number_of_residue : (t : IntType) → IsPromoted t → (z : ℤ) → wrapped t z ≡ z → wrapped t (pos (residue (width t) z)) ≡ z
number_of_residue I16 ok z e = number_of_low I16 tt z e
number_of_residue U16 ok z e = number_of_low U16 tt z e
number_of_residue I32 ok z e = number_of_rest I32 tt z e
number_of_residue U32 ok z e = number_of_rest U32 tt z e
number_of_residue I8 ok z e = absurd ok
number_of_residue U8 ok z e = absurd ok

residue_product : (t : IntType) → IsPromoted t → (x y : ℤ) → (residue (width t) x * residue (width t) y) % 2 ^ width t ≡ residue (width t) (x *ℤ y)
residue_product I16 ok x y = sym (low_product x y)
residue_product U16 ok x y = sym (low_product x y)
residue_product I32 ok x y = sym (rest_product x y)
residue_product U32 ok x y = sym (rest_product x y)
residue_product I8 ok x y = absurd ok
residue_product U8 ok x y = absurd ok

residue_scaled : (t : IntType) → IsPromoted t → (x : ℤ) (b : ℕ) → (residue (width t) x * b) % 2 ^ width t ≡ residue (width t) (x *ℤ pos b)
residue_scaled I16 ok x b = sym (low_scaled x b)
residue_scaled U16 ok x b = sym (low_scaled x b)
residue_scaled I32 ok x b = sym (rest_scaled x b)
residue_scaled U32 ok x b = sym (rest_scaled x b)
residue_scaled I8 ok x b = absurd ok
residue_scaled U8 ok x b = absurd ok

-- ---- what a helper takes and gives

helped_is : (c : MidCode) (t : IntType) → IsPromoted t → (o : HelpOp) (vs : List ℕ) → helped c (number_of_help t o) vs ≡ Some (computed (Some t) (Some o) vs)
helped_is c I16 ok Mul vs = refl
helped_is c I16 ok Div vs = refl
helped_is c I16 ok Rem vs = refl
helped_is c I16 ok Shl vs = refl
helped_is c I16 ok Shr vs = refl
helped_is c U16 ok Mul vs = refl
helped_is c U16 ok Div vs = refl
helped_is c U16 ok Rem vs = refl
helped_is c U16 ok Shl vs = refl
helped_is c U16 ok Shr vs = refl
helped_is c I32 ok Mul vs = refl
helped_is c I32 ok Div vs = refl
helped_is c I32 ok Rem vs = refl
helped_is c I32 ok Shl vs = refl
helped_is c I32 ok Shr vs = refl
helped_is c U32 ok Mul vs = refl
helped_is c U32 ok Div vs = refl
helped_is c U32 ok Rem vs = refl
helped_is c U32 ok Shl vs = refl
helped_is c U32 ok Shr vs = refl
helped_is c I8 ok o vs = absurd ok
helped_is c U8 ok o vs = absurd ok

whole_of : (v : ℤ) → low v + 65536 * high v ≡ residue 32 v
whole_of v = let l = low_of_rest v in omega (arith, l)

short_part : (z : ℤ) → low z % 65536 ≡ low z
short_part z = let lt = low_small z in omega (arith, lt)

parted : (t : IntType) → IsPromoted t → (z : ℤ) → halves t (residue (width t) z) ≡ halves_of (is_wide t) z
parted I16 ok z = ap (λ m. m ∷ []) (short_part z)
parted U16 ok z = ap (λ m. m ∷ []) (short_part z)
parted I32 ok z = ap (λ m. m ∷ high z ∷ []) (sym (low_of_rest z))
parted U32 ok z = ap (λ m. m ∷ high z ∷ []) (sym (low_of_rest z))
parted I8 ok z = absurd ok
parted U8 ok z = absurd ok

-- from two numbers of the type
pub two_given : (c : MidCode) (t : IntType) → IsPromoted t → (o : HelpOp) (x y z : ℤ) → operation o t (residue (width t) x) (residue (width t) y) ≡ residue (width t) z →
    helped c (number_of_help t o) (halves_of (is_wide t) x ++ halves_of (is_wide t) y) ≡ Some (halves_of (is_wide t) z)
two_given c I16 ok o x y z e = helped_is c I16 tt o (low x ∷ low y ∷ []) ∙ ap Some (ap (halves I16) e ∙ parted I16 tt z)
two_given c U16 ok o x y z e = helped_is c U16 tt o (low x ∷ low y ∷ []) ∙ ap Some (ap (halves U16) e ∙ parted U16 tt z)
two_given c I32 ok o x y z e =
    helped_is c I32 tt o (low x ∷ high x ∷ low y ∷ high y ∷ [])
    ∙ ap Some (ap (λ m. halves I32 (operation o I32 m (low y + 65536 * high y))) (whole_of x) ∙ ap (λ m. halves I32 (operation o I32 (residue 32 x) m)) (whole_of y) ∙ ap (halves I32) e ∙ parted I32 tt z)
two_given c U32 ok o x y z e =
    helped_is c U32 tt o (low x ∷ high x ∷ low y ∷ high y ∷ [])
    ∙ ap Some (ap (λ m. halves U32 (operation o U32 m (low y + 65536 * high y))) (whole_of x) ∙ ap (λ m. halves U32 (operation o U32 (residue 32 x) m)) (whole_of y) ∙ ap (halves U32) e ∙ parted U32 tt z)
two_given c I8 ok o x y z e = absurd ok
two_given c U8 ok o x y z e = absurd ok

-- from a number of the type and a count
pub one_given : (c : MidCode) (t : IntType) → IsPromoted t → (o : HelpOp) (x : ℤ) (k : ℕ) (z : ℤ) → operation o t (residue (width t) x) k ≡ residue (width t) z →
    helped c (number_of_help t o) (halves_of (is_wide t) x ++ k ∷ []) ≡ Some (halves_of (is_wide t) z)
one_given c I16 ok o x k z e = helped_is c I16 tt o (low x ∷ k ∷ []) ∙ ap Some (ap (halves I16) e ∙ parted I16 tt z)
one_given c U16 ok o x k z e = helped_is c U16 tt o (low x ∷ k ∷ []) ∙ ap Some (ap (halves U16) e ∙ parted U16 tt z)
one_given c I32 ok o x k z e =
    helped_is c I32 tt o (low x ∷ high x ∷ k ∷ []) ∙ ap Some (ap (λ m. halves I32 (operation o I32 m k)) (whole_of x) ∙ ap (halves I32) e ∙ parted I32 tt z)
one_given c U32 ok o x k z e =
    helped_is c U32 tt o (low x ∷ high x ∷ k ∷ []) ∙ ap Some (ap (λ m. halves U32 (operation o U32 m k)) (whole_of x) ∙ ap (halves U32) e ∙ parted U32 tt z)
one_given c I8 ok o x k z e = absurd ok
one_given c U8 ok o x k z e = absurd ok

-- ---- products and quotients

module _ (t : IntType) (ok : IsPromoted t) where
  pub product_is : (x y : ℤ) → operation Mul t (residue (width t) x) (residue (width t) y) ≡ residue (width t) (wrapped t (x *ℤ y))
  product_is x y = residue_product t ok x y ∙ sym (residue_wrapped t ok (x *ℤ y))

  quotient_by : (g : ℤ → ℤ → ℤ) (x y : ℤ) → wrapped t x ≡ x → wrapped t y ≡ y → is_zero y ≡ false →
      residue (width t) (help.unless_zero (wrapped t (pos (residue (width t) y))) (g (wrapped t (pos (residue (width t) x))) (wrapped t (pos (residue (width t) y))))) ≡ residue (width t) (wrapped t (g x y))
  quotient_by g x y ex ey e =
      let q : ℤ → ℤ → ℕ = λ a b. residue (width t) (help.unless_zero b (g a b)) in
      ap (λ a. q a (wrapped t (pos (residue (width t) y)))) (number_of_residue t ok x ex) ∙ ap (q x) (number_of_residue t ok y ey)
      ∙ ap (λ (b : Bool). residue (width t) (if b then pos 0 else g x y)) e ∙ sym (residue_wrapped t ok (g x y))

  pub quotient_is : (x y : ℤ) → wrapped t x ≡ x → wrapped t y ≡ y → is_zero y ≡ false → operation Div t (residue (width t) x) (residue (width t) y) ≡ residue (width t) (wrapped t (int_div x y))
  quotient_is x y ex ey e = quotient_by int_div x y ex ey e

  pub rest_is : (x y : ℤ) → wrapped t x ≡ x → wrapped t y ≡ y → is_zero y ≡ false → operation Rem t (residue (width t) x) (residue (width t) y) ≡ residue (width t) (wrapped t (int_rem x y))
  rest_is x y ex ey e = quotient_by int_rem x y ex ey e

-- ---- shifts

-- the count that a value stands for: 32 where there is a high half
abbrev pub counted : (wide : Bool) → ℤ → ℕ
counted true y = if high y == 0 then low y else 32
counted false y = low y

-- a count from 0 on is itself where it is below 32, and below no less than 32 where it is not
pub record IsCount (m c : ℕ) : Type 0 where
  pub small : m < 32 → c ≡ m
  pub large : 32 ≤ m → 32 ≤ c

no_test : (k : ℕ) → k ≡ 0 → (k == 0) ≡ false → ⊥
no_test k none e = let yes : (k == 0) ≡ true = eq-eqb k 0 none in absurd (cc)

counted_by : (b : Bool) (m : ℕ) → (high (pos m) == 0) ≡ b → m < 4294967296 → IsCount m (if b then low (pos m) else 32)
counted_by true m e lt =
    let none : high (pos m) ≡ 0 = grind (arith, nat_tests) in
    record { small = λ few. omega (arith, few); large = λ many. omega (arith, none, many, lt) }
counted_by false m e lt = record { small = λ few. (let none : high (pos m) ≡ 0 = omega (arith, few) in absurd (no_test (high (pos m)) none e)); large = λ many. omega arith }

count_from : (s : IntType) → IsPromoted s → (m : ℕ) → wrapped s (pos m) ≡ pos m → IsCount m (counted (is_wide s) (pos m))
count_from I16 ok m e = let h = (range_of I16 (pos m) e).1 in let few : m ≤ 32767 = omega (arith, ints, h) in record { small = λ lt. omega (arith, few); large = λ many. omega (arith, few, many) }
count_from U16 ok m e = let h = (range_of U16 (pos m) e).1 in let few : m ≤ 65535 = omega (arith, ints, h) in record { small = λ lt. omega (arith, few); large = λ many. omega (arith, few, many) }
count_from I32 ok m e = let h = (range_of I32 (pos m) e).1 in counted_by (high (pos m) == 0) m refl (omega (arith, ints, h))
count_from U32 ok m e = let h = (range_of U32 (pos m) e).1 in counted_by (high (pos m) == 0) m refl (omega (arith, ints, h))
count_from I8 ok m e = absurd ok
count_from U8 ok m e = absurd ok

negative_by : (b : Bool) (m : ℕ) → (high (negsuc m) == 0) ≡ b → m < 2147483648 → 32 ≤ (if b then low (negsuc m) else 32)
negative_by true m e lt =
    let none : high (negsuc m) ≡ 0 = grind (arith, nat_tests) in
    absurd (omega (arith, none, lt))
negative_by false m e lt = omega arith

-- a negative count is large
count_below : (s : IntType) → IsPromoted s → (m : ℕ) → wrapped s (negsuc m) ≡ negsuc m → 32 ≤ counted (is_wide s) (negsuc m)
count_below I16 ok m e = let h = (range_of I16 (negsuc m) e).0 in let few : m ≤ 32767 = omega (arith, ints, h) in omega (arith, few)
count_below U16 ok m e = let h = (range_of U16 (negsuc m) e).0 in absurd (omega (arith, ints, h))
count_below I32 ok m e = let h = (range_of I32 (negsuc m) e).0 in negative_by (high (negsuc m) == 0) m refl (omega (arith, ints, h))
count_below U32 ok m e = let h = (range_of U32 (negsuc m) e).0 in absurd (omega (arith, ints, h))
count_below I8 ok m e = absurd ok
count_below U8 ok m e = absurd ok

width_most : (t : IntType) → width t ≤ 32
width_most I8 = omega arith
width_most U8 = omega arith
width_most I16 = omega arith
width_most U16 = omega arith
width_most I32 = omega arith
width_most U32 = omega arith

none_residue : (t : IntType) → residue (width t) (pos 0) ≡ 0
none_residue I8 = refl
none_residue U8 = refl
none_residue I16 = refl
none_residue U16 = refl
none_residue I32 = refl
none_residue U32 = refl

none_number : (t : IntType) → wrapped t (pos 0) ≡ pos 0
none_number I8 = refl
none_number U8 = refl
none_number I16 = refl
none_number U16 = refl
none_number I32 = refl
none_number U32 = refl

floor_same : (x : ℤ) (n : ℕ) → help.floor_div x n ≡ floor_div x n
floor_same (pos a) n = refl
floor_same (negsuc a) n = refl

sign_same : (x : ℤ) → help.sign x ≡ sign x
sign_same (pos a) = refl
sign_same (negsuc a) = refl

-- a count that is not below the width stays so
many_by : (b : Bool) (w m c : ℕ) → w ≤ 32 → IsCount m c → nat_lt m w ≡ false → nat_lt m 32 ≡ b → nat_lt c w ≡ false
many_by true w m c most h e is = let few : m < 32 = grind (arith, nat_tests) in ap (λ k. nat_lt k w) (h.small few) ∙ e
many_by false w m c most h e is =
    let many : 32 ≤ m = grind (arith, nat_tests) in
    let large = h.large many in
    let over : w ≤ c = omega (arith, most, large) in
    grind (arith, nat_tests)

few_by : (w m c : ℕ) → w ≤ 32 → IsCount m c → nat_lt m w ≡ true → c ≡ m
few_by w m c most h e = let few : m < w = grind (arith, nat_tests) in h.small (omega (arith, few, most))

large_not_below : (w c : ℕ) → w ≤ 32 → 32 ≤ c → nat_lt c w ≡ false
large_not_below w c most many = let over : w ≤ c = omega (arith, most, many) in grind (arith, nat_tests)

module _ (t : IntType) (ok : IsPromoted t) where
  abbrev w : ℕ
  w = width t

  left_none : (x : ℤ) (c : ℕ) → nat_lt c w ≡ false → operation Shl t (residue w x) c ≡ residue w (pos 0)
  left_none x c e = ap (λ (b : Bool). if b then (residue w x * 2 ^ c) % 2 ^ w else 0) e ∙ sym (none_residue t)

  left_by : (b : Bool) (x : ℤ) (m c : ℕ) → nat_lt m w ≡ b → IsCount m c → operation Shl t (residue w x) c ≡ residue w (if b then wrapped t (x *ℤ pos (2 ^ m)) else pos 0)
  left_by true x m c e h =
      ap (operation Shl t (residue w x)) (few_by w m c (width_most t) h e) ∙ ap (λ (b : Bool). if b then (residue w x * 2 ^ m) % 2 ^ w else 0) e
      ∙ residue_scaled t ok x (2 ^ m) ∙ sym (residue_wrapped t ok (x *ℤ pos (2 ^ m)))
  left_by false x m c e h = left_none x c (many_by (nat_lt m 32) w m c (width_most t) h e refl)

  pub left_is : (s : IntType) → IsPromoted s → (x y : ℤ) → wrapped s y ≡ y → operation Shl t (residue w x) (counted (is_wide s) y) ≡ residue w (shift_left t x y)
  left_is s oks x (pos m) e = left_by (nat_lt m w) x m (counted (is_wide s) (pos m)) refl (count_from s oks m e)
  left_is s oks x (negsuc m) e = left_none x (counted (is_wide s) (negsuc m)) (large_not_below w (counted (is_wide s) (negsuc m)) (width_most t) (count_below s oks m e))

  left_number_by : (b : Bool) (x : ℤ) (m : ℕ) → wrapped t (if b then wrapped t (x *ℤ pos (2 ^ m)) else pos 0) ≡ (if b then wrapped t (x *ℤ pos (2 ^ m)) else pos 0)
  left_number_by true x m = wrapped_again t (x *ℤ pos (2 ^ m))
  left_number_by false x m = none_number t

  pub left_number : (x y : ℤ) → wrapped t (shift_left t x y) ≡ shift_left t x y
  left_number x (pos m) = left_number_by (nat_lt m w) x m
  left_number x (negsuc m) = none_number t

  -- ---- to the right

  abbrev right_of : Bool → ℤ → ℕ → ℤ
  right_of b x m = if b then floor_div x (2 ^ m) else sign x

  right_from : (x : ℤ) (c : ℕ) → wrapped t x ≡ x → operation Shr t (residue w x) c ≡ residue w (right_of (nat_lt c w) x c)
  right_from x c e =
      ap (λ z. residue w (help.shifted_right t z c)) (number_of_residue t ok x e)
      ∙ ap (λ z. residue w (if nat_lt c w then z else help.sign x)) (floor_same x (2 ^ c)) ∙ ap (λ z. residue w (if nat_lt c w then floor_div x (2 ^ c) else z)) (sign_same x)

  right_by : (b : Bool) (x : ℤ) (m c : ℕ) → nat_lt m w ≡ b → IsCount m c → right_of (nat_lt c w) x c ≡ right_of b x m
  right_by true x m c e h = ap (λ k. right_of (nat_lt k w) x k) (few_by w m c (width_most t) h e) ∙ ap (λ b. right_of b x m) e
  right_by false x m c e h = ap (λ b. right_of b x c) (many_by (nat_lt m 32) w m c (width_most t) h e refl)

  pub right_is : (s : IntType) → IsPromoted s → (x y : ℤ) → wrapped t x ≡ x → wrapped s y ≡ y → operation Shr t (residue w x) (counted (is_wide s) y) ≡ residue w (shift_right t x y)
  right_is s oks x (pos m) ex e =
      right_from x (counted (is_wide s) (pos m)) ex ∙ ap (residue w) (right_by (nat_lt m w) x m (counted (is_wide s) (pos m)) refl (count_from s oks m e))
  right_is s oks x (negsuc m) ex e =
      let c : ℕ = counted (is_wide s) (negsuc m) in
      right_from x c ex ∙ ap (λ b. residue w (right_of b x c)) (large_not_below w c (width_most t) (count_below s oks m e))

floor_number : (t : IntType) (x : ℤ) (n : ℕ) → wrapped t x ≡ x → least t ≤ℤ pos 0 → pos 0 ≤ℤ greatest t → wrapped t (floor_div x n) ≡ floor_div x n
floor_number t (pos a) n e low_t high_t =
    let r = (range_of t (pos a) e).1 in
    let fewer = div-le_self a n in
    in_range t (pos (a / n)) (omega (arith, ints, low_t)) (omega (arith, ints, r, fewer))
floor_number t (negsuc a) n e low_t high_t =
    let r = (range_of t (negsuc a) e).0 in
    let fewer = div-le_self a n in
    in_range t (negsuc (a / n)) (omega (arith, ints, r, fewer)) (omega (arith, ints, high_t))

sign_number : (t : IntType) (x : ℤ) → wrapped t x ≡ x → least t ≤ℤ pos 0 → pos 0 ≤ℤ greatest t → wrapped t (sign x) ≡ sign x
sign_number t (pos a) e low_t high_t = none_number t
sign_number t (negsuc a) e low_t high_t =
    let r = (range_of t (negsuc a) e).0 in
    in_range t (negsuc 0) (omega (arith, ints, r)) (omega (arith, ints, high_t))

least_low : (t : IntType) → least t ≤ℤ pos 0
least_low I8 = omega (arith, ints)
least_low U8 = omega (arith, ints)
least_low I16 = omega (arith, ints)
least_low U16 = omega (arith, ints)
least_low I32 = omega (arith, ints)
least_low U32 = omega (arith, ints)

greatest_high : (t : IntType) → pos 0 ≤ℤ greatest t
greatest_high I8 = omega (arith, ints)
greatest_high U8 = omega (arith, ints)
greatest_high I16 = omega (arith, ints)
greatest_high U16 = omega (arith, ints)
greatest_high I32 = omega (arith, ints)
greatest_high U32 = omega (arith, ints)

right_number_by : (b : Bool) (t : IntType) (x : ℤ) (m : ℕ) → wrapped t x ≡ x → wrapped t (if b then floor_div x (2 ^ m) else sign x) ≡ (if b then floor_div x (2 ^ m) else sign x)
right_number_by true t x m e = floor_number t x (2 ^ m) e (least_low t) (greatest_high t)
right_number_by false t x m e = sign_number t x e (least_low t) (greatest_high t)

pub right_number : (t : IntType) (x y : ℤ) → wrapped t x ≡ x → wrapped t (shift_right t x y) ≡ shift_right t x y
right_number t x (pos m) e = right_number_by (nat_lt m (width t)) t x m e
right_number t x (negsuc m) e = sign_number t x e (least_low t) (greatest_high t)
