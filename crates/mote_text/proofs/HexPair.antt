-- A byte in two hexadecimal digits, as a decoder reads them.
use Rattle.std.proofs.Common.{◌≡◌, ℕ, ◌+◌, ◌*◌, ◌<◌, ◌≤◌, ◌&&◌, inl, inr, Bool, true, false, cond, List, [], ◌∷◌, slice_index, Option, Some, None, Result, Ok, Err, arith, refl, sym, ap, ◌∙◌}
use Rattle.std.specs.Prelude.{nat_lt, nat_le, MatchResult}
use Rattle.std.specs.Char.{digit_value}
use Rattle.std.specs.Str.Parse.{digits_value}
use Rattle.std.proofs.lemmas.Int.Digits.{digits_value_push}
use Rattle.std.proofs.lemmas.Bool.{cases_lt}
use Rattle.std.proofs.lemmas.Bool.Decides.{nat_tests}
use Rattle.mote_text.specs.Lines.{numeral}
use Rattle.hex.specs.Hex.{hex_digit_value, decode_sized, decode_pairs, digit_or_error, ◌>>=◌}
use Rattle.hex.specs.declared.error.FromHexError.{FromHexError}

-- the value of a digit below 16
abbrev below_16 : ℕ → Option ℕ
below_16 c = cond (nat_lt (digit_value c) 16) (Some (digit_value c)) None

module _ (c : ℕ) where
  decimal : 48 ≤ c → c < 58 → hex_digit_value c ≡ below_16 c
  decimal low high = grind (arith, nat_tests)

  upper : 65 ≤ c → c < 71 → hex_digit_value c ≡ below_16 c
  upper low high = grind (arith, nat_tests)

  lower : 97 ≤ c → c < 103 → hex_digit_value c ≡ below_16 c
  lower low high = grind (arith, nat_tests)

  before : c < 48 → hex_digit_value c ≡ below_16 c
  before high = grind (arith, nat_tests)

  before_upper : 58 ≤ c → c < 65 → hex_digit_value c ≡ below_16 c
  before_upper low high = grind (arith, nat_tests)

  behind_upper : 71 ≤ c → c < 91 → hex_digit_value c ≡ below_16 c
  behind_upper low high = grind (arith, nat_tests)

  before_lower : 91 ≤ c → c < 97 → hex_digit_value c ≡ below_16 c
  before_lower low high = grind (arith, nat_tests)

  behind_lower : 103 ≤ c → c < 123 → hex_digit_value c ≡ below_16 c
  behind_lower low high = grind (arith, nat_tests)

  behind : 123 ≤ c → hex_digit_value c ≡ below_16 c
  behind low = grind (arith, nat_tests)

  same_digit : hex_digit_value c ≡ below_16 c
  same_digit =
      elim (cases_lt c 48) [
        | inl h ↦ before h
        | inr h ↦ elim (cases_lt c 58) [
          | inl k ↦ decimal h k
          | inr k ↦ elim (cases_lt c 65) [
            | inl l ↦ before_upper k l
            | inr l ↦ elim (cases_lt c 71) [
              | inl m ↦ upper l m
              | inr m ↦ elim (cases_lt c 91) [
                | inl n ↦ behind_upper m n
                | inr n ↦ elim (cases_lt c 97) [
                  | inl o ↦ before_lower n o
                  | inr o ↦ elim (cases_lt c 103) [
                    | inl p ↦ lower o p
                    | inr p ↦ elim (cases_lt c 123) [
                      | inl q ↦ behind_lower p q
                      | inr q ↦ behind q
                    ]
                  ]
                ]
              ]
            ]
          ]
        ]
      ]

-- two digits
abbrev pair : Option ℕ → Option ℕ → Option ℕ
pair (Some a) (Some b) = Some (a * 16 + b)
pair (Some a) None = None
pair None p = None

module _ (h l : ℕ) where
  value : digits_value 16 (h ∷ l ∷ []) ≡ digit_value h * 16 + digit_value l
  value = digits_value_push 16 (h ∷ []) l ∙ ap (λ n. n * 16 + digit_value l) (digits_value_push 16 [] h) ∙ zero_more
    where
      zero_more : (0 * 16 + digit_value h) * 16 + digit_value l ≡ digit_value h * 16 + digit_value l
      zero_more = omega arith

  by_tests : (t u : Bool) → nat_lt (digit_value h) 16 ≡ t → nat_lt (digit_value l) 16 ≡ u
      → numeral 16 255 (h ∷ l ∷ []) ≡ pair (cond t (Some (digit_value h)) None) (cond u (Some (digit_value l)) None)
  by_tests true true t u =
      let a : digit_value h < 16 = grind (arith, nat_tests) in
      let b : digit_value l < 16 = grind (arith, nat_tests) in
      let small : nat_le (digits_value 16 (h ∷ l ∷ [])) 255 ≡ true = grind (arith, nat_tests, value) in
      ap (λ x. cond (x && (nat_lt (digit_value l) 16 && true) && nat_le (digits_value 16 (h ∷ l ∷ [])) 255) (Some (digits_value 16 (h ∷ l ∷ []))) None) t
      ∙ ap (λ x. cond (x && true && nat_le (digits_value 16 (h ∷ l ∷ [])) 255) (Some (digits_value 16 (h ∷ l ∷ []))) None) u
      ∙ ap (λ x. cond x (Some (digits_value 16 (h ∷ l ∷ []))) None) small
      ∙ ap Some value
  by_tests true false t u =
      ap (λ x. cond (x && (nat_lt (digit_value l) 16 && true) && nat_le (digits_value 16 (h ∷ l ∷ [])) 255) (Some (digits_value 16 (h ∷ l ∷ []))) None) t
      ∙ ap (λ x. cond (x && true && nat_le (digits_value 16 (h ∷ l ∷ [])) 255) (Some (digits_value 16 (h ∷ l ∷ []))) None) u
  by_tests false u t k =
      ap (λ x. cond (x && (nat_lt (digit_value l) 16 && true) && nat_le (digits_value 16 (h ∷ l ∷ [])) 255) (Some (digits_value 16 (h ∷ l ∷ []))) None) t

  spelled : numeral 16 255 (h ∷ l ∷ []) ≡ pair (hex_digit_value h) (hex_digit_value l)
  spelled = by_tests (nat_lt (digit_value h) 16) (nat_lt (digit_value l) 16) refl refl
      ∙ ap (λ o. pair o (below_16 l)) (sym (same_digit h)) ∙ ap (λ o. pair (hex_digit_value h) o) (sym (same_digit l))

-- the byte that a decoder answers
abbrev pub byte_of : Result Unit FromHexError → List ℕ → Option ℕ
byte_of (Ok done) out = Some (slice_index out 0)
byte_of (Err e) out = None

module _ (h l : ℕ) (r : Result Unit FromHexError) (out : List ℕ) where
  abbrev gives : Option ℕ → Option ℕ → Result (List ℕ) FromHexError
  gives o p = do
    a ← digit_or_error h 0 o
    b ← digit_or_error l 1 p
    Ok ((a * 16 + b) ∷ [])

  abbrev Matches : Result (List ℕ) FromHexError → Type 0
  Matches d = MatchResult d (λ bytes. (r ≡ Ok tt) × (out ≡ bytes)) (λ e. r ≡ Err e)

  decoded : decode_sized (h ∷ l ∷ []) 1 ≡ gives (hex_digit_value h) (hex_digit_value l)
  unfolding decode_pairs
  decoded = by_digits (hex_digit_value h) (hex_digit_value l)
    where
      by_digits : (o p : Option ℕ) → (do
        byte ← (do
          a ← digit_or_error h 0 o
          b ← digit_or_error l 1 p
          Ok (a * 16 + b))
        bytes ← Ok []
        Ok (byte ∷ bytes)) ≡ gives o p
      by_digits (Some a) (Some b) = refl
      by_digits (Some a) None = refl
      by_digits None p = refl

  answered : (o p : Option ℕ) → Matches (gives o p) → byte_of r out ≡ pair o p
  answered (Some a) (Some b) m = ap (λ x. byte_of x out) m.0 ∙ ap (λ bytes. Some (slice_index bytes 0)) m.1
  answered (Some a) None m = ap (λ x. byte_of x out) m
  answered None p m = ap (λ x. byte_of x out) m

  -- is what its two digits spell
  pub byte_spelled : Matches (decode_sized (h ∷ l ∷ []) 1) → byte_of r out ≡ numeral 16 255 (h ∷ l ∷ [])
  byte_spelled m = answered (hex_digit_value h) (hex_digit_value l) (rw decoded at m) ∙ sym (spelled h l)
