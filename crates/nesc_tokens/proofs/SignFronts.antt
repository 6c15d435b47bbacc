-- The longest sign at the front.
use Rattle.std.proofs.Common.{◌≡◌, ℕ, suc, ◌<◌, ◌≤◌, Bool, true, false, ◌&&◌, ◌||◌, List, [], ◌∷◌, length, take, refl, sym, ap, ◌∙◌, subst, arith, length-take-le, inl, inr}
use Rattle.std.specs.Prelude.{nat_eq, nat_le, nat_lt, slice_index, codes}
use Rattle.std.specs.List.{list_all, list_any}
use Rattle.std.proofs.lemmas.Bool.{and_parts, cases_Bool, eqb-true, false_from_ne_true, cases_lt, leb-true, le-leb, lt-ltb}
use Rattle.nm_base.specs.declared.token.Kind.TheVariants.{Sign}
use Rattle.nesc_tokens.specs.Spelling.{is_one_of, signs}
use Rattle.nesc_tokens.specs.Longest.{IsLongestOf, IsNoSign, NoneOf, is_second, is_single}
use Rattle.nesc_tokens.proofs.Runs.{not_both, one_of_all}
use Rattle.nesc_tokens.proofs.LexemeKinds.{empty_is_none}

is_short : List ℕ → Bool
is_short bytes = nat_le (length bytes) 3

signs_are_short : (bytes : List ℕ) → is_one_of signs bytes ≡ true → length bytes ≤ 3
unfolding signs is_short
signs_are_short bytes one = leb-true _ _ (one_of_all is_short signs bytes refl one)

no_long_sign : (bytes : List ℕ) → 3 < length bytes → is_one_of signs bytes ≡ false
no_long_sign bytes long = false_from_ne_true _ (λ tokens_of_piece. omega (arith, signs_are_short bytes tokens_of_piece))

pub sign_longest : (n : ℕ) (bytes : List ℕ) → 0 < n → n ≤ length bytes → is_one_of signs (take n bytes) ≡ true → ((m : ℕ) → n < m → m < 4 → m ≤ length bytes → is_one_of signs (take m bytes) ≡ false) → IsLongestOf Sign n bytes
sign_longest n bytes some within one above = record {
  some = some;
  within = within;
  spelled = one;
  longest = λ m lt le. elim (cases_lt m 4) [
    | inl short ↦ above m lt short le
    | inr long ↦ no_long_sign (take m bytes) (omega (arith, length-take-le m bytes le))
  ];
}

pub sign_none : (bytes : List ℕ) → ((m : ℕ) → m < 4 → m ≤ length bytes → is_one_of signs (take m bytes) ≡ false) → NoneOf Sign bytes
sign_none bytes none m le = elim (cases_lt m 4) [
  | inl short ↦ none m short le
  | inr long ↦ no_long_sign (take m bytes) (omega (arith, length-take-le m bytes le))
]

pub not_a_sign : (m : ℕ) (bytes : List ℕ) → (nat_le m (length bytes) && is_one_of signs (take m bytes)) ≡ false → m ≤ length bytes → is_one_of signs (take m bytes) ≡ false
not_a_sign m bytes e le = let long : nat_le m (length bytes) ≡ true = le-leb m (length bytes) le in rw long at e

pub a_sign : (m : ℕ) (bytes : List ℕ) → (nat_le m (length bytes) && is_one_of signs (take m bytes)) ≡ true → (m ≤ length bytes) × (is_one_of signs (take m bytes) ≡ true)
a_sign m bytes e = let both = and_parts (nat_le m (length bytes)) (is_one_of signs (take m bytes)) e in (leb-true m (length bytes) both.0, both.1)

pub sign_of_three : (bytes : List ℕ) → (nat_le 3 (length bytes) && is_one_of signs (take 3 bytes)) ≡ true → IsLongestOf Sign 3 bytes
sign_of_three bytes e = let is = a_sign 3 bytes e in sign_longest 3 bytes (omega arith) is.0 is.1 (λ m lt short le. absurd (omega arith))

pub sign_of_two : (bytes : List ℕ) → IsNoSign 3 bytes → (nat_le 2 (length bytes) && is_one_of signs (take 2 bytes)) ≡ true → IsLongestOf Sign 2 bytes
sign_of_two bytes three e = let is = a_sign 2 bytes e in sign_longest 2 bytes (omega arith) is.0 is.1 (λ m lt short le. let at : m ≡ 3 = omega arith in subst (λ (k : ℕ). is_one_of signs (take k bytes) ≡ false) (sym at) (not_a_sign 3 bytes three (omega arith)))

below_four : (bytes : List ℕ) → IsNoSign 3 bytes → IsNoSign 2 bytes → (m : ℕ) → 1 < m → m < 4 → m ≤ length bytes → is_one_of signs (take m bytes) ≡ false
below_four bytes three two m lt short le = elim (cases_lt m 3) [
  | inl small ↦ let at : m ≡ 2 = omega arith in subst (λ (k : ℕ). is_one_of signs (take k bytes) ≡ false) (sym at) (not_a_sign 2 bytes two (omega arith))
  | inr big ↦ let at : m ≡ 3 = omega arith in subst (λ (k : ℕ). is_one_of signs (take k bytes) ≡ false) (sym at) (not_a_sign 3 bytes three (omega arith))
]

pub sign_of_one : (bytes : List ℕ) → IsNoSign 3 bytes → IsNoSign 2 bytes → (nat_le 1 (length bytes) && is_one_of signs (take 1 bytes)) ≡ true → IsLongestOf Sign 1 bytes
sign_of_one bytes three two e = let is = a_sign 1 bytes e in sign_longest 1 bytes (omega arith) is.0 is.1 (below_four bytes three two)

pub no_sign : (bytes : List ℕ) → IsNoSign 3 bytes → IsNoSign 2 bytes → IsNoSign 1 bytes → NoneOf Sign bytes
no_sign bytes three two one = sign_none bytes (λ m short le. elim (cases_lt 1 m) [
  | inl many ↦ below_four bytes three two m many short le
  | inr few ↦ elim (cases_lt 0 m) [
    | inl some ↦ let at : m ≡ 1 = omega arith in subst (λ (k : ℕ). is_one_of signs (take k bytes) ≡ false) (sym at) (not_a_sign 1 bytes one (omega arith))
    | inr none ↦ let at : m ≡ 0 = omega arith in subst (λ (k : ℕ). is_one_of signs (take k bytes) ≡ false) (sym at) (empty_is_none Sign)
  ]
])

-- ---- the second byte

has_second : List ℕ → Bool
has_second [] = true
has_second (a ∷ []) = true
has_second (a ∷ b ∷ rest) = is_second b

no_sign_in : (m : ℕ) (bytes : List ℕ) → ((nat_le m (length bytes) && is_one_of signs (take m bytes)) ≡ true → ⊥) → IsNoSign m bytes
no_sign_in m bytes none = false_from_ne_true _ none

pub no_longer : (k : ℕ) (bytes : List ℕ) → (nat_lt 1 (length bytes) && is_second (slice_index bytes 1)) ≡ false → IsNoSign (suc (suc k)) bytes
unfolding signs has_second
no_longer k [] e = no_sign_in (suc (suc k)) [] (λ t. let is = a_sign (suc (suc k)) [] t in absurd (omega (arith, is.0)))
no_longer k (a ∷ []) e = no_sign_in (suc (suc k)) (a ∷ []) (λ t. let is = a_sign (suc (suc k)) (a ∷ []) t in absurd (omega (arith, is.0)))
no_longer k (a ∷ b ∷ rest) e = no_sign_in (suc (suc k)) (a ∷ b ∷ rest) (λ t.
    let is = a_sign (suc (suc k)) (a ∷ b ∷ rest) t in
    let second : is_second b ≡ true = one_of_all has_second signs (a ∷ b ∷ take k rest) refl is.1 in
    let many : nat_lt 1 (length (a ∷ b ∷ rest)) ≡ true = lt-ltb 1 (length (a ∷ b ∷ rest)) (omega arith) in
    not_both (is_second b) second (sym (ap (λ (c : Bool). c && is_second b) many) ∙ e))

-- ---- signs of one byte

begins_single : List ℕ → Bool
begins_single [] = true
begins_single (a ∷ []) = is_single a
begins_single (a ∷ b ∷ rest) = true

all_are_signs : (cs : List ℕ) (b : ℕ) → list_all (λ c. is_one_of signs (c ∷ [])) cs ≡ true → list_any (λ c. nat_eq c b) cs ≡ true → is_one_of signs (b ∷ []) ≡ true
all_are_signs [] b all any = absurd cc
all_are_signs (c ∷ cs) b all any =
    let both = and_parts (is_one_of signs (c ∷ [])) (list_all (λ c. is_one_of signs (c ∷ [])) cs) all in
    elim (cases_Bool (nat_eq c b)) [
      | inl same ↦ ap (λ (x : ℕ). is_one_of signs (x ∷ [])) (sym (eqb-true c b same)) ∙ both.0
      | inr differs ↦ all_are_signs cs b both.1 (ap (λ (t : Bool). t || list_any (λ c. nat_eq c b) cs) (sym differs) ∙ any)
    ]

single_is_sign : (b : ℕ) → is_single b ≡ true → is_one_of signs (b ∷ []) ≡ true
unfolding signs
single_is_sign b e = all_are_signs (codes "{}()[];,.<>=+-*/%&|^~!?:@#") b refl e

sign_is_single : (b : ℕ) → is_one_of signs (b ∷ []) ≡ true → is_single b ≡ true
unfolding signs begins_single
sign_is_single b e = one_of_all begins_single signs (b ∷ []) refl e

same_tests : (r s : Bool) → (r ≡ true → s ≡ true) → (s ≡ true → r ≡ true) → r ≡ s
same_tests true true f g = refl
same_tests false false f g = refl
same_tests true false f g = sym (f refl)
same_tests false true f g = g refl

pub single_sign : (bytes : List ℕ) → (nat_lt 0 (length bytes) && is_single (slice_index bytes 0)) ≡ (nat_le 1 (length bytes) && is_one_of signs (take 1 bytes))
single_sign [] = refl
single_sign (b ∷ rest) =
    let some : nat_lt 0 (length (b ∷ rest)) ≡ true = lt-ltb 0 (length (b ∷ rest)) (omega arith) in
    let one : nat_le 1 (length (b ∷ rest)) ≡ true = le-leb 1 (length (b ∷ rest)) (omega arith) in
    ap (λ (t : Bool). t && is_single b) some
    ∙ same_tests (is_single b) (is_one_of signs (b ∷ [])) (single_is_sign b) (sign_is_single b)
    ∙ ap (λ (t : Bool). t && is_one_of signs (b ∷ [])) (sym one)
