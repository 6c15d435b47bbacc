-- Signs that do not go on.
use Rattle.std.proofs.Common.{◌≡◌, ℕ, Bool, true, false, not, ◌&&◌, ◌||◌, List, [], ◌∷◌, ◌++◌, refl, sym, subst, ◌∙◌, inl, inr}
use Rattle.std.specs.Prelude.{◌==◌}
use Rattle.std.specs.List.{list_all}
use Rattle.std.proofs.lemmas.Bool.{cases_Bool, and_parts, or_cases, not-true, eqb-true}
use Rattle.nesc_tokens.specs.CodePoints.{is_word_byte}
use Rattle.nesc_tokens.specs.Spelling.{signs, is_one_of}
use Rattle.nesc_tokens.specs.Lexes.{begins_comment}
use Rattle.nesc_tokens.proofs.Runs.{not_both, one_of_all}
use Rattle.printed_words.specs.LaidOut.{goes_on, is_closed, ends_itself, is_apart, may_follow}
use Rattle.printed_words.proofs.Bytes.{all_at}

-- what is so of each sign: its bytes but for the first are those that go on, and where the first is closed there is no other
is_plain_sign : List ℕ → Bool
is_plain_sign [] = false
is_plain_sign (a ∷ []) = not (is_word_byte a) && (not (ends_itself a) || is_closed a)
is_plain_sign (a ∷ b ∷ bs) = not (is_word_byte a) && not (ends_itself a) && list_all (λ c. goes_on c && not (is_word_byte c) && not (ends_itself c)) (b ∷ bs)

of_signs : (bytes : List ℕ) → is_one_of signs bytes ≡ true → is_plain_sign bytes ≡ true
unfolding signs is_plain_sign
of_signs bytes one = one_of_all is_plain_sign signs bytes refl one

-- behind a byte of a sign that does not end itself
behind_byte : (a b : ℕ) → is_word_byte a ≡ false → ends_itself a ≡ false → is_apart a b ≡ true → goes_on b ≡ false
behind_byte a b word ends apart = elim (cases_Bool (goes_on b)) [
  | inl goes ↦ let e = rw (word, ends, goes) at apart in absurd cc
  | inr stops ↦ stops
]

abbrev inner : ℕ → Bool
inner c = goes_on c && not (is_word_byte c) && not (ends_itself c)

behind_inner : (c : ℕ) (cs : List ℕ) (b : ℕ) → list_all inner (c ∷ cs) ≡ true → may_follow (c ∷ cs) b ≡ true → goes_on b ≡ false
behind_inner c [] b all apart =
    let here = and_parts (goes_on c && not (is_word_byte c)) (not (ends_itself c)) (and_parts (inner c) _ all).0 in
    behind_byte c b (not-true _ (and_parts (goes_on c) _ here.0).1) (not-true _ here.1) apart
behind_inner c (d ∷ cs) b all apart = behind_inner d cs b (and_parts (inner c) _ all).1 apart

inner_goes : (c : ℕ) → inner c ≡ true → goes_on c ≡ true
inner_goes c is = (and_parts (goes_on c) _ (and_parts (goes_on c && not (is_word_byte c)) _ is).0).0

pub never_sign : (bytes : List ℕ) (b : ℕ) (tail : List ℕ) → is_one_of signs bytes ≡ true → may_follow bytes b ≡ true → is_one_of signs (bytes ++ b ∷ tail) ≡ true → ⊥
unfolding is_plain_sign
never_sign [] b tail one apart longer = let e = of_signs [] one in absurd cc
never_sign (a ∷ []) b tail one apart longer =
    let many = of_signs (a ∷ b ∷ tail) longer in
    let parts = and_parts (not (is_word_byte a) && not (ends_itself a)) _ many in
    let first = and_parts (not (is_word_byte a)) (not (ends_itself a)) parts.0 in
    not_both (goes_on b) (inner_goes b (and_parts (inner b) _ parts.1).0) (behind_byte a b (not-true _ first.0) (not-true _ first.1) apart)
never_sign (a ∷ c ∷ cs) b tail one apart longer =
    let short = of_signs (a ∷ c ∷ cs) one in
    let long = of_signs (a ∷ c ∷ (cs ++ b ∷ tail)) longer in
    let all = (and_parts (not (is_word_byte a) && not (ends_itself a)) _ short).1 in
    let more = (and_parts (not (is_word_byte a) && not (ends_itself a)) _ long).1 in
    not_both (goes_on b) (inner_goes b (all_at inner (c ∷ cs) b tail more)) (behind_inner c cs b all apart)

-- ---- comments

two_bytes : (a b : ℕ) (bytes : List ℕ) → begins_comment (a ∷ b ∷ bytes) ≡ begins_comment (a ∷ b ∷ [])
two_bytes a b bytes = refl

pub no_comment_of_one : (a : ℕ) → begins_comment (a ∷ []) ≡ false
no_comment_of_one a = cases (47 == a)
  where
    cases : (t : Bool) → ((t && false) || (t && false)) ≡ false
    cases true = refl
    cases false = refl

is_no_comment : List ℕ → Bool
is_no_comment bytes = not (begins_comment bytes)

no_sign_comment : (bytes : List ℕ) → is_one_of signs bytes ≡ true → begins_comment bytes ≡ false
unfolding signs is_no_comment
no_sign_comment bytes one = not-true _ (one_of_all is_no_comment signs bytes refl one)

-- the second byte of what makes a comment goes on
pub comment_goes_on : (a b : ℕ) → begins_comment (a ∷ b ∷ []) ≡ true → (a ≡ 47) × (goes_on b ≡ true)
comment_goes_on a b is = elim (or_cases (47 == a && (47 == b && true)) (47 == a && (42 == b && true)) is) [
  | inl line ↦ let e = told a b 47 line in (e.0, subst (λ (c : ℕ). goes_on c ≡ true) (e.1) refl)
  | inr block ↦ let e = told a b 42 block in (e.0, subst (λ (c : ℕ). goes_on c ≡ true) (e.1) refl)
]
  where
    told : (a b c : ℕ) → (47 == a && (c == b && true)) ≡ true → (a ≡ 47) × (c ≡ b)
    told a b c is =
        let both = and_parts (47 == a) (c == b && true) is in
        (sym (eqb-true 47 a both.0), eqb-true c b (and_parts (c == b) true both.1).0)

pub no_comment_of_sign : (bytes rest : List ℕ) → is_one_of signs bytes ≡ true → ((b : ℕ) (tail : List ℕ) → rest ≡ b ∷ tail → may_follow bytes b ≡ true) → begins_comment (bytes ++ rest) ≡ false
unfolding is_plain_sign
no_comment_of_sign [] rest one apart = let e = of_signs [] one in absurd cc
no_comment_of_sign (a ∷ []) [] one apart = no_comment_of_one a
no_comment_of_sign (a ∷ []) (b ∷ tail) one apart = elim (cases_Bool (begins_comment (a ∷ b ∷ []))) [
  | inl is ↦
      let made = comment_goes_on a b is in
      let at : is_apart a b ≡ true = apart b tail refl in
      absurd (not_both (goes_on b) made.1 (behind_byte a b (rw (made.0) refl) (rw (made.0) refl) at))
  | inr is_not ↦ is_not
]
no_comment_of_sign (a ∷ c ∷ cs) rest one apart = two_bytes a c (cs ++ rest) ∙ sym (two_bytes a c cs) ∙ no_sign_comment (a ∷ c ∷ cs) one
