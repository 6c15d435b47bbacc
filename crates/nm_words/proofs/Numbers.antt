-- The number of a text is what std reads of it.
use Rattle.std.proofs.Common.{◌≡◌, ℕ, ◌<◌, ◌^◌, Bool, true, false, ◌&&◌, cond, nat_lt, List, [], ◌∷◌, length, Some, None, refl, sym, ap, ◌∙◌}
use Rattle.std.proofs.lemmas.Bool.{ltb-true, lt-ltb}
use Rattle.std.proofs.lemmas.Bool.{and_parts, and_from}
use Rattle.std.specs.List.{list_all}
use Rattle.std.specs.Char.{digit_value}
use Rattle.std.specs.Str.Parse.{AllDigits, IsNumeral, digits_value, ParsesUnsigned, without_leading_plus}
use Rattle.std.specs.declared.result.Result.TheVariants.{Ok, Err}
use Rattle.clap.specs.ValueTests.{is_numeral}
use Rattle.nm_words.specs.Asked.{number_of}

all_digits : (ds : List ℕ) → list_all (λ d. nat_lt (digit_value d) 10) ds ≡ true → AllDigits 10 ds
all_digits [] h = tt
all_digits (d ∷ ds) h =
    let p = and_parts (nat_lt (digit_value d) 10) (list_all (λ d. nat_lt (digit_value d) 10) ds) h in
    (ltb-true _ _ p.0, all_digits ds p.1)

passes : (ds : List ℕ) → AllDigits 10 ds → list_all (λ d. nat_lt (digit_value d) 10) ds ≡ true
passes [] h = refl
passes (d ∷ ds) h = and_from (nat_lt (digit_value d) 10) (list_all (λ d. nat_lt (digit_value d) 10) ds) (lt-ltb _ _ h.0) (passes ds h.1)

abbrev test : List ℕ → Bool
test ds = is_numeral ds && nat_lt (digits_value 10 ds) (2 ^ 32)

test_holds : (ds : List ℕ) → test ds ≡ true → IsNumeral 10 ds × (digits_value 10 ds < 2 ^ 32)
test_holds ds h =
    let p = and_parts (is_numeral ds) (nat_lt (digits_value 10 ds) (2 ^ 32)) h in
    let q = and_parts (nat_lt 0 (length ds)) (list_all (λ d. nat_lt (digit_value d) 10) ds) p.0 in
    ((ltb-true _ _ q.0, all_digits ds q.1), ltb-true _ _ p.1)

holds_test : (ds : List ℕ) → IsNumeral 10 ds → digits_value 10 ds < 2 ^ 32 → test ds ≡ true
holds_test ds h small =
    and_from (is_numeral ds) (nat_lt (digits_value 10 ds) (2 ^ 32))
    (and_from (nat_lt 0 (length ds)) (list_all (λ d. nat_lt (digit_value d) 10) ds) (lt-ltb _ _ h.0) (passes ds h.1))
    (lt-ltb _ _ small)

pub read : (E : Type 0) (text : List ℕ) (n : ℕ) → ParsesUnsigned {E = E} 32 10 text (Ok n) → number_of text ≡ Some n
read E text n p =
    let ds = without_leading_plus text in
    ap (λ t. cond t (Some (digits_value 10 ds)) None) (holds_test ds p.0.0 p.0.1) ∙ ap Some (sym p.1)

pub unread : (E : Type 0) (text : List ℕ) (e : E) → ParsesUnsigned 32 10 text (Err e) → number_of text ≡ None
unread E text e p = by_test (test (without_leading_plus text)) refl
  where
    by_test : (t : Bool) → test (without_leading_plus text) ≡ t → cond (test (without_leading_plus text)) (Some (digits_value 10 (without_leading_plus text))) None ≡ None
    by_test true h = absurd (p (test_holds (without_leading_plus text) h))
    by_test false h = ap (λ b. cond b (Some (digits_value 10 (without_leading_plus text))) None) h
