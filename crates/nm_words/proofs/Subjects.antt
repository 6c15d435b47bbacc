-- The number of modules that a word spells is what std reads of it.
use Rattle.std.proofs.Common.{◌≡◌, ◌∙◌, ◌<◌, ◌≤◌, ◌^◌, ℕ, zero, suc, true, false, List, length, Option, Some, None, is_some, refl, sym, subst, ap, arith}
use Rattle.std.specs.Prelude.{MatchOption, Result, decimal, slice_index}
use Rattle.std.specs.Fmt.{digits}
use Rattle.std.specs.Result.{result_ok}
use Rattle.std.specs.Str.Parse.{AllDigits, ParsesUnsigned, digits_value}
use Rattle.std.specs.declared.result.Result.TheVariants.{Ok, Err}
use Rattle.std.proofs.lemmas.Fmt.{decimal_is_IsNumeral, decimal-digits_value, digits_value-decimal, first_decimal, parse-decimal}
use Rattle.std.proofs.lemmas.Str.Parse.{IsNumeralModel, numerals_by_value, parse_plain, tells_digits}
use Rattle.generated_files.specs.declared.files.TheConstants.{MAX_MODULES}
use Rattle.nm_words.specs.Modes.{IsSubject}
use Rattle.nm_words.specs.declared.mode.Mode.{Mode}
use Rattle.nm_words.specs.declared.mode.Mode.TheVariants.{Check, Build, Run, Mote, Gen}
use Rattle.nm_words.proofs.OneAnswer.{some_same}

abbrev Modules : List ℕ → ℕ → Type 0
Modules word n = (1 ≤ n) × (n ≤ MAX_MODULES) × (word ≡ decimal n)

-- the one mode that may refuse its subject
pub only_modules : (m : Mode) (word : List ℕ) → (IsSubject m word → ⊥) → m ≡ Gen
only_modules Check word h = absurd (h tt)
only_modules Build word h = absurd (h tt)
only_modules Run word h = absurd (h tt)
only_modules Mote word h = absurd (h tt)
only_modules Gen word h = refl

pub found : (word : List ℕ) (o : Option ℕ) → MatchOption o (IsSubject Gen word → ⊥) (Modules word) → is_some o ≡ true → IsSubject Gen word
found word (Some n) h is = (n, h.0, h.1, h.2)
found word None h is = cc

pub lacking : (word : List ℕ) (o : Option ℕ) → MatchOption o (IsSubject Gen word → ⊥) (Modules word) → is_some o ≡ false → IsSubject Gen word → ⊥
lacking word (Some n) h is = cc
lacking word None h is = h

pub there : (word : List ℕ) (o : Option ℕ) → MatchOption o (IsSubject Gen word → ⊥) (Modules word) → IsSubject Gen word → is_some o ≡ true
there word (Some n) h is = refl
there word None h is = absurd (h is)

-- ---- the number that a word spells

own : IsNumeralModel (AllDigits 10) (digits_value 10)
own = numerals_by_value (AllDigits 10) tells_digits

-- a word that begins with a digit from 1 on is the number that std reads it as
pub read_back : (E : Type 0) (word : List ℕ) (r : Result ℕ E) (n : ℕ) → 48 < slice_index word 0 → ParsesUnsigned 32 10 word r → result_ok r ≡ Some n → word ≡ decimal n
read_back E word (Ok m) n first read is =
    let p : (AllDigits 10 word × (0 < length word) × (digits_value 10 word < 2 ^ 32)) × (m ≡ digits_value 10 word) =
    parse_plain own {E = E} 32 word (Ok m) read (λ plus. omega (arith, plus, first)) in
    let small : digits_value 10 word < 2 ^ 64 = omega (arith, p.0.2) in
    let spelled : decimal (digits_value 10 word) ≡ word = decimal-digits_value own word p.0.0 p.0.1 (λ zero_first. absurd (omega (arith, zero_first, first))) small in
    sym spelled ∙ ap decimal (sym p.1 ∙ some_same m n is)
read_back E word (Err e) n first read is = cc

-- ---- the first byte of a number of modules

pub some_modules : (n : ℕ) (word : List ℕ) → 48 < slice_index word 0 → word ≡ decimal n → 1 ≤ n
unfolding digits
some_modules zero word first is = absurd (let at : slice_index word 0 ≡ 48 = ap (λ w. slice_index w 0) is in omega (arith, at, first))
some_modules (suc n) word first is = omega arith

pub begins : (word : List ℕ) → IsSubject Gen word → 48 < slice_index word 0
begins word (n, some, most, is) =
    subst (λ w. 48 < slice_index w 0) (sym is) (first_decimal n (omega arith) (omega (arith, most)))

-- ---- what is no number of modules

pub unread : (E : Type 0) (word : List ℕ) (r : Result ℕ E) → ParsesUnsigned 32 10 word r → result_ok r ≡ None → IsSubject Gen word → ⊥
unread E word (Ok m) read is h = cc
unread E word (Err e) read is (n, some, most, spelled) =
    let same : Err e ≡ Ok n = parse-decimal 32 n word (Err e) (omega (arith, most)) (omega (arith, most)) spelled read in
    cc

pub too_many : (E : Type 0) (word : List ℕ) (r : Result ℕ E) (m : ℕ) → ParsesUnsigned 32 10 word r → result_ok r ≡ Some m → MAX_MODULES < m → IsSubject Gen word → ⊥
too_many E word r m read is more (n, some, most, spelled) =
    let same : r ≡ Ok n = parse-decimal 32 n word r (omega (arith, most)) (omega (arith, most)) spelled read in
    let equal : m ≡ n = some_same m n (sym is ∙ ap result_ok same) in
    omega (arith, equal, more, most)

pub all_digits : (word : List ℕ) → IsSubject Gen word → AllDigits 10 word
all_digits word (n, some, most, is) = subst (AllDigits 10) (sym is) (decimal_is_IsNumeral n (omega (arith, most))).0.1

-- the number that a word of digits would be
pub spelled : (word : List ℕ) → IsSubject Gen word → (n : ℕ) × (n ≡ digits_value 10 word) × (1 ≤ n) × (n ≤ MAX_MODULES) × (word ≡ decimal n)
spelled word (n, some, most, is) =
    (n, sym (digits_value-decimal own n (omega (arith, most))) ∙ ap (digits_value 10) (sym is), some, most, is)
