-- The words of an event's line give the event back.
use Rattle.std.proofs.Common.{◌≡◌, ℕ, ◌/◌, ◌%◌, ◌<◌, ◌≤◌, ◌==◌, Bool, true, false, not, List, [], ◌∷◌, ◌++◌, Option, Some, arith, refl, sym, ap, ◌∙◌}
use Rattle.std.specs.Prelude.{codes, decimal}
use Rattle.std.specs.List.{All, list_all}
use Rattle.std.specs.Char.{digit_value}
use Rattle.std.specs.Str.Parse.{AllDigits, digits_value}
use Rattle.std.specs.Option.{option_map, option_and_then}
use Rattle.std.proofs.lemmas.Bool.{and_parts}
use Rattle.std.proofs.lemmas.Bool.Decides.{nat_tests}
use Rattle.std.proofs.lemmas.Fmt.{decimal_is_IsNumeral}
use Rattle.std.proofs.lemmas.List.Elements.{All-nil, All-cons}
use Rattle.std.proofs.lemmas.List.Splits.{slice_split_at, slice_split_none}
use Rattle.std.proofs.lemmas.Option.{same_Some}
use Rattle.std.proofs.lemmas.Str.{digit_value-digit_char}
use Rattle.mote_devices.specs.declared.shown.Given.TheVariants.{Arrive, Unplug}
use Rattle.mote_devices.specs.declared.shown.Shown.{Shown}
use Rattle.mote_devices.specs.declared.shown.Shown.TheVariants.{Given, In, Out, Enter, Fault}
use Rattle.mote_text.specs.declared.trace.Event.{Event}
use Rattle.mote_text.specs.Hex.{hex_word}
use Rattle.mote_text.specs.Lines.{numeral, words}
use Rattle.mote_text.specs.TraceText.{event_text}
use Rattle.mote_text.specs.TraceWords.{IsEvent, IsShown, LineTellsEvent, event_of}
use Rattle.mote_text.proofs.Numerals.{some_where}

-- ---- words

abbrev pub IsWord : List ℕ → Type 0
IsWord xs = All (λ b. (b == 32) ≡ false) xs

no_space : (b : ℕ) → digit_value b < 16 → (b == 32) ≡ false
no_space b h = by_test (b == 32) refl
  where
    by_test : (t : Bool) → (b == 32) ≡ t → (b == 32) ≡ false
    by_test true e =
        let is : b ≡ 32 = grind (arith, nat_tests) in
        let k : digit_value b ≡ 36 = ap digit_value is in
        absurd (omega arith)
    by_test false e = e

pub digits_word : (base : ℕ) (ds : List ℕ) → base ≤ 16 → AllDigits base ds → IsWord ds
digits_word base [] low h = All-nil (λ b. (b == 32) ≡ false)
digits_word base (d ∷ ds) low h = All-cons (λ b. (b == 32) ≡ false) d ds (no_space d (omega (arith, h.0))) (digits_word base ds low h.1)

pub word_then : (xs ys : List ℕ) → IsWord xs → words (xs ++ 32 ∷ ys) ≡ xs ∷ words ys
word_then xs ys h = slice_split_at (λ b. b == 32) xs 32 ys h refl

pub last_word : (xs : List ℕ) → IsWord xs → words xs ≡ xs ∷ []
last_word xs h = slice_split_none (λ b. b == 32) xs h

pub three_words : (s verb a : List ℕ) → IsWord s → IsWord verb → IsWord a → words (s ++ 32 ∷ (verb ++ 32 ∷ a)) ≡ s ∷ verb ∷ a ∷ []
three_words s verb a hs hv ha =
    word_then s (verb ++ 32 ∷ a) hs ∙ ap (λ t. s ∷ t) (word_then verb a hv) ∙ ap (λ t. s ∷ verb ∷ t) (last_word a ha)

pub four_words : (s verb a b : List ℕ) → IsWord s → IsWord verb → IsWord a → IsWord b → words (s ++ 32 ∷ (verb ++ 32 ∷ (a ++ 32 ∷ b))) ≡ s ∷ verb ∷ a ∷ b ∷ []
four_words s verb a b hs hv ha hb =
    word_then s (verb ++ 32 ∷ (a ++ 32 ∷ b)) hs ∙ ap (λ t. s ∷ t) (three_words verb a b hv ha hb)

-- ---- numbers

module _ (n : ℕ) (small : n < 0x100000000) where
  pub decimal_word : IsWord (decimal n)
  decimal_word = digits_word 10 (decimal n) (omega arith) (decimal_is_IsNumeral n (omega arith)).0.1

  pub decimal_numeral : (most : ℕ) → n ≤ most → numeral 10 most (decimal n) ≡ Some n
  decimal_numeral most le =
      let p = decimal_is_IsNumeral n (omega arith) in
      some_where 10 most (decimal n) p.0 (omega (arith, p.1)) ∙ ap Some p.1

module _ (p : ℕ) (small : p < 0x10000) where
  hex_digits : AllDigits 16 (hex_word p)
  hex_digits = (
    omega (arith, digit_value-digit_char (p / 0x1000) (omega arith)),
    (
      omega (arith, digit_value-digit_char (p / 0x100 % 16) (omega arith)),
      (omega (arith, digit_value-digit_char (p / 0x10 % 16) (omega arith)), (omega (arith, digit_value-digit_char (p % 16) (omega arith)), tt)),
    ),
  )

  hex_value : digits_value 16 (hex_word p) ≡ p
  hex_value = omega (arith, digit_value-digit_char (p / 0x1000) (omega arith), digit_value-digit_char (p / 0x100 % 16) (omega arith), digit_value-digit_char (p / 0x10 % 16) (omega arith), digit_value-digit_char (p % 16) (omega arith))

  pub hex_is_word : IsWord (hex_word p)
  hex_is_word = digits_word 16 (hex_word p) (omega arith) hex_digits

  pub hex_numeral : numeral 16 65535 (hex_word p) ≡ Some p
  hex_numeral = some_where 16 65535 (hex_word p) (omega arith, hex_digits) (omega (arith, hex_value)) ∙ ap Some hex_value

-- ---- events

abbrev at_slot : ℕ → Shown → Event
at_slot s shown = record { slot = s; shown = shown }

one_operand : (f : ℕ → Shown) (o p : Option ℕ) (s a : ℕ) → o ≡ Some s → p ≡ Some a → option_and_then (λ s. option_map (at_slot s) (option_map f p)) o ≡ Some (at_slot s (f a))
one_operand f o p s a e h =
    ap (option_and_then (λ s. option_map (at_slot s) (option_map f p))) e
    ∙ ap (λ q. option_map (at_slot s) (option_map f q)) h

two_operands : (f : ℕ → ℕ → Shown) (o p q : Option ℕ) (s a b : ℕ) → o ≡ Some s → p ≡ Some a → q ≡ Some b → option_and_then (λ s. option_map (at_slot s) (option_and_then (λ k. option_map (f k) q) p)) o ≡ Some (at_slot s (f a b))
two_operands f o p q s a b e h g =
    ap (option_and_then (λ s. option_map (at_slot s) (option_and_then (λ k. option_map (f k) q) p))) e
    ∙ ap (λ r. option_map (at_slot s) (option_and_then (λ k. option_map (f k) q) r)) h
    ∙ ap (λ r. option_map (at_slot s) (option_map (f a) r)) g

pub letters : (xs : List ℕ) → list_all (λ b. not (b == 32)) xs ≡ true → IsWord xs
letters [] h = All-nil (λ b. (b == 32) ≡ false)
letters (x ∷ xs) h =
    let p = and_parts (not (x == 32)) (list_all (λ b. not (b == 32)) xs) h in
    All-cons (λ b. (b == 32) ≡ false) x xs (by_test (x == 32) p.0) (letters xs p.1)
  where
    by_test : (t : Bool) → not t ≡ true → t ≡ false
    by_test true h = sym h
    by_test false h = refl

module _ (s : ℕ) (in_32 : s < 0x100000000) where
  again : (shown : Shown) → IsShown shown → event_of (words (event_text s shown)) ≡ Some (record { slot = s; shown = shown })
  again (Given (Arrive k v)) h =
      ap event_of (four_words (decimal s) (codes "arrive") (decimal k) (decimal v) (decimal_word s in_32) (letters (codes "arrive") refl) (decimal_word k (omega (arith, h.0))) (decimal_word v (omega (arith, h.1))))
      ∙ two_operands (λ k v. Given (Arrive k v)) _ _ _ s k v (decimal_numeral s in_32 0xFFFFFFFF (omega arith)) (decimal_numeral k (omega (arith, h.0)) 255 (omega (arith, h.0))) (decimal_numeral v (omega (arith, h.1)) 65535 (omega (arith, h.1)))
  again (Given (Unplug k)) h =
      ap event_of (three_words (decimal s) (codes "unplug") (decimal k) (decimal_word s in_32) (letters (codes "unplug") refl) (decimal_word k (omega (arith, h))))
      ∙ one_operand (λ k. Given (Unplug k)) _ _ s k (decimal_numeral s in_32 0xFFFFFFFF (omega arith)) (decimal_numeral k (omega (arith, h)) 255 (omega (arith, h)))
  again (In p v) h =
      ap event_of (four_words (decimal s) (codes "in") (hex_word p) (decimal v) (decimal_word s in_32) (letters (codes "in") refl) (hex_is_word p h.0) (decimal_word v (omega (arith, h.1))))
      ∙ two_operands In _ _ _ s p v (decimal_numeral s in_32 0xFFFFFFFF (omega arith)) (hex_numeral p h.0) (decimal_numeral v (omega (arith, h.1)) 65535 (omega (arith, h.1)))
  again (Out p v) h =
      ap event_of (four_words (decimal s) (codes "out") (hex_word p) (decimal v) (decimal_word s in_32) (letters (codes "out") refl) (hex_is_word p h.0) (decimal_word v (omega (arith, h.1))))
      ∙ two_operands Out _ _ _ s p v (decimal_numeral s in_32 0xFFFFFFFF (omega arith)) (hex_numeral p h.0) (decimal_numeral v (omega (arith, h.1)) 65535 (omega (arith, h.1)))
  again (Enter k) h =
      ap event_of (three_words (decimal s) (codes "enter") (decimal k) (decimal_word s in_32) (letters (codes "enter") refl) (decimal_word k (omega (arith, h))))
      ∙ one_operand Enter _ _ s k (decimal_numeral s in_32 0xFFFFFFFF (omega arith)) (decimal_numeral k (omega (arith, h)) 255 (omega (arith, h)))
  again (Fault c) h =
      ap event_of (three_words (decimal s) (codes "fault") (decimal c) (decimal_word s in_32) (letters (codes "fault") refl) (decimal_word c (omega (arith, h))))
      ∙ one_operand Fault _ _ s c (decimal_numeral s in_32 0xFFFFFFFF (omega arith)) (decimal_numeral c (omega (arith, h)) 65535 (omega (arith, h)))

-- the words of an event's line give it back
pub event_again : (e : Event) (line : List ℕ) → IsEvent e → event_text e.slot e.shown ≡ line → event_of (words line) ≡ Some e
event_again e line h is = ap (λ t. event_of (words t)) (sym is) ∙ again e.slot h.0 e.shown h.1

pub line_tells_event : LineTellsEvent
line_tells_event d e hd he same = same_Some d e (sym (event_again d (event_text d.slot d.shown) hd refl) ∙ event_again e (event_text d.slot d.shown) he (sym same))
