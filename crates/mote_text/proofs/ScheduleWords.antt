-- The values of the rows that a text names are words.
use Rattle.std.proofs.Common.{◌≡◌, ℕ, ◌<◌, ◌≤◌, Bool, true, false, cond, ◌&&◌, List, [], ◌∷◌, ◌++◌, length, Option, Some, None, arith, refl, subst}
use Rattle.std.specs.Prelude.{codes, nat_eq, nat_le, nat_lt, Result, Ok, Err}
use Rattle.std.specs.Cmp.Lexicographic.{pointwise}
use Rattle.std.specs.List.{list_all}
use Rattle.std.specs.Option.{option_map, option_and_then}
use Rattle.std.specs.Char.{digit_value}
use Rattle.std.specs.Str.Lines.{lines}
use Rattle.std.specs.Str.Parse.{digits_value}
use Rattle.std.proofs.lemmas.Bool.{and_parts}
use Rattle.std.proofs.lemmas.Bool.Decides.{nat_tests}
use Rattle.mote_devices.specs.WordBoards.{AreWordRows, IsWordGiven}
use Rattle.mote_devices.specs.declared.shown.Due.{Due}
use Rattle.mote_devices.specs.declared.shown.Given.TheVariants.{Arrive}
use Rattle.mote_text.specs.Lines.{is_numeral, next_line, numeral, read_lines, words}
use Rattle.mote_text.specs.ScheduleText.{Rows, SchedulesAreOfWords, due_of_words, is_comment, next_due, no_rows, schedule_of, schedule_step, with_row}

-- ---- a row

numeral_low : (base most : ℕ) (ds : List ℕ) (v : ℕ) → numeral base most ds ≡ Some v → v ≤ most
numeral_low base most ds v h = by_test (is_numeral base most ds) refl h
  where
    by_test : (t : Bool) → is_numeral base most ds ≡ t → cond t (Some (digits_value base ds)) None ≡ Some v → v ≤ most
    by_test true e k =
        let low = (and_parts (nat_lt 0 (length ds) && list_all (λ d. nat_lt (digit_value d) base) ds) (nat_le (digits_value base ds) most) e).1 in
        let is : digits_value base ds ≡ v = cc in
        subst (λ n. n ≤ most) is (grind (arith, nat_tests))
    by_test false e k = cc

abbrev IsWordDue : Option Due → Type 0
IsWordDue None = Unit {0}
IsWordDue (Some due) = IsWordGiven due.given

with_value : (s k : ℕ) (o : Option ℕ) → ((v : ℕ) → o ≡ Some v → v < 0x10000) → IsWordDue (option_map (λ v. record { slot = s; given = Arrive k v }) o)
with_value s k None low = tt
with_value s k (Some v) low = low v refl

with_device : (s : ℕ) (device value : Option ℕ) → ((v : ℕ) → value ≡ Some v → v < 0x10000) → IsWordDue (option_and_then (λ k. option_map (λ v. record { slot = s; given = Arrive k v }) value) device)
with_device s None value low = tt
with_device s (Some k) value low = with_value s k value low

with_slot : (slot device value : Option ℕ) → ((v : ℕ) → value ≡ Some v → v < 0x10000) → IsWordDue (option_and_then (λ s. option_and_then (λ k. option_map (λ v. record { slot = s; given = Arrive k v }) value) device) slot)
with_slot None device value low = tt
with_slot (Some s) device value low = with_device s device value low

word_due : (ws : List (List ℕ)) → IsWordDue (due_of_words ws)
word_due [] = tt
word_due (a ∷ []) = tt
word_due (a ∷ b ∷ []) = tt
word_due (a ∷ b ∷ c ∷ []) = tt
word_due (slot ∷ verb ∷ device ∷ value ∷ []) = by_test (nat_le (length slot) 10 && pointwise nat_eq verb (codes "arrive"))
  where
    low : (v : ℕ) → numeral 10 65535 value ≡ Some v → v < 0x10000
    low v h = let k = numeral_low 10 65535 value v h in omega (arith, k)

    by_test : (t : Bool) → IsWordDue (cond t (option_and_then (λ s. option_and_then (λ k. option_map (λ v. record { slot = s; given = Arrive k v }) (numeral 10 65535 value)) (numeral 10 7 device)) (numeral 10 0xFFFFFFFF slot)) None)
    by_test true = with_slot (numeral 10 0xFFFFFFFF slot) (numeral 10 7 device) (numeral 10 65535 value) low
    by_test false = tt
word_due (a ∷ b ∷ c ∷ d ∷ e ∷ ws) = tt

-- ---- a text

one_more : (rows : List Due) (due : Due) → AreWordRows IsWordGiven rows → IsWordGiven due.given → AreWordRows IsWordGiven (rows ++ due ∷ [])
one_more [] due are is = (is, tt)
one_more (row ∷ rows) due are is = (are.0, one_more rows due are.1 is)

abbrev OfWords : Rows → Type 0
OfWords r = AreWordRows IsWordGiven r.rows

module _ (r : Rows) (are : OfWords r) where
  row_step : (o : Option Due) (t : Rows) → IsWordDue o → option_map (with_row r) (option_and_then (λ due. cond (nat_le r.last due.slot) (Some due) None) o) ≡ Some t → OfWords t
  row_step None t is e = cc
  row_step (Some due) t is e = by_test (nat_le r.last due.slot) e
    where
      by_test : (b : Bool) → option_map (with_row r) (cond b (Some due) None) ≡ Some t → OfWords t
      by_test false h = cc
      by_test true h = let same : with_row r due ≡ t = cc in subst OfWords same (one_more r.rows due are is)

  line_step : (line : List ℕ) (t : Rows) → schedule_step r line ≡ Some t → OfWords t
  line_step line t e = by_test (is_comment line) e
    where
      by_test : (b : Bool) → cond b (Some r) (option_map (with_row r) (next_due r.last line)) ≡ Some t → OfWords t
      by_test true h = let same : r ≡ t = cc in subst OfWords same are
      by_test false h = row_step (due_of_words (words line)) t (word_due (words line)) h

lines_of_words : (n : ℕ) (r : Rows) (ls : List (List ℕ)) (rows : List Due) → OfWords r → read_lines schedule_step (λ r. Some r.rows) n r ls ≡ Ok rows → AreWordRows IsWordGiven rows
lines_of_words n r [] rows are e = let same : r.rows ≡ rows = cc in subst (AreWordRows IsWordGiven) same are
lines_of_words n r (line ∷ ls) rows are e =
    by_step (schedule_step r line) (λ t step h. lines_of_words (next_line n) t ls rows (line_step r are line t step) h) refl e
  where
    after : Option Rows → Result (List Due) ℕ
    after o =
        elim o [
          | None ↦ Err n
          | Some t ↦ read_lines schedule_step (λ r. Some r.rows) (next_line n) t ls
        ]

    by_step : (o : Option Rows)
        → ((t : Rows) → schedule_step r line ≡ Some t → read_lines schedule_step (λ r. Some r.rows) (next_line n) t ls ≡ Ok rows → AreWordRows IsWordGiven rows)
        → schedule_step r line ≡ o → after o ≡ Ok rows → AreWordRows IsWordGiven rows
    by_step None further step h = cc
    by_step (Some t) further step h = further t step h

pub of_words : SchedulesAreOfWords
unfolding schedule_of
of_words text rows e = lines_of_words 1 no_rows (lines text) rows tt e
