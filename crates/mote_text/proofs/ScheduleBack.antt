-- A printed schedule reads back to its rows.
use Rattle.std.proofs.Common.{◌≡◌, ℕ, ◌<◌, ◌≤◌, ◌==◌, Bool, true, false, cond, ◌&&◌, List, [], ◌∷◌, ◌++◌, length, Option, Some, None, arith, refl, sym, ap, ◌∙◌, append_assoc, length-append}
use Rattle.std.specs.Prelude.{codes, decimal, nat_le, Result, Ok, Err}
use Rattle.std.specs.List.{All}
use Rattle.std.specs.Option.{option_map, option_and_then}
use Rattle.std.specs.Char.{digit_value}
use Rattle.std.specs.Str.Lines.{lines}
use Rattle.std.specs.Str.Parse.{AllDigits}
use Rattle.std.proofs.lemmas.Bool.Decides.{nat_tests}
use Rattle.std.proofs.lemmas.Fmt.{decimal_is_IsNumeral, decimal_nonempty, length-decimal-le}
use Rattle.std.proofs.lemmas.List.{append-nil}
use Rattle.std.proofs.lemmas.List.Elements.{All-nil, All-cons, All-append}
use Rattle.mote_devices.specs.declared.shown.Due.{Due}
use Rattle.mote_devices.specs.declared.shown.Given.{Given}
use Rattle.mote_devices.specs.declared.shown.Given.TheVariants.{Arrive, Unplug}
use Rattle.mote_text.specs.Lines.{next_line, numeral, read_lines, words}
use Rattle.mote_text.specs.ScheduleText.{IsArrival, Rows, RowsFrom, ScheduleReadsBack, due_of_words, is_comment, next_due, no_rows, row_text, schedule_of, schedule_step, schedule_text, with_row}
use Rattle.mote_text.proofs.Cutting.{IsPlain, first_line, plain_then}
use Rattle.mote_text.proofs.EventWords.{decimal_numeral, decimal_word, four_words, letters}

-- ---- lines

plain_digit : (b : ℕ) → digit_value b < 10 → IsPlain b
plain_digit b h = (by_test 10 (b == 10) refl refl, by_test 13 (b == 13) refl refl)
  where
    by_test : (x : ℕ) (t : Bool) → digit_value x ≡ 36 → (b == x) ≡ t → (b == x) ≡ false
    by_test x true far e =
        let is : b ≡ x = grind (arith, nat_tests) in
        let k : digit_value b ≡ 36 = ap digit_value is ∙ far in
        absurd (omega arith)
    by_test x false far e = e

plain_digits : (ds : List ℕ) → AllDigits 10 ds → All IsPlain ds
plain_digits [] h = All-nil IsPlain
plain_digits (d ∷ ds) h = All-cons IsPlain d ds (plain_digit d h.0) (plain_digits ds h.1)

no_comment : (ds xs : List ℕ) → 0 < length ds → AllDigits 10 ds → is_comment (ds ++ xs) ≡ false
no_comment [] xs some h = absurd (omega arith)
no_comment (d ∷ ds) xs some h = by_test (d == 35) refl
  where
    by_test : (t : Bool) → (d == 35) ≡ t → (d == 35) ≡ false
    by_test true e =
        let is : d ≡ 35 = grind (arith, nat_tests) in
        let k : digit_value d ≡ 36 = ap digit_value is in
        absurd (omega (arith, h.0))
    by_test false e = e

-- ---- a row

module _ (s k v : ℕ) (hs : s < 0x100000000) (hk : k < 8) (hv : v < 0x10000) where
  abbrev front : List ℕ
  front = row_text s (Arrive k v)

  plain : All IsPlain front
  plain =
      All-append IsPlain (decimal s) (codes " arrive " ++ (decimal k ++ (codes " " ++ decimal v))) (number s hs)
      (plain_then (32 ∷ 97 ∷ 114 ∷ 114 ∷ 105 ∷ 118 ∷ 101 ∷ 32 ∷ []) refl (decimal k ++ (codes " " ++ decimal v))
      (All-append IsPlain (decimal k) (codes " " ++ decimal v) (number k (omega arith)) (plain_then (32 ∷ []) refl (decimal v) (number v (omega arith)))))
    where
      number : (n : ℕ) → n < 0x100000000 → All IsPlain (decimal n)
      number n h = plain_digits (decimal n) (decimal_is_IsNumeral n (omega arith)).0.1

  read : due_of_words (words front) ≡ Some (record { slot = s; given = Arrive k v })
  read =
      ap due_of_words (four_words (decimal s) (codes "arrive") (decimal k) (decimal v) (decimal_word s hs) (letters (codes "arrive") refl) (decimal_word k (omega arith)) (decimal_word v (omega arith)))
      ∙ ap (λ t. cond (t && true) (joined (numeral 10 0xFFFFFFFF (decimal s)) (numeral 10 7 (decimal k)) (numeral 10 65535 (decimal v))) None) ten
      ∙ ap (λ o. joined o (numeral 10 7 (decimal k)) (numeral 10 65535 (decimal v))) (decimal_numeral s hs 0xFFFFFFFF (omega arith))
      ∙ ap (λ o. joined (Some s) o (numeral 10 65535 (decimal v))) (decimal_numeral k (omega arith) 7 (omega arith))
      ∙ ap (λ o. joined (Some s) (Some k) o) (decimal_numeral v (omega arith) 65535 (omega arith))
    where
      row : ℕ → ℕ → ℕ → Due
      row s k v = record { slot = s; given = Arrive k v }

      joined : Option ℕ → Option ℕ → Option ℕ → Option Due
      joined o p q = option_and_then (λ s. option_and_then (λ k. option_map (λ v. row s k v) q) p) o

      ten : nat_le (length (decimal s)) 10 ≡ true
      ten = let short = length-decimal-le 10 s (omega arith) (omega arith) (omega arith) in grind (arith, nat_tests)

  some : 0 < length front
  some = let h = decimal_nonempty s (omega arith) in omega (arith, length-append (decimal s) (codes " arrive " ++ (decimal k ++ (codes " " ++ decimal v))))

  step : (r : Rows) → r.last ≤ s → schedule_step r front ≡ Some (with_row r (record { slot = s; given = Arrive k v }))
  step r le =
      ap (λ t. cond t (Some r) (option_map (with_row r) (next_due r.last front))) (no_comment (decimal s) (codes " arrive " ++ (decimal k ++ (codes " " ++ decimal v))) (decimal_nonempty s (omega arith)) (decimal_is_IsNumeral s (omega arith)).0.1)
      ∙ ap (λ o. option_map (with_row r) (option_and_then (in_order r.last) o)) read
      ∙ ap (λ t. option_map (with_row r) (cond t (Some row) None)) not_before
    where
      in_order : ℕ → Due → Option Due
      in_order last due = cond (nat_le last due.slot) (Some due) None

      row : Due
      row = record { slot = s; given = Arrive k v }

      not_before : nat_le r.last s ≡ true
      not_before = grind (arith, nat_tests)

row_back : (n : ℕ) (r : Rows) (s : ℕ) (g : Given) (rest : List ℕ) → r.last ≤ s → s < 0x100000000 → IsArrival g → read_lines schedule_step (λ r. Some r.rows) n r (lines ((row_text s g ++ 10 ∷ []) ++ rest)) ≡ read_lines schedule_step (λ r. Some r.rows) (next_line n) (with_row r (record { slot = s; given = g })) (lines rest)
row_back n r s (Unplug k) rest le hs h = absurd h
row_back n r s (Arrive k v) rest le hs h =
    ap (λ t. read_lines schedule_step (λ r. Some r.rows) n r (lines t)) (append_assoc (row_text s (Arrive k v)) (10 ∷ []) rest)
    ∙ ap (read_lines schedule_step (λ r. Some r.rows) n r) (first_line (row_text s (Arrive k v)) rest (some s k v hs h.0 h.1) (plain s k v hs h.0 h.1))
    ∙ ap after (step s k v hs h.0 h.1 r le)
  where
    after : Option Rows → Result (List Due) ℕ
    after o =
        elim o [
          | None ↦ Err n
          | Some t ↦ read_lines schedule_step (λ r. Some r.rows) (next_line n) t (lines rest)
        ]

rows_back : (n : ℕ) (r : Rows) (rows : List Due) → RowsFrom r.last rows → read_lines schedule_step (λ r. Some r.rows) n r (lines (schedule_text rows)) ≡ Ok (r.rows ++ rows)
rows_back n r [] h = ap (λ l. Ok l) (sym (append-nil r.rows))
rows_back n r (due ∷ rows) h =
    row_back n r due.slot due.given (schedule_text rows) h.0 h.1 h.2
    ∙ rows_back (next_line n) (with_row r due) rows h.3
    ∙ ap (λ l. Ok l) (append_assoc r.rows (due ∷ []) rows)

pub reads_back : ScheduleReadsBack
unfolding schedule_of
reads_back rows h = rows_back 1 no_rows rows h.ordered
