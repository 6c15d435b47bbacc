-- The rows that a text names are in the order of their slots.
use Rattle.std.proofs.Common.{◌≡◌, ℕ, ◌≤◌, Bool, true, false, cond, List, [], ◌∷◌, ◌++◌, Option, Some, None, arith, refl, subst}
use Rattle.std.specs.Prelude.{nat_le, Result, Ok, Err}
use Rattle.std.specs.Option.{option_map, option_and_then}
use Rattle.std.specs.Str.Lines.{lines}
use Rattle.std.proofs.lemmas.Bool.Decides.{nat_tests}
use Rattle.mote_devices.specs.declared.shown.Due.{Due}
use Rattle.mote_text.specs.Lines.{next_line, read_lines, words}
use Rattle.mote_text.specs.ScheduleText.{Rows, due_of_words, is_comment, next_due, no_rows, schedule_of, schedule_step, with_row}
use Rattle.mote_run.specs.Rows.{DoNotFallFrom, DoNotFall}

-- the slots of the rows do not fall, and lie between n and `last`
abbrev RiseTo : ℕ → List Due → ℕ → Type 0
RiseTo n [] last = n ≤ last
RiseTo n (row ∷ rows) last = (n ≤ row.slot) × RiseTo row.slot rows last

one_more : (n : ℕ) (rows : List Due) (last : ℕ) (due : Due) → RiseTo n rows last → last ≤ due.slot → RiseTo n (rows ++ due ∷ []) due.slot
one_more n [] last due h le = (omega arith, omega arith)
one_more n (row ∷ rows) last due h le = (h.0, one_more row.slot rows last due h.1 le)

in_order : (n : ℕ) (rows : List Due) (last : ℕ) → RiseTo n rows last → DoNotFallFrom n rows
in_order n [] last h = tt
in_order n (row ∷ rows) last h = (h.0, in_order row.slot rows last h.1)

abbrev Rise : Rows → Type 0
Rise r = RiseTo 0 r.rows r.last

module _ (r : Rows) (rise : Rise r) where
  row_step : (o : Option Due) (t : Rows) → option_map (with_row r) (option_and_then (λ due. cond (nat_le r.last due.slot) (Some due) None) o) ≡ Some t → Rise t
  row_step None t e = cc
  row_step (Some due) t e = by_test (nat_le r.last due.slot) refl e
    where
      by_test : (b : Bool) → nat_le r.last due.slot ≡ b → option_map (with_row r) (cond b (Some due) None) ≡ Some t → Rise t
      by_test false test h = cc
      by_test true test h =
          let le : r.last ≤ due.slot = grind (arith, nat_tests) in
          let is : with_row r due ≡ t = cc in
          subst Rise is (one_more 0 r.rows r.last due rise le)

  line_step : (line : List ℕ) (t : Rows) → schedule_step r line ≡ Some t → Rise t
  line_step line t e = by_test (is_comment line) e
    where
      by_test : (b : Bool) → cond b (Some r) (option_map (with_row r) (next_due r.last line)) ≡ Some t → Rise t
      by_test true h = let is : r ≡ t = cc in subst Rise is rise
      by_test false h = row_step (due_of_words (words line)) t h

lines_rise : (n : ℕ) (r : Rows) (ls : List (List ℕ)) (rows : List Due) → Rise r → read_lines schedule_step (λ r. Some r.rows) n r ls ≡ Ok rows → DoNotFall rows
lines_rise n r [] rows rise e = let is : r.rows ≡ rows = cc in subst DoNotFall is (in_order 0 r.rows r.last rise)
lines_rise n r (line ∷ ls) rows rise e =
    by_step (schedule_step r line) refl (λ t step h. lines_rise (next_line n) t ls rows (line_step r rise line t step) h) e
  where
    after : Option Rows → Result (List Due) ℕ
    after o =
        elim o [
          | None ↦ Err n
          | Some t ↦ read_lines schedule_step (λ r. Some r.rows) (next_line n) t ls
        ]

    by_step : (o : Option Rows) → schedule_step r line ≡ o
        → ((t : Rows) → schedule_step r line ≡ Some t → read_lines schedule_step (λ r. Some r.rows) (next_line n) t ls ≡ Ok rows → DoNotFall rows)
        → after o ≡ Ok rows → DoNotFall rows
    by_step None step further h = cc
    by_step (Some t) step further h = further t step h

pub schedule_in_order : (text : List ℕ) (rows : List Due) → schedule_of text ≡ Ok rows → DoNotFall rows
unfolding schedule_of
schedule_in_order text rows e = lines_rise 1 no_rows (lines text) rows (omega arith) e
