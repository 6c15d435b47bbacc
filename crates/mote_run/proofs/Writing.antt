-- The lines of a trace, one item of a list after the other.
use Rattle.std.proofs.Common.{◌≡◌, ℕ, suc, ◌+◌, ◌<◌, ◌≤◌, inl, inr, true, false, List, [], ◌∷◌, ◌++◌, take, drop, length, get_or, Option, Some, None, IsErr, arith, refl, sym, ap, subst, ◌∙◌, append_assoc, append-nil}
use Rattle.std.proofs.Math.Seq.{take-suc}
use Rattle.std.proofs.lemmas.List.{take-append-drop, map-append}
use Rattle.std.proofs.lemmas.Grind.{flat_map-append}
use Rattle.mote_devices.specs.declared.shown.Due.{Due}
use Rattle.mote_devices.specs.declared.shown.Shown.{Shown}
use Rattle.mote_devices.specs.declared.shown.Shown.TheVariants as shown
use Rattle.mote_bus.specs.declared.access.Access.{Access}
use Rattle.mote_bus.specs.Accesses.{shown_of, events_of}
use Rattle.mote_text.specs.TraceText.{trace_lines, event_line}
use Rattle.mote_run.specs.Rows.{arrivals}
use Rattle.mote_run.specs.RunText.{in_slot}

abbrev pub lines_of : ℕ → List Shown → List ℕ
lines_of number events = trace_lines (in_slot number events)

pub lines-append : (number : ℕ) (a b : List Shown) → lines_of number (a ++ b) ≡ lines_of number a ++ lines_of number b
lines-append number a b =
    ap trace_lines (map-append (λ e. (number, e)) a b) ∙ flat_map-append event_line (in_slot number a) (in_slot number b)

-- the lines of a list, one item after the other
module _ {X : Type 0} (events : List X → List Shown) (joins : (a b : List X) → events (a ++ b) ≡ events a ++ events b) (number : ℕ) (xs : List X) (i : ℕ) (d : X) (within : i < length xs) where
  longer : take (i + 1) xs ≡ take i xs ++ get_or xs i d ∷ []
  longer = let e : i + 1 ≡ suc i = omega arith in ap (λ n. take n xs) e ∙ take-suc xs i d within

  pub next_lines : lines_of number (events (take (i + 1) xs)) ≡ lines_of number (events (take i xs)) ++ lines_of number (events (get_or xs i d ∷ []))
  next_lines =
      ap (λ l. lines_of number (events l)) longer
      ∙ ap (lines_of number) (joins (take i xs) (get_or xs i d ∷ []))
      ∙ lines-append number (events (take i xs)) (events (get_or xs i d ∷ []))

  pub all_lines : (behind : List Shown) → lines_of number (events xs ++ behind)
      ≡ (lines_of number (events (take i xs)) ++ lines_of number (events (get_or xs i d ∷ []))) ++ lines_of number (events (drop (i + 1) xs) ++ behind)
  all_lines behind =
      ap (λ l. lines_of number (events l ++ behind)) (sym (take-append-drop (i + 1) xs))
      ∙ ap (λ l. lines_of number (l ++ behind)) (joins (take (i + 1) xs) (drop (i + 1) xs))
      ∙ ap (lines_of number) (append_assoc (events (take (i + 1) xs)) (events (drop (i + 1) xs)) behind)
      ∙ lines-append number (events (take (i + 1) xs)) (events (drop (i + 1) xs) ++ behind)
      ∙ ap (λ l. l ++ lines_of number (events (drop (i + 1) xs) ++ behind)) next_lines

pub events-append : (a b : List Access) → events_of (a ++ b) ≡ events_of a ++ events_of b
events-append [] b = refl
events-append (x ∷ a) b = ap (λ l. shown_of x ++ l) (events-append a b) ∙ sym (append_assoc (shown_of x) (events_of a) (events_of b))

pub arrivals-append : (a b : List Due) → arrivals (a ++ b) ≡ arrivals a ++ arrivals b
arrivals-append a b = map-append (λ (row : Due). shown.Given row.given) a b
