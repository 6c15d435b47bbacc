-- A line of a trace by its words. Numbers may have more zeros here than a trace has, and ports digits of either case (own).
use Rattle.std.specs.Prelude.{◌≡◌, ◌<◌, ℕ, Bool, nat_eq, if◌then◌else◌, List, [], ◌∷◌, Option, None, codes}
use Rattle.std.specs.Cmp.Lexicographic.{pointwise}
use Rattle.std.specs.Option.{option_map, option_and_then}
use Rattle.mote_devices.specs.declared.shown.Given.TheVariants.{Arrive, Unplug}
use Rattle.mote_devices.specs.declared.shown.Shown.{Shown}
use Rattle.mote_devices.specs.declared.shown.Shown.TheVariants.{Given, In, Out, Enter, Fault}
use Rattle.mote_text.specs.declared.trace.Event.{Event}
use Rattle.mote_text.specs.Lines.{numeral}
use Rattle.mote_text.specs.TraceText.{event_text}

abbrev pub is_word : List ℕ → List ℕ → Bool
is_word = pointwise nat_eq

abbrev pub shown_of_one : List ℕ → List ℕ → Option Shown
shown_of_one verb a =
    if is_word verb (codes "unplug") then option_map (λ k. Given (Unplug k)) (numeral 10 255 a)
    else (if is_word verb (codes "enter") then option_map Enter (numeral 10 255 a)
    else (if is_word verb (codes "fault") then option_map Fault (numeral 10 65535 a)
    else None))

abbrev pub shown_of_two : List ℕ → List ℕ → List ℕ → Option Shown
shown_of_two verb a b =
    if is_word verb (codes "arrive") then option_and_then (λ k. option_map (λ v. Given (Arrive k v)) (numeral 10 65535 b)) (numeral 10 255 a)
    else (if is_word verb (codes "in") then option_and_then (λ p. option_map (λ v. In p v) (numeral 10 65535 b)) (numeral 16 65535 a)
    else (if is_word verb (codes "out") then option_and_then (λ p. option_map (λ v. Out p v) (numeral 10 65535 b)) (numeral 16 65535 a)
    else None))

abbrev pub shown_of : List ℕ → List (List ℕ) → Option Shown
shown_of verb (a ∷ []) = shown_of_one verb a
shown_of verb (a ∷ b ∷ []) = shown_of_two verb a b
shown_of verb _ = None

abbrev pub event_of : List (List ℕ) → Option Event
event_of (slot ∷ verb ∷ operands) = option_and_then (λ s. option_map (λ shown. record { slot = s; shown = shown }) (shown_of verb operands)) (numeral 10 0xFFFFFFFF slot)
event_of _ = None

-- ---- events that have a text

abbrev pub IsShown : Shown → Type 0
IsShown (Given (Arrive k v)) = (k < 0x100) × (v < 0x10000)
IsShown (Given (Unplug k)) = k < 0x100
IsShown (In p v) = (p < 0x10000) × (v < 0x10000)
IsShown (Out p v) = (p < 0x10000) × (v < 0x10000)
IsShown (Enter k) = k < 0x100
IsShown (Fault c) = c < 0x10000

-- the numbers have their widths
abbrev pub IsEvent : Event → Type 0
IsEvent e = (e.slot < 0x100000000) × IsShown e.shown

-- an event is known from its line
abbrev pub LineTellsEvent : Type 0
LineTellsEvent = (d e : Event) → IsEvent d → IsEvent e → event_text d.slot d.shown ≡ event_text e.slot e.shown → d ≡ e
