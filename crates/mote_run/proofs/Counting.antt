-- What a mote shows, counted slot by slot.
use Rattle.std.proofs.Common.{◌≡◌, ℕ, suc, ◌+◌, ◌<◌, ◌≤◌, false, List, [], ◌∷◌, ◌++◌, take, length, get_or, Option, arith, refl, sym, ap, subst, ◌∙◌, append-nil}
use Rattle.std.specs.Option.{option_to_list}
use Rattle.std.proofs.Math.Seq.{take-suc}
use Rattle.std.proofs.lemmas.List.{take_all}
use Rattle.mote_devices.specs.declared.shown.Due.{Due}
use Rattle.mote_devices.specs.declared.shown.Shown.{Shown}
use Rattle.mote_devices.specs.Outside.{Outside}
use Rattle.msp430_cpu.specs.declared.cpu.Stepped.{Stepped}
use Rattle.msp430_cpu.specs.Memory.{Memory}
use Rattle.msp430_cpu.specs.Exec.{Joined}
use Rattle.msp430_cpu.specs.Slots.{Running}
use Rattle.mote_bus.specs.declared.access.Access.{Access}
use Rattle.mote_bus.specs.Accesses.{shown_of, events_of}
use Rattle.mote_bus.proofs.Shows.{shows}
use Rattle.mote_run.specs.declared.totals.Totals.{Totals}
use Rattle.mote_run.specs.Rows.{arrivals}
use Rattle.mote_run.specs.Held.{Held, Follows, all_given, step_of, after_step, forgotten}
use Rattle.mote_run.specs.RunText.{shown_behind}
use Rattle.mote_run.specs.Totals.{all_counted, totals_of}
use Rattle.mote_run.proofs.Writing.{events-append}
use Rattle.mote_run.proofs.OneSlot.{next, step_events, takes_slot, is_stepped}

counted-append : (t : Totals) (a b : List Shown) → all_counted t (a ++ b) ≡ all_counted (all_counted t a) b
counted-append t [] b = refl
counted-append t (e ∷ a) b = counted-append (all_counted t (e ∷ [])) a b

-- what comes from outside does not count
rows_uncounted : (t : Totals) (rows : List Due) → all_counted t (arrivals rows) ≡ t
rows_uncounted t [] = refl
rows_uncounted t (row ∷ rows) = rows_uncounted t rows

-- the events of the accesses so far, and of one more
pub next_counted : (t sum new : Totals) (accesses : List Access) (i : ℕ) (d : Access) (shown : Option Shown) → i < length accesses
    → sum ≡ all_counted t (events_of (take i accesses)) → option_to_list shown ≡ shown_of (get_or accesses i d) → new ≡ all_counted sum (option_to_list shown)
    → new ≡ all_counted t (events_of (take (i + 1) accesses))
next_counted t sum new accesses i d shown within so_far is step =
    let x = get_or accesses i d in
    let front = events_of (take i accesses) in
    let e : i + 1 ≡ suc i = omega arith in
    step ∙ ap (all_counted sum) is
    ∙ ap (λ (s : Totals). all_counted s (shown_of x)) so_far
    ∙ sym (ap (λ n. all_counted t (events_of (take n accesses))) e
    ∙ ap (λ (l : List Access). all_counted t (events_of l)) (take-suc accesses i d within)
    ∙ ap (all_counted t) (events-append (take i accesses) (x ∷ []))
    ∙ counted-append t front (shown_of x ++ [])
    ∙ ap (all_counted (all_counted t front)) (append-nil (shown_of x)))

-- and what stands behind them all
pub last_counted : (t sum new : Totals) (accesses : List Access) (i : ℕ) (shown : Option Shown) (behind : List Shown) → length accesses ≤ i
    → sum ≡ all_counted t (events_of (take i accesses)) → option_to_list shown ≡ behind → new ≡ all_counted sum (option_to_list shown)
    → new ≡ all_counted t (events_of accesses ++ behind)
last_counted t sum new accesses i shown behind end so_far is step =
    step ∙ ap (all_counted sum) is
    ∙ ap (λ (s : Totals). all_counted s behind) so_far
    ∙ ap (λ (l : List Access). all_counted (all_counted t (events_of l)) behind) (take_all i accesses end)
    ∙ sym (counted-append t (events_of accesses) behind)

-- a step makes few accesses
few_accesses : (m : Held) → length (step_of m).after.bus.accesses ≤ 3
few_accesses m =
    let j = forgotten m.joined in
    let ports = j.bus.memory.ports in
    let k : Joined (Memory Outside) = record { cpu = j.cpu; bus = record { ram = j.bus.memory.ram; code = j.bus.memory.code; ports = record { board = ports.board; stopped = ports.stopped; shown = [] } } } in
    (shows j k (record { cpu = refl; ram = refl; code = refl; board = refl; stopped = refl }) refl).few

pub few_noted : (m m2 : Held) (accesses : List Access) → m2 ≡ after_step m (step_of m) → accesses ≡ m2.joined.bus.accesses → length accesses ≤ 3
few_noted m m2 accesses after kept =
    let same : accesses ≡ (step_of m).after.bus.accesses = kept ∙ ap (λ (x : Held). x.joined.bus.accesses) after in
    subst (λ (l : List Access). length l ≤ 3) (sym same) (few_accesses m)

-- the totals with the events of a slot
pub slot_counted : (rows : List Due) (m m1 m2 : Held) (stepped : Stepped) (accesses : List Access) (running : Running Outside) (t new : Totals)
    → m1 ≡ all_given m rows → m2 ≡ after_step m1 (step_of m1) → stepped ≡ (step_of m1).stepped → accesses ≡ m2.joined.bus.accesses
    → new ≡ all_counted t (events_of accesses ++ shown_behind stepped)
    → Follows m running → m.stopped ≡ false → t ≡ totals_of running.joined.bus.ports.shown → new ≡ totals_of (next rows running).joined.bus.ports.shown
slot_counted rows m m1 m2 stepped accesses running t new given after was kept counts f on so_far =
    let before = running.joined.bus.ports.shown in
    let events = events_of accesses ++ shown_behind stepped in
    counts
    ∙ ap (λ (s : Totals). all_counted s events) (so_far ∙ sym (rows_uncounted (totals_of before) rows))
    ∙ sym (counted-append (totals_of before) (arrivals rows) events)
    ∙ ap (all_counted (totals_of before)) (is_stepped rows m m1 m2 stepped accesses given after was kept).shows
    ∙ sym (ap totals_of (takes_slot rows m running f on).shown ∙ counted-append (totals_of []) before (step_events rows m))
