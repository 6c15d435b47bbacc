-- What a run comes to: how many writes to ports and entries of handlers it shows, and the value last written, 0 where there is none (own).
use Rattle.std.specs.Prelude.{ℕ, ◌+◌, Bool, List, [], ◌∷◌, ◌++◌, codes, decimal}
use Rattle.nm_base.specs.Lists.{number_of}
use Rattle.mote_devices.specs.declared.shown.Shown.{Shown}
use Rattle.mote_devices.specs.declared.shown.Shown.TheVariants.{Out, Enter}
use Rattle.mote_run.specs.declared.totals.Totals.{Totals}

-- with one event more
abbrev pub counted : Totals → Shown → Totals
counted t (Out p v) = record { outs = t.outs + 1; enters = t.enters; last = v }
counted t (Enter k) = record { outs = t.outs; enters = t.enters + 1; last = t.last }
counted t _ = t

-- with more events, in their order
abbrev pub all_counted : Totals → List Shown → Totals
all_counted t [] = t
all_counted t (e ∷ events) = all_counted (counted t e) events

abbrev pub totals_of : List Shown → Totals
totals_of events = all_counted (record { outs = 0; enters = 0; last = 0 }) events

-- the line of a run of an application of n modules, and whether its processor is off in the end
abbrev pub summary_text : ℕ → Totals → Bool → List ℕ
summary_text n t off =
    codes "gen "
    ++ (decimal n
    ++ (codes " outs "
    ++ (decimal t.outs
    ++ (codes " enters " ++ (decimal t.enters ++ (codes " last " ++ (decimal t.last ++ (codes " off " ++ (decimal (number_of off) ++ 10 ∷ [])))))))))
