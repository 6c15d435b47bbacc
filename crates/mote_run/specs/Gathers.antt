-- A sink, and the text that waits to be written to it in one piece (own).
use Rattle.std.specs.Prelude.{◌≡◌, ◌≤◌, ℕ, List, ◌++◌, Result, OnOk, OnErr}
use Rattle.nm_base.specs.declared.sink.WriteFault.{WriteFault}
use Rattle.nm_base.specs.Outside.{AppendsPart, Rose, SinkSeen, appended}

pub record Gathering : Type 0 where
  pub seen : SinkSeen
  pub waiting : List ℕ

abbrev pub gathering : SinkSeen → List ℕ → Gathering
gathering seen waiting = record { seen = seen; waiting = waiting }

-- A text was put behind the one that waits: what the sink has taken more, and what waits now, are what waited and this text. Where
-- the sink failed, it has taken a part of them
pub record Gathers {A : Type 0} (r : Result A WriteFault) (old new : Gathering) (text : List ℕ) : Type 0 where
  pub ok : OnOk r ((part : List ℕ) × (new.seen.taken ≡ appended old.seen.taken part) × (part ++ new.waiting ≡ old.waiting ++ text))
  pub err : OnErr r (AppendsPart old.seen.taken new.seen.taken (old.waiting ++ text))
  pub cause : OnErr r (Rose old.seen.faults new.seen.faults)
  pub kept : old.seen.faults ≤ new.seen.faults
