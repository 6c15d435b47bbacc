use Rattle.std.proofs.Common.{◌≡◌, ◌≤◌, ℕ, ◌+◌, ◌*◌, ◌^◌, List, length, reverse, Some}
use Rattle.wire_reading.specs.Order.{Answer, Answers, ReadAll}
use Rattle.wire_reading.specs.Told.{Told}
use Rattle.wire_reading.proofs.reading.read_files.Given as goal

-- what the rest gives is what the whole gives
abbrev pub invariant-loop-need : goal.invariant-loop-need
invariant-loop-need g l =
    let o = g.O.Opener in
    let f = g.F.Files in
    record {
      same : (f.seen l.files).texts ≡ (f.seen l.fn.files).texts;
      faults : (f.seen l.fn.files).faults ≤ (f.seen l.files).faults;
      misses : (n : List ℕ) → (f.seen l.fn.files).misses n ≤ (f.seen l.files).misses n;
      whole : (told : Told) → (f.seen l.fn.files).texts ≡ Some told → (answer : Answer o.State) → ReadAll (o.Opens told) (reverse l.waiting.items) l.known (o.state l.opener) answer
          → Answers (o.Opens told) l.fn.app l.fn.main (o.state l.fn.opener) answer;
    }

abbrev pub decreases-loop-need : goal.decreases-loop-need
decreases-loop-need g l = g.O.Opener.left (g.O.Opener.state l.opener) * (2 ^ 64 + 1) + length l.waiting.items
